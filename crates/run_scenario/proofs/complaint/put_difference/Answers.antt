-- The byte at which they differ, if there is one.
use Rattle.run_scenario.proofs.complaint.put_difference.Goals as goal

pub returns-in-Some-clause-output : goal.returns-in-Some-clause-output
returns-in-Some-clause-output g c =
    rw (← c.difference.ensures, c.in-Some.is) (rw (c.as_bytes.ensures.value, c.format.ensures.text) at c.put_all.ensures.output)
