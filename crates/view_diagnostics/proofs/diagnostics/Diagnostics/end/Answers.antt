-- The end, and then all is written.
use Rattle.std.proofs.Common.{append-nil, ◌∙◌}
use Rattle.run_devices.proofs.GatheredLemmas.{told_more}
use Rattle.view_diagnostics.proofs.FrontLemmas.{output_as}
use Rattle.view_diagnostics.proofs.diagnostics.Diagnostics.end.Goals as goal

pub returns-clause-output : goal.returns-clause-output
returns-clause-output g c =
    rw (← c.self.view_is)
    (output_as _ _ _ _ _ _ _ (append-nil _ ∙ c.end_of.ensures) (told_more _ _ _ _ c.in_ok-put.ensures.told c.flush.ensures.told))
