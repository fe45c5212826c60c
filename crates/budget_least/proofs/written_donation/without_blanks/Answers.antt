-- Without its white space.
use Rattle.std.proofs.lemmas.Str.Ascii.{trim_ascii_end_is}
use Rattle.budget_least.proofs.written_donation.without_blanks.Goals as goal

pub returns-clause-value : goal.returns-clause-value
returns-clause-value c = trim_ascii_end_is c.args.text.now c.trim_ascii_end.result.now c.trim_ascii_end.ensures.value
