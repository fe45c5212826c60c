-- A file that isn't there isn't known.
use Rattle.std.proofs.Common.{◌∙◌, Ok, refl, sym, true, true≢false}
use Rattle.cli_tests.proofs.ResultLemmas.{told_unknown}
use Rattle.cli_tests.proofs.file_presence.may_exist.Goals as goal

pub returns-in-Ok : goal.returns-in-Ok
returns-in-Ok g c = λ absent.
    told_unknown _ c.in-Ok.exists true (Ok c.in-Ok.exists) refl (λ is. true≢false (sym is ∙ absent)) c.in-Ok.ensures
