-- A text that is read whole, or a file that is too long.
use Rattle.std.proofs.Common.{subst, sym}
use Rattle.cli_base.specs.Files.{IsTextAt}
use Rattle.cli_runs.proofs.CommandLemmas.{long_ran, whole_ran}
use Rattle.cli_runs.proofs.run_request.run_on.Goals as goal

pub returns-in-Some : goal.returns-in-Some
returns-in-Some g c =
    let texts = g.H.Host.text_at c.args.host.now in
    let read = rw c.in-Some.is at c.in-Ok.ensures.text in
    whole_ran texts c.args.machine.now c.args.request c.deref.result.now c.run_text.result
    (subst (λ t. IsTextAt texts c.args.request.scenario.now t) (sym c.deref.ensures.value) read) c.run_text.ensures

pub returns-in-None : goal.returns-in-None
returns-in-None g c =
    long_ran (g.H.Host.text_at c.args.host.now) c.args.machine.now c.args.request c.run_long.result c.run_long.ensures
