-- The rows come after the run.
use Rattle.std.proofs.Common.{refl}
use Rattle.cli_runs.specs.RunStatus.{start_of}
use Rattle.cli_runs.specs.declared.view.RunView.TheVariants.{Accounts}
use Rattle.cli_runs.proofs.StatusLemmas.{has_status}
use Rattle.cli_runs.proofs.accounts.print_accounts.Goals as goal

pub returns-then-is_some-clause-status : goal.returns-then-is_some-clause-status
returns-then-is_some-clause-status g c = λ view.
    has_status (Accounts view) (start_of (Accounts view) c.args.input) (g.S.Source.remaining c.args.reader.now) _ _ _ _ _ (λ steps. refl) c.in_ok-ending.ensures.played c.in_ok-ending.ensures.before

pub returns-clause-status : goal.returns-clause-status
returns-clause-status g c = λ view.
    has_status (Accounts view) (start_of (Accounts view) c.args.input) (g.S.Source.remaining c.args.reader.now) _ _ _ _ _ (λ steps. refl) c.in_ok-ending.ensures.played c.in_ok-ending.ensures.before
