-- The name of an argument that no path of the tests reads.
use Rattle.std.proofs.Common.{◌∙◌, List, ap, map, subst, ℕ}
use Rattle.std.specs.Borrow.{Bor}
use Rattle.cli_base.specs.Given.{HasUnread}
use Rattle.cli_tests.proofs.test.check_names.Goals as goal

pub returns-in-Some : goal.returns-in-Some
returns-in-Some g c = λ room.
    subst (λ (paths : List (List ℕ)). HasUnread (g.H.Host.text_at c.args.host.now) paths c.args.given.now)
    (ap (map (λ (path : Bor (List ℕ)). path.now)) c.as_slice.ensures.value ∙ c.in_ok-paths.ensures) c.in-Some.ensures
