-- The list that the command line names is the one of this path.
use Rattle.std.proofs.Common.{List, Option, subst, ℕ}
use Rattle.cli_tests.specs.ScenarioTest.{IsFound}
use Rattle.cli_tests.proofs.list_test.test_list.Goals as goal

pub test_machine-requires : goal.test_machine-requires
test_machine-requires g c =
    subst (λ (path : Option (List ℕ)). IsFound (g.H.Host.text_at c.args.host.now) c.args.conditions.settings path c.args.conditions.other.now)
    (c.is_named.ensures c.if-is_named.true) c.requires
