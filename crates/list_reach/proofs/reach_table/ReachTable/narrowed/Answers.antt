-- Each request is that of an entry of the list.
use Rattle.std.proofs.Common.{List, arith, subst, sym}
use Rattle.std.specs.Prelude.{All}
use Rattle.std.proofs.lemmas.List.Elements.{All-contains}
use Rattle.list_reach.specs.Paths.{is_chosen}
use Rattle.list_reach.specs.ScriptDecisions.{Asking, IsAsking}
use Rattle.list_reach.proofs.AskingLemmas.{askings_are}
use Rattle.list_reach.proofs.reach_table.ReachTable.narrowed.Goals as goal

pub add_service-requires-clause-asked : goal.add_service-requires-clause-asked
add_service-requires-clause-asked c =
    let asked = c.in_ok-asked.asked in
    All-contains (IsAsking c.args.list.now) asked.items c.index.result.now
    (subst (λ (all : List Asking). All (IsAsking c.args.list.now) all) (sym c.in_ok-asked.ensures)
    (askings_are c.args.list.now (is_chosen c.args.chosen.now.from.items)))
    (c.loop-place.place, (omega (arith, c.loop-place-test.true, c.len-place-end.ensures, asked.ok.0)), sym c.index.ensures)
