-- The requests are those of entries of the list.
use Rattle.std.proofs.Common.{◌≡◌, ◌∙◌, List, subst, sym}
use Rattle.std.specs.Prelude.{All}
use Rattle.std.proofs.lemmas.Result.{IfOk-weaker}
use Rattle.list_reach.specs.Paths.{is_chosen}
use Rattle.list_reach.specs.ScriptDecisions.{AreAllDecisions, AreDecisionsOn, Asking, IsAsking, askings}
use Rattle.list_reach.proofs.AskingLemmas.{askings_are}
use Rattle.list_reach.proofs.script_decisions.ScriptDecisions.all.Goals as goal

pub decisions_on-requires : goal.decisions_on-requires
decisions_on-requires c = record {
  asked =
      subst (λ (asked : List Asking). All (IsAsking c.args.list.now) asked) (sym (c.as_slice.ensures.value ∙ c.in_ok-asked.ensures))
      (askings_are c.args.list.now (is_chosen c.args.chosen.now.from.items));
}

pub returns : goal.returns
returns c =
    IfOk-weaker c.decisions_on.result (λ found. AreDecisionsOn c.args.list.now c.as_slice.result.now found.items)
    (λ found. AreAllDecisions c.args.list.now (is_chosen c.args.chosen.now.from.items) found.items)
    (λ found are. subst (λ (asked : List Asking). AreDecisionsOn c.args.list.now asked found.items) (c.as_slice.ensures.value ∙ c.in_ok-asked.ensures) are)
    c.decisions_on.ensures
