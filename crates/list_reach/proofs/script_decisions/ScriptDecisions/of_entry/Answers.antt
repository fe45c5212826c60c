-- The requests are those of the entry.
use Rattle.std.proofs.Common.{◌≡◌, ◌∙◌, ◌++◌, List, ap, subst, sym, true}
use Rattle.std.specs.Prelude.{All}
use Rattle.std.proofs.lemmas.Result.{IfOk-weaker}
use Rattle.own_model.specs.Listed.{services_of}
use Rattle.list_reach.specs.ScriptDecisions.{AreDecisionsOn, AreEntryDecisions, Asking, IsAsking, entry_askings}
use Rattle.list_reach.proofs.AskingLemmas.{entry_askings_are}
use Rattle.list_reach.proofs.script_decisions.ScriptDecisions.of_entry.Goals as goal

pub decisions_on-requires : goal.decisions_on-requires
decisions_on-requires c = record {
  asked =
      subst (λ (asked : List Asking). All (IsAsking c.args.list.now) asked)
      (sym (c.as_slice.ensures.value
      ∙ (c.in_ok-add_requests.ensures
      ∙ ap (λ (old : List Asking). old ++ entry_askings (services_of c.args.list.now.entries) (λ client. true) (c.args.client, c.args.entry.now)) c.new-asked.ensures.items)))
      (entry_askings_are c.args.list.now (λ client. true) (services_of c.args.list.now.entries) c.args.client c.args.entry.now c.requires.entry);
}

pub returns : goal.returns
returns c =
    IfOk-weaker c.decisions_on.result (λ found. AreDecisionsOn c.args.list.now c.as_slice.result.now found.items)
    (λ found. AreEntryDecisions c.args.list.now (c.args.client, c.args.entry.now) found.items)
    (λ found are. subst (λ (asked : List Asking). AreDecisionsOn c.args.list.now asked found.items)
    (c.as_slice.ensures.value
    ∙ (c.in_ok-add_requests.ensures
    ∙ ap (λ (old : List Asking). old ++ entry_askings (services_of c.args.list.now.entries) (λ client. true) (c.args.client, c.args.entry.now)) c.new-asked.ensures.items))
    are)
    c.decisions_on.ensures
