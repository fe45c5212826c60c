-- The decisions on one request more.
use Rattle.std.proofs.Common.{◌<◌, [], ◌∷◌, ◌++◌, length, subst, sym}
use Rattle.std.proofs.lemmas.Option.{slice_get_within}
use Rattle.list_reach.specs.Deciding.{AreDecisions}
use Rattle.list_reach.specs.ScriptDecisions.{AddsDecisions, Asking, IsAsking, IsDecided, asking_of}
use Rattle.list_reach.specs.declared.script_decisions.ScriptDecisions.{ScriptDecisions}
use Rattle.list_reach.proofs.AdditionLemmas.{adds_one}
use Rattle.list_reach.proofs.script_decisions.add_decisions.Goals as goal

pub returns : goal.returns
returns c =
    let list = c.args.list.now in
    let old = c.args.found.now.items in
    let asked = c.args.asked.now in
    let raw = c.asked.inside in
    let one : ScriptDecisions = record { client = raw.client; entry = raw.entry; service = raw.service; decisions = c.in_ok-decisions.decisions } in
    subst (λ items. AddsDecisions list old (asked ∷ []) items) (sym c.in_ok-push.ensures.items)
    (subst (λ (a : Asking). AddsDecisions list old (a ∷ []) (old ++ one ∷ [])) c.asked.view_is
    (adds_one asking_of (IsDecided list) old one c.requires.decided
    (record {
      within = subst (λ (a : Asking). a.client < length list.entries) (sym c.asked.view_is) (slice_get_within list.entries asked.client asked.entry c.requires.asked);
      entry = subst (λ (a : Asking). IsAsking list a) (sym c.asked.view_is) c.requires.asked;
      decisions = subst (λ service. AreDecisions list raw.client service c.in_ok-decisions.decisions) c.as_bytes.ensures.value c.in_ok-decisions.ensures;
    })))
