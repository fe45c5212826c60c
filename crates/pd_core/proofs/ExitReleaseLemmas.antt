-- What a script's selectors name goes, one selector after another.
use Rattle.std.proofs.Common.{◌≡◌, ℕ, ◌<◌, ◌≤◌, Some, None, is_some, IsSome, refl, sym, ap, ◌∙◌}
use Rattle.std.specs.Option.{option_and_then}
use Rattle.std.specs.FinMap.{get, remove}
use Rattle.trade_base.specs.declared.id.DsId.{DsId}
use Rattle.own_model.specs.Call.Call.{Free, Capfree}
use Rattle.own_model.specs.OwnStep.{Outcome, freed, cap_freed}
use Rattle.own_model.proofs.NatMapLemmas.{get-remove_same, before_remove, none_at, some_of}
use Rattle.own_model.specs.Reply.{Reply}
use Rattle.cap_space.specs.declared.cap.Cap.TheVariants.{Dataspace, RpcObject}
use Rattle.dataspace_core.specs.Store.{Store}
use Rattle.pd_core.specs.declared.script.Script.{Script}
use Rattle.pd_core.specs.Does.{Does}
use Rattle.pd_core.specs.Own.{object_of, own_at, own_heap_at, part_at, sliced_at, lent_in}
use Rattle.pd_core.specs.Sound.{IsSoundScript, OthersStay, Keeps}
use Rattle.pd_core.proofs.ScriptOwnLemmas.{all_sessions, object_is, names_object, selects}

module _ {store : Store} {script : Script} (sound : IsSoundScript store script) where
  -- a script names as much as its selectors do
  names : (q : ℕ) → is_some (get (own_at all_sessions store script).selectors q) ≡ is_some (get script.caps.caps q)
  names q = selects (part_at store script) script.caps script.regions (own_heap_at store script) (sliced_at store script) sound.own all_sessions (λ s server session there. refl) q

-- a selector of a script is taken out, and no other
pub record TakesOut (s : ℕ) (before after : Script) : Type 0 where
  pub gone : get after.caps.caps s ≡ None
  pub fewer : (k : ℕ) → IsSome (get after.caps.caps k) → IsSome (get before.caps.caps k)

module _ (s : ℕ) {old new : Store} {before after : Script} (sound : IsSoundScript old before) where
  -- so it is where the model's selectors lose it
  takes_out : Keeps old before new after → (own_at all_sessions new after).selectors ≡ remove (own_at all_sessions old before).selectors s → TakesOut s before after
  takes_out kept removed =
      let was = (own_at all_sessions old before).selectors in record {
        gone = none_at after.caps.caps s (sym (names kept.sound s) ∙ ap (λ m. is_some (get m s)) removed ∙ ap is_some (get-remove_same was s s refl));
        fewer = λ k some.
            let left : IsSome (get (remove was s) k) = ap (λ m. is_some (get m k)) (sym removed) ∙ names kept.sound k ∙ some in
            let at = some_of (get (remove was s) k) left in sym (names sound k) ∙ ap is_some (before_remove was s k at.0 at.1);
      }

  -- a free takes the selector of a dataspace out
  pub free_takes_out : {reply : Reply} (ds : DsId) → get before.caps.caps s ≡ Some (Dataspace ds) → Does (Free s) reply old before new after → TakesOut s before after
  free_takes_out ds is does =
      let was = own_at all_sessions old before in
      let named = names_object (part_at old before) before.caps before.regions (own_heap_at old before) (sliced_at old before) sound.own all_sessions s ds is in
      takes_out does.keeps (ap (λ (x : Outcome). x.next.selectors) (does.outcome all_sessions (λ q server session there. refl)) ∙ ap (λ o. (freed s o was).next.selectors) named)

  -- and a capfree that of an RPC object
  pub capfree_takes_out : {reply : Reply} → get before.caps.caps s ≡ Some RpcObject → Does (Capfree s) reply old before new after → TakesOut s before after
  capfree_takes_out is does =
      let was = own_at all_sessions old before in
      let p = part_at old before in
      let named = object_is p before.caps before.regions (own_heap_at old before) (sliced_at old before) sound.own all_sessions s ∙ ap (option_and_then (object_of (lent_in old) all_sessions p)) is in
      takes_out does.keeps (ap (λ (x : Outcome). x.next.selectors) (does.outcome all_sessions (λ q server session there. refl)) ∙ ap (λ o. (cap_freed s o was).next.selectors) named)

-- ---- all selectors

-- what is left is behind so many places
pub record ReleasesTo (place : ℕ) (old : Store) (before : Script) (new : Store) (after : Script) : Type 0 where
  pub keeps : Keeps old before new after
  pub others : OthersStay before.account.0 old new
  pub behind : (selector : ℕ) → IsSome (get after.caps.caps selector) → (place < selector) × (selector ≤ before.caps.places)
