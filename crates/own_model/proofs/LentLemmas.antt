-- The buffer of a session among what its client's selectors name, and what a request leaves of the others.
use Rattle.std.proofs.Common.{◌≡◌, ◌≢◌, ℕ, Bool, true, false, List, Some, refl, sym, ap, ◌∙◌, eqb-true, true≢false, find, arith}
use Rattle.std.proofs.lemmas.Bool.{eq-eqb}
use Rattle.std.proofs.lemmas.Option.{same_Some}
use Rattle.std.specs.Prelude.{Option, None}
use Rattle.std.specs.Option.{option_map}
use Rattle.std.specs.FinMap.{get, entries}
use Rattle.own_model.proofs.EntryLemmas.{found_in_map, not_found_in_map, finds_in_map, finds_none_in_map}
use Rattle.own_model.proofs.NatMapLemmas.{mapped_from, nothing_from, apart_from_free, IsSome-at, get-insert_other, get-remove_other}
use Rattle.own_model.proofs.NewSelector.{new_selector_free}
use Rattle.own_model.proofs.Totals.{total-insert_new, total-insert_same, total-remove}
use Rattle.own_model.specs.NatMap.{NatMap, total}
use Rattle.own_model.specs.OwnState.{Object, NamedBuffer, is_buffer_of, named_buffer, buffer_of, new_selector}
use Rattle.own_model.specs.OwnState.Object.{Dataspace, RpcObject, OpenSession, Buffer}
use Rattle.own_model.specs.OwnStep.{selectors_lent}

-- ---- what is a session's buffer

-- what is the buffer of a session is a buffer of it
pub is_buffer : (q : ℕ) (o : Option Object) → is_buffer_of q o ≡ true → (bytes : List ℕ) × (o ≡ Some (Buffer q bytes))
is_buffer q (Some (Buffer of bytes)) is = (bytes, ap (λ k. Some (Buffer k bytes)) (eqb-true of q is))
is_buffer q (Some (Dataspace bytes)) is = absurd (true≢false (sym is))
is_buffer q (Some RpcObject) is = absurd (true≢false (sym is))
is_buffer q (Some (OpenSession session)) is = absurd (true≢false (sym is))
is_buffer q None is = absurd (true≢false (sym is))

pub buffer_is : (q : ℕ) (bytes : List ℕ) → is_buffer_of q (Some (Buffer q bytes)) ≡ true
buffer_is q bytes = eq-eqb q q refl

-- ---- the buffer that is found

module _ (q : ℕ) (m : NatMap Object) where
  abbrev is_its : ℕ × Object → Bool
  is_its e = is_buffer_of q (Some e.1)

  -- the buffer that is found is there
  pub buffer_there : (b : NamedBuffer) → buffer_of q m ≡ Some b → get m b.selector ≡ Some (Buffer q b.bytes)
  unfolding buffer_of
  buffer_there b is =
      let at = mapped_from named_buffer (find is_its (entries m)) b is in
      let e = at.0 in
      let its = found_in_map is_its m e at.1 in
      let object = is_buffer q (Some e.1) its.0 in
      let same : e.1 ≡ Buffer q object.0 = same_Some e.1 (Buffer q object.0) object.1 in
      ap (λ (c : NamedBuffer). get m c.selector) (sym at.2) ∙ its.1 ∙ object.1
      ∙ ap (λ o. Some (Buffer q (named_buffer (e.0, o)).bytes)) (sym same) ∙ ap (λ (c : NamedBuffer). Some (Buffer q c.bytes)) at.2

  -- where none is found, nothing is one
  pub no_buffer : buffer_of q m ≡ None → (k : ℕ) → is_buffer_of q (get m k) ≡ false
  unfolding buffer_of
  no_buffer none k =
      elim (get m k) as (λ o. get m k ≡ o → is_buffer_of q o ≡ false) [
        | None ↦ λ _. refl
        | Some object ↦ λ there. not_found_in_map is_its m k object (nothing_from named_buffer (find is_its (entries m)) none) there
      ] refl

  -- the only one is found
  pub only_buffer : (k : ℕ) (bytes : List ℕ) → get m k ≡ Some (Buffer q bytes) → ((j : ℕ) → is_buffer_of q (get m j) ≡ true → j ≡ k) → buffer_of q m ≡ Some (record { selector = k; bytes = bytes })
  unfolding buffer_of
  only_buffer k bytes there only =
      ap (option_map named_buffer) (finds_in_map is_its m k (Buffer q bytes) there (buffer_is q bytes) (λ j object at is. only j (ap (is_buffer_of q) at ∙ is)))

  -- and none where there is none
  pub buffer_none : ((k : ℕ) → is_buffer_of q (get m k) ≡ false) → buffer_of q m ≡ None
  unfolding buffer_of
  buffer_none none = ap (option_map named_buffer) (finds_none_in_map is_its m (λ k object there. sym (ap (is_buffer_of q) there) ∙ none k))

-- ---- what a request leaves

module _ (q : ℕ) (m : NatMap Object) where
  -- what isn't a session's buffer isn't named by its selector
  pub apart_from_buffer : (b : NamedBuffer) → buffer_of q m ≡ Some b → (k : ℕ) (object : Object) → get m k ≡ Some object → is_buffer_of q (Some object) ≡ false → k ≢ b.selector
  apart_from_buffer b found k object there other at =
      true≢false (sym (buffer_is q b.bytes) ∙ ap (is_buffer_of q) (sym (buffer_there q m b found) ∙ ap (get m) (sym at) ∙ there) ∙ other)

  -- what isn't the session's buffer stays
  pub lent_still : (old : Option NamedBuffer) (new : Option (List ℕ)) → buffer_of q m ≡ old → (k : ℕ) (object : Object) → get m k ≡ Some object → is_buffer_of q (Some object) ≡ false →
      get (selectors_lent q old new m) k ≡ Some object
  lent_still None None found k object there other = there
  lent_still None (Some bytes) found k object there other =
      get-insert_other m (new_selector m) (Buffer q bytes) k (apart_from_free m (new_selector m) k (new_selector_free m) (IsSome-at m k object there)) ∙ there
  lent_still (Some b) (Some bytes) found k object there other = get-insert_other m b.selector (Buffer q bytes) k (apart_from_buffer b found k object there other) ∙ there
  lent_still (Some b) None found k object there other = get-remove_other m b.selector k (apart_from_buffer b found k object there other) ∙ there

  -- so does a sum in which buffers count for nothing
  pub total_lent : (f : Object → ℕ) → ((of : ℕ) (bytes : List ℕ) → f (Buffer of bytes) ≡ 0) → (old : Option NamedBuffer) (new : Option (List ℕ)) → buffer_of q m ≡ old →
      total f (selectors_lent q old new m) ≡ total f m
  total_lent f free None None found = refl
  total_lent f free None (Some bytes) found = omega (arith, total-insert_new f m (new_selector m) (Buffer q bytes) (new_selector_free m), free q bytes)
  total_lent f free (Some b) (Some bytes) found = total-insert_same f m b.selector (Buffer q bytes) (Buffer q b.bytes) (buffer_there q m b found) (free q bytes ∙ sym (free q b.bytes))
  total_lent f free (Some b) None found = omega (arith, total-remove f m b.selector (Buffer q b.bytes) (buffer_there q m b found), free q b.bytes)
