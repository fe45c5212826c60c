-- What a slab's map answers, and what a change of the slab does to it.
use Rattle.std.proofs.Common.{◌≡◌, ℕ, zero, suc, cond, List, [], ◌∷◌, map, get_or, Some, is_some, IsSome, count_by, refl, sym, ap, ◌∙◌, arith, zero-add, inl, inr}
use Rattle.std.proofs.lemmas.Bool.{cases_eq}
use Rattle.std.proofs.lemmas.List.Sums.{sum_by-cons, sum_by-set}
use Rattle.std.proofs.lemmas.Option.{none-some}
use Rattle.std.specs.Prelude.{Option, None}
use Rattle.std.specs.Option.{option_map}
use Rattle.std.specs.FinMap.{get, insert, remove, empty, len}
use Rattle.std.proofs.lemmas.Iterator.Adapters.{option_map_id}
use Rattle.slab.specs.Slab.{Slab, Updates, slab_len}
use Rattle.slab.specs.Slab as slab
use Rattle.slab.proofs.SlabLemmas.{ContainsKey-within, Updates-with_value}
use Rattle.own_model.proofs.NatMapLemmas.{same, get-empty, get-insert_same, get-insert_other, get-remove_same, get-remove_other}
use Rattle.own_model.proofs.SlotLemmas.{get-held_from, len-held_from}
use Rattle.quota_core.specs.SlabMap.{map_of}

module _ {T X : Type 0} (f : T → X) where
  -- what is read of a slot
  get_or-read : (slots : List (Option T)) (k : ℕ) → get_or (map (option_map f) slots) k None ≡ option_map f (get_or slots k None)
  get_or-read [] k = refl
  get_or-read (slot ∷ rest) zero = refl
  get_or-read (slot ∷ rest) (suc k) = get_or-read rest k

  -- as many slots have a value once they are read
  count-read : (slots : List (Option T)) → count_by is_some (map (option_map f) slots) ≡ count_by is_some slots
  count-read [] = refl
  count-read (slot ∷ rest) =
      let here : is_some (option_map f slot) ≡ is_some slot = elim slot as (λ o. is_some (option_map f o) ≡ is_some o) [ None ↦ refl | Some value ↦ refl ] in
      omega (arith, count-read rest, ap {B = ℕ} (λ b. cond b 1 0) here, sum_by-cons (λ o. cond (is_some o) 1 0) (option_map f slot) (map (option_map f) rest), sum_by-cons (λ o. cond (is_some o) 1 0) slot rest)

  -- the map answers what the slab has, read by f
  pub get-map_of : (s : Slab T) (k : ℕ) → get (map_of f s) k ≡ option_map f (slab.get s k)
  unfolding map_of
  get-map_of s k = get-held_from 0 (map (option_map f) s.slots) k k (zero-add k) ∙ get_or-read s.slots k

  -- it has as many keys as the slab has values
  pub len-map_of : (s : Slab T) → len (map_of f s) ≡ slab_len s
  unfolding map_of
  len-map_of s = len-held_from 0 (map (option_map f) s.slots) ∙ count-read s.slots

  -- a slab with no slots is the empty map
  pub map_of-empty : (s : Slab T) → s.slots ≡ [] → map_of f s ≡ empty
  map_of-empty s none = same _ _ (λ q. get-map_of s q ∙ ap (λ slots. option_map f (get_or slots q None)) none ∙ sym (get-empty q))

  -- a value written at a key is inserted
  pub map_of-insert : (old new : Slab T) (key : ℕ) (value : T) → Updates old new key (Some value) → map_of f new ≡ insert (map_of f old) key (f value)
  map_of-insert old new key value updates = same _ _ (λ q.
      elim (cases_eq q key) [
        | inl here ↦ get-map_of new q ∙ ap (option_map f) (ap (slab.get new) here ∙ updates.changed) ∙ sym (get-insert_same (map_of f old) key (f value) q here)
        | inr there ↦ get-map_of new q ∙ ap (option_map f) (updates.others q there) ∙ sym (get-map_of old q) ∙ sym (get-insert_other (map_of f old) key (f value) q there)
      ])

  -- a key that is emptied is removed
  pub map_of-remove : (old new : Slab T) (key : ℕ) → Updates old new key None → map_of f new ≡ remove (map_of f old) key
  map_of-remove old new key updates = same _ _ (λ q.
      elim (cases_eq q key) [
        | inl here ↦ get-map_of new q ∙ ap (option_map f) (ap (slab.get new) here ∙ updates.changed) ∙ sym (get-remove_same (map_of f old) key q here)
        | inr there ↦ get-map_of new q ∙ ap (option_map f) (updates.others q there) ∙ sym (get-map_of old q) ∙ sym (get-remove_other (map_of f old) key q there)
      ])

  -- where the slab has a value, the map has what f reads
  pub get-map_of_at : (s : Slab T) (k : ℕ) (value : T) → slab.get s k ≡ Some value → get (map_of f s) k ≡ Some (f value)
  get-map_of_at s k value found = get-map_of s k ∙ ap (option_map f) found

  -- where the slab has nothing, nor has the map
  pub get-map_of_none : (s : Slab T) (k : ℕ) → slab.get s k ≡ None → get (map_of f s) k ≡ None
  get-map_of_none s k free = get-map_of s k ∙ ap (option_map f) free

  -- a key of the map is one of the slab
  pub ContainsKey-map_of : (s : Slab T) (k : ℕ) → IsSome (get (map_of f s) k) → slab.ContainsKey s k
  ContainsKey-map_of s k there =
      elim (slab.get s k) as (λ o. get (map_of f s) k ≡ option_map f o → IsSome o) [
        | None ↦ λ e. ap is_some (sym e) ∙ there
        | Some value ↦ λ e. refl
      ] (get-map_of s k)

  -- a value written through `get_mut` is inserted
  pub map_of-with_value : (s : Slab T) (key : ℕ) (value : T) → slab.ContainsKey s key → map_of f (slab.with_value s key value) ≡ insert (map_of f s) key (f value)
  map_of-with_value s key value present = map_of-insert s (slab.with_value s key value) key value (Updates-with_value s key value present)

module _ {T : Type 0} where
  -- a slot that is filled again counts as before
  pub slab_len-with_value : (s : Slab T) (key : ℕ) (value : T) → slab.ContainsKey s key → slab_len (slab.with_value s key value) ≡ slab_len s
  slab_len-with_value s key value present =
      let counted = sum_by-set (λ o. cond (is_some o) 1 0) s.slots key (Some value) None (ContainsKey-within s key present) in
      let filled : cond (is_some (slab.get s key)) 1 0 ≡ 1 = ap {B = ℕ} (λ b. cond b 1 0) present in
      omega (arith, counted, filled)

  -- a key that is free once another was written was free before
  pub get-with_value_none : (s : Slab T) (key other : ℕ) (value : T) → slab.ContainsKey s key → slab.get (slab.with_value s key value) other ≡ None → slab.get s other ≡ None
  get-with_value_none s key other value present free =
      let written = Updates-with_value s key value present in
      elim (cases_eq other key) [
        | inl here ↦ absurd (none-some value (sym free ∙ ap (slab.get (slab.with_value s key value)) here ∙ written.changed))
        | inr there ↦ sym (written.others other there) ∙ free
      ]

  -- a key that has a value still has one after a write
  pub ContainsKey-written : (old new : Slab T) (key other : ℕ) (value : T) → Updates old new key (Some value) → slab.ContainsKey old other → slab.ContainsKey new other
  ContainsKey-written old new key other value updates present =
      elim (cases_eq other key) [
        | inl here ↦ ap is_some (ap (slab.get new) here ∙ updates.changed)
        | inr there ↦ ap is_some (updates.others other there) ∙ present
      ]

  -- the map of the values as they are answers what the slab has
  pub get-map_of_same : (s : Slab T) (k : ℕ) → get (map_of (λ x. x) s) k ≡ slab.get s k
  get-map_of_same s k = get-map_of (λ x. x) s k ∙ option_map_id (slab.get s k)

-- what `grind` is told of a slab and its map
pub ruleset slab_maps = (get-map_of, get-map_of_same, len-map_of, map_of-empty, map_of-insert, map_of-remove, map_of-with_value)
