-- What a finite map from numbers answers: after a change, where it is picked from another, and by induction on its insertions.
use Rattle.std.proofs.Common.{◌≡◌, ℕ, ◌≢◌, ◌⊎◌, Bool, true, false, cond, eqb, ◌&&◌, T, List, [], ◌∷◌, is_some, IsSome, Some, refl, sym, ap, subst, ◌∙◌, eqb-true, true≢false, nat_cmp, is_eq, is_lt, Ordering, Less, Equal, Greater, arith}
use Rattle.std.proofs.lemmas.Bool.{cases_eq, eqb-false}
use Rattle.std.proofs.lemmas.Bool.Decides.{nat_tests}
use Rattle.std.proofs.lemmas.Option.{none-some, same_Some}
use Rattle.std.proofs.lemmas.List.{nil_from_length}
use Rattle.std.specs.Prelude.{Option, None}
use Rattle.std.specs.Option.{option_map, option_and_then, option_or}
use Rattle.std.specs.Ordering.{eq_by_cmp}
use Rattle.std.specs.List.{filter_map, cons_option}
use Rattle.std.specs.Cmp.{nat_cmp_total, unsigned_tied}
use Rattle.std.specs.FinMap as map
use Rattle.std.specs.FinMap.{get, insert, remove, empty, entries, from_entries, entries_sorted, get-entries, find, is_sorted, nat_cmp-IsAntisymmetric}
use Rattle.std.specs.FinMap.Entries.{below_all}
use Rattle.own_model.specs.NatMap.{NatMap, picked}

-- ---- what a changed map answers

-- nothing is in the empty map
pub get-empty : {X : Type 0} (q : ℕ) → get {X = X} (empty {R = nat_cmp}) q ≡ None
get-empty q = map.get-empty nat_cmp q

-- nor has it entries
pub entries-empty : {X : Type 0} → entries (empty {X = X} {R = nat_cmp}) ≡ []
entries-empty {X} = nil_from_length _ (sym (map.len-entries empty) ∙ map.len-empty nat_cmp X)

module _ {X : Type 0} where
  -- the new value at its key, and elsewhere what was there
  pub get-insert : (m : NatMap X) (k : ℕ) (v : X) (q : ℕ) → get (insert m k v) q ≡ cond (eqb q k) (Some v) (get m q)
  get-insert m k v q = rw (← unsigned_tied q k) (map.get-insert nat_cmp_total m k v q)

  -- nothing at the key, and elsewhere what was there
  pub get-remove : (m : NatMap X) (k q : ℕ) → get (remove m k) q ≡ cond (eqb q k) None (get m q)
  get-remove m k q = rw (← unsigned_tied q k) (map.get-remove nat_cmp_total m k q)

  -- the same in two parts: at the key itself
  pub get-insert_same : (m : NatMap X) (k : ℕ) (v : X) (q : ℕ) → q ≡ k → get (insert m k v) q ≡ Some v
  get-insert_same m k v q e = grind (arith, nat_tests, get-insert m k v q)

  -- and at another key
  pub get-insert_other : (m : NatMap X) (k : ℕ) (v : X) (q : ℕ) → q ≢ k → get (insert m k v) q ≡ get m q
  get-insert_other m k v q apart = grind (arith, nat_tests, get-insert m k v q)

  -- the same in two parts: at the key itself
  pub get-remove_same : (m : NatMap X) (k q : ℕ) → q ≡ k → get (remove m k) q ≡ None
  get-remove_same m k q e = grind (arith, nat_tests, get-remove m k q)

  -- and at another key
  pub get-remove_other : (m : NatMap X) (k q : ℕ) → q ≢ k → get (remove m k) q ≡ get m q
  get-remove_other m k q apart = grind (arith, nat_tests, get-remove m k q)

-- what a function tells of what is under a key it tells after a change at a key of which it tells the same as before
module _ {X Y : Type 0} (f : Option X → Y) (m : NatMap X) (k : ℕ) where
  pub alike_insert : (v : X) → f (Some v) ≡ f (get m k) → (q : ℕ) → f (get (insert m k v) q) ≡ f (get m q)
  alike_insert v same q = elim (eqb q k) as (λ b. eqb q k ≡ b → f (get (insert m k v) q) ≡ f (get m q)) [
    | true ↦ λ at. ap f (get-insert_same m k v q (eqb-true q k at)) ∙ same ∙ ap (λ j. f (get m j)) (sym (eqb-true q k at))
    | false ↦ λ other. ap f (get-insert_other m k v q (eqb-false q k other))
  ] refl

  pub alike_remove : f None ≡ f (get m k) → (q : ℕ) → f (get (remove m k) q) ≡ f (get m q)
  alike_remove same q = elim (eqb q k) as (λ b. eqb q k ≡ b → f (get (remove m k) q) ≡ f (get m q)) [
    | true ↦ λ at. ap f (get-remove_same m k q (eqb-true q k at)) ∙ same ∙ ap (λ j. f (get m j)) (sym (eqb-true q k at))
    | false ↦ λ other. ap f (get-remove_other m k q (eqb-false q k other))
  ] refl

-- nothing is in a map that is empty
pub none_in_empty : {X : Type 0} (m : NatMap X) → m ≡ empty → (q : ℕ) (w : X) → get m q ≡ Some w → ⊥
none_in_empty m none q w there = none-some w (sym (ap (λ n. get n q) none ∙ get-empty q) ∙ there)

-- an option without a value is none
pub none_of : {X : Type 0} (o : Option X) → is_some o ≡ false → o ≡ None
none_of None h = refl
none_of (Some v) h = absurd (true≢false h)

-- what can't be there is none
pub none_if : {X : Type 0} (o : Option X) → ((v : X) → o ≡ Some v → ⊥) → o ≡ None
none_if None h = refl
none_if (Some v) h = absurd (h v refl)

-- what an option that is there has
pub some_of : {X : Type 0} (o : Option X) → IsSome o → (v : X) × (o ≡ Some v)
some_of None h = absurd (true≢false (sym h))
some_of (Some v) h = (v, refl)

-- what is answered for an option is of what it has
pub mapped_from : {X Y : Type 0} (f : X → Y) (o : Option X) (y : Y) → option_map f o ≡ Some y → (x : X) × (o ≡ Some x) × (f x ≡ y)
mapped_from f None y is = absurd (none-some y is)
mapped_from f (Some x) y is = (x, refl, same_Some (f x) y is)

-- where nothing is answered there is nothing
pub nothing_from : {X Y : Type 0} (f : X → Y) (o : Option X) → option_map f o ≡ None → o ≡ None
nothing_from f None is = refl
nothing_from f (Some x) is = absurd (none-some (f x) (sym is))

module _ {X : Type 0} (m : NatMap X) (k : ℕ) (v : X) where
  -- what a map has after an insertion is the new value, or was there before
  pub after_insert : (q : ℕ) (w : X) → get (insert m k v) q ≡ Some w → ((q ≡ k) × (w ≡ v)) ⊎ ((q ≢ k) × (get m q ≡ Some w))
  after_insert q w there = grind (arith, nat_tests, cases_eq, same_Some, get-insert_same, get-insert_other)

  -- what holds of each value, and of the new one, holds of each after the insertion
  pub each_after_insert : (P : ℕ → X → Type 0) → ((q : ℕ) (w : X) → get m q ≡ Some w → P q w) → P k v → (q : ℕ) (w : X) → get (insert m k v) q ≡ Some w → P q w
  each_after_insert P each here q w there = grind (arith, nat_tests, after_insert)

-- the equations by which `grind` reads a map
pub ruleset natmaps = (nat_tests, get-empty, get-insert, get-remove)

-- ---- maps that answer alike are equal

module _ {X : Type 0} where
  -- maps that answer alike at each key are equal
  pub same : (m n : NatMap X) → ((q : ℕ) → get m q ≡ get n q) → m ≡ n
  same m n alike = map.same_map nat_cmp_total nat_cmp-IsAntisymmetric m n alike

  -- a removal at the key does not matter to what is inserted
  pub insert-remove : (m : NatMap X) (k : ℕ) (v : X) → insert (remove m k) k v ≡ insert m k v
  insert-remove m k v = same _ _ (λ q. grind (arith, natmaps))

  -- to remove at a free key changes nothing
  pub remove_free : (m : NatMap X) (k : ℕ) → get m k ≡ None → remove m k ≡ m
  remove_free m k free = same _ _ (λ q. grind (arith, natmaps))

  -- to insert what is there changes nothing
  pub insert_back : (m : NatMap X) (k : ℕ) (v : X) → get m k ≡ Some v → insert m k v ≡ m
  insert_back m k v there = same _ _ (λ q. grind (arith, natmaps))

-- ---- a map is its insertions

-- two tests that pass together pass each
pub both_parts : (a b : Bool) → T (a && b) → T a × T b
both_parts true b h = (tt, h)
both_parts false b h = absurd h

-- the order that is told by the test
pub is_less : (o : Ordering) → T (is_lt o) → o ≡ Less
is_less Less h = refl
is_less Equal h = absurd h
is_less Greater h = absurd h

module _ {X : Type 0} where
  -- a key below all others is none of them
  pub none_below : (k : ℕ) (es : List (ℕ × X)) → T (below_all nat_cmp k es) → find nat_cmp k es ≡ None
  none_below k [] h = refl
  none_below k (e ∷ es) h = ap (λ o. cond (is_eq o) (Some e.1) (find nat_cmp k es)) (is_less (nat_cmp k e.0) (both_parts _ _ h).0) ∙ none_below k es (both_parts _ _ h).1

  -- the insertions of its entries make the map
  pub from_entries-entries : (m : NatMap X) → from_entries {R = nat_cmp} (entries m) ≡ m
  from_entries-entries m = same _ _ (λ q. map.get-from_entries nat_cmp_total (entries m) q ∙ sym (get-entries m q))

  module _ (P : NatMap X → Type 0) (none : P empty) (more : (m : NatMap X) (k : ℕ) (v : X) → get m k ≡ None → P m → P (insert m k v)) where
    -- what holds of none and stays with each free key filled holds of the map of sorted entries
    along : (es : List (ℕ × X)) → T (is_sorted nat_cmp es) → P (from_entries es)
    along [] h = none
    along (e ∷ es) h = more (from_entries es) e.0 e.1 (map.get-from_entries nat_cmp_total es e.0 ∙ none_below e.0 es (both_parts _ _ h).0) (along es (both_parts _ _ h).1)

    -- what holds of the empty map, and stays when a free key is filled, holds of each map
    pub by_insertions : (m : NatMap X) → P m
    by_insertions m = subst P (from_entries-entries m) (along (entries m) (entries_sorted m))

-- ---- picked

-- an entry with what f answers for its value, if f answers
abbrev entry_of : {X Y : Type 0} → (X → Option Y) → ℕ × X → Option (ℕ × Y)
entry_of f e = option_map (λ y. (e.0, y)) (f e.1)

-- an option, or else nothing, is that option
or_none : {Y : Type 0} (o p : Option Y) → p ≡ None → option_or o p ≡ o
or_none None p e = e
or_none (Some y) p e = refl

-- an entry that may stand in front answers at its own key, and else the others answer
find-cons_option : {Y : Type 0} (q k : ℕ) (o : Option Y) (es : List (ℕ × Y)) → find nat_cmp q (cons_option (option_map (λ y. (k, y)) o) es) ≡ cond (eq_by_cmp nat_cmp q k) (option_or o (find nat_cmp q es)) (find nat_cmp q es)
find-cons_option q k (Some y) es = refl
find-cons_option q k None es = elim (eq_by_cmp nat_cmp q k) as (λ b. find nat_cmp q es ≡ cond b (find nat_cmp q es) (find nat_cmp q es)) [ true ↦ refl | false ↦ refl ]

-- entries whose keys are all above a key have nothing under it
find_ended : {X : Type 0} (q k : ℕ) (es : List (ℕ × X)) → T (below_all nat_cmp k es) → eqb q k ≡ true → find nat_cmp q es ≡ None
find_ended q k es h e = rw (eqb-true q k e) (none_below k es h)

-- what is answered for an option is answered for what it has
pub and_then_from : {X Y : Type 0} (f : X → Option Y) (o : Option X) (y : Y) → option_and_then f o ≡ Some y → (v : X) × (o ≡ Some v) × (f v ≡ Some y)
and_then_from f None y is = absurd (none-some y is)
and_then_from f (Some v) y is = (v, refl, is)

module _ {X Y : Type 0} where
  -- what is picked of sorted entries has under each key f of what they have there
  find-filter_map : (f : X → Option Y) (q : ℕ) (es : List (ℕ × X)) → T (is_sorted nat_cmp es) → find nat_cmp q (filter_map (entry_of f) es) ≡ option_and_then f (find nat_cmp q es)
  find-filter_map f q [] h = refl
  find-filter_map f q (e ∷ es) h =
      let parts = both_parts _ _ h in
      let rest = find-filter_map f q es parts.1 in
      find-cons_option q e.0 (f e.1) (filter_map (entry_of f) es)
      ∙ elim (eq_by_cmp nat_cmp q e.0) as (λ b. eq_by_cmp nat_cmp q e.0 ≡ b → cond b (option_or (f e.1) (find nat_cmp q (filter_map (entry_of f) es))) (find nat_cmp q (filter_map (entry_of f) es)) ≡ option_and_then f (cond b (Some e.1) (find nat_cmp q es))) [
        | true ↦ λ t. or_none (f e.1) _ (rest ∙ ap (option_and_then f) (find_ended q e.0 es parts.0 (sym (unsigned_tied q e.0) ∙ t)))
        | false ↦ λ t. rest
      ] refl

  -- f of what the map has
  pub get-picked : (f : X → Option Y) (m : NatMap X) (q : ℕ) → get (picked f m) q ≡ option_and_then f (get m q)
  unfolding picked
  get-picked f m q = cc (map.get-from_entries nat_cmp_total (filter_map (entry_of f) (entries m)) q, find-filter_map f q (entries m) (entries_sorted m), ap (option_and_then f) (sym (get-entries m q)))

  -- functions that agree on what an option has answer alike for it
  pub and_then_alike : (f g : X → Option Y) (o : Option X) → ((x : X) → o ≡ Some x → f x ≡ g x) → option_and_then f o ≡ option_and_then g o
  and_then_alike f g None alike = refl
  and_then_alike f g (Some x) alike = alike x refl

  -- the same is picked of two maps where each key answers alike
  pub picked_same : (f g : X → Option Y) (m n : NatMap X) → ((q : ℕ) → option_and_then f (get m q) ≡ option_and_then g (get n q)) → picked f m ≡ picked g n
  picked_same f g m n alike = same _ _ (λ q. get-picked f m q ∙ alike q ∙ sym (get-picked g n q))

  -- the same is picked by functions that agree on what the map has
  pub picked_alike : (f g : X → Option Y) (m : NatMap X) → ((q : ℕ) (x : X) → get m q ≡ Some x → f x ≡ g x) → picked f m ≡ picked g m
  picked_alike f g m alike = picked_same f g m m (λ q. and_then_alike f g (get m q) (alike q))

  -- nothing is picked of the empty map
  pub picked-empty : (f : X → Option Y) → picked f empty ≡ empty
  picked-empty f = same _ _ (λ q. get-picked f empty q ∙ ap (option_and_then f) (get-empty q) ∙ sym (get-empty q))

  -- f of a choice of two is the choice of f of each
  and_then-cond : (f : X → Option Y) (b : Bool) (o p : Option X) → option_and_then f (cond b o p) ≡ cond b (option_and_then f o) (option_and_then f p)
  and_then-cond f true o p = refl
  and_then-cond f false o p = refl

  -- after an insertion: f of the new value at its key, and elsewhere what was picked
  pub get-picked_insert : (f : X → Option Y) (m : NatMap X) (k : ℕ) (v : X) (q : ℕ) → get (picked f (insert m k v)) q ≡ cond (eqb q k) (f v) (get (picked f m) q)
  get-picked_insert f m k v q = grind (arith, nat_tests, get-picked, get-insert, and_then-cond)

  -- after a removal: nothing at the key, and elsewhere what was picked
  pub get-picked_remove : (f : X → Option Y) (m : NatMap X) (k q : ℕ) → get (picked f (remove m k)) q ≡ cond (eqb q k) None (get (picked f m) q)
  get-picked_remove f m k q = grind (arith, nat_tests, get-picked, get-remove, and_then-cond)

  -- what f answers is inserted
  pub picked-insert_some : (f : X → Option Y) (m : NatMap X) (k : ℕ) (v : X) (y : Y) → f v ≡ Some y → picked f (insert m k v) ≡ insert (picked f m) k y
  picked-insert_some f m k v y e = same _ _ (λ q. grind (arith, natmaps, get-picked_insert f m k v q))

  -- what f does not answer is removed
  pub picked-insert_none : (f : X → Option Y) (m : NatMap X) (k : ℕ) (v : X) → f v ≡ None → picked f (insert m k v) ≡ remove (picked f m) k
  picked-insert_none f m k v e = same _ _ (λ q. grind (arith, natmaps, get-picked_insert f m k v q))

  -- what f does not answer changes nothing where f answered nothing
  pub picked-insert_hidden : (f : X → Option Y) (m : NatMap X) (k : ℕ) (v : X) → f v ≡ None → get (picked f m) k ≡ None → picked f (insert m k v) ≡ picked f m
  picked-insert_hidden f m k v e free = picked-insert_none f m k v e ∙ remove_free (picked f m) k free

  -- where f answers for the new value as for the old one nothing changes
  pub picked-insert_alike : (f : X → Option Y) (m : NatMap X) (k : ℕ) (v : X) → f v ≡ get (picked f m) k → picked f (insert m k v) ≡ picked f m
  picked-insert_alike f m k v e = same _ _ (λ q. grind (arith, natmaps, get-picked_insert f m k v q))

  -- what is removed is no longer picked
  pub picked-remove : (f : X → Option Y) (m : NatMap X) (k : ℕ) → picked f (remove m k) ≡ remove (picked f m) k
  picked-remove f m k = same _ _ (λ q. grind (arith, natmaps, get-picked_remove f m k q))

  -- to remove what f does not answer changes nothing
  pub picked-remove_hidden : (f : X → Option Y) (m : NatMap X) (k : ℕ) → get (picked f m) k ≡ None → picked f (remove m k) ≡ picked f m
  picked-remove_hidden f m k free = picked-remove f m k ∙ remove_free (picked f m) k free

  -- a key that is free stays free
  pub get-picked_none : (f : X → Option Y) (m : NatMap X) (q : ℕ) → get m q ≡ None → get (picked f m) q ≡ None
  get-picked_none f m q free = get-picked f m q ∙ ap (option_and_then f) free

  -- a key that is filled has what f answers
  pub get-picked_at : (f : X → Option Y) (m : NatMap X) (q : ℕ) (v : X) → get m q ≡ Some v → get (picked f m) q ≡ f v
  get-picked_at f m q v there = get-picked f m q ∙ ap (option_and_then f) there

-- the equations by which `grind` reads a picked map
pub ruleset picks = (natmaps, get-picked, get-picked_insert, get-picked_remove)

-- ---- whether a key is there

module _ {X : Type 0} where
  -- a key that was filled is there
  pub IsSome-insert_same : (m : NatMap X) (k : ℕ) (v : X) (q : ℕ) → q ≡ k → IsSome (get (insert m k v) q)
  IsSome-insert_same m k v q e = ap is_some (get-insert_same m k v q e)

  -- a key that was there stays
  pub IsSome-insert : (m : NatMap X) (k : ℕ) (v : X) (q : ℕ) → IsSome (get m q) → IsSome (get (insert m k v) q)
  IsSome-insert m k v q there = grind (arith, natmaps)

  -- a key that is there has a value
  pub value_at : (m : NatMap X) (q : ℕ) → IsSome (get m q) → (v : X) × (get m q ≡ Some v)
  value_at m q there = some_of (get m q) there

  -- a key that has a value is there
  pub IsSome-at : (m : NatMap X) (q : ℕ) (v : X) → get m q ≡ Some v → IsSome (get m q)
  IsSome-at m q v there = ap is_some there

  -- a key that is not there has nothing
  pub none_at : (m : NatMap X) (q : ℕ) → is_some (get m q) ≡ false → get m q ≡ None
  none_at m q h = none_of (get m q) h

  -- a key that is there and one that is free differ
  pub apart_from_free : (m : NatMap X) (k q : ℕ) → get m k ≡ None → IsSome (get m q) → q ≢ k
  apart_from_free m k q free there e = absurd (true≢false (sym there ∙ ap (λ j. is_some (get m j)) e ∙ ap is_some free))

  -- what is there after a removal was there before
  pub before_remove : (m : NatMap X) (k q : ℕ) (w : X) → get (remove m k) q ≡ Some w → get m q ≡ Some w
  before_remove m k q w there = grind (arith, natmaps)
