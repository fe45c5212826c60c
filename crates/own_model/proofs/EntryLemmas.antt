-- A search by a test among entries whose keys differ, and in a finite map.
use Rattle.std.proofs.Common.{rules, ◌≡◌, ℕ, Bool, true, false, cond, eqb, ◌||◌, T, List, [], ◌∷◌, is_some, Some, refl, sym, ap, subst, ◌∙◌, eqb-true, true≢false, nat_cmp, map, length, is_lt, ◌&&◌, ◌++◌, arith}
use Rattle.std.proofs.lemmas.Bool.Decides.{nat_tests}
use Rattle.std.proofs.lemmas.Bool.{eq-eqb}
use Rattle.std.proofs.lemmas.Option.{none-some, same_Some}
use Rattle.std.specs.Prelude.{None}
use Rattle.std.specs.Cmp.{unsigned_tied, nat_cmp_total}
use Rattle.std.specs.List.{find, list_any}
use Rattle.std.specs.Option.{option_map, option_or}
use Rattle.std.specs.Ordering.{eq_by_cmp}
use Rattle.std.specs.FinMap.{get, entries, entries_sorted, get-entries, is_sorted, len, len-entries, nat_cmp-IsAntisymmetric}
use Rattle.std.specs.FinMap.Entries.{below_all, same_entries}
use Rattle.std.proofs.lemmas.List.{length-map}
use Rattle.own_model.specs.NatMap.{NatMap}
use Rattle.own_model.proofs.NatMapLemmas.{both_parts, none_below}
pub use Rattle.own_model.specs.Entries.{value_of, KeysDiffer}

module _ {X : Type 0} where
  -- under a key is the first entry's value, if that has the key, or else what later entries have
  pub value_of-cons : (q : ℕ) (e : ℕ × X) (es : List (ℕ × X)) → value_of q (e ∷ es) ≡ cond (eqb q e.0) (Some e.1) (value_of q es)
  value_of-cons q e es = ap (λ b. cond b (Some e.1) (value_of q es)) (unsigned_tied q e.0)

  -- under the first entry's key is its value
  pub value_of_first : (q : ℕ) (e : ℕ × X) (es : List (ℕ × X)) → eqb q e.0 ≡ true → value_of q (e ∷ es) ≡ Some e.1
  value_of_first q e es t = value_of-cons q e es ∙ ap (λ b. cond b (Some e.1) (value_of q es)) t

  -- under another key is what later entries have
  pub value_of_later : (q : ℕ) (e : ℕ × X) (es : List (ℕ × X)) → eqb q e.0 ≡ false → value_of q (e ∷ es) ≡ value_of q es
  value_of_later q e es t = value_of-cons q e es ∙ ap (λ b. cond b (Some e.1) (value_of q es)) t

  -- keys that rise differ
  pub KeysDiffer-sorted : (es : List (ℕ × X)) → T (is_sorted nat_cmp es) → KeysDiffer es
  KeysDiffer-sorted [] h = tt
  KeysDiffer-sorted (e ∷ es) h = (none_below e.0 es (both_parts _ _ h).0, KeysDiffer-sorted es (both_parts _ _ h).1)

  -- a key that only later entries have is not the first one's
  later_key : (k : ℕ) (v : X) (e : ℕ × X) (es : List (ℕ × X)) → value_of e.0 es ≡ None → value_of k es ≡ Some v → eqb k e.0 ≡ false
  later_key k v e es free there = search (rules, none-some, eqb-true)

  -- what later entries have under a key, all have
  pub later_value : (k : ℕ) (v : X) (e : ℕ × X) (es : List (ℕ × X)) → value_of e.0 es ≡ None → value_of k es ≡ Some v → value_of k (e ∷ es) ≡ Some v
  later_value k v e es free there = value_of_later k e es (later_key k v e es free there) ∙ there

  module _ (test : ℕ × X → Bool) where
    -- what is found passes, and stands under its key
    pub found : (es : List (ℕ × X)) (e : ℕ × X) → KeysDiffer es → find test es ≡ Some e → (test e ≡ true) × (value_of e.0 es ≡ Some e.1)
    found [] e differ is = absurd (none-some e is)
    found (x ∷ es) e differ is =
        elim (test x) as (λ b. test x ≡ b → cond b (Some x) (find test es) ≡ Some e → (test e ≡ true) × (value_of e.0 (x ∷ es) ≡ Some e.1)) [
          | true ↦ λ t here. subst (λ (y : ℕ × X). (test y ≡ true) × (value_of y.0 (x ∷ es) ≡ Some y.1)) (same_Some x e here) (t, value_of_first x.0 x es (eq-eqb x.0 x.0 refl))
          | false ↦ λ t later.
              let rest = found es e differ.1 later in
              (rest.0, later_value e.0 e.1 x es differ.0 rest.1)
        ] refl is

    -- where nothing is found, nothing passes
    pub not_found : (es : List (ℕ × X)) (k : ℕ) (v : X) → find test es ≡ None → value_of k es ≡ Some v → test (k, v) ≡ false
    not_found [] k v is there = absurd (none-some v there)
    not_found (x ∷ es) k v is there =
        elim (test x) as (λ b. test x ≡ b → cond b (Some x) (find test es) ≡ None → test (k, v) ≡ false) [
          | true ↦ λ t some. absurd (none-some x (sym some))
          | false ↦ λ t none.
              elim (eqb k x.0) as (λ b. eqb k x.0 ≡ b → test (k, v) ≡ false) [
                | true ↦ λ same.
                    let key : k ≡ x.0 = eqb-true k x.0 same in
                    let value : v ≡ x.1 = sym (same_Some x.1 v (sym (value_of_first k x es same) ∙ there)) in
                    let entry : ◌≡◌ {A = ℕ × X} (k, v) x = λ i. (key i, value i) in
                    ap test entry ∙ t
                | false ↦ λ other. not_found es k v none (sym (value_of_later k x es other) ∙ there)
              ] refl
        ] refl is

    -- where nothing passes, nothing is found
    pub finds_none : (es : List (ℕ × X)) → KeysDiffer es → ((k : ℕ) (v : X) → value_of k es ≡ Some v → test (k, v) ≡ false) → find test es ≡ None
    finds_none [] differ fails = refl
    finds_none (x ∷ es) differ fails =
        ap (λ b. cond b (Some x) (find test es)) (fails x.0 x.1 (value_of_first x.0 x es (eq-eqb x.0 x.0 refl)))
        ∙ finds_none es differ.1 (λ k v there. fails k v (later_value k v x es differ.0 there))

    -- some element passes where one is found
    pub list_any-find : (es : List (ℕ × X)) → list_any test es ≡ is_some (find test es)
    list_any-find [] = refl
    list_any-find (x ∷ es) = elim (test x) as (λ b. (b || list_any test es) ≡ is_some (cond b (Some x) (find test es))) [ true ↦ refl | false ↦ list_any-find es ]

    -- ---- the same of a map's entries

    -- an entry that is found passes, and the map has it
    pub found_in_map : (m : NatMap X) (e : ℕ × X) → find test (entries m) ≡ Some e → (test e ≡ true) × (get m e.0 ≡ Some e.1)
    found_in_map m e is = let at = found (entries m) e (KeysDiffer-sorted (entries m) (entries_sorted m)) is in (at.0, get-entries m e.0 ∙ at.1)

    -- where nothing is found, nothing that the map has passes
    pub not_found_in_map : (m : NatMap X) (k : ℕ) (v : X) → find test (entries m) ≡ None → get m k ≡ Some v → test (k, v) ≡ false
    not_found_in_map m k v is there = not_found (entries m) k v is (sym (get-entries m k) ∙ there)

    -- where nothing that the map has passes, nothing is found
    pub finds_none_in_map : (m : NatMap X) → ((k : ℕ) (v : X) → get m k ≡ Some v → test (k, v) ≡ false) → find test (entries m) ≡ None
    finds_none_in_map m fails = cc (finds_none (entries m) (KeysDiffer-sorted (entries m) (entries_sorted m)) (λ k v there. fails k v (get-entries m k ∙ there)))

    -- the only entry that passes is found
    pub finds_in_map : (m : NatMap X) (k : ℕ) (v : X) → get m k ≡ Some v → test (k, v) ≡ true → ((j : ℕ) (w : X) → get m j ≡ Some w → test (j, w) ≡ true → j ≡ k) → find test (entries m) ≡ Some (k, v)
    finds_in_map m k v there passes only =
        elim (find test (entries m)) as (λ o. find test (entries m) ≡ o → o ≡ Some (k, v)) [
          | None ↦ λ is. absurd (true≢false (sym passes ∙ not_found_in_map m k v is there))
          | Some e ↦ λ is.
              let at = found_in_map m e is in
              let key : e.0 ≡ k = only e.0 e.1 at.1 at.0 in
              let value : e.1 ≡ v = same_Some e.1 v (sym at.1 ∙ ap (get m) key ∙ there) in
              let entry : ◌≡◌ {A = ℕ × X} e (k, v) = λ i. (key i, value i) in
              ap (λ y. Some y) entry
        ] refl

-- ---- entries one after another

-- the value under a key of two lists of entries is the first's, if that has one
pub value_of-append : {X : Type 0} (q : ℕ) (xs ys : List (ℕ × X)) → value_of q (xs ++ ys) ≡ option_or (value_of q xs) (value_of q ys)
value_of-append q [] ys = refl
value_of-append q (x ∷ xs) ys = grind (arith, nat_tests, value_of-cons, value_of-append q xs ys)

-- a key that entries haven't isn't the first one's
apart_key : {X : Type 0} (k : ℕ) (e : ℕ × X) (es : List (ℕ × X)) → value_of k (e ∷ es) ≡ None → eqb k e.0 ≡ false
apart_key k e es free = search (rules, none-some, value_of_first)

-- entries whose keys differ and one with a new key
pub KeysDiffer-append : {X : Type 0} (es : List (ℕ × X)) (k : ℕ) (v : X) → KeysDiffer es → value_of k es ≡ None → KeysDiffer (es ++ (k, v) ∷ [])
KeysDiffer-append [] k v differ free = (refl, tt)
KeysDiffer-append (e ∷ es) k v differ free =
    let first : eqb k e.0 ≡ false = apart_key k e es free in
    let rest : value_of k es ≡ None = sym (value_of_later k e es first) ∙ free in
    let other : eqb e.0 k ≡ false = grind (arith, nat_tests) in (
      value_of-append e.0 es ((k, v) ∷ []) ∙ ap (λ o. option_or o (value_of e.0 ((k, v) ∷ []))) differ.0 ∙ value_of_later e.0 (k, v) [] other,
      KeysDiffer-append es k v differ.1 rest,
    )

-- ---- entries by their keys and the sizes of their values

module _ {X : Type 0} (size : X → ℕ) where
  -- a key, and the size of its value
  abbrev pub sized : ℕ × X → ℕ × ℕ
  sized e = (e.0, size e.1)

  -- a key is below all sizes where it is below all of their entries
  below_all-sized : (k : ℕ) (es : List (ℕ × X)) → below_all nat_cmp k (map sized es) ≡ below_all nat_cmp k es
  below_all-sized k [] = refl
  below_all-sized k (e ∷ es) = ap (λ b. is_lt (nat_cmp k e.0) && b) (below_all-sized k es)

  -- sizes rise where their entries do
  is_sorted-sized : (es : List (ℕ × X)) → is_sorted nat_cmp (map sized es) ≡ is_sorted nat_cmp es
  is_sorted-sized [] = refl
  is_sorted-sized (e ∷ es) = ap (λ b. b && is_sorted nat_cmp (map sized es)) (below_all-sized e.0 es) ∙ ap (λ b. below_all nat_cmp e.0 es && b) (is_sorted-sized es)

  -- under a key is the size of the value there
  value_of-sized : (q : ℕ) (es : List (ℕ × X)) → value_of q (map sized es) ≡ option_map size (value_of q es)
  value_of-sized q [] = refl
  value_of-sized q (e ∷ es) = elim (eq_by_cmp nat_cmp q e.0) as (λ b. cond b (Some (size e.1)) (value_of q (map sized es)) ≡ option_map size (cond b (Some e.1) (value_of q es))) [ true ↦ refl | false ↦ value_of-sized q es ]

  module _ (xs ys : NatMap X) (alike : (q : ℕ) → option_map size (get xs q) ≡ option_map size (get ys q)) where
    -- maps whose values have equal sizes have the same sizes in the same order
    pub sizes_alike : map sized (entries xs) ≡ map sized (entries ys)
    sizes_alike =
        same_entries nat_cmp nat_cmp_total nat_cmp-IsAntisymmetric (map sized (entries xs)) (map sized (entries ys))
        (subst (λ b. T b) (sym (is_sorted-sized (entries xs))) (entries_sorted xs))
        (subst (λ b. T b) (sym (is_sorted-sized (entries ys))) (entries_sorted ys))
        (λ q. value_of-sized q (entries xs) ∙ ap (option_map size) (sym (get-entries xs q)) ∙ alike q
        ∙ ap (option_map size) (get-entries ys q) ∙ sym (value_of-sized q (entries ys)))

    -- and as many values
    pub len-sizes : len xs ≡ len ys
    len-sizes = len-entries xs ∙ sym (length-map (entries xs) sized) ∙ ap length sizes_alike ∙ length-map (entries ys) sized ∙ sym (len-entries ys)

  -- some entry's size passes a test where one of the sizes does
  pub list_any-sized : (test : ℕ × ℕ → Bool) (es : List (ℕ × X)) → list_any (λ e. test (sized e)) es ≡ list_any test (map sized es)
  list_any-sized test [] = refl
  list_any-sized test (e ∷ es) = ap (λ b. test (sized e) || b) (list_any-sized test es)

  -- the first entry whose size passes has the first size that passes
  pub find-sized : (test : ℕ × ℕ → Bool) (es : List (ℕ × X)) → option_map sized (find (λ e. test (sized e)) es) ≡ find test (map sized es)
  find-sized test [] = refl
  find-sized test (e ∷ es) = elim (test (sized e)) as (λ b. option_map sized (cond b (Some e) (find (λ x. test (sized x)) es)) ≡ cond b (Some (sized e)) (find test (map sized es))) [ true ↦ refl | false ↦ find-sized test es ]
