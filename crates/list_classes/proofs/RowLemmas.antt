-- Places of classes that are listed one after another.
use Rattle.std.proofs.Common.{◌≡◌, ℕ, ◌+◌, ◌<◌, ◌≤◌, suc, Bool, true, false, ◌&&◌, ◌||◌, List, [], ◌∷◌, ◌++◌, length, nat_eq, get_or, take, Option, Some, None, refl, sym, ap, ◌∙◌, arith, inl, inr}
use Rattle.std.specs.Prelude.{nat_lt}
use Rattle.std.specs.Global.{Vec}
use Rattle.std.specs.List.{slice_get}
use Rattle.std.proofs.lemmas.Bool.{and_from, and_parts, both_ways, cases_lt, eq-eqb, eqb-true, or_cases, or_left, or_right}
use Rattle.std.proofs.lemmas.Bool.Decides.{nat_tests}
use Rattle.std.proofs.lemmas.List.{take_all}
use Rattle.std.proofs.lemmas.List.Folds.{list_any-append}
use Rattle.std.proofs.lemmas.Option.{slice_get-get_or, slice_get_within}
use Rattle.std.proofs.Math.ListN.{get_or-append}
use Rattle.std.proofs.lemmas.List.{get_or_push, length-append}
use Rattle.std.proofs.Math.Seq.{take-suc}
use Rattle.list_labels.proofs.TextLemmas.{same_tests}
use Rattle.list_classes.specs.Trees.{has_place, places_of, row_at}
use Rattle.list_classes.specs.Classes.{ends_of, is_between, places_at}
use Rattle.list_classes.specs.Rows.{has_end, has_front}
use Rattle.list_classes.specs.declared.label_class.LabelClass.{LabelClass}

-- ---- one more element

slice_below : {X : Type 0} (xs : List X) (x : X) (k : ℕ) → k < length xs → slice_get (xs ++ x ∷ []) k ≡ slice_get xs k
slice_below xs x k within =
    slice_get-get_or (xs ++ x ∷ []) k x (omega (arith, within, length-append xs (x ∷ [])))
    ∙ (ap Some (get_or-append xs (x ∷ []) x k within) ∙ sym (slice_get-get_or xs k x within))

slice_last : {X : Type 0} (xs : List X) (x : X) (k : ℕ) → length xs ≡ k → slice_get (xs ++ x ∷ []) k ≡ Some x
slice_last xs x k is =
    slice_get-get_or (xs ++ x ∷ []) k x (omega (arith, is, length-append xs (x ∷ []))) ∙ ap Some (get_or_push xs x x k is)

-- ---- the places for which a test holds

or_parts_left : (b : Bool) → (b || false) ≡ true → b ≡ true
or_parts_left true is = refl
or_parts_left false is = is

-- the places before a bound that pass a test
abbrev pub AreThose : (ℕ → Bool) → ℕ → List ℕ → Type 0
AreThose test bound places = (n : ℕ) → has_place places n ≡ (nat_lt n bound && test n)

test_below : (test : ℕ → Bool) (bound n : ℕ) → n < bound → test n ≡ true → (nat_lt n bound && test n) ≡ true
test_below test bound n less is = and_from _ _ (grind (arith, nat_tests)) is

below_of : (test : ℕ → Bool) (bound n : ℕ) → (nat_lt n bound && test n) ≡ true → (n < bound) × (test n ≡ true)
below_of test bound n is =
    let both = and_parts (nat_lt n bound) (test n) is in
    let less : nat_lt n bound ≡ true = both.0 in (grind (arith, nat_tests), both.1)

pub those_more : (test : ℕ → Bool) (place : ℕ) (old new : List ℕ) → AreThose test place old → test place ≡ true → new ≡ old ++ place ∷ []
    → AreThose test (place + 1) new
those_more test place old new are passes is = λ n.
    ap (λ ps. has_place ps n) is
    ∙ (list_any-append (nat_eq n) old (place ∷ [])
    ∙ same_tests _ _
    (λ there. elim (or_cases (has_place old n) _ there) [
      | inl before ↦ (let both = below_of test place n (sym (are n) ∙ before) in test_below test (place + 1) n (let less = both.0 in omega (arith, less)) both.1)
      | inr here ↦
          (let same : n ≡ place = eqb-true n place (or_parts_left (nat_eq n place) here) in
          test_below test (place + 1) n (omega (arith, same)) (ap test same ∙ passes))
    ])
    (λ there. let both = below_of test (place + 1) n there in
    elim (cases_lt n place) [
      | inl less ↦ or_left _ _ (are n ∙ test_below test place n less both.1)
      | inr above ↦ or_right (has_place old n) _ (or_left _ false (eq-eqb n place (let less = both.0 in omega (arith, above, less))))
    ]))

pub those_stay : (test : ℕ → Bool) (place : ℕ) (places : List ℕ) → AreThose test place places → test place ≡ false
    → AreThose test (place + 1) places
those_stay test place places are fails = λ n.
    are n ∙ same_tests _ _
    (λ there. let both = below_of test place n there in test_below test (place + 1) n (let less = both.0 in omega (arith, less)) both.1)
    (λ there. let both = below_of test (place + 1) n there in
    elim (cases_lt n place) [
      | inl less ↦ test_below test place n less both.1
      | inr above ↦
          (let same : n ≡ place = (let less = both.0 in omega (arith, above, less)) in
          absurd (both_ways _ fails (ap test (sym same) ∙ both.1)))
    ])

pub those_all : (test : ℕ → Bool) (bound : ℕ) (places : List ℕ) → AreThose test bound places → ((n : ℕ) → test n ≡ true → n < bound)
    → (n : ℕ) → has_place places n ≡ test n
those_all test bound places are within = λ n.
    are n ∙ same_tests _ _ (λ there. (below_of test bound n there).1) (λ is. test_below test bound n (within n is) is)

front_within : (classes : List LabelClass) (front n : ℕ) (o : Option LabelClass) → slice_get classes n ≡ o → has_front o front ≡ true → n < length classes
front_within classes front n None is there = cc
front_within classes front n (Some class) is there = slice_get_within classes n class is

pub fronts_all : (classes : List LabelClass) (front bound : ℕ) (places : List ℕ) → length classes ≤ bound
    → AreThose (λ n. has_front (slice_get classes n) front) bound places
    → (n : ℕ) → has_place places n ≡ has_front (slice_get classes n) front
fronts_all classes front bound places all are =
    those_all (λ n. has_front (slice_get classes n) front) bound places are
    (λ n is. let within = front_within classes front n (slice_get classes n) refl is in omega (arith, all, within))

-- ---- those of an ending

-- of some places, those that pass a test
abbrev pub AreAmong : (ℕ → Bool) → List ℕ → List ℕ → Type 0
AreAmong test among places = (n : ℕ) → has_place places n ≡ (has_place among n && test n)

among_then : (among : List ℕ) (place at n : ℕ) → at < length among → place ≡ get_or among at place
    → has_place (take (at + 1) among) n ≡ (has_place (take at among) n || (nat_eq n place || false))
among_then among place at n within is =
    let more : at + 1 ≡ suc at = omega arith in
    ap (λ ps. has_place ps n) (ap (λ k. take k among) more ∙ (take-suc among at place within ∙ ap (λ p. take at among ++ p ∷ []) (sym is)))
    ∙ list_any-append (nat_eq n) (take at among) (place ∷ [])

both_more : (t q e : Bool) → (q ≡ true → e ≡ true) → ((t && e) || (q || false)) ≡ ((t || (q || false)) && e)
both_more true true true is = refl
both_more true true false is = cc (is refl)
both_more true false true is = refl
both_more true false false is = refl
both_more false true e is = sym (is refl)
both_more false false e is = refl

both_stay : (t q e : Bool) → (q ≡ true → e ≡ false) → (t && e) ≡ ((t || (q || false)) && e)
both_stay true q e is = refl
both_stay false true e is = sym (is refl)
both_stay false false e is = refl

pub ends_more : (test : ℕ → Bool) (among old new : List ℕ) (place at : ℕ) → at < length among → place ≡ get_or among at place
    → AreAmong test (take at among) old → test place ≡ true → new ≡ old ++ place ∷ [] → AreAmong test (take (at + 1) among) new
ends_more test among old new place at within here are passes is = λ n.
    ap (λ ps. has_place ps n) is
    ∙ (list_any-append (nat_eq n) old (place ∷ [])
    ∙ (ap (λ b. b || (nat_eq n place || false)) (are n)
    ∙ (both_more (has_place (take at among) n) (nat_eq n place) (test n) (λ same. ap test (eqb-true n place same) ∙ passes)
    ∙ ap (λ b. b && test n) (sym (among_then among place at n within here)))))

pub ends_stay : (test : ℕ → Bool) (among old : List ℕ) (place at : ℕ) → at < length among → place ≡ get_or among at place
    → AreAmong test (take at among) old → test place ≡ false → AreAmong test (take (at + 1) among) old
ends_stay test among old place at within here are fails = λ n.
    are n
    ∙ (both_stay (has_place (take at among) n) (nat_eq n place) (test n) (λ same. ap test (eqb-true n place same) ∙ fails)
    ∙ ap (λ b. b && test n) (sym (among_then among place at n within here)))

pub ends_all : (test : ℕ → Bool) (among places : List ℕ) (at : ℕ) → length among ≤ at → AreAmong test (take at among) places
    → AreAmong test among places
ends_all test among places at all are = λ n. are n ∙ ap (λ ps. has_place ps n && test n) (take_all at among all)

between_is : (o : Option LabelClass) (front end : ℕ) → (has_front o front && has_end o end) ≡ is_between o front end
between_is None front end = refl
between_is (Some class) front end = refl

-- ---- rows

-- a row so far
pub record IsRow (classes : List LabelClass) (front bound : ℕ) (row : List (Vec ℕ)) : Type 0 where
  pub size : length row ≡ bound
  pub listed : (end place : ℕ) → end < bound → has_place (row_at row end) place ≡ is_between (slice_get classes place) front end

pub row_more : (classes : List LabelClass) (front end : ℕ) (row new : List (Vec ℕ)) (places : Vec ℕ) (among : List ℕ) → IsRow classes front end row
    → ((n : ℕ) → has_place among n ≡ has_front (slice_get classes n) front)
    → AreAmong (λ n. has_end (slice_get classes n) end) among places.items → new ≡ row ++ places ∷ [] → IsRow classes front (end + 1) new
row_more classes front end row new places among old fronts are is =
    let size : length row ≡ end = old.size in
    record {
      size = ap length is ∙ omega (arith, size, length-append row (places ∷ []));
      listed = λ e place less. elim (cases_lt e end) [
        | inl below ↦ ap (λ r. has_place (row_at r e) place) is
            ∙ (ap (λ o. has_place (places_of o) place) (slice_below row places e (omega (arith, size, below))) ∙ old.listed e place below)
        | inr above ↦
            (let same : end ≡ e = omega (arith, above, less) in
            ap (λ r. has_place (row_at r e) place) is
            ∙ (ap (λ o. has_place (places_of o) place) (slice_last row places e (size ∙ same))
            ∙ (are place
            ∙ (ap (λ b. b && has_end (slice_get classes place) end) (fronts place)
            ∙ (between_is (slice_get classes place) front end ∙ ap (λ n. is_between (slice_get classes place) front n) same)))))
      ];
    }

-- the rows so far
pub record AreRows (classes : List LabelClass) (ends bound : ℕ) (rows : List (Vec (Vec ℕ))) : Type 0 where
  pub size : length rows ≡ bound
  pub listed : (front end place : ℕ) → front < bound → end < ends
      → has_place (places_at rows front end) place ≡ is_between (slice_get classes place) front end

pub rows_more : (classes : List LabelClass) (ends front : ℕ) (rows new : List (Vec (Vec ℕ))) (row : Vec (Vec ℕ)) → AreRows classes ends front rows
    → ((end place : ℕ) → end < ends → has_place (row_at row.items end) place ≡ is_between (slice_get classes place) front end)
    → new ≡ rows ++ row ∷ [] → AreRows classes ends (front + 1) new
rows_more classes ends front rows new row old listed is =
    let size : length rows ≡ front = old.size in
    record {
      size = ap length is ∙ omega (arith, size, length-append rows (row ∷ []));
      listed = λ f end place less within. elim (cases_lt f front) [
        | inl below ↦ ap (λ r. has_place (places_at r f end) place) is
            ∙ (ap (λ o. has_place (row_at (ends_of o) end) place) (slice_below rows row f (omega (arith, size, below)))
            ∙ old.listed f end place below within)
        | inr above ↦
            (let same : front ≡ f = omega (arith, above, less) in
            ap (λ r. has_place (places_at r f end) place) is
            ∙ (ap (λ o. has_place (row_at (ends_of o) end) place) (slice_last rows row f (size ∙ same))
            ∙ (listed end place within ∙ ap (λ n. is_between (slice_get classes place) n end) same)))
      ];
    }
