-- Beginnings and endings of texts.
use Rattle.std.proofs.Common.{◌≡◌, ℕ, ◌≤◌, ◌-◌, Bool, true, false, List, [], ◌∷◌, ◌++◌, length, take, drop, refl, sym, subst, ap, ◌∙◌, nat_eq, arith, ◌⊎◌, inl, inr}
use Rattle.std.specs.List.{starts_with, ends_with}
use Rattle.std.proofs.lemmas.Bool.Decides.{Decides-eqb}
use Rattle.std.proofs.lemmas.Slice.Eq.{starts_is, ends_is}
use Rattle.std.proofs.lemmas.List.{append_assoc, append-nil, length-append}

pub same_tests : (a b : Bool) → (a ≡ true → b ≡ true) → (b ≡ true → a ≡ true) → a ≡ b
same_tests true b there back = sym (there refl)
same_tests false true there back = cc (back refl)
same_tests false false there back = refl

pub begins_from : (text front rest : List ℕ) → text ≡ front ++ rest → starts_with nat_eq text front ≡ true
begins_from text front rest is = (starts_is Decides-eqb text front _ refl).1 rest is

pub ends_from : (text front end : List ℕ) → text ≡ front ++ end → ends_with nat_eq text end ≡ true
ends_from text front end is = (ends_is Decides-eqb text end _ refl).1 front is

-- ---- two ways to part one text

pub parted : (front rest head end : List ℕ) → front ++ rest ≡ head ++ end
    → ((cut : List ℕ) × (front ≡ head ++ cut) × (end ≡ cut ++ rest))
    ⊎ ((byte : ℕ) × (more : List ℕ) × (head ≡ front ++ byte ∷ more) × (rest ≡ byte ∷ (more ++ end)))
parted [] rest [] end same = inl ([], refl, sym same)
parted [] rest (d ∷ more) end same = inr (d, more, refl, same)
parted (f ∷ front) rest [] end same = inl (f ∷ front, refl, sym same)
parted (f ∷ front) rest (g ∷ head) end same =
    let first : f ≡ g = cc in
    let others : front ++ rest ≡ head ++ end = cc in
    elim (parted front rest head end others) [
      | inl way ↦ inl (way.0, ap (λ bs. f ∷ bs) way.1 ∙ ap (λ b. b ∷ (head ++ way.0)) first, way.2)
      | inr way ↦ inr (way.0, way.1, ap (λ b. b ∷ head) (sym first) ∙ ap (λ bs. f ∷ bs) way.2, way.3)
    ]

pub take_front : (a b : List ℕ) → take (length a) (a ++ b) ≡ a
take_front [] b = refl
take_front (x ∷ a) b = ap (λ xs. x ∷ xs) (take_front a b)

pub begins_by : (text front : List ℕ) → starts_with nat_eq text front ≡ true → text ≡ front ++ drop (length front) text
begins_by text front begins = (starts_is Decides-eqb text front _ refl).0 begins

pub ends_by : (text end : List ℕ) → ends_with nat_eq text end ≡ true → text ≡ take (length text - length end) text ++ end
ends_by text end ends = (ends_is Decides-eqb text end _ refl).0 ends

-- nothing more stands there
no_more_behind : (text cut : List ℕ) → length (text ++ cut) ≤ length text → text ++ cut ≡ text
no_more_behind text [] less = append-nil text
no_more_behind text (c ∷ cut) less = absurd (omega (arith, length-append text (c ∷ cut)))

no_more_before : (cut text : List ℕ) → length (cut ++ text) ≤ length text → cut ++ text ≡ text
no_more_before [] text less = refl
no_more_before (c ∷ cut) text less = absurd (omega (arith, length-append (c ∷ cut) text))

-- of two fronts of one text the longer begins with the other
pub fronts_order : (text longer shorter : List ℕ) → starts_with nat_eq text longer ≡ true → starts_with nat_eq text shorter ≡ true
    → length shorter ≤ length longer → starts_with nat_eq longer shorter ≡ true
fronts_order text longer shorter first second less =
    elim (parted shorter (drop (length shorter) text) longer (drop (length longer) text) (sym (begins_by text shorter second) ∙ begins_by text longer first)) [
      | inl way ↦ begins_from longer shorter []
          (sym (way.1 ∙ no_more_behind longer way.0 (subst (λ s. length s ≤ length longer) way.1 less)) ∙ sym (append-nil shorter))
      | inr way ↦ begins_from longer shorter (way.0 ∷ way.1) way.2
    ]

-- and of two ends the longer ends with the other
pub ends_order : (text longer shorter : List ℕ) → ends_with nat_eq text longer ≡ true → ends_with nat_eq text shorter ≡ true
    → length shorter ≤ length longer → ends_with nat_eq longer shorter ≡ true
ends_order text longer shorter first second less =
    elim (parted (take (length text - length longer) text) longer (take (length text - length shorter) text) shorter
    (sym (ends_by text longer first) ∙ ends_by text shorter second)) [
      | inl way ↦ ends_from longer [] shorter
          (sym (way.2 ∙ no_more_before way.0 longer (subst (λ s. length s ≤ length longer) way.2 less)))
      | inr way ↦ ends_from longer (way.0 ∷ way.1) shorter way.3
    ]

-- ---- a text of a text

pub front_then : (a b c : List ℕ) → starts_with nat_eq a b ≡ true → starts_with nat_eq b c ≡ true → starts_with nat_eq a c ≡ true
front_then a b c first second =
    begins_from a c (drop (length c) b ++ drop (length b) a)
    (begins_by a b first
    ∙ (ap (λ x. x ++ drop (length b) a) (begins_by b c second) ∙ append_assoc c (drop (length c) b) (drop (length b) a)))

pub end_then : (a b c : List ℕ) → ends_with nat_eq a b ≡ true → ends_with nat_eq b c ≡ true → ends_with nat_eq a c ≡ true
end_then a b c first second =
    let front = take (length a - length b) a in
    let more = take (length b - length c) b in
    ends_from a (front ++ more) c
    (ends_by a b first ∙ (ap (λ x. front ++ x) (ends_by b c second) ∙ sym (append_assoc front more c)))
