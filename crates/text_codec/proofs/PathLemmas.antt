-- A name is a path of its own.
use Rattle.std.proofs.Common.{◌≡◌, ℕ, suc, ◌+◌, ◌<◌, ◌≤◌, ◌==◌, ◌&&◌, Bool, true, false, cond, not, List, [], ◌∷◌, nat_le, nat_lt, length, take, drop, Option, Some, None, refl, arith, ap, sym, subst, ◌∙◌}
use Rattle.std.specs.List.{list_all, slice_split, position, position_or_len}
use Rattle.std.proofs.lemmas.Bool.Decides.{nat_tests}
use Rattle.std.proofs.lemmas.List.Splits.{length-slice_split}
use Rattle.std.proofs.lemmas.Option.{none-some, cond_some}
use Rattle.own_model.specs.Text.{is_name, is_name_byte, is_path}

-- no byte of a name parts names
no_slash : (b : ℕ) → is_name_byte b ≡ true → (b == 47) ≡ false
no_slash b byte = grind (arith, nat_tests)

-- what has none is one piece
one_piece : (bs : List ℕ) → list_all is_name_byte bs ≡ true → slice_split (λ b. b == 47) bs ≡ bs ∷ []
one_piece [] all = refl
one_piece (b ∷ bs) all = grind (arith, nat_tests, no_slash, one_piece bs)

-- so a name is a path
pub name_is_path : (bs : List ℕ) → is_name bs ≡ true → is_path bs ≡ true
name_is_path bs is = grind (arith, nat_tests, one_piece)

pub ruleset paths = (name_is_path)

-- ---- the names of a path, one after another

-- the parts of a word
abbrev pub parts : List ℕ → List (List ℕ)
parts word = slice_split (λ b. b == 47) word

-- the first part ends at a place, behind which the others stand, or is the whole word
record EndsAt (n : ℕ) (word : List ℕ) : Type 0 where
  pub at_end : length word ≤ n → parts word ≡ word ∷ []
  pub at_slash : n < length word → parts word ≡ take n word ∷ parts (drop (n + 1) word)

ends_next : (slash : Bool) (n b : ℕ) (bs : List ℕ) → (b == 47) ≡ slash → EndsAt n bs → EndsAt (cond (not slash) (1 + n) 0) (b ∷ bs)
ends_next true n b bs is rest = record {
  at_end = λ long. absurd (omega (arith, long));
  at_slash = λ _. rw is refl;
}
ends_next false n b bs is rest = record {
  at_end = λ long. (let whole = rest.at_end (omega (arith, long)) in rw (is, whole) refl);
  at_slash = λ within. (
      let cut = rest.at_slash (omega (arith, within)) in
      let one : 1 + n ≡ suc n = omega arith in
      let more : 1 + n + 1 ≡ suc (n + 1) = omega arith in
      rw (one, is, cut) (rw one at (ap (λ i. (b ∷ take n bs) ∷ parts (drop i (b ∷ bs))) {x = suc (n + 1)} {y = 1 + n + 1} (omega arith))));
}

ends : (word : List ℕ) → EndsAt (position_or_len (λ b. b == 47) word) word
ends [] = record { at_end = λ _. refl; at_slash = λ within. absurd (omega (arith, within)) }
ends (b ∷ bs) = ends_next (b == 47) (position_or_len (λ b. b == 47) bs) b bs refl (ends bs)

not_placed : (t : Bool) (m : ℕ) → cond t (Some m) None ≡ None → t ≡ false
not_placed true m is = absurd (none-some m (sym is))
not_placed false m is = refl

first_part : (n : ℕ) (word : List ℕ) → position (λ b. b == 47) word ≡ Some n → parts word ≡ take n word ∷ parts (drop (n + 1) word)
first_part n word at =
    let is = cond_some (nat_lt (position_or_len (λ b. b == 47) word) (length word)) (position_or_len (λ b. b == 47) word) n at in
    subst (λ i. parts word ≡ take i word ∷ parts (drop (i + 1) word)) is.1 ((ends word).at_slash (grind (arith, nat_tests, is.0)))

only_part : (word : List ℕ) → position (λ b. b == 47) word ≡ None → parts word ≡ word ∷ []
only_part word none =
    let is = not_placed (nat_lt (position_or_len (λ b. b == 47) word) (length word)) (position_or_len (λ b. b == 47) word) none in
    (ends word).at_end (grind (arith, nat_tests, is))

-- whether a word is what may stand in a path behind so many names
abbrev pub is_rest : ℕ → List ℕ → Bool
is_rest k word = nat_le (k + length (parts word)) 4 && list_all is_name (parts word)

-- the whole word stands behind none
pub whole_path : (word : List ℕ) → is_rest 0 word ≡ is_path word
whole_path word = ap (λ n. nat_le n 4 && list_all is_name (parts word)) {x = 0 + length (parts word)} {y = length (parts word)} (omega arith)

-- a name and a slash are passed
pub name_passed : (k n : ℕ) (word : List ℕ) → position (λ b. b == 47) word ≡ Some n → is_name (take n word) ≡ true → is_rest k word ≡ is_rest (k + 1) (drop (n + 1) word)
name_passed k n word at name =
    let is = first_part n word at in
    let count : k + suc (length (parts (drop (n + 1) word))) ≡ k + 1 + length (parts (drop (n + 1) word)) = omega arith in
    rw (is, name, count) refl

-- what is no name ends it
pub no_name : (k n : ℕ) (word : List ℕ) → position (λ b. b == 47) word ≡ Some n → is_name (take n word) ≡ false → is_rest k word ≡ false
no_name k n word at none =
    let is = first_part n word at in
    rw (is, none) (grind (arith, nat_tests))

-- without a slash it is the last name
pub last_name : (k : ℕ) (word : List ℕ) → k ≤ 3 → position (λ b. b == 47) word ≡ None → is_rest k word ≡ is_name word
last_name k word few none =
    let is = only_part word none in
    let fits : nat_le (k + 1) 4 ≡ true = grind (arith, nat_tests) in
    rw (is, fits) (grind (arith, nat_tests))

some_part : (word : List ℕ) → 1 ≤ length (parts word)
some_part word = let count = length-slice_split (λ b. b == 47) word in omega (arith, count)

no_fourth : (n : ℕ) (word : List ℕ) → position (λ b. b == 47) word ≡ Some n → (name : Bool) → is_name word ≡ name → is_rest 3 word ≡ name
no_fourth n word at true name =
    let is = first_part n word at in
    let one : parts word ≡ word ∷ [] = one_piece word (grind (arith, nat_tests, name)) in
    let two = ap length (sym is ∙ one) in
    absurd (omega (arith, two, some_part (drop (n + 1) word)))
no_fourth n word at false name =
    let is = first_part n word at in
    let some = some_part (drop (n + 1) word) in
    let many : nat_le (3 + suc (length (parts (drop (n + 1) word)))) 4 ≡ false = grind (arith, nat_tests, some) in
    rw (is, many) refl

-- and behind three names it has to be one
fourth : (word : List ℕ) (place : Option ℕ) → position (λ b. b == 47) word ≡ place → is_rest 3 word ≡ is_name word
fourth word None at = last_name 3 word (omega arith) at
fourth word (Some n) at = no_fourth n word at (is_name word) refl

pub fourth_name : (word : List ℕ) → is_rest 3 word ≡ is_name word
fourth_name word = fourth word (position (λ b. b == 47) word) refl
