-- A text whose front is a name, by how many bytes of it may stand in one.
use Rattle.std.proofs.Common.{◌≡◌, ◌≢◌, ℕ, ◌+◌, ◌<◌, ◌≤◌, ◌⊎◌, inl, inr, Bool, true, false, cond, not, List, [], ◌∷◌, length, take, length-take, get_or, None, refl, sym, subst, arith}
use Rattle.std.specs.Prelude.{nat_eq}
use Rattle.std.specs.List.{list_all}
use Rattle.std.proofs.lemmas.Bool.{cases_eq}
use Rattle.std.proofs.lemmas.Bool.Decides.{nat_tests}
use Rattle.std.proofs.lemmas.List.Sums.{prefix_len-le-length}
use Rattle.own_model.specs.Text.{first_word, is_name_byte, is_name}
use Rattle.text_codec.specs.Names.{name_len}
use Rattle.text_codec.proofs.WordLemmas.{parted_at, parted-next}

-- what so many name bytes at the front say of the first word: it is the text, or ends at a space behind them, or is no name
pub record IsFront (n : ℕ) (text : List ℕ) : Type 0 where
  pub at_end : length text ≡ n → (first_word text ≡ record { word = text; rest = None }) × (list_all is_name_byte text ≡ true)
  pub at_space : n < length text → get_or text n 0 ≡ 32 → (first_word text ≡ parted_at n text) × (list_all is_name_byte (take n text) ≡ true)
  pub at_other : n < length text → get_or text n 0 ≢ 32 → list_all is_name_byte (first_word text).word ≡ false
  pub long : n ≤ length (first_word text).word

-- a space may not stand in a name
no_space : (b : ℕ) → is_name_byte b ≡ true → nat_eq b 32 ≡ false
no_space b name = grind (arith, nat_tests)

front_next : (name : Bool) (b : ℕ) (bs : List ℕ) (n : ℕ) → is_name_byte b ≡ name → IsFront n bs → IsFront (cond (not (not name)) (1 + n) 0) (b ∷ bs)
front_next true b bs n is front = record {
  at_end = λ long. let rest = front.at_end (omega (arith, long)) in (rw (no_space b is, rest.0) refl, rw (is, rest.1) refl);
  at_space = λ within space. let rest = front.at_space (omega (arith, within)) (grind (arith, space)) in
      (rw (no_space b is) (parted-next false n b bs (first_word bs) rest.0), grind (arith, is, rest.1));
  at_other = λ within other. let rest = front.at_other (omega (arith, within)) (λ e. other (grind (arith, e))) in rw (no_space b is, is, rest) refl;
  long = let rest = front.long in rw (no_space b is) (omega (arith, rest));
}
front_next false b bs n is front = record {
  at_end = λ long. absurd (omega (arith, long));
  at_space = λ within space. (grind (arith, nat_tests, space), refl);
  at_other = λ within other. let no : nat_eq b 32 ≡ false = grind (arith, nat_tests, other) in rw (no, is) refl;
  long = omega arith;
}

pub front : (text : List ℕ) → IsFront (name_len text) text
front [] = record { at_end = λ long. (refl, refl); at_space = λ within. absurd (omega (arith, within)); at_other = λ within. absurd (omega (arith, within)); long = omega arith }
front (b ∷ bs) = front_next (is_name_byte b) b bs (name_len bs) refl (front bs)

-- where no byte, or more than 32 bytes, may stand in a name, the first word is none
none_short : (text : List ℕ) → IsFront 0 text → is_name (first_word text).word ≡ false
none_short [] front = refl
none_short (b ∷ bs) front = elim (cases_eq b 32) [
  | inl space ↦ let rest = front.at_space (omega arith) space in rw rest.0 refl
  | inr other ↦ let rest = front.at_other (omega arith) other in grind (arith, nat_tests, rest)
]

pub none : (n : ℕ) (text : List ℕ) → n ≡ name_len text → (n < 1) ⊎ (32 < n) → is_name (first_word text).word ≡ false
none n text is (inl short) = let zero : name_len text ≡ 0 = omega (arith, is) in none_short text (subst (λ k. IsFront k text) zero (front text))
none n text is (inr long) = let rest = (front text).long in grind (arith, nat_tests, rest, is)

-- no more bytes stand in front than there are
pub name_len-le : (text : List ℕ) → name_len text ≤ length text
name_len-le text = prefix_len-le-length (λ b. not (not (is_name_byte b))) text

-- a text of so many name bytes is its first word
pub whole : (n : ℕ) (text : List ℕ) → n ≡ name_len text → 1 ≤ n → n ≤ 32 → length text ≤ n →
    (first_word text ≡ record { word = text; rest = None }) × (is_name (first_word text).word ≡ true)
whole n text is some few all =
    let within = name_len-le text in
    let rest = (front text).at_end (omega (arith, within, is)) in
    (rest.0, rw rest.0 (grind (arith, nat_tests, rest.1)))

-- where a space stands behind them, they are the first word
pub before_space : (n : ℕ) (text : List ℕ) → n ≡ name_len text → 1 ≤ n → n ≤ 32 → n < length text → get_or text n 0 ≡ 32 →
    (first_word text ≡ parted_at n text) × (is_name (first_word text).word ≡ true)
before_space n text is some few within space =
    let f : IsFront n text = subst (λ k. IsFront k text) (sym is) (front text) in
    let rest = f.at_space within space in
    (rest.0, rw rest.0 (grind (arith, nat_tests, rest.1, length-take)))

-- and where another byte does, the first word is no name
pub before_other : (n : ℕ) (text : List ℕ) → n ≡ name_len text → n < length text → get_or text n 0 ≢ 32 → is_name (first_word text).word ≡ false
before_other n text is within other =
    let f : IsFront n text = subst (λ k. IsFront k text) (sym is) (front text) in
    let rest = f.at_other within other in
    grind (arith, nat_tests, rest)
