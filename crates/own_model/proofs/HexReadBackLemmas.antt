-- Addresses and bytes that are printed in hex are read back.
use Rattle.std.proofs.Common.{◌≡◌, ℕ, zero, suc, ◌+◌, ◌*◌, ◌/◌, ◌%◌, ◌^◌, ◌<◌, ◌≤◌, ◌&&◌, Bool, true, false, cond, eqb, nat_le, List, [], ◌∷◌, length, Some, refl, ap, ◌∙◌, arith, pow-suc}
use Rattle.std.proofs.lemmas.Bool.{agree_below_at, eqb-true, eqb-false}
use Rattle.std.proofs.lemmas.Bool.Decides.{nat_tests}
use Rattle.std.specs.Prelude.{Option, None, codes, slice_index}
use Rattle.std.specs.Option.{option_map, option_and_then}
use Rattle.std.specs.List.{AllByRecursion}
use Rattle.std.specs.Fmt.{digit_glyph, digits_onto, digits}
use Rattle.own_model.specs.Reply.{address_text, hex_text}
use Rattle.own_model.specs.Text.{hex_digit_of, hex_number_after, address_of, byte_of_hex, bytes_of_hex}

-- whether an option has this number
abbrev has : Option ℕ → ℕ → Bool
has None n = false
has (Some m) n = eqb m n

-- what has a number is that number
has_is : (o : Option ℕ) (n : ℕ) → has o n ≡ true → o ≡ Some n
has_is None n h = absurd (cc)
has_is (Some m) n h = ap (λ k. Some k) (eqb-true m n h)

-- a digit that is written is read
glyph_read : (d : ℕ) → d < 16 → hex_digit_of (digit_glyph false d) ≡ Some d
glyph_read d small = has_is _ d (agree_below_at (λ k. has (hex_digit_of (digit_glyph false k)) k) (λ _. true) 16 d refl small)

-- so is one of a byte
letter_read : (d : ℕ) → d < 16 → hex_digit_of (slice_index (codes "0123456789abcdef") d) ≡ Some d
letter_read d small = has_is _ d (agree_below_at (λ k. has (hex_digit_of (slice_index (codes "0123456789abcdef") k)) k) (λ _. true) 16 d refl small)

-- the digits of a number are read as the number, whatever follows them
digits_read : (k n : ℕ) (after : List ℕ) → n < 16 ^ k → hex_number_after 0 (digits_onto k 16 false n after) ≡ hex_number_after n after
digits_read zero n after small = ap (λ m. hex_number_after m after) {x = 0} {y = n} (omega arith)
digits_read (suc k) n after small =
    let glyph = digit_glyph false (n % 16) in
    let digit : hex_digit_of glyph ≡ Some (n % 16) = glyph_read (n % 16) (omega arith) in
    elim (eqb (n / 16) 0) as (λ b. eqb (n / 16) 0 ≡ b → hex_number_after 0 (cond b (glyph ∷ after) (digits_onto k 16 false (n / 16) (glyph ∷ after))) ≡ hex_number_after n after) [
      | true ↦ λ t.
          let last = eqb-true (n / 16) 0 t in
          ap (option_and_then (λ d. hex_number_after (0 * 16 + d) after)) digit ∙ ap (λ m. hex_number_after m after) {x = 0 * 16 + n % 16} {y = n} (omega arith)
      | false ↦ λ _.
          digits_read k (n / 16) (glyph ∷ after) (omega (arith, pow-suc 16 k))
          ∙ ap (option_and_then (λ d. hex_number_after (n / 16 * 16 + d) after)) digit ∙ ap (λ m. hex_number_after m after) {x = n / 16 * 16 + n % 16} {y = n} (omega arith)
    ] refl

-- a number that is not 0 is below no power but of a positive exponent
pub positive_power : (j m : ℕ) → m < 16 ^ j → (m ≡ 0 → ⊥) → 0 < j
positive_power zero m small some = absurd (some (omega arith))
positive_power (suc j) m small some = omega arith

-- the digits of a number that is below a power of 16 are no more than the exponent
digits_few : (k j n : ℕ) (after : List ℕ) → 0 < j → n < 16 ^ j → length (digits_onto k 16 false n after) ≤ j + length after
digits_few zero j n after some small = omega arith
digits_few (suc k) zero n after some small = absurd (omega arith)
digits_few (suc k) (suc j) n after some small =
    let glyph = digit_glyph false (n % 16) in
    elim (eqb (n / 16) 0) as (λ b. eqb (n / 16) 0 ≡ b → length (cond b (glyph ∷ after) (digits_onto k 16 false (n / 16) (glyph ∷ after))) ≤ suc j + length after) [
      | true ↦ λ _. omega arith
      | false ↦ λ more.
          let rest : n / 16 < 16 ^ j = omega (arith, pow-suc 16 j) in
          let left : n / 16 ≡ 0 → ⊥ = eqb-false (n / 16) 0 more in
          let later : 0 < j = positive_power j (n / 16) rest left in
          omega (arith, digits_few k j (n / 16) (glyph ∷ after) later rest)
    ] refl

-- and they are put before what follows
digits_some : (k n : ℕ) (after : List ℕ) → length after ≤ length (digits_onto k 16 false n after)
digits_some zero n after = omega arith
digits_some (suc k) n after =
    let glyph = digit_glyph false (n % 16) in
    elim (eqb (n / 16) 0) as (λ b. length after ≤ length (cond b (glyph ∷ after) (digits_onto k 16 false (n / 16) (glyph ∷ after)))) [
      | true ↦ omega arith
      | false ↦ omega (arith, digits_some k (n / 16) (glyph ∷ after))
    ]

-- a number has a digit
digits_one : (n : ℕ) → 1 ≤ length (digits_onto 64 16 false n [])
digits_one n = elim (eqb (n / 16) 0) as (λ b. 1 ≤ length (cond b (digit_glyph false (n % 16) ∷ []) (digits_onto 63 16 false (n / 16) (digit_glyph false (n % 16) ∷ [])))) [
  | true ↦ omega arith
  | false ↦ digits_some 63 (n / 16) (digit_glyph false (n % 16) ∷ [])
]

-- a text of so many digits passes the test of its length
long_enough : (ds : List ℕ) → 1 ≤ length ds → length ds ≤ 16 → nat_le 3 (length (48 ∷ 120 ∷ ds)) && nat_le (length (48 ∷ 120 ∷ ds)) 18 ≡ true
long_enough ds some few = grind (arith, nat_tests)

-- an address that is printed is read back
pub address_read : (address : ℕ) → address < 2 ^ 64 → address_of (address_text address) ≡ Some address
unfolding digits
address_read address small =
    let ds = digits_onto 64 16 false address [] in
    ap (λ b. cond b (hex_number_after 0 ds) None) (long_enough ds (digits_one address) (digits_few 64 16 address [] (omega arith) (omega arith)))
    ∙ digits_read 64 address [] (omega arith)

-- a byte is read from its two digits
byte_read : (b : ℕ) → b < 256 → byte_of_hex (slice_index (codes "0123456789abcdef") (b / 16)) (slice_index (codes "0123456789abcdef") (b % 16)) ≡ Some b
byte_read b small =
    let low = slice_index (codes "0123456789abcdef") (b % 16) in
    ap (option_and_then (λ h. option_map (λ l. h * 16 + l) (hex_digit_of low))) (letter_read (b / 16) (omega arith))
    ∙ ap (option_map (λ l. b / 16 * 16 + l)) (letter_read (b % 16) (omega arith)) ∙ ap (λ n. Some n) {x = b / 16 * 16 + b % 16} {y = b} (omega arith)

-- bytes that are printed as hex are read back
pub hex_read : (bytes : List ℕ) → AllByRecursion (λ b. b < 256) bytes → bytes_of_hex (hex_text bytes) ≡ Some bytes
unfolding hex_text
hex_read [] small = refl
hex_read (b ∷ bs) small = grind (arith, nat_tests, byte_read, hex_read bs small.1)
