-- The hexadecimal digits of a number are those of its eight bytes, without the zeros in front.
use Rattle.std.proofs.Common.{◌≡◌, ℕ, zero, suc, ◌+◌, ◌-◌, ◌*◌, ◌/◌, ◌%◌, ◌^◌, ◌<◌, ◌≤◌, Bool, true, false, cond, eqb, List, [], ◌∷◌, ◌++◌, drop, min, codes, slice_index, refl, sym, ap, subst, ◌∙◌, arith, pow-suc}
use Rattle.std.proofs.Math.Nat.{div-div-eq-div-mul, pow-le-pow_right}
use Rattle.std.proofs.lemmas.Bool.{agree_below_at, eqb-true}
use Rattle.std.proofs.lemmas.Bool.Decides.{nat_tests}
use Rattle.std.proofs.lemmas.List.{append-nil, append_assoc}
use Rattle.std.proofs.lemmas.Nat.{leading_top}
use Rattle.std.specs.Fmt.{digit_glyph, digits_onto, digits}
use Rattle.std.specs.Int.{byte_at, bytes_high_first}
use Rattle.std.specs.Int.Count.{count_leading_zeros, leading_of_zero}
use Rattle.hex.specs.Hex.{encode_lower, encode_with}

-- the digits of a number from the one at a place on, down to the last
unfoldable pub spelled : ℕ → ℕ → List ℕ
spelled zero n = []
spelled (suc k) n = digit_glyph false (n / 16 ^ k % 16) ∷ spelled k n

-- those in front are dropped
pub spelled_behind : (j m n : ℕ) → drop j (spelled (j + m) n) ≡ spelled m n
unfolding spelled
spelled_behind zero m n = ap (λ k. spelled k n) {x = 0 + m} {y = m} (omega arith)
spelled_behind (suc j) m n = ap (λ k. drop (suc j) (spelled k n)) {x = suc j + m} {y = suc (j + m)} (omega arith) ∙ spelled_behind j m n

-- a digit a step: a number's tenth digit is the ninth of its sixteenth part
shifted : (k n : ℕ) → n / 16 ^ suc k ≡ n / 16 / 16 ^ k
shifted k n = ap (λ p. n / p) {x = 16 ^ suc k} {y = 16 * 16 ^ k} (omega (arith, pow-suc 16 k)) ∙ sym (div-div-eq-div-mul n 16 (16 ^ k))

-- the last digit stands behind those of the sixteenth part
spelled_last : (m n : ℕ) → spelled (suc m) n ≡ spelled m (n / 16) ++ digit_glyph false (n % 16) ∷ []
unfolding spelled
spelled_last zero n = ap (λ d. digit_glyph false d ∷ []) {x = n / 1 % 16} {y = n % 16} (omega arith)
spelled_last (suc m) n =
    ap (λ q. digit_glyph false (q % 16) ∷ spelled (suc m) n) (shifted m n)
    ∙ ap (λ ds. digit_glyph false (n / 16 / 16 ^ m % 16) ∷ ds) (spelled_last m n)

-- a number of so many digits
pub record HasDigits (m n : ℕ) : Type 0 where
  pub some : 0 < m
  pub most : n < 16 ^ m
  pub least : (j : ℕ) → m ≡ suc (suc j) → 16 ^ suc j ≤ n

-- is told by them
onto : (m fuel n : ℕ) (after : List ℕ) → m ≤ fuel → HasDigits m n → digits_onto fuel 16 false n after ≡ spelled m n ++ after
unfolding spelled
onto zero fuel n after within has = absurd (omega (arith, has.some))
onto (suc m) zero n after within has = absurd (omega arith)
onto (suc zero) (suc fuel) n after within has =
    let none : eqb (n / 16) 0 ≡ true = (let most = has.most in grind (arith, nat_tests)) in
    ap (λ (b : Bool). cond b (digit_glyph false (n % 16) ∷ after) (digits_onto fuel 16 false (n / 16) (digit_glyph false (n % 16) ∷ after))) none
    ∙ ap (λ d. digit_glyph false d ∷ after) {x = n % 16} {y = n / 1 % 16} (omega arith)
onto (suc (suc m)) (suc fuel) n after within has =
    let least = has.least m refl in
    let most = has.most in
    let lower : 16 ^ m ≤ n / 16 = omega (arith, pow-suc 16 m, least) in
    let room : n / 16 < 16 ^ suc m = omega (arith, pow-suc 16 (suc m), most) in
    let positive : 1 ≤ 16 ^ m = pow-le-pow_right {n = 16} (omega arith) {i = 0} {j = m} (omega arith) in
    let more : eqb (n / 16) 0 ≡ false = grind (arith, nat_tests) in
    let below : HasDigits (suc m) (n / 16) = record {
      some = omega arith;
      most = room;
      least = λ j e. subst (λ k. 16 ^ k ≤ n / 16) {x = m} {y = suc j} (omega (arith, e)) lower;
    } in
    ap (λ (b : Bool). cond b (digit_glyph false (n % 16) ∷ after) (digits_onto fuel 16 false (n / 16) (digit_glyph false (n % 16) ∷ after))) more
    ∙ onto (suc m) fuel (n / 16) (digit_glyph false (n % 16) ∷ after) (omega arith) below
    ∙ sym (append_assoc (spelled (suc m) (n / 16)) (digit_glyph false (n % 16) ∷ []) after)
    ∙ ap (λ ds. ds ++ after) (sym (spelled_last (suc m) n))

-- a digit of a byte
letter_is : (d : ℕ) → d < 16 → slice_index (codes "0123456789abcdef") d ≡ digit_glyph false d
letter_is d small = eqb-true _ _ (agree_below_at (λ k. eqb (slice_index (codes "0123456789abcdef") k) (digit_glyph false k)) (λ _. true) 16 d refl small)

-- both digits of a byte of a number are two of its digits
byte_is : (k n : ℕ) → byte_at k n ≡ n / 256 ^ k % 256
byte_is zero n = ap (λ q. q % 256) {x = n} {y = n / 1} (omega arith)
byte_is (suc k) n = refl

squared : (k : ℕ) → 256 ^ k ≡ 16 ^ (k + k)
squared zero = refl
squared (suc k) =
    let double : suc k + suc k ≡ suc (suc (k + k)) = omega arith in
    rw double (omega (arith, pow-suc 256 k, pow-suc 16 (suc (k + k)), pow-suc 16 (k + k), squared k))

high_is : (k n : ℕ) → byte_at k n / 16 ≡ n / 16 ^ suc (k + k) % 16
high_is k n =
    let half : n / 16 ^ (k + k) / 16 ≡ n / 16 ^ suc (k + k) =
    div-div-eq-div-mul n (16 ^ (k + k)) 16 ∙ ap (λ p. n / p) {x = 16 ^ (k + k) * 16} {y = 16 ^ suc (k + k)} (omega (arith, pow-suc 16 (k + k))) in
    ap (λ b. b / 16) (byte_is k n ∙ ap (λ p. n / p % 256) (squared k)) ∙ omega arith ∙ ap (λ q. q % 16) half

low_is : (k n : ℕ) → byte_at k n % 16 ≡ n / 16 ^ (k + k) % 16
low_is k n = ap (λ b. b % 16) (byte_is k n ∙ ap (λ p. n / p % 256) (squared k)) ∙ omega arith

byte_small : (k n : ℕ) → byte_at k n < 256
byte_small zero n = omega arith
byte_small (suc k) n = omega arith

bytes_spelled : (k m n : ℕ) → m ≡ k + k → encode_lower (bytes_high_first k n) ≡ spelled m n
unfolding encode_with spelled
bytes_spelled zero zero n e = refl
bytes_spelled zero (suc m) n e = absurd (omega (arith, e))
bytes_spelled (suc k) zero n e = absurd (omega (arith, e))
bytes_spelled (suc k) (suc zero) n e = absurd (omega (arith, e))
bytes_spelled (suc k) (suc (suc m)) n e =
    let even : m ≡ k + k = omega (arith, e) in
    let small = byte_small k n in
    let high : slice_index (codes "0123456789abcdef") (byte_at k n / 16) ≡ digit_glyph false (n / 16 ^ suc m % 16) =
    letter_is (byte_at k n / 16) (omega (arith, small)) ∙ ap (λ d. digit_glyph false d) (high_is k n ∙ ap (λ j. n / 16 ^ suc j % 16) (sym even)) in
    let low : slice_index (codes "0123456789abcdef") (byte_at k n % 16) ≡ digit_glyph false (n / 16 ^ m % 16) =
    letter_is (byte_at k n % 16) (omega arith) ∙ ap (λ d. digit_glyph false d) (low_is k n ∙ ap (λ j. n / 16 ^ j % 16) (sym even)) in
    (λ i. high i ∷ low i ∷ bytes_spelled k m n even i)

-- how many digits a number has by the zeros in front of its bits
fours : (k : ℕ) → 16 ^ k ≡ 2 ^ (4 * k)
fours zero = refl
fours (suc k) =
    let four : 4 * suc k ≡ suc (suc (suc (suc (4 * k)))) = omega arith in
    rw four (omega (arith, pow-suc 16 k, pow-suc 2 (suc (suc (suc (4 * k)))), pow-suc 2 (suc (suc (4 * k))), pow-suc 2 (suc (4 * k)), pow-suc 2 (4 * k), fours k))

counted : (n lead start : ℕ) → n < 2 ^ 64 → lead ≡ count_leading_zeros 64 n → start ≡ min (lead / 4) 15 → HasDigits (16 - start) n
counted zero lead start fits is at =
    let all : start ≡ 15 = omega (arith, at, is, leading_of_zero 64) in
    rw all (record { some = omega arith; most = omega arith; least = λ j e. absurd (omega (arith, e)) })
counted (suc n) lead start fits is at =
    let top = leading_top 64 (suc n) (omega arith) fits in
    let j = top.0 in
    let sum = top.1 in
    let from = top.2 in
    let to = top.3 in
    record {
      some = omega (arith, at);
      most = (let more = pow-le-pow_right {n = 2} (omega arith) {i = suc j} {j = 4 * (16 - start)} (omega (arith, sum, is, at)) in omega (arith, to, more, fours (16 - start)));
      least = λ i e. (let less = pow-le-pow_right {n = 2} (omega arith) {i = 4 * suc i} {j = j} (omega (arith, sum, is, at, e)) in omega (arith, from, less, fours (suc i)));
    }

whole : (n : ℕ) → digits_onto 64 16 false n [] ≡ digits 16 false n
unfolding digits
whole n = refl

-- what the bytes' digits are behind as many as there are zeros in front
pub digits_behind : (n lead start : ℕ) (text : List ℕ) → n < 2 ^ 64 → lead ≡ count_leading_zeros 64 n → start ≡ min (lead / 4) 15 → text ≡ encode_lower (bytes_high_first 8 n) →
    drop start text ≡ digits 16 false n
digits_behind n lead start text fits is at written =
    let has = counted n lead start fits is at in
    let some = has.some in
    let sum : 16 ≡ start + (16 - start) = omega (arith, at) in
    ap (drop start) (written ∙ bytes_spelled 8 16 n refl ∙ ap (λ k. spelled k n) sum)
    ∙ spelled_behind start (16 - start) n
    ∙ sym (append-nil (spelled (16 - start) n))
    ∙ sym (onto (16 - start) 64 n [] (omega arith) has)
    ∙ whole n
