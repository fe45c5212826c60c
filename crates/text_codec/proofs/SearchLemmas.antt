-- Searches for a byte, and tests of all bytes.
use Rattle.std.proofs.Common.{◌≡◌, ℕ, ◌<◌, not, Bool, true, false, List, length, Option, Some, None, arith, refl, position, get_or}
use Rattle.std.specs.List.{position_or_len}
use Rattle.std.proofs.lemmas.Bool.Decides.{nat_tests}
use Rattle.std.proofs.lemmas.List.Sums.{prefix_len_is}
use Rattle.memchr.specs.Find.{IsFirstByte}

-- what isn't true is false
fails : (b : Bool) → ¬ (b ≡ true) → not b ≡ true
fails true untrue = absurd (untrue refl)
fails false untrue = refl

-- the first place where a byte passes a test is its position
pub first_byte_is : (test : ℕ → Bool) (bytes : List ℕ) (found : Option ℕ) → IsFirstByte test bytes found → found ≡ position test bytes
first_byte_is test bytes (Some place) (before, here) =
    let is : position_or_len test bytes ≡ place =
    prefix_len_is (λ b. not (test b)) bytes place 0 (omega (arith, before.high)) (λ k below. fails (test (get_or bytes k 0)) (before.before k (omega arith) below)) (λ _. rw here refl) in
    let within : place < length bytes = before.high in
    grind (arith, nat_tests)
first_byte_is test bytes None nowhere =
    let is : position_or_len test bytes ≡ length bytes =
    prefix_len_is (λ b. not (test b)) bytes (length bytes) 0 (omega arith) (λ k below. fails (test (get_or bytes k 0)) (nowhere k (omega arith) below)) (λ past. absurd (omega arith)) in
    grind (arith, nat_tests)
