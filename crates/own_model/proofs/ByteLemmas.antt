-- Zeros, and bytes with a part put over them where it fits.
use Rattle.std.proofs.Common.{◌≡◌, ℕ, ◌+◌, ◌≤◌, Bool, true, false, cond, List, length, nat_le, refl, arith, slice_range}
use Rattle.std.proofs.lemmas.Bool.Decides.{nat_tests}
use Rattle.std.proofs.lemmas.List.{length-replicate}
use Rattle.trade_base.specs.Bytes.{with_bytes}
use Rattle.trade_base.proofs.BytesLemmas.{length-with_bytes, slice_range-with_bytes}
use Rattle.own_model.specs.OwnState.{zeros, with_part}

-- so many zeros
pub length-zeros : (n : ℕ) → length (zeros n) ≡ n
unfolding zeros
length-zeros n = length-replicate n 0

-- bytes put over others where they fit, and else left out, leave their number
length_put : (fits : Bool) (bytes : List ℕ) (offset : ℕ) (part : List ℕ) → nat_le (offset + length part) (length bytes) ≡ fits →
    length (cond fits (with_bytes bytes offset part) bytes) ≡ length bytes
length_put false bytes offset part e = refl
length_put true bytes offset part e = grind (arith, nat_tests, length-with_bytes)

-- bytes put over others leave their number
pub length-with_part : (bytes : List ℕ) (offset : ℕ) (part : List ℕ) → length (with_part bytes offset part) ≡ length bytes
unfolding with_part
length-with_part bytes offset part = length_put (nat_le (offset + length part) (length bytes)) bytes offset part refl

-- a part that fits within bytes is put over them
pub with_part-within : (bytes : List ℕ) (offset : ℕ) (part : List ℕ) → offset + length part ≤ length bytes →
    with_part bytes offset part ≡ with_bytes bytes offset part
unfolding with_part
with_part-within bytes offset part fits = grind (arith, nat_tests)

-- a part that fits within bytes stands where it was put
pub slice_range-with_part : (bytes : List ℕ) (offset : ℕ) (part : List ℕ) → offset + length part ≤ length bytes →
    slice_range (with_part bytes offset part) offset (offset + length part) ≡ part
slice_range-with_part bytes offset part fits = grind (arith, nat_tests, with_part-within, slice_range-with_bytes)
