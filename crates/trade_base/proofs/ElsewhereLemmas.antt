-- What bytes hold elsewhere than where a part was put over them.
use Rattle.std.proofs.Common.{◌≡◌, ℕ, ◌+◌, ◌≤◌, List, length, drop, arith, rules, slice_range}
use Rattle.std.proofs.lemmas.List.{same_lists, places}
use Rattle.trade_base.specs.Bytes.{with_bytes}

-- a range before the part
pub range_before : (bytes : List ℕ) (offset : ℕ) (part : List ℕ) (from to : ℕ) → to ≤ offset → offset + length part ≤ length bytes → slice_range (with_bytes bytes offset part) from to ≡ slice_range bytes from to
unfolding with_bytes
range_before bytes offset part from to before fits = same_lists _ _ (search (rules, places)) (λ k d h. grind (arith, places))

-- a range after the part
pub range_after : (bytes : List ℕ) (offset : ℕ) (part : List ℕ) (from to : ℕ) → offset + length part ≤ from → offset + length part ≤ length bytes → slice_range (with_bytes bytes offset part) from to ≡ slice_range bytes from to
unfolding with_bytes
range_after bytes offset part from to after fits = same_lists _ _ (search (rules, places)) (λ k d h. grind (arith, places))

-- all bytes from a place after the part on
pub drop_after : (bytes : List ℕ) (offset : ℕ) (part : List ℕ) (n : ℕ) → offset + length part ≤ n → offset + length part ≤ length bytes → drop n (with_bytes bytes offset part) ≡ drop n bytes
unfolding with_bytes
drop_after bytes offset part n after fits = same_lists _ _ (search (rules, places)) (λ k d h. grind (arith, places))
