-- What stands in a part of an array after a part behind it was written.
use Rattle.std.proofs.Common.{◌≡◌, ℕ, ◌+◌, ◌≤◌, List, ◌++◌, length, take, drop, slice_range, arith, rules, append_assoc, Option, Some, None}
use Rattle.std.specs.Io.KnownBytes.{Consumes, Keeps}
use Rattle.run_devices.specs.Lines.{to_come}
use Rattle.std.proofs.lemmas.List.{places, same_lists}

-- what stands from start to end is passed in part
pub front_passed : (bytes : List ℕ) (start end count : ℕ) → slice_range bytes (start + count) end ≡ drop count (slice_range bytes start end)
front_passed bytes start end count = same_lists _ _ (search (rules, places)) (λ k d h. grind (arith, places))

-- what stands from start to end is followed by the first n bytes of what was written behind it
pub slice_range-grown : (bytes buffer after : List ℕ) (start end n : ℕ) → start ≤ end → end ≤ length bytes → n ≤ length buffer
    → slice_range (take end bytes ++ (buffer ++ after)) start (end + n) ≡ slice_range bytes start end ++ take n buffer
slice_range-grown bytes buffer after start end n order within few = same_lists _ _ (search (rules, places)) (λ k d h. grind (arith, places))

-- what stands from start to end stays
pub slice_range-kept : (bytes after : List ℕ) (start end : ℕ) → end ≤ length bytes
    → slice_range (take end bytes ++ after) start end ≡ slice_range bytes start end
slice_range-kept bytes after start end within = same_lists _ _ (search (rules, places)) (λ k d h. grind (arith, places))

-- what was read moves from the rest to the bytes ahead, and what is to come stays
pub Keeps-grown : (ahead read grown : List ℕ) (old new : Option (List ℕ)) → grown ≡ ahead ++ read → Consumes old new read → Keeps (to_come ahead old) (to_come grown new)
Keeps-grown ahead read grown None new is consumes = tt
Keeps-grown ahead read grown (Some xs) None is consumes = absurd consumes
Keeps-grown ahead read grown (Some xs) (Some ys) is consumes = rw (is, consumes) (append_assoc ahead read ys)
