-- Laws of bytes with a part put over them.
use Rattle.std.proofs.Common.{◌≡◌, ℕ, ◌+◌, ◌≤◌, List, [], ◌++◌, length, take, drop, sym, ap, ◌∙◌, arith, rules, append_assoc, length-append, length-drop, add-zero, slice_range}
use Rattle.std.proofs.Math.Seq.{take-append-add, drop-append-add}
use Rattle.std.proofs.lemmas.List.{same_lists, places, append-nil, drop_all, take-append-drop, take-append-le, drop-append-le, drop-drop, take_at, length-take-le}
use Rattle.trade_base.specs.Bytes.{with_bytes}

-- a range that lies within bytes has its length
pub length-slice_range : (bytes : List ℕ) (from size : ℕ) → from + size ≤ length bytes → length (slice_range bytes from (from + size)) ≡ size
length-slice_range bytes from size inside = grind (arith, length-take-le, length-drop)

-- a part that fits leaves the length
pub length-with_bytes : (bytes : List ℕ) (offset : ℕ) (part : List ℕ) → offset + length part ≤ length bytes → length (with_bytes bytes offset part) ≡ length bytes
unfolding with_bytes
length-with_bytes bytes offset part fits =
    omega (arith, length-append (take offset bytes ++ part) (drop (offset + length part) bytes), length-append (take offset bytes) part, length-take-le offset bytes (omega arith), length-drop (offset + length part) bytes)

-- an empty part changes nothing
pub with_bytes-nothing : (bytes : List ℕ) (offset : ℕ) → with_bytes bytes offset [] ≡ bytes
unfolding with_bytes
with_bytes-nothing bytes offset =
    ap (λ front. front ++ drop (offset + 0) bytes) (append-nil (take offset bytes))
    ∙ ap (λ n. take offset bytes ++ drop n bytes) (add-zero offset)
    ∙ take-append-drop offset bytes

-- a part that covers all
pub with_bytes-whole : (bytes part : List ℕ) → length bytes ≡ length part → with_bytes bytes 0 part ≡ part
unfolding with_bytes
with_bytes-whole bytes part same = rw (drop_all (0 + length part) bytes (omega arith)) (append-nil part)

-- a part put over the first of two lists
pub with_bytes-left : (xs ys : List ℕ) (offset : ℕ) (part : List ℕ) → offset + length part ≤ length xs → with_bytes (xs ++ ys) offset part ≡ with_bytes xs offset part ++ ys
unfolding with_bytes
with_bytes-left xs ys offset part fits =
    ap (λ front. front ++ part ++ drop (offset + length part) (xs ++ ys)) (take-append-le offset xs ys (omega arith))
    ∙ ap (λ rest. take offset xs ++ part ++ rest) (drop-append-le (offset + length part) xs ys fits)
    ∙ sym (append_assoc (take offset xs ++ part) (drop (offset + length part) xs) ys)

-- a part put over the second
pub with_bytes-right : (xs ys : List ℕ) (m offset : ℕ) (part : List ℕ) → length xs ≡ m → with_bytes (xs ++ ys) (m + offset) part ≡ xs ++ with_bytes ys offset part
unfolding with_bytes
with_bytes-right xs ys m offset part size =
    let front : take (m + offset) (xs ++ ys) ≡ xs ++ take offset ys = ap (λ k. take (k + offset) (xs ++ ys)) (sym size) ∙ take-append-add xs ys offset in
    let place : m + offset + length part ≡ length xs + (offset + length part) = omega arith in
    let rest : drop (m + offset + length part) (xs ++ ys) ≡ drop (offset + length part) ys = ap (λ k. drop k (xs ++ ys)) place ∙ drop-append-add xs ys (offset + length part) in
    ap (λ l. l ++ part ++ drop (m + offset + length part) (xs ++ ys)) front
    ∙ ap (λ l. (xs ++ take offset ys) ++ part ++ l) rest
    ∙ simp append_assoc

-- two parts that follow one another are put as one
pub with_bytes-more : (bytes : List ℕ) (offset : ℕ) (part more : List ℕ) → offset + length part ≤ length bytes → with_bytes (with_bytes bytes offset part) (offset + length part) more ≡ with_bytes bytes offset (part ++ more)
unfolding with_bytes
with_bytes-more bytes offset part more fits =
    let size : length (take offset bytes ++ part) ≡ offset + length part = omega (arith, length-append (take offset bytes) part, length-take-le offset bytes (omega arith)) in
    let rest : drop (offset + length part + length more) (with_bytes bytes offset part) ≡ drop (offset + length (part ++ more)) bytes =
    ap (λ k. drop (k + length more) (with_bytes bytes offset part)) (sym size)
    ∙ drop-append-add (take offset bytes ++ part) (drop (offset + length part) bytes) (length more)
    ∙ drop-drop (length more) (offset + length part) bytes
    ∙ ap (λ k. drop k bytes) (omega (arith, length-append part more)) in
    ap (λ l. l ++ more ++ drop (offset + length part + length more) (with_bytes bytes offset part)) (take_at (take offset bytes ++ part) (drop (offset + length part) bytes) (offset + length part) size)
    ∙ ap (λ l. (take offset bytes ++ part) ++ more ++ l) rest
    ∙ ap (λ l. l ++ drop (offset + length (part ++ more)) bytes) (append_assoc (take offset bytes) part more)

-- a part that fits stands where it was put
pub slice_range-with_bytes : (bytes : List ℕ) (offset : ℕ) (part : List ℕ) → offset + length part ≤ length bytes → slice_range (with_bytes bytes offset part) offset (offset + length part) ≡ part
unfolding with_bytes
slice_range-with_bytes bytes offset part fits = same_lists _ _ (search (rules, places)) (λ k d h. grind (arith, places))
