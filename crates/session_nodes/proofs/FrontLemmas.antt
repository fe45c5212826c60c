-- The front of a content after bytes are put over it.
use Rattle.std.proofs.lemmas.Bool.Decides.{nat_tests}
use Rattle.std.proofs.Common.{◌≡◌, ℕ, ◌+◌, ◌-◌, ◌<◌, ◌≤◌, min, List, ◌++◌, length, take, drop, sym, ap, ◌∙◌, ⊎_elim, arith, length-append}
use Rattle.std.proofs.lemmas.List.{drop-take, length-drop, length-take, length-take-le, take-append-le, take-take, take_all, take_at, take-append-drop, drop_all}
use Rattle.std.proofs.lemmas.Bool.{cases_lt}
use Rattle.std.specs.Prelude.{slice_range}
use Rattle.trade_base.specs.Bytes.{with_bytes}
use Rattle.trade_base.proofs.BytesLemmas.{length-with_bytes, with_bytes-left}
use Rattle.own_model.specs.OwnState.{with_part}
use Rattle.own_model.proofs.ByteLemmas.{length-with_part, with_part-within}

-- the front of two lists is the first one
front_of : (n : ℕ) (xs ys : List ℕ) → length xs ≡ n → take n (xs ++ ys) ≡ xs
front_of n xs ys long = take-append-le n xs ys (omega (arith, long)) ∙ take_all n xs (omega (arith, long))

-- bytes within the file are put over the file's
pub front_written : (n : ℕ) (payload : List ℕ) (offset : ℕ) (part : List ℕ) → n ≤ length payload → offset + length part ≤ n →
    take n (with_part payload offset part) ≡ with_bytes (take n payload) offset part
front_written n payload offset part long within =
    let front : length (take n payload) ≡ n = let e = length-take n payload in omega (arith, e, long) in
    let whole = length-with_bytes (take n payload) offset part (omega (arith, front, within)) in
    ap (take n) (with_part-within payload offset part (omega (arith, long, within))
    ∙ ap (λ p. with_bytes p offset part) (sym (take-append-drop n payload))
    ∙ with_bytes-left (take n payload) (drop n payload) offset part (omega (arith, front, within)))
    ∙ front_of n (with_bytes (take n payload) offset part) (drop n payload) (omega (arith, whole, front))

-- the front of bytes over which others are put is these
front_at : (n : ℕ) (xs fresh : List ℕ) → length xs ≡ n → take n (with_bytes fresh 0 xs) ≡ xs
unfolding with_bytes
front_at n xs fresh long = take_at xs (drop (0 + length xs) fresh) n long

-- what ends where the part ends
front_ends : (n offset : ℕ) (bytes part : List ℕ) → offset ≤ length bytes → n ≡ offset + length part → take n (with_bytes bytes offset part) ≡ take offset bytes ++ part
unfolding with_bytes
front_ends n offset bytes part low is = grind (arith, nat_tests, length-take-le, take_at, length-append)

-- bytes that go past the end are the last ones
ends_there : (size offset : ℕ) (bytes part : List ℕ) (n : ℕ) → length bytes ≡ size → offset ≤ size → size < offset + length part → n ≡ offset + length part → length (with_bytes bytes offset part) ≤ n
unfolding with_bytes
ends_there size offset bytes part n long low longer is = grind (arith, nat_tests, drop_all, length-take-le, length-append)

-- bytes at the end of a copy of the file's front, where they go past the file
pub front_longer : (size n offset : ℕ) (fresh old part : List ℕ) → offset ≤ size → size < offset + length part → size ≤ length old → n ≡ offset + length part → n ≤ length fresh →
    take n (with_part (with_part fresh 0 (take offset old)) offset part) ≡ with_bytes (take size old) offset part
front_longer size n offset fresh old part low longer long is room =
    let copied : length (take offset old) ≡ offset = length-take-le offset old (omega (arith, low, long)) in
    let q = with_part fresh 0 (take offset old) in
    let as_long : length q ≡ length fresh = length-with_part fresh 0 (take offset old) in
    let front : take offset q ≡ take offset old =
    ap (take offset) (with_part-within fresh 0 (take offset old) (omega (arith, copied, is, room))) ∙ front_at offset (take offset old) fresh copied in
    let whole : take n (with_part q offset part) ≡ take offset old ++ part =
    ap (take n) (with_part-within q offset part (omega (arith, as_long, is, room))) ∙ front_ends n offset q part (omega (arith, as_long, is, room)) is ∙ ap (λ xs. xs ++ part) front in
    let kept : length (take size old) ≡ size = length-take-le size old long in
    let right : take n (with_bytes (take size old) offset part) ≡ take offset old ++ part =
    front_ends n offset (take size old) part (omega (arith, kept, low)) is ∙ ap (λ xs. xs ++ part) (take-take offset size old low) in
    let all : take n (with_bytes (take size old) offset part) ≡ with_bytes (take size old) offset part = take_all n (with_bytes (take size old) offset part) (ends_there size offset (take size old) part n kept low longer is) in
    whole ∙ sym right ∙ all

-- ---- what is read

-- so many bytes of the file's front, as many as are left of it
pub front_part : (size len offset count : ℕ) (payload : List ℕ) → offset ≤ size → count ≡ min len (size - offset) →
    take len (drop offset (take size payload)) ≡ take count (drop offset payload)
front_part size len offset count payload low is =
    let left = size - offset in
    let whole : drop offset (take size payload) ≡ take left (drop offset payload) =
    ap (λ n. drop offset (take n payload)) (omega (arith, low)) ∙ drop-take offset left payload in
    let part : take len (take left (drop offset payload)) ≡ take (min len left) (drop offset payload) =
    ⊎_elim (λ (few : len < left). take-take len left (drop offset payload) (omega (arith, few)) ∙ ap (λ n. take n (drop offset payload)) (omega (arith, few)))
    (λ (many : left ≤ len). take_all len (take left (drop offset payload)) (let e = length-take left (drop offset payload) in omega (arith, e, many)) ∙ ap (λ n. take n (drop offset payload)) (omega (arith, many)))
    (cases_lt len left) in
    ap (take len) whole ∙ part ∙ ap (λ n. take n (drop offset payload)) (sym is)

-- these bytes are a range of the content, where a buffer starts with it
pub front_read : (size len offset count n : ℕ) (payload piece rest : List ℕ) → size ≤ length payload → offset ≤ size → count ≡ min len (size - offset) → n ≡ count →
    piece ≡ slice_range payload offset (offset + n) → take len (drop offset (take size payload)) ≡ take count (piece ++ rest)
front_read size len offset count n payload piece rest long low is n_is piece_is = grind (arith, nat_tests, length-take-le, length-drop, front_part, front_of)
