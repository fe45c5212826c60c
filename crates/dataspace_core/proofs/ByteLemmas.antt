-- What is read of pages that are joined, and what is put into them.
use Rattle.std.proofs.Common.{◌≡◌, ◌≢◌, ℕ, zero, suc, ◌+◌, ◌*◌, ◌<◌, ◌≤◌, List, ◌++◌, length, take, drop, sym, ap, ◌∙◌, inl, inr, arith, length-drop}
use Rattle.std.proofs.Math.Seq.{take-add, drop-append-add}
use Rattle.std.proofs.lemmas.Bool.{cases_eq}
use Rattle.std.proofs.lemmas.List.{take-append-le, drop-append-le, drop-drop}
use Rattle.trade_base.specs.Bytes.{with_bytes}
use Rattle.trade_base.proofs.BytesLemmas.{with_bytes-left, with_bytes-right}
use Rattle.dataspace_core.specs.Layout.{joined}
use Rattle.dataspace_core.proofs.RunLemmas.{joined_same, length-joined}

-- ---- reading

-- a piece of the first of two lists
piece_left : (xs ys : List ℕ) (from n : ℕ) → from + n ≤ length xs → take n (drop from (xs ++ ys)) ≡ take n (drop from xs)
piece_left xs ys from n within =
    ap (take n) (drop-append-le from xs ys (omega arith))
    ∙ take-append-le n (drop from xs) ys (omega (arith, length-drop from xs))

-- a piece of the second
piece_right : (xs ys : List ℕ) (m from n : ℕ) → length xs ≡ m → take n (drop (m + from) (xs ++ ys)) ≡ take n (drop from ys)
piece_right xs ys m from n size =
    ap (λ k. take n (drop (k + from) (xs ++ ys))) (sym size) ∙ ap (take n) (drop-append-add xs ys from)

-- a piece of one page is that piece of what the pages make
pub joined_piece : (at : ℕ → List ℕ) (count i from n : ℕ) → ((j : ℕ) → j < count → length (at j) ≡ 4096) → i < count → from + n ≤ 4096 → take n (drop (i * 4096 + from) (joined at count)) ≡ take n (drop from (at i))
unfolding joined
joined_piece at zero i from n full below within = absurd (omega (arith, below))
joined_piece at (suc count) i from n full below within =
    let size = length-joined at count (λ j before. full j (omega arith)) in
    elim (cases_eq i count) [
      | inl last ↦
          ap (λ k. take n (drop (k * 4096 + from) (joined at count ++ at count))) last
          ∙ piece_right (joined at count) (at count) (count * 4096) from n size
          ∙ ap (λ k. take n (drop from (at k))) (sym last)
      | inr apart ↦
          piece_left (joined at count) (at count) (i * 4096 + from) n (omega (arith, size, below, within, apart))
          ∙ joined_piece at count i from n (λ j before. full j (omega arith)) (omega (arith, below, apart)) within
    ]

-- two pieces that follow one another make one
pub pieces_join : (xs : List ℕ) (from m n : ℕ) → take m (drop from xs) ++ take n (drop (from + m) xs) ≡ take (m + n) (drop from xs)
pieces_join xs from m n =
    ap (λ rest. take m (drop from xs) ++ take n rest) (sym (drop-drop m from xs))
    ∙ sym (take-add m n (drop from xs))

-- ---- writing

-- a part put into one page is put into what the pages make
pub joined_put : (old new : ℕ → List ℕ) (count i at : ℕ) (part : List ℕ) → ((j : ℕ) → j < count → length (old j) ≡ 4096) → i < count → at + length part ≤ 4096 → new i ≡ with_bytes (old i) at part → ((j : ℕ) → j < count → j ≢ i → new j ≡ old j) → joined new count ≡ with_bytes (joined old count) (i * 4096 + at) part
unfolding joined
joined_put old new zero i at part full below fits here others = absurd (omega (arith, below))
joined_put old new (suc count) i at part full below fits here others =
    let size = length-joined old count (λ j before. full j (omega arith)) in
    elim (cases_eq i count) [
      | inl last ↦
          ap (λ l. l ++ new count) (joined_same old new count (λ j before. others j (omega arith) (λ e. omega (arith, before, e, last))))
          ∙ ap (λ l. joined old count ++ l) (ap new (sym last) ∙ here ∙ ap (λ k. with_bytes (old k) at part) last)
          ∙ sym (with_bytes-right (joined old count) (old count) (count * 4096) at part size)
          ∙ ap (λ k. with_bytes (joined old count ++ old count) (k * 4096 + at) part) (sym last)
      | inr apart ↦
          ap (λ l. l ++ new count) (joined_put old new count i at part (λ j before. full j (omega arith)) (omega (arith, below, apart)) fits here (λ j before. others j (omega arith)))
          ∙ ap (λ l. with_bytes (joined old count) (i * 4096 + at) part ++ l) (others count (omega arith) (λ e. apart (sym e)))
          ∙ sym (with_bytes-left (joined old count) (old count) (i * 4096 + at) part (omega (arith, size, below, fits, apart)))
    ]
