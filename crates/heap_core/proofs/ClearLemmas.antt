-- Zeros put over a part of a dataspace, one piece after another.
use Rattle.std.proofs.Common.{◌≡◌, ℕ, ◌+◌, ◌≤◌, List, ◌++◌, length, take, sym, ap, ◌∙◌, arith, rules}
use Rattle.std.proofs.lemmas.List.{take-replicate, replicate-append-replicate}
use Rattle.std.specs.Prelude.{replicate}
use Rattle.own_model.specs.OwnState.{zeros}
use Rattle.own_model.proofs.ByteLemmas.{length-zeros}
use Rattle.dataspace_core.specs.Store.{Store, Exists, space_at, with_bytes_at}
use Rattle.dataspace_core.proofs.PutLemmas.{put_nothing, put_there, put_long, put_more}

-- the first of so many zeros
zeros_taken : (m n : ℕ) → m ≤ n → take m (replicate n 0) ≡ zeros m
unfolding zeros
zeros_taken m n less = take-replicate m n 0 less

zeros-append : (m n : ℕ) → zeros m ++ zeros n ≡ zeros (m + n)
unfolding zeros
zeros-append m n = replicate-append-replicate m n 0

module _ (store : Store) (ds : ℕ) (exists : Exists store ds) where
  -- at first no zeros are put
  pub zeros_none : (offset : ℕ) → with_bytes_at store ds offset (zeros 0) ≡ store
  unfolding zeros
  zeros_none offset = put_nothing store ds exists offset

  -- a piece of given zeros put behind those that were put before
  module _ (now : Store) (offset done piece : ℕ) (blank : List ℕ) (put : now ≡ with_bytes_at store ds offset (zeros done)) (are : blank ≡ replicate (length blank) 0) (less : piece ≤ length blank)
      (fits : offset + done + piece ≤ length (space_at store ds).bytes) where
    taken : take piece blank ≡ zeros piece
    taken = ap (take piece) are ∙ zeros_taken piece (length blank) less

    fits_so_far : offset + length (zeros done) ≤ length (space_at store ds).bytes
    fits_so_far = let long = length-zeros done in omega (arith, long, fits)

    pub piece_there : Exists now ds
    piece_there = put_there store ds exists now offset (zeros done) put fits_so_far

    pub piece_fits : offset + done + length (take piece blank) ≤ length (space_at now ds).bytes
    piece_fits = search (rules, taken, length-zeros, put_long, fits_so_far)

    pub piece_put : with_bytes_at now ds (offset + done) (take piece blank) ≡ with_bytes_at store ds offset (zeros (done + piece))
    piece_put =
        ap (with_bytes_at now ds (offset + done)) taken
        ∙ ap (λ n. with_bytes_at now ds (offset + n) (zeros piece)) (sym (length-zeros done))
        ∙ put_more store ds exists now offset (zeros done) put fits_so_far (zeros piece)
        ∙ ap (with_bytes_at store ds offset) (zeros-append done piece)
