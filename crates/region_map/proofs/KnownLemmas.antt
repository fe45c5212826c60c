-- Rows with small gaps in front of them: which they are, what stays of them, and that the first other gap is behind them.
use Rattle.std.proofs.Common.{◌≡◌, ◌≢◌, ℕ, suc, zero, ◌+◌, ◌-◌, ◌*◌, ◌<◌, ◌≤◌, true, false, cond, List, [], ◌∷◌, length, get_or, drop, Some, refl, sym, ap, subst, ◌∙◌, nat_le, ⊎_elim, arith}
use Rattle.std.proofs.lemmas.Bool.{cases_lt, leb-true, leb-false, le-leb, lt-leb}
use Rattle.std.proofs.lemmas.List.{length-drop, drop_all}
use Rattle.std.proofs.lemmas.List.Edits.{length-insert, length-remove}
use Rattle.std.specs.Prelude.{None}
use Rattle.std.specs.List.{insert as insert_at, remove as remove_at}
use Rattle.region_map.specs.declared.row.RegionRow.{RegionRow}
use Rattle.region_map.specs.RegionRows.{end_of, AreInOrder, count_to, gap_from}
use Rattle.region_map.specs.declared.known_rows.KnownRows.{KnownRows}
use Rattle.region_map.specs.KnownRows.{end_before, IsCloseAt, close_to, AreKnown, IsInserted, IsRemoved}
use Rattle.region_map.proofs.GapLemmas.{gap_behind, gap_in_front, gap_at_end, no_gap_at_end}

-- ---- which rows these are

-- the end before the row after a row is that row's
pub end_before-row : (low at : ℕ) (rows : List RegionRow) (row : RegionRow) → at < length rows → row ≡ get_or rows at row → end_before low (suc at) rows ≡ end_of row
unfolding end_before
end_before-row low zero [] row h is = absurd (omega arith)
end_before-row low (suc at) [] row h is = absurd (omega arith)
end_before-row low zero (r ∷ rows) row h is = ap end_of (sym is)
end_before-row low (suc at) (r ∷ rows) row h is = end_before-row (end_of r) at rows row (omega arith) is

-- a row that starts early enough behind the one in front is close
pub close_from : (low pages at : ℕ) (rows : List RegionRow) (row : RegionRow) → at < length rows → row ≡ get_or rows at row → row.start < end_before low at rows + pages * 4096 → IsCloseAt low pages at rows
unfolding end_before
close_from low pages zero [] row h is less = absurd (omega arith)
close_from low pages (suc at) [] row h is less = absurd (omega arith)
close_from low pages zero (r ∷ rows) row h is less = subst (λ (x : RegionRow). x.start < low + pages * 4096) is less
close_from low pages (suc at) (r ∷ rows) row h is less = close_from (end_of r) pages at rows row (omega arith) is less

-- and the other way round
pub close_start : (low pages at : ℕ) (rows : List RegionRow) (row : RegionRow) → row ≡ get_or rows at row → IsCloseAt low pages at rows → row.start < end_before low at rows + pages * 4096
unfolding end_before
close_start low pages zero [] row is close = absurd close
close_start low pages (suc at) [] row is close = absurd close
close_start low pages zero (r ∷ rows) row is close = subst (λ (x : RegionRow). x.start < low + pages * 4096) (sym is) close
close_start low pages (suc at) (r ∷ rows) row is close = close_start (end_of r) pages at rows row is close

-- there is a row
pub close_there : (low pages at : ℕ) (rows : List RegionRow) → IsCloseAt low pages at rows → at < length rows
close_there low pages zero [] close = absurd close
close_there low pages (suc at) [] close = absurd close
close_there low pages zero (r ∷ rows) close = omega arith
close_there low pages (suc at) (r ∷ rows) close = let rest = close_there (end_of r) pages at rows close in omega arith

-- what is small stays so among larger gaps
pub close-larger : (low pages more at : ℕ) (rows : List RegionRow) → pages ≤ more → IsCloseAt low pages at rows → IsCloseAt low more at rows
close-larger low pages more zero [] h close = absurd close
close-larger low pages more (suc at) [] h close = absurd close
close-larger low pages more zero (r ∷ rows) h close = omega arith
close-larger low pages more (suc at) (r ∷ rows) h close = close-larger (end_of r) pages more at rows h close

-- ---- a row more

-- those in front of it stay
close-insert_front : (low pages at i : ℕ) (rows : List RegionRow) (row : RegionRow) → i < at → IsCloseAt low pages i rows → IsCloseAt low pages i (insert_at rows at row)
close-insert_front low pages zero i rows row h close = absurd (omega arith)
close-insert_front low pages (suc at) zero [] row h close = absurd close
close-insert_front low pages (suc at) (suc i) [] row h close = absurd close
close-insert_front low pages (suc at) zero (r ∷ rows) row h close = close
close-insert_front low pages (suc at) (suc i) (r ∷ rows) row h close = close-insert_front (end_of r) pages at i rows row (omega arith) close

-- those behind the next one too
close-insert_behind : (low pages at i : ℕ) (rows : List RegionRow) (row : RegionRow) → at < i → IsCloseAt low pages i rows → IsCloseAt low pages (suc i) (insert_at rows at row)
close-insert_behind low pages at zero rows row h close = absurd (omega arith)
close-insert_behind low pages zero (suc i) [] row h close = absurd close
close-insert_behind low pages (suc at) (suc i) [] row h close = absurd close
close-insert_behind low pages zero (suc i) (r ∷ rows) row h close = close
close-insert_behind low pages (suc at) (suc i) (r ∷ rows) row h close = close-insert_behind (end_of r) pages at i rows row (omega arith) close

-- one put into a small gap parts it into two
close-insert_in : (low high pages at : ℕ) (rows : List RegionRow) (row : RegionRow) → AreInOrder low high (insert_at rows at row) → IsCloseAt low pages at rows → IsCloseAt low pages at (insert_at rows at row) × IsCloseAt low pages (suc at) (insert_at rows at row)
close-insert_in low high pages zero [] row order close = absurd close
close-insert_in low high pages (suc at) [] row order close = absurd close
close-insert_in low high pages zero (r ∷ rows) row order close =
    let from = order.0 in
    let next = order.1.0 in
    let some = row.some in
    (omega arith, omega arith)
close-insert_in low high pages (suc at) (r ∷ rows) row order close = close-insert_in (end_of r) high pages at rows row order.1 close

-- each row is in front of it, it, the next, or behind that
close-insert : (low pages at i : ℕ) (rows : List RegionRow) (row : RegionRow) →
    (i < at → IsCloseAt low pages i rows) →
    (i ≡ at → IsCloseAt low pages at (insert_at rows at row)) →
    (i ≡ suc at → IsCloseAt low pages (suc at) (insert_at rows at row)) →
    (suc at < i → IsCloseAt low pages (i - 1) rows) →
    IsCloseAt low pages i (insert_at rows at row)
close-insert low pages at i rows row front here next behind =
    ⊎_elim
    (λ (h : i < at). close-insert_front low pages at i rows row h (front h))
    (λ (h : at ≤ i). ⊎_elim
    (λ (past : at < i). ⊎_elim
    (λ (far : suc at < i).
    let back : suc (i - 1) ≡ i = omega arith in
    subst (λ n. IsCloseAt low pages n (insert_at rows at row)) back (close-insert_behind low pages at (i - 1) rows row (omega arith) (behind far)))
    (λ (near : i ≤ suc at).
    let e : i ≡ suc at = omega arith in
    subst (λ n. IsCloseAt low pages n (insert_at rows at row)) (sym e) (next e))
    (cases_lt (suc at) i))
    (λ (near : i ≤ at).
    let e : i ≡ at = omega arith in
    subst (λ n. IsCloseAt low pages n (insert_at rows at row)) (sym e) (here e))
    (cases_lt at i))
    (cases_lt i at)

-- ---- a row less

-- those in front of it stay
close-remove_front : (low pages at i : ℕ) (rows : List RegionRow) → i < at → IsCloseAt low pages i rows → IsCloseAt low pages i (remove_at rows at)
close-remove_front low pages zero i rows h close = absurd (omega arith)
close-remove_front low pages (suc at) zero [] h close = absurd close
close-remove_front low pages (suc at) (suc i) [] h close = absurd close
close-remove_front low pages (suc at) zero (r ∷ rows) h close = close
close-remove_front low pages (suc at) (suc i) (r ∷ rows) h close = close-remove_front (end_of r) pages at i rows (omega arith) close

-- those behind the next one too
close-remove_behind : (low pages at i : ℕ) (rows : List RegionRow) → at < i → IsCloseAt low pages (suc i) rows → IsCloseAt low pages i (remove_at rows at)
close-remove_behind low pages at zero rows h close = absurd (omega arith)
close-remove_behind low pages zero (suc i) [] h close = absurd close
close-remove_behind low pages (suc at) (suc i) [] h close = absurd close
close-remove_behind low pages zero (suc i) (r ∷ []) h close = absurd close
close-remove_behind low pages zero (suc i) (r ∷ q ∷ rows) h close = close
close-remove_behind low pages (suc at) (suc i) (r ∷ rows) h close = close-remove_behind (end_of r) pages at i rows (omega arith) close

-- ---- what is known

-- the rows before an index are close, but for one
abbrev pub Close : ℕ → ℕ → ℕ → ℕ → List RegionRow → Type 0
Close low pages count until rows = (i : ℕ) → i < until → i ≢ count → IsCloseAt low pages i rows

-- the rows before the one that may not be close are there
pub count_within : (low : ℕ) (known : KnownRows) (rows : List RegionRow) → AreKnown low known rows → known.count ≤ length rows
count_within low known rows is = let within = is.within in let order = known.order in omega arith

-- one that was put in is a row more
pub longer : (low : ℕ) (known : KnownRows) (at : ℕ) (rows : List RegionRow) (is : IsInserted low known at rows) → length rows ≡ length is.old + 1
longer low known at rows is = ap length is.is ∙ length-insert is.old at is.row is.there

-- one that was taken out is a row less
pub shorter : (low : ℕ) (known : KnownRows) (at : ℕ) (rows : List RegionRow) (is : IsRemoved low known at rows) → length rows + 1 ≡ length is.old
shorter low known at rows is = ap (λ n. n + 1) (ap length is.is) ∙ length-remove is.old at is.there

module _ (low pages count until at : ℕ) (rows : List RegionRow) (is : Close low pages count until rows) where
  module _ (high : ℕ) (row : RegionRow) (order : AreInOrder low high (insert_at rows at row)) (next last : ℕ) (one : next ≡ count + 1) (more : last ≡ until + 1) where
    -- a row is put in front of that one
    pub known-insert_front : at < count → count ≤ until → Close low pages next last (insert_at rows at row)
    known-insert_front h within i below other =
        let both = close-insert_in low high pages at rows row order (is at (omega arith) (λ e. absurd (omega arith))) in
        close-insert low pages at i rows row
        (λ front. is i (omega arith) (λ e. absurd (omega arith)))
        (λ here. both.0)
        (λ behind. both.1)
        (λ behind. is (i - 1) (omega arith) (λ e. other (omega arith)))

    -- or just there, and is close
    pub known-insert_next : at ≡ count → count ≤ until → IsCloseAt low pages at (insert_at rows at row) → Close low pages next last (insert_at rows at row)
    known-insert_next h within close i below other =
        close-insert low pages at i rows row
        (λ front. is i (omega arith) (λ e. absurd (omega arith)))
        (λ here. close)
        (λ behind. absurd (other (omega arith)))
        (λ behind. is (i - 1) (omega arith) (λ e. absurd (omega arith)))

    -- or behind it
    pub known-insert_between : count < at → at < until → Close low pages count last (insert_at rows at row)
    known-insert_between past h i below other =
        let both = close-insert_in low high pages at rows row order (is at h (λ e. absurd (omega arith))) in
        close-insert low pages at i rows row
        (λ front. is i (omega arith) other)
        (λ here. both.0)
        (λ behind. both.1)
        (λ behind. is (i - 1) (omega arith) (λ e. absurd (omega arith)))

  -- those in front of one that comes stay
  pub known-insert_cut : (row : RegionRow) (least : ℕ) → least ≤ until → least ≤ at → Close low pages count least (insert_at rows at row)
  known-insert_cut row least few front i below other = close-insert_front low pages at i rows row (omega arith) (is i (omega arith) other)

  -- a row goes in front of that one, and leaves a small gap
  pub known-remove_in : (less : ℕ) → suc less ≡ count → at < count → count ≤ until → IsCloseAt low pages at (remove_at rows at) → Close low pages less (until - 1) (remove_at rows at)
  known-remove_in less down h within close i below other =
      ⊎_elim
      (λ (front : i < at). close-remove_front low pages at i rows front (is i (omega arith) (λ e. absurd (omega arith))))
      (λ (past : at ≤ i). ⊎_elim
      (λ (behind : at < i). close-remove_behind low pages at i rows behind (is (suc i) (omega arith) (λ e. other (omega arith))))
      (λ (near : i ≤ at). let e : i ≡ at = omega arith in subst (λ n. IsCloseAt low pages n (remove_at rows at)) (sym e) close)
      (cases_lt at i))
      (cases_lt i at)

  -- or behind it
  pub known-remove_past : count ≤ at → at < until → IsCloseAt low pages at (remove_at rows at) → Close low pages count (until - 1) (remove_at rows at)
  known-remove_past h within close i below other =
      ⊎_elim
      (λ (front : i < at). close-remove_front low pages at i rows front (is i (omega arith) other))
      (λ (past : at ≤ i). ⊎_elim
      (λ (behind : at < i). close-remove_behind low pages at i rows behind (is (suc i) (omega arith) (λ e. absurd (omega arith))))
      (λ (near : i ≤ at). let e : i ≡ at = omega arith in subst (λ n. IsCloseAt low pages n (remove_at rows at)) (sym e) close)
      (cases_lt at i))
      (cases_lt i at)

  -- or in front of it, and leaves a gap that may be large
  pub known-remove_front : at < count → count ≤ until → Close low pages at (count - 1) (remove_at rows at)
  known-remove_front h within i below other =
      ⊎_elim
      (λ (front : i < at). close-remove_front low pages at i rows front (is i (omega arith) (λ e. absurd (omega arith))))
      (λ (past : at ≤ i). ⊎_elim
      (λ (behind : at < i). close-remove_behind low pages at i rows behind (is (suc i) (omega arith) (λ e. absurd (omega arith))))
      (λ (near : i ≤ at). absurd (other (omega arith)))
      (cases_lt at i))
      (cases_lt i at)

  -- those in front of one that goes stay
  pub known-remove_cut : (least : ℕ) → least ≤ until → least ≤ at → Close low pages count least (remove_at rows at)
  known-remove_cut least few front i below other = close-remove_front low pages at i rows (omega arith) (is i (omega arith) other)

  -- that one is close too
  pub known-joined : IsCloseAt low pages count rows → Close low pages until until rows
  known-joined close i below other =
      ⊎_elim
      (λ (front : i < count). is i below (λ e. absurd (omega arith)))
      (λ (past : count ≤ i). ⊎_elim
      (λ (behind : count < i). is i below (λ e. absurd (omega arith)))
      (λ (near : i ≤ count). let e : count ≡ i = omega arith in subst (λ n. IsCloseAt low pages n rows) e close)
      (cases_lt count i))
      (cases_lt i count)

-- ---- the walk

-- it doesn't pass the last row
pub close_to-within : (low pages : ℕ) (rows : List RegionRow) → close_to low pages rows ≤ length rows
unfolding close_to
close_to-within low pages [] = omega arith
close_to-within low pages (r ∷ rows) =
    let rest = close_to-within (end_of r) pages rows in
    elim (nat_le (low + pages * 4096) r.start) as (λ b. cond b 0 (suc (close_to (end_of r) pages rows)) ≤ length (r ∷ rows)) [
      | true ↦ omega arith
      | false ↦ omega arith
    ]

-- it ends at a row that isn't close
pub close_to-stop : (low pages : ℕ) (row : RegionRow) (rows : List RegionRow) → low + pages * 4096 ≤ row.start → close_to low pages (row ∷ rows) ≡ 0
unfolding close_to
close_to-stop low pages row rows h = ap (λ b. cond b 0 (suc (close_to (end_of row) pages rows))) (le-leb _ _ h)

-- and passes one that is
pub close_to-next : (low pages : ℕ) (row : RegionRow) (rows : List RegionRow) → row.start < low + pages * 4096 → close_to low pages (row ∷ rows) ≡ suc (close_to (end_of row) pages rows)
unfolding close_to
close_to-next low pages row rows h = ap (λ b. cond b 0 (suc (close_to (end_of row) pages rows))) (lt-leb _ _ h)

-- after the last there is none
pub close_to-end : (low pages : ℕ) → close_to low pages [] ≡ 0
unfolding close_to
close_to-end low pages = refl

-- the rows that it passes are close
close_to-close : (low pages i : ℕ) (rows : List RegionRow) → i < close_to low pages rows → IsCloseAt low pages i rows
unfolding close_to
close_to-close low pages i [] h = absurd (omega arith)
close_to-close low pages zero (r ∷ rows) h =
    elim (nat_le (low + pages * 4096) r.start) as (λ b. nat_le (low + pages * 4096) r.start ≡ b → 0 < cond b 0 (suc (close_to (end_of r) pages rows)) → r.start < low + pages * 4096) [
      | true ↦ λ e less. absurd (omega arith)
      | false ↦ λ e less. leb-false _ _ e
    ] refl h
close_to-close low pages (suc i) (r ∷ rows) h =
    elim (nat_le (low + pages * 4096) r.start) as (λ b. suc i < cond b 0 (suc (close_to (end_of r) pages rows)) → IsCloseAt (end_of r) pages i rows) [
      | true ↦ λ less. absurd (omega arith)
      | false ↦ λ less. close_to-close (end_of r) pages i rows (omega arith)
    ] h

-- the next one isn't
close_to-far : (low pages : ℕ) (rows : List RegionRow) → close_to low pages rows < length rows → ¬ IsCloseAt low pages (close_to low pages rows) rows
unfolding close_to
close_to-far low pages [] h close = absurd (omega arith)
close_to-far low pages (r ∷ rows) h close =
    elim (nat_le (low + pages * 4096) r.start) as (λ b. nat_le (low + pages * 4096) r.start ≡ b → cond b 0 (suc (close_to (end_of r) pages rows)) < length (r ∷ rows) → IsCloseAt low pages (cond b 0 (suc (close_to (end_of r) pages rows))) (r ∷ rows) → ⊥) [
      | true ↦ λ e less is. let before = leb-true _ _ e in omega arith
      | false ↦ λ e less is. close_to-far (end_of r) pages rows (omega arith) is
    ] refl h close

-- rows behind an index are close where they are so behind its end
close_behind : (low pages count i : ℕ) (rows : List RegionRow) → count ≤ length rows → IsCloseAt (end_before low count rows) pages i (drop count rows) → IsCloseAt low pages (count + i) rows
unfolding end_before
close_behind low pages zero i rows h close = let same : i ≡ 0 + i = omega arith in subst (λ n. IsCloseAt low pages n rows) same close
close_behind low pages (suc count) i [] h close = absurd (omega arith)
close_behind low pages (suc count) i (r ∷ rows) h close =
    let same : suc (count + i) ≡ suc count + i = omega arith in
    subst (λ n. IsCloseAt low pages n (r ∷ rows)) same (close_behind (end_of r) pages count i rows (omega arith) close)

-- and the other way round
close_ahead : (low pages count i : ℕ) (rows : List RegionRow) → count ≤ length rows → IsCloseAt low pages (count + i) rows → IsCloseAt (end_before low count rows) pages i (drop count rows)
unfolding end_before
close_ahead low pages zero i rows h close = let same : 0 + i ≡ i = omega arith in subst (λ n. IsCloseAt low pages n rows) same close
close_ahead low pages (suc count) i [] h close = absurd (omega arith)
close_ahead low pages (suc count) i (r ∷ rows) h close =
    let same : suc count + i ≡ suc (count + i) = omega arith in
    close_ahead (end_of r) pages count i rows (omega arith) (subst (λ n. IsCloseAt low pages n (r ∷ rows)) same close)

module _ (low pages count more : ℕ) (rows : List RegionRow) (h : count ≤ length rows) (walk : more ≡ close_to (end_before low count rows) pages (drop count rows)) where
  -- the walk from an index on doesn't pass the last row
  pub walk-within : count + more ≤ length rows
  walk-within = let fits = close_to-within (end_before low count rows) pages (drop count rows) in let rest = length-drop count rows in omega arith

  -- what it passes is known
  pub walk-known : (until longer : ℕ) → Close low pages count until rows → count ≤ until → ((i : ℕ) → i < longer → count + more ≤ i → i < until) → Close low pages (count + more) longer rows
  walk-known until longer is within either i below other =
      ⊎_elim
      (λ (front : i < count). is i (omega arith) (λ e. absurd (omega arith)))
      (λ (past : count ≤ i). ⊎_elim
      (λ (walked : i < count + more).
      let there : count + (i - count) ≡ i = omega arith in
      subst (λ n. IsCloseAt low pages n rows) there (close_behind low pages count (i - count) rows h (close_to-close (end_before low count rows) pages (i - count) (drop count rows) (omega arith))))
      (λ (behind : count + more ≤ i). is i (either i below behind) (λ e. other (omega arith)))
      (cases_lt i (count + more)))
      (cases_lt i count)

  -- and the next row isn't close
  pub walk-far : count + more < length rows → ¬ IsCloseAt low pages (count + more) rows
  walk-far below close =
      let rest = length-drop count rows in
      close_to-far (end_before low count rows) pages (drop count rows) (omega arith)
      (subst (λ n. IsCloseAt (end_before low count rows) pages n (drop count rows)) walk (close_ahead low pages count more rows h close))

-- ---- the gap

-- rows in order don't end before their window
end_before-from : (low high at : ℕ) (rows : List RegionRow) → AreInOrder low high rows → low ≤ end_before low at rows
unfolding end_before
end_before-from low high zero rows order = omega arith
end_before-from low high (suc at) [] order = omega arith
end_before-from low high (suc at) (r ∷ rows) order =
    let from = order.0 in
    let rest = end_before-from (end_of r) high at rows order.1 in
    omega arith

-- the rows in front of one that isn't close are those that start up to the gap
pub count_to-gap : (low high pages at : ℕ) (rows : List RegionRow) → 1 ≤ pages → AreInOrder low high rows → at ≤ length rows → (at < length rows → ¬ IsCloseAt low pages at rows) → count_to (end_before low at rows) rows ≡ at
unfolding end_before count_to
count_to-gap low high pages zero [] some order h far = refl
count_to-gap low high pages (suc at) [] some order h far = absurd (omega arith)
count_to-gap low high pages zero (r ∷ rows) some order h far =
    ⊎_elim
    (λ (close : r.start < low + pages * 4096). absurd (far (omega arith) close))
    (λ (room : low + pages * 4096 ≤ r.start). ap (λ b. cond b (suc (count_to low rows)) 0) (lt-leb r.start low (omega arith)))
    (cases_lt r.start (low + pages * 4096))
count_to-gap low high pages (suc at) (r ∷ rows) some order h far =
    let from = end_before-from (end_of r) high at rows order.1 in
    let rest = count_to-gap (end_of r) high pages at rows some order.1 (omega arith) (λ below. far (omega arith)) in
    ap (λ b. cond b (suc (count_to (end_before (end_of r) at rows) rows)) 0) (le-leb r.start (end_before (end_of r) at rows) (omega arith)) ∙ ap suc rest

-- no gap is in front of rows that are close
gap_past : (low high pages count : ℕ) (rows : List RegionRow) → count ≤ length rows → ((i : ℕ) → i < count → IsCloseAt low pages i rows) → gap_from low high rows pages ≡ gap_from (end_before low count rows) high (drop count rows) pages
unfolding end_before
gap_past low high pages zero rows h is = refl
gap_past low high pages (suc count) [] h is = absurd (omega arith)
gap_past low high pages (suc count) (r ∷ rows) h is = gap_behind low high pages r rows (is 0 (omega arith)) ∙ gap_past (end_of r) high pages count rows (omega arith) (λ i below. is (suc i) (omega arith))

-- it is in front of the first that isn't
gap_before : (low high pages count : ℕ) (rows : List RegionRow) → count < length rows → ¬ IsCloseAt low pages count rows → gap_from (end_before low count rows) high (drop count rows) pages ≡ Some (end_before low count rows)
unfolding end_before
gap_before low high pages zero [] h far = absurd (omega arith)
gap_before low high pages (suc count) [] h far = absurd (omega arith)
gap_before low high pages zero (r ∷ rows) h far =
    ⊎_elim
    (λ (close : r.start < low + pages * 4096). absurd (far close))
    (λ (room : low + pages * 4096 ≤ r.start). gap_in_front low high pages r rows room)
    (cases_lt r.start (low + pages * 4096))
gap_before low high pages (suc count) (r ∷ rows) h far = gap_before (end_of r) high pages count rows (omega arith) far

module _ (low high pages count until : ℕ) (rows : List RegionRow) (is : Close low pages count until rows) (within : count ≤ until) (h : count ≤ length rows) where
  past : gap_from low high rows pages ≡ gap_from (end_before low count rows) high (drop count rows) pages
  past = gap_past low high pages count rows h (λ i below. is i (omega arith) (λ e. absurd (omega arith)))

  -- the first gap is in front of the row that isn't close
  pub known-gap : count < length rows → ¬ IsCloseAt low pages count rows → gap_from low high rows pages ≡ Some (end_before low count rows)
  known-gap below far = past ∙ gap_before low high pages count rows below far

  -- or after the last row
  pub known-gap_at_end : length rows ≤ count → end_before low count rows + pages * 4096 ≤ high → gap_from low high rows pages ≡ Some (end_before low count rows)
  known-gap_at_end all room = past ∙ ap (λ rest. gap_from (end_before low count rows) high rest pages) (drop_all count rows all) ∙ gap_at_end (end_before low count rows) high pages room

  -- or nowhere
  pub known-no_gap : length rows ≤ count → high < end_before low count rows + pages * 4096 → gap_from low high rows pages ≡ None
  known-no_gap all full = past ∙ ap (λ rest. gap_from (end_before low count rows) high rest pages) (drop_all count rows all) ∙ no_gap_at_end (end_before low count rows) high pages full
