-- How far the first line of a text reaches, and what is left behind it.
use Rattle.std.proofs.Common.{◌≡◌, ℕ, ◌+◌, ◌-◌, ◌<◌, ◌≤◌, ltb, cond, not, Bool, true, false, List, [], ◌∷◌, ◌++◌, length, take, drop, Some, None, arith, refl, sym, ◌∙◌, ap, position, suc, zero, ⊎_elim}
use Rattle.std.proofs.lemmas.Bool.{cases_lt}
use Rattle.std.proofs.lemmas.Bool.Decides.{nat_tests}
use Rattle.std.proofs.lemmas.List.{drop_all, take_all, take_rest, take-append-drop}
use Rattle.std.proofs.lemmas.List.Folds.{prefix_len-append, length-prefix_len}
use Rattle.std.proofs.lemmas.List.Sums.{prefix_len-le-length, prefix_len_passes}
use Rattle.std.proofs.lemmas.List.Splits.{slice_split_first, slice_split_none, length-slice_split}
use Rattle.std.specs.List.{All}
use Rattle.own_model.specs.Text.{lines_of, without_empty_end}
use Rattle.run_devices.specs.Lines.{is_newline, line_length, line_of, after_line}

-- a line is no longer than all the bytes
pub line_length-le : (bytes : List ℕ) → line_length bytes ≤ length bytes
line_length-le bytes = prefix_len-le-length (λ b. not (is_newline b)) bytes

-- what isn't true is false
not-true : (b : Bool) → not b ≡ true → b ≡ false
not-true true e = absurd (cc)
not-true false e = refl

-- where no newline is found, the line is all there is
found_none : (n len : ℕ) → n ≤ len → cond (ltb n len) (Some n) None ≡ None → len ≡ n
found_none n len le none = grind (arith, nat_tests)

-- bytes without a newline are one line
pub line_length-none : (bytes : List ℕ) → position is_newline bytes ≡ None → length bytes ≡ line_length bytes
line_length-none bytes none = found_none (line_length bytes) (length bytes) (line_length-le bytes) none

-- bytes behind a newline don't count
pub line_length-append_in : (xs ys : List ℕ) → line_length xs < length xs → line_length (xs ++ ys) ≡ line_length xs
line_length-append_in xs ys within = prefix_len-append (λ b. not (is_newline b)) xs ys ∙ grind (arith, nat_tests)

-- bytes without a newline are of the line
pub line_length-append_past : (xs ys : List ℕ) → line_length xs ≡ length xs → line_length (xs ++ ys) ≡ length xs + line_length ys
line_length-append_past xs ys whole = prefix_len-append (λ b. not (is_newline b)) xs ys ∙ grind (arith, nat_tests)

-- of a line of which n bytes were passed the others are left
pub line_length-drop : (n : ℕ) (xs : List ℕ) → n ≤ line_length xs → n + line_length (drop n xs) ≡ line_length xs
line_length-drop zero xs le = omega arith
line_length-drop (suc n) [] le = omega arith
line_length-drop (suc n) (x ∷ xs) le =
    let ih : n ≤ line_length xs → n + line_length (drop n xs) ≡ line_length xs = line_length-drop n xs in grind (arith, nat_tests)

-- the first piece is a line, unless it is empty and the last
without_empty_end-cons : (line : List ℕ) (pieces : List (List ℕ)) → 0 < length pieces → without_empty_end (line ∷ pieces) ≡ line ∷ without_empty_end pieces
without_empty_end-cons line [] some = absurd (omega arith)
without_empty_end-cons [] (piece ∷ pieces) some = refl
without_empty_end-cons (b ∷ bs) (piece ∷ pieces) some = refl

-- where a newline stands
lines_of-within : (bytes : List ℕ) → line_length bytes < length bytes → lines_of bytes ≡ line_of bytes ∷ lines_of (after_line bytes)
lines_of-within bytes within = grind (arith, nat_tests, slice_split_first, without_empty_end-cons, length-slice_split)

-- where none stands, each byte fails the test
each_plain : (bytes : List ℕ) → line_length bytes ≡ length bytes → All (λ b. is_newline b ≡ false) bytes
each_plain bytes whole k d within = grind (arith, nat_tests, not-true, prefix_len_passes)

-- where none stands
lines_of-whole : (bytes : List ℕ) → 0 < length bytes → line_length bytes ≡ length bytes → lines_of bytes ≡ line_of bytes ∷ lines_of (after_line bytes)
lines_of-whole [] some whole = absurd (omega arith)
lines_of-whole (b ∷ bs) some whole = grind (arith, nat_tests, take_all, drop_all, slice_split_none, each_plain)

-- a text that isn't empty has a first line, and then the lines of what stands after it
pub lines_of-cons : (bytes : List ℕ) → 0 < length bytes → lines_of bytes ≡ line_of bytes ∷ lines_of (after_line bytes)
lines_of-cons bytes some =
    ⊎_elim (lines_of-within bytes) (λ past. lines_of-whole bytes some (omega (arith, past, line_length-le bytes)))
    (cases_lt (line_length bytes) (length bytes))

-- more bytes make no line shorter
pub line_length-append-le : (xs ys : List ℕ) → line_length xs ≤ line_length (xs ++ ys)
line_length-append-le xs ys =
    ⊎_elim (λ within. omega (arith, line_length-append_in xs ys within))
    (λ past. omega (arith, line_length-le xs, line_length-append_past xs ys (omega (arith, past, line_length-le xs))))
    (cases_lt (line_length xs) (length xs))

-- more bytes behind these make no line shorter
pub line_length-kept : (xs ys : List ℕ) → take (length xs) ys ≡ xs → line_length xs ≤ line_length ys
line_length-kept xs ys kept =
    let whole : xs ++ drop (length xs) ys ≡ ys = ap (λ front. front ++ drop (length xs) ys) (sym kept) ∙ take-append-drop (length xs) ys in
    omega (arith, line_length-append-le xs (drop (length xs) ys), ap line_length whole)

-- of a line of which n bytes were looked at the others are left in the slice behind them
pub line_length-rest : (n : ℕ) (xs : List ℕ) → n ≤ line_length xs → n + line_length (take (length xs - n) (drop n xs)) ≡ line_length xs
line_length-rest n xs le = ap (λ rest. n + line_length rest) (take_rest xs n) ∙ line_length-drop n xs le

-- how long a line is, of which all was looked at or a part
pub ruleset line_lengths = (line_length-le, line_length-none, line_length-drop, line_length-rest)

-- a first line is as long as it reaches
pub length-line_of : (bytes : List ℕ) → length (line_of bytes) ≡ line_length bytes
length-line_of bytes = length-prefix_len (λ b. not (is_newline b)) bytes
