-- Bytes that are written one after another: each finishes a line, or is put to the one that isn't finished yet.
use Rattle.std.proofs.Common.{◌≡◌, ◌≢◌, ℕ, zero, suc, ◌+◌, ◌*◌, ◌<◌, ◌≤◌, ◌==◌, Bool, true, false, cond, List, [], ◌∷◌, ◌++◌, length, take, drop, refl, sym, ap, ◌∙◌, arith, append_assoc, length-append, length-drop, add-one}
use Rattle.std.proofs.lemmas.Bool.Decides.{nat_tests}
use Rattle.std.proofs.lemmas.List.{append-nil, take-append-le, drop-append-le, drop-drop, take_all, drop_all}
use Rattle.std.proofs.lemmas.List.Elements.{All-nil, All-cons, All-append}
use Rattle.std.proofs.lemmas.List.Splits.{slice_split_none}
use Rattle.std.proofs.lemmas.Option.{none-some, same_Some}
use Rattle.std.specs.Prelude.{Option, Some, None, ◌&&◌, nat_le, codes}
use Rattle.std.specs.Str.{bytes_eq}
use Rattle.std.specs.Option.{option_map, option_and_then}
use Rattle.std.specs.List.{All, slice_split, onto_first}
use Rattle.std.specs.Simd.{first_chunks}
use Rattle.own_model.specs.LogText.{longest_request, hex_or_nothing, log_request}
use Rattle.own_model.specs.Text.{FirstWord, first_word, hex_digit_of, bytes_of_hex}
use Rattle.own_model.specs.LogService.{longest_log_line, is_newline, runs_in, full_runs, left_over, Logged, logged, written, IsUnbroken, IsLogLine, IsPartial, WritesAreLines, WritesAddUp}

-- ---- cutting

-- a byte more at the end of the last of pieces, of which this is the first
abbrev onto_last : ℕ → List ℕ → List (List ℕ) → List (List ℕ)
onto_last b piece [] = (piece ++ b ∷ []) ∷ []
onto_last b piece (next ∷ pieces) = piece ∷ onto_last b next pieces

-- pieces after a byte more, which is a newline or not
abbrev cut_more : Bool → ℕ → List (List ℕ) → List (List ℕ)
cut_more t b [] = []
cut_more true b (piece ∷ pieces) = (piece ∷ pieces) ++ [] ∷ []
cut_more false b (piece ∷ pieces) = onto_last b piece pieces

-- a text is cut into a piece at least
cut : (xs : List ℕ) → (piece : List ℕ) × (pieces : List (List ℕ)) × (slice_split is_newline xs ≡ piece ∷ pieces)
cut [] = ([], [], refl)
cut (x ∷ xs) =
    let rest = cut xs in
    elim (is_newline x) as (λ t. (piece : List ℕ) × (pieces : List (List ℕ)) × (cond t ([] ∷ slice_split is_newline xs) (onto_first x (slice_split is_newline xs)) ≡ piece ∷ pieces)) [
      | true ↦ ([], slice_split is_newline xs, refl)
      | false ↦ (x ∷ rest.0, rest.1, ap (onto_first x) rest.2)
    ]

-- a byte, a newline or not, at the front
cut_more-cons : (u t : Bool) (b x : ℕ) (piece : List ℕ) (pieces : List (List ℕ)) →
    cond u ([] ∷ cut_more t b (piece ∷ pieces)) (onto_first x (cut_more t b (piece ∷ pieces)))
    ≡ cut_more t b (cond u ([] ∷ piece ∷ pieces) (onto_first x (piece ∷ pieces)))
cut_more-cons true true b x piece pieces = refl
cut_more-cons true false b x piece pieces = refl
cut_more-cons false true b x piece pieces = refl
cut_more-cons false false b x piece [] = refl
cut_more-cons false false b x piece (next ∷ pieces) = refl

-- a byte alone
cut_one : (t : Bool) (b : ℕ) → cond t ([] ∷ [] ∷ []) ((b ∷ []) ∷ []) ≡ cut_more t b ([] ∷ [])
cut_one true b = refl
cut_one false b = refl

-- a text and a byte more
cut-push : (b : ℕ) (xs : List ℕ) → slice_split is_newline (xs ++ b ∷ []) ≡ cut_more (is_newline b) b (slice_split is_newline xs)
cut-push b [] = cut_one (is_newline b) b
cut-push b (x ∷ xs) = rw (cut-push b xs, (cut xs).2) (cut_more-cons (is_newline x) (is_newline b) b x (cut xs).0 (cut xs).1)

-- ---- runs

-- so many runs of a text are those of a longer one
chunks-append : (width count : ℕ) (xs ys : List ℕ) → count * width ≤ length xs → first_chunks width count (xs ++ ys) ≡ first_chunks width count xs
chunks-append width zero xs ys within = refl
chunks-append width (suc count) xs ys within =
    let first : width ≤ length xs = omega arith in
    let rest : count * width ≤ length (drop width xs) = simp length-drop (omega arith) in
    rw (take-append-le width xs ys first, drop-append-le width xs ys first, chunks-append width count (drop width xs) ys rest) refl

-- one run more
chunks-push : (width count : ℕ) (xs : List ℕ) → first_chunks width (suc count) xs ≡ first_chunks width count xs ++ take width (drop (count * width) xs) ∷ []
chunks-push width zero xs = let none : 0 * width ≡ 0 = omega arith in rw none refl
chunks-push width (suc count) xs = grind (arith, nat_tests, drop-drop, chunks-push width count (drop width xs))

-- a line that is finished by a byte or not, and what is left then
abbrev finished_by : Bool → Bool → ℕ → List ℕ → List (List ℕ)
finished_by true last b partial = partial ∷ []
finished_by false true b partial = (partial ++ b ∷ []) ∷ []
finished_by false false b partial = []

abbrev left_by : Bool → Bool → ℕ → List ℕ → List ℕ
left_by true last b partial = []
left_by false true b partial = []
left_by false false b partial = partial ++ b ∷ []

-- a byte more, which is a newline or not, and with which the line has the longest line's bytes or not
abbrev pub pushed : Bool → Bool → ℕ → Logged → Logged
pushed t last b l = record { lines = l.lines ++ finished_by t last b l.partial; partial = left_by t last b l.partial }

-- a line has all its bytes with one more
abbrev pub is_last : List ℕ → Bool
is_last partial = length partial + 1 == longest_log_line

-- how long what is left over is
length-left_over : (piece : List ℕ) → length (left_over piece) + runs_in piece * longest_log_line ≡ length piece
length-left_over piece = simp length-drop (omega arith)

-- a byte more at the end of a piece: its lines
runs-push : (last : Bool) (b : ℕ) (piece : List ℕ) → is_last (left_over piece) ≡ last →
    (full_runs (piece ++ b ∷ []) ≡ full_runs piece ++ finished_by false last b (left_over piece))
    × (left_over (piece ++ b ∷ []) ≡ left_by false last b (left_over piece))
runs-push true b piece e =
    let runs = runs_in piece in
    let left = left_over piece in
    let size = length-left_over piece in
    let whole : length left + 1 ≡ 200 = grind (arith, nat_tests) in
    let more : runs_in (piece ++ b ∷ []) ≡ runs + 1 = simp length-append (omega arith) in
    let front : first_chunks 200 runs (piece ++ b ∷ []) ≡ full_runs piece = chunks-append 200 runs piece (b ∷ []) (omega arith) in
    let back : drop (runs * 200) (piece ++ b ∷ []) ≡ left ++ b ∷ [] = drop-append-le (runs * 200) piece (b ∷ []) (omega arith) in
    let all : take 200 (left ++ b ∷ []) ≡ left ++ b ∷ [] = take_all 200 (left ++ b ∷ []) (simp length-append (omega arith)) in (
      rw (more, add-one, chunks-push 200 runs (piece ++ b ∷ []), front, back, all) refl,
      rw more (drop_all ((runs + 1) * 200) (piece ++ b ∷ []) (simp length-append (omega arith))),
    )
runs-push false b piece e = grind (arith, nat_tests, length-left_over, length-append, chunks-append, drop-append-le, append-nil)

-- a piece and others
logged-cons : (piece : List ℕ) (pieces more : List (List ℕ)) (next : List ℕ) → pieces ≡ next ∷ more →
    logged (piece ∷ pieces) ≡ record { lines = full_runs piece ++ left_over piece ∷ (logged pieces).lines; partial = (logged pieces).partial }
logged-cons piece pieces more next is = rw is refl

-- of pieces after a byte more there is a first
onto_last-cons : (b : ℕ) (piece : List ℕ) (pieces : List (List ℕ)) → (first : List ℕ) × (more : List (List ℕ)) × (onto_last b piece pieces ≡ first ∷ more)
onto_last-cons b piece [] = (piece ++ b ∷ [], [], refl)
onto_last-cons b piece (next ∷ pieces) = (piece, onto_last b next pieces, refl)

-- a byte more behind a first piece is a byte more behind the others
behind : (t last : Bool) (b : ℕ) (piece : List ℕ) (l : Logged) →
    record { lines = full_runs piece ++ left_over piece ∷ (pushed t last b l).lines; partial = (pushed t last b l).partial }
    ≡ pushed t last b (record { lines = full_runs piece ++ left_over piece ∷ l.lines; partial = l.partial })
behind t last b piece l = simp (append_assoc)

-- pieces after a byte more: what they log
logged-push : (t : Bool) (b : ℕ) (piece : List ℕ) (pieces : List (List ℕ)) →
    logged (cut_more t b (piece ∷ pieces)) ≡ pushed t (is_last (logged (piece ∷ pieces)).partial) b (logged (piece ∷ pieces))
logged-push true b piece [] = refl
logged-push true b piece (next ∷ pieces) = rw (logged-push true b next pieces) (behind true (is_last (logged (next ∷ pieces)).partial) b piece (logged (next ∷ pieces)))
logged-push false b piece [] = grind (arith, nat_tests, runs-push)
logged-push false b piece (next ∷ pieces) =
    let l = logged (next ∷ pieces) in
    let there = onto_last-cons b next pieces in
    logged-cons piece (onto_last b next pieces) there.1 there.0 there.2
    ∙ rw (logged-push false b next pieces) (behind false (is_last l.partial) b piece l)

-- ---- writing

-- a byte more after others
pub written-push : (partial bytes : List ℕ) (b : ℕ) →
    written partial (bytes ++ b ∷ []) ≡ pushed (is_newline b) (is_last (written partial bytes).partial) b (written partial bytes)
unfolding written
written-push partial bytes b =
    let pieces = cut (partial ++ bytes) in
    rw (← append_assoc partial bytes (b ∷ []), cut-push b (partial ++ bytes), pieces.2) (logged-push (is_newline b) b pieces.0 pieces.1)

-- no byte after a line that isn't finished yet
pub written-none : (partial : List ℕ) → IsPartial partial → written partial [] ≡ record { lines = []; partial = partial }
unfolding written
written-none partial is = grind (arith, nat_tests, append-nil, slice_split_none)

-- bytes more, one after another
abbrev pushes : Logged → List ℕ → Logged
pushes l [] = l
pushes l (b ∷ bs) = pushes (pushed (is_newline b) (is_last l.partial) b l) bs

-- bytes after others
written-pushes : (partial xs ys : List ℕ) → written partial (xs ++ ys) ≡ pushes (written partial xs) ys
written-pushes partial xs [] = rw (append-nil xs) refl
written-pushes partial xs (y ∷ ys) = grind (arith, nat_tests, append_assoc, written-push, written-pushes partial (xs ++ y ∷ []) ys)

-- the lines that stand before change nothing of what follows
pushes-lines : (lines : List (List ℕ)) (l : Logged) (bs : List ℕ) →
    pushes (record { lines = lines ++ l.lines; partial = l.partial }) bs
    ≡ record { lines = lines ++ (pushes l bs).lines; partial = (pushes l bs).partial }
pushes-lines lines l [] = refl
pushes-lines lines l (b ∷ bs) =
    let last = is_last l.partial in
    ap (λ ls. pushes (record { lines = ls; partial = left_by (is_newline b) last b l.partial }) bs) (append_assoc lines l.lines (finished_by (is_newline b) last b l.partial))
    ∙ pushes-lines lines (pushed (is_newline b) last b l) bs

-- bytes to a line that isn't finished yet
written-is : (partial bs : List ℕ) → IsPartial partial → written partial bs ≡ pushes (record { lines = []; partial = partial }) bs
written-is partial bs is = written-pushes partial [] bs ∙ ap (λ l. pushes l bs) (written-none partial is)

-- ---- what stays true

-- lines that are finished, and one that isn't yet
record AreLogged (l : Logged) : Type 0 where
  lines : All IsLogLine l.lines
  partial : IsPartial l.partial

-- a line alone
one_line : (line : List ℕ) → IsLogLine line → All IsLogLine (line ∷ [])
one_line line is = All-cons IsLogLine line [] is (All-nil IsLogLine)

-- a byte more leaves them so
logged_more : (t last : Bool) (b : ℕ) (l : Logged) → is_newline b ≡ t → is_last l.partial ≡ last → AreLogged l → AreLogged (pushed t last b l)
logged_more true last b l e full h =
    let line = one_line l.partial (record { within = omega (arith, h.partial.short); whole = h.partial.whole }) in
    record {
      lines = All-append IsLogLine l.lines (l.partial ∷ []) h.lines line;
      partial = record { short = omega arith; whole = All-nil IsUnbroken };
    }
logged_more false true b l e full h =
    let longer : length (l.partial ++ b ∷ []) ≡ 200 = simp length-append (grind (arith, nat_tests)) in
    let whole = All-append IsUnbroken l.partial (b ∷ []) h.partial.whole (All-cons IsUnbroken b [] e (All-nil IsUnbroken)) in
    let line = one_line (l.partial ++ b ∷ []) (record { within = omega (arith, longer); whole = whole }) in
    record {
      lines = All-append IsLogLine l.lines ((l.partial ++ b ∷ []) ∷ []) h.lines line;
      partial = record { short = omega arith; whole = All-nil IsUnbroken };
    }
logged_more false false b l e full h =
    let short : length l.partial + 1 < 200 = let before = h.partial.short in grind (arith, nat_tests) in
    let whole = All-append IsUnbroken l.partial (b ∷ []) h.partial.whole (All-cons IsUnbroken b [] e (All-nil IsUnbroken)) in
    record {
      lines = All-append IsLogLine l.lines [] h.lines (All-nil IsLogLine);
      partial = record { short = simp length-append (omega arith); whole = whole };
    }

-- and so do bytes
all_logged : (l : Logged) (bs : List ℕ) → AreLogged l → AreLogged (pushes l bs)
all_logged l [] h = h
all_logged l (b ∷ bs) h = all_logged (pushed (is_newline b) (is_last l.partial) b l) bs (logged_more (is_newline b) (is_last l.partial) b l refl refl h)

-- ---- one byte

-- what a byte does is what the pushed one does
written-one : (t last : Bool) (partial : List ℕ) (b : ℕ) → IsPartial partial → is_newline b ≡ t → is_last partial ≡ last →
    written partial (b ∷ []) ≡ pushed t last b (record { lines = []; partial = partial })
written-one t last partial b is e full = written-is partial (b ∷ []) is ∙ rw (e, full) refl

-- a newline finishes the line
pub written_newline : (partial : List ℕ) (b : ℕ) → IsPartial partial → b ≡ 10 → written partial (b ∷ []) ≡ record { lines = partial ∷ []; partial = [] }
written_newline partial b is newline = written-one true (is_last partial) partial b is (grind (arith, nat_tests)) refl

-- so does a byte with which it has the longest line's bytes
pub written_last : (partial : List ℕ) (b : ℕ) → IsPartial partial → b ≢ 10 → length partial + 1 ≡ 200 →
    written partial (b ∷ []) ≡ record { lines = (partial ++ b ∷ []) ∷ []; partial = [] }
written_last partial b is other full = written-one false true partial b is (grind (arith, nat_tests)) (grind (arith, nat_tests))

-- any other is put to it
pub written_more : (partial : List ℕ) (b : ℕ) → IsPartial partial → b ≢ 10 → length partial + 1 ≢ 200 →
    written partial (b ∷ []) ≡ record { lines = []; partial = partial ++ b ∷ [] }
written_more partial b is other short = written-one false false partial b is (grind (arith, nat_tests)) (grind (arith, nat_tests))

-- ---- laws

pub writes_lines : WritesAreLines
writes_lines partial bytes is =
    let start : AreLogged (record { lines = []; partial = partial }) = record { lines = All-nil IsLogLine; partial = is } in
    let h = all_logged (record { lines = []; partial = partial }) bytes start in
    rw (written-is partial bytes is) (h.lines, h.partial)

pub writes_add : WritesAddUp
writes_add partial xs ys is =
    let first = written partial xs in
    let left = (writes_lines partial xs is).1 in
    written-pushes partial xs ys
    ∙ ap (λ lines. pushes (record { lines = lines; partial = first.partial }) ys) (sym (append-nil first.lines))
    ∙ pushes-lines first.lines (record { lines = []; partial = first.partial }) ys
    ∙ rw (written-is first.partial ys left) refl

-- ---- how many bytes a request has

-- what follows a first byte, a space or not, is shorter than the whole
rest_by : (space : Bool) (b : ℕ) (bs rest : List ℕ) (more : FirstWord) → (more.rest ≡ Some rest → length rest < length bs) →
    (cond {A = FirstWord} space (record { word = []; rest = Some bs }) (record { word = b ∷ more.word; rest = more.rest })).rest ≡ Some rest → length rest < length (b ∷ bs)
rest_by true b bs rest more later is = let same : length bs ≡ length rest = ap length (same_Some bs rest is) in omega arith
rest_by false b bs rest more later is = let shorter = later is in omega arith

-- what follows a first word is shorter than the whole
pub rest_shorter : (text rest : List ℕ) → (first_word text).rest ≡ Some rest → length rest < length text
rest_shorter [] rest is = absurd (none-some rest is)
rest_shorter (b ∷ bs) rest is = rest_by (b == 32) b bs rest (first_word bs) (rest_shorter bs rest) is

-- two digits and the rest that stand for bytes
digits_by : (h l : Option ℕ) (rest : Option (List ℕ)) (bytes : List ℕ) (n : ℕ) → ((others : List ℕ) → rest ≡ Some others → length others * 2 ≡ n) →
    option_and_then (λ byte. option_map (λ (bytes : List ℕ). byte ∷ bytes) rest) (option_and_then (λ h. option_map (λ l. h * 16 + l) l) h) ≡ Some bytes → length bytes * 2 ≡ n + 2
digits_by None l rest bytes n later is = absurd (none-some bytes is)
digits_by (Some h) None rest bytes n later is = absurd (none-some bytes is)
digits_by (Some h) (Some l) None bytes n later is = absurd (none-some bytes is)
digits_by (Some h) (Some l) (Some others) bytes n later is = grind (arith, nat_tests, same_Some)

-- bytes are half as many as their digits
pub bytes_of_digits : (text bytes : List ℕ) → bytes_of_hex text ≡ Some bytes → length bytes * 2 ≡ length text
bytes_of_digits [] bytes is = let same : 0 ≡ length bytes = ap length (same_Some [] bytes is) in omega arith
bytes_of_digits (digit ∷ []) bytes is = absurd (none-some bytes is)
bytes_of_digits (high ∷ low ∷ rest) bytes is = grind (arith, nat_tests, digits_by (hex_digit_of high) (hex_digit_of low) (bytes_of_hex rest) bytes (length rest) (bytes_of_digits rest) is)

-- what a test lets through
let_through : (t : Bool) (o : Option (List ℕ)) (bytes : List ℕ) → cond t o None ≡ Some bytes → (t ≡ true) × (o ≡ Some bytes)
let_through true o bytes is = (refl, is)
let_through false o bytes is = absurd (none-some bytes is)

-- the bytes of what follows a first word, if there is any
pub hex_shorter : (text : List ℕ) (rest : Option (List ℕ)) (bytes : List ℕ) → (first_word text).rest ≡ rest → hex_or_nothing rest ≡ Some bytes → length bytes * 2 ≤ length text
hex_shorter text None bytes e is = let same : 0 ≡ length bytes = ap length (same_Some [] bytes is) in omega arith
hex_shorter text (Some hex) bytes e is = grind (arith, nat_tests, rest_shorter, bytes_of_digits, let_through)

-- so a request has at most half as many as it is long
pub request_is_short : (text bytes : List ℕ) → log_request text ≡ Some bytes → length bytes * 2 ≤ longest_request
request_is_short text bytes is =
    let long = nat_le (length text) longest_request in
    let passed = let_through (long && bytes_eq (first_word text).word (codes "WRITE")) (hex_or_nothing (first_word text).rest) bytes is in
    let short : length text ≤ 8192 = grind (arith, nat_tests, passed.0) in
    let half = hex_shorter text (first_word text).rest bytes refl passed.1 in
    omega arith
