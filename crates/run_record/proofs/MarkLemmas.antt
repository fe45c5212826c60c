-- What is met in each line: an event more is a mark more, at its place.
use Rattle.std.proofs.Common.{◌≡◌, ℕ, ◌+◌, ◌<◌, ◌≤◌, zero, suc, nat_eq, cond, ◌&&◌, ◌||◌, Bool, true, false, List, [], ◌∷◌, ◌++◌, length, get_or, slice_set, append-nil, append_assoc, Some, None, Result, Ok, Err, OnOk, arith, refl, sym, ap, ◌∙◌}
use Rattle.std.specs.List.{list_all, list_any}
use Rattle.std.proofs.lemmas.Bool.Decides.{nat_tests}
use Rattle.std.proofs.lemmas.Grind.{flat_map-append}
use Rattle.std.proofs.lemmas.List.{get_or-map, map-set}
use Rattle.std.proofs.lemmas.List.Concat.{flat_map-cons}
use Rattle.std.proofs.lemmas.List.Folds.{list_all-append, list_any-append}
use Rattle.std.proofs.Math.Bool.{or-false, or-true, and-true}
use Rattle.run_record.specs.Marked.{all_marked, marked, marks_after, noted_more, unmarked}
use Rattle.run_record.specs.LineRecords.{record_of_first, record_of_more}
use Rattle.run_record.specs.RecordedCalls.{Event, RecordedCall, Meeting}
use Rattle.run_record.specs.RecordedCalls.Meeting.{Logs, Hears}
use Rattle.run_record.specs.Views.{mark_view, marks_view}
use Rattle.run_record.specs.declared.line_marks.LineMark.{LineMark as Marked}
use Rattle.run_record.specs.Recorded.{LineMark, expecting, recorded_calls_at, hears, holds, is_logged, logs_at, mark_of, marks_of, note_of, noted, verdict}

-- ---- one line

any_more : {X : Type 0} (p : X → Bool) (xs : List X) (x : X) → list_any p (xs ++ x ∷ []) ≡ (list_any p xs || p x)
any_more p xs x = list_any-append p xs (x ∷ []) ∙ ap (λ b. list_any p xs || b) (or-false (p x))

all_more : {X : Type 0} (p : X → Bool) (xs : List X) (x : X) → list_all p (xs ++ x ∷ []) ≡ (list_all p xs && p x)
all_more p xs x = list_all-append p xs (x ∷ []) ∙ ap (λ b. list_all p xs && b) (and-true (p x))

-- the first hearing
heard_once : (line : List ℕ) (h : RecordedCall) → note_of line h (h ∷ []) ≡ record_of_more line (record_of_first h) h
heard_once line h =
    rw (
      or-false h.expects,
      or-false h.binds,
      or-false h.lost,
      and-true (holds h.lines line h),
      and-true (holds h.lines (expecting line h.reply) h),
      and-true (holds h.lines (expecting line (verdict h.reply)) h),
    ) refl

-- and one more
heard_again : (line : List ℕ) (first : RecordedCall) (hs : List RecordedCall) (h : RecordedCall) →
    note_of line first (hs ++ h ∷ []) ≡ record_of_more line (note_of line first hs) h
heard_again line first hs h =
    rw (
      any_more (λ (g : RecordedCall). g.expects) hs h,
      any_more (λ (g : RecordedCall). g.binds) hs h,
      any_more (λ (g : RecordedCall). g.lost) hs h,
      all_more (holds first.lines line) hs h,
      all_more (holds first.lines (expecting line first.reply)) hs h,
      all_more (holds first.lines (expecting line (verdict first.reply))) hs h,
    ) refl

noted_again : (line : List ℕ) (hs : List RecordedCall) (h : RecordedCall) → noted line (hs ++ h ∷ []) ≡ Some (noted_more line (noted line hs) h)
noted_again line [] h = ap Some (heard_once line h)
noted_again line (first ∷ more) h = ap Some (heard_again line first (first ∷ more) h)

-- what an event says of a line, where it is of that line or not
abbrev hears_if : Bool → Meeting → List RecordedCall
hears_if b meeting = cond b (hears meeting) []

mark_met : (line : List ℕ) (logs : Bool) (hs : List RecordedCall) (meeting : Meeting) (b : Bool) →
    record { line = line; logs = logs || (b && is_logged meeting); note = noted line (hs ++ hears_if b meeting) }
    ≡ cond b (marked (record { line = line; logs = logs; note = noted line hs }) meeting) (record { line = line; logs = logs; note = noted line hs })
mark_met line logs hs Logs true = rw (append-nil hs, or-true logs) refl
mark_met line logs hs (Hears h) true = rw (noted_again line hs h, or-false logs) refl
mark_met line logs hs meeting false = rw (append-nil hs, or-false logs) refl

hearings_more : (n : ℕ) (es : List Event) (e : Event) →
    recorded_calls_at n (es ++ e ∷ []) ≡ recorded_calls_at n es ++ hears_if (nat_eq e.number n) e.meeting
hearings_more n es e =
    let f = λ (x : Event). cond (nat_eq x.number n) (hears x.meeting) [] in
    flat_map-append f es (e ∷ []) ∙ ap (λ hs. recorded_calls_at n es ++ hs) (flat_map-cons f e [] ∙ append-nil (f e))

mark_more : (n : ℕ) (es : List Event) (e : Event) (line : List ℕ) →
    mark_of n (es ++ e ∷ []) line ≡ cond (nat_eq e.number n) (marked (mark_of n es line) e.meeting) (mark_of n es line)
mark_more n es e line =
    rw (any_more (λ (x : Event). nat_eq x.number n && is_logged x.meeting) es e, hearings_more n es e)
    (mark_met line (logs_at n es) (recorded_calls_at n es) e.meeting (nat_eq e.number n))

-- ---- all lines

marks_more : (n : ℕ) (es : List Event) (e : Event) (lines : List (List ℕ)) →
    marks_of n (es ++ e ∷ []) lines ≡ marks_after n e (marks_of n es lines)
marks_more n es e [] = refl
marks_more n es e (line ∷ lines) =
    ap (λ mark. mark ∷ marks_of (n + 1) (es ++ e ∷ []) lines) (mark_more n es e line)
    ∙ ap (λ marks. cond (nat_eq e.number n) (marked (mark_of n es line) e.meeting) (mark_of n es line) ∷ marks) (marks_more (n + 1) es e lines)

marks_all : (es more : List Event) (lines : List (List ℕ)) → all_marked more (marks_of 1 es lines) ≡ marks_of 1 (es ++ more) lines
marks_all es [] lines = ap (λ all. marks_of 1 all lines) (sym (append-nil es))
marks_all es (e ∷ more) lines =
    ap (all_marked more) (sym (marks_more 1 es e lines))
    ∙ marks_all (es ++ e ∷ []) more lines
    ∙ ap (λ all. marks_of 1 all lines) (append_assoc es (e ∷ []) more)

nothing_marked : (n : ℕ) (lines : List (List ℕ)) → unmarked lines ≡ marks_of n [] lines
nothing_marked n [] = refl
nothing_marked n (line ∷ lines) = ap (λ marks. record { line = line; logs = false; note = None } ∷ marks) (nothing_marked (n + 1) lines)

-- the events of a play are marked one after another
pub marks_in_all : (es : List Event) (lines : List (List ℕ)) → all_marked es (unmarked lines) ≡ marks_of 1 es lines
marks_in_all es lines = ap (all_marked es) (nothing_marked 1 lines) ∙ marks_all [] es lines

pub marked_on : (es more : List Event) (marks : List LineMark) → all_marked (es ++ more) marks ≡ all_marked more (all_marked es marks)
marked_on [] more marks = refl
marked_on (e ∷ es) more marks = marked_on es more (marks_after 1 e marks)

-- ---- at a place

not_same : (m n : ℕ) → m < n → nat_eq m n ≡ false
not_same m n less = grind (arith, nat_tests)

not_above : (m n p : ℕ) → m ≡ n + suc p → nat_eq m n ≡ false
not_above m n p is = grind (arith, nat_tests)

same : (m n : ℕ) → m ≡ n + 0 → nat_eq m n ≡ true
same m n is = grind (arith, nat_tests)

-- of an event in a line before these nothing is marked
pub marks_low : (n : ℕ) (e : Event) (marks : List LineMark) → e.number < n → marks_after n e marks ≡ marks
marks_low n e [] low = refl
marks_low n e (mark ∷ marks) low = rw (not_same e.number n low, marks_low (n + 1) e marks (omega (arith, low))) refl

-- nor of one behind them
high : (n place : ℕ) (e : Event) (marks : List LineMark) → e.number ≡ n + place → length marks ≤ place → marks_after n e marks ≡ marks
high n place e [] is above = refl
high n zero e (mark ∷ marks) is above = absurd (omega (arith, above))
high n (suc place) e (mark ∷ marks) is above =
    rw (not_above e.number n place is, high (n + 1) place e marks (omega (arith, is)) (omega (arith, above))) refl

-- and of one among them the mark at its place
at : (n place : ℕ) (e : Event) (marks : List LineMark) (d : LineMark) → e.number ≡ n + place → place < length marks →
    marks_after n e marks ≡ slice_set marks place (marked (get_or marks place d) e.meeting)
at n place e [] d is within = absurd (omega (arith, within))
at n zero e (mark ∷ marks) d is within = rw (same e.number n is, marks_low (n + 1) e marks (omega (arith, is))) refl
at n (suc place) e (mark ∷ marks) d is within =
    rw (not_above e.number n place is) (ap (λ ms. mark ∷ ms) (at (n + 1) place e marks d (omega (arith, is)) (omega (arith, within))))

-- the same of marks as contracts see them
many : (marks : List Marked) → length (marks_view marks) ≡ length marks
many [] = refl
many (mark ∷ marks) = ap suc (many marks)

event_of : ℕ → Meeting → Event
event_of number meeting = record { number = number; meeting = meeting }

pub marked_at : (number place : ℕ) (meeting : Meeting) (marks : List Marked) (old new : Marked) → number ≡ 1 + place → place < length marks →
    old ≡ get_or marks place old → mark_view new ≡ marked (mark_view old) meeting →
    marks_view (slice_set marks place new) ≡ marks_after 1 (record { number = number; meeting = meeting }) (marks_view marks)
unfolding event_of
marked_at number place meeting marks old new is within there becomes =
    let inside : place < length (marks_view marks) = omega (arith, within, many marks) in
    let found : get_or (marks_view marks) place (mark_view old) ≡ mark_view old =
    get_or-map mark_view marks place old (mark_view old) within ∙ ap mark_view (sym there) in
    map-set mark_view marks place new
    ∙ ap (slice_set (marks_view marks) place) (becomes ∙ ap (λ m. marked m meeting) (sym found))
    ∙ sym (at 1 place (event_of number meeting) (marks_view marks) (mark_view old) is inside)

pub marked_behind : (number place : ℕ) (meeting : Meeting) (marks : List Marked) → number ≡ 1 + place → length marks ≤ place →
    marks_view marks ≡ marks_after 1 (record { number = number; meeting = meeting }) (marks_view marks)
unfolding event_of
marked_behind number place meeting marks is above =
    sym (high 1 place (event_of number meeting) (marks_view marks) is (omega (arith, above, many marks)))

pub marked_before : (number : ℕ) (meeting : Meeting) (marks : List Marked) → number < 1 →
    marks_view marks ≡ marks_after 1 (record { number = number; meeting = meeting }) (marks_view marks)
unfolding event_of
marked_before number meeting marks low = sym (marks_low 1 (event_of number meeting) (marks_view marks) low)
