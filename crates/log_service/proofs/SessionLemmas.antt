-- Finished lines as the log prints them, and runs of bytes that are written.
use Rattle.std.proofs.Common.{◌≡◌, ◌≢◌, ℕ, ◌+◌, ◌*◌, ◌/◌, ◌<◌, ◌≤◌, List, [], ◌∷◌, ◌++◌, length, take, drop, get_or, true, Option, Some, None, refl, sym, ap, ◌∙◌, append_assoc, arith, length-append, length-take-le}
use Rattle.std.proofs.lemmas.List.{append-nil, map-append, take-append-drop, take-take, drop-take, take_all, drop_all, take_more, take_at, get_or-take}
use Rattle.std.proofs.lemmas.List.Elements.{All-append, All-from_get_or}
use Rattle.std.proofs.lemmas.List.Sums.{fails_before_first, passes_at_first}
use Rattle.std.proofs.lemmas.Bool.Decides.{nat_tests}
use Rattle.std.proofs.lemmas.List.Splits.{slice_split_none}
use Rattle.std.proofs.lemmas.Grind.{flat_map-append}
use Rattle.std.specs.List.{All, position, position_or_len}
use Rattle.own_model.specs.LogService.{labelled, written, Logged, IsPartial, IsUnbroken, is_newline}
use Rattle.own_model.proofs.LogLemmas.{written-none, written_newline, writes_add, writes_lines}
use Rattle.own_model.specs.Reply.{log_text}
use Rattle.server_frame.specs.Memory.{SlicedHeap}
use Rattle.core_calls.specs.ReplyText.{Told}
use Rattle.log_service.specs.Session.{LabelledLine, lines_text, Writes}

-- one line
pub lines_text-one : (label line before : List ℕ) → before ++ log_text (record { label = label; text = line }) ≡ before ++ lines_text label (line ∷ [])
lines_text-one label line before = ap (λ text. before ++ text) (sym (append-nil (log_text (record { label = label; text = line }))))

-- lines and more
lines_text-append : (label : List ℕ) (xs ys : List (List ℕ)) → lines_text label (xs ++ ys) ≡ lines_text label xs ++ lines_text label ys
lines_text-append label xs ys =
    let all : labelled label (xs ++ ys) ≡ labelled label xs ++ labelled label ys = map-append (λ text. record { label = label; text = text }) xs ys in
    rw all (flat_map-append log_text (labelled label xs) (labelled label ys))

-- a run without a newline that leaves the line unfinished is put to it
pub run_added : (partial run : List ℕ) → IsPartial partial → All IsUnbroken run → length partial + length run < 200 →
    written partial run ≡ record { lines = []; partial = partial ++ run }
unfolding written
run_added partial run is whole short =
    let none : length (partial ++ run) / 200 ≡ 0 = omega (arith, length-append partial run, short) in
    rw (slice_split_none is_newline (partial ++ run) (All-append IsUnbroken partial run is.whole whole), none) refl

-- one with which the line has all its bytes finishes it
pub run_fills : (partial run : List ℕ) → IsPartial partial → All IsUnbroken run → length partial + length run ≡ 200 →
    written partial run ≡ record { lines = (partial ++ run) ∷ []; partial = [] }
unfolding written
run_fills partial run is whole full =
    let size : length (partial ++ run) ≡ 200 = length-append partial run ∙ full in
    let all = take_all 200 (partial ++ run) (omega (arith, size)) in
    let none = drop_all 200 (partial ++ run) (omega (arith, size)) in
    rw (slice_split_none is_newline (partial ++ run) (All-append IsUnbroken partial run is.whole whole), size, all, none) refl

-- one before a newline finishes the line without it
pub run_ended : (partial run : List ℕ) (b : ℕ) → IsPartial partial → All IsUnbroken run → length partial + length run < 200 → b ≡ 10 →
    written partial (run ++ b ∷ []) ≡ record { lines = (partial ++ run) ∷ []; partial = [] }
run_ended partial run b is whole short newline =
    let more : IsPartial (partial ++ run) = record { short = omega (arith, length-append partial run, short); whole = All-append IsUnbroken partial run is.whole whole } in
    rw (writes_add partial run (b ∷ []) is, run_added partial run is whole short, written_newline (partial ++ run) b more newline) refl

-- a line that bytes finish leaves one that isn't finished yet
pub partial_after : {before after : LabelledLine} {told reply : Told} (bytes : List ℕ) → IsPartial before.partial → Writes before told bytes after reply → IsPartial after.partial
partial_after {before} bytes is w = rw w.session (writes_lines before.partial bytes is).1

-- no bytes
pub writes_none : (before : LabelledLine) (told : Told) → IsPartial before.partial → Writes before told [] before told
writes_none before told is = record {
  session = rw (written-none before.partial is) refl;
  reply = rw (written-none before.partial is, append-nil told.lines) refl;
  added = omega arith;
}

-- bytes and more
pub writes_then : (a b c : LabelledLine) (t u v : Told) (xs ys : List ℕ) → IsPartial a.partial → Writes a t xs b u → Writes b u ys c v → Writes a t (xs ++ ys) c v
writes_then a b c t u v xs ys is first more =
    let l = written a.partial xs in
    let all = writes_add a.partial xs ys is in
    let left : b.partial ≡ l.partial = ap (λ s. s.partial) first.session in
    let label : b.label ≡ a.label = ap (λ s. s.label) first.session in
    let lines : v.lines ≡ t.lines ++ lines_text a.label (written a.partial (xs ++ ys)).lines =
    ap (λ r. r.lines) more.reply ∙ rw (all, left, label, ap (λ r. r.lines) first.reply, lines_text-append a.label l.lines (written l.partial ys).lines)
    (append_assoc t.lines (lines_text a.label l.lines) (lines_text a.label (written l.partial ys).lines)) in
    let partial : c.partial ≡ (written a.partial (xs ++ ys)).partial = ap (λ s. s.partial) more.session ∙ rw (all, left) refl in
    record {
      session = λ i. record { label = (ap (λ s. s.label) more.session ∙ label) i; partial = partial i; heap = (ap (λ s. s.heap) more.session ∙ ap (λ s. s.heap) first.session) i };
      reply = λ i. record { lines = lines i; text = (ap (λ r. r.text) more.reply ∙ ap (λ r. r.text) first.reply) i };
      added = omega (arith, first.added, more.added, length-append xs ys);
    }

-- ---- the first newline of a run

-- where there is none
pub unbroken : (run : List ℕ) → position is_newline run ≡ None → All IsUnbroken run
unbroken run none =
    let whole : length run ≤ position_or_len is_newline run = grind (arith, nat_tests) in
    All-from_get_or IsUnbroken run 0 (λ i here. fails_before_first is_newline run i 0 (omega (arith, here, whole)))

-- what stands before it, and what stands up to it
pub record Broken (run : List ℕ) (end : ℕ) : Type 0 where
  pub before : All IsUnbroken (take end run)
  pub within : end < length run
  pub at : get_or run end 0 ≡ 10
  pub up_to : take (end + 1) run ≡ take end run ++ get_or run end 0 ∷ []

pub broken : (run : List ℕ) (end : ℕ) → position is_newline run ≡ Some end → Broken run end
broken run end found =
    let first : position_or_len is_newline run ≡ end = grind (arith, nat_tests) in
    let within : end < length run = grind (arith, nat_tests) in
    let newline : is_newline (get_or run end 0) ≡ true = rw first at (passes_at_first is_newline run 0 (omega (arith, first, within))) in
    record {
      before = All-from_get_or IsUnbroken (take end run) 0 (λ i here.
          let i_before : i < end = omega (arith, here, length-take-le end run) in
          rw (get_or-take end run i 0 i_before) (fails_before_first is_newline run i 0 (omega (arith, i_before, first))));
      within = within;
      at = grind (arith, nat_tests, newline);
      up_to = take_more run end 0 within;
    }

-- ---- a call that writes a run

-- a run that is put to the line
pub adds : (heap : SlicedHeap) (label partial run bytes line : List ℕ) (told : Told) → written partial bytes ≡ record { lines = []; partial = partial ++ run } →
    line ≡ partial ++ run → length run ≤ length bytes →
    Writes (record { label = label; partial = partial; heap = heap }) told bytes (record { label = label; partial = line; heap = heap }) told
adds heap label partial run bytes line told is e few = record {
  session = rw (is, e) refl;
  reply = rw (is, append-nil told.lines) refl;
  added = omega (arith, ap length e, length-append partial run, few);
}

-- a run that finishes the line
pub finishes : (heap : SlicedHeap) (label partial run bytes line : List ℕ) (told next : Told) → written partial bytes ≡ record { lines = (partial ++ run) ∷ []; partial = [] } →
    line ≡ partial ++ run → next ≡ record told { lines = told.lines ++ log_text (record { label = label; text = line }) } →
    length next.lines ≡ length told.lines + (length label + length line + 4) → length label ≤ 208 → length run ≤ length bytes → 0 < length bytes →
    Writes (record { label = label; partial = partial; heap = heap }) told bytes (record { label = label; partial = []; heap = heap }) next
finishes heap label partial run bytes line told next is e told_so size short few some = record {
  session = rw is refl;
  reply = told_so ∙ rw (is, e, lines_text-one label (partial ++ run) told.lines) refl;
  added = omega (arith, size, ap length e, length-append partial run, short, few, some);
}

-- ---- parts of bytes

-- as many as are taken
pub taken_whole : (n : ℕ) (xs : List ℕ) → take (length (take n xs)) xs ≡ take n xs
taken_whole n xs = ap (take (length (take n xs))) (sym (take-append-drop n xs)) ∙ take_at (take n xs) (drop n xs) (length (take n xs)) refl

-- so many bytes, and so many more
pub take_then : (n m : ℕ) (xs : List ℕ) → take (n + m) xs ≡ take n xs ++ take m (drop n xs)
take_then n m xs = sym (take-append-drop n (take (n + m) xs)) ∙ rw (take-take n (n + m) xs (omega arith), drop-take n m xs) refl

-- the bytes so far and those that are next
pub taken_next : (n m : ℕ) (xs ys : List ℕ) → ys ≡ take m (drop n xs) → take (n + length ys) xs ≡ take n xs ++ ys
taken_next n m xs ys is = take_then n (length ys) xs ∙ rw is (ap (λ more. take n xs ++ more) (taken_whole m (drop n xs)))
