-- Lines one after another, and what is made of them.
use Rattle.std.proofs.Common.{◌≡◌, ◌≢◌, ◌+◌, ◌-◌, ◌<◌, ◌≤◌, ◌∷◌, ◌++◌, ◌∙◌, ℕ, zero, suc, List, [], length, take, drop, get_or, Result, Ok, Err, refl, sym, ap, arith}
use Rattle.std.proofs.lemmas.List.{append_assoc, drop-drop, drop-map, drop_all, length-drop, length-map, map-append, take_rest}
use Rattle.std.proofs.Math.Seq.{drop-cons}
use Rattle.std.specs.Borrow.{Bor}
use Rattle.own_model.specs.Text.{lines_of}
use Rattle.run_devices.specs.Lines.{after_line, line_of}
use Rattle.run_devices.proofs.LineLemmas.{lines_of-cons}
use Rattle.line_names.specs.RoundMarks.{RoundMark}
use Rattle.line_names.specs.Sums.{and_then}
use Rattle.line_rounds.specs.Structure.{body_length, kind_of}
use Rattle.line_rounds.specs.Unfolding.{RoundHead, Inner, Made, lines_from, mark_of, owned, round_counted, rounds_from, step_of, with_mark, within}
use Rattle.line_rounds.specs.Views.{Makes, texts}
use Rattle.line_rounds.specs.declared.fault.RoundPlace.{RoundPlace}
use Rattle.line_rounds.specs.declared.fault.RoundsFault.{RoundsFault}
use Rattle.line_rounds.specs.declared.fault.UnfoldError.{UnfoldError}
use Rattle.line_rounds.specs.declared.fault.UnfoldError.TheVariants.{Fault, NoMemory}
use Rattle.line_rounds.specs.declared.lines.RoundLineKind.TheVariants.{Ends}

-- the bytes of the first lines
pub texts_of_first : (n : ℕ) (lines : List (Bor (List ℕ))) → texts (take n lines) ≡ take n (texts lines)
texts_of_first zero lines = refl
texts_of_first (suc n) [] = refl
texts_of_first (suc n) (line ∷ lines) = ap (λ rest. line.now ∷ rest) (texts_of_first n lines)

pub texts_length : (lines : List (Bor (List ℕ))) → length lines ≡ length (texts lines)
texts_length lines = sym (length-map lines (λ (l : Bor (List ℕ)). l.now))

-- the line at a place, and those behind it
pub line_at : (lines : List (Bor (List ℕ))) (at : ℕ) (d : Bor (List ℕ)) → at < length lines
    → drop at lines ≡ get_or lines at d ∷ take (length lines - (at + 1)) (drop (at + 1) lines)
line_at lines at d within =
    let next : suc at ≡ at + 1 = omega arith in
    drop-cons lines at d within
    ∙ ap (λ n. get_or lines at d ∷ drop n lines) next
    ∙ ap (λ rest. get_or lines at d ∷ rest) (sym (take_rest lines (at + 1)))

-- the lines of a body end where a line ends its rounds
pub body_ends : (i within : ℕ) (lines : List (Bor (List ℕ))) (d : Bor (List ℕ)) → i < length lines → within ≡ 0
    → kind_of (get_or lines i d).now ≡ Ends → i + body_length within (texts (drop i lines)) ≡ body_length 0 (texts lines)
    → i ≡ body_length 0 (texts lines)
body_ends i within lines d inside none ends is =
    let here : texts (drop i lines) ≡ (get_or lines i d).now ∷ texts (take (length lines - (i + 1)) (drop (i + 1) lines)) = ap texts (line_at lines i d inside) in
    let stops : body_length within (texts (drop i lines)) ≡ 0 = rw (here, none, ends) refl in
    omega (arith, is, stops)

-- a line more was found
pub line_more : (items : List (Bor (List ℕ))) (line : Bor (List ℕ)) (rest : List ℕ) (all : List (List ℕ)) → 0 < length rest
    → texts items ++ lines_of rest ≡ all → line.now ≡ line_of rest
    → texts (items ++ line ∷ []) ++ lines_of (after_line rest) ≡ all
line_more items line rest all some was is =
    ap (λ front. front ++ lines_of (after_line rest)) (map-append (λ (l : Bor (List ℕ)). l.now) items (line ∷ []))
    ∙ append_assoc (texts items) (line.now ∷ []) (lines_of (after_line rest))
    ∙ ap (λ lines. texts items ++ lines) (ap (λ l. l ∷ lines_of (after_line rest)) is ∙ sym (lines_of-cons rest some))
    ∙ was

-- a fault is passed on
pub fails : (A D : Type 0) {B C : Type 0} (why : UnfoldError) (told : Result B RoundsFault) (f : B → Result C RoundsFault) (made : B) (now : C)
    → Makes {A = A} (Err why) told made → Makes {A = D} (Err why) (and_then told f) now
fails A D (Fault fault) told f made now is = ap (λ t. and_then t f) is
fails A D NoMemory told f made now is = tt

-- the first lines belong to one before
pub passed_lines : (inner : Inner) (skip number : ℕ) (made : Made) (lines : List (List ℕ)) → skip ≤ length lines
    → lines_from inner skip number made lines ≡ lines_from inner 0 (number + skip) made (drop skip lines)
passed_lines inner zero number made lines le =
    let same : number ≡ number + 0 = omega arith in ap (λ n. lines_from inner 0 n made lines) same
passed_lines inner (suc skip) number made [] le = absurd (omega arith)
passed_lines inner (suc skip) number made (line ∷ lines) le =
    let same : number + 1 + skip ≡ number + suc skip = omega arith in
    passed_lines inner skip (number + 1) made lines (omega arith) ∙ ap (λ n. lines_from inner 0 n made (drop skip lines)) same

-- a line is unfolded, and then those behind what belongs to it
pub one_more : (inner : Inner) (number : ℕ) (made more : Made) (line : List ℕ) (lines : List (List ℕ))
    → step_of inner number made line lines (kind_of line) ≡ Ok more → owned (kind_of line) lines ≤ length lines
    → lines_from inner 0 number made (line ∷ lines)
    ≡ lines_from inner 0 (number + (1 + owned (kind_of line) lines)) more (drop (owned (kind_of line) lines) lines)
one_more inner number made more line lines is within =
    let n = owned (kind_of line) lines in
    let same : number + 1 + n ≡ number + (1 + n) = omega arith in
    ap (λ told. and_then told (λ m. lines_from inner n (number + 1) m lines)) is
    ∙ passed_lines inner n (number + 1) more lines within
    ∙ ap (λ k. lines_from inner 0 k more (drop n lines)) same

-- a line is unfolded, and those behind what belongs to it are left
pub lines_next : (inner : Inner) (number at size : ℕ) (made more : Made) (lines behind : List (Bor (List ℕ))) (line : Bor (List ℕ))
    → drop at lines ≡ line ∷ behind
    → step_of inner (number + at) made line.now (texts behind) (kind_of line.now) ≡ Ok more
    → size ≡ 1 + owned (kind_of line.now) (texts behind) → size ≤ 1 + length behind
    → lines_from inner 0 (number + (at + size)) more (texts (drop (at + size) lines))
    ≡ lines_from inner 0 (number + at) made (texts (drop at lines))
lines_next inner number at size made more lines behind line here step is le =
    let n = owned (kind_of line.now) (texts behind) in
    let long : n ≤ length (texts behind) = omega (arith, is, le, length-map behind (λ (l : Bor (List ℕ)). l.now)) in
    let more_than : size ≡ suc n = omega (arith, is) in
    let left : drop (at + size) lines ≡ drop n behind =
    sym (drop-drop size at lines) ∙ ap (λ rest. drop size rest) here ∙ ap (λ k. drop k (line ∷ behind)) more_than in
    let place : number + (at + size) ≡ number + at + (1 + n) = omega (arith, is) in
    ap (λ rest. lines_from inner 0 (number + (at + size)) more (texts rest)) left
    ∙ ap (λ k. lines_from inner 0 k more (texts (drop n behind))) place
    ∙ ap (λ rest. lines_from inner 0 (number + at + (1 + n)) more rest) (sym (drop-map (λ (l : Bor (List ℕ)). l.now) n behind))
    ∙ sym (one_more inner (number + at) made more line.now (texts behind) step long)
    ∙ ap (λ rest. lines_from inner 0 (number + at) made (texts rest)) (sym here)

-- no more belong to it than there are
pub next_inside : (at size : ℕ) (lines behind : List (Bor (List ℕ))) (line : Bor (List ℕ)) → at < length lines
    → drop at lines ≡ line ∷ behind → size ≤ 1 + length behind → at + size ≤ length lines
next_inside at size lines behind line within here le =
    let all : length (drop at lines) ≡ suc (length behind) = ap length here in omega (arith, within, le, all, length-drop at lines)

-- rounds so deep are unfolded by those that stand one less deep
pub lines_within : (deep : ℕ) → (deep ≢ 0) → (number : ℕ) (made : Made) (lines : List (List ℕ))
    → within deep number made lines ≡ lines_from (within (deep - 1)) 0 number made lines
lines_within zero some number made lines = absurd (some refl)
lines_within (suc deep) some number made lines = let less : suc deep - 1 ≡ deep = omega arith in rw less refl

-- none are left
pub lines_end : (inner : Inner) (number at : ℕ) (made : Made) (lines : List (Bor (List ℕ))) → length lines ≤ at
    → lines_from inner 0 (number + at) made (texts (drop at lines)) ≡ Ok made
lines_end inner number at made lines past = ap (λ rest. lines_from inner 0 (number + at) made (texts rest)) (drop_all at lines past)

-- a line that isn't unfolded is the fault of all
pub line_fails : (A D : Type 0) (why : UnfoldError) (inner : Inner) (number : ℕ) (made then now : Made) (line : List ℕ) (lines : List (List ℕ))
    → Makes {A = A} (Err why) (step_of inner number made line lines (kind_of line)) then
    → Makes {A = D} (Err why) (lines_from inner 0 number made (line ∷ lines)) now
line_fails A D why inner number made then now line lines is =
    fails A D why (step_of inner number made line lines (kind_of line)) (λ more. lines_from inner (owned (kind_of line) lines) (number + 1) more lines) then now is

-- the mark of a round is there
pub marks_at : (made marked : Made) (mark : RoundMark) (head : RoundHead) (line size k : ℕ) (body : List (List ℕ)) → marked ≡ with_mark made mark
    → mark ≡ mark_of head line size k → size ≡ length body → marked ≡ with_mark made (mark_of head line (length body) k)
marks_at made marked mark head line size k body is marks sized =
    is ∙ ap (with_mark made) marks ∙ ap (λ n. with_mark made (mark_of head line n k)) sized

-- a round is unfolded, and then the others
pub round_more : (inner : Inner) (place : RoundPlace) (head : RoundHead) (k left : ℕ) (made marked more next : Made) (body : List (List ℕ))
    → marked ≡ with_mark made (mark_of head place.line (length body) k) → inner (place.line + 1) marked body ≡ Ok more
    → round_counted place made.count more ≡ Ok next
    → rounds_from inner place head k (suc left) made body ≡ rounds_from inner place head (k + 1) left next body
round_more inner place head k left made marked more next body marks goes counts =
    ap (λ told. and_then told (λ m. and_then (round_counted place made.count m) (λ m'. rounds_from inner place head (k + 1) left m' body)))
    (ap (λ m. inner (place.line + 1) m body) (sym marks) ∙ goes)
    ∙ ap (λ told. and_then told (λ m'. rounds_from inner place head (k + 1) left m' body)) counts

-- a round less is left
pub round_next : (inner : Inner) (place : RoundPlace) (head : RoundHead) (k : ℕ) (made marked more next : Made) (body : List (List ℕ)) → k < head.count
    → marked ≡ with_mark made (mark_of head place.line (length body) k) → inner (place.line + 1) marked body ≡ Ok more
    → round_counted place made.count more ≡ Ok next
    → rounds_from inner place head (k + 1) (head.count - (k + 1)) next body ≡ rounds_from inner place head k (head.count - k) made body
round_next inner place head k made marked more next body within marks goes counts =
    let left : head.count - k ≡ suc (head.count - (k + 1)) = omega (arith, within) in
    sym (ap (λ n. rounds_from inner place head k n made body) left
    ∙ round_more inner place head k (head.count - (k + 1)) made marked more next body marks goes counts)

-- a round that is too many is the fault of all
pub count_fails : (A D : Type 0) (why : UnfoldError) (inner : Inner) (place : RoundPlace) (head : RoundHead) (k : ℕ) (made marked more then now : Made) (body : List (List ℕ))
    → k < head.count → marked ≡ with_mark made (mark_of head place.line (length body) k) → inner (place.line + 1) marked body ≡ Ok more
    → Makes {A = A} (Err why) (round_counted place made.count more) then → Makes {A = D} (Err why) (rounds_from inner place head k (head.count - k) made body) now
count_fails A D (Fault fault) inner place head k made marked more then now body within marks goes is =
    let left : head.count - k ≡ suc (head.count - (k + 1)) = omega (arith, within) in
    ap (λ n. rounds_from inner place head k n made body) left
    ∙ ap (λ told. and_then told (λ m. and_then (round_counted place made.count m) (λ m'. rounds_from inner place head (k + 1) (head.count - (k + 1)) m' body)))
    (ap (λ m. inner (place.line + 1) m body) (sym marks) ∙ goes)
    ∙ ap (λ told. and_then told (λ m'. rounds_from inner place head (k + 1) (head.count - (k + 1)) m' body)) is
count_fails A D NoMemory inner place head k made marked more then now body within marks goes is = tt
