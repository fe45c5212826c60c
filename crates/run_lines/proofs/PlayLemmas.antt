-- A play from line to line: what was played, and what it leaves at its end.
use Rattle.std.proofs.Common.{◌≡◌, ℕ, ◌+◌, ◌<◌, nat_lt, ◌≤◌, ◌||◌, take, drop, Bool, true, false, List, [], ◌∷◌, ◌++◌, length, replicate, Option, Some, None, IfSome, Result, Ok, Err, inl, inr, ⊎_elim, arith, refl, sym, ◌∙◌, ap, subst, append_assoc, append-nil, length-append}
use Rattle.std.proofs.lemmas.Bool.Decides.{nat_tests}
use Rattle.std.proofs.lemmas.List.{length-replicate}
use Rattle.std.proofs.lemmas.List.Elements.{All-append, All-cons, All-nil}
use Rattle.std.specs.Io.KnownBytes.{Appends}
use Rattle.own_model.specs.Text.{lines_of}
use Rattle.own_model.specs.Transcript.{longest_line}
use Rattle.run_lines.specs.Faults.{Fails, line_fault}
use Rattle.run_devices.specs.RunOutput.{AppendsPart, Tells, OutputsPart}
use Rattle.run_devices.specs.Lines.{line_of, longest_read, to_come, AreReadable, HasRead, PassesLines}
use Rattle.run_lines.specs.Next.{BeginsWithLine, PassesLongLine, StopsBefore, OutputsAt, is_read_fault}
use Rattle.run_lines.specs.LineRuns.{AreWhole, Breaks, BreaksFor, Ended, EndsFor, PlaysAll, HandlesLine, HandlesNext, HandlesOn, Point, ReadsOn, StopsAs, StopsAt, OutputsTo, WritesOutput, more_unless_stopped}
use Rattle.run_lines.specs.Reach.{KeepsUp, ReadsBehind, longest_gathered, reach}
use Rattle.run_lines.specs.declared.lines.LineFault.{LineFault}
use Rattle.run_lines.specs.declared.lines.LineFault.TheVariants.{Read, Write, Endless}
use Rattle.run_lines.specs.declared.line_run_fault.LineRunFault.{LineRunFault}
use Rattle.run_lines.specs.declared.line_run_fault.LineRunFault.TheVariants.{ReadFault, WriteFault, TooManyLines, NoMemory}
use Rattle.run_devices.proofs.GatheredLemmas.{Appends-none, Tells-more, Tells-none}
use Rattle.run_devices.proofs.LineLemmas.{length-line_of, line_length-le, lines_of-cons}
use Rattle.run_lines.proofs.PassedLines.{has_passed, has_read_more, passes_line, passes_more, passes_none, read_to}
use Rattle.run_lines.proofs.ReachLemmas.{Writes, close_all, close_behind, keeps_up_more, keeps_up_none}

-- ---- lines that are passed

-- with no line nothing is passed
passes_same : (come : Option (List ℕ)) → IfSome come (λ text. PassesLines text come [])
passes_same None = tt
passes_same (Some text) = passes_none text

-- the line that lies ahead is passed
pub passes_ahead : (old rest : Option (List ℕ)) (ahead left : List ℕ) (n : ℕ) → IfSome old (λ before. BeginsWithLine before ahead rest n) → left ≡ drop (n + 1) ahead →
    IfSome old (λ text. PassesLines text (to_come left rest) (take n ahead ∷ []))
passes_ahead None rest ahead left n begins is = tt
passes_ahead (Some text) rest ahead left n begins is = grind (arith, nat_tests, passes_line)

-- there are lines that are too long
long_line : (n : ℕ) (come : Option (List ℕ)) → longest_line < n → n ≤ longest_read →
    (line : List ℕ) × (longest_line < length line) × IfSome None (λ text. PassesLines text come (line ∷ [])) × (length line ≤ longest_read)
long_line n come long short = (replicate n 0, omega (arith, long, length-replicate {A = ℕ} n 0), tt, omega (arith, short, length-replicate {A = ℕ} n 0))

-- a line that was too long is passed
pub passes_long : (old come : Option (List ℕ)) → IfSome old (λ before. PassesLongLine before come) →
    (line : List ℕ) × (longest_line < length line) × IfSome old (λ text. PassesLines text come (line ∷ [])) × (length line ≤ longest_read)
passes_long None come long = long_line 8193 come (omega arith) (omega arith)
passes_long (Some text) come long = (
  line_of text,
  omega (arith, long.long, length-line_of text),
  passes_line text come (omega (arith, long.long, line_length-le text)) long.after,
  omega (arith, long.ends, length-line_of text),
)

-- lines that were passed were read whole
whole_behind : (old rest : Option (List ℕ)) (ahead : List ℕ) (xs : List (List ℕ)) → IfSome old (λ text. PassesLines text (to_come ahead rest) xs) →
    IfSome old (λ text. AreWhole xs text rest)
whole_behind None rest ahead xs passes = tt
whole_behind (Some text) rest ahead xs passes = (lines_of passes.rest, passes.first, has_passed text ahead rest xs passes)

-- where no line begins nothing is to come
pub none_begins : (come : Option (List ℕ)) → IfSome come (λ before. false ≡ nat_lt 0 (length before)) → IfSome come (λ text. text ≡ [])
none_begins None none = tt
none_begins (Some []) none = refl
none_begins (Some (b ∷ bs)) none = let few : length (b ∷ bs) ≤ 0 = grind (arith, nat_tests) in absurd (omega (arith, few))

-- no line is too long to be read where there is none
pub none_readable : AreReadable []
none_readable = All-nil (λ line. length line ≤ longest_read)

-- and where there is one that isn't
one_readable : (line : List ℕ) → length line ≤ longest_read → AreReadable (line ∷ [])
one_readable line short = All-cons (λ line. length line ≤ longest_read) line [] short none_readable

-- ---- what is written

-- all is written where no line is left
written_all : {w w' : Option (List ℕ)} {g told : List ℕ} → Tells w g w' [] told → Appends w w' (g ++ told)
written_all {w = w} {w' = w'} tells = subst (Appends w w') (sym (append-nil tells.out) ∙ tells.parts) tells.grows

-- or a part
written_part : {w w' : Option (List ℕ)} {g told : List ℕ} → OutputsPart w g w' told → AppendsPart w w' (g ++ told)
written_part tells = record { part = tells.1.out; left = tells.0; parts = sym tells.1.parts; grows = tells.1.grows }

-- what is told up to a fault is written, or a part of it
written_to : (fault : LineRunFault) (w : Option (List ℕ)) (g : List ℕ) (w' : Option (List ℕ)) (told : List ℕ) → OutputsTo fault w g w' told → WritesOutput (Some fault) w w' (g ++ told)
written_to ReadFault w g w' told tells = written_all tells
written_to WriteFault w g w' told tells = written_part tells
written_to TooManyLines w g w' told tells = written_all tells
written_to NoMemory w g w' told tells = written_part tells

-- and behind what was told before
told_to : (fault : LineRunFault) {w w' : Option (List ℕ)} {g g' xs : List ℕ} (w'' : Option (List ℕ)) (ys : List ℕ) → Tells w g w' g' xs → OutputsTo fault w' g' w'' ys → OutputsTo fault w g w'' (xs ++ ys)
told_to ReadFault w'' ys first then = Tells-more first then
told_to WriteFault w'' ys first then = (then.0, Tells-more first then.1)
told_to TooManyLines w'' ys first then = Tells-more first then
told_to NoMemory w'' ys first then = (then.0, Tells-more first then.1)

-- bytes are written
writes_told : {w w' : Option (List ℕ)} {g g' told : List ℕ} → Tells w g w' g' told → Writes w w'
writes_told tells = record { out = tells.out; grows = tells.grows }

writes_to : (fault : LineRunFault) (w w' : Option (List ℕ)) (g told : List ℕ) → OutputsTo fault w g w' told → Writes w w'
writes_to ReadFault w w' g told tells = writes_told tells
writes_to WriteFault w w' g told tells = writes_told tells.1
writes_to TooManyLines w w' g told tells = writes_told tells
writes_to NoMemory w w' g told tells = writes_told tells.1

-- what was gathered before is told too
with_front : {w w' : Option (List ℕ)} {g g' told : List ℕ} → Tells w g w' g' told → Tells w [] w' g' (g ++ told)
with_front tells = record { out = tells.out; grows = tells.grows; parts = tells.parts }

-- ---- the next line

module _ (told : List (List ℕ) → List ℕ) (leads : List (List ℕ) → Type 0) (stops : LineRunFault → List (List ℕ) → Type 0) (earlier : List (List ℕ)) (failed : Bool) (p q : Point) where
  -- a line is played, unless a fault comes
  module _ (written : Option (List ℕ)) (gathered line : List ℕ) (before : Tells p.written p.gathered written gathered [])
      (passes : IfSome (to_come p.ahead p.rest) (λ text. PassesLines text (to_come q.ahead q.rest) (line ∷ []))) (short : length line ≤ longest_read) where
    breaks_at : (fault : LineRunFault) (piece : List ℕ) → told (earlier ++ line ∷ []) ≡ told earlier ++ piece → OutputsTo fault p.written p.gathered q.written piece →
        IfSome (to_come p.ahead p.rest) (λ text. BreaksFor fault (line ∷ []) text q.rest failed) → StopsAs leads stops fault (earlier ++ line ∷ []) → Breaks told leads stops fault earlier failed p q
    breaks_at fault piece more tells cause ended = record {
      given = line ∷ [];
      one = omega arith;
      readable = one_readable line short;
      piece = piece;
      more = more;
      tells = tells;
      cause = cause;
      stops_as = ended;
    }

    pub played_line : {T : Type 0} (result : Result T LineRunFault) (write_failed : Bool) → HandlesLine told leads stops earlier line result written gathered q.written q.gathered → Fails result write_failed true →
        HandlesNext told leads stops earlier (more_unless_stopped result) failed p q
    played_line (Ok done) write_failed plays fails =
        (line, record { piece = plays.piece; more = plays.more; tells = Tells-more before plays.tells; passes = passes; short = short }, plays.goes_on)
    played_line (Err ReadFault) write_failed plays fails = absurd fails
    played_line (Err WriteFault) write_failed plays fails =
        breaks_at WriteFault plays.piece plays.more (plays.tells.0, Tells-more before plays.tells.1) (whole_behind (to_come p.ahead p.rest) q.rest q.ahead (line ∷ []) passes) (inr plays.goes_on)
    played_line (Err TooManyLines) write_failed plays fails = absurd fails
    played_line (Err NoMemory) write_failed plays fails =
        breaks_at NoMemory plays.piece plays.more (plays.tells.0, Tells-more before plays.tells.1) (whole_behind (to_come p.ahead p.rest) q.rest q.ahead (line ∷ []) passes) plays.goes_on

  -- a fault comes before a line
  pub stops_before : (T : Type 0) (fault : LineFault) (old rest : Option (List ℕ)) → failed ≡ is_read_fault {T = T} (Err fault) → IfSome old (λ before. StopsBefore fault before rest) →
      IfSome old (λ text. BreaksFor (line_fault fault) [] text rest failed)
  stops_before T fault None rest fails stops = tt
  stops_before T Read (Some text) rest fails stops = (refl, inl (fails, stops))
  stops_before T Write (Some text) rest fails stops = (lines_of text, refl, stops)
  stops_before T Endless (Some text) rest fails stops = (refl, inr stops)

  pub told_before : (fault : LineFault) → OutputsAt fault p.written p.gathered q.written [] → OutputsTo (line_fault fault) p.written p.gathered q.written []
  told_before Read tells = tells
  told_before Write tells = tells
  told_before Endless tells = tells

  pub led_before : (fault : LineFault) (lines : List (List ℕ)) → leads lines → StopsAs leads stops (line_fault fault) lines
  led_before Read lines led = led
  led_before Write lines led = inl led
  led_before Endless lines led = led

  abbrev pub breaks_before : (T : Type 0) (fault : LineFault) → OutputsAt fault p.written p.gathered q.written [] → failed ≡ is_read_fault {T = T} (Err fault) →
      IfSome (to_come p.ahead p.rest) (λ before. StopsBefore fault before q.rest) → leads earlier → Breaks told leads stops (line_fault fault) earlier failed p q
  breaks_before T fault tells fails cause led = record {
    given = [];
    one = omega arith;
    readable = none_readable;
    piece = [];
    more = ap told (append-nil earlier) ∙ sym (append-nil (told earlier));
    tells = told_before fault tells;
    cause = stops_before T fault (to_come p.ahead p.rest) q.rest fails cause;
    stops_as = led_before fault (earlier ++ []) (subst leads (sym (append-nil earlier)) led);
  }

-- ---- the lines so far

-- these lines are played; where the bytes to come are known, they are the first of them
pub record Plays (told : List (List ℕ) → List ℕ) (lines : List (List ℕ)) (old new : Point) : Type 0 where
  pub tells : Tells old.written old.gathered new.written new.gathered (told lines)
  pub passes : IfSome (to_come old.ahead old.rest) (λ text. PassesLines text (to_come new.ahead new.rest) lines)
  pub readable : AreReadable lines
  pub keeps_up : old.gathered ≡ [] → KeepsUp told lines old.rest new.rest old.written new.written

-- with nothing ahead what comes is what the reader has left
pub come_fresh : (ahead : List ℕ) (rest : Option (List ℕ)) → ahead ≡ [] → to_come ahead rest ≡ rest
come_fresh ahead None none = refl
come_fresh ahead (Some text) none = ap (λ a. Some (a ++ text)) none

-- what is known of the bytes to come is known of those behind the lines that were passed
behind : (old come : Option (List ℕ)) (xs : List (List ℕ)) (P Q : List ℕ → Type 0) → IfSome old (λ text. PassesLines text come xs) → IfSome come P →
    ((text : List ℕ) → (p : PassesLines text come xs) → P p.rest → Q text) → IfSome old Q
behind None come xs P Q passes holds then = tt
behind (Some text) come xs P Q passes holds then = then text passes (subst (λ (m : Option (List ℕ)). IfSome m P) passes.is_rest holds)

-- what is read on leaves a rest
read_on : (most : List ℕ → ℕ) (ahead : List ℕ) (rest rest' written written' : Option (List ℕ)) (gathered : List ℕ) → ReadsBehind most (to_come ahead rest) gathered written rest written' rest' →
    IfSome (to_come ahead rest) (λ text. HasRead 0 text rest')
read_on most ahead None rest' written written' gathered on = tt
read_on most ahead (Some ys) rest' written written' gathered on =
    ⊎_elim (λ same. rw same (record { read = ahead; left = ys; is_left = refl; parts = refl; whole = inl (omega arith) }))
    (λ more. record { read = more.1.read; left = more.1.left; is_left = more.1.is_left; parts = more.1.parts; whole = inl (omega arith) })
    on

-- lines behind others were read whole
whole_more : (max_lines : ℕ) (text : List ℕ) (come rest : Option (List ℕ)) (xs ys : List (List ℕ)) (p : PassesLines text come xs) → length (xs ++ ys) ≤ max_lines → (whole : AreWhole ys p.rest rest) →
    (left : List (List ℕ)) × (lines_of text ≡ (xs ++ ys) ++ left) × ((length (xs ++ ys) ≤ max_lines) × HasRead (length (xs ++ ys)) text rest)
whole_more max_lines text come rest xs ys p few whole = (
  whole.0,
  p.first ∙ ap (λ lines. xs ++ lines) whole.1 ∙ sym (append_assoc xs ys whole.0),
  (few, subst (λ n. HasRead n text rest) (sym (length-append xs ys)) (has_read_more text come rest xs (length ys) p whole.2)),
)

-- why the play stops, where a fault comes behind the lines that were played
stops_at : (fault : LineRunFault) (max_lines : ℕ) (text : List ℕ) (come rest : Option (List ℕ)) (xs ys : List (List ℕ)) (failed : Bool) (p : PassesLines text come xs) → length (xs ++ ys) ≤ max_lines →
    BreaksFor fault ys p.rest rest failed → (left : List (List ℕ)) × (lines_of text ≡ (xs ++ ys) ++ left) × StopsAt max_lines fault (xs ++ ys) left text rest failed
stops_at ReadFault max_lines text come rest xs ys failed p few breaks =
    rw (breaks.0, append-nil xs) (
      lines_of p.rest,
      p.first,
      ⊎_elim (λ cut. inl (cut.0, read_to text come rest xs (cut.1.0) p (cut.1.1)))
          (λ long. inr (rw (lines_of-cons p.rest (omega (arith, long, line_length-le p.rest))) (omega (arith, long, length-line_of p.rest))))
          breaks.1,
    )
stops_at WriteFault max_lines text come rest xs ys failed p few breaks = whole_more max_lines text come rest xs ys p few breaks
stops_at TooManyLines max_lines text come rest xs ys failed p few breaks = absurd breaks
stops_at NoMemory max_lines text come rest xs ys failed p few breaks = whole_more max_lines text come rest xs ys p few breaks

module _ (told : List (List ℕ) → List ℕ) where
  -- no line is played at first
  pub plays_none : (p : Point) → told [] ≡ [] → Plays told [] p p
  plays_none p none = record {
    tells = subst (Tells p.written p.gathered p.written p.gathered) (sym none) (Tells-none p.written p.gathered);
    passes = passes_same (to_come p.ahead p.rest);
    readable = none_readable;
    keeps_up = λ _. keeps_up_none told p.rest p.written none;
  }

module _ {told : List (List ℕ) → List ℕ} {xs : List (List ℕ)} {p q : Point} (is : to_come p.ahead p.rest ≡ p.rest) (plays : Plays told xs p q) where
  -- it keeps up
  kept_up : (r : Point) (ys : List (List ℕ)) → ReadsOn q r → Writes q.written r.written → p.gathered ≡ [] → KeepsUp told (xs ++ ys) p.rest r.rest p.written r.written
  kept_up r ys on more none =
      keeps_up_more told ys (to_come q.ahead q.rest) (subst (λ g. Tells p.written g q.written q.gathered (told xs)) none plays.tells)
      (subst (λ (o : Option (List ℕ)). IfSome o (λ text. PassesLines text (to_come q.ahead q.rest) xs)) is plays.passes) (plays.keeps_up none) on more

  kept_up_here : (r : Point) → ReadsOn q r → Writes q.written r.written → p.gathered ≡ [] → KeepsUp told xs p.rest r.rest p.written r.written
  kept_up_here r on more none = subst (λ lines. KeepsUp told lines p.rest r.rest p.written r.written) (append-nil xs) (kept_up r [] on more none)

  -- a line is played behind others
  pub plays_more : (r : Point) (line : List ℕ) → ReadsOn q r → HandlesOn told xs line q r → Plays told (xs ++ line ∷ []) p r
  plays_more r line on then = record {
    tells = subst (Tells p.written p.gathered r.written r.gathered) (sym then.more) (Tells-more plays.tells then.tells);
    passes = passes_more (to_come p.ahead p.rest) (to_come q.ahead q.rest) (to_come r.ahead r.rest) xs (line ∷ []) plays.passes then.passes;
    readable = All-append (λ line. length line ≤ longest_read) xs (line ∷ []) plays.readable (one_readable line then.short);
    keeps_up = kept_up r (line ∷ []) on (writes_told then.tells);
  }

  -- what is known of the bytes to come behind the lines that were played is known of the scenario
  of_input : (P Q : List ℕ → Type 0) → IfSome (to_come q.ahead q.rest) P → ((text : List ℕ) → (passed : PassesLines text (to_come q.ahead q.rest) xs) → P passed.rest → Q text) → IfSome p.rest Q
  of_input P Q holds then = subst (λ (o : Option (List ℕ)). IfSome o Q) is (behind (to_come p.ahead p.rest) (to_come q.ahead q.rest) xs P Q plays.passes holds then)

  -- all that was told, where what is still gathered is written
  all_told : (r : Point) → Tells q.written q.gathered r.written [] [] → Appends p.written r.written (p.gathered ++ told xs)
  all_told r tells_on = written_all (subst (Tells p.written p.gathered r.written []) (append-nil (told xs)) (Tells-more plays.tells tells_on))

  -- no line is left
  all_ended : (r : Point) (max_lines : ℕ) (failed : Bool) → Ended q r → ReadsOn q r → EndsFor max_lines None xs p.rest r.rest failed
  all_ended r max_lines failed ended on = of_input (λ text. (text ≡ []) × HasRead 0 text r.rest) _ (both (to_come q.ahead q.rest) (λ text. text ≡ []) (λ text. HasRead 0 text r.rest) ended.none (read_on reach q.ahead q.rest r.rest q.written r.written q.gathered on))
      (λ text passed left. (lines_of passed.rest, passed.first, (ap lines_of left.0, subst (λ n. HasRead n text r.rest) (omega arith) (has_read_more text _ r.rest xs 0 passed left.1))))
    where
      both : (o : Option (List ℕ)) (P Q : List ℕ → Type 0) → IfSome o P → IfSome o Q → IfSome o (λ text. P text × Q text)
      both None P Q one other = tt
      both (Some text) P Q one other = (one, other)

  -- ---- the end

  module _ (leads : List (List ℕ) → Type 0) (stops : LineRunFault → List (List ℕ) → Type 0) (r : Point) (count max_lines : ℕ) (failed : Bool) (on : ReadsOn q r) where
    -- a fault comes behind the lines that were played
    pub plays_to_fault : (fault : LineRunFault) → (breaks : Breaks told leads stops fault xs failed q r) → length xs + length breaks.given ≤ max_lines → length q.gathered ≤ longest_gathered →
        PlaysAll told leads stops (Some fault) count max_lines p.gathered p.rest r.rest failed p.written r.written
    plays_to_fault fault breaks few fits =
        let fit : length (xs ++ breaks.given) ≤ max_lines = omega (arith, few, length-append xs breaks.given) in
        let more = writes_to fault q.written r.written q.gathered breaks.piece breaks.tells in
        record {
          given = xs ++ breaks.given;
          readable = All-append (λ line. length line ≤ longest_read) xs breaks.given plays.readable breaks.readable;
          ends_as = breaks.stops_as;
          writes =
              written_to fault p.written p.gathered r.written (told (xs ++ breaks.given))
              (subst (OutputsTo fault p.written p.gathered r.written) (sym breaks.more) (told_to fault r.written breaks.piece plays.tells breaks.tells));
          ends = of_input (λ text. BreaksFor fault breaks.given text r.rest failed) _ breaks.cause (λ text passed for. stops_at fault max_lines text _ r.rest xs breaks.given failed passed fit for);
          counted = tt;
          few = fit;
          keeps_up = kept_up r breaks.given on more;
          close = close_behind (λ lines. p.gathered ++ told lines) breaks.given (with_front plays.tells) fits breaks.one more;
        }

    -- no line is left
    pub plays_to_end : Ended q r → length xs ≤ max_lines → count ≡ length xs → leads xs → PlaysAll told leads stops None count max_lines p.gathered p.rest r.rest failed p.written r.written
    plays_to_end ended few counted led = record {
      given = xs;
      readable = plays.readable;
      ends_as = led;
      writes = all_told r ended.tells;
      ends = all_ended r max_lines failed ended on;
      counted = counted;
      few = few;
      keeps_up = kept_up_here r on (writes_told ended.tells);
      close = close_all (λ lines. p.gathered ++ told lines) xs p.written r.written (all_told r ended.tells);
    }

    -- there are more lines than are allowed
    pub plays_too_many : length xs ≡ max_lines → Tells q.written q.gathered r.written [] [] → IfSome (to_come q.ahead q.rest) (λ text. true ≡ nat_lt 0 (length text)) → leads xs →
        PlaysAll told leads stops (Some TooManyLines) count max_lines p.gathered p.rest r.rest failed p.written r.written
    plays_too_many full tells_on more led = record {
      given = xs;
      readable = plays.readable;
      ends_as = led;
      writes = all_told r tells_on;
      ends = of_input (λ text. true ≡ nat_lt 0 (length text)) _ more (λ text passed some.
          let begun : 0 < length passed.rest = grind (arith, nat_tests) in
          (lines_of passed.rest, passed.first, (full, omega (arith, ap length (lines_of-cons passed.rest begun)))));
      counted = tt;
      few = omega (arith, full);
      keeps_up = kept_up_here r on (writes_told tells_on);
      close = close_all (λ lines. p.gathered ++ told lines) xs p.written r.written (all_told r tells_on);
    }

-- where a device had failed before, no line is played
pub unplayed : (told : List (List ℕ) → List ℕ) (leads : List (List ℕ) → Type 0) (stops : LineRunFault → List (List ℕ) → Type 0) (fault : LineRunFault) (max_lines : ℕ) (input written : Option (List ℕ)) (failed : Bool) → told [] ≡ [] → StopsAs leads stops fault [] →
    WritesOutput (Some fault) written written [] → ((text : List ℕ) → StopsAt max_lines fault [] (lines_of text) text (Some text) failed) → PlaysAll told leads stops (Some fault) 0 max_lines [] input input failed written written
unplayed told leads stops fault max_lines input written failed none ended writes cause = record {
  given = [];
  readable = none_readable;
  ends_as = ended;
  writes = subst (WritesOutput (Some fault) written written) (sym none) writes;
  ends = at input;
  counted = tt;
  few = omega arith;
  keeps_up = λ _. keeps_up_none told input written none;
  close = close_all told [] written written (subst (Appends written written) (sym none) (Appends-none written));
}
  where
    at : (o : Option (List ℕ)) → EndsFor max_lines (Some fault) [] o o failed
    at None = tt
    at (Some text) = (lines_of text, refl, cause text)
