-- How far a run has read behind what is written, from one read to the next and from line to line.
use Rattle.std.proofs.Common.{◌≡◌, ℕ, ◌+◌, ◌<◌, ◌≤◌, List, [], ◌++◌, length, take, drop, Option, Some, None, IfSome, Result, Ok, Err, inl, inr, arith, refl, sym, ◌∙◌, ap, subst, append_assoc, append-nil, length-append}
use Rattle.std.proofs.lemmas.List.{length-take, take-append-drop}
use Rattle.std.specs.Io.KnownBytes.{Appends, Keeps}
use Rattle.run_devices.specs.RunOutput.{Tells, OutputsUnless}
use Rattle.run_devices.specs.Lines.{PassesLines, line_length, to_come}
use Rattle.run_lines.specs.Next.{OutputsAt, OutputsOrStops}
use Rattle.run_lines.specs.Reach.{IsFlushed, IsReadUpTo, KeepsUp, ReadsBehind, WritesClose, longest_ahead, longest_gathered, reach}
use Rattle.run_lines.specs.declared.lines.LineFault.{LineFault}
use Rattle.run_lines.specs.declared.lines.LineFault.TheVariants.{Read, Write, Endless}
use Rattle.run_devices.proofs.GatheredLemmas.{Appends-more, Appends-none}
use Rattle.run_lines.proofs.PassedLines.{passes_none}
use Rattle.run_lines.proofs.ToCome.{Passes}
use Rattle.std.proofs.lemmas.Bool.Decides.{nat_tests}

-- bytes are written, whatever comes of it
pub record Writes (written now_written : Option (List ℕ)) : Type 0 where
  pub out : List ℕ
  pub grows : Appends written now_written out

-- as where a text is told
pub writes_told : {T E : Type 0} (r : Result T E) (w w' : Option (List ℕ)) (g g' xs : List ℕ) → OutputsUnless r w g w' g' xs → Writes w w'
writes_told (Ok x) w w' g g' xs tells = record { out = tells.out; grows = tells.grows }
writes_told (Err e) w w' g g' xs tells = record { out = tells.1.out; grows = tells.1.grows }

-- or up to a fault
pub writes_at : (fault : LineFault) (w w' : Option (List ℕ)) (g xs : List ℕ) → OutputsAt fault w g w' xs → Writes w w'
writes_at Read w w' g xs tells = record { out = tells.out; grows = tells.grows }
writes_at Write w w' g xs tells = record { out = tells.1.out; grows = tells.1.grows }
writes_at Endless w w' g xs tells = record { out = tells.out; grows = tells.grows }

-- or where it may stop
pub writes_or_stops : {T : Type 0} (r : Result T LineFault) (w w' : Option (List ℕ)) (g g' xs : List ℕ) → OutputsOrStops r w g w' g' xs → Writes w w'
writes_or_stops (Ok x) w w' g g' xs tells = record { out = tells.out; grows = tells.grows }
writes_or_stops (Err fault) w w' g g' xs tells = writes_at fault w w' g xs tells

-- what holds for every text holds for one that may be there
always : (o : Option (List ℕ)) {P : List ℕ → Type 0} → ((text : List ℕ) → P text) → IfSome o P
always None p = tt
always (Some text) p = p text

module _ {w w' w'' : Option (List ℕ)} {g g' : List ℕ} where
  -- what was gathered before a write and is written after it
  flushed_after : Tells w g w' g' [] → IsFlushed g' w' w'' → IsFlushed g w w''
  flushed_after told flushed =
      let whole : told.out ++ (g' ++ flushed.more) ≡ g ++ flushed.more =
      sym (append_assoc told.out g' flushed.more) ∙ ap (λ front. front ++ flushed.more) (told.parts ∙ append-nil g) in
      record { more = flushed.more; grows = Appends-more w w' w'' _ _ _ told.grows flushed.grows (sym whole) }

-- what is written stays so
flushed_then : {w w' w'' : Option (List ℕ)} {g : List ℕ} → IsFlushed g w w' → Writes w' w'' → IsFlushed g w w''
flushed_then {w = w} {w' = w'} {w'' = w''} {g = g} flushed then =
    record { more = flushed.more ++ then.out; grows = Appends-more w w' w'' _ _ _ flushed.grows then.grows (sym (append_assoc g flushed.more then.out)) }

-- a flush writes all
pub flushed_all : {w w' : Option (List ℕ)} {g g' : List ℕ} → Tells w g w' g' [] → g' ≡ [] → IsFlushed g w w'
flushed_all {w = w} {w' = w'} {g = g} {g' = g'} told none =
    record { more = []; grows = subst (Appends w w') (sym (append-nil told.out) ∙ ap (λ l. told.out ++ l) (sym none) ∙ told.parts) told.grows }

-- what was read lies ahead
pub read_ahead : (ahead now_ahead : List ℕ) (rest now_rest : Option (List ℕ)) → Keeps (to_come ahead rest) (to_come now_ahead now_rest) → length now_ahead ≤ longest_ahead →
    IfSome (to_come ahead rest) (λ text. IsReadUpTo longest_ahead text now_rest)
read_ahead ahead now_ahead None now_rest keeps few = tt
read_ahead ahead now_ahead (Some xs) None keeps few = absurd keeps
read_ahead ahead now_ahead (Some xs) (Some ys) keeps few = record { read = now_ahead; left = ys; is_left = refl; parts = sym keeps; few = few }

-- known bytes stay as they are behind others
pub Keeps-ahead : (ahead now_ahead : List ℕ) (rest now_rest : Option (List ℕ)) → now_ahead ≡ ahead → Keeps rest now_rest → Keeps (to_come ahead rest) (to_come now_ahead now_rest)
Keeps-ahead ahead now_ahead None now_rest same keeps = tt
Keeps-ahead ahead now_ahead (Some xs) None same keeps = absurd keeps
Keeps-ahead ahead now_ahead (Some xs) (Some ys) same keeps = rw (same, keeps) refl

module _ (come : Option (List ℕ)) (g : List ℕ) (w rest : Option (List ℕ)) where
  -- at first nothing is read
  pub behind_none : (most : List ℕ → ℕ) → ReadsBehind most come g w rest w rest
  behind_none most = inl refl

  -- more is written, and nothing read
  pub behind_then : (most : List ℕ → ℕ) {w' w'' rest' : Option (List ℕ)} (rest'' : Option (List ℕ)) → rest'' ≡ rest' → ReadsBehind most come g w rest w' rest' → Writes w' w'' →
      ReadsBehind most come g w rest w'' rest''
  behind_then most rest'' same (inl none) more = inl (same ∙ none)
  behind_then most rest'' same (inr read) more = inr (flushed_then read.0 more, subst (λ r. IfSome come (λ text. IsReadUpTo (most text) text r)) (sym same) read.1)

  -- of a text of which n bytes were passed more is read
  read_after : (most now_most : List ℕ → ℕ) (come' rest'' : Option (List ℕ)) (n : ℕ) → Passes come come' n → IfSome come (λ text. n + now_most (drop n text) ≤ most text) →
      IfSome come' (λ text. IsReadUpTo (now_most text) text rest'') → IfSome come (λ text. IsReadUpTo (most text) text rest'')
  read_after most now_most come' rest'' n passes within read = by come passes within
    where
      by : (o : Option (List ℕ)) → Passes o come' n → IfSome o (λ text. n + now_most (drop n text) ≤ most text) → IfSome o (λ text. IsReadUpTo (most text) text rest'')
      by None passes within = tt
      by (Some text) passes within =
          let up_to : IsReadUpTo (now_most (drop n text)) (drop n text) rest'' = subst (λ (o : Option (List ℕ)). IfSome o (λ t. IsReadUpTo (now_most t) t rest'')) passes.left read in
          record {
            read = take n text ++ up_to.read;
            left = up_to.left;
            is_left = up_to.is_left;
            parts = sym (take-append-drop n text) ∙ ap (λ back. take n text ++ back) up_to.parts ∙ sym (append_assoc (take n text) up_to.read up_to.left);
            few = omega (arith, length-append (take n text) up_to.read, length-take n text, up_to.few, within);
          }

  -- after reads and more reads
  pub behind_more : (most now_most : List ℕ → ℕ) (come' : Option (List ℕ)) (n : ℕ) {g' : List ℕ} {w' w'' rest' rest'' : Option (List ℕ)} →
      Passes come come' n → Tells w g w' g' [] → IfSome come (λ text. n + now_most (drop n text) ≤ most text) →
      ReadsBehind most come g w rest w' rest' → Writes w' w'' → ReadsBehind now_most come' g' w' rest' w'' rest'' →
      ReadsBehind most come g w rest w'' rest''
  behind_more most now_most come' n {rest'' = rest''} passes told within first more (inl none) = behind_then most rest'' none first more
  behind_more most now_most come' n {rest'' = rest''} passes told within first more (inr read) =
      inr (flushed_after told read.0, read_after most now_most come' rest'' n passes within read.1)

  -- more may have been read than was
  wider : (most now_most : List ℕ → ℕ) (rest' o : Option (List ℕ)) → IfSome o (λ text. most text ≤ now_most text) →
      IfSome o (λ text. IsReadUpTo (most text) text rest') → IfSome o (λ text. IsReadUpTo (now_most text) text rest')
  wider most now_most rest' None within read = tt
  wider most now_most rest' (Some text) within read =
      record { read = read.read; left = read.left; is_left = read.is_left; parts = read.parts; few = omega (arith, read.few, within) }

  pub behind_wider : (most now_most : List ℕ → ℕ) (w' rest' : Option (List ℕ)) → IfSome come (λ text. most text ≤ now_most text) →
      ReadsBehind most come g w rest w' rest' → ReadsBehind now_most come g w rest w' rest'
  behind_wider most now_most w' rest' within (inl none) = inl none
  behind_wider most now_most w' rest' within (inr read) = inr (read.0, wider most now_most rest' come within read.1)

  -- after n bytes were passed and more, a block
  pub behind_passed : (n m : ℕ) (come' : Option (List ℕ)) {g' : List ℕ} {w' w'' rest' rest'' : Option (List ℕ)} → n ≤ m →
      Passes come come' m → Tells w g w' g' [] → ReadsBehind (λ _. longest_ahead + n) come g w rest w' rest' → Writes w' w'' →
      ReadsBehind (λ _. longest_ahead) come' g' w' rest' w'' rest'' → ReadsBehind (λ _. longest_ahead + m) come g w rest w'' rest''
  behind_passed n m come' le passes told first more read =
      behind_more (λ _. longest_ahead + m) (λ _. longest_ahead) come' m passes told (always come (λ text. omega arith))
      (behind_wider (λ _. longest_ahead + n) (λ _. longest_ahead + m) _ _ (always come (λ text. omega (arith, le))) first) more read

  -- after a block, what a long line takes
  pub behind_long : (come' : Option (List ℕ)) {g' : List ℕ} {w' w'' rest' rest'' : Option (List ℕ)} →
      Passes come come' 0 → Tells w g w' g' [] → ReadsBehind (λ _. longest_ahead) come g w rest w' rest' → Writes w' w'' →
      ReadsBehind reach come' g' w' rest' w'' rest'' → ReadsBehind reach come g w rest w'' rest''
  behind_long come' passes told first more read =
      behind_more reach reach come' 0 passes told (always come (λ text. omega arith)) (behind_wider (λ _. longest_ahead) reach _ _ (always come (λ text. omega arith)) first) more read

-- a block is within reach
pub block_within : (come : Option (List ℕ)) → IfSome come (λ text. longest_ahead ≤ reach text)
block_within None = tt
block_within (Some text) = omega arith

-- and so is a block behind bytes that were passed of a long line
pub passed_within : (come come' : Option (List ℕ)) (n : ℕ) → IfSome come (λ text. 8192 < line_length text) → Passes come come' n → IfSome come (λ text. longest_ahead + n ≤ reach text)
passed_within None come' n long passes = tt
passed_within (Some text) come' n long passes =
    let len : n ≤ line_length text = passes.of_line in
    grind (arith, nat_tests)

-- ---- from line to line

module _ (told : List (List ℕ) → List ℕ) where
  -- nothing is told at first
  pub keeps_up_none : (input written : Option (List ℕ)) → told [] ≡ [] → KeepsUp told [] input input written written
  keeps_up_none input written none = record {
    before = [];
    since = [];
    parts = refl;
    more = [];
    grows = subst (Appends written written) (sym (append-nil (told []) ∙ none)) (Appends-none written);
    reads = at input;
  }
    where
      at : (o : Option (List ℕ)) → IfSome o (λ text. (behind : List ℕ) × PassesLines text (Some behind) [] × IsReadUpTo (reach behind) behind o)
      at None = tt
      at (Some text) = (text, passes_none text, record { read = []; left = text; is_left = refl; parts = refl; few = omega arith })

  -- more lines are answered, and nothing is read
  keeps_up_still : {xs : List (List ℕ)} (ys : List (List ℕ)) {input rest rest' w w' w'' : Option (List ℕ)} → rest' ≡ rest → Writes w' w'' →
      KeepsUp told xs input rest w w' → KeepsUp told (xs ++ ys) input rest' w w''
  keeps_up_still ys {input = input} {w = w} {w' = w'} {w'' = w''} same more up = record {
    before = up.before;
    since = up.since ++ ys;
    parts = ap (λ lines. lines ++ ys) up.parts ∙ append_assoc up.before up.since ys;
    more = up.more ++ more.out;
    grows = Appends-more w w' w'' _ _ _ up.grows more.grows (sym (append_assoc (told up.before) up.more more.out));
    reads = subst (λ r. IfSome input (λ text. (behind : List ℕ) × PassesLines text (Some behind) up.before × IsReadUpTo (reach behind) behind r)) (sym same) up.reads;
  }

  -- all that was told is written before more is read
  keeps_up_here : (input come rest' : Option (List ℕ)) (xs : List (List ℕ)) → IfSome input (λ text. PassesLines text come xs) → IfSome come (λ text. IsReadUpTo (reach text) text rest') →
      IfSome input (λ text. (behind : List ℕ) × PassesLines text (Some behind) xs × IsReadUpTo (reach behind) behind rest')
  keeps_up_here None come rest' xs passes read = tt
  keeps_up_here (Some text) come rest' xs passes read =
      (passes.rest, subst (λ o. PassesLines text o xs) passes.is_rest passes, subst (λ (o : Option (List ℕ)). IfSome o (λ t. IsReadUpTo (reach t) t rest')) passes.is_rest read)

  pub keeps_up_more : {xs : List (List ℕ)} (ys : List (List ℕ)) (come : Option (List ℕ)) {input rest rest' w w' w'' : Option (List ℕ)} {g : List ℕ} →
      Tells w [] w' g (told xs) → IfSome input (λ text. PassesLines text come xs) → KeepsUp told xs input rest w w' →
      ReadsBehind reach come g w' rest w'' rest' → Writes w' w'' → KeepsUp told (xs ++ ys) input rest' w w''
  keeps_up_more ys come tells passes up (inl none) more = keeps_up_still ys none more up
  keeps_up_more {xs = xs} ys come {input = input} {rest' = rest'} {w = w} {w' = w'} {w'' = w''} tells passes up (inr read) more = record {
    before = xs;
    since = ys;
    parts = refl;
    more = read.0.more;
    grows = Appends-more w w' w'' _ _ _ tells.grows read.0.grows (ap (λ l. l ++ read.0.more) (sym tells.parts) ∙ append_assoc tells.out _ read.0.more);
    reads = keeps_up_here input come rest' xs passes read.1;
  }

  -- where all that was told is written, nothing is gathered
  pub close_all : (xs : List (List ℕ)) (w w' : Option (List ℕ)) → Appends w w' (told xs) → WritesClose told xs w w'
  close_all xs w w' all = record {
    before = xs;
    last = [];
    parts = sym (append-nil xs);
    one = omega arith;
    out = told xs;
    grows = all;
    few = omega arith;
  }

  -- behind lines of which no more is gathered than there is room for, one line may be answered
  pub close_behind : {xs : List (List ℕ)} (ys : List (List ℕ)) {w w' w'' : Option (List ℕ)} {g : List ℕ} →
      Tells w [] w' g (told xs) → length g ≤ longest_gathered → length ys ≤ 1 → Writes w' w'' → WritesClose told (xs ++ ys) w w''
  close_behind {xs = xs} ys {w = w} {w' = w'} {w'' = w''} {g = g} tells few one more =
      let size : length tells.out + length g ≡ length (told xs) = sym (length-append tells.out g) ∙ ap length tells.parts in
      record {
        before = xs;
        last = ys;
        parts = refl;
        one = one;
        out = tells.out ++ more.out;
        grows = Appends-more w w' w'' tells.out more.out _ tells.grows more.grows refl;
        few = omega (arith, size, few, length-append tells.out more.out);
      }

  -- closeness, by other words
  pub close_as : (other : List (List ℕ) → List ℕ) → ((lines : List (List ℕ)) → told lines ≡ other lines) → {xs : List (List ℕ)} {w w' : Option (List ℕ)} →
      WritesClose told xs w w' → WritesClose other xs w w'
  close_as other same close = record {
    before = close.before;
    last = close.last;
    parts = close.parts;
    one = close.one;
    out = close.out;
    grows = close.grows;
    few = subst (λ text. length text ≤ length close.out + longest_gathered) (same close.before) close.few;
  }

  -- what is told by other words
  pub keeps_up_as : (other : List (List ℕ) → List ℕ) → ((lines : List (List ℕ)) → told lines ≡ other lines) → {xs : List (List ℕ)} {input rest w w' : Option (List ℕ)} →
      KeepsUp told xs input rest w w' → KeepsUp other xs input rest w w'
  keeps_up_as other same {w = w} {w' = w'} up = record {
    before = up.before;
    since = up.since;
    parts = up.parts;
    more = up.more;
    grows = subst (λ text. Appends w w' (text ++ up.more)) (same up.before) up.grows;
    reads = up.reads;
  }
