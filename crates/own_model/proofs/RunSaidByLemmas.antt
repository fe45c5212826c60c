-- A name's lines in the transcript of all are told as they are alone: other lines make no call of its component.
use Rattle.std.proofs.Common.{◌≡◌, ℕ, ◌++◌, ◌&&◌, Bool, true, false, List, [], ◌∷◌, length, nat_le, refl, ap, sym, ◌∙◌, cond, subst, true≢false, eqb, eqb-true, append-nil}
use Rattle.std.specs.Prelude.{Option, Some, None}
use Rattle.std.specs.Str.{bytes_eq}
use Rattle.std.proofs.lemmas.List.Quantifiers.{position-Some}
use Rattle.std.proofs.lemmas.Slice.Eq.{bytes_eq-Decides}
use Rattle.own_model.proofs.RunLemmas.{own_part-append}
use Rattle.own_model.specs.Call.{Call, Spoken, parsed_call}
use Rattle.own_model.specs.OwnState.{OwnState}
use Rattle.own_model.specs.OwnStep.{own_run, own_step}
use Rattle.own_model.specs.LinesOfName.{Piece, PiecesAreOutput, PiecesAreIndependent, StateIsIndependent, component_of, is_line_of, is_under, joined, pieces, pieces_for, said_by}
use Rattle.own_model.specs.StartList.{Entry, Kind}
use Rattle.own_model.specs.StartList.Kind.{Script, Server, Init}
use Rattle.own_model.specs.Transcript.{Made, Heard, own_part, nobody, entry_at, state_at, heard, classify_call, heard_call, heard_spoken, calls_in, calls_of, longest_line, outcome_text, told, transcript_after}
use Rattle.own_model.specs.Transcript.Heard.{NoCall, Caller}

-- the pieces are what is told
pub pieces_are_told : PiecesAreOutput
pieces_are_told entries starts earlier [] = refl
pieces_are_told entries starts earlier (line ∷ lines) =
    ap (λ rest. told entries starts earlier (heard entries line) ++ rest) (pieces_are_told entries starts (earlier ++ calls_in (heard entries line)) lines)

module _ (entries : List Entry) (starts : List OwnState) (name : List ℕ) where
  -- what a line is to these entries, by whether it is short and what it says
  abbrev hears : Bool → Option Spoken → Heard
  hears short says = cond short (heard_spoken entries says) NoCall

  -- a line of the name is heard as a call under it
  own_line : (short : Bool) (says : Option Spoken) → (short && is_under name says) ≡ true →
      (call : Call) × (hears short says ≡ heard_call entries (record { name = name; call = call }) (component_of entries name))
  own_line false says is = absurd (true≢false (sym is))
  own_line true None is = absurd (true≢false (sym is))
  own_line true (Some says) is =
      let same : says.name ≡ name = (bytes_eq-Decides says.name name).0 is in
      (says.call, ap (λ n. heard_call entries (record { name = n; call = says.call }) (component_of entries n)) same)

  -- two names aren't one component's
  apart : (other : List ℕ) (k component : ℕ) → component_of entries other ≡ Some k → component_of entries name ≡ Some component →
      bytes_eq other name ≡ false → eqb k component ≡ false
  apart other k component there here differ = elim (eqb k component) as (λ b. eqb k component ≡ b → b ≡ false) [
    | true ↦ λ e.
        let same : k ≡ component = eqb-true k component e in
        let theirs : (entry_at entries k).name ≡ other = (bytes_eq-Decides _ other).0 (position-Some _ entries k nobody there).1 in
        let ours : (entry_at entries component).name ≡ name = (bytes_eq-Decides _ name).0 (position-Some _ entries component nobody here).1 in
        let both : other ≡ name = sym theirs ∙ ap (λ j. (entry_at entries j).name) same ∙ ours in
        absurd (true≢false (sym ((bytes_eq-Decides other name).1 both) ∙ differ))
    | false ↦ λ e. refl
  ] refl

  -- another line makes no call of the name's component
  module _ (component : ℕ) (here : component_of entries name ≡ Some component) where
    others_call : (kind : Kind) (says : Spoken) (k : ℕ) → eqb k component ≡ false → own_part component (calls_in (classify_call kind says k)) ≡ []
    others_call Script says k other = ap (λ b. cond b (says.call ∷ []) []) other
    others_call Server says k other = ap (λ b. cond b (says.call ∷ []) []) other
    others_call Init says k other = refl

    other_call : (says : Spoken) (found : Option ℕ) → component_of entries says.name ≡ found → bytes_eq says.name name ≡ false →
        own_part component (calls_in (heard_call entries says found)) ≡ []
    other_call says None there differ = refl
    other_call says (Some k) there differ = others_call (entry_at entries k).kind says k (apart says.name k component there here differ)

    other_line : (short : Bool) (says : Option Spoken) → (short && is_under name says) ≡ false → own_part component (calls_in (hears short says)) ≡ []
    other_line false says is = refl
    other_line true None is = refl
    other_line true (Some says) is = other_call says (component_of entries says.name) refl is

  -- calls of which those of the name's component are the same
  abbrev Alike : List Made → List Made → Type 0
  Alike xs ys = (component : ℕ) → component_of entries name ≡ Some component → own_part component xs ≡ own_part component ys

  -- a component's call is answered alike after them
  answered_alike : (call : Call) (component : ℕ) (xs ys : List Made) → own_part component xs ≡ own_part component ys →
      told entries starts xs (Caller (record { component = component; call = call })) ≡ told entries starts ys (Caller (record { component = component; call = call }))
  answered_alike call component xs ys alike =
      let entry = entry_at entries component in
      ap (λ part. outcome_text entry.name (own_step entry call (own_run entry part (state_at starts component)))) alike

  -- so is a line of its name, whatever its kind
  told_of : (kind : Kind) (call : Call) (component : ℕ) (xs ys : List Made) → own_part component xs ≡ own_part component ys →
      told entries starts xs (classify_call kind (record { name = name; call = call }) component) ≡ told entries starts ys (classify_call kind (record { name = name; call = call }) component)
  told_of Script call component xs ys alike = answered_alike call component xs ys alike
  told_of Server call component xs ys alike = answered_alike call component xs ys alike
  told_of Init call component xs ys alike = refl

  -- a line of the name is told alike after them, and keeps them so
  told_alike : (call : Call) (found : Option ℕ) (xs ys : List Made) → component_of entries name ≡ found → Alike xs ys →
      told entries starts xs (heard_call entries (record { name = name; call = call }) found) ≡ told entries starts ys (heard_call entries (record { name = name; call = call }) found)
  told_alike call None xs ys there alike = refl
  told_alike call (Some component) xs ys there alike = told_of (entry_at entries component).kind call component xs ys (alike component there)

  alike_more : (xs ys zs : List Made) → Alike xs ys → Alike (xs ++ zs) (ys ++ zs)
  alike_more xs ys zs alike component here =
      own_part-append component xs zs ∙ ap (λ part. part ++ own_part component zs) (alike component here) ∙ sym (own_part-append component ys zs)

  -- another line keeps them so where it stands in one of them alone
  alike_past : (line : List ℕ) (xs ys : List Made) → is_line_of name line ≡ false → Alike xs ys → Alike (xs ++ calls_in (heard entries line)) ys
  alike_past line xs ys other alike component here =
      own_part-append component xs (calls_in (heard entries line))
      ∙ ap (λ part. own_part component xs ++ part) (other_line component here (nat_le (length line) longest_line) (parsed_call line) other)
      ∙ append-nil (own_part component xs) ∙ alike component here

  -- a name's lines are told alike among others and alone
  told_line : (line : List ℕ) (xs ys : List Made) → is_line_of name line ≡ true → Alike xs ys → told entries starts xs (heard entries line) ≡ told entries starts ys (heard entries line)
  told_line line xs ys own alike =
      let says = own_line (nat_le (length line) longest_line) (parsed_call line) own in
      subst (λ what. told entries starts xs what ≡ told entries starts ys what) (sym says.1) (told_alike says.0 (component_of entries name) xs ys refl alike)

  told_alone : (lines : List (List ℕ)) (xs ys : List Made) → Alike xs ys →
      joined (pieces_for name (pieces entries starts xs lines)) ≡ transcript_after entries starts ys (said_by (Some name) lines)
  told_alone [] xs ys alike = refl
  told_alone (line ∷ lines) xs ys alike =
      let next = calls_in (heard entries line) in
      let here : Piece = record { line = line; text = told entries starts xs (heard entries line) } in
      let theirs = pieces_for name (pieces entries starts (xs ++ next) lines) in
      let ours = said_by (Some name) lines in
      elim (is_line_of name line) as (λ b. is_line_of name line ≡ b → joined (cond b (here ∷ theirs) theirs) ≡ transcript_after entries starts ys (cond b (line ∷ ours) ours)) [
        | true ↦ λ own.
            ap (λ rest. here.text ++ rest) (told_alone lines (xs ++ next) (ys ++ next) (alike_more xs ys next alike))
            ∙ ap (λ text. text ++ transcript_after entries starts (ys ++ next) ours) (told_line line xs ys own alike)
        | false ↦ λ other. told_alone lines (xs ++ next) ys (alike_past line xs ys other alike)
      ] refl

  -- the calls of all and those of the name's lines are alike
  calls_alike : (lines : List (List ℕ)) → Alike (calls_of entries lines) (calls_of entries (said_by (Some name) lines))
  calls_alike [] component here = refl
  calls_alike (line ∷ lines) component here =
      let next = calls_in (heard entries line) in
      let ours = said_by (Some name) lines in
      let first : own_part component (calls_of entries (line ∷ lines)) ≡ own_part component next ++ own_part component (calls_of entries lines) =
      own_part-append component next (calls_of entries lines) in
      let later = calls_alike lines component here in
      elim (is_line_of name line) as (λ b. is_line_of name line ≡ b → own_part component (calls_of entries (line ∷ lines)) ≡ own_part component (calls_of entries (cond b (line ∷ ours) ours))) [
        | true ↦ λ own.
            first ∙ ap (λ part. own_part component next ++ part) later ∙ sym (own_part-append component next (calls_of entries ours))
        | false ↦ λ other.
            first ∙ ap (λ part. part ++ own_part component (calls_of entries lines)) (other_line component here (nat_le (length line) longest_line) (parsed_call line) other) ∙ later
      ] refl

-- the law of the transcript
pub pieces_stand_alone : PiecesAreIndependent
pieces_stand_alone entries starts name lines = told_alone entries starts name lines [] [] (λ component here. refl)

-- and of the own state
pub state_stands_alone : StateIsIndependent
state_stands_alone entries starts name lines component here =
    ap (λ part. own_run (entry_at entries component) part (state_at starts component)) (calls_alike entries starts name lines component here)
