-- The lines of a policy, text by text, and the components of a line, path by path.
use Rattle.std.proofs.Common.{Option, Some, None, Result, Ok, Err, ◌≡◌, ℕ, ◌<◌, ◌≤◌, ◌+◌, ◌==◌, ◌&&◌, suc, Bool, true, false, List, [], ◌∷◌, ◌++◌, length, drop, map, get_or, nat_eq, refl, sym, ap, ◌∙◌, arith}
use Rattle.std.proofs.lemmas.Bool.{false≢true}
use Rattle.std.proofs.lemmas.Bool.Decides.{nat_tests}
use Rattle.std.proofs.lemmas.List.{append-nil, append_assoc, drop_all, drop_more}
use Rattle.std.specs.Prelude.{if◌then◌else◌}
use Rattle.std.specs.List.{starts_with}
use Rattle.std.specs.Option.{option_map}
use Rattle.own_model.specs.Listed.{Listed}
use Rattle.list_reach.specs.Paths.{PathFault, numbers_below}
use Rattle.list_reach.proofs.NamedLemmas.{numbers_more as below_more}
use Rattle.list_policy.specs.Components.{FaultAt, fault_at, fault_in, faults_in, flaw_in, flawed, found_in, next_place, numbers_in, read_at}
use Rattle.list_policy.specs.Cuts.{blanks, text_at}
use Rattle.list_policy.specs.Line.{line_at}
use Rattle.list_policy.specs.Reading.{LineSaid, unless_faulty, unless_silent}
use Rattle.list_policy.specs.Statement.{FlawAt, HasBadPath, SaysNothing}
use Rattle.list_policy.specs.declared.components.NamedKind.{NamedKind}
use Rattle.list_policy.specs.declared.components.PolicyPlace.{PolicyPlace}
use Rattle.list_policy.specs.declared.demand.PolicyLine.{PolicyLine}
use Rattle.list_policy.specs.declared.fault.PolicyFault.{PolicyFault}

-- the flaw of paths that denote nobody
pub path_flaw : (named : Result (List ℕ) PathFault) (why : PathFault) → named ≡ Err why → flawed named ≡ Err (HasBadPath (Some why))
path_flaw named why is = ap flawed is

pub path_found : (named : Result (List ℕ) PathFault) (numbers : List ℕ) → named ≡ Ok numbers → flawed named ≡ Ok numbers
path_found named numbers is = ap flawed is

-- ---- whether paths have faults

pub none_found : (faults : List PolicyFault) (all : List FaultAt) (line : LineSaid) → map fault_at faults ≡ all
    → (length faults == 0) ≡ true → unless_faulty all line ≡ line
none_found [] all line is none = ap (λ fs. unless_faulty fs line) (sym is)
none_found (fault ∷ faults) all line is none =
    let empty : length (fault ∷ faults) ≡ 0 = grind (arith, nat_tests) in absurd (omega (arith, empty))

pub some_found : (faults : List PolicyFault) (all : List FaultAt) (line : LineSaid) → map fault_at faults ≡ all
    → (length faults == 0) ≡ false → unless_faulty all line ≡ Err (map fault_at faults)
some_found [] all line is some = absurd (false≢true (sym some))
some_found (fault ∷ faults) all line is some = ap (λ fs. unless_faulty fs line) (sym is)

-- ---- numbers below a bound

pub below_kept : (passes : ℕ → Bool) (n : ℕ) (found : List ℕ) → found ≡ numbers_below passes n → passes n ≡ true
    → found ++ n ∷ [] ≡ numbers_below passes (n + 1)
below_kept passes n found is yes' = rw (below_more passes n) (rw yes' (ap (λ xs. xs ++ n ∷ []) is))

pub below_left : (passes : ℕ → Bool) (n : ℕ) (found : List ℕ) → found ≡ numbers_below passes n → passes n ≡ false
    → found ≡ numbers_below passes (n + 1)
below_left passes n found is no' = rw (below_more passes n) (rw no' (is ∙ sym (append-nil (numbers_below passes n))))

-- ---- whether a text has a demand

pub spoken : (lines : List PolicyLine) (faults : List PolicyFault) → (length lines == 0 && length faults == 0) ≡ false
    → map fault_at faults ≡ unless_silent (map line_at lines) (map fault_at faults)
spoken [] [] some = absurd (false≢true (sym some))
spoken [] (fault ∷ faults) some = refl
spoken (line ∷ lines) faults some = refl

first_true : (a b : Bool) → (a && b) ≡ true → a ≡ true
first_true true b both = refl
first_true false b both = both

pub silent : (lines : List PolicyLine) (faults : List PolicyFault) (fault : PolicyFault) → (length lines == 0 && length faults == 0) ≡ true
    → fault_at fault ≡ flaw_in (record { line = 0; column = 0 }) SaysNothing
    → map fault_at (faults ++ fault ∷ []) ≡ unless_silent (map line_at lines) (map fault_at faults)
silent [] [] fault none is = ap (λ (f : FaultAt). f ∷ []) is
silent [] (other ∷ faults) fault none is =
    let rest : (length (other ∷ faults) == 0) ≡ true = none in
    let empty : length (other ∷ faults) ≡ 0 = grind (arith, nat_tests, rest) in absurd (omega (arith, empty))
silent (line ∷ lines) faults fault none is =
    let some : (length (line ∷ lines) == 0) ≡ true = first_true (length (line ∷ lines) == 0) (length faults == 0) none in
    let empty : length (line ∷ lines) ≡ 0 = grind (arith, nat_tests, some) in absurd (omega (arith, empty))

-- ---- the first place of a text

shifted : (at : ℕ) (found : Option ℕ) → option_map (λ n. at + n) (option_map (λ n. suc n) found) ≡ option_map (λ n. (at + 1) + n) found
shifted at None = refl
shifted at (Some n) = ap Some (omega arith)

pub text_passed : (needle text : List ℕ) (at : ℕ) → at < length text → starts_with nat_eq (drop at text) needle ≡ false
    → text_at needle text ≡ option_map (λ n. at + n) (text_at needle (drop at text))
    → text_at needle text ≡ option_map (λ n. (at + 1) + n) (text_at needle (drop (at + 1) text))
text_passed needle text at within lost so =
    let split = drop_more text at 0 within in
    let here : starts_with nat_eq (get_or text at 0 ∷ drop (at + 1) text) needle ≡ false = ap (λ t. starts_with nat_eq t needle) (sym split) ∙ lost in
    so ∙ (ap (λ t. option_map (λ n. at + n) (text_at needle t)) split
    ∙ (ap (λ b. option_map (λ n. at + n) (if b then Some 0 else option_map (λ n. suc n) (text_at needle (drop (at + 1) text)))) here
    ∙ shifted at (text_at needle (drop (at + 1) text))))

pub text_found : (needle text : List ℕ) (at : ℕ) → at < length text → starts_with nat_eq (drop at text) needle ≡ true
    → text_at needle text ≡ option_map (λ n. at + n) (text_at needle (drop at text))
    → text_at needle text ≡ Some at
text_found needle text at within is so =
    let split = drop_more text at 0 within in
    let here : starts_with nat_eq (get_or text at 0 ∷ drop (at + 1) text) needle ≡ true = ap (λ t. starts_with nat_eq t needle) (sym split) ∙ is in
    so ∙ (ap (λ t. option_map (λ n. at + n) (text_at needle t)) split
    ∙ (ap (λ b. option_map (λ n. at + n) (if b then Some 0 else option_map (λ n. suc n) (text_at needle (drop (at + 1) text)))) here
    ∙ ap Some (omega arith)))

pub text_none : (needle text : List ℕ) (at : ℕ) → length text ≤ at
    → text_at needle text ≡ option_map (λ n. at + n) (text_at needle (drop at text)) → text_at needle text ≡ None
text_none needle text at end so = so ∙ ap (λ t. option_map (λ n. at + n) (text_at needle t)) (drop_all at text end)

-- ---- one path more

module _ {X : Type 0} (text_of : X → List ℕ) where
  pub numbers_more : (list : Listed) (kind : NamedKind) (whole found new : List ℕ) (texts : List X) (at : ℕ) (d : X) (read : Result (List ℕ) FlawAt)
      → at < length texts → whole ≡ found ++ found_in list kind (map text_of (drop at texts))
      → read ≡ read_at list kind (text_of (get_or texts at d)) → new ≡ found ++ numbers_in read
      → whole ≡ new ++ found_in list kind (map text_of (drop (at + 1) texts))
  numbers_more list kind whole found new texts at d read within so is more =
      so ∙ (ap (λ (xs : List X). found ++ found_in list kind (map text_of xs)) (drop_more texts at d within)
      ∙ (sym (append_assoc found (numbers_in (read_at list kind (text_of (get_or texts at d)))) (found_in list kind (map text_of (drop (at + 1) texts))))
      ∙ ap (λ xs. xs ++ found_in list kind (map text_of (drop (at + 1) texts))) (sym (more ∙ ap (λ r. found ++ numbers_in r) is))))

  pub faults_more : (list : Listed) (kind : NamedKind) (whole found new : List FaultAt) (texts : List X) (here place next : PolicyPlace) (at : ℕ) (d : X)
      (read : Result (List ℕ) FlawAt)
      → at < length texts → whole ≡ found ++ faults_in list kind here (map text_of (drop at texts))
      → read ≡ read_at list kind (text_of (get_or texts at d)) → place ≡ next_place here (blanks (text_of (get_or texts at d)))
      → next ≡ next_place here (length (text_of (get_or texts at d)) + 1) → new ≡ found ++ fault_in place read
      → whole ≡ new ++ faults_in list kind next (map text_of (drop (at + 1) texts))
  faults_more list kind whole found new texts here place next at d read within so is there after more =
      so ∙ (ap (λ (xs : List X). found ++ faults_in list kind here (map text_of xs)) (drop_more texts at d within)
      ∙ (sym (append_assoc found (fault_in (next_place here (blanks (text_of (get_or texts at d)))) (read_at list kind (text_of (get_or texts at d))))
      (faults_in list kind (next_place here (length (text_of (get_or texts at d)) + 1)) (map text_of (drop (at + 1) texts))))
      ∙ (ap (λ n. (found ++ fault_in (next_place here (blanks (text_of (get_or texts at d)))) (read_at list kind (text_of (get_or texts at d))))
      ++ faults_in list kind n (map text_of (drop (at + 1) texts))) (sym after)
      ∙ ap (λ xs. xs ++ faults_in list kind next (map text_of (drop (at + 1) texts)))
      (sym (more ∙ (ap (λ p. found ++ fault_in p read) there ∙ ap (λ r. found ++ fault_in (next_place here (blanks (text_of (get_or texts at d)))) r) is))))))

module _ {A X Y : Type 0} (text_of : X → Y) where
  -- what is said by the texts that are left, where each says something by its number
  abbrev pub left_from : (ℕ → List Y → List A) → ℕ → ℕ → List X → List A
  left_from from number place texts = from number (map text_of (drop place texts))

  -- one text more
  pub text_read : (from : ℕ → List Y → List A) (says : ℕ → Y → List A)
      → ((number : ℕ) (text : Y) (texts : List Y) → from number (text ∷ texts) ≡ says number text ++ from (number + 1) texts)
      → (whole found : List A) (texts : List X) (number place : ℕ) (d : X) → place < length texts
      → whole ≡ found ++ left_from from number place texts
      → whole ≡ found ++ says number (text_of (get_or texts place d)) ++ left_from from (number + 1) (place + 1) texts
  text_read from says one whole found texts number place d less so =
      so ∙ ap (λ (xs : List X). found ++ from number (map text_of xs)) (drop_more texts place d less)
      ∙ ap (λ (ys : List A). found ++ ys) (one number (text_of (get_or texts place d)) (map text_of (drop (place + 1) texts)))
      ∙ sym (append_assoc found (says number (text_of (get_or texts place d))) (left_from from (number + 1) (place + 1) texts))

  -- no text is left
  pub all_read : (from : ℕ → List Y → List A) → ((number : ℕ) → from number [] ≡ [])
      → (whole found : List A) (texts : List X) (number place : ℕ) → length texts ≤ place
      → whole ≡ found ++ left_from from number place texts → found ≡ whole
  all_read from none whole found texts number place end so =
      sym (so ∙ ap (λ (xs : List X). found ++ from number (map text_of xs)) (drop_all place texts end)
      ∙ ap (λ (ys : List A). found ++ ys) (none number) ∙ append-nil found)
