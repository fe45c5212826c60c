-- What lines one after another add to a verdict.
use Rattle.std.proofs.Common.{◌≡◌, ◌≢◌, ℕ, ◌<◌, ◌≤◌, ◌+◌, suc, Bool, true, false, List, [], ◌∷◌, ◌++◌, length, map, drop, get_or, nat_eq, refl, sym, subst, ap, ◌∙◌, Ok, Err}
use Rattle.std.specs.Prelude.{filter, if◌then◌else◌}
use Rattle.std.proofs.lemmas.Bool.{eqb-true}
use Rattle.std.proofs.lemmas.List.{append_assoc, append-nil, drop_all, drop_more, nil_from_length}
use Rattle.std.proofs.lemmas.Simd.{map-map}
use Rattle.own_model.specs.Listed.{Listed}
use Rattle.list_policy.specs.Components.{FaultAt, fault_at}
use Rattle.list_policy.specs.Demand.{AreBreaches}
use Rattle.list_policy.specs.Line.{LineAt, line_at}
use Rattle.list_policy.specs.Pairs.{says_nothing}
use Rattle.list_policy.specs.Reading.{Reads, lines_of}
use Rattle.list_policy.specs.Verdict.{AreBrokenAt, FoundAt, IsVerdict, PlaceAt, breach_place, flaw_place}
use Rattle.list_policy.specs.declared.breach.Breach.{Breach}
use Rattle.list_policy.specs.declared.demand.PolicyLine.{PolicyLine}
use Rattle.list_policy.specs.declared.fault.PolicyFault.{PolicyFault}
use Rattle.list_policy.specs.declared.policy_text.Policy.{Policy}

-- what the lines that are left have makes all that lines have, after what was found
abbrev pub AreBrokenUpTo : Listed → List LineAt → List LineAt → List PlaceAt → Type 0
AreBrokenUpTo list lines left places =
    (others : List PlaceAt) → AreBrokenAt list left others → AreBrokenAt list lines (places ++ others)

pub broken_none : (list : Listed) (lines : List LineAt) → AreBrokenUpTo list lines lines []
broken_none list lines = λ others broken. broken

-- one line more
pub broken_more : (list : Listed) (lines : List LineAt) (texts : List PolicyLine) (place next : ℕ) (line : PolicyLine)
    (found : List Breach) (old new : List PlaceAt) → next ≡ place + 1 → place < length texts → line ≡ get_or texts place line
    → AreBreaches list (line_at line) found → new ≡ old ++ map (breach_place (line_at line)) found
    → AreBrokenUpTo list lines (map line_at (drop place texts)) old → AreBrokenUpTo list lines (map line_at (drop next texts)) new
broken_more list lines texts place next line found old new after within is breaches more before =
    λ others broken.
    let left : map line_at (drop place texts) ≡ line_at line ∷ map line_at (drop next texts)
    = ap (λ (xs : List PolicyLine). map line_at xs) (drop_more texts place line within)
    ∙ (ap (λ (l : PolicyLine). line_at l ∷ map line_at (drop (place + 1) texts)) (sym is)
    ∙ ap (λ n. line_at line ∷ map line_at (drop n texts)) (sym after)) in
    subst (λ ms. AreBrokenAt list lines ms)
    (sym (ap (λ ms. ms ++ others) more ∙ append_assoc old (map (breach_place (line_at line)) found) others))
    (before (map (breach_place (line_at line)) found ++ others)
    (subst (λ ls. AreBrokenAt list ls (map (breach_place (line_at line)) found ++ others)) (sym left)
    (found, others, refl, breaches, broken)))

-- no line is left
pub broken_all : (list : Listed) (lines : List LineAt) (texts : List PolicyLine) (place : ℕ) (places : List PlaceAt) → length texts ≤ place
    → AreBrokenUpTo list lines (map line_at (drop place texts)) places → AreBrokenAt list lines places
broken_all list lines texts place places end before =
    subst (λ ms. AreBrokenAt list lines ms) (append-nil places)
    (before [] (subst (λ (xs : List PolicyLine). AreBrokenAt list (map line_at xs) []) (sym (drop_all place texts end)) refl))

-- ---- lines that speak of nothing

kept_both : {X Y : Type 0} (b : Bool) (x : X) (y : Y) (xs : List X) (ys : List Y) → length xs ≡ length ys
    → length (if b then x ∷ xs else xs) ≡ length (if b then y ∷ ys else ys)
kept_both true x y xs ys same = ap (λ n. suc n) same
kept_both false x y xs ys same = same

-- as many pass a test as their values do
passed_as : {X Y : Type 0} (p : Y → Bool) (f : X → Y) (xs : List X) → length (filter (λ x. p (f x)) xs) ≡ length (filter p (map f xs))
passed_as p f [] = refl
passed_as p f (x ∷ xs) = kept_both (p (f x)) x (f x) (filter (λ x'. p (f x')) xs) (filter p (map f xs)) (passed_as p f xs)

-- the verdict of a policy without faults, and of one with faults
pub held_is : (list : Listed) (text : List ℕ) (policy : Policy) (lines : List PolicyLine) (faults : List PolicyFault) (found : FoundAt) (b : Bool)
    → Reads list text policy → faults ≡ policy.faults.items → b ≡ nat_eq (length faults) 0 → b ≡ true → lines ≡ policy.lines.items
    → AreBrokenAt list (map line_at lines) found.broken → found.void ≡ length (filter (λ (line : PolicyLine). says_nothing list (line_at line)) lines)
    → IsVerdict list text (Ok found)
held_is list text policy lines faults found b reads faults_are test is lines_are are void =
    let same : map line_at lines ≡ lines_of list text = ap (λ (ls : List PolicyLine). map line_at ls) lines_are ∙ reads.lines in (
      sym reads.faults ∙ ap (λ (fs : List PolicyFault). map fault_at fs) (sym faults_are ∙ nil_from_length faults (eqb-true (length faults) 0 (sym test ∙ is))),
      subst (λ (ls : List LineAt). AreBrokenAt list ls found.broken) same are,
      void ∙ passed_as (says_nothing list) line_at lines ∙ ap (λ (ls : List LineAt). length (filter (says_nothing list) ls)) same,
    )

some_left : {X Y : Type 0} (f : X → Y) (xs : List X) (b : Bool) → b ≡ nat_eq (length xs) 0 → b ≡ false → map f xs ≢ []
some_left f [] b test is same = cc
some_left f (x ∷ xs) b test is same = cc

pub faulty_is : (list : Listed) (text : List ℕ) (policy : Policy) (faults : List PolicyFault) (places : List PlaceAt) (b : Bool)
    → Reads list text policy → faults ≡ policy.faults.items → b ≡ nat_eq (length faults) 0 → b ≡ false
    → places ≡ map flaw_place (map fault_at faults) → IsVerdict list text (Err places)
faulty_is list text policy faults places b reads faults_are test is are = (
  (λ none. some_left (λ (fault : PolicyFault). flaw_place (fault_at fault)) faults b test is (sym (map-map flaw_place fault_at faults) ∙ (sym are ∙ none))),
  are ∙ ap (λ (fs : List FaultAt). map flaw_place fs) (ap (λ (fs : List PolicyFault). map fault_at fs) faults_are ∙ reads.faults),
)
