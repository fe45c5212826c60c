-- Which breaches of a policy are reported.
use Rattle.std.proofs.Common.{◌≡◌, ◌<◌, ◌==◌, ℕ, Bool, true, false, List, [], ◌∷◌, ◌++◌, refl, sym, subst, ap, ◌∙◌, arith, inl, inr}
use Rattle.std.specs.Prelude.{◌⊎◌, Contains, Option, Some, None, if◌then◌else◌}
use Rattle.std.specs.List.{flat_map}
use Rattle.std.specs.Str.{bytes_eq}
use Rattle.std.proofs.lemmas.Bool.Decides.{nat_tests}
use Rattle.std.proofs.lemmas.List.Elements.{Contains-append_cases, Contains-append_left, Contains-append_right, Contains-push_cases}
use Rattle.std.proofs.lemmas.List.Folds.{list_any_at}
use Rattle.std.proofs.lemmas.Slice.Eq.{bytes_eq-Decides}
use Rattle.list_diff.specs.PlacedBreaches.{BreachAt}
use Rattle.list_diff.specs.Breaches.{ChangeAt, alone, came, gone, has, same_breach, same_server}
use Rattle.list_diff.specs.NewBreaches.{GoneBreachIsReported, NewBreachIsReported, ReportedBreachIsGone, ReportedBreachIsNew, SameBreachesAreNone, new_one, old_one}
use Rattle.list_diff.proofs.PairLemmas.{contains_found, contains_one}

-- ---- elements

in_none : {X : Type 0} (x : X) → Contains [] x → ⊥
in_none x found = let lt : found.0 < 0 = found.1 in omega (arith, lt)

one_is : {X : Type 0} (y x : X) → Contains [] x ⊎ (y ≡ x) → y ≡ x
one_is y x (inl none) = absurd (in_none x none)
one_is y x (inr is) = is

-- the only element
only : {X : Type 0} (y x : X) → Contains (y ∷ []) x → y ≡ x
only y x found = one_is y x (Contains-push_cases [] y x found)

module _ {X Y : Type 0} (f : X → List Y) where
  -- an element of the lists of some elements is one of the list of one of them
  from_first : (x : X) (xs : List X) (y : Y) → (Contains (flat_map f xs) y → (z : X) × Contains xs z × Contains (f z) y)
      → Contains (f x) y ⊎ Contains (flat_map f xs) y → (z : X) × Contains (x ∷ xs) z × Contains (f z) y
  from_first x xs y rest (inl here) = (x, Contains-append_left (x ∷ []) xs x (contains_one x), here)
  from_first x xs y rest (inr there) =
      let found = rest there in (found.0, Contains-append_right (x ∷ []) xs found.0 found.1, found.2)

  pub from_each : (xs : List X) (y : Y) → Contains (flat_map f xs) y → (z : X) × Contains xs z × Contains (f z) y
  from_each [] y found = absurd (in_none y found)
  from_each (x ∷ xs) y found = from_first x xs y (from_each xs y) (Contains-append_cases (f x) (flat_map f xs) y found)

-- ---- changes

-- a change of one list alone is there
there_if : (others : List BreachAt) (change : ChangeAt) → has others change.breach ≡ false → Contains (alone others change) change
there_if others change none = subst (λ b. Contains (if b then [] else change ∷ []) change) (sym none) (contains_one change)

is_there : (change other : ChangeAt) (b : Bool) → Contains (if b then [] else change ∷ []) other → (b ≡ false) × (change ≡ other)
is_there change other true found = absurd (in_none other found)
is_there change other false found = (refl, only change other found)

-- and a change that is there is one of one list alone
alone_is : (others : List BreachAt) (change other : ChangeAt) → Contains (alone others change) other
    → (has others change.breach ≡ false) × (change ≡ other)
alone_is others change other found = is_there change other (has others change.breach) found

pub new_reported : NewBreachIsReported
new_reported before after breach among none =
    Contains-append_right (flat_map (gone after) before) (flat_map (came before) after) (new_one breach)
    (contains_found (came before) after breach (new_one breach) among (there_if before (new_one breach) none))

pub gone_reported : GoneBreachIsReported
gone_reported before after breach among none =
    Contains-append_left (flat_map (gone after) before) (flat_map (came before) after) (old_one breach)
    (contains_found (gone after) before breach (old_one breach) among (there_if after (old_one breach) none))

-- the breach of a change among those of a list
breach_in : (others all : List BreachAt) (make : BreachAt → ChangeAt) (breach found : BreachAt) → ((b : BreachAt) → (make b).breach ≡ b)
    → Contains all found → (has others found ≡ false) → make found ≡ make breach → Contains all breach × (has others breach ≡ false)
breach_in others all make breach found kept among none same =
    let is : found ≡ breach = sym (kept found) ∙ ap (λ (c : ChangeAt). c.breach) same ∙ kept breach in
    (subst (λ b. Contains all b) is among, subst (λ b. has others b ≡ false) is none)

new_from : (before after : List BreachAt) (breach : BreachAt)
    → Contains (flat_map (gone after) before) (new_one breach) ⊎ Contains (flat_map (came before) after) (new_one breach)
    → Contains after breach × (has before breach ≡ false)
new_from before after breach (inl left) =
    let found = from_each (gone after) before (new_one breach) left in
    let is = alone_is after (old_one found.0) (new_one breach) found.2 in
    let no : false ≡ true = ap (λ (c : ChangeAt). c.is_new) is.1 in cc
new_from before after breach (inr right) =
    let found = from_each (came before) after (new_one breach) right in
    let is = alone_is before (new_one found.0) (new_one breach) found.2 in
    breach_in before after new_one breach found.0 (λ b. refl) found.1 is.0 is.1

gone_from : (before after : List BreachAt) (breach : BreachAt)
    → Contains (flat_map (gone after) before) (old_one breach) ⊎ Contains (flat_map (came before) after) (old_one breach)
    → Contains before breach × (has after breach ≡ false)
gone_from before after breach (inl left) =
    let found = from_each (gone after) before (old_one breach) left in
    let is = alone_is after (old_one found.0) (old_one breach) found.2 in
    breach_in after before old_one breach found.0 (λ b. refl) found.1 is.0 is.1
gone_from before after breach (inr right) =
    let found = from_each (came before) after (old_one breach) right in
    let is = alone_is before (new_one found.0) (old_one breach) found.2 in
    let no : true ≡ false = ap (λ (c : ChangeAt). c.is_new) is.1 in cc

pub reported_new : ReportedBreachIsNew
reported_new before after breach found =
    new_from before after breach (Contains-append_cases (flat_map (gone after) before) (flat_map (came before) after) (new_one breach) found)

pub reported_gone : ReportedBreachIsGone
reported_gone before after breach found =
    gone_from before after breach (Contains-append_cases (flat_map (gone after) before) (flat_map (came before) after) (old_one breach) found)

-- ---- the same breaches

same_servers : (server : Option (List ℕ)) → same_server server server ≡ true
same_servers None = refl
same_servers (Some server) = (bytes_eq-Decides server server).1 refl

same_itself : (breach : BreachAt) → same_breach breach breach ≡ true
same_itself breach =
    let line : (breach.place.line == breach.place.line) ≡ true = grind (arith, nat_tests) in
    let client : bytes_eq breach.place.client breach.place.client ≡ true = (bytes_eq-Decides breach.place.client breach.place.client).1 refl in
    rw (line, client) (same_servers breach.place.server)

-- a breach of a list is one that the list has
has_itself : (breaches : List BreachAt) (breach : BreachAt) → Contains breaches breach → has breaches breach ≡ true
has_itself breaches breach found =
    list_any_at (same_breach breach) breaches found.0 breach found.1 (ap (same_breach breach) found.2 ∙ same_itself breach)

none_of : (change : ChangeAt) (b : Bool) (rest : List ChangeAt) → b ≡ true → rest ≡ [] → (if b then [] else change ∷ []) ++ rest ≡ []
none_of change true rest is none = none
none_of change false rest is none = cc

no_changes : (make : BreachAt → ChangeAt) (others : List BreachAt) → ((b : BreachAt) → (make b).breach ≡ b) → (all : List BreachAt)
    → ((b : BreachAt) → Contains all b → has others b ≡ true) → flat_map (λ b. alone others (make b)) all ≡ []
no_changes make others kept [] all_there = refl
no_changes make others kept (b ∷ all) all_there =
    none_of (make b) (has others (make b).breach) (flat_map (λ c. alone others (make c)) all)
    (ap (has others) (kept b) ∙ all_there b (Contains-append_left (b ∷ []) all b (contains_one b)))
    (no_changes make others kept all (λ c among. all_there c (Contains-append_right (b ∷ []) all c among)))

pub same_none : SameBreachesAreNone
same_none breaches =
    let old : flat_map (gone breaches) breaches ≡ [] = no_changes old_one breaches (λ b. refl) breaches (has_itself breaches) in
    let new : flat_map (came breaches) breaches ≡ [] = no_changes new_one breaches (λ b. refl) breaches (has_itself breaches) in
    rw (old) new
