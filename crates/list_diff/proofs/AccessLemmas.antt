-- Access that is new, or that is lost, has its row.
use Rattle.std.proofs.Common.{◌≡◌, ◌≤◌, ◌∙◌, ℕ, Bool, true, false, not, ◌&&◌, ◌||◌, List, [], length, refl, ap, subst, Option, Some, None, arith}
use Rattle.std.specs.Prelude.{Contains, is_some}
use Rattle.std.proofs.lemmas.Bool.{both_ways}
use Rattle.own_model.specs.Listed.{Listed}
use Rattle.list_labels.specs.GivenLabels.{IsGiven}
use Rattle.list_labels.specs.LabelSets.{set_has}
use Rattle.list_reach.specs.Comparisons.{IsShortestBy}
use Rattle.list_reach.specs.RoutedLabels.{RoutedLabel, is_gained, is_lost, is_to, routes_of}
use Rattle.list_diff.specs.declared.moved_labels.MovedLabels.{MovedLabels}
use Rattle.list_diff.specs.Changes.{place_of}
use Rattle.list_diff.specs.NewAccess.{HasCell, HasLabel, IsAbout, IsReached, LostAccessIsReported, NewAccessIsReported, NoRowsAreNoChange, reaches}
use Rattle.list_diff.specs.Reaches.{AreReachChanges, IsRow, IsRowIf, Shows, moves_some}
use Rattle.list_diff.specs.Routes.{Pair, routes}
use Rattle.list_diff.specs.declared.reach_changes.ReachChange.{ReachChange}
use Rattle.list_diff.specs.declared.reach_changes.ReachSide.{ReachSide}
use Rattle.list_diff.proofs.PairLemmas.{IsAlike, new_compared, old_compared, shown}

-- a shortest label that passes is no longer than one that passes
witness_least : (before after : List ℕ → Option ℕ) (test : RoutedLabel → Bool) (witness : Option (List ℕ)) (label : List ℕ)
    → IsShortestBy before after test witness → IsGiven label → test (routes_of before after label) ≡ true
    → (shown : List ℕ) × (witness ≡ Some shown) × (length shown ≤ length label)
witness_least before after test None label none given passes = absurd (both_ways _ (none label given) passes)
witness_least before after test (Some shown) label least given passes = (shown, refl, least.least label given passes)

-- the row of a pair with a gained or a lost label
abbrev pub HasRow : ReachSide → ReachSide → Pair → MovedLabels → MovedLabels → Option ReachChange → Type 0
HasRow before after pair gained lost row = (change : ReachChange) × (row ≡ Some change) × IsRow before after pair gained lost change

row_there : (before after : ReachSide) (pair : Pair) (gained lost : MovedLabels) (row : Option ReachChange) → moves_some gained lost ≡ true
    → IsRowIf (moves_some gained lost) before after pair gained lost row → HasRow before after pair gained lost row
row_there before after pair gained lost row some is = subst (λ b. IsRowIf b before after pair gained lost row) some is

some_gained : (one other : Option (List ℕ)) (witness : List ℕ) → one ≡ Some witness → (is_some one || is_some other) ≡ true
some_gained None other witness is = cc
some_gained (Some one) other witness is = refl

some_lost : (one other : Option (List ℕ)) (witness : List ℕ) → other ≡ Some witness → (is_some one || is_some other) ≡ true
some_lost None None witness is = cc
some_lost None (Some other) witness is = refl
some_lost (Some one) other witness is = refl

moved_is : (here there : Bool) → here ≡ true → there ≡ false → (here && not there) ≡ true
moved_is true false is lost = refl
moved_is true true is lost = cc
moved_is false there is lost = cc

-- the row of one pair
pub record HasOne (shown : Option ReachChange) (moved : ReachChange → MovedLabels) (pair : Pair) (label : List ℕ) : Type 0 where
  pub row : ReachChange
  pub shows : shown ≡ Some row
  pub about : IsAbout pair row
  pub has : set_has (moved row).set.labels label ≡ true
  pub witness : List ℕ
  pub is : (moved row).set.witness ≡ Some witness
  pub short : length witness ≤ length label

about_pair : (before after : ReachSide) (pair : Pair) (gained lost : MovedLabels) (row : ReachChange) → IsRow before after pair gained lost row
    → IsAbout pair row
about_pair before after pair gained lost row is =
    record { client = ap (λ e. e.path) is.client; service = is.service; server = ap (λ e. e.path) is.server }

one_gained : (before after : ReachSide) (pair : Pair) (shown : Option ReachChange) (label : List ℕ) → Shows before after pair shown
    → reaches before.list.now pair label ≡ false → IsReached after.list.now pair label → HasOne shown (λ row. row.gained) pair label
one_gained before after pair shown label shows none reached =
    let b = routes before.list.now pair.client.path pair.service in
    let a = routes after.list.now pair.client.path pair.service in
    let was = place_of before.list.now pair.server.path in
    let now = place_of after.list.now pair.server.path in
    let passes : is_gained was now (routes_of b a label) ≡ true = moved_is (is_to (a label) now) (is_to (b label) was) reached.there none in
    let set = shows.gains in
    let least = witness_least b a (is_gained was now) shows.gained.set.witness label set.witness reached.given passes in
    let row = row_there before after pair shows.gained shows.lost shown
    (some_gained shows.gained.set.witness shows.lost.set.witness least.0 least.1) shows.is in
    record {
      row = row.0;
      shows = row.1;
      about = about_pair before after pair shows.gained shows.lost row.0 row.2;
      has = ap (λ (f : MovedLabels). set_has f.set.labels label) row.2.gained ∙ (set.labels label reached.given ∙ passes);
      witness = least.0;
      is = ap (λ (f : MovedLabels). f.set.witness) row.2.gained ∙ least.1;
      short = least.2;
    }

one_lost : (before after : ReachSide) (pair : Pair) (shown : Option ReachChange) (label : List ℕ) → Shows before after pair shown
    → reaches after.list.now pair label ≡ false → IsReached before.list.now pair label → HasOne shown (λ row. row.lost) pair label
one_lost before after pair shown label shows none reached =
    let b = routes before.list.now pair.client.path pair.service in
    let a = routes after.list.now pair.client.path pair.service in
    let was = place_of before.list.now pair.server.path in
    let now = place_of after.list.now pair.server.path in
    let passes : is_lost was now (routes_of b a label) ≡ true = moved_is (is_to (b label) was) (is_to (a label) now) reached.there none in
    let set = shows.loses in
    let least = witness_least b a (is_lost was now) shows.lost.set.witness label set.witness reached.given passes in
    let row = row_there before after pair shows.gained shows.lost shown
    (some_lost shows.gained.set.witness shows.lost.set.witness least.0 least.1) shows.is in
    record {
      row = row.0;
      shows = row.1;
      about = about_pair before after pair shows.gained shows.lost row.0 row.2;
      has = ap (λ (f : MovedLabels). set_has f.set.labels label) row.2.lost ∙ (set.labels label reached.given ∙ passes);
      witness = least.0;
      is = ap (λ (f : MovedLabels). f.set.witness) row.2.lost ∙ least.1;
      short = least.2;
    }

-- ---- pairs of the same paths

reaches_alike : (list : Listed) (pair other : Pair) (label : List ℕ) → IsAlike pair other → reaches list other label ≡ reaches list pair label
reaches_alike list pair other label alike =
    ap (λ c. is_to (routes list c other.service label) (place_of list other.server.path)) alike.client
    ∙ (ap (λ v. is_to (routes list pair.client.path v label) (place_of list other.server.path)) alike.service
    ∙ ap (λ s. is_to (routes list pair.client.path pair.service label) (place_of list s)) alike.server)

reached_alike : (list : Listed) (pair other : Pair) (label : List ℕ) → IsAlike pair other → IsReached list pair label → IsReached list other label
reached_alike list pair other label alike reached =
    record { given = reached.given; there = reaches_alike list pair other label alike ∙ reached.there }

-- the row of the other pair is one of the rows
reported : (moved : ReachChange → MovedLabels) (rows : List ReachChange) (shown : Option ReachChange) (pair other : Pair) (label : List ℕ)
    → ((change : ReachChange) → shown ≡ Some change → Contains rows change) → IsAlike pair other → HasOne shown moved other label
    → HasLabel rows moved pair label
reported moved rows shown pair other label among alike one =
    record {
      row = one.row;
      there = among one.row one.shows;
      about = record {
        client = one.about.client ∙ alike.client;
        service = one.about.service ∙ alike.service;
        server = one.about.server ∙ alike.server;
      };
      has = one.has;
      witness = one.witness;
      is = one.is;
      short = one.short;
    }

pub new_reported : NewAccessIsReported
new_reported before after rows pair label are has none reached =
    let compared = new_compared before after pair has in
    let all = shown before after rows compared.0 are compared.1 in
    reported (λ row. row.gained) rows all.0 pair compared.0 label all.2 compared.2
    (one_gained before after compared.0 all.0 label all.1 (reaches_alike before.list.now pair compared.0 label compared.2 ∙ none)
    (reached_alike after.list.now pair compared.0 label compared.2 reached))

pub lost_reported : LostAccessIsReported
lost_reported before after rows pair label are has none reached =
    let compared = old_compared before after pair has in
    let all = shown before after rows compared.0 are compared.1 in
    reported (λ row. row.lost) rows all.0 pair compared.0 label all.2 compared.2
    (one_lost before after compared.0 all.0 label all.1 (reaches_alike after.list.now pair compared.0 label compared.2 ∙ none)
    (reached_alike before.list.now pair compared.0 label compared.2 reached))

-- ---- no rows

no_row : (moved : ReachChange → MovedLabels) (pair : Pair) (label : List ℕ) → HasLabel [] moved pair label → ⊥
no_row moved pair label has = let within = has.there.1 in omega (arith, within)

same_when : (b a : Bool) (before after : ReachSide) (pair : Pair) (label : List ℕ) → AreReachChanges before after [] → HasCell before pair
    → HasCell after pair → IsGiven label → reaches before.list.now pair label ≡ b → reaches after.list.now pair label ≡ a → b ≡ a
same_when true true before after pair label are old new given was now = refl
same_when false false before after pair label are old new given was now = refl
same_when true false before after pair label are old new given was now =
    absurd (no_row (λ row. row.lost) pair label
    (lost_reported before after [] pair label are old now (record { given = given; there = was })))
same_when false true before after pair label are old new given was now =
    absurd (no_row (λ row. row.gained) pair label
    (new_reported before after [] pair label are new was (record { given = given; there = now })))

pub same_reported : NoRowsAreNoChange
same_reported before after pair label are old new given =
    same_when (reaches before.list.now pair label) (reaches after.list.now pair label) before after pair label are old new given refl refl
