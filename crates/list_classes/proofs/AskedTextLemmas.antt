-- All that rules ask for.
use Rattle.std.proofs.Common.{◌≡◌, ℕ, zero, suc, ◌<◌, true, ◌&&◌, ◌||◌, List, [], ◌∷◌, ◌++◌, get_or, Option, refl, sym, subst, ap, ◌∙◌, arith, ◌⊎◌, inl, inr}
use Rattle.std.specs.Prelude.{Contains, map}
use Rattle.std.specs.Str.{bytes_eq}
use Rattle.std.proofs.lemmas.Bool.{and_from, and_parts, or_cases, or_left, or_right}
use Rattle.std.proofs.lemmas.List.Elements.{Contains-append_cases}
use Rattle.std.proofs.lemmas.List.Folds.{list_any-append}
use Rattle.std.proofs.lemmas.Slice.Eq.{bytes_eq-Decides}
use Rattle.list_labels.specs.Asked.{is_given}
use Rattle.list_labels.specs.KnownLabels.{AddsLabels, is_among, is_filled}
use Rattle.list_labels.specs.LabelRanges.{AskedLabel}
use Rattle.list_labels.specs.declared.session_requests.SessionRequests.{SessionRequests}
use Rattle.list_classes.specs.AskedTexts.{AreAsked}
use Rattle.list_classes.specs.Making.{asked_for, known_for}
use Rattle.list_classes.specs.declared.asked_texts.AskedTexts.{AskedTexts}

among_append : (some others : List (List ℕ)) (text : List ℕ) → is_among (some ++ others) text ≡ (is_among some text || is_among others text)
among_append some others text = list_any-append (λ other. bytes_eq other text) some others

only : (x one : AskedLabel) (k : ℕ) → k < 1 → get_or (x ∷ []) k one ≡ one → x ≡ one
only x one zero within is = is
only x one (suc k) within is = absurd (omega (arith, within))

among_map : (f : AskedLabel → List ℕ) (all : List AskedLabel) (one : AskedLabel) → Contains all one → is_among (map f all) (f one) ≡ true
among_map f [] one there = absurd (let less = there.1 in omega (arith, less))
among_map f (x ∷ all) one there =
    elim (Contains-append_cases (x ∷ []) all one there) [
      | inl here ↦ or_left _ _ ((bytes_eq-Decides (f x) (f one)).1 (ap f (only x one here.0 here.1 here.2)))
      | inr later ↦ or_right (bytes_eq (f x) (f one)) _ (among_map f all one later)
    ]

empty_given : (label : List ℕ) → is_among ([] ∷ []) label ≡ true → is_given label ≡ true
empty_given [] there = refl
empty_given (b ∷ label) there = cc

two_more : (start one two : List (List ℕ)) (text : List ℕ) (all : List (List ℕ)) → all ≡ (start ++ one) ++ two
    → (is_among start text ≡ true) ⊎ ((is_among one text ≡ true) ⊎ (is_among two text ≡ true)) → is_among all text ≡ true
two_more start one two text all is (inl there) =
    ap (λ t. is_among t text) is ∙ (among_append (start ++ one) two text ∙ or_left _ _ (among_append start one text ∙ or_left _ _ there))
two_more start one two text all is (inr (inl there)) =
    ap (λ t. is_among t text) is
    ∙ (among_append (start ++ one) two text ∙ or_left _ _ (among_append start one text ∙ or_right (is_among start text) _ there))
two_more start one two text all is (inr (inr there)) =
    ap (λ t. is_among t text) is ∙ (among_append (start ++ one) two text ∙ or_right (is_among (start ++ one) text) _ there)

only_among : (texts : List (List ℕ)) (text : List ℕ) → texts ≡ text ∷ [] → is_among texts text ≡ true
only_among texts text is = ap (λ t. is_among t text) is ∙ or_left _ _ ((bytes_eq-Decides text text).1 refl)

-- what both lists' rules ask for, after the texts of a range
pub asked_them : (range : AskedLabel) (one other : Option SessionRequests) (start first all : AskedTexts)
    → start.fronts.items ≡ range.front ∷ [] → start.ends.items ≡ range.end ∷ [] → start.known.items ≡ [] ∷ []
    → first.fronts.items ≡ start.fronts.items ++ map (λ (asked : AskedLabel). asked.front) (asked_for one)
    → first.ends.items ≡ start.ends.items ++ map (λ (asked : AskedLabel). asked.end) (asked_for one)
    → AddsLabels (known_for one) start.known.items first.known.items
    → all.fronts.items ≡ first.fronts.items ++ map (λ (asked : AskedLabel). asked.front) (asked_for other)
    → all.ends.items ≡ first.ends.items ++ map (λ (asked : AskedLabel). asked.end) (asked_for other)
    → AddsLabels (known_for other) first.known.items all.known.items → AreAsked range one other all
asked_them range one other start first all fronts_zero ends_zero known_zero fronts_first ends_first known_first fronts_all ends_all known_all =
    let begun : AddsLabels (known_for one) ([] ∷ []) first.known.items = subst (λ t. AddsLabels (known_for one) t first.known.items) known_zero known_first in
    let fronts = fronts_all ∙ ap (λ t. t ++ map (λ (asked : AskedLabel). asked.front) (asked_for other)) fronts_first in
    let ends = ends_all ∙ ap (λ t. t ++ map (λ (asked : AskedLabel). asked.end) (asked_for other)) ends_first in
    let nothing = known_all [] ∙ or_left (is_among first.known.items []) (is_filled [] && known_for other [])
    (begun [] ∙ or_left (is_among ([] ∷ []) []) (is_filled [] && known_for one []) refl) in
    record {
      one = record {
        empty = nothing;
        fronts = λ asked there. two_more start.fronts.items _ _ asked.front all.fronts.items fronts
            (inr (inl (among_map (λ (a : AskedLabel). a.front) (asked_for one) asked there)));
        ends = λ asked there. two_more start.ends.items _ _ asked.end all.ends.items ends
            (inr (inl (among_map (λ (a : AskedLabel). a.end) (asked_for one) asked there)));
        known = λ label filled is. known_all label ∙ or_left _ _ (begun label ∙ or_right (is_among ([] ∷ []) label) _ (and_from _ _ filled is));
      };
      other = record {
        empty = nothing;
        fronts = λ asked there. two_more start.fronts.items _ _ asked.front all.fronts.items fronts
            (inr (inr (among_map (λ (a : AskedLabel). a.front) (asked_for other) asked there)));
        ends = λ asked there. two_more start.ends.items _ _ asked.end all.ends.items ends
            (inr (inr (among_map (λ (a : AskedLabel). a.end) (asked_for other) asked there)));
        known = λ label filled is. known_all label ∙ or_right (is_among first.known.items label) _ (and_from _ _ filled is);
      };
      given = λ label there. elim (or_cases (is_among first.known.items label) _ (sym (known_all label) ∙ there)) [
        | inl before ↦ elim (or_cases (is_among ([] ∷ []) label) _ (sym (begun label) ∙ before)) [
          | inl empty ↦ empty_given label empty
          | inr filled ↦ (and_parts (is_given label) _ (and_parts (is_filled label) _ filled).0).0
        ]
        | inr filled ↦ (and_parts (is_given label) _ (and_parts (is_filled label) _ filled).0).0
      ];
      front = two_more start.fronts.items _ _ range.front all.fronts.items fronts (inl (only_among start.fronts.items range.front fronts_zero));
      end = two_more start.ends.items _ _ range.end all.ends.items ends (inl (only_among start.ends.items range.end ends_zero));
    }
