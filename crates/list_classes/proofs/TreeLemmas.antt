-- Texts at one side of labels: which of them a label has, and the longest one.
use Rattle.std.proofs.Common.{◌≡◌, ℕ, zero, suc, ◌+◌, ◌-◌, ◌<◌, ◌≤◌, Bool, true, false, ◌&&◌, List, [], ◌∷◌, ◌++◌, length, nat_eq, refl, sym, subst, ap, ◌∙◌, arith, inl, inr}
use Rattle.std.specs.Prelude.{not}
use Rattle.std.specs.Global.{Vec}
use Rattle.std.specs.List.{list_any}
use Rattle.std.specs.Str.{bytes_eq}
use Rattle.std.proofs.Math.ListN.{get_or-append}
use Rattle.std.proofs.lemmas.Bool.{and_from, and_parts, or_cases, or_left, or_right, cases_lt, both_ways, eq-eqb, eqb-true, ne_eqb, not_from_false}
use Rattle.std.proofs.lemmas.List.{append-nil, get_or_push, length-append}
use Rattle.std.proofs.lemmas.List.Folds.{list_any-append, list_any_at}
use Rattle.std.proofs.lemmas.Slice.Eq.{bytes_eq-Decides}
use Rattle.list_labels.proofs.TextLemmas.{begins_by, begins_from, end_then, ends_by, ends_from, ends_order, front_then, fronts_order, same_tests}
use Rattle.list_labels.specs.KnownLabels.{is_among}
use Rattle.list_classes.specs.Trees.{AreTexts, IsLongest, IsTree, has_at, has_place, row_at, text_at}
use Rattle.list_classes.specs.declared.text_tree.LabelSide.{LabelSide}
use Rattle.list_classes.specs.declared.text_tree.LabelSide.TheVariants.{Front, End}

-- ---- places

-- a test that an element passes
pub any_of : (p : ℕ → Bool) (places : List ℕ) (place : ℕ) → has_place places place ≡ true → p place ≡ true → list_any p places ≡ true
any_of p [] place there holds = cc
any_of p (x ∷ places) place there holds =
    elim (or_cases (nat_eq place x) (has_place places place) there) [
      | inl same ↦ or_left (p x) (list_any p places) (subst (λ (n : ℕ). p n ≡ true) (eqb-true place x same) holds)
      | inr later ↦ or_right (p x) (list_any p places) (any_of p places place later holds)
    ]

-- an element that passes a test
pub one_of : (p : ℕ → Bool) (places : List ℕ) → list_any p places ≡ true → (place : ℕ) × (has_place places place ≡ true) × (p place ≡ true)
one_of p [] some = absurd (both_ways false refl some)
one_of p (x ∷ places) some =
    elim (or_cases (p x) (list_any p places) some) [
      | inl here ↦ (x, or_left (nat_eq x x) (has_place places x) (eq-eqb x x refl), here)
      | inr later ↦
          let one = one_of p places later in
          (one.0, or_right (nat_eq one.0 x) (has_place places one.0) one.1, one.2)
    ]

-- tests that are the same at each element
pub any_alike : (p q : ℕ → Bool) (places : List ℕ) → ((place : ℕ) → has_place places place ≡ true → p place ≡ q place)
    → list_any p places ≡ list_any q places
any_alike p q places alike =
    same_tests _ _
    (λ some. let one = one_of p places some in any_of q places one.0 one.1 (sym (alike one.0 one.1) ∙ one.2))
    (λ some. let one = one_of q places some in any_of p places one.0 one.1 (alike one.0 one.1 ∙ one.2))

-- ---- a text at a side

pub has_empty : (side : LabelSide) (label : List ℕ) → has_at side label [] ≡ true
has_empty Front label = begins_from label [] label refl
has_empty End label = ends_from label label [] (sym (append-nil label))

pub has_itself : (side : LabelSide) (label : List ℕ) → has_at side label label ≡ true
has_itself Front label = begins_from label label [] (sym (append-nil label))
has_itself End label = ends_from label [] label refl

pub has_then : (side : LabelSide) (a b c : List ℕ) → has_at side a b ≡ true → has_at side b c ≡ true → has_at side a c ≡ true
has_then Front a b c first second = front_then a b c first second
has_then End a b c first second = end_then a b c first second

-- of two texts of one label the longer has the other
pub has_order : (side : LabelSide) (label longer shorter : List ℕ) → has_at side label longer ≡ true → has_at side label shorter ≡ true
    → length shorter ≤ length longer → has_at side longer shorter ≡ true
has_order Front label longer shorter first second less = fronts_order label longer shorter first second less
has_order End label longer shorter first second less = ends_order label longer shorter first second less

-- a text isn't longer than a label that has it
pub has_short : (side : LabelSide) (label text : List ℕ) → has_at side label text ≡ true → length text ≤ length label
has_short Front label text has = omega (arith, ap length (begins_by label text has), length-append {A = ℕ})
has_short End label text has = omega (arith, ap length (ends_by label text has), length-append {A = ℕ})

same_front : (rest a b : List ℕ) → a ≡ b ++ rest → length a ≤ length b → a ≡ b
same_front [] a b is short = is ∙ append-nil b
same_front (r ∷ rest) a b is short = absurd (omega (arith, ap length is, length-append b (r ∷ rest)))

same_end : (rest a b : List ℕ) → a ≡ rest ++ b → length a ≤ length b → a ≡ b
same_end [] a b is short = is
same_end (r ∷ rest) a b is short = absurd (omega (arith, ap length is, length-append (r ∷ rest) b))

-- texts that have each other are the same
pub has_both : (side : LabelSide) (a b : List ℕ) → has_at side a b ≡ true → has_at side b a ≡ true → a ≡ b
has_both Front a b first second = same_front _ a b (begins_by a b first) (has_short Front b a second)
has_both End a b first second = same_end _ a b (ends_by a b first) (has_short End b a second)

-- ---- the longest text of a label

-- a label has just the texts that its longest one has
pub longest_has : (side : LabelSide) (texts : List (List ℕ)) (label : List ℕ) (place other : ℕ) → IsLongest side texts label place
    → other < length texts → has_at side label (text_at texts other) ≡ has_at side (text_at texts place) (text_at texts other)
longest_has side texts label place other longest there =
    same_tests _ _
    (λ has. has_order side label (text_at texts place) (text_at texts other) longest.has has (longest.longest other there has))
    (λ has. has_then side label (text_at texts place) (text_at texts other) longest.has has)

-- the longest one so far, with a text more
pub longer_is : (side : LabelSide) (texts : List (List ℕ)) (label : List ℕ) (found place : ℕ)
    → ((k : ℕ) → k < place → has_at side label (text_at texts k) ≡ true → length (text_at texts k) ≤ length (text_at texts found))
    → length (text_at texts found) ≤ length (text_at texts place)
    → (k : ℕ) → k < place + 1 → has_at side label (text_at texts k) ≡ true → length (text_at texts k) ≤ length (text_at texts place)
longer_is side texts label found place so_far longer k below has =
    elim (cases_lt k place) [
      | inl less ↦ let short = so_far k less has in omega arith
      | inr more ↦ let same : k ≡ place = omega arith in rw same (omega arith)
    ]

-- the same if the text isn't longer, or not of the label
pub longer_stays : (side : LabelSide) (texts : List (List ℕ)) (label : List ℕ) (found place : ℕ)
    → ((k : ℕ) → k < place → has_at side label (text_at texts k) ≡ true → length (text_at texts k) ≤ length (text_at texts found))
    → (has_at side label (text_at texts place) ≡ true → length (text_at texts place) ≤ length (text_at texts found))
    → (k : ℕ) → k < place + 1 → has_at side label (text_at texts k) ≡ true → length (text_at texts k) ≤ length (text_at texts found)
longer_stays side texts label found place so_far shorter k below has =
    elim (cases_lt k place) [
      | inl less ↦ so_far k less has
      | inr more ↦
          let same : k ≡ place = omega arith in
          subst (λ (n : ℕ). length (text_at texts n) ≤ length (text_at texts found)) (sym same)
          (shorter (subst (λ (n : ℕ). has_at side label (text_at texts n) ≡ true) same has))
    ]

longest_next : (side : LabelSide) (texts : List (List ℕ)) (label : List ℕ) (found place : ℕ) (b : Bool) → has_at side label (text_at texts place) ≡ b
    → place < length texts → found < length texts → has_at side label (text_at texts found) ≡ true
    → ((k : ℕ) → k < place → has_at side label (text_at texts k) ≡ true → length (text_at texts k) ≤ length (text_at texts found))
    → (best : ℕ) × (best < length texts) × (has_at side label (text_at texts best) ≡ true)
    × ((k : ℕ) → k < place + 1 → has_at side label (text_at texts k) ≡ true → length (text_at texts k) ≤ length (text_at texts best))
longest_next side texts label found place false is within there has so_far =
    (found, there, has, longer_stays side texts label found place so_far (λ holds. absurd (both_ways _ is holds)))
longest_next side texts label found place true is within there has so_far =
    elim (cases_lt (length (text_at texts place)) (length (text_at texts found))) [
      | inl less ↦ (found, there, has, longer_stays side texts label found place so_far (λ holds. omega (arith, less)))
      | inr longer ↦ (place, within, is, longer_is side texts label found place so_far longer)
    ]

-- the longest one of the first texts
longest_to : (side : LabelSide) (texts : List (List ℕ)) (label : List ℕ) (bound : ℕ) → AreTexts texts → bound < length texts
    → (place : ℕ) × (place < length texts) × (has_at side label (text_at texts place) ≡ true)
    × ((k : ℕ) → k < bound + 1 → has_at side label (text_at texts k) ≡ true → length (text_at texts k) ≤ length (text_at texts place))
longest_to side texts label zero are within = (
  0,
  are.some,
  ap (λ t. has_at side label t) are.first ∙ has_empty side label,
  λ k below has. let same : k ≡ 0 = omega (arith, below) in (let long = ap (λ n. length (text_at texts n)) same in omega (arith, long)),
)
longest_to side texts label (suc bound) are within =
    let best = longest_to side texts label bound are (omega (arith, within)) in
    longest_next side texts label best.0 (suc bound) (has_at side label (text_at texts (suc bound))) refl within best.1 best.2
    (λ k below has. best.3 k (omega (arith, below)) has)

-- a label has a longest text
pub has_longest : (side : LabelSide) (texts : List (List ℕ)) (label : List ℕ) → AreTexts texts → (place : ℕ) × IsLongest side texts label place
has_longest side texts label are =
    let some = are.some in
    let best = longest_to side texts label (length texts - 1) are (omega (arith, some)) in (
      best.0,
      record {
        there = best.1;
        has = best.2;
        longest = λ other within has. best.3 other (omega (arith, within)) has;
      },
    )

-- a label that goes to no text below one of its texts has no longer one
pub longest_from : (side : LabelSide) (texts : List (List ℕ)) (rows : List (Vec ℕ)) (label : List ℕ) (place : ℕ)
    → IsTree side texts rows → place < length texts → has_at side label (text_at texts place) ≡ true
    → list_any (λ other. not (nat_eq other place) && has_at side label (text_at texts other)) (row_at rows place) ≡ false
    → IsLongest side texts label place
longest_from side texts rows label place tree there has none =
    record {
      there = there;
      has = has;
      longest = λ other within holds. elim (cases_lt (length (text_at texts place)) (length (text_at texts other))) [
        | inl longer ↦ absurd (both_ways _ none
            (any_of _ (row_at rows place) other
            (tree.below.below place other there within
            ∙ has_order side label (text_at texts other) (text_at texts place) holds has (omega arith))
            (and_from _ _
            (not_from_false _ (ne_eqb other place (λ same. let e = ap (λ (n : ℕ). length (text_at texts n)) same in omega arith)))
            holds)))
        | inr short ↦ short
      ];
    }

-- a label with a part that goes below one of its texts has a longer one
pub below_longer : (side : LabelSide) (texts : List (List ℕ)) (rows : List (Vec ℕ)) (place : ℕ) (part label : List ℕ) → IsTree side texts rows
    → list_any (λ other. not (nat_eq other place) && has_at side part (text_at texts other)) (row_at rows place) ≡ true
    → has_at side label part ≡ true → IsLongest side texts label place → ⊥
below_longer side texts rows place part label tree below has longest =
    let one = one_of (λ other. not (nat_eq other place) && has_at side part (text_at texts other)) (row_at rows place) below in
    let both = and_parts (not (nat_eq one.0 place)) (has_at side part (text_at texts one.0)) one.2 in
    let there = tree.below.within place one.0 one.1 in
    let has_one = has_then side label part (text_at texts one.0) has both.1 in
    let short = longest.longest one.0 there has_one in
    let back = has_order side label (text_at texts place) (text_at texts one.0) longest.has has_one short in
    let over = sym (tree.below.below place one.0 longest.there there) ∙ one.1 in
    let same = tree.each.once one.0 place there longest.there (has_both side (text_at texts one.0) (text_at texts place) over back) in
    both_ways _ (ap not (eq-eqb one.0 place same)) both.0

pub longest_just : (side : LabelSide) (texts : List (List ℕ)) (rows : List (Vec ℕ)) (label : List ℕ) (place : ℕ) (below : Bool) → IsTree side texts rows
    → place < length texts → has_at side label (text_at texts place) ≡ true
    → below ≡ list_any (λ other. not (nat_eq other place) && has_at side label (text_at texts other)) (row_at rows place)
    → (not below ≡ true → IsLongest side texts label place) × (IsLongest side texts label place → not below ≡ true)
longest_just side texts rows label place true tree there has is =
    ((λ no. absurd (both_ways false refl no)), λ longest. absurd (below_longer side texts rows place label label tree (sym is) (has_itself side label) longest))
longest_just side texts rows label place false tree there has is =
    ((λ no. longest_from side texts rows label place tree there has (sym is)), λ longest. refl)

-- ---- texts, each once

among_at : (texts : List (List ℕ)) (text : List ℕ) (k : ℕ) → k < length texts → text_at texts k ≡ text → is_among texts text ≡ true
among_at texts text k within is = list_any_at (λ other. bytes_eq other text) texts k [] within ((bytes_eq-Decides (text_at texts k) text).1 is)

-- a text more that wasn't there
pub texts_more : (texts : List (List ℕ)) (text : List ℕ) → AreTexts texts → is_among texts text ≡ false → AreTexts (texts ++ text ∷ [])
texts_more texts text are new =
    let longer = length-append texts (text ∷ []) in
    let some : 0 < length texts = are.some in
    let old = λ (k : ℕ) (within : k < length texts). get_or-append texts (text ∷ []) [] k within in
    let last = λ (k : ℕ) (is : length texts ≡ k). get_or_push texts text [] k is in
    record {
      some = omega arith;
      first = get_or-append texts (text ∷ []) [] 0 some ∙ are.first;
      once = λ place other first second same.
          elim (cases_lt place (length texts)) [
            | inl before ↦ elim (cases_lt other (length texts)) [
              | inl within ↦ are.once place other before within (sym (old place before) ∙ (same ∙ old other within))
              | inr end ↦ absurd (both_ways _ new
                  (among_at texts text place before (sym (old place before) ∙ (same ∙ last other (omega arith)))))
            ]
            | inr after ↦ elim (cases_lt other (length texts)) [
              | inl within ↦ absurd (both_ways _ new
                  (among_at texts text other within (sym (old other within) ∙ (sym same ∙ last place (omega arith)))))
              | inr end ↦ omega arith
            ]
          ];
    }

pub among_more : (texts : List (List ℕ)) (more text : List ℕ) → is_among texts text ≡ true → is_among (texts ++ more ∷ []) text ≡ true
among_more texts more text there =
    list_any-append (λ other. bytes_eq other text) texts (more ∷ []) ∙ or_left _ (is_among (more ∷ []) text) there

pub among_last : (texts : List (List ℕ)) (text : List ℕ) → is_among (texts ++ text ∷ []) text ≡ true
among_last texts text =
    list_any-append (λ other. bytes_eq other text) texts (text ∷ [])
    ∙ or_right (is_among texts text) _ (or_left _ false ((bytes_eq-Decides text text).1 refl))

-- the empty text alone
pub texts_first : AreTexts ([] ∷ [])
texts_first =
    record {
      some = omega arith;
      first = refl;
      once = λ place other first second same. omega (arith, first, second);
    }
