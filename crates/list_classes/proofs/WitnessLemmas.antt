-- The search for a shortest label with a longest beginning and a longest ending, byte by byte between them.
use Rattle.std.proofs.Common.{◌≡◌, ℕ, ◌+◌, ◌-◌, ◌<◌, ◌≤◌, Bool, true, false, ◌&&◌, ◌||◌, List, [], ◌∷◌, ◌++◌, length, nat_eq, nat_le, get_or, take, drop, Option, Some, None, MatchOption, refl, sym, subst, ap, ◌∙◌, arith, inl, inr}
use Rattle.std.specs.Prelude.{not}
use Rattle.std.specs.List.{list_all, list_any, starts_with, ends_with}
use Rattle.std.proofs.Math.Seq.{drop-append_seam, take-append_seam}
use Rattle.std.proofs.lemmas.Bool.{agree_below_at, and_parts, cases_lt, eqb-true}
use Rattle.std.proofs.lemmas.Bool.Decides.{nat_tests}
use Rattle.std.proofs.lemmas.List.{append_assoc, get_or_default, length-append, length-drop, length-take, take-append-drop}
use Rattle.std.proofs.lemmas.List.Folds.{Any-from_list_any, list_all-append}
use Rattle.own_model.specs.SessionArgs.{is_quotable}
use Rattle.list_labels.proofs.TextLemmas.{begins_by, begins_from, ends_by, ends_from}
use Rattle.list_labels.specs.Asked.{is_given}
use Rattle.list_labels.specs.GivenLabels.{IsGiven}
use Rattle.list_classes.proofs.TreeLemmas.{below_longer, has_short}
use Rattle.list_classes.specs.Trees.{has_at, row_at, text_at}
use Rattle.list_classes.specs.Witnesses.{AreLonger, AreShorter, HasNone, HasNoWitness, IsFilling, IsFound, IsLeastWitness, IsWitness, Shows, head_with, tail_with}
use Rattle.list_classes.specs.declared.witness.GapSearch.{GapSearch}
use Rattle.list_classes.specs.declared.witness.GapSearch.TheVariants.{Missing, Closed}
use Rattle.list_classes.specs.declared.text_tree.LabelSide.{LabelSide}
use Rattle.list_classes.specs.declared.text_tree.LabelSide.TheVariants.{Front, End}
use Rattle.list_classes.specs.declared.witness.TextPair.{TextPair}
use Rattle.list_classes.specs.declared.witness.TheConstants.{BYTES}

-- ---- parts of a text

same_parts : (a b c d : List ℕ) → a ++ b ≡ c ++ d → length a ≡ length c → (a ≡ c) × (b ≡ d)
same_parts a b c d is long = (
  sym (take-append_seam a b) ∙ (ap (λ n. take n (a ++ b)) long ∙ (ap (λ l. take (length c) l) is ∙ take-append_seam c d)),
  sym (drop-append_seam a b) ∙ (ap (λ n. drop n (a ++ b)) long ∙ (ap (λ l. drop (length c) l) is ∙ drop-append_seam c d)),
)

same_ends : (a b c d : List ℕ) → a ++ b ≡ c ++ d → length b ≡ length d → (a ≡ c) × (b ≡ d)
same_ends a b c d is long =
    same_parts a b c d is (let whole = ap length is in omega (arith, whole, long, length-append a b, length-append c d))

-- the last byte of a text
last_of : (first : ℕ) (rest : List ℕ) → (before : List ℕ) × (byte : ℕ) × (first ∷ rest ≡ before ++ byte ∷ [])
last_of first [] = ([], first, refl)
last_of first (second ∷ rest) =
    let later = last_of second rest in
    (first ∷ later.0, later.1, ap (λ l. first ∷ l) later.2)

-- a text that fits two parts touches them
touching : (label head tail : List ℕ) → starts_with nat_eq label head ≡ true → ends_with nat_eq label tail ≡ true
    → length label ≡ length head + (0 + length tail) → label ≡ head ++ tail
touching label head tail begins closes size =
    let front = begins_by label head begins in
    let end = ends_by label tail closes in
    let rest = drop (length head) label in
    let before = take (length label - length tail) label in
    let same = same_parts head rest before tail (sym front ∙ end)
    (let whole = ap length end in omega (arith, whole, size, length-append before tail)) in
    front ∙ ap (λ l. head ++ l) same.1

-- what two parts share
sharing : (label head tail : List ℕ) (rest : ℕ) → starts_with nat_eq label head ≡ true → ends_with nat_eq label tail ≡ true
    → length label ≡ length head + rest → rest ≤ length tail
    → (ends_with nat_eq head (take (length tail - rest) tail) ≡ true) × (label ≡ head ++ drop (length tail - rest) tail)
sharing label head tail rest begins closes size few =
    let front = begins_by label head begins in
    let end = ends_by label tail closes in
    let after = drop (length head) label in
    let before = take (length label - length tail) label in
    let shared = take (length tail - rest) tail in
    let last = drop (length tail - rest) tail in
    let cut : shared ++ last ≡ tail = take-append-drop (length tail - rest) tail in
    let whole : head ++ after ≡ (before ++ shared) ++ last =
    sym front ∙ (end ∙ (ap (λ l. before ++ l) (sym cut) ∙ sym (append_assoc before shared last))) in
    let same = same_ends head after (before ++ shared) last whole
    (let a = ap length front in
    let b = ap length cut in
    omega (arith, a, b, size, few, length-append head after, length-append shared last, length-take (length tail - rest) tail)) in
    (ends_from head before shared same.0, front ∙ ap (λ l. head ++ l) same.1)

-- ---- bytes

abbrev in_bytes : ℕ → Bool
in_bytes byte = list_any (nat_eq byte) BYTES

or_not : (a b : Bool) → (not a || b) ≡ true → a ≡ true → b ≡ true
or_not true b some is = some
or_not false b some is = cc

small_of : (n : ℕ) → nat_le n 126 ≡ true → n < 127
small_of n is = grind (arith, nat_tests)

-- a byte of a label is one of those that are tried
byte_there : (byte : ℕ) → is_quotable byte ≡ true → (place : ℕ) × (place < 93) × (get_or BYTES place 0 ≡ byte)
byte_there byte is =
    let small = small_of byte (and_parts (nat_le 32 byte) (nat_le byte 126) (and_parts _ _ is).0).1 in
    let there : in_bytes byte ≡ true = or_not (is_quotable byte) (in_bytes byte) (agree_below_at (λ b. not (is_quotable b) || in_bytes b) (λ b. true) 127 byte refl small) is in
    let one = Any-from_list_any (nat_eq byte) BYTES there in
    (one.0, one.2, get_or_default BYTES one.0 0 one.1 one.2 ∙ (one.3 ∙ sym (eqb-true byte one.1 one.4)))

-- ---- a byte more

first_plain : (head rest : List ℕ) (byte : ℕ) → list_all is_quotable (head ++ byte ∷ rest) ≡ true → is_quotable byte ≡ true
first_plain head rest byte plain =
    (and_parts (is_quotable byte) _ (and_parts (list_all is_quotable head) _ (sym (list_all-append is_quotable head (byte ∷ rest)) ∙ plain)).1).0

after_head : (pair : TextPair) (head tail label rest : List ℕ) → IsFilling pair head tail label → label ≡ head ++ rest → 0 < length rest
    → (byte : ℕ) × (is_quotable byte ≡ true) × IsFilling pair (head ++ byte ∷ []) tail label
after_head pair head tail label [] fills is some = absurd (omega (arith, some))
after_head pair head tail label (byte ∷ rest) fills is some = (
  byte,
  first_plain head rest byte (ap (λ l. list_all is_quotable l) (sym is) ∙ fills.given.plain),
  record {
    given = fills.given;
    witness = fills.witness;
    begins = begins_from label (head ++ byte ∷ []) rest (is ∙ sym (append_assoc head (byte ∷ []) rest));
    closes = fills.closes;
  },
)

before_tail : (pair : TextPair) (head tail label before : List ℕ) → IsFilling pair head tail label → label ≡ before ++ tail → 0 < length before
    → (byte : ℕ) × (is_quotable byte ≡ true) × IsFilling pair head (byte ∷ tail) label
before_tail pair head tail label [] fills is some = absurd (omega (arith, some))
before_tail pair head tail label (first ∷ rest) fills is some =
    let last = last_of first rest in
    let whole : label ≡ last.0 ++ last.1 ∷ tail = is ∙ (ap (λ l. l ++ tail) last.2 ∙ append_assoc last.0 (last.1 ∷ []) tail) in (
      last.1,
      first_plain last.0 tail last.1 (ap (λ l. list_all is_quotable l) (sym whole) ∙ fills.given.plain),
      record {
        given = fills.given;
        witness = fills.witness;
        begins = fills.begins;
        closes = ends_from label last.0 (last.1 ∷ tail) whole;
      },
    )

-- a longer label has a byte more at a side of its parts
byte_more : (side : LabelSide) (pair : TextPair) (head tail label : List ℕ) → IsFilling pair head tail label → length head + length tail < length label
    → (byte : ℕ) × (is_quotable byte ≡ true) × IsFilling pair (head_with side byte head) (tail_with side byte tail) label
byte_more Front pair head tail label fills longer =
    let is = begins_by label head fills.begins in
    after_head pair head tail label (drop (length head) label) fills is
    (let whole = ap length is in omega (arith, whole, longer, length-append head (drop (length head) label)))
byte_more End pair head tail label fills longer =
    let is = ends_by label tail fills.closes in
    before_tail pair head tail label (take (length label - length tail) label) fills is
    (let whole = ap length is in omega (arith, whole, longer, length-append (take (length label - length tail) label) tail))

-- ---- one byte after another

-- what holds with each byte so far
abbrev pub WithEach : (ℕ → Type 0) → ℕ → Type 0
WithEach holds bound = (k : ℕ) → k < bound → holds (get_or BYTES k 0)

pub each_more : (holds : ℕ → Type 0) (place byte : ℕ) → byte ≡ get_or BYTES place 0 → WithEach holds place → holds byte → WithEach holds (place + 1)
each_more holds place byte is so_far here k below =
    elim (cases_lt k place) [
      | inl less ↦ so_far k less
      | inr above ↦ (let same : place ≡ k = omega (arith, above, below) in subst holds (is ∙ ap (λ n. get_or BYTES n 0) same) here)
    ]

pub none_shorter : (pair : TextPair) (head tail : List ℕ) (size : ℕ) → AreShorter pair head tail size → HasNone pair head tail size
none_shorter pair head tail size shorter label fills is = let less = shorter label fills in omega (arith, less, is)

-- what a search has shown
pub shows_none : (pair : TextPair) (head tail : List ℕ) (size other : ℕ) (search : GapSearch) → Shows pair head tail size search → search ≡ Missing
    → size ≡ other → HasNone pair head tail other
shows_none pair head tail size other search shows is same =
    subst (λ n. HasNone pair head tail n) same (subst (λ s. Shows pair head tail size s) is shows)

pub shows_shorter : (pair : TextPair) (head tail : List ℕ) (size other : ℕ) (search : GapSearch) → Shows pair head tail size search → search ≡ Closed
    → size ≡ other → AreShorter pair head tail other
shows_shorter pair head tail size other search shows is same =
    subst (λ n. AreShorter pair head tail n) same (subst (λ s. Shows pair head tail size s) is shows)

-- no byte leads to a label of the length
pub none_with : (side : LabelSide) (pair : TextPair) (head tail : List ℕ) (between : ℕ) → 0 < between
    → WithEach (λ byte. HasNone pair (head_with side byte head) (tail_with side byte tail) (length head + (between + length tail))) 93
    → HasNone pair head tail (length head + (between + length tail))
none_with side pair head tail between some each label fills is =
    let more = byte_more side pair head tail label fills (omega (arith, some, is)) in
    let there = byte_there more.0 more.1 in
    each there.0 there.1 label
    (subst (λ b. IsFilling pair (head_with side b head) (tail_with side b tail) label) (sym there.2) more.2) is

-- no byte leads to a label of the length or a longer one
pub shorter_with : (side : LabelSide) (pair : TextPair) (head tail : List ℕ) (between : ℕ) → 0 < between
    → WithEach (λ byte. AreShorter pair (head_with side byte head) (tail_with side byte tail) (length head + (between + length tail))) 93
    → AreShorter pair head tail (length head + (between + length tail))
shorter_with side pair head tail between some each label fills =
    elim (cases_lt (length label) (length head + (between + length tail))) [
      | inl less ↦ less
      | inr long ↦
          let more = byte_more side pair head tail label fills (omega (arith, some, long)) in
          let there = byte_there more.0 more.1 in
          each there.0 there.1 label
          (subst (λ b. IsFilling pair (head_with side b head) (tail_with side b tail) label) (sym there.2) more.2)
    ]

-- ---- longer texts

pub closed_after : (pair : TextPair) (head tail : List ℕ) (size byte : ℕ) (longer : List ℕ) → longer ≡ head ++ byte ∷ []
    → list_any (λ other. not (nat_eq other pair.front) && has_at pair.parts.fronts.now.side longer (text_at pair.parts.fronts.now.texts.items other))
    (row_at pair.parts.fronts.now.below.items pair.front) ≡ true
    → AreShorter pair (head ++ byte ∷ []) tail size
closed_after pair head tail size byte longer is below label fills =
    absurd (below_longer pair.parts.fronts.now.side pair.parts.fronts.now.texts.items pair.parts.fronts.now.below.items pair.front longer label
    pair.parts.fronts.now.formed below
    (subst (λ (s : LabelSide). has_at s label longer ≡ true) (sym pair.parts.front_side) (subst (λ l. starts_with nat_eq label l ≡ true) (sym is) fills.begins))
    fills.witness.front)

pub closed_before : (pair : TextPair) (head tail : List ℕ) (size byte : ℕ) (longer : List ℕ) → longer ≡ byte ∷ tail
    → list_any (λ other. not (nat_eq other pair.end) && has_at pair.parts.ends.now.side longer (text_at pair.parts.ends.now.texts.items other))
    (row_at pair.parts.ends.now.below.items pair.end) ≡ true
    → AreShorter pair head (byte ∷ tail) size
closed_before pair head tail size byte longer is below label fills =
    absurd (below_longer pair.parts.ends.now.side pair.parts.ends.now.texts.items pair.parts.ends.now.below.items pair.end longer label
    pair.parts.ends.now.formed below
    (subst (λ (s : LabelSide). has_at s label longer ≡ true) (sym pair.parts.end_side) (subst (λ l. ends_with nat_eq label l ≡ true) (sym is) fills.closes))
    fills.witness.end)

-- a part that is too long for a label
pub long_after : (pair : TextPair) (head tail : List ℕ) (size byte : ℕ) → 64 < length (head ++ byte ∷ []) → AreShorter pair (head ++ byte ∷ []) tail size
long_after pair head tail size byte long label fills =
    let short = has_short Front label (head ++ byte ∷ []) fills.begins in
    let given = fills.given.short in
    absurd (omega (arith, long, short, given))

pub long_before : (pair : TextPair) (head tail : List ℕ) (size byte : ℕ) → 64 < length (byte ∷ tail) → AreShorter pair head (byte ∷ tail) size
long_before pair head tail size byte long label fills =
    let short = has_short End label (byte ∷ tail) fills.closes in
    let given = fills.given.short in
    absurd (omega (arith, long, short, given))

-- ---- the search

-- no label of the length touches both parts
pub none_touching : (pair : TextPair) (head tail : List ℕ) → (IsGiven (head ++ tail) → IsWitness pair (head ++ tail) → ⊥)
    → HasNone pair head tail (length head + (0 + length tail))
none_touching pair head tail none label fills size =
    let is = touching label head tail fills.begins fills.closes size in
    none (subst IsGiven is fills.given) (subst (λ l. IsWitness pair l) is fills.witness)

-- no label that shares so many bytes
pub none_sharing : (pair : TextPair) (head tail : List ℕ) (rest : ℕ) → rest ≤ length tail
    → (ends_with nat_eq head (take (length tail - rest) tail) ≡ true
    → IsGiven (head ++ drop (length tail - rest) tail) → IsWitness pair (head ++ drop (length tail - rest) tail) → ⊥)
    → HasNone pair head tail (length head + rest)
none_sharing pair head tail rest few none label fills size =
    let both = sharing label head tail rest fills.begins fills.closes size few in
    none both.0 (subst IsGiven both.1 fills.given) (subst (λ l. IsWitness pair l) both.1 fills.witness)

-- by what is told of the label that shares them
shared_with : (pair : TextPair) (head tail : List ℕ) (rest : ℕ) (result : Option (List ℕ)) → rest ≤ length tail
    → MatchOption result
    (IsGiven (head ++ drop (length tail - rest) tail) → IsWitness pair (head ++ drop (length tail - rest) tail) → ⊥)
    (λ label. (label ≡ head ++ drop (length tail - rest) tail) × (is_given label ≡ true) × IsWitness pair label)
    → MatchOption result (HasNone pair head tail (length head + rest)) (IsFound pair (length head + rest))
shared_with pair head tail rest None few none = none_sharing pair head tail rest few (λ ends. none)
shared_with pair head tail rest (Some label) few found =
    record {
      given = found.1;
      witness = found.2;
      long =
          let long = ap length found.0 in
          omega (arith, long, few, length-append head (drop (length tail - rest) tail), length-drop (length tail - rest) tail);
    }

pub shared_by : (pair : TextPair) (head tail part : List ℕ) (rest : ℕ) (result : Option (List ℕ)) → part ≡ drop (length tail - rest) tail
    → rest ≤ length tail
    → MatchOption result (IsGiven (head ++ part) → IsWitness pair (head ++ part) → ⊥)
    (λ label. (label ≡ head ++ part) × (is_given label ≡ true) × IsWitness pair label)
    → MatchOption result (HasNone pair head tail (length head + rest)) (IsFound pair (length head + rest))
shared_by pair head tail part rest result is few told =
    shared_with pair head tail rest result few
    (subst (λ p. MatchOption result (IsGiven (head ++ p) → IsWitness pair (head ++ p) → ⊥)
    (λ label. (label ≡ head ++ p) × (is_given label ≡ true) × IsWitness pair label)) is told)

-- each label has its first part
pub longer_first : (pair : TextPair) (head tail : List ℕ) → AreLonger pair head tail (length head + 0)
longer_first pair head tail label fills = let short = has_short Front label head fills.begins in omega (arith, short)

pub longer_more : (pair : TextPair) (head tail : List ℕ) (size more : ℕ) → more ≡ size + 1 → AreLonger pair head tail size → HasNone pair head tail size
    → AreLonger pair head tail more
longer_more pair head tail size more is longer none label fills =
    let long = longer label fills in
    elim (cases_lt size (length label)) [
      | inl less ↦ omega (arith, is, less)
      | inr not_less ↦ absurd (none label fills (omega (arith, long, not_less)))
    ]

-- a label that is given has both texts of its pair as its parts
filling : (pair : TextPair) (label : List ℕ) → IsGiven label → IsWitness pair label
    → IsFilling pair (text_at pair.parts.fronts.now.texts.items pair.front) (text_at pair.parts.ends.now.texts.items pair.end) label
filling pair label given is =
    record {
      given = given;
      witness = is;
      begins = subst (λ (s : LabelSide). has_at s label (text_at pair.parts.fronts.now.texts.items pair.front) ≡ true) pair.parts.front_side is.front.has;
      closes = subst (λ (s : LabelSide). has_at s label (text_at pair.parts.ends.now.texts.items pair.end) ≡ true) pair.parts.end_side is.end.has;
    }

pub least_is : (pair : TextPair) (size : ℕ) (label : List ℕ)
    → IsFound pair size label
    → AreLonger pair (text_at pair.parts.fronts.now.texts.items pair.front) (text_at pair.parts.ends.now.texts.items pair.end) size
    → IsLeastWitness pair label
least_is pair size label found longer =
    record {
      given = found.given;
      witness = found.witness;
      least = λ other given is.
          let long = longer other (filling pair other given is) in
          let same = found.long in
          omega (arith, long, same);
    }

pub none_is : (pair : TextPair)
    → AreLonger pair (text_at pair.parts.fronts.now.texts.items pair.front) (text_at pair.parts.ends.now.texts.items pair.end) 65
    → HasNoWitness pair
none_is pair longer label given is =
    let long = longer label (filling pair label given is) in
    let short = given.short in
    omega (arith, long, short)
