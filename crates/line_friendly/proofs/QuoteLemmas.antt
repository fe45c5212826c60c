-- What stands within quotes, byte by byte.
use Rattle.std.proofs.Common.{◌≡◌, ℕ, ◌+◌, ◌<◌, ◌≤◌, ◌&&◌, Bool, true, false, cond, not, nat_eq, List, [], ◌∷◌, length, drop, get_or, slice_index, codes, position, Option, Some, None, IfSome, refl, sym, ap, ◌∙◌, arith, suc, add-one, drop-cons}
use Rattle.std.specs.List.{list_all, position_or_len}
use Rattle.std.specs.Option.{option_map, option_or}
use Rattle.std.specs.Str.{bytes_eq}
use Rattle.std.proofs.lemmas.Bool.Decides.{nat_tests}
use Rattle.std.proofs.lemmas.List.{drop_all}
use Rattle.line_friendly.specs.Quotes.{after_byte, after_text, closing, first_outside, first_stray, is_comment, is_outside, is_quote, is_stray, last_outside}
use Rattle.line_friendly.specs.Words.{is_blank, next_word, skip_blanks, up_to_blank}
use Rattle.line_friendly.proofs.WordLemmas.{place_none}
use Rattle.line_friendly.specs.declared.quotes.QuoteState.{QuoteState}
use Rattle.line_friendly.specs.declared.quotes.QuoteState.TheVariants.{Outside}

-- a byte at a place, and what is behind it
pub byte_at : (text : List ℕ) (i b : ℕ) → i < length text → get_or text i 0 ≡ b → drop i text ≡ b ∷ drop (i + 1) text
byte_at text i b within is = rw (add-one, drop-cons text i 0) (ap (λ x. x ∷ drop (suc i) text) is)

-- places of what stands one byte further
one_further : (i : ℕ) (found : Option ℕ) → option_map (λ n. i + n) (option_map (λ n. 1 + n) found) ≡ option_map (λ n. (i + 1) + n) found
one_further i None = refl
one_further i (Some n) = let e : i + (1 + n) ≡ (i + 1) + n = omega arith in ap Some e

pub no_further : (found : Option ℕ) → found ≡ option_map (λ n. 0 + n) found
no_further None = refl
no_further (Some n) = let e : n ≡ 0 + n = omega arith in ap Some e

-- the first byte of a text
pub first_is : (text : List ℕ) → length text ≡ 0 → is_quote text ≡ false
first_is [] none = refl
first_is (b ∷ bs) none = absurd (omega (arith, none))

-- ---- the closing quote

pub closing_step : (text : List ℕ) (escaped : Bool) (i b : ℕ) → i < length text → get_or text i 0 ≡ b →
    option_map (λ n. i + n) (closing escaped (drop i text))
    ≡ cond (not escaped && nat_eq b 34) (Some i) (option_map (λ n. (i + 1) + n) (closing (not escaped && nat_eq b 92) (drop (i + 1) text)))
closing_step text escaped i b within is =
    rw (byte_at text i b within is)
    (elim (not escaped && nat_eq b 34) as (λ t. option_map (λ n. i + n) (cond t (Some 0) (option_map (λ n. 1 + n) (closing (not escaped && nat_eq b 92) (drop (i + 1) text))))
    ≡ cond t (Some i) (option_map (λ n. (i + 1) + n) (closing (not escaped && nat_eq b 92) (drop (i + 1) text)))) [
      | true ↦ let e : i + 0 ≡ i = omega arith in ap Some e
      | false ↦ one_further i (closing (not escaped && nat_eq b 92) (drop (i + 1) text))
    ])

pub closing_start : (text : List ℕ) → closing false text ≡ option_map (λ n. 0 + n) (closing false text)
closing_start text = no_further (closing false text)

pub closing_end : (text : List ℕ) (escaped : Bool) (i : ℕ) → length text ≤ i → option_map (λ n. i + n) (closing escaped (drop i text)) ≡ None
closing_end text escaped i past = rw (drop_all i text past) refl

pub ruleset closes = (closing_step, closing_start, closing_end)

-- ---- the first place outside of quotes

pub first_step : (test : List ℕ → Bool) (text : List ℕ) (at : QuoteState) (i b : ℕ) → i < length text → get_or text i 0 ≡ b →
    option_map (λ n. i + n) (first_outside test at (drop i text))
    ≡ cond (is_outside at && test (drop i text)) (Some i) (option_map (λ n. (i + 1) + n) (first_outside test (after_byte at b) (drop (i + 1) text)))
first_step test text at i b within is =
    rw (byte_at text i b within is)
    (elim (is_outside at && test (b ∷ drop (i + 1) text)) as (λ t. option_map (λ n. i + n) (cond t (Some 0) (option_map (λ n. 1 + n) (first_outside test (after_byte at b) (drop (i + 1) text))))
    ≡ cond t (Some i) (option_map (λ n. (i + 1) + n) (first_outside test (after_byte at b) (drop (i + 1) text)))) [
      | true ↦ let e : i + 0 ≡ i = omega arith in ap Some e
      | false ↦ one_further i (first_outside test (after_byte at b) (drop (i + 1) text))
    ])

pub first_start : (test : List ℕ → Bool) (text : List ℕ) (at : QuoteState) → first_outside test at text ≡ option_map (λ n. 0 + n) (first_outside test at text)
first_start test text at = no_further (first_outside test at text)

pub first_end : (test : List ℕ → Bool) (text : List ℕ) (at : QuoteState) (i : ℕ) → length text ≤ i → option_map (λ n. i + n) (first_outside test at (drop i text)) ≡ None
first_end test text at i past = rw (drop_all i text past) refl

-- no blank begins a text that has no byte
pub no_blank : (text : List ℕ) → length text ≡ 0 → is_blank (slice_index text 0) ≡ false
no_blank [] none = refl
no_blank (b ∷ bs) none = absurd (omega (arith, none))

pub ruleset firsts = (first_step, first_start, first_end, no_blank)

-- ---- the first `=>` outside of quotes that is no arrow

pub stray_step : (text : List ℕ) (at : QuoteState) (i b : ℕ) → i < length text → get_or text i 0 ≡ b →
    option_map (λ n. i + n) (first_stray at (drop i text))
    ≡ cond (is_outside (after_byte at b) && is_stray (drop i text)) (Some i) (option_map (λ n. (i + 1) + n) (first_stray (after_byte at b) (drop (i + 1) text)))
stray_step text at i b within is =
    rw (byte_at text i b within is)
    (elim (is_outside (after_byte at b) && is_stray (b ∷ drop (i + 1) text)) as (λ t. option_map (λ n. i + n) (cond t (Some 0) (option_map (λ n. 1 + n) (first_stray (after_byte at b) (drop (i + 1) text))))
    ≡ cond t (Some i) (option_map (λ n. (i + 1) + n) (first_stray (after_byte at b) (drop (i + 1) text)))) [
      | true ↦ let e : i + 0 ≡ i = omega arith in ap Some e
      | false ↦ one_further i (first_stray (after_byte at b) (drop (i + 1) text))
    ])

-- a byte is passed, or found
module _ (text : List ℕ) (at next : QuoteState) (i b : ℕ) (within : i < length text) (is : get_or text i 0 ≡ b) (nexts : next ≡ after_byte at b) where
  stray_by : (test : Bool) → test ≡ (is_outside next && is_stray (drop i text)) → first_stray Outside text ≡ option_map (λ n. i + n) (first_stray at (drop i text)) →
      first_stray Outside text ≡ cond test (Some i) (option_map (λ n. (i + 1) + n) (first_stray next (drop (i + 1) text)))
  stray_by test tests found =
      found ∙ stray_step text at i b within is
      ∙ ap (λ s. cond (is_outside s && is_stray (drop i text)) (Some i) (option_map (λ n. (i + 1) + n) (first_stray s (drop (i + 1) text)))) (sym nexts)
      ∙ ap (λ t. cond t (Some i) (option_map (λ n. (i + 1) + n) (first_stray next (drop (i + 1) text)))) (sym tests)

  pub stray_passed : false ≡ (is_outside next && is_stray (drop i text)) → first_stray Outside text ≡ option_map (λ n. i + n) (first_stray at (drop i text)) →
      first_stray Outside text ≡ option_map (λ n. (i + 1) + n) (first_stray next (drop (i + 1) text))
  stray_passed none found = stray_by false none found

  pub stray_found : true ≡ (is_outside next && is_stray (drop i text)) → first_stray Outside text ≡ option_map (λ n. i + n) (first_stray at (drop i text)) →
      Some i ≡ first_stray Outside text
  stray_found here found = sym (stray_by true here found)

pub stray_start : (text : List ℕ) (at : QuoteState) → first_stray at text ≡ option_map (λ n. 0 + n) (first_stray at text)
stray_start text at = no_further (first_stray at text)

pub stray_end : (text : List ℕ) (at : QuoteState) (i : ℕ) → length text ≤ i → option_map (λ n. i + n) (first_stray at (drop i text)) ≡ None
stray_end text at i past = rw (drop_all i text past) refl

-- no text that has no byte begins with one
pub no_arrow : (text : List ℕ) → length text ≡ 0 → is_stray text ≡ false
no_arrow [] none = refl
no_arrow (b ∷ bs) none = absurd (omega (arith, none))

pub ruleset strays = (stray_start, stray_end)

-- ---- a text without the sign of a comment

abbrev pub is_free : List ℕ → Bool
is_free text = list_all (λ b. not (nat_eq b 35)) text

free_all : (text : List ℕ) → position_or_len (λ b. nat_eq b 35) text ≡ length text → is_free text ≡ true
free_all [] is = refl
free_all (b ∷ bs) is =
    elim (nat_eq b 35) as (λ t. cond (not t) (1 + position_or_len (λ b. nat_eq b 35) bs) 0 ≡ length (b ∷ bs) → (not t && is_free bs) ≡ true) [
      | true ↦ λ sign. absurd (omega (arith, sign))
      | false ↦ λ more. free_all bs (omega (arith, more))
    ] is

free_first : (b : ℕ) (bs : List ℕ) → is_free (b ∷ bs) ≡ true → nat_eq b 35 ≡ false
free_first b bs free = grind (arith, nat_tests)

free_more : (b : ℕ) (bs : List ℕ) → is_free (b ∷ bs) ≡ true → is_free bs ≡ true
free_more b bs free = grind (arith, nat_tests)

no_word : (text : List ℕ) → is_free text ≡ true → bytes_eq (next_word text).word (codes "#") ≡ false
no_word [] free = refl
no_word (b ∷ bs) free =
    elim (is_blank b) as (λ t. is_blank b ≡ t → bytes_eq (up_to_blank (cond t (skip_blanks bs) (b ∷ bs))).word (codes "#") ≡ false) [
      | true ↦ λ blank. no_word bs (free_more b bs free)
      | false ↦ λ other. rw (other, free_first b bs free) refl
    ] refl

and_false : (x y z : Bool) → z ≡ false → (x && (y && z)) ≡ false
and_false false y z none = refl
and_false true false z none = refl
and_false true true z none = none

pub no_first : (at : QuoteState) (text : List ℕ) → is_free text ≡ true → first_outside is_comment at text ≡ None
no_first at [] free = refl
no_first at (b ∷ bs) free =
    let test : (is_outside at && is_comment (b ∷ bs)) ≡ false = and_false (is_outside at) (is_blank b) (bytes_eq (next_word (b ∷ bs)).word (codes "#")) (no_word (b ∷ bs) free) in
    ap (λ t. cond t (Some 0) (option_map (λ n. 1 + n) (first_outside is_comment (after_byte at b) bs))) test
    ∙ ap (option_map (λ n. 1 + n)) (no_first (after_byte at b) bs (free_more b bs free))

pub no_comment : (text : List ℕ) → position (λ b. nat_eq b 35) text ≡ None → first_outside is_comment Outside text ≡ None
no_comment text none = no_first Outside text (free_all text (place_none (λ b. nat_eq b 35) text none))

-- ---- marks outside of quotes

pub after_step : (text : List ℕ) (at : QuoteState) (i b : ℕ) → i < length text → get_or text i 0 ≡ b → after_text at (drop i text) ≡ after_text (after_byte at b) (drop (i + 1) text)
after_step text at i b within is = rw (byte_at text i b within is) refl

pub after_end : (text : List ℕ) (at : QuoteState) (i : ℕ) → length text ≤ i → after_text at (drop i text) ≡ at
after_end text at i past = rw (drop_all i text past) refl

-- the last place from a byte on, or else one before
abbrev pub last_from : (List ℕ → Bool) → QuoteState → ℕ → List ℕ → Option ℕ → Option ℕ
last_from test at i text before = option_or (option_map (λ n. i + n) (last_outside test at (drop i text))) before

last_both : (i : ℕ) (later : Option ℕ) (here : Bool) (before : Option ℕ) →
    option_or (option_map (λ n. i + n) (option_or (option_map (λ n. 1 + n) later) (cond here (Some 0) None))) before
    ≡ option_or (option_map (λ n. (i + 1) + n) later) (cond here (Some i) before)
last_both i (Some n) here before = let e : i + (1 + n) ≡ (i + 1) + n = omega arith in ap Some e
last_both i None true before = let e : i + 0 ≡ i = omega arith in ap Some e
last_both i None false before = refl

pub last_step : (test : List ℕ → Bool) (text : List ℕ) (at : QuoteState) (i b : ℕ) (before : Option ℕ) → i < length text → get_or text i 0 ≡ b →
    last_from test at i text before ≡ last_from test (after_byte at b) (i + 1) text (cond (is_outside at && test (drop i text)) (Some i) before)
last_step test text at i b before within is =
    rw (byte_at text i b within is) (last_both i (last_outside test (after_byte at b) (drop (i + 1) text)) (is_outside at && test (b ∷ drop (i + 1) text)) before)

pub last_more : (test : List ℕ → Bool) (text rest : List ℕ) (at next : QuoteState) (i b : ℕ) (before after : Option ℕ) (outside here : Bool) → i < length text → get_or text i 0 ≡ b →
    next ≡ after_byte at b → outside ≡ is_outside at → rest ≡ drop i text → here ≡ test rest → after ≡ cond (outside && here) (Some i) before →
    last_from test at i text before ≡ last_from test next (i + 1) text after
last_more test text rest at next i b before after outside here within is nexts outsides rests heres afters =
    rw (afters, heres, rests, outsides, nexts) (last_step test text at i b before within is)

-- a place and what is there lie within the text
pub last_within : (k i count : ℕ) (outside here : Bool) (before after : Option ℕ) → after ≡ cond (outside && here) (Some i) before →
    (here ≡ true → i + k ≤ count) → IfSome before (λ n. n + k ≤ count) → IfSome after (λ n. n + k ≤ count)
last_within k i count false here before after is fits so_far = rw is so_far
last_within k i count true false before after is fits so_far = rw is so_far
last_within k i count true true before after is fits so_far = rw is (fits refl)

or_none : (found : Option ℕ) → found ≡ option_or (option_map (λ n. 0 + n) found) None
or_none None = refl
or_none (Some n) = let e : n ≡ 0 + n = omega arith in ap Some e

pub last_start : (test : List ℕ → Bool) (text : List ℕ) (at : QuoteState) → last_outside test at text ≡ last_from test at 0 text None
last_start test text at = or_none (last_outside test at text)

pub last_end : (test : List ℕ → Bool) (text : List ℕ) (at : QuoteState) (i : ℕ) (before : Option ℕ) → length text ≤ i → last_from test at i text before ≡ before
last_end test text at i before past = rw (drop_all i text past) refl

pub ruleset marks = (after_step, after_end, last_step, last_start, last_end)
