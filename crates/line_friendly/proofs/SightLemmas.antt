-- A line in which no byte is a sign of the friendly form has none of its forms.
use Rattle.std.proofs.Common.{◌≡◌, ℕ, ◌+◌, ◌-◌, ◌<◌, ◌&&◌, ◌==◌, true, false, true≢false, cond, not, nat_eq, nat_lt, is_some, List, [], ◌∷◌, length, drop, get_or, position, codes, Option, Some, None, refl, sym, ap, ◌∙◌, arith}
use Rattle.std.specs.List.{list_all, position_or_len, starts_with}
use Rattle.std.specs.Option.{option_map, option_or}
use Rattle.std.proofs.lemmas.Bool.Decides.{nat_tests}
use Rattle.std.proofs.lemmas.List.Folds.{list_all_at}
use Rattle.std.proofs.lemmas.Bool.{and_parts, and_from, not-true, and_right}
use Rattle.line_grammar.specs.Read.{Reads}
use Rattle.line_grammar.specs.declared.line.NamedCall.{NamedCall}
use Rattle.line_friendly.specs.Friendly.{without_return}
use Rattle.line_friendly.specs.Handed.{has_no_sign, is_sign}
use Rattle.line_friendly.specs.Theorems.{IsBare, IsPlain, is_translated}
use Rattle.line_friendly.specs.CallParts.{parts_of}
use Rattle.line_friendly.specs.Quotes.{after_byte, after_text, first_stray, is_arrow, is_outside, is_stray, last_outside}
use Rattle.line_friendly.specs.Words.{is_blank}
use Rattle.line_friendly.specs.declared.quotes.QuoteState.TheVariants.{Outside}
use Rattle.line_friendly.proofs.PlainLemmas.{no_directive}
use Rattle.line_friendly.proofs.QuoteLemmas.{is_free, no_first}

-- the first byte is no sign, and none of the others is
first_other : (b : ℕ) (bs : List ℕ) → has_no_sign (b ∷ bs) ≡ true → is_sign b ≡ false
first_other b bs none = not-true (is_sign b) (and_parts (not (is_sign b)) (has_no_sign bs) none).0

more_others : (b : ℕ) (bs : List ℕ) → has_no_sign (b ∷ bs) ≡ true → has_no_sign bs ≡ true
more_others b bs none = (and_parts (not (is_sign b)) (has_no_sign bs) none).1

no_quote : (b : ℕ) → is_sign b ≡ false → nat_eq b 34 ≡ false
no_quote b other = grind (arith, nat_tests)

no_comment_sign : (b : ℕ) → is_sign b ≡ false → not (nat_eq b 35) ≡ true
no_comment_sign b other = grind (arith, nat_tests)

no_tip : (b : ℕ) → is_sign b ≡ false → nat_eq 62 b ≡ false
no_tip b other = grind (arith, nat_tests)

no_dollar : (b : ℕ) → is_sign b ≡ false → nat_eq b 36 ≡ false
no_dollar b other = grind (arith, nat_tests)

a_return : (b : ℕ) → nat_eq b 13 ≡ true → not (is_sign b) ≡ false
a_return b is = grind (arith, nat_tests)

-- no comment begins
free_of : (line : List ℕ) → has_no_sign line ≡ true → is_free line ≡ true
free_of [] none = refl
free_of (b ∷ bs) none =
    and_from (not (nat_eq b 35)) (is_free bs) (no_comment_sign b (first_other b bs none)) (free_of bs (more_others b bs none))

-- no quote opens
after_other : (b : ℕ) → is_sign b ≡ false → after_byte Outside b ≡ Outside
after_other b other = rw (no_quote b other) refl

stays_outside : (line : List ℕ) → has_no_sign line ≡ true → after_text Outside line ≡ Outside
stays_outside [] none = refl
stays_outside (b ∷ bs) none = ap (λ at. after_text at bs) (after_other b (first_other b bs none)) ∙ stays_outside bs (more_others b bs none)

no_arrow_end : (more text : List ℕ) → has_no_sign text ≡ true → starts_with nat_eq text (61 ∷ 62 ∷ more) ≡ false
no_arrow_end more [] none = refl
no_arrow_end more (a ∷ []) none = and_right (nat_eq 61 a) false refl
no_arrow_end more (a ∷ b ∷ bs) none =
    let tip : (nat_eq 62 b && starts_with nat_eq bs more) ≡ false =
    ap (λ t. t && starts_with nat_eq bs more) (no_tip b (first_other b bs (more_others a (b ∷ bs) none))) in
    and_right (nat_eq 61 a) (nat_eq 62 b && starts_with nat_eq bs more) tip

no_arrow_here : (b : ℕ) (bs : List ℕ) → has_no_sign (b ∷ bs) ≡ true → is_arrow (b ∷ bs) ≡ false
no_arrow_here b bs none = and_right (is_blank b) (starts_with nat_eq bs (codes "=> ")) (no_arrow_end (codes " ") bs (more_others b bs none))

no_arrow : (line : List ℕ) → has_no_sign line ≡ true → last_outside is_arrow Outside line ≡ None
no_arrow [] none = refl
no_arrow (b ∷ bs) none =
    let later : last_outside is_arrow (after_byte Outside b) bs ≡ None =
    ap (λ at. last_outside is_arrow at bs) (after_other b (first_other b bs none)) ∙ no_arrow bs (more_others b bs none) in
    ap (λ found. option_or (option_map (λ n. 1 + n) found) (cond (is_arrow (b ∷ bs)) (Some 0) None)) later
    ∙ ap (λ t. cond t (Some 0) None) (no_arrow_here b bs none)

no_stray : (line : List ℕ) → has_no_sign line ≡ true → first_stray Outside line ≡ None
no_stray [] none = refl
no_stray (b ∷ bs) none =
    let here : is_stray (b ∷ bs) ≡ false =
    ap (λ t. t && not (is_arrow (b ∷ bs) && not (list_all is_blank (drop 4 (b ∷ bs))))) (no_arrow_end [] bs (more_others b bs none)) in
    ap (λ at. cond (is_outside at && is_stray (b ∷ bs)) (Some 0) (option_map (λ n. 1 + n) (first_stray at bs))) (after_other b (first_other b bs none))
    ∙ ap (λ t. cond t (Some 0) (option_map (λ n. 1 + n) (first_stray Outside bs))) here
    ∙ ap (option_map (λ n. 1 + n)) (no_stray bs (more_others b bs none))

-- no carriage return ends the line
at_other : (line : List ℕ) (i : ℕ) → i < length line → has_no_sign line ≡ true → nat_eq (get_or line i 0) 13 ≡ false
at_other line i within none =
    elim (nat_eq (get_or line i 0) 13) as (λ t. nat_eq (get_or line i 0) 13 ≡ t → t ≡ false) [
      | true ↦ λ is. absurd (true≢false (sym none ∙ list_all_at (λ b. not (is_sign b)) line i 0 within (a_return (get_or line i 0) is)))
      | false ↦ λ other. refl
    ] refl

no_return : (line : List ℕ) → has_no_sign line ≡ true → without_return line ≡ line
no_return [] none = refl
no_return (b ∷ bs) none = rw (at_other (b ∷ bs) (length (b ∷ bs) - 1) (omega arith) none) refl

-- so a call of the engine is one that passes as it stands
pub plain_at_sight : (line : List ℕ) (said : NamedCall) → has_no_sign line ≡ true → Reads line said → is_translated (parts_of line).tail ≡ false → IsPlain line
plain_at_sight line said none reads untranslated = record {
  call = ap is_some reads.says;
  short = reads.short;
  ending = no_return line none;
  closed = ap is_outside (stays_outside line none);
  arrow = no_arrow line none;
  straight = no_stray line none;
  comment = no_first Outside line (free_of line none);
  untranslated = untranslated;
}

-- and it is bare
all_before : (line : List ℕ) → has_no_sign line ≡ true → position_or_len (λ b. b == 36) line ≡ length line
all_before [] none = refl
all_before (b ∷ bs) none =
    let rest : position_or_len (λ b. b == 36) bs ≡ length bs = all_before bs (more_others b bs none) in
    let one : 1 + position_or_len (λ b. b == 36) bs ≡ length (b ∷ bs) = omega (arith, rest) in
    ap (λ t. cond (not t) (1 + position_or_len (λ b. b == 36) bs) 0) (no_dollar b (first_other b bs none)) ∙ one

no_less : (n : ℕ) → nat_lt n n ≡ false
no_less n = grind (arith, nat_tests)

nameless : (line : List ℕ) → has_no_sign line ≡ true → position (λ b. b == 36) line ≡ None
nameless line none =
    ap (λ n. cond (nat_lt n (length line)) (Some n) None) (all_before line none) ∙ ap (λ t. cond t (Some (length line)) None) (no_less (length line))

pub bare_at_sight : (line : List ℕ) (said : NamedCall) → has_no_sign line ≡ true → Reads line said → IsBare line
bare_at_sight line said none reads = record { nameless = nameless line none; says = no_directive line (ap is_some reads.says) }
