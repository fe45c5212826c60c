-- Where a text is cut.
use Rattle.std.proofs.Common.{◌≡◌, ℕ, suc, ◌+◌, ◌&&◌, not, get_or, length-drop, get_or-drop, subst, ◌-◌, ◌<◌, ◌≤◌, Bool, true, false, cond, List, [], ◌∷◌, length, take, drop, Some, None, refl, sym, ap, ◌∙◌, arith}
use Rattle.std.specs.Prelude.{nat_eq, nat_lt, position}
use Rattle.std.specs.List.{position_or_len}
use Rattle.std.proofs.lemmas.List.Sums.{prefix_len-le-length}
use Rattle.std.proofs.lemmas.List.Quantifiers.{position-Some}
use Rattle.std.proofs.lemmas.List.{take_all, take_rest, drop_all, drop-drop, at_drop_more}
use Rattle.std.proofs.lemmas.Bool.Decides.{nat_tests}
use Rattle.own_model.specs.SessionArgs.{is_quote, pieces_of, onto_first}
use Rattle.text_codec.proofs.WordLemmas.{after, after-next}
use Rattle.session_proto.specs.Pieces.{is_cut, first_len, pieces_after}

-- a byte in front, which is such a comma or isn't, where the rest is cut so
cut-next : (stop quoted : Bool) (b : ℕ) (bs : List ℕ) (n : ℕ) (next : List (List ℕ)) → next ≡ take n bs ∷ pieces_after (after n bs) → (stop ≡ true → quoted ≡ false) →
    cond stop ([] ∷ pieces_of quoted bs) (onto_first b next) ≡ take (cond stop 0 (1 + n)) (b ∷ bs) ∷ pieces_after (after (cond stop 0 (1 + n)) (b ∷ bs))
cut-next true quoted b bs n next e stops =
    let here : nat_lt 0 (length (b ∷ bs)) ≡ true = grind (arith, nat_tests) in
    ap (λ q. [] ∷ pieces_of q bs) (stops refl) ∙ ap (λ t. [] ∷ pieces_after (cond t (Some bs) None)) (sym here)
cut-next false quoted b bs n next e stops =
    let one_more : suc n ≡ 1 + n = omega arith in
    ap (onto_first b) e ∙ ap (λ k. take k (b ∷ bs) ∷ pieces_after (after n bs)) one_more ∙ ap (λ rest. take (1 + n) (b ∷ bs) ∷ pieces_after rest) (after-next n b bs)

-- a comma that is_cut stands outside quotes
outside : (comma quoted : Bool) → (comma && not quoted) ≡ true → quoted ≡ false
outside comma false is_cut = refl
outside true true is_cut = absurd (cc)
outside false true is_cut = absurd (cc)

-- a text is its first piece, and the pieces after it
pub pieces_of-first : (quoted : Bool) (text : List ℕ) → pieces_of quoted text ≡ take (first_len quoted text) text ∷ pieces_after (after (first_len quoted text) text)
pieces_of-first quoted [] = refl
pieces_of-first quoted (b ∷ bs) =
    let next : Bool = cond (is_quote b) (not quoted) quoted in
    cut-next (nat_eq b 44 && not quoted) quoted b bs (first_len next bs) (pieces_of next bs) (pieces_of-first next bs) (outside (nat_eq b 44) quoted)

-- where the first piece ends before the text does, other pieces follow
pub cut_at : (text : List ℕ) (n : ℕ) → n ≡ first_len false text → n < length text → pieces_of false text ≡ take n text ∷ pieces_of false (take (length text - (n + 1)) (drop (n + 1) text))
cut_at text n e within =
    let test : nat_lt n (length text) ≡ true = grind (arith, nat_tests) in
    pieces_of-first false text
    ∙ ap (λ k. take k text ∷ pieces_after (after k text)) (sym e)
    ∙ ap (λ t. take n text ∷ pieces_after (cond t (Some (drop (n + 1) text)) None)) test
    ∙ ap (λ rest. take n text ∷ pieces_of false rest) (sym (take_rest text (n + 1)))

-- and where it doesn't, it is the text
pub cut_none : (text : List ℕ) (n : ℕ) → n ≡ first_len false text → length text ≤ n → pieces_of false text ≡ text ∷ []
cut_none text n e past =
    let test : nat_lt n (length text) ≡ false = grind (arith, nat_tests) in
    pieces_of-first false text
    ∙ ap (λ k. take k text ∷ pieces_after (after k text)) (sym e)
    ∙ ap (λ t. take n text ∷ pieces_after (cond t (Some (drop (n + 1) text)) None)) test
    ∙ ap (λ piece. piece ∷ []) (take_all n text past)

-- ---- how long the first piece is, from one comma or quote to the next

-- past one byte more is past so many of the rest
drop-next : (n b : ℕ) (bs : List ℕ) → drop (1 + n) (b ∷ bs) ≡ drop n bs
drop-next n b bs = let one_more : 1 + n ≡ suc n = omega arith in ap (λ k. drop k (b ∷ bs)) one_more

-- a byte in front, outside quotes, which is a comma or a quote or isn't
outside-next : (cut : Bool) (b : ℕ) (bs : List ℕ) (n : ℕ) → is_cut b ≡ cut → first_len false bs ≡ n + first_len false (drop n bs) →
    first_len false (b ∷ bs) ≡ cond (not cut) (1 + n) 0 + first_len false (drop (cond (not cut) (1 + n) 0) (b ∷ bs))
outside-next true b bs n is e = omega arith
outside-next false b bs n is e =
    let no_comma : nat_eq b 44 ≡ false = grind (arith, nat_tests) in
    let no_quote : nat_eq b 34 ≡ false = grind (arith, nat_tests) in
    rw (no_comma, no_quote, e) (omega (arith, ap (first_len false) (drop-next n b bs)))

-- outside quotes nothing is cut before the first comma or quote
outside_passed : (text : List ℕ) → first_len false text ≡ position_or_len is_cut text + first_len false (drop (position_or_len is_cut text) text)
outside_passed [] = refl
outside_passed (b ∷ bs) = outside-next (is_cut b) b bs (position_or_len is_cut bs) refl (outside_passed bs)

inside-next : (quote : Bool) (b : ℕ) (bs : List ℕ) (n : ℕ) → is_quote b ≡ quote → first_len true bs ≡ n + first_len true (drop n bs) →
    first_len true (b ∷ bs) ≡ cond (not quote) (1 + n) 0 + first_len true (drop (cond (not quote) (1 + n) 0) (b ∷ bs))
inside-next true b bs n is e = omega arith
inside-next false b bs n is e = let no_cut : (nat_eq b 44 && false) ≡ false = grind (arith, nat_tests) in rw (no_cut, is, e) (omega (arith, ap (first_len true) (drop-next n b bs)))

-- and within quotes none before the next quote
inside_passed : (text : List ℕ) → first_len true text ≡ position_or_len is_quote text + first_len true (drop (position_or_len is_quote text) text)
inside_passed [] = refl
inside_passed (b ∷ bs) = inside-next (is_quote b) b bs (position_or_len is_quote bs) refl (inside_passed bs)

-- a place that is found is the first, and one that isn't is none
found_at : (p : ℕ → Bool) (text : List ℕ) (n : ℕ) → position p text ≡ Some n → position_or_len p text ≡ n
found_at p text n is = grind (arith, nat_tests)

nowhere_in : (p : ℕ → Bool) (text : List ℕ) → position p text ≡ None → length text ≤ position_or_len p text
nowhere_in p text is = grind (arith, nat_tests)

-- from a place on, outside quotes: up to the comma or quote that is found there, or to the end
pub up_to_cut : (text : List ℕ) (at n : ℕ) → position is_cut (drop at text) ≡ Some n → first_len false (drop at text) ≡ n + first_len false (drop (at + n) text)
up_to_cut text at n is = subst (λ k. first_len false (drop at text) ≡ k + first_len false (drop k (drop at text))) (found_at is_cut (drop at text) n is) (outside_passed (drop at text)) ∙ ap (λ rest. n + first_len false rest) (drop-drop n at text)

pub up_to_end : (text : List ℕ) (at : ℕ) → at ≤ length text → position is_cut (drop at text) ≡ None → at + first_len false (drop at text) ≡ length text
up_to_end text at within is =
    let past = nowhere_in is_cut (drop at text) is in
    let all = outside_passed (drop at text) in
    let none : drop (position_or_len is_cut (drop at text)) (drop at text) ≡ [] = drop_all _ _ past in
    let most = prefix_len-le-length (λ b. not (is_cut b)) (drop at text) in
    let long = length-drop at text in
    omega (arith, all ∙ ap (λ rest. position_or_len is_cut (drop at text) + first_len false rest) none)

-- within quotes: up to the quote that is found, or to the end
pub up_to_quote : (text : List ℕ) (at n : ℕ) → position is_quote (drop at text) ≡ Some n → first_len true (drop at text) ≡ n + first_len true (drop (at + n) text)
up_to_quote text at n is = subst (λ k. first_len true (drop at text) ≡ k + first_len true (drop k (drop at text))) (found_at is_quote (drop at text) n is) (inside_passed (drop at text)) ∙ ap (λ rest. n + first_len true rest) (drop-drop n at text)

pub open_end : (text : List ℕ) (at : ℕ) → at ≤ length text → position is_quote (drop at text) ≡ None → at + first_len true (drop at text) ≡ length text
open_end text at within is =
    let past = nowhere_in is_quote (drop at text) is in
    let all = inside_passed (drop at text) in
    let none : drop (position_or_len is_quote (drop at text)) (drop at text) ≡ [] = drop_all _ _ past in
    let most = prefix_len-le-length (λ b. not (is_quote b)) (drop at text) in
    let long = length-drop at text in
    omega (arith, all ∙ ap (λ rest. position_or_len is_quote (drop at text) + first_len true rest) none)

-- a comma outside quotes ends the piece, and a quote begins what is quoted, or ends it
pub at_comma : (text : List ℕ) (at : ℕ) → at < length text → get_or text at 0 ≡ 44 → first_len false (drop at text) ≡ 0
at_comma text at within is = at_drop_more (first_len false) text at 0 within ∙ rw is refl

pub at_quote : (text : List ℕ) (at : ℕ) → at < length text → get_or text at 0 ≡ 34 → first_len false (drop at text) ≡ 1 + first_len true (drop (at + 1) text)
at_quote text at within is = at_drop_more (first_len false) text at 0 within ∙ rw is refl

pub after_quote : (text : List ℕ) (at : ℕ) → at < length text → get_or text at 0 ≡ 34 → first_len true (drop at text) ≡ 1 + first_len false (drop (at + 1) text)
after_quote text at within is = at_drop_more (first_len true) text at 0 within ∙ rw is refl

-- where a comma or a quote is found, it is one of them
pub cut_byte : (text : List ℕ) (at n : ℕ) → position is_cut (drop at text) ≡ Some n → is_cut (get_or text (at + n) 0) ≡ true
cut_byte text at n is = subst (λ b. is_cut b ≡ true) (get_or-drop at text n 0) (position-Some is_cut (drop at text) n 0 is).1

pub quote_byte : (text : List ℕ) (at n : ℕ) → position is_quote (drop at text) ≡ Some n → get_or text (at + n) 0 ≡ 34
quote_byte text at n is = let quote : is_quote (get_or text (at + n) 0) ≡ true = subst (λ b. is_quote b ≡ true) (get_or-drop at text n 0) (position-Some is_quote (drop at text) n 0 is).1 in grind (arith, nat_tests)
