-- Pairs as they are mostly written are the first pairs of their texts.
use Rattle.std.proofs.Common.{◌≡◌, ℕ, suc, ◌+◌, ◌<◌, ◌≤◌, ◌&&◌, not, Bool, true, false, cond, List, [], ◌∷◌, ◌++◌, length, get_or, take, drop, Option, Some, None, refl, sym, ap, ◌∙◌, subst, arith, codes, append-nil}
use Rattle.std.specs.Prelude.{nat_eq, position}
use Rattle.std.specs.List.{list_all, position_or_len}
use Rattle.std.specs.Option.{option_map, option_and_then}
use Rattle.std.specs.Cmp.Lexicographic.{pointwise, same_text}
use Rattle.std.proofs.lemmas.Bool.Decides.{nat_tests}
use Rattle.std.proofs.lemmas.List.{take-append-drop}
use Rattle.std.proofs.lemmas.List.Sums.{prefix_len-le-length}
use Rattle.std.proofs.lemmas.Bool.{and_parts}
use Rattle.own_model.specs.Text.{is_name_byte}
use Rattle.own_model.specs.SessionArgs.{Pair, is_bare, is_quotable, inner, pieces_of, onto_first, value_of, pair_of, each}
use Rattle.own_model.specs.SessionArgs.Value.{Bare, Quoted}
use Rattle.own_model.proofs.SessionArgsLemmas.{none_of_three, not_quoted, is_plain, onto, pair_in, pieces-plain, pieces-quoted, trimmed-plain, trimmed-quote, value-quoted}
use Rattle.session_proto.specs.Pairs.{BeginsWith}
use Rattle.session_proto.specs.Pieces.{pieces_after, after_comma}
use Rattle.session_proto.proofs.PieceLemmas.{pieces_of-first}

-- ---- bytes of a kind at the front

-- one byte more, of the kind or not
kind-next : (q : ℕ → Bool) (t : Bool) (b : ℕ) (bs : List ℕ) (n : ℕ) → q b ≡ t → list_all q (take n bs) ≡ true → list_all q (take (cond (not (not t)) (1 + n) 0) (b ∷ bs)) ≡ true
kind-next q false b bs n is front = refl
kind-next q true b bs n is front = let one_more : 1 + n ≡ suc n = omega arith in rw one_more (λ i. is i && front i)

-- all before the first byte of another kind are of the kind
kind-front : (q : ℕ → Bool) (text : List ℕ) → list_all q (take (position_or_len (λ b. not (q b)) text) text) ≡ true
kind-front q [] = refl
kind-front q (b ∷ bs) = kind-next q (q b) b bs (position_or_len (λ b. not (q b)) bs) refl (kind-front q bs)

-- where one is found, or none is
pub kind-found : (q : ℕ → Bool) (text : List ℕ) (n : ℕ) → position (λ b. not (q b)) text ≡ Some n → list_all q (take n text) ≡ true
kind-found q text n is =
    let e : position_or_len (λ b. not (q b)) text ≡ n = grind (arith, nat_tests) in
    subst (λ k. list_all q (take k text) ≡ true) e (kind-front q text)

pub kind-all : (q : ℕ → Bool) (text : List ℕ) → position (λ b. not (q b)) text ≡ None → list_all q (take (length text) text) ≡ true
kind-all q text is =
    let past : length text ≤ position_or_len (λ b. not (q b)) text = grind (arith, nat_tests) in
    let most = prefix_len-le-length (λ b. not (not (q b))) text in
    let e : position_or_len (λ b. not (q b)) text ≡ length text = omega (arith, past, most) in
    subst (λ k. list_all q (take k text) ≡ true) e (kind-front q text)

-- a text that begins with another is it and the rest
pub behind_front : (text front value : List ℕ) (n : ℕ) → pointwise nat_eq (take n text) front ≡ true → value ≡ drop n text → text ≡ front ++ value
behind_front text front value n same rest = sym (take-append-drop n text) ∙ ap (λ t. t ++ drop n text) (same_text (take n text) front (sym same)) ∙ ap (λ t. front ++ t) (sym rest)

-- ---- a value as it stands

-- a byte of it is plain, and no quote
name_plain : (b : ℕ) → is_name_byte b ≡ true → is_plain b ≡ true
name_plain b named = grind (arith, nat_tests)

names_plain : (value : List ℕ) → list_all is_name_byte value ≡ true → list_all is_plain value ≡ true
names_plain [] named = refl
names_plain (b ∷ bs) named = let parts = and_parts _ _ named in λ i. name_plain b parts.0 i && names_plain bs parts.1 i

value-bare : (value : List ℕ) → is_bare value ≡ true → value_of value ≡ Some (Bare value)
value-bare [] bare = absurd (cc)
value-bare (b ∷ bs) bare =
    let named : list_all is_name_byte (b ∷ bs) ≡ true = (and_parts _ _ bare).1 in
    let quote : nat_eq b 34 ≡ false = (none_of_three _ _ _ (name_plain b (and_parts _ _ named).0)).1 in
    ap (λ t. cond t (Some (Quoted (inner (b ∷ bs)))) (cond (is_bare (b ∷ bs)) (Some (Bare (b ∷ bs))) None)) (not_quoted _ _ _ _ quote)
    ∙ ap (λ t. cond t (Some (Bare (b ∷ bs))) None) bare

-- ---- pieces

-- a text without quotes and commas is one piece
pieces-last : (xs : List ℕ) → list_all is_plain xs ≡ true → pieces_of false xs ≡ xs ∷ []
pieces-last [] plain = refl
pieces-last (b ∷ bs) plain =
    let parts = and_parts _ _ plain in
    let tests = none_of_three _ _ _ parts.0 in
    (λ i. cond (tests.2 i && true) ([] ∷ pieces_of false bs) (onto_first b (pieces_of (cond (tests.1 i) true false) bs)))
    ∙ ap (onto_first b) (pieces-last bs parts.1)

-- up to the text's end or a comma it is the first
pieces-bare : (xs : List ℕ) (rest : Option (List ℕ)) → list_all is_plain xs ≡ true → pieces_of false (xs ++ after_comma rest) ≡ xs ∷ pieces_after rest
pieces-bare xs None plain = ap (pieces_of false) (append-nil xs) ∙ pieces-last xs plain
pieces-bare xs (Some text) plain = pieces-plain xs text plain

-- and so is what is quoted up to there
pieces-label : (label : List ℕ) (rest : Option (List ℕ)) → list_all is_quotable label ≡ true → pieces_of true (label ++ 34 ∷ after_comma rest) ≡ (label ++ 34 ∷ []) ∷ pieces_after rest
pieces-label label None quotable = pieces-quoted label quotable
pieces-label [] (Some text) quotable = refl
pieces-label (b ∷ bs) (Some text) quotable =
    let parts : (is_quotable b ≡ true) × (list_all is_quotable bs ≡ true) = and_parts _ _ quotable in
    let byte : is_quotable b ≡ true = parts.0 in
    let quote : nat_eq b 34 ≡ false = grind (arith, nat_tests, byte) in
    let comma : (nat_eq b 44 && false) ≡ false = grind (arith, nat_tests) in
    (λ i. cond (comma i) ([] ∷ pieces_of true (bs ++ 34 ∷ 44 ∷ text)) (onto_first b (pieces_of (cond (quote i) false true) (bs ++ 34 ∷ 44 ∷ text))))
    ∙ ap (onto_first b) (pieces-label bs (Some text) parts.1)

-- ---- pairs

-- a first piece that is a pair
first_pair : (text piece : List ℕ) (pair : Pair) (rest : Option (List ℕ)) → pieces_of false text ≡ piece ∷ pieces_after rest → pair_of piece ≡ Some pair → BeginsWith text pair rest
first_pair text piece pair rest cut is = ap (each pair_of) cut ∙ ap (option_and_then (λ y. option_map (λ ys. y ∷ ys) (each pair_of (pieces_after rest)))) is

module _ (value : List ℕ) (rest : Option (List ℕ)) (bare : is_bare value ≡ true) where
  named : list_all is_plain value ≡ true
  named = names_plain value (and_parts _ _ bare).1

  pub ram_first : BeginsWith (codes "ram_quota=" ++ (value ++ after_comma rest)) (record { key = codes "ram_quota"; value = Bare value }) rest
  ram_first = first_pair (codes "ram_quota=" ++ (value ++ after_comma rest)) (codes "ram_quota=" ++ value) _ rest (pieces-bare (codes "ram_quota=" ++ value) rest named)
      (ap pair_in (trimmed-plain (codes "ram_quota=" ++ value) named) ∙ ap (option_map (λ v. record { key = codes "ram_quota"; value = v })) (value-bare value bare))

  pub caps_first : BeginsWith (codes "cap_quota=" ++ (value ++ after_comma rest)) (record { key = codes "cap_quota"; value = Bare value }) rest
  caps_first = first_pair (codes "cap_quota=" ++ (value ++ after_comma rest)) (codes "cap_quota=" ++ value) _ rest (pieces-bare (codes "cap_quota=" ++ value) rest named)
      (ap pair_in (trimmed-plain (codes "cap_quota=" ++ value) named) ∙ ap (option_map (λ v. record { key = codes "cap_quota"; value = v })) (value-bare value bare))

pub label_first : (label : List ℕ) (rest : Option (List ℕ)) → list_all is_quotable label ≡ true → BeginsWith (codes "label=\"" ++ (label ++ 34 ∷ after_comma rest)) (record { key = codes "label"; value = Quoted label }) rest
label_first label rest quotable = first_pair (codes "label=\"" ++ (label ++ 34 ∷ after_comma rest)) (codes "label=\"" ++ (label ++ 34 ∷ [])) _ rest (ap (onto (codes "label=\"")) (pieces-label label rest quotable))
    (ap pair_in (trimmed-quote (codes "label=\"" ++ label)) ∙ ap (option_map (λ v. record { key = codes "label"; value = v })) (value-quoted label quotable))

-- a space before a pair is nothing
spaced : (text : List ℕ) (pair : Pair) (rest : Option (List ℕ)) → BeginsWith text pair rest → BeginsWith (32 ∷ text) pair rest
spaced text pair rest begins =
    let cut = pieces_of-first false text in
    ap (λ pieces. each pair_of (onto_first 32 pieces)) cut ∙ ap (each pair_of) (sym cut) ∙ begins

pub spaced_at : (text : List ℕ) (pair : Pair) (rest : Option (List ℕ)) → 0 < length text → get_or text 0 0 ≡ 32 → BeginsWith (drop 1 text) pair rest → BeginsWith text pair rest
spaced_at [] pair rest some space begins = absurd (omega arith)
spaced_at (b ∷ bs) pair rest some space begins = subst (λ c. BeginsWith (c ∷ bs) pair rest) (sym space) (spaced bs pair rest begins)
