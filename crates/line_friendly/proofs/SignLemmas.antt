-- The signs of a text, one after another.
use Rattle.std.proofs.Common.{◌≡◌, ℕ, ◌+◌, ◌-◌, ◌<◌, ◌≤◌, true, false, true≢false, cond, nat_eq, is_none, zero, suc, List, [], ◌∷◌, ◌++◌, length, drop, get_or, Option, Some, None, Ok, Err, refl, sym, ap, ◌∙◌, subst, arith}
use Rattle.std.specs.Option.{option_and_then, option_map, unwrap_or}
use Rattle.std.specs.Result.{result_ok}
use Rattle.std.proofs.lemmas.Option.{same_Some}
use Rattle.hex.specs.Hex.{decode_sized}
use Rattle.hex.specs.declared.error.FromHexError.{FromHexError}
use Rattle.hex.proofs.HexLemmas.{decode_sized-twice}
use Rattle.text_codec.proofs.HexLemmas.{decoded}
use Rattle.own_model.specs.Text.{byte_of_hex, bytes_of_hex}
use Rattle.std.specs.List.{starts_with}
use Rattle.std.specs.Str.{bytes_eq}
use Rattle.std.proofs.lemmas.Bool.Decides.{Decides-eqb, nat_tests}
use Rattle.std.proofs.lemmas.List.{drop-drop, drop_all, length-drop}
use Rattle.std.proofs.lemmas.Slice.Eq.{bytes_eq-Decides, starts_is}
use Rattle.own_model.specs.Reply.{hex_text}
use Rattle.line_friendly.specs.QuotedBytes.{bytes_from, bytes_of, fault_from, sign_at, sign_of}
use Rattle.line_friendly.specs.Words.{spaced}
use Rattle.line_friendly.specs.LineText.{added}
use Rattle.line_friendly.specs.declared.quoted_bytes.QuotedByte.{QuotedByte}
use Rattle.line_friendly.proofs.QuoteLemmas.{no_further}
use Rattle.line_friendly.proofs.WrittenLemmas.{added_both, added_none}

-- bytes of a sign before are passed
bytes_skip : (skip : ℕ) (text : List ℕ) → bytes_from skip text ≡ bytes_from 0 (drop skip text)
bytes_skip zero text = refl
bytes_skip (suc skip) [] = refl
bytes_skip (suc skip) (b ∷ bs) = bytes_skip skip bs

both_further : (i j : ℕ) (found : Option ℕ) → option_map (λ n. i + n) (option_map (λ n. j + n) found) ≡ option_map (λ n. (i + j) + n) found
both_further i j None = refl
both_further i j (Some n) = let e : i + (j + n) ≡ (i + j) + n = omega arith in ap Some e

fault_skip : (skip : ℕ) (text : List ℕ) → fault_from skip text ≡ option_map (λ n. skip + n) (fault_from 0 (drop skip text))
fault_skip zero text = no_further (fault_from 0 text)
fault_skip (suc skip) [] = refl
fault_skip (suc skip) (b ∷ bs) =
    let one : 1 + skip ≡ suc skip = omega arith in
    ap (option_map (λ n. 1 + n)) (fault_skip skip bs) ∙ both_further 1 skip (fault_from 0 (drop skip bs))
    ∙ ap (λ k. option_map (λ n. k + n) (fault_from 0 (drop skip bs))) one

-- what is behind a sign
drop_sign : (size b : ℕ) (bs : List ℕ) → 1 ≤ size → drop (size - 1) bs ≡ drop size (b ∷ bs)
drop_sign zero b bs some = absurd (omega (arith, some))
drop_sign (suc n) b bs some = let e : suc n - 1 ≡ n = omega arith in ap (λ k. drop k bs) e

-- the first sign, and those behind it
bytes_front : (text : List ℕ) → 0 < length text → 1 ≤ (sign_at text).size → bytes_from 0 text ≡ (sign_at text).byte ∷ bytes_from 0 (drop (sign_at text).size text)
bytes_front [] here some = absurd (omega (arith, here))
bytes_front (b ∷ bs) here some =
    ap (λ l. (sign_at (b ∷ bs)).byte ∷ l) (bytes_skip ((sign_at (b ∷ bs)).size - 1) bs ∙ ap (bytes_from 0) (drop_sign (sign_at (b ∷ bs)).size b bs some))

pub bytes_step : (text : List ℕ) (i : ℕ) → i < length text → 1 ≤ (sign_at (drop i text)).size →
    bytes_from 0 (drop i text) ≡ (sign_at (drop i text)).byte ∷ bytes_from 0 (drop (i + (sign_at (drop i text)).size) text)
bytes_step text i within some =
    bytes_front (drop i text) (omega (arith, within, length-drop {A = ℕ})) some
    ∙ ap (λ l. (sign_at (drop i text)).byte ∷ bytes_from 0 l) (drop-drop (sign_at (drop i text)).size i text)

-- digits of a byte, and of those behind it
hex_cons : (b : ℕ) (bs : List ℕ) → hex_text (b ∷ bs) ≡ hex_text (b ∷ []) ++ hex_text bs
unfolding hex_text
hex_cons b bs = refl

-- a sign is put, and then those behind it
pub put_step : (line : Option (List ℕ)) (text : List ℕ) (i : ℕ) (sign : QuotedByte) → i < length text → sign ≡ sign_at (drop i text) → 1 ≤ sign.size →
    added line (hex_text (bytes_from 0 (drop i text))) ≡ added (added line (hex_text (sign.byte ∷ []))) (hex_text (bytes_from 0 (drop (i + sign.size) text)))
put_step line text i sign within is some =
    let size : 1 ≤ (sign_at (drop i text)).size = subst (λ (s : QuotedByte). 1 ≤ s.size) is some in
    ap (λ l. added line (hex_text l)) (bytes_step text i within size)
    ∙ ap (added line) (hex_cons (sign_at (drop i text)).byte (bytes_from 0 (drop (i + (sign_at (drop i text)).size) text)))
    ∙ ap (λ (s : QuotedByte). added line (hex_text (s.byte ∷ []) ++ hex_text (bytes_from 0 (drop (i + s.size) text)))) (sym is)
    ∙ sym (added_both line (hex_text (sign.byte ∷ [])) (hex_text (bytes_from 0 (drop (i + sign.size) text))))

-- nothing is behind the last
pub put_end : (line : Option (List ℕ)) (text : List ℕ) (i : ℕ) → length text ≤ i → added line (hex_text (bytes_from 0 (drop i text))) ≡ line
unfolding hex_text
put_end line text i past = rw (drop_all i text past) (sym (added_none line))

pub ruleset put_signs = (put_step, put_end)

-- digits of one sign or more begin with one, so a space stands before them
hex_spaced : (b : ℕ) (bs : List ℕ) → spaced (hex_text (b ∷ bs)) ≡ 32 ∷ hex_text (b ∷ bs)
unfolding hex_text
hex_spaced b bs = refl

pub put_behind_space : (line : Option (List ℕ)) (text : List ℕ) → 0 < length text →
    added (added line (32 ∷ [])) (hex_text (bytes_of text)) ≡ added line (spaced (hex_text (bytes_of text)))
put_behind_space line [] some = absurd (omega (arith, some))
put_behind_space line (b ∷ bs) some =
    added_both line (32 ∷ []) (hex_text (bytes_of (b ∷ bs)))
    ∙ ap (added line) (sym (hex_spaced (sign_at (b ∷ bs)).byte (bytes_from ((sign_at (b ∷ bs)).size - 1) bs)))

pub put_nothing : (line : Option (List ℕ)) (text : List ℕ) → length text ≡ 0 → line ≡ added line (spaced (hex_text (bytes_of text)))
unfolding hex_text
put_nothing line [] none = added_none line
put_nothing line (b ∷ bs) none = absurd (omega (arith, none))

pub ruleset quoted = (put_behind_space, put_nothing)

-- ---- digits that are compared

-- what begins with a text goes on as what is behind it
starts_same : (left front rest : List ℕ) → starts_with nat_eq left front ≡ true → bytes_eq left (front ++ rest) ≡ bytes_eq (drop (length front) left) rest
starts_same left front rest starts =
    let begins : left ≡ front ++ drop (length front) left = (starts_is Decides-eqb left front _ refl).0 starts in
    ap (λ l. bytes_eq l (front ++ rest)) begins ∙ front_same front (drop (length front) left) rest
  where
    front_same : (front xs ys : List ℕ) → bytes_eq (front ++ xs) (front ++ ys) ≡ bytes_eq xs ys
    front_same [] xs ys = refl
    front_same (b ∷ bs) xs ys = let same : nat_eq b b ≡ true = grind (arith, nat_tests) in rw same (front_same bs xs ys)

starts_other : (left front rest : List ℕ) → starts_with nat_eq left front ≡ false → bytes_eq left (front ++ rest) ≡ false
starts_other left front rest other =
    elim (bytes_eq left (front ++ rest)) as (λ t. bytes_eq left (front ++ rest) ≡ t → t ≡ false) [
      | true ↦ λ same.
          let e : left ≡ front ++ rest = (bytes_eq-Decides left (front ++ rest)).0 same in
          absurd (true≢false (sym ((starts_is Decides-eqb left front _ refl).1 rest e) ∙ other))
      | false ↦ λ same. refl
    ] refl

two_digits : (b : ℕ) → length (hex_text (b ∷ [])) ≡ 2
unfolding hex_text
two_digits b = refl

hex_front : (text : List ℕ) (i : ℕ) (sign : QuotedByte) → i < length text → sign ≡ sign_at (drop i text) → 1 ≤ sign.size →
    hex_text (bytes_from 0 (drop i text)) ≡ hex_text (sign.byte ∷ []) ++ hex_text (bytes_from 0 (drop (i + sign.size) text))
hex_front text i sign within is some =
    let size : 1 ≤ (sign_at (drop i text)).size = subst (λ (s : QuotedByte). 1 ≤ s.size) is some in
    ap hex_text (bytes_step text i within size)
    ∙ hex_cons (sign_at (drop i text)).byte (bytes_from 0 (drop (i + (sign_at (drop i text)).size) text))
    ∙ ap (λ (s : QuotedByte). hex_text (s.byte ∷ []) ++ hex_text (bytes_from 0 (drop (i + s.size) text))) (sym is)

-- a sign's digits are there, and those of the signs behind it are left
pub hex_step : (left text : List ℕ) (i : ℕ) (sign : QuotedByte) → i < length text → sign ≡ sign_at (drop i text) → 1 ≤ sign.size →
    starts_with nat_eq left (hex_text (sign.byte ∷ [])) ≡ true →
    bytes_eq left (hex_text (bytes_from 0 (drop i text))) ≡ bytes_eq (drop 2 left) (hex_text (bytes_from 0 (drop (i + sign.size) text)))
hex_step left text i sign within is some starts =
    ap (bytes_eq left) (hex_front text i sign within is some)
    ∙ starts_same left (hex_text (sign.byte ∷ [])) (hex_text (bytes_from 0 (drop (i + sign.size) text))) starts
    ∙ ap (λ n. bytes_eq (drop n left) (hex_text (bytes_from 0 (drop (i + sign.size) text)))) (two_digits sign.byte)

-- or they aren't
pub hex_other : (left text : List ℕ) (i : ℕ) (sign : QuotedByte) → i < length text → sign ≡ sign_at (drop i text) → 1 ≤ sign.size →
    starts_with nat_eq left (hex_text (sign.byte ∷ [])) ≡ false → bytes_eq left (hex_text (bytes_from 0 (drop i text))) ≡ false
hex_other left text i sign within is some other =
    ap (bytes_eq left) (hex_front text i sign within is some)
    ∙ starts_other left (hex_text (sign.byte ∷ [])) (hex_text (bytes_from 0 (drop (i + sign.size) text))) other

-- behind the last sign nothing may be left
pub hex_end : (left text : List ℕ) (i : ℕ) → length text ≤ i → bytes_eq left (hex_text (bytes_from 0 (drop i text))) ≡ nat_eq (length left) 0
unfolding hex_text
hex_end [] text i past = rw (drop_all i text past) refl
hex_end (b ∷ bs) text i past = rw (drop_all i text past) (grind (arith, nat_tests))

pub ruleset hex_signs = (hex_end)

-- ---- faults

fault_front : (text : List ℕ) (sign : QuotedByte) → 0 < length text → sign_of text ≡ Some sign → 1 ≤ sign.size →
    fault_from 0 text ≡ option_map (λ n. sign.size + n) (fault_from 0 (drop sign.size text))
fault_front [] sign here is some = absurd (omega (arith, here))
fault_front (b ∷ bs) sign here is some =
    let at : ℕ = sign.size - 1 in
    let one : 1 + (sign.size - 1) ≡ sign.size = omega (arith, some) in
    ap (λ (s : Option QuotedByte). cond (is_none s) (Some 0) (option_map (λ n. 1 + n) (fault_from ((unwrap_or s (record { byte = 0; size = 1 })).size - 1) bs))) is
    ∙ ap (option_map (λ n. 1 + n)) (fault_skip (sign.size - 1) bs)
    ∙ both_further 1 (sign.size - 1) (fault_from 0 (drop (sign.size - 1) bs))
    ∙ ap (λ k. option_map (λ n. k + n) (fault_from 0 (drop (sign.size - 1) bs))) one
    ∙ ap (λ l. option_map (λ n. sign.size + n) (fault_from 0 l)) (drop_sign sign.size b bs some)

pub fault_step : (text : List ℕ) (i : ℕ) (sign : QuotedByte) → i < length text → sign_of (drop i text) ≡ Some sign → 1 ≤ sign.size →
    option_map (λ n. i + n) (fault_from 0 (drop i text)) ≡ option_map (λ n. (i + sign.size) + n) (fault_from 0 (drop (i + sign.size) text))
fault_step text i sign within is some =
    ap (option_map (λ n. i + n)) (fault_front (drop i text) sign (omega (arith, within, length-drop {A = ℕ})) is some)
    ∙ both_further i sign.size (fault_from 0 (drop sign.size (drop i text)))
    ∙ ap (λ l. option_map (λ n. (i + sign.size) + n) (fault_from 0 l)) (drop-drop sign.size i text)

fault_here : (text : List ℕ) → 0 < length text → sign_of text ≡ None → fault_from 0 text ≡ Some 0
fault_here [] here none = absurd (omega (arith, here))
fault_here (b ∷ bs) here none =
    ap (λ (s : Option QuotedByte). cond (is_none s) (Some 0) (option_map (λ n. 1 + n) (fault_from ((unwrap_or s (record { byte = 0; size = 1 })).size - 1) bs))) none

pub fault_found : (text : List ℕ) (i : ℕ) → i < length text → sign_of (drop i text) ≡ None → option_map (λ n. i + n) (fault_from 0 (drop i text)) ≡ Some i
fault_found text i within none =
    let e : i + 0 ≡ i = omega arith in
    ap (option_map (λ n. i + n)) (fault_here (drop i text) (omega (arith, within, length-drop {A = ℕ})) none) ∙ ap Some e

pub fault_start : (text : List ℕ) → fault_from 0 text ≡ option_map (λ n. 0 + n) (fault_from 0 text)
fault_start text = no_further (fault_from 0 text)

pub fault_end : (text : List ℕ) (i : ℕ) → length text ≤ i → option_map (λ n. i + n) (fault_from 0 (drop i text)) ≡ None
fault_end text i past = rw (drop_all i text past) refl

pub ruleset fault_signs = (fault_step, fault_found, fault_start, fault_end)

-- ---- the two digits of an escape

-- a byte that is read is the first of the bytes of its two digits
one_byte : (o : Option ℕ) (bytes : List ℕ) → option_and_then (λ byte. option_map (λ (bytes : List ℕ). byte ∷ bytes) (Some [])) o ≡ Some bytes → o ≡ Some (get_or bytes 0 0)
one_byte None bytes is = absurd (cc)
one_byte (Some b) bytes is = ap (λ l. Some (get_or l 0 0)) (same_Some (b ∷ []) bytes is)

no_byte : (o : Option ℕ) → option_and_then (λ byte. option_map (λ (bytes : List ℕ). byte ∷ bytes) (Some [])) o ≡ None → o ≡ None
no_byte None is = refl
no_byte (Some b) is = absurd (cc)

-- what the kit decodes of two digits are the bytes of the model
pair_decoded : (high low : ℕ) → result_ok (decode_sized (high ∷ low ∷ []) 1) ≡ bytes_of_hex (high ∷ low ∷ [])
pair_decoded high low = ap result_ok (decode_sized-twice (high ∷ low ∷ []) 1 refl) ∙ decoded (high ∷ low ∷ [])

pub byte_read : (high low : ℕ) (bytes : List ℕ) → decode_sized (high ∷ low ∷ []) 1 ≡ Ok bytes → byte_of_hex high low ≡ Some (get_or bytes 0 0)
byte_read high low bytes is = one_byte (byte_of_hex high low) bytes (sym (pair_decoded high low) ∙ ap result_ok is)

pub no_byte_read : (high low : ℕ) (e : FromHexError) → decode_sized (high ∷ low ∷ []) 1 ≡ Err e → byte_of_hex high low ≡ None
no_byte_read high low e is = no_byte (byte_of_hex high low) (sym (pair_decoded high low) ∙ ap result_ok is)

pub ruleset bytes_read = (byte_read, no_byte_read)
