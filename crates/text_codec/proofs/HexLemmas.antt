-- Texts of hexadecimal digits, and the bytes that they stand for.
use Rattle.std.proofs.Common.{◌≡◌, ℕ, zero, suc, ◌+◌, ◌*◌, ◌%◌, ◌<◌, Bool, true, false, List, [], ◌∷◌, length, take, drop, get_or, Option, Some, None, is_some, Result, Ok, Err, inl, inr, refl, sym, ap, ◌∙◌, arith, ◌&&◌}
use Rattle.std.specs.Prelude.{nat_eq, IsOk, IsSome, OnOk}
use Rattle.std.specs.Result.{is_ok, result_ok}
use Rattle.std.specs.List.{list_all}
use Rattle.std.specs.Option.{option_map, option_and_then, unwrap_or}
use Rattle.std.proofs.Math.Bool.{and-false}
use Rattle.std.proofs.Math.Nat.{add-mod_right}
use Rattle.std.proofs.lemmas.Bool.Decides.{nat_tests}
use Rattle.own_model.specs.Text.{hex_digit_of, bytes_of_hex, hex_bytes}
use Rattle.std.proofs.lemmas.Option.{same_Some}
use Rattle.std.proofs.lemmas.Bool.{cases_eq}
use Rattle.std.proofs.lemmas.List.Elements.{All-get_or}
use Rattle.own_model.proofs.NatMapLemmas.{none_of}
use Rattle.hex.specs.Hex.{decode_of, decode_pairs, digit_or_error, hex_digit_value, is_hex_digit, ◌>>=◌}
use Rattle.hex.specs.declared.error.FromHexError.{FromHexError}
use Rattle.hex.proofs.HexLemmas.{decode_of-even, decode_of-odd, decode_of-ok}

-- two digits and the bytes after them, if there are such
after_two : (high low : Option ℕ) (bytes : Option (List ℕ)) (even digits : Bool) → is_some bytes ≡ (even && digits) →
    is_some (option_and_then (λ byte. option_map (λ rest. byte ∷ rest) bytes) (option_and_then (λ h. option_map (λ l. h * 16 + l) low) high))
    ≡ (even && (is_some high && (is_some low && digits)))
after_two None low bytes even digits e = rw and-false
after_two (Some h) None bytes even digits e = rw and-false
after_two (Some h) (Some l) None even digits e = e
after_two (Some h) (Some l) (Some rest) even digits e = e

-- two more digits leave a count as even as it was
two_more : (n : ℕ) → suc (suc n) % 2 ≡ n % 2
two_more n = let more : suc (suc n) ≡ n + 2 = omega arith in rw more (add-mod_right n 2)

-- a text has bytes where it is an even number of digits
pub bytes_of_even : (text : List ℕ) → is_some (bytes_of_hex text) ≡ (nat_eq (length text % 2) 0 && list_all is_hex_digit text)
bytes_of_even [] = refl
bytes_of_even (digit ∷ []) = refl
bytes_of_even (high ∷ low ∷ rest) =
    let even : length (high ∷ low ∷ rest) % 2 ≡ length rest % 2 = two_more (length rest) in
    rw even (after_two (hex_digit_of high) (hex_digit_of low) (bytes_of_hex rest) _ _ (bytes_of_even rest))

-- a text that has bytes stands for them, and one that has none for nothing
pub bytes_found : (bytes : Option (List ℕ)) → is_some bytes ≡ true → bytes ≡ Some (unwrap_or bytes [])
bytes_found None some = absurd (cc)
bytes_found (Some bytes) some = refl

-- the value of a result that has one
pub ok_bytes : (r : Result (List ℕ) FromHexError) → IsOk r → (bytes : List ℕ) × (r ≡ Ok bytes)
ok_bytes (Ok bytes) ok = (bytes, refl)
ok_bytes (Err e) ok = absurd (cc)

-- and there is one alone
pub only_bytes : (r : Result (List ℕ) FromHexError) (a b : List ℕ) → r ≡ Ok a → r ≡ Ok b → a ≡ b
only_bytes r a b is_a is_b = same_Some a b (sym (ap result_ok is_a) ∙ ap result_ok is_b)

-- two digits and what is decoded behind them, as the kit has it and as the model has it
pair_read : (a b i : ℕ) (h l : Option ℕ) (r : Result (List ℕ) FromHexError) (o : Option (List ℕ)) → result_ok r ≡ o →
    result_ok ((digit_or_error a i h >>= (λ h. digit_or_error b (i + 1) l >>= (λ l. Ok (h * 16 + l)))) >>= (λ byte. r >>= (λ (bytes : List ℕ). Ok (byte ∷ bytes))))
    ≡ option_and_then (λ byte. option_map (λ (bytes : List ℕ). byte ∷ bytes) o) (option_and_then (λ h. option_map (λ l. h * 16 + l) l) h)
pair_read a b i None l r o e = refl
pair_read a b i (Some h) None r o e = refl
pair_read a b i (Some h) (Some l) (Ok bytes) o e = ap (option_map (λ (bytes : List ℕ). (h * 16 + l) ∷ bytes)) e
pair_read a b i (Some h) (Some l) (Err x) o e = ap (option_map (λ (bytes : List ℕ). (h * 16 + l) ∷ bytes)) e

pairs_read : (i : ℕ) (text : List ℕ) → result_ok (decode_pairs i text) ≡ bytes_of_hex text
unfolding decode_pairs
pairs_read i [] = refl
pairs_read i (digit ∷ []) = refl
pairs_read i (high ∷ low ∷ rest) =
    pair_read high low i (hex_digit_value high) (hex_digit_value low) (decode_pairs (i + 2) rest) (bytes_of_hex rest) (pairs_read (i + 2) rest)

-- the kit decodes a text to the bytes of the model
pub decoded : (text : List ℕ) → result_ok (decode_of text) ≡ bytes_of_hex text
decoded text =
    elim (cases_eq (length text % 2) 1) [
      | inl odd ↦ rw (decode_of-odd text odd) (sym (none_of (bytes_of_hex text) (bytes_of_even text ∙ rw odd refl)))
      | inr other ↦ let even : length text % 2 ≡ 0 = omega arith in ap result_ok (decode_of-even text even) ∙ pairs_read 0 text
    ]

-- what has a value has one for the kit and for the model
some_ok : (r : Result (List ℕ) FromHexError) (o : Option (List ℕ)) → result_ok r ≡ o → is_ok r ≡ is_some o
some_ok (Ok bytes) o e = ap is_some e
some_ok (Err x) o e = ap is_some e

-- a text decodes where it has bytes
pub decodes_alike : (text : List ℕ) → is_ok (decode_of text) ≡ is_some (bytes_of_hex text)
decodes_alike text = some_ok (decode_of text) (bytes_of_hex text) (decoded text)

-- so a text that decodes has bytes, and one that doesn't has none
pub bytes_there : (text : List ℕ) → is_ok (decode_of text) ≡ true → bytes_of_hex text ≡ Some (hex_bytes text)
bytes_there text ok = bytes_found (bytes_of_hex text) (sym (decodes_alike text) ∙ ok)

pub no_bytes_there : (text : List ℕ) → is_ok (decode_of text) ≡ false → bytes_of_hex text ≡ None
no_bytes_there text other = none_of (bytes_of_hex text) (sym (decodes_alike text) ∙ other)

pub ruleset read_bytes = (bytes_there, no_bytes_there, nat_tests)

-- what a text decodes to are its bytes
pub bytes_decoded : (text bytes : List ℕ) → decode_of text ≡ Ok bytes → bytes_of_hex text ≡ Some bytes
bytes_decoded text bytes is = sym (decoded text) ∙ ap result_ok is

ok_of : (r : Result (List ℕ) FromHexError) (bytes : List ℕ) → result_ok r ≡ Some bytes → r ≡ Ok bytes
ok_of (Ok other) bytes e = ap Ok (same_Some other bytes e)
ok_of (Err x) bytes e = absurd (cc)

pub decoded_bytes : (text bytes : List ℕ) → bytes_of_hex text ≡ Some bytes → decode_of text ≡ Ok bytes
decoded_bytes text bytes is = ok_of (decode_of text) bytes (decoded text ∙ is)

-- so a caller decodes the bytes of the model
pub decodes : (text : List ℕ) → bytes_of_hex text ≡ Some (hex_bytes text) → IsOk (decode_of text)
decodes text some = decodes_alike text ∙ ap is_some some

pub decoded_are : (text bytes : List ℕ) → decode_of text ≡ Ok bytes → bytes ≡ hex_bytes text
decoded_are text bytes is = ap (λ o. unwrap_or o []) (sym (bytes_decoded text bytes is))

pub ruleset decodings = (decodes, decoded_are)

-- what holds where the kit wrote all digits, and it did
pub when_ok : (r : Result (Unit {0}) FromHexError) (P : Type 0) → IsOk r → OnOk r P → P
when_ok (Ok tt) P ok holds = holds
when_ok (Err e) P ok holds = absurd (cc)

-- a text that decodes is an even number of digits
pub are_digits : (text : List ℕ) → IsOk (decode_of text) → (length text % 2 ≡ 0) × ((i : ℕ) → i < length text → IsSome (hex_digit_value (get_or text i 0)))
are_digits text ok =
    let bytes = ok_bytes (decode_of text) ok in
    let all = decode_of-ok text bytes.0 bytes.1 in
    (all.0, λ i within. All-get_or (λ digit. is_hex_digit digit ≡ true) text i 0 within all.1)

-- and each such text does
pub decodes_even : (text : List ℕ) → is_ok (decode_of text) ≡ (nat_eq (length text % 2) 0 && list_all is_hex_digit text)
decodes_even text = decodes_alike text ∙ bytes_of_even text

pub ruleset even_digits = (decodes_even, nat_tests)

-- two digits and the rest
pub record Parts (h l : Option ℕ) (r : Option (List ℕ)) (bytes : List ℕ) : Type 0 where
  -- the values of the two digits, and the bytes of the rest
  pub high : ℕ
  pub low : ℕ
  pub rest : List ℕ
  pub is_high : h ≡ Some high
  pub is_low : l ≡ Some low
  pub is_rest : r ≡ Some rest
  pub all : bytes ≡ (high * 16 + low) ∷ rest

-- where two digits and the rest give bytes, each of them has a value
pub parts : (h l : Option ℕ) (r : Option (List ℕ)) (bytes : List ℕ) →
    option_and_then (λ byte. option_map (λ (bytes : List ℕ). byte ∷ bytes) r) (option_and_then (λ h. option_map (λ l. h * 16 + l) l) h) ≡ Some bytes → Parts h l r bytes
parts None l r bytes is = absurd (cc)
parts (Some h) None r bytes is = absurd (cc)
parts (Some h) (Some l) None bytes is = absurd (cc)
parts (Some h) (Some l) (Some rest) bytes is = record { high = h; low = l; rest = rest; is_high = refl; is_low = refl; is_rest = refl; all = cc }

-- the bytes from one on are those of the digits from a pair on
bytes_from : (i : ℕ) (text bytes : List ℕ) → bytes_of_hex text ≡ Some bytes → bytes_of_hex (drop (2 * i) text) ≡ Some (drop i bytes)
bytes_from zero text bytes is = is
bytes_from (suc i) [] bytes is = let two : 2 * suc i ≡ suc (suc (2 * i)) = omega arith in rw (two, ← same_Some [] bytes is) refl
bytes_from (suc i) (digit ∷ []) bytes is = absurd (cc)
bytes_from (suc i) (high ∷ low ∷ rest) bytes is =
    let p = parts (hex_digit_of high) (hex_digit_of low) (bytes_of_hex rest) bytes is in
    let two : 2 * suc i ≡ suc (suc (2 * i)) = omega arith in
    rw (two, p.all) (bytes_from i rest p.rest p.is_rest)

-- two digits before so many bytes of the rest
taken_by : (n : ℕ) (h l : Option ℕ) (r some : Option (List ℕ)) (bytes : List ℕ) → ((rest : List ℕ) → r ≡ Some rest → some ≡ Some (take n rest)) →
    option_and_then (λ byte. option_map (λ (bytes : List ℕ). byte ∷ bytes) r) (option_and_then (λ h. option_map (λ l. h * 16 + l) l) h) ≡ Some bytes →
    option_and_then (λ byte. option_map (λ (bytes : List ℕ). byte ∷ bytes) some) (option_and_then (λ h. option_map (λ l. h * 16 + l) l) h) ≡ Some (take (suc n) bytes)
taken_by n None l r some bytes later is = absurd (cc)
taken_by n (Some h) None r some bytes later is = absurd (cc)
taken_by n (Some h) (Some l) None some bytes later is = absurd (cc)
taken_by n (Some h) (Some l) (Some rest) some bytes later is = rw (later rest refl, ← same_Some ((h * 16 + l) ∷ rest) bytes is) refl

-- so many bytes are those of so many pairs
bytes_up_to : (n : ℕ) (text bytes : List ℕ) → bytes_of_hex text ≡ Some bytes → bytes_of_hex (take (2 * n) text) ≡ Some (take n bytes)
bytes_up_to zero text bytes is = refl
bytes_up_to (suc n) [] bytes is = let two : 2 * suc n ≡ suc (suc (2 * n)) = omega arith in rw (two, ← same_Some [] bytes is) refl
bytes_up_to (suc n) (digit ∷ []) bytes is = absurd (cc)
bytes_up_to (suc n) (high ∷ low ∷ rest) bytes is =
    let two : 2 * suc n ≡ suc (suc (2 * n)) = omega arith in
    rw two (taken_by n (hex_digit_of high) (hex_digit_of low) (bytes_of_hex rest) _ bytes (bytes_up_to n rest) is)

-- so many bytes from one on
pub bytes_within : (i n : ℕ) (text all : List ℕ) → decode_of text ≡ Ok all → decode_of (take (2 * n) (drop (2 * i) text)) ≡ Ok (take n (drop i all))
bytes_within i n text all is =
    decoded_bytes _ _ (bytes_up_to n (drop (2 * i) text) (drop i all) (bytes_from i text all (bytes_decoded text all is)))
