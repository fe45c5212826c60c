-- The first and the last byte of a text that has none.
use Rattle.std.proofs.Common.{◌≡◌, ℕ, ◌+◌, ◌-◌, ◌<◌, ◌≤◌, false, nat_eq, is_some, inl, inr, List, [], ◌∷◌, length, slice_index, Option, Some, None, refl, sym, ap, ◌∙◌, arith}
use Rattle.std.specs.Option.{option_map, option_or}
use Rattle.std.proofs.lemmas.Option.{none-some}
use Rattle.std.proofs.lemmas.Bool.Decides.{nat_tests}
use Rattle.own_model.specs.Call.{parsed_call}
use Rattle.own_model.specs.Transcript.{longest_line}
use Rattle.line_grammar.specs.Read.{IsReadAs}
use Rattle.line_grammar.specs.declared.line.NamedCall.{NamedCall}
use Rattle.line_friendly.specs.Friendly.{fault_behind, fault_in, said_escaped, said_of_line}
use Rattle.line_friendly.specs.CallParts.{CallTail, parts_of, spelled}
use Rattle.line_friendly.specs.CallFault.{has_small_unit}
use Rattle.line_friendly.specs.LineText.{added}

pub first_of_none : (text : List ℕ) (byte : ℕ) → length text ≡ 0 → 0 < byte → nat_eq (slice_index text 0) byte ≡ false
first_of_none [] byte none some = grind (arith, nat_tests)
first_of_none (b ∷ bs) byte none some = absurd (omega (arith, none))

pub last_of_none : (text : List ℕ) (byte : ℕ) → length text ≡ 0 → 0 < byte → nat_eq (slice_index text (length text - 1)) byte ≡ false
last_of_none [] byte none some = grind (arith, nat_tests)
last_of_none (b ∷ bs) byte none some = absurd (omega (arith, none))

-- a call without a fault says what its line says
pub call_says : (column : ℕ) (call : List ℕ) (reply : Option (List ℕ)) (tail : CallTail) (found : Option ℕ) (line : Option (List ℕ)) →
    tail ≡ (parts_of call).tail → found ≡ option_map (λ n. column + n) (option_or (fault_in (length call) tail) (fault_behind (length call + 4) reply)) →
    found ≡ None → line ≡ added (Some []) (spelled (parts_of call)) → said_of_line column call line reply ≡ said_escaped column call reply
call_says column call reply tail found line tails finds none lines =
    let same : option_or (fault_in (length call) tail) (fault_behind (length call + 4) reply) ≡ None =
    nothing (option_or (fault_in (length call) tail) (fault_behind (length call + 4) reply)) (sym finds ∙ none) in
    let empty : option_or (fault_in (length call) (parts_of call).tail) (fault_behind (length call + 4) reply) ≡ None =
    ap (λ t. option_or (fault_in (length call) t) (fault_behind (length call + 4) reply)) (sym tails) ∙ same in
    rw (lines, empty) refl
  where
    nothing : (place : Option ℕ) → option_map (λ n. column + n) place ≡ None → place ≡ None
    nothing None is = refl
    nothing (Some n) is = absurd (none-some (column + n) (sym is))

-- no unit ends a word that has no byte
pub no_unit : (word : List ℕ) → length word ≡ 0 → has_small_unit word ≡ false
no_unit [] none = refl
no_unit (b ∷ bs) none = absurd (omega (arith, none))

-- a line that isn't too long is read as a call where it says one
pub read_where_said : (line : List ℕ) (call : Option NamedCall) → IsReadAs line call → length line ≤ longest_line → is_some call ≡ is_some (parsed_call line)
read_where_said line (Some said) reads short = sym (ap is_some reads.says)
read_where_said line None (inl long) short = absurd (omega (arith, long, short))
read_where_said line None (inr none) short = sym (ap is_some none)
