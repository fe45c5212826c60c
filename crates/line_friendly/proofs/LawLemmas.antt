-- What comes of a line is a call, or is expected to be none.
use Rattle.std.proofs.Common.{◌≡◌, ℕ, ◌+◌, ◌-◌, ◌||◌, Bool, true, false, cond, nat_eq, slice_index, is_some, List, [], length, drop, Option, Some, None, Result, Ok, Err, refl, sym, ap, ◌∙◌, subst, codes}
use Rattle.std.specs.List.{starts_with}
use Rattle.std.specs.Option.{option_map_or, option_or, unwrap_or}
use Rattle.own_model.specs.Call.{parsed_call}
use Rattle.line_friendly.specs.Friendly.{FriendlyLine, call_part, expects_bad_line, fault_behind, fault_in, no_call, reply_part, said_escaped, said_of, said_of_both, said_of_call, said_of_line, said_of_signs, said_of_text, trimmed_line, without_comment, without_meant, without_return}
use Rattle.line_friendly.specs.Friendly.FriendlyLine.{Nothing, Log, Call}
use Rattle.line_friendly.specs.Theorems.{CallsAreCalls, IsCallOrExpected}
use Rattle.line_friendly.specs.CallParts.{parts_of, spelled}
use Rattle.line_friendly.specs.Quotes.{after_text, first_stray, is_outside}
use Rattle.line_friendly.specs.LineText.{added}
use Rattle.line_friendly.specs.declared.fault.FriendlyFault.{FriendlyFault}
use Rattle.line_friendly.specs.declared.quotes.QuoteState.TheVariants.{Outside}

-- what is said is a call of the grammar, where it is a call
abbrev Holds : Result FriendlyLine FriendlyFault → Type 0
Holds said = (line : List ℕ) (reply : Option (List ℕ)) → said ≡ Ok (Call line reply) → IsCallOrExpected line reply

of_fault : (fault : FriendlyFault) → Holds (Err fault)
of_fault fault line reply is = cc

of_held : (l : List ℕ) (expected : Option (List ℕ)) → IsCallOrExpected l expected → Holds (Ok (Call l expected))
of_held l expected holds line reply is =
    let lines : l ≡ line = cc in
    let replies : expected ≡ reply = cc in
    subst (λ r. IsCallOrExpected line r) replies (subst (λ x. IsCallOrExpected x expected) lines holds)

of_line : (column : ℕ) (call : List ℕ) (held expected : Option (List ℕ)) → Holds (said_of_line column call held expected)
of_line column call None expected = of_fault _
of_line column call (Some l) expected =
    elim (is_some (parsed_call l) || expects_bad_line expected) as (λ b. (is_some (parsed_call l) || expects_bad_line expected) ≡ b → Holds (cond b (Ok (Call l expected)) (Err (no_call column call)))) [
      | true ↦ λ holds. of_held l expected holds
      | false ↦ λ none. of_fault _
    ] refl

of_place : (column : ℕ) (place : Option ℕ) (said : Result FriendlyLine FriendlyFault) (fault : ℕ → FriendlyFault) → Holds said → Holds (option_map_or (λ n. Err (fault n)) place said)
of_place column None said fault holds = holds
of_place column (Some n) said fault holds = of_fault (fault n)

of_escaped : (column : ℕ) (call : List ℕ) (expected : Option (List ℕ)) → Holds (said_escaped column call expected)
of_escaped column call expected =
    of_place column (option_or (fault_in (length call) (parts_of call).tail) (fault_behind (length call + 4) expected)) (said_of_line column call (added (Some []) (spelled (parts_of call))) expected) _
    (of_line column call (added (Some []) (spelled (parts_of call))) expected)

of_call : (column : ℕ) (call : List ℕ) (expected : Option (List ℕ)) → Holds (said_of_call column call expected)
of_call column call expected = of_place column (first_stray Outside call) (said_escaped column call expected) _ (of_escaped column call expected)

of_choice : (test : Bool) (x y : Result FriendlyLine FriendlyFault) → Holds x → Holds y → Holds (cond test x y)
of_choice true x y hx hy = hx
of_choice false x y hx hy = hy

of_nothing : Holds (Ok Nothing)
of_nothing line reply is = cc

of_log : (text : List ℕ) → Holds (Ok (Log text))
of_log text line reply is = cc

of_both : (column : ℕ) (text : List ℕ) → Holds (said_of_both column text)
of_both column text = of_choice (is_outside (after_text Outside text)) _ _ (of_call column (call_part text) (reply_part text)) (of_fault _)

of_text : (column : ℕ) (text : List ℕ) → Holds (said_of_text column text)
of_text column text =
    of_choice _ _ _ of_nothing (of_choice _ _ _ (of_log _) (of_both column (without_meant (without_comment text))))

pub calls_are_calls : CallsAreCalls
calls_are_calls whole line reply unmarked is =
    of_text (length whole - length (trimmed_line whole) + 1) (without_return (trimmed_line whole)) line reply
    (ap (λ b. cond b (Ok (Call (drop 1 (trimmed_line whole)) None)) (said_of_text (length whole - length (trimmed_line whole) + 1) (without_return (trimmed_line whole)))) (sym unmarked) ∙ is)
