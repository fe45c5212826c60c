-- A line in place of the one that was run is resolved as that one was.
use Rattle.std.proofs.Common.{◌≡◌, ℕ, ◌+◌, ◌-◌, ◌&&◌, true, false, true≢false, nat_eq, nat_le, is_none, List, [], ◌∷◌, ◌++◌, length, take, drop, slice_index, codes, append-nil, append_assoc, Option, Some, None, Result, Ok, Err, refl, sym, ap, ◌∙◌, arith, length-append}
use Rattle.std.specs.Option.{option_copied, unwrap_or}
use Rattle.std.specs.Str.{bytes_eq}
use Rattle.std.proofs.lemmas.Bool.Decides.{nat_tests}
use Rattle.std.proofs.lemmas.Bool.{and_parts}
use Rattle.std.proofs.lemmas.Slice.Eq.{bytes_eq-Decides}
use Rattle.std.proofs.Math.Seq.{drop-length, take-length}
use Rattle.own_model.specs.Transcript.{longest_line}
use Rattle.line_friendly.specs.Expected.{meets}
use Rattle.line_friendly.specs.Friendly.{FriendlyLine, arrow_of, end_of, said_of, trimmed_line, without_comment, without_meant, without_return}
use Rattle.line_friendly.specs.Friendly.FriendlyLine.{Nothing as NoContent, Log as LogContent, Call as CallContent}
use Rattle.line_friendly.specs.declared.fault.FriendlyFault.{FriendlyFault}
use Rattle.line_names.specs.Directives.{directive_of}
use Rattle.line_names.specs.Filling.{FilledLine, whole}
use Rattle.line_names.specs.NameTable.{NameTable}
use Rattle.line_names.proofs.LawLemmas.{plain_lines_stay}
use Rattle.line_steps.specs.ResolvedLines.{resolved_by, resolved_content, resolved_filled, resolved_line}
use Rattle.line_steps.specs.ResolvedLines.ResolvedLine.{Call}
use Rattle.run_record.specs.Bare.{is_bare, is_bare_line, is_bare_with, is_expected}
use Rattle.run_record.specs.RecordedCalls.{RecordedCall}
use Rattle.run_record.specs.Recorded.{call_end, expecting, holds, is_met, is_met_by}
use Rattle.run_record.specs.Views.{IsOfLine, recorded_call_view}
use Rattle.run_record.specs.declared.recorded_call.RecordedCall.{RecordedCall as Heard}
use Rattle.run_record.proofs.BareLemmas.{HasNoSigns, arrow_none, bare_said, content, ending, expected_line, has_none, nowhere, trimmed_is, whole_has_none}

-- ---- a line without signs

no_directive : (text : List ℕ) → HasNoSigns text → directive_of text ≡ None
no_directive text signs =
    let other : nat_eq (slice_index (trimmed_line text) 0) 64 ≡ false = ap (λ s. nat_eq (slice_index s 0) 64) (trimmed_is text signs) ∙ signs.undirected in
    rw other refl

resolves : (known : NameTable) (text : List ℕ) → HasNoSigns text → nat_le (length text) longest_line ≡ true →
    resolved_line None known text ≡ resolved_content known text (whole text) (said_of text)
resolves known text signs fits =
    rw fits
    (ap (resolved_by known text) (plain_lines_stay known text (nowhere 36 text signs.no_dollar))
    ∙ ap (resolved_filled known text (whole text)) (no_directive text signs))

-- what a line says that is resolved as a call without an expected reply
said_back : (known : NameTable) (line call : List ℕ) (made : FilledLine) (said : Result FriendlyLine FriendlyFault) →
    resolved_content known line (whole line) said ≡ Call made call None → said ≡ Ok (CallContent call None)
said_back known line call made (Ok NoContent) is = cc
said_back known line call made (Ok (LogContent text)) is = cc
said_back known line call made (Ok (CallContent other reply)) is = cc
said_back known line call made (Err fault) is = cc

shorter : (line reply : List ℕ) → nat_le (length line + 4 + length reply) longest_line ≡ true → nat_le (length line) longest_line ≡ true
shorter line reply fits = grind (arith, nat_tests)

whole_fits : (line reply : List ℕ) → nat_le (length line + 4 + length reply) longest_line ≡ true → nat_le (length (expected_line line reply)) longest_line ≡ true
whole_fits line reply fits =
    let long : length (expected_line line reply) ≡ length line + 4 + length reply = omega (arith, length-append line (32 ∷ 61 ∷ 62 ∷ 32 ∷ reply)) in
    ap (λ n. nat_le n longest_line) long ∙ fits

bare_resolves : (known : NameTable) (line reply call : List ℕ) (made : FilledLine) → is_bare_line line ≡ true → is_bare reply ≡ true →
    nat_le (length line + 4 + length reply) longest_line ≡ true → resolved_line None known line ≡ Call made call None →
    resolved_line None known (expected_line line reply) ≡ Call (whole (expected_line line reply)) call (Some reply)
bare_resolves known line reply call made is expected fits resolved =
    let says : said_of line ≡ Ok (CallContent call None) =
    said_back known line call made (said_of line) (sym (resolves known line (has_none line is) (shorter line reply fits)) ∙ resolved) in
    resolves known (expected_line line reply) (whole_has_none line reply is expected) (whole_fits line reply fits)
    ∙ ap (resolved_content known (expected_line line reply) (whole (expected_line line reply))) (bare_said line reply call is expected says)

-- ---- the line as it is written

all_left : (n : ℕ) → n - n + n ≡ n
all_left n = omega arith

ends_whole : (line : List ℕ) → HasNoSigns line → end_of line ≡ length line
ends_whole line signs =
    ap (λ s. length line - length s + length (without_meant (without_comment (without_return s)))) (trimmed_is line signs)
    ∙ ap (λ s. length line - length line + length (without_meant (without_comment s))) (ending line signs)
    ∙ ap (λ s. length line - length line + length s) (content line signs)
    ∙ all_left (length line)

call_ends_whole : (line : List ℕ) → is_bare_line line ≡ true → call_end line ≡ length line
call_ends_whole line is =
    ap (λ n. unwrap_or (arrow_of (take n line)) n) (ends_whole line (has_none line is))
    ∙ ap (λ t. unwrap_or (arrow_of t) (length line)) (take-length line)
    ∙ ap (λ o. unwrap_or o (length line)) (arrow_none line is)

expecting_is : (line reply : List ℕ) → is_bare_line line ≡ true → expecting line reply ≡ expected_line line reply
unfolding expecting
expecting_is line reply is =
    let last : line ++ codes " => " ++ reply ++ [] ≡ expected_line line reply =
    append-nil (line ++ codes " => " ++ reply) ∙ append_assoc line (codes " => ") reply in
    ap (λ n. take n line ++ codes " => " ++ reply ++ drop (end_of line) line) (call_ends_whole line is)
    ∙ ap (λ t. t ++ codes " => " ++ reply ++ drop (end_of line) line) (take-length line)
    ∙ ap (λ n. line ++ codes " => " ++ reply ++ drop n line) (ends_whole line (has_none line is))
    ∙ ap (λ t. line ++ codes " => " ++ reply ++ t) (drop-length line)
    ∙ last

-- ---- whether it holds

bare_met : (hearing : RecordedCall) (line reply : List ℕ) (made : FilledLine) → is_bare_line line ≡ true → is_bare reply ≡ true →
    nat_le (length line + 4 + length reply) longest_line ≡ true → resolved_line None hearing.known line ≡ Call made hearing.call None →
    is_met hearing (expecting line reply) ≡ meets hearing.reply reply
bare_met hearing line reply made is expected fits resolved =
    ap (λ l. is_met_by hearing (resolved_line None hearing.known l)) (expecting_is line reply is)
    ∙ ap (is_met_by hearing) (bare_resolves hearing.known line reply hearing.call made is expected fits resolved)
    ∙ ap (λ t. t && meets hearing.reply reply) ((bytes_eq-Decides hearing.call hearing.call).1 refl)

no_expected : (expected : Option (List ℕ)) → is_none expected ≡ true → expected ≡ None
no_expected None none = refl
no_expected (Some reply) none = absurd (true≢false (sym none))

pub bare_holds : (heard : Heard) (lines line reply : List ℕ) → IsOfLine heard →
    is_bare_with (option_copied heard.expected) heard.line.now line reply ≡ true →
    (bytes_eq heard.lines.now lines && meets heard.reply.now reply) ≡ holds lines (expecting line reply) (recorded_call_view heard)
unfolding holds
bare_holds heard lines line reply of_line bare =
    let front : (is_none (option_copied heard.expected) && bytes_eq line heard.line.now) ≡ true = (and_parts _ _ bare).0 in
    let behind : (nat_le (length line + 4 + length reply) longest_line && (is_bare_line line && is_bare reply)) ≡ true = (and_parts _ _ bare).1 in
    let fits : nat_le (length line + 4 + length reply) longest_line ≡ true = (and_parts _ _ behind).0 in
    let both : (is_bare_line line && is_bare reply) ≡ true = (and_parts _ _ behind).1 in
    let run : line ≡ heard.line.now = (bytes_eq-Decides line heard.line.now).0 (and_parts _ _ front).1 in
    let none : option_copied heard.expected ≡ None = no_expected (option_copied heard.expected) (and_parts _ _ front).0 in
    let resolved : resolved_line None heard.known.now line ≡ Call of_line.0 heard.call.now None =
    ap (resolved_line None heard.known.now) run ∙ of_line.1 ∙ ap (Call of_line.0 heard.call.now) none in
    ap (λ t. bytes_eq heard.lines.now lines && t)
    (sym (bare_met (recorded_call_view heard) line reply of_line.0 (and_parts _ _ both).0 (and_parts _ _ both).1 fits resolved))

-- the line that was run
expects_by : (hearing : RecordedCall) (made : FilledLine) (expected : Option (List ℕ)) → is_expected hearing.reply expected ≡ is_met_by hearing (Call made hearing.call expected)
expects_by hearing made None = refl
expects_by hearing made (Some reply) = sym (ap (λ t. t && meets hearing.reply reply) ((bytes_eq-Decides hearing.call hearing.call).1 refl))

pub run_met : (heard : Heard) (line : List ℕ) → IsOfLine heard → bytes_eq line heard.line.now ≡ true →
    is_expected heard.reply.now (option_copied heard.expected) ≡ is_met (recorded_call_view heard) line
run_met heard line of_line same =
    let run : line ≡ heard.line.now = (bytes_eq-Decides line heard.line.now).0 same in
    expects_by (recorded_call_view heard) of_line.0 (option_copied heard.expected)
    ∙ ap (is_met_by (recorded_call_view heard)) (sym of_line.1)
    ∙ ap (λ l. is_met_by (recorded_call_view heard) (resolved_line None heard.known.now l)) (sym run)
