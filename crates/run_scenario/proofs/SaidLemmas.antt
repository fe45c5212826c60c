-- What a line says of which something was read.
use Rattle.std.proofs.Common.{◌≡◌, ℕ, ◌<◌, ◌≤◌, Bool, true, false, cond, nat_le, List, length, Option, Some, None, inl, inr, refl, arith}
use Rattle.std.proofs.lemmas.Bool.Decides.{nat_tests}
use Rattle.own_model.specs.Call.{Spoken, parsed_call}
use Rattle.own_model.specs.Transcript.{longest_line}
use Rattle.line_grammar.specs.Read.{IsNoCall, Reads, spoken_as}
use Rattle.line_grammar.specs.declared.line.NamedCall.{NamedCall}
use Rattle.run_scenario.specs.Said.{said_in}

-- a line's length is tested
pub is_short : (n : ℕ) → n ≤ longest_line → nat_le n longest_line ≡ true
is_short n short = grind (arith, nat_tests)

pub is_long : (n : ℕ) → longest_line < n → nat_le n longest_line ≡ false
is_long n long = grind (arith, nat_tests)

unless_some : (t : Bool) (says : Option Spoken) → says ≡ None → cond t says None ≡ None
unless_some true says none = none
unless_some false says none = refl

-- its call
pub says_read : (line : List ℕ) (call : NamedCall) → Reads line call → said_in line ≡ Some (spoken_as call)
says_read line call reads = rw (is_short (length line) reads.short) reads.says

-- or nothing
pub says_none : (line : List ℕ) → IsNoCall line → said_in line ≡ None
says_none line (inl long) = rw (is_long (length line) long) refl
says_none line (inr none) = unless_some (nat_le (length line) longest_line) (parsed_call line) none

pub ruleset says = (says_read, says_none)
