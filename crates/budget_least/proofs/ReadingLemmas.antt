-- Readings, line by line.
use Rattle.std.proofs.Common.{arith, ◌≡◌, ℕ, ◌≤◌, ◌&&◌, Bool, true, false, List, [], length, map, refl, sym, ap, subst, ◌∙◌}
use Rattle.std.proofs.lemmas.Bool.Decides.{nat_tests}
use Rattle.std.specs.Prelude.{if◌then◌else◌, nat_le, not, Option, Some, None}
use Rattle.std.specs.Borrow.{Bor}
use Rattle.std.specs.List.{position, slice_get}
use Rattle.std.specs.Option.{unwrap_or}
use Rattle.std.specs.Str.{bytes_eq}
use Rattle.own_model.specs.Call.{Call, Spoken, parsed_call}
use Rattle.own_model.specs.Transcript.{longest_line}
use Rattle.line_grammar.specs.Read.{spoken_as, IsReadAs}
use Rattle.line_grammar.specs.declared.line.NamedCall.{NamedCall}
use Rattle.line_names.specs.Filling.{FilledLine}
use Rattle.line_steps.specs.ResolvedLines.{ResolvedLine, is_unread}
use Rattle.line_steps.specs.ResolvedLines.ResolvedLine.{Follow, Call as CallLine}
use Rattle.budget_least.specs.BoundRuns.{BoundRun, IsAnsweredIf}
use Rattle.budget_least.specs.ComponentLines.{expects_refusal, leaving, said_in, IsAdded, IsAddedBy, IsTaken, Reading}

within : (a b : ℕ) → a ≤ b → nat_le a b ≡ true
within a b le = grind (arith, nat_tests, le)

-- the call that a line says
pub said_some : (line : List ℕ) (said : NamedCall) → IsReadAs line (Some said) → said_in line ≡ Some (spoken_as said)
said_some line said read = ap (λ b. if b then parsed_call line else None) (within (length line) longest_line read.short) ∙ read.says

-- a call is added by the component that it names, or by none
module _ (number : ℕ) (filled : FilledLine) (line : List ℕ) (reply : Option (List ℕ)) (old new : Reading) where
  pub added_by : (says : Option Spoken) (said : Spoken) (component : Option ℕ) → says ≡ Some said →
      component ≡ position (λ entry. bytes_eq entry.path said.name) old.run.list.entries → IsAddedBy number filled line reply said component old new →
      IsAdded number filled line reply says old new
  added_by says said component is named so =
      subst (λ s. IsAdded number filled line reply s old new) (sym is) (subst (λ c. IsAddedBy number filled line reply said c old new) named so)

-- the bytes of lines
abbrev pub bytes_of : List (Bor (List ℕ)) → List (List ℕ)
bytes_of lines = map (λ line. line.now) lines

-- ---- the list of a run stays

answered_list : (binds : Bool) (component place : ℕ) (call : Call) (filled : FilledLine) (old new : BoundRun) → IsAnsweredIf binds component place call filled old new →
    new.list ≡ old.list
answered_list true component place call filled old new is = ap (λ (r : BoundRun). r.list) is.1.1
answered_list false component place call filled old new is = ap (λ (r : BoundRun). r.list) is

added_list : (number : ℕ) (filled : FilledLine) (line : List ℕ) (reply : Option (List ℕ)) (says : Option Spoken) (old new : Reading) → IsAdded number filled line reply says old new →
    new.run.list ≡ old.run.list
added_list number filled line reply None old new is = ap (λ (r : Reading). r.run.list) is
added_list number filled line reply (Some said) old new is = by (position (λ entry. bytes_eq entry.path said.name) old.run.list.entries) is
  where
    by : (component : Option ℕ) → IsAddedBy number filled line reply said component old new → new.run.list ≡ old.run.list
    by None so = ap (λ (r : Reading). r.run.list) so
    by (Some component) so =
        answered_list (old.run.binds && not (expects_refusal reply)) component (length (unwrap_or (slice_get old.lines component) [])) said.call filled old.run new.run so.1.1

left_list : (unread : Bool) (number : ℕ) (old : Reading) → (leaving unread number old).run.list ≡ old.run.list
left_list true number old = refl
left_list false number old = refl

-- after a resolved line it is the same
pub taken_list : (number : ℕ) (resolved : ResolvedLine) (old new : Reading) → IsTaken number resolved old new → new.run.list ≡ old.run.list
taken_list number (Follow directive) old new is = ap (λ (r : Reading). r.run.list) is
taken_list number (CallLine filled line reply) old new is = added_list number filled line reply (said_in line) old new is
taken_list number resolved old new is = ap (λ (r : Reading). r.run.list) is ∙ left_list (is_unread resolved) number old
