-- The calls that lines of a script make.
use Rattle.std.specs.Prelude.{ℕ, Bool, true, false, List, [], ◌∷◌, slice_get, Option, Some, None}
use Rattle.std.specs.List.{list_any}
use Rattle.std.specs.Option.{option_map, option_map_or}
use Rattle.own_model.specs.Call.{Call, parsed_call}
use Rattle.own_model.specs.Call.Call.{Open, Exit}
use Rattle.budget_search.specs.declared.component_line.ComponentLine.{ComponentLine}

-- a call with other arguments, if it opens a session
abbrev pub with_args : Option (List ℕ) → Call → Call
with_args (Some args) (Open service text) = Open service args
with_args args call = call

-- the call that a line makes, if it makes one
abbrev pub call_said : List ℕ → Option Call
call_said line = option_map (λ said. said.call) (parsed_call line)

-- the call that is written in a line, and the one that the line makes, with the arguments that were set for it
abbrev pub call_written : ComponentLine → Option Call
call_written step = call_said step.line.items

abbrev pub call_of : ComponentLine → Option Call
call_of step = option_map (with_args (option_map (λ args. args.items) step.args)) (call_said step.line.items)

-- the number of a line, whether it is left out, and whether the refusal that it expects may be a shortage of quota
pub record Mark : Type 0 where
  pub number : ℕ
  pub left_out : Bool
  pub may_be_short : Bool

abbrev pub mark_of : ComponentLine → Mark
mark_of step = record { number = step.number; left_out = step.is_left_out; may_be_short = step.may_be_short }

-- whether a line is left out
abbrev pub any_left_out : List ComponentLine → Bool
any_left_out steps = list_any (λ step. step.is_left_out) steps

-- the number of the scenario's line for the line at a place
abbrev pub number_at : List ComponentLine → ℕ → ℕ
number_at steps place = option_map_or (λ step. step.number) (slice_get steps place) 0

-- the calls of a line and of those after it: a line that is left out makes none, and an exit ends them
abbrev pub calls_with : Bool → Option Call → List Call → List Call
calls_with left_out None rest = rest
calls_with true (Some call) rest = rest
calls_with false (Some Exit) rest = []
calls_with false (Some call) rest = call ∷ rest

abbrev pub calls_of : List ComponentLine → List Call
calls_of [] = []
calls_of (step ∷ steps) = calls_with step.is_left_out (call_of step) (calls_of steps)
