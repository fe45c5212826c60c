-- The lines of a component as a report changes and compares them.
use Rattle.std.specs.Prelude.{◌≡◌, ℕ, List, if◌then◌else◌, Option, Some, None}
use Rattle.std.specs.Option.{option_map, option_map_or}
use Rattle.own_model.specs.Amounts.{Amounts}
use Rattle.own_model.specs.Call.{Call}
use Rattle.own_model.specs.Call.Call.{Open}
use Rattle.budget_meter.specs.Needs.{amounts_of}
use Rattle.budget_search.specs.Donations.{donated_text}
use Rattle.budget_search.specs.Steps.{call_said}
use Rattle.budget_search.specs.declared.component_line.ComponentLine.{ComponentLine}

-- two lines are the same line of the scenario, and make the same call or are left out
pub record IsSameLine (one other : ComponentLine) : Type 0 where
  pub number : one.number ≡ other.number
  pub left_out : one.is_left_out ≡ other.is_left_out
  pub text : one.line.items ≡ other.line.items

-- the arguments with which a call opens a session
abbrev pub opening_args : Option Call → Option (List ℕ)
opening_args (Some (Open service args)) = Some args
opening_args call = None

-- the written arguments of a line that can be written with another donation
abbrev pub args_to_change : ComponentLine → Option (List ℕ)
args_to_change step = if step.can_donate then opening_args (call_said step.line.items) else None

-- the arguments of a line that differ from the written ones
abbrev pub set_args : ComponentLine → Option (List ℕ)
set_args step = option_map (λ args. args.items) step.args

-- a line opens its session with this donation and the label that is written, if it can be written so; all else stays
pub record Donates (donation : Amounts) (old new : ComponentLine) : Type 0 where
  pub number : new.number ≡ old.number
  pub left_out : new.is_left_out ≡ old.is_left_out
  pub short : new.may_be_short ≡ old.may_be_short
  pub line : new.line.items ≡ old.line.items
  pub can_donate : new.can_donate ≡ old.can_donate
  pub donated : option_map amounts_of new.donation
      ≡ option_map_or (λ args. Some donation) (args_to_change old) (option_map amounts_of old.donation)
  pub args : set_args new ≡ option_map_or (λ args. Some (donated_text donation args)) (args_to_change old) (set_args old)
