-- Which start lists don't boot.
use Rattle.std.specs.Prelude.{List, [], ◌∷◌, Option, Some, None}
use Rattle.std.specs.Option.{option_map}
use Rattle.trade_base.specs.declared.refusal.Refusal.{Refusal}
use Rattle.own_model.specs.Account.{Account, shortage}
use Rattle.own_model.specs.Listed.{Listed, start_list_of}
use Rattle.own_model.specs.StartList.{StartEntry, budget, init_at, inits_at_first, with_started}
use Rattle.list_parser.specs.declared.fault.BootFault.{BootFault}
use Rattle.list_parser.specs.declared.fault.BootFault.TheVariants.{QuotaExceeded}

-- an entry that is not covered, or otherwise the first of those after it
abbrev pub first_or : Option Refusal → StartEntry → Option StartEntry → Option StartEntry
first_or (Some refusal) start behind = Some start
first_or None start behind = behind

-- the first entry that what is left of its init's account doesn't cover
abbrev pub first_uncovered : List Account → List StartEntry → Option StartEntry
first_uncovered inits [] = None
first_uncovered inits (start ∷ starts) =
    first_or (shortage (init_at inits start.entry.home) (budget start).ram (budget start).caps) start
    (first_uncovered (with_started inits start) starts)

-- the fault of a list with an entry that isn't covered
abbrev pub quota_fault : Listed → Option BootFault
quota_fault list =
    let starts = start_list_of list in
    option_map (λ start. QuotaExceeded start.entry.name) (first_uncovered (inits_at_first starts) starts.starts)
