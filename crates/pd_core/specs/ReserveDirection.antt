-- The direction in which limits move between a script's reserve and its account.
use Rattle.std.specs.Prelude.{ℕ, List}
use Rattle.own_model.specs.Call.{Call}
use Rattle.own_model.specs.Call.Call.{Request, Yield}
use Rattle.pd_core.specs.declared.reserves.ReserveDirection.{ReserveDirection}
use Rattle.pd_core.specs.declared.reserves.ReserveDirection.TheVariants.{FromReserve, ToReserve}
use Rattle.pd_core.specs.declared.script.Script.{Script}

-- the call that moves limits in this direction
abbrev pub call_by : ReserveDirection → List ℕ → Call
call_by FromReserve text = Request text
call_by ToReserve text = Yield text

-- the account that gives limits
abbrev pub giver : ReserveDirection → Script → ℕ
giver FromReserve script = script.reserve.0
giver ToReserve script = script.account.0

-- the account that receives limits
abbrev pub taker : ReserveDirection → Script → ℕ
taker FromReserve script = script.account.0
taker ToReserve script = script.reserve.0
