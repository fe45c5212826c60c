-- It is that of any script.
use Rattle.std.proofs.Common.{ap, sym}
use Rattle.budget_meter.specs.Metered.{is_script}
use Rattle.view_accounts.proofs.needs.meter_of.Goals as goal

pub returns : goal.returns
returns c = λ entry s script here same low. c.new.ensures entry s (sym (ap is_script script)) here same low
