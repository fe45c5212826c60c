-- Standard input isn't written.
use Rattle.std.proofs.Common.{◌∙◌, ℕ, List, sym}
use Rattle.std.specs.Prelude.{◌&&◌}
use Rattle.line_rounds.specs.Unfolding.{UnfoldedText}
use Rattle.cli_base.specs.Unfolding.{EndsOnText}
use Rattle.cli_base.specs.declared.machine.Machine.{Machine}
use Rattle.cli_base.specs.declared.settings.Settings.{Settings}
use Rattle.cli_runs.proofs.CommandLemmas.{unrefused}
use Rattle.cli_runs.specs.CommandStatus.{EndsRecorded, LacksQuota, is_input}
use Rattle.cli_runs.proofs.record.record_scenario.Goals as goal

abbrev Ends : Settings → Machine → List ℕ → UnfoldedText → ℕ → Type 0
Ends settings machine text lines ended = EndsRecorded settings machine lines ended

pub returns : goal.returns
returns g c =
    let asked = c.args.asked.now in
    unrefused (asked.write && is_input asked.scenario.now)
    (EndsOnText (g.H.Host.text_at c.args.host.now) c.args.settings asked.machine asked.scenario.now LacksQuota (Ends c.args.settings) c.record_chosen.result)
    c.record_chosen.result (sym c.writes_input.ensures ∙ c.if-writes_input.false) c.record_chosen.ensures
