-- All scripts are compared on the machine that is chosen.
use Rattle.std.proofs.Common.{ℕ, List, subst, sym}
use Rattle.cli_base.specs.Files.{IsTextAt}
use Rattle.line_rounds.specs.Unfolding.{UnfoldedText}
use Rattle.line_rounds.specs.Views.{whole_view}
use Rattle.cli_base.proofs.UnfoldingLemmas.{ends_lines, machine_for, on_lack, on_no_text, on_text}
use Rattle.cli_base.specs.declared.machine.Machine.{Machine}
use Rattle.cli_base.specs.declared.settings.Settings.{Settings}
use Rattle.cli_runs.proofs.CommandLemmas.{folded_text}
use Rattle.cli_runs.specs.CommandStatus.{EndsCompared, LacksQuota}
use Rattle.cli_runs.proofs.alone.show_all_alone.Goals as goal

abbrev Ends : Settings → Machine → List ℕ → UnfoldedText → ℕ → Type 0
Ends settings machine text lines ended = EndsCompared settings machine lines ended

pub returns-in-Err : goal.returns-in-Err
returns-in-Err g c =
    on_no_text (g.H.Host.text_at c.args.host.now) c.args.settings c.args.asked.now.machine c.args.asked.now.name.now LacksQuota
    (Ends c.args.settings) c.in-Err.status c.in-Err.ensures.failed

pub returns-in-Err-unfolded : goal.returns-in-Err-unfolded
returns-in-Err-unfolded g c =
    let texts = g.H.Host.text_at c.args.host.now in
    folded_text texts c.args.settings c.args.asked.now.machine c.args.asked.now.name.now LacksQuota
    (Ends c.args.settings) c.deref.result.now c.in-Err-unfolded.status
    (subst (λ t. IsTextAt texts c.args.asked.now.name.now t) (sym c.deref.ensures.value) c.in-Ok.ensures.text) c.in-Err-unfolded.ensures.failed
    c.in-Err-unfolded.ensures.fault

pub returns-in-Err-of : goal.returns-in-Err-of
returns-in-Err-of g c =
    on_lack (g.H.Host.text_at c.args.host.now) c.args.settings c.args.asked.now.machine c.args.asked.now.name.now LacksQuota
    (Ends c.args.settings) c.in-Err-of.status c.in-Err-of.ensures.failed

pub returns-in-Ok-read : goal.returns-in-Ok-read
returns-in-Ok-read g c =
    let texts = g.H.Host.text_at c.args.host.now in
    let machine = c.in-Ok-read.machine in
    on_text texts c.args.settings c.args.asked.now.machine c.args.asked.now.name.now LacksQuota (Ends c.args.settings) machine
    c.deref.result.now c.compare_scripts.result
    (machine_for texts c.args.settings c.args.asked.now.machine c.args.asked.now.name.now c.in-Ok-of.list c.path.result machine
    c.in-Ok-of.ensures.chosen c.path.ensures c.in-Ok-read.ensures.found)
    (subst (λ t. IsTextAt texts c.args.asked.now.name.now t) (sym c.deref.ensures.value) c.in-Ok.ensures.text)
    (ends_lines (LacksQuota machine) c.args.settings c.deref.result.now (EndsCompared c.args.settings machine) (whole_view c.in-Ok-unfolded.lines)
    c.compare_scripts.result c.in-Ok-unfolded.ensures.lines c.compare_scripts.ensures)
