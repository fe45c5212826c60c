-- The recording is that of the lines that are run.
use Rattle.line_rounds.specs.Views.{whole_view}
use Rattle.cli_runs.proofs.CommandLemmas.{recorded}
use Rattle.cli_runs.proofs.record.record_on.Goals as goal

pub returns-in-Ok-record : goal.returns-in-Ok-record
returns-in-Ok-record c =
    recorded c.args.settings c.args.machine.now c.list-list.result.now c.args.text.now (whole_view c.in-Ok.lines)
    c.in-Ok-start_or_status.start c.marks.result.now c.bytes.result.now c.in-Ok-record.recording.errors.items c.print_recording.result
    c.list-list.ensures c.in-Ok.ensures.lines c.in-Ok-start_or_status.ensures.start c.marks.ensures c.bytes.ensures
    c.in-Ok-record.ensures.errors c.print_recording.ensures
