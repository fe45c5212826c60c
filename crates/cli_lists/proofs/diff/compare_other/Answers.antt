-- The scenario is read and unfolded, and then run on the list after.
use Rattle.line_rounds.specs.Unfolding.{UnfoldedText}
use Rattle.line_rounds.specs.Views.{whole_view}
use Rattle.std.proofs.lemmas.Result.{err_from_is_err_and}
use Rattle.cli_base.specs.Files.{IsUnknown}
use Rattle.cli_base.specs.Unfolding.{HasRoundsFault}
use Rattle.cli_lists.specs.ComparedRuns.{AreLinesAt, HasFaultAt}
use Rattle.cli_lists.specs.Comparison.{Compared, LinesDiffer}
use Rattle.cli_lists.proofs.ChangeLemmas.{fault_at_path, fault_stops, lines_at, ok_as, one_stops, refusal_stops}
use Rattle.cli_lists.proofs.diff.compare_other.Goals as goal

pub returns-in_err-text-clause-stopped : goal.returns-in_err-text-clause-stopped
returns-in_err-text-clause-stopped g c =
    let texts = g.H.Host.text_at c.args.host.now in
    let path = c.args.path.now in
    let p = err_from_is_err_and c.from_residual.result c.from_residual.ensures.1 in
    rw (p.1, p.2)
    (refusal_stops (IsUnknown texts path) (IsUnknown texts path) (HasFaultAt texts c.args.settings path) _
    (λ unknown. unknown) c.in_err-text.ensures.failed)

pub returns-in_err-lines-clause-stopped : goal.returns-in_err-lines-clause-stopped
returns-in_err-lines-clause-stopped g c =
    let texts = g.H.Host.text_at c.args.host.now in
    let path = c.args.path.now in
    let p = err_from_is_err_and c.from_residual-in_err-lines.result c.from_residual-in_err-lines.ensures.1 in
    rw (p.1, p.2)
    (fault_stops (IsUnknown texts path) (HasRoundsFault c.args.settings c.as_slice.result.now) (HasFaultAt texts c.args.settings path)
    _
    (fault_at_path texts c.args.settings path c.in_ok-text.text.items c.as_slice.result.now c.in_ok-text.ensures.text c.as_slice.ensures.value)
    c.in_err-lines.ensures.failed c.in_err-lines.ensures.fault)

pub returns-clause-ended : goal.returns-clause-ended
returns-clause-ended g c =
    let texts = g.H.Host.text_at c.args.host.now in
    let path = c.args.path.now in
    let lines = whole_view c.in_ok-lines.lines in
    let was = whole_view c.args.was.lines.now in
    ok_as (LinesDiffer c.args.settings c.args.was.file.list.now was c.args.pair.lists.after.list.now lines c.args.pair.breaches.now)
    (λ (changed : Compared). (now : UnfoldedText) × AreLinesAt texts c.args.settings path now
    × LinesDiffer c.args.settings c.args.was.file.list.now was c.args.pair.lists.after.list.now now c.args.pair.breaches.now changed)
    (λ b differ. (
      lines,
      lines_at texts c.args.settings path c.in_ok-text.text.items c.as_slice.result.now lines c.in_ok-text.ensures.text c.as_slice.ensures.value
          c.in_ok-lines.ensures.lines,
      differ,
    )) c.compare_runs.result
    (rw (c.new.ensures.before, c.new.ensures.was) at
    (rw (c.new.ensures.after, c.new-now.ensures.list, c.new.ensures.now, c.new-now.ensures.lines, c.new.ensures.breaches) at
    c.compare_runs.ensures.ended))

pub returns-clause-stopped : goal.returns-clause-stopped
returns-clause-stopped g c =
    let texts = g.H.Host.text_at c.args.host.now in
    let path = c.args.path.now in
    one_stops (IsUnknown texts path) (HasFaultAt texts c.args.settings path) c.compare_runs.result c.compare_runs.ensures.failed
