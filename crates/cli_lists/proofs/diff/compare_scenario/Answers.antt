-- The scenario is read and unfolded, and then run on both lists, or another one on the list after.
use Rattle.std.proofs.Common.{◌≡◌, ap, inl, inr, subst, sym}
use Rattle.std.specs.Prelude.{List, ℕ}
use Rattle.std.specs.Option.{option_copied, unwrap_or}
use Rattle.line_rounds.specs.Views.{whole_view}
use Rattle.std.proofs.lemmas.Result.{err_from_is_err_and}
use Rattle.cli_base.specs.Files.{IsUnknown}
use Rattle.cli_base.specs.Unfolding.{HasRoundsFault}
use Rattle.cli_lists.specs.ComparedRuns.{HasFaultAt, HasFaultIn, LacksScenario, path_after}
use Rattle.cli_lists.proofs.ChangeLemmas.{err_as, fault_at_path, fault_stops, lines_at, one_stops, refusal_stops, with_other, with_same}
use Rattle.cli_lists.proofs.diff.compare_scenario.Goals as goal

pub returns-in_err-text-clause-stopped : goal.returns-in_err-text-clause-stopped
returns-in_err-text-clause-stopped g c =
    let texts = g.H.Host.text_at c.args.host.now in
    let path = c.args.path.now in
    let next = path_after c.args.other path in
    let p = err_from_is_err_and c.from_residual.result c.from_residual.ensures.1 in
    rw (p.1, p.2)
    (refusal_stops (IsUnknown texts path) (LacksScenario texts path next) (HasFaultIn texts c.args.settings path next) _
    (λ unknown. inl unknown) c.in_err-text.ensures.failed)

pub returns-in_err-lines-clause-stopped : goal.returns-in_err-lines-clause-stopped
returns-in_err-lines-clause-stopped g c =
    let texts = g.H.Host.text_at c.args.host.now in
    let path = c.args.path.now in
    let next = path_after c.args.other path in
    let p = err_from_is_err_and c.from_residual-in_err-lines.result c.from_residual-in_err-lines.ensures.1 in
    rw (p.1, p.2)
    (fault_stops (LacksScenario texts path next) (HasRoundsFault c.args.settings c.as_slice.result.now) (HasFaultIn texts c.args.settings path next)
    _
    (λ fault. inl (fault_at_path texts c.args.settings path c.in_ok-text.text.items c.as_slice.result.now c.in_ok-text.ensures.text c.as_slice.ensures.value fault))
    c.in_err-lines.ensures.failed c.in_err-lines.ensures.fault)

pub returns-in-Some-clause-ended : goal.returns-in-Some-clause-ended
returns-in-Some-clause-ended g c =
    let texts = g.H.Host.text_at c.args.host.now in
    let path = c.args.path.now in
    let lines = whole_view c.in_ok-lines.lines in
    with_other texts c.args.settings path c.in-Some.other.now c.args.other lines c.args.pair.lists.before.list.now
    c.args.pair.lists.after.list.now c.args.pair.breaches.now c.compare_other.result (ap (λ o. unwrap_or (option_copied o) path) c.in-Some.is)
    (lines_at texts c.args.settings path c.in_ok-text.text.items c.as_slice.result.now lines c.in_ok-text.ensures.text c.as_slice.ensures.value
    c.in_ok-lines.ensures.lines)
    (rw (c.new-was.ensures.list, c.new-was.ensures.lines) at c.compare_other.ensures.ended)

pub returns-in-Some-clause-stopped : goal.returns-in-Some-clause-stopped
returns-in-Some-clause-stopped g c =
    let texts = g.H.Host.text_at c.args.host.now in
    let path = c.args.path.now in
    let next = c.in-Some.other.now in
    let after : path_after c.args.other path ≡ next = ap (λ o. unwrap_or (option_copied o) path) c.in-Some.is in
    err_as (IsUnknown texts next) (LacksScenario texts path (path_after c.args.other path)) (HasFaultAt texts c.args.settings next)
    (HasFaultIn texts c.args.settings path (path_after c.args.other path))
    (λ unknown. inr (subst (λ (p : List ℕ). IsUnknown texts p) (sym after) unknown))
    (λ fault. inr (subst (λ (p : List ℕ). HasFaultAt texts c.args.settings p) (sym after) fault))
    c.compare_other.result c.compare_other.ensures.stopped

pub returns-clause-ended : goal.returns-clause-ended
returns-clause-ended g c =
    let texts = g.H.Host.text_at c.args.host.now in
    let path = c.args.path.now in
    let lines = whole_view c.in_ok-lines.lines in
    with_same texts c.args.settings path c.args.other lines c.args.pair.lists.before.list.now c.args.pair.lists.after.list.now
    c.args.pair.breaches.now c.compare_runs.result (ap (λ o. unwrap_or (option_copied o) path) c.in-None.is)
    (lines_at texts c.args.settings path c.in_ok-text.text.items c.as_slice.result.now lines c.in_ok-text.ensures.text c.as_slice.ensures.value
    c.in_ok-lines.ensures.lines)
    (rw (c.new.ensures.before, c.new-was.ensures.list, c.new.ensures.was, c.new-was.ensures.lines) at
    (rw (c.new.ensures.after, c.new-now.ensures.list, c.new.ensures.now, c.new-now.ensures.lines, c.new.ensures.breaches) at
    c.compare_runs.ensures.ended))

pub returns-clause-stopped : goal.returns-clause-stopped
returns-clause-stopped g c =
    let texts = g.H.Host.text_at c.args.host.now in
    let path = c.args.path.now in
    let next = path_after c.args.other path in
    one_stops (LacksScenario texts path next) (HasFaultIn texts c.args.settings path next) c.compare_runs.result c.compare_runs.ensures.failed
