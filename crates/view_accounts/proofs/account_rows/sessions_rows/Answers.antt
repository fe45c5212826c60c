-- A selector more; the others name nothing.
use Rattle.std.proofs.Common.{◌∙◌, ap, map, sym, arith}
use Rattle.view_accounts.specs.Rows.{session_view}
use Rattle.view_accounts.specs.RunRows.{measures_kept, selector_count, session_rows}
use Rattle.view_accounts.proofs.RowLemmas.{added_rows, in_turn-all, in_turn-none, no_session}
use Rattle.view_accounts.proofs.account_rows.sessions_rows.Goals as goal

pub loop-selector-init : goal.loop-selector-init
loop-selector-init g c =
    ap (map session_view) c.new-rows.ensures.items
    ∙ sym (in_turn-none (session_rows c.args.list.now (measures_kept c.args.observer.now c.args.list.now) c.args.core.now c.args.component))

pub loop-selector-preserved : goal.loop-selector-preserved
loop-selector-preserved g c =
    added_rows session_view (session_rows c.args.list.now (measures_kept c.args.observer.now c.args.list.now) c.args.core.now c.args.component) c.loop-selector.selector
    _ _ c.loop-selector.invariant c.in_ok-add_session.ensures

pub returns : goal.returns
returns g c = c.loop-selector.invariant
    ∙ in_turn-all (session_rows c.args.list.now (measures_kept c.args.observer.now c.args.list.now) c.args.core.now c.args.component) c.loop-selector.selector selector_count
    (omega arith)
    (λ j past. no_session c.args.list.now (measures_kept c.args.observer.now c.args.list.now) c.args.core.now c.args.component j (c.last_selector-selector-end.ensures.none j (omega (arith, past))))
