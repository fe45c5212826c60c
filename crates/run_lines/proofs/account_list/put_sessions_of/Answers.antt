-- One selector more is told, or a write fails in its line.
use Rattle.std.proofs.Common.{◌+◌, arith}
use Rattle.std.specs.FinMap.{get}
use Rattle.own_model.specs.AccountList.{object_line}
use Rattle.own_model.specs.Transcript.{state_at}
use Rattle.run_lines.specs.Accounts.{listed_at}
use Rattle.run_lines.proofs.AccountLemmas.{told_more_keys, sessions_cut, sessions_last, told_on, told_cut}
use Rattle.run_devices.proofs.GatheredLemmas.{Tells-none, told_err}
use Rattle.run_lines.proofs.account_list.put_sessions_of.Goals as goal

pub loop-selector-init : goal.loop-selector-init
loop-selector-init g c = record { told = Tells-none _ _; works = c.requires.writes }

pub loop-selector-preserved : goal.loop-selector-preserved
loop-selector-preserved g c = record {
  told = told_on (told_more_keys (object_line (listed_at c.args.list.now c.args.component).path)
      (λ k. get (state_at c.args.core.now.states c.args.component).selectors k) c.loop-selector.selector)
      c.loop-selector.invariant.told c.in_ok-put_selected.ensures.told;
  works = c.in_ok-put_selected.ensures.failing;
}

pub returns-in_err-put_selected-clause-told : goal.returns-in_err-put_selected-clause-told
returns-in_err-put_selected-clause-told g c =
    told_err _ _ _ c.from_residual.ensures.1
    (told_cut _ (sessions_cut (listed_at c.args.list.now c.args.component).path
    (state_at c.args.core.now.states c.args.component) (c.last_selector-selector-end.result + 1) c.loop-selector.selector (omega arith)
    (λ k more. c.last_selector-selector-end.ensures.none k (omega (arith, more))))
    c.loop-selector.invariant.told (c.in_err-put_selected.ensures.told.1))

pub returns-in_ok-put_selected-clause-told : goal.returns-in_ok-put_selected-clause-told
returns-in_ok-put_selected-clause-told g c =
    told_on (sessions_last (listed_at c.args.list.now c.args.component).path
    (state_at c.args.core.now.states c.args.component) c.loop-selector.selector
    (λ k more. c.last_selector-selector-end.ensures.none k (omega (arith, more))))
    c.loop-selector.invariant.told c.in_ok-put_selected.ensures.told
