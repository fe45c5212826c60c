-- Line by line.
use Rattle.std.proofs.Common.{◌+◌, ◌<◌, length, drop, ap, sym, ◌∙◌, subst}
use Rattle.std.specs.Prelude.{is_some}
use Rattle.own_model.specs.Transcript.{entry_at, state_at}
use Rattle.budget_meter.specs.Run.{Shows}
use Rattle.budget_meter.specs.Needs.{amounts_of}
use Rattle.budget_search.specs.Run.{HasLeft, HasLinesLeft}
use Rattle.budget_search.specs.OwnLines.{lines_with, own_lines}
use Rattle.budget_search.specs.Steps.{call_of, calls_of, mark_of}
use Rattle.budget_search.proofs.RunLemmas.{next_calls, all_done, no_calls}
use Rattle.budget_search.proofs.OwnLineLemmas.{last_lines, next_lines, none_left, same_lines}
use Rattle.budget_search.proofs.own_run.OwnRun.go_through.Goals as goal

pub returns-then-not-branch-clause-shows : goal.returns-then-not-branch-clause-shows
returns-then-not-branch-clause-shows g c = λ calls budget s left.
    let now = c.loop-step.self in
    let steps = c.args.steps.now in
    let i = c.loop-step.step-index in
    let item = c.step-item.result in
    subst (λ e. Shows e calls s budget (is_some c.goes_on.new.self.trial.refused) c.goes_on.new.self.heard.meter) c.loop-step.invariant.entry
    (c.in_ok-goes_on.ensures.ends c.if-not-branch.true calls (calls_of (drop (i + 1) steps)) budget s
    (subst (λ each. HasLeft now.core.now now.component now.heard calls each budget s) (next_calls steps i item c.loop-step-test.true c.step-item.is)
    (c.loop-step.invariant.left calls budget s left)))

pub loop-step-preserved : goal.loop-step-preserved
loop-step-preserved g c =
    let now = c.loop-step.self in
    let new = c.goes_on.new.self in
    let steps = c.args.steps.now in
    let i = c.loop-step.step-index in
    let item = c.step-item.result in
    let kept = c.loop-step.invariant in
    record {
      there =
          subst (λ n. n < length new.core.now.entries) (sym c.goes_on.ensures.same)
          (subst (λ es. now.component < length es) (sym c.goes_on.ensures.entries) kept.there);
      none = c.in_ok-goes_on.ensures.on c.if-not-branch.false;
      entry = (λ k. entry_at (c.goes_on.ensures.entries k) (c.goes_on.ensures.same k)) ∙ kept.entry;
      left = λ calls budget s before.
          c.in_ok-goes_on.ensures.left c.if-not-branch.false calls (calls_of (drop (i + 1) steps)) budget s
          (subst (λ each. HasLeft now.core.now now.component now.heard calls each budget s) (next_calls steps i item c.loop-step-test.true c.step-item.is)
          (kept.left calls budget s before));
      meter = c.goes_on.ensures.meter ∙ kept.meter;
      lines = λ whole before.
          let entry = entry_at now.core.now.entries now.component in
          let budget = amounts_of now.trial.meter.start in
          subst (λ rest. HasLinesLeft new.core.now new.component new.heard new.trial.left_out.items rest whole)
          (sym
          (λ k. own_lines (entry_at (c.goes_on.ensures.entries k) (c.goes_on.ensures.same k)) (amounts_of (c.goes_on.ensures.meter k).start) (drop (i + 1) steps)))
          (c.in_ok-goes_on.ensures.later c.if-not-branch.false (own_lines entry budget (drop (i + 1) steps)) whole
          (same_lines now.core.now now.component now.heard now.trial.left_out.items (own_lines entry budget (drop i steps)) whole (kept.lines whole before)
          (lines_with entry budget (mark_of item) (call_of item) (own_lines entry budget (drop (i + 1) steps)))
          (next_lines entry budget steps i (state_at now.core.now.states now.component) item c.loop-step-test.true c.step-item.is)));
    }

pub returns-clause-shows : goal.returns-clause-shows
returns-clause-shows g c = λ calls budget s left.
    let now = c.loop-step.self in
    let kept = c.loop-step.invariant in
    subst (λ e. Shows e calls s budget (is_some now.trial.refused) now.heard.meter) kept.entry
    (all_done now.core.now now.component now.heard calls budget s now.trial.refused kept.none
    (subst (λ each. HasLeft now.core.now now.component now.heard calls each budget s)
    (no_calls c.args.steps.now c.loop-step.step-index c.loop-step-test.false) (kept.left calls budget s left)))

pub returns-then-not-branch-clause-lines : goal.returns-then-not-branch-clause-lines
returns-then-not-branch-clause-lines g c = λ whole before.
    let now = c.loop-step.self in
    let steps = c.args.steps.now in
    let i = c.loop-step.step-index in
    let item = c.step-item.result in
    let entry = entry_at now.core.now.entries now.component in
    let budget = amounts_of now.trial.meter.start in
    c.in_ok-goes_on.ensures.lines c.if-not-branch.true (own_lines entry budget (drop (i + 1) steps)) whole
    (same_lines now.core.now now.component now.heard now.trial.left_out.items (own_lines entry budget (drop i steps)) whole (c.loop-step.invariant.lines whole before)
    (lines_with entry budget (mark_of item) (call_of item) (own_lines entry budget (drop (i + 1) steps)))
    (next_lines entry budget steps i (state_at now.core.now.states now.component) item c.loop-step-test.true c.step-item.is))

pub returns-clause-lines : goal.returns-clause-lines
returns-clause-lines g c = λ whole before.
    let now = c.loop-step.self in
    let kept = c.loop-step.invariant in
    let i = c.loop-step.step-index in
    let entry = entry_at now.core.now.entries now.component in
    let budget = amounts_of now.trial.meter.start in
    let so_far = now.trial.left_out.items in
    ap (λ refused. record { left_out = so_far; refused = refused }) kept.none
    ∙ none_left now.core.now now.component now.heard so_far (own_lines entry budget (drop i c.args.steps.now)) whole (kept.lines whole before)
    (last_lines entry budget c.args.steps.now i (state_at now.core.now.states now.component) c.loop-step-test.false)
