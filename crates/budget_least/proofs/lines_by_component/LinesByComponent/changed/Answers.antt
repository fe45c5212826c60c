-- One component more, and all.
use Rattle.std.proofs.Common.{arith, ◌≡◌, length, map, ap, ◌∙◌}
use Rattle.std.proofs.lemmas.List.{length-map}
use Rattle.budget_least.proofs.ChangedLemmas.{component_more}
use Rattle.budget_least.specs.ChangedLines.{changed_below}
use Rattle.budget_least.specs.ComponentLines.{lines_in, lines_of}
use Rattle.budget_least.specs.declared.changed_line.ChangedLine.{ChangedLine}
use Rattle.budget_least.proofs.lines_by_component.LinesByComponent.changed.Goals as goal

pub loop-component-preserved : goal.loop-component-preserved
loop-component-preserved c = record {
  numbers =
      component_more c.args.self.now.steps.items c.args.other.now.steps.items c.loop-component.component c.of-steps.result.now c.of-others.result.now
      (map (λ (line : ChangedLine). line.number) c.loop-component.changed.items) (map (λ (line : ChangedLine). line.number) c.add_changed.new.changed.items)
      c.of-steps.ensures.steps c.of-others.ensures.steps c.loop-component.invariant.numbers c.in_ok-add_changed.ensures;
}

pub returns : goal.returns
returns c =
    let steps = c.args.self.now.steps.items in
    let count : c.loop-component.component ≡ length (lines_in c.args.self.now) =
    omega (arith, c.loop-component-test.false, c.len-component-end.ensures, c.args.self.now.steps.ok.0, length-map steps (λ lines. lines_of lines.items)) in
    c.loop-component.invariant.numbers ∙ ap (λ n. changed_below n (lines_in c.args.self.now) (lines_in c.args.other.now)) count
