-- One place more, and all.
use Rattle.std.proofs.Common.{arith, ◌≡◌, ◌++◌, length, map, max, ap, ◌∙◌}
use Rattle.std.proofs.lemmas.List.{length-map}
use Rattle.std.specs.Option.{option_copied}
use Rattle.budget_least.proofs.ChangedLemmas.{place_more}
use Rattle.budget_least.specs.ChangedLines.{changed_before}
use Rattle.budget_least.specs.ComponentLines.{line_of, lines_of}
use Rattle.budget_least.specs.declared.changed_line.ChangedLine.{ChangedLine}
use Rattle.budget_least.proofs.changed_line.add_changed.Goals as goal

pub loop-place-preserved : goal.loop-place-preserved
loop-place-preserved c = record {
  numbers =
      place_more c.args.steps.now c.args.others.now c.loop-place.place (option_copied c.line_at-step.result) (option_copied c.line_at-other.result) c.changed_number-number.result
      (map (λ (line : ChangedLine). line.number) c.args.changed.now.items) (map (λ (line : ChangedLine). line.number) c.loop-place.changed.items)
      (map (λ (line : ChangedLine). line.number) c.add_number.new.changed.items) c.line_at-step.ensures c.line_at-other.ensures c.changed_number-number.ensures
      c.loop-place.invariant.numbers c.in_ok-add_number.ensures;
}

pub returns : goal.returns
returns c =
    let steps = c.args.steps.now in
    let others = c.args.others.now in
    let count : c.loop-place.place ≡ max (length (lines_of steps)) (length (lines_of others)) =
    omega (arith, c.loop-place-test.false, c.max-count.ensures, length-map steps line_of, length-map others line_of) in
    c.loop-place.invariant.numbers
    ∙ ap (λ n. map (λ (line : ChangedLine). line.number) c.args.changed.now.items ++ changed_before n (lines_of steps) (lines_of others)) count
