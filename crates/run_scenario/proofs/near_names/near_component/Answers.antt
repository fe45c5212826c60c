-- The component is near, or the first that is near follows it.
use Rattle.std.proofs.Common.{Some, sym, ap, ◌∙◌}
use Rattle.std.specs.Option.{option_map}
use Rattle.own_model.specs.Listed.{ListedEntry}
use Rattle.run_scenario.specs.Reports.{is_near}
use Rattle.run_scenario.proofs.TextLemmas.{found_after, found_at, near_edits}
use Rattle.run_scenario.proofs.near_names.near_component.Goals as goal

pub loop-component-preserved : goal.loop-component-preserved
loop-component-preserved c =
    sym (found_after (is_near c.args.name.now) c.args.list.now.entries c.loop-component.component (c.is_near.ensures ∙ ap Some c.if-is_near.false)) ∙ c.loop-component.invariant

pub returns-then-is_near-clause-near : goal.returns-then-is_near-clause-near
returns-then-is_near-clause-near c = near_edits c.args.name.now _ _ (c.is_near.ensures ∙ ap Some c.if-is_near.true) c.name.ensures.value

pub returns-then-is_near-clause-first : goal.returns-then-is_near-clause-first
returns-then-is_near-clause-first c =
    sym (ap (option_map (λ (entry : ListedEntry). entry.path)) (sym c.loop-component.invariant)
    ∙ found_at (is_near c.args.name.now) (λ (entry : ListedEntry). entry.path) c.args.list.now.entries c.loop-component.component _ (c.is_near.ensures ∙ ap Some c.if-is_near.true) c.name.ensures.value)
