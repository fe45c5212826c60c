-- A line is resolved, and then its call is answered.
use Rattle.std.proofs.Common.{ap, refl, ◌∙◌}
use Rattle.std.specs.Option.{option_copied}
use Rattle.line_steps.specs.ResolvedLines.{resolved_line}
use Rattle.run_scenario.proofs.LineStepLemmas.{step_as}
use Rattle.run_scenario.proofs.line_step.take_step.Goals as goal

pub returns : goal.returns
returns g c =
    step_as (c.resolve-resolved.ensures.line ∙ ap (λ known. resolved_line (option_copied c.args.run.now.only) known c.args.line.now) c.known.ensures)
    (record { resolved_is = refl; parsed = c.resolve-resolved.ensures.call; world = c.answer_resolved-answered.ensures.world; heard = c.answer_resolved-answered.ensures.heard; read = c.answer_resolved-answered.ensures.read })
