-- A call of a component, and one of none.
use Rattle.std.proofs.Common.{ap, refl, subst, ◌∙◌}
use Rattle.std.proofs.lemmas.Result.{IfOk-weaker}
use Rattle.std.specs.Option.{option_copied}
use Rattle.std.specs.Prelude.{Some, None}
use Rattle.own_model.specs.Listed.{Listed}
use Rattle.line_grammar.specs.Read.{spoken_as, IsReadAs}
use Rattle.line_names.specs.Views.{filled_view}
use Rattle.run_scenario.specs.LineSteps.{is_meant_line}
use Rattle.run_scenario.specs.UnknownNames.{names_unknown}
use Rattle.budget_least.specs.ComponentLines.{said_in}
use Rattle.budget_least.specs.LineErrors.{caller_in, judging_of}
use Rattle.budget_least.proofs.JudgedLemmas.{judged_by}
use Rattle.budget_least.proofs.ReadingLemmas.{said_some}
use Rattle.budget_least.proofs.judged_run.JudgedRun.judge_call.Goals as goal

pub returns-clause-judged : goal.returns-clause-judged
returns-clause-judged g c =
    let call = c.args.call.now in
    let old = judging_of c.args.self.now in
    IfOk-weaker c.judge_component.result _ _
    (λ complained is.
    judged_by (is_meant_line c.args.given.line.now) (names_unknown old.run.list call.line.now) complained (filled_view call.filled) (option_copied call.reply) old
    (judging_of c.judge_component.new.self) (said_in call.line.now) (spoken_as c.in-Some.said) (Some c.in-Some-find_caller.component)
    (said_some call.line.now c.in-Some.said (subst (IsReadAs call.line.now) c.in-Some.is c.requires.parsed))
    (c.in-Some-find_caller.ensures.component ∙ ap (λ (list : Listed). caller_in list c.in-Some.said.name.now) c.list.ensures) is)
    c.judge_component.ensures.judged
