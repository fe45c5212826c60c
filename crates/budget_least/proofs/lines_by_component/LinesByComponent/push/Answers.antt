-- The component is there, or not.
use Rattle.std.proofs.Common.{arith, [], ◌∷◌, sym, subst}
use Rattle.own_model.proofs.ListLemmas.{all_append, all_set, all_within}
use Rattle.budget_least.specs.ComponentLines.{line_of, AreWritten, IsAsWritten}
use Rattle.budget_least.proofs.LineLemmas.{no_more, one_more}
use Rattle.budget_least.proofs.lines_by_component.LinesByComponent.push.Goals as goal

pub returns-then-component-len-clause-lines : goal.returns-then-component-len-clause-lines
returns-then-component-len-clause-lines c =
    no_more c.args.self.now.steps.items c.args.component (line_of c.args.line) (omega (arith, c.if-component-len.true, c.len.ensures, c.args.self.now.steps.ok.0))

pub returns-clause-lines : goal.returns-clause-lines
returns-clause-lines c =
    one_more c.args.self.now.steps.items c.args.component c.index_mut-steps.result.now c.push.new.self c.args.line
    (omega (arith, c.if-component-len.false, c.len.ensures, c.args.self.now.steps.ok.0)) c.index_mut-steps.ensures.value c.in_ok-push.ensures.items

pub returns-clause-written : goal.returns-clause-written
returns-clause-written c = λ none all.
    all_set (λ (lines : _). AreWritten lines.items) c.args.self.now.steps.items c.args.component c.push.new.self all
    (subst AreWritten (sym c.in_ok-push.ensures.items)
    (all_append IsAsWritten c.index_mut-steps.result.now.items (c.args.line ∷ [])
    (subst (λ (lines : _). AreWritten lines.items) (sym c.index_mut-steps.ensures.value)
    (all_within (λ (lines : _). AreWritten lines.items) c.args.self.now.steps.items c.args.component c.index_mut-steps.result.now all
    (omega (arith, c.if-component-len.false, c.len.ensures, c.args.self.now.steps.ok.0))))
    (none, tt)))
