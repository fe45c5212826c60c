-- The texts have all that rules ask for, and those of the range.
use Rattle.std.proofs.lemmas.Result.{IfOk-weaker}
use Rattle.list_classes.proofs.label_classes.LabelClasses.of.Goals as goal

pub returns-clause-one : goal.returns-clause-one
returns-clause-one c = IfOk-weaker c.of_texts.result _ _ (λ classes alike. alike c.args.one c.in_ok-texts.ensures.one) c.of_texts.ensures.alike

pub returns-clause-other : goal.returns-clause-other
returns-clause-other c = IfOk-weaker c.of_texts.result _ _ (λ classes alike. alike c.args.other c.in_ok-texts.ensures.other) c.of_texts.ensures.alike

pub returns-clause-range : goal.returns-clause-range
returns-clause-range c =
    IfOk-weaker c.of_texts.result _ _ (λ classes keeps. keeps c.args.range.now c.in_ok-texts.ensures.front c.in_ok-texts.ensures.end) c.of_texts.ensures.range
