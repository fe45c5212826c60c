-- Each transcript is computed.
use Rattle.std.proofs.Common.{refl}
use Rattle.own_model.proofs.rows.lines_and_names_are_refused.Goals as goal

pub returns-clause-names : goal.returns-clause-names
returns-clause-names c = refl

pub returns-clause-forms : goal.returns-clause-forms
returns-clause-forms c = refl

pub returns-clause-sizes : goal.returns-clause-sizes
returns-clause-sizes c = refl

pub returns-clause-heap : goal.returns-clause-heap
returns-clause-heap c = refl

pub returns-clause-sliced : goal.returns-clause-sliced
returns-clause-sliced c = refl
