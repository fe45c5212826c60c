-- Each of these texts is told by computation, down to its digits.
use Rattle.std.proofs.Common.{refl}
use Rattle.std.specs.Fmt.{digits}
use Rattle.own_model.proofs.rows.reserves_are_moved.Goals as goal

pub returns-clause-yielded : goal.returns-clause-yielded
unfolding digits
returns-clause-yielded c = refl

pub returns-clause-caps : goal.returns-clause-caps
unfolding digits
returns-clause-caps c = refl

pub returns-clause-requested : goal.returns-clause-requested
unfolding digits
returns-clause-requested c = refl

pub returns-clause-lacking : goal.returns-clause-lacking
unfolding digits
returns-clause-lacking c = refl

pub returns-clause-texts : goal.returns-clause-texts
unfolding digits
returns-clause-texts c = refl

pub returns-clause-away : goal.returns-clause-away
unfolding digits
returns-clause-away c = refl
