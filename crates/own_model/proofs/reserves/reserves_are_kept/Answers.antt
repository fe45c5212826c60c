-- Only requests and yields move limits between an account and a reserve.
use Rattle.own_model.proofs.StepReserveLemmas.{others_kept, limits_moved}
use Rattle.own_model.proofs.reserves.reserves_are_kept.Goals as goal

pub returns-clause-others : goal.returns-clause-others
returns-clause-others c = others_kept

pub returns-clause-moved : goal.returns-clause-moved
returns-clause-moved c = limits_moved
