-- The call is kept behind those before it.
use Rattle.std.proofs.Common.{refl}
use Rattle.run_devices.proofs.GatheredLemmas.{Tells-none, told_err}
use Rattle.view_runs.proofs.AnswerLemmas.{sees_more}
use Rattle.run_scenario.proofs.FailLemmas.{roomless}
use Rattle.view_runs.proofs.answer_list.ExchangeObserverCallObserver.tell.Goals as goal

pub returns-in_err-exchange-clause-told : goal.returns-in_err-exchange-clause-told
returns-in_err-exchange-clause-told g c = λ start earlier sees told. told_err _ _ _ c.from_residual.ensures.1 (_, Tells-none _ _)

pub returns-in_err-exchange-clause-failing : goal.returns-in_err-exchange-clause-failing
returns-in_err-exchange-clause-failing g c = roomless _ _ _ c.from_residual.ensures.1 c.requires.writes refl

pub returns-in_err-push-clause-told : goal.returns-in_err-push-clause-told
returns-in_err-push-clause-told g c = λ start earlier sees told. told_err _ _ _ c.from_residual-in_err-push.ensures.1 (_, Tells-none _ _)

pub returns-in_err-push-clause-failing : goal.returns-in_err-push-clause-failing
returns-in_err-push-clause-failing g c = roomless _ _ _ c.from_residual-in_err-push.ensures.1 c.requires.writes refl

pub returns-clause-told : goal.returns-clause-told
returns-clause-told g c = λ start earlier sees told. Tells-none _ _

pub returns-clause-seen : goal.returns-clause-seen
returns-clause-seen g c = λ start earlier sees told. sees_more told c.args.self.now.kept.items sees c.in_ok-exchange.ensures c.in_ok-push.ensures.items
