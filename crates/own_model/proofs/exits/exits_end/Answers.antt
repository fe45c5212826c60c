-- Who is gone is turned away before its call is looked at.
use Rattle.own_model.proofs.StepExitLemmas.{exits_done, gone_turned, gone_stays, exits_end_all, exits_alone}
use Rattle.own_model.proofs.exits.exits_end.Goals as goal

pub returns-clause-done : goal.returns-clause-done
returns-clause-done c = exits_done

pub returns-clause-away : goal.returns-clause-away
returns-clause-away c = gone_turned

pub returns-clause-stay : goal.returns-clause-stay
returns-clause-stay c = gone_stays

pub returns-clause-alone : goal.returns-clause-alone
returns-clause-alone c = exits_alone

pub returns-clause-all : goal.returns-clause-all
returns-clause-all c = exits_end_all
