-- The run from the given budget, and then the sessions.
use Rattle.std.proofs.Common.{ap}
use Rattle.budget_meter.specs.Needs.{amounts_of}
use Rattle.budget_search.proofs.FaultLemmas.{given_large, passed_on}
use Rattle.budget_search.specs.RunLines.{RunLines}
use Rattle.budget_search.proofs.script_search.ScriptSearch.sessions.Goals as goal

pub returns-in_err-given-clause-fault : goal.returns-in_err-given-clause-fault
returns-in_err-given-clause-fault c =
    passed_on _ _ c.from_residual.result c.from_residual.ensures.1
    (λ other script given.
    given_large c.args.self.now.list.now c.args.self.now.component (amounts_of c.args.self.now.given) _ script given (c.in_err-given.ensures.fault other))

pub returns-in_err-accounts-clause-fault : goal.returns-in_err-accounts-clause-fault
returns-in_err-accounts-clause-fault c =
    passed_on _ _ c.from_residual-in_err-accounts.result c.from_residual-in_err-accounts.ensures.1
    (λ other script given. c.in_err-accounts.ensures.fault other script)

pub returns-clause-refused : goal.returns-clause-refused
returns-clause-refused c = λ script. ap (λ (found : RunLines). found.refused) (c.in_ok-given.ensures.lines script)
