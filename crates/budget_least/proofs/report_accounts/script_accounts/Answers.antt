-- The sessions of a script, and its own account.
use Rattle.std.proofs.Common.{ap, ◌∙◌}
use Rattle.budget_meter.specs.Needs.{amounts_of}
use Rattle.budget_search.proofs.FaultLemmas.{passed_on}
use Rattle.budget_least.proofs.SessionLemmas.{accounts_keyed, without_own}
use Rattle.budget_least.proofs.report_accounts.script_accounts.Goals as goal

pub returns-clause-accounts : goal.returns-clause-accounts
returns-clause-accounts c = record {
  sessions = c.args.sessions.accounts.items;
  own = c.in_ok-own.own;
  these = c.in_ok-push.ensures.items;
  sessions_are = record { script = λ kind. c.requires.sessions; other = λ other. absurd (other c.requires.given.script) };
  own_is = record {
    same = c.in_ok-own.ensures.component;
    own = c.in_ok-own.ensures.own;
    given = ap amounts_of c.in_ok-own.ensures.given ∙ c.requires.given.given;
    script = λ kind. record {
      reserve = c.in_ok-own.ensures.reserve;
      refused = c.in_ok-own.ensures.refused ∙ c.requires.refused;
      exact = c.in_ok-own.ensures.exact kind;
      least = c.in_ok-own.ensures.least kind;
      safe = c.in_ok-own.ensures.safe kind;
      lines = c.in_ok-own.ensures.lines kind;
    };
    server = λ other. absurd (other c.requires.given.script);
  };
}

pub returns-clause-sessions : goal.returns-clause-sessions
returns-clause-sessions c =
    let sessions = c.args.sessions.accounts.items in
    without_own sessions c.in_ok-own.own c.push.new.self.items c.in_ok-push.ensures.items c.in_ok-own.ensures.own
    ∙ accounts_keyed c.args.search.now.list.now c.args.search.now.component c.args.steps.now sessions c.requires.sessions

pub returns-in_err-own-clause-fault : goal.returns-in_err-own-clause-fault
returns-in_err-own-clause-fault c =
    passed_on _ _ c.from_residual.result c.from_residual.ensures.1 (λ other. c.in_err-own.ensures.fault other c.requires.given.script)
