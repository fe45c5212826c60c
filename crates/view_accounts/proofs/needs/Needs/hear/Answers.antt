-- What its meters have heard then, whether or not there was room for what is kept of sessions.
use Rattle.std.proofs.Common.{arith, subst, sym, OnOk, [], ◌∷◌, ◌++◌}
use Rattle.core_calls.specs.Call.{model_call}
use Rattle.run_lines.proofs.AccountLemmas.{entries_listed}
use Rattle.view_accounts.specs.Kept.{found}
use Rattle.view_accounts.specs.KeptSessions.{SeesSessions}
use Rattle.view_accounts.proofs.SessionRunLemmas.{after_call, after_silent}
use Rattle.view_accounts.proofs.HearLemmas.{inside, sees_more, still_sees}
use Rattle.run_scenario.proofs.LineLemmas.{on_ok}
use Rattle.view_accounts.proofs.needs.Needs.hear.Goals as goal

pub account-requires : goal.account-requires
account-requires g c = omega (arith, c.in-Some.ensures.inside, entries_listed c.args.list.now c.args.core.now c.requires.listed)

pub of-outcome-requires : goal.of-outcome-requires
of-outcome-requires g c = omega (arith, c.in-Some.ensures.inside, entries_listed c.args.list.now c.args.core.now c.requires.listed)

pub hear-requires : goal.hear-requires
hear-requires g c = omega (arith, c.in-Some.ensures.inside, entries_listed c.args.list.now c.args.core.now c.requires.listed)

pub returns-in_default-clause-meters : goal.returns-in_default-clause-meters
returns-in_default-clause-meters g c = λ start earlier sees told. still_sees c.args.list.now c.requires.listed sees told c.in_default.ensures.none

pub returns-in_default-clause-sessions : goal.returns-in_default-clause-sessions
returns-in_default-clause-sessions g c = λ start earlier peaks sees told.
    after_silent c.args.list.now c.requires.listed told peaks.none_at_start c.args.self.now.lines c.saturating_add-line.result c.args.self.now.sessions sees c.saturating_add-line.ensures c.in_default.ensures.none

pub returns-clause-meters : goal.returns-clause-meters
returns-clause-meters g c = λ start earlier sees told.
    on_ok c.hear.result
    (sees_more c.args.list.now c.requires.listed sees told c.in-Some.component (model_call c.in-Some.call) c.account.result c.observe_own.new.self.meters.items
    c.in-Some.ensures.some c.account.ensures.value c.observe_own.ensures.count c.observe_own.ensures.others c.observe_own.ensures.own)

pub returns-clause-sessions : goal.returns-clause-sessions
returns-clause-sessions g c = λ start earlier peaks sees told.
    subst (λ lines. OnOk c.hear.result (SeesSessions lines c.hear.new.self c.args.list.now start (earlier ++ c.args.heard.now.line.now ∷ []))) (sym c.observe_own.ensures.lines)
    (after_call c.args.list.now c.requires.listed told peaks.none_at_start c.args.self.now.lines c.saturating_add-line.result c.observe_own.new.self.sessions
    (subst (λ sessions. SeesSessions c.args.self.now.lines sessions c.args.list.now start earlier) (sym c.observe_own.ensures.sessions) sees) c.saturating_add-line.ensures
    c.in-Some.component (model_call c.in-Some.call) c.in-Some.ensures.some c.of-outcome.result c.of-outcome.ensures.opened c.of-outcome.ensures.done c.of-outcome.ensures.refused
    (found c.args.peaks.now.sessions c.in-Some.component) (λ q. peaks.of_sessions c.in-Some.component q (inside c.args.list.now c.requires.listed told c.in-Some.ensures.inside))
    c.hear.result c.hear.new.self c.hear.ensures.opened c.hear.ensures.closed)
