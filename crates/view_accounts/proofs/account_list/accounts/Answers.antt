-- On the machine of the list.
use Rattle.std.proofs.Common.{ap, [], None}
use Rattle.view_accounts.specs.RunRows.{ShowsRows}
use Rattle.view_accounts.specs.ShownSessions.{ShowsSessions}
use Rattle.run_scenario.proofs.WriteLemmas.{ends_for_cause, played_on, unplayed_with}
use Rattle.view_accounts.proofs.RunRowLemmas.{shows_on}
use Rattle.view_accounts.proofs.account_list.accounts.Goals as goal

pub returns-clause-played : goal.returns-clause-played
returns-clause-played g c = λ works.
    played_on c.args.play.list.now None c.args.play.start (λ _ _. []) (λ _ _. []) c.run_accounting.result.ending _ _ _ _ _ _ _
    c.in_ok-core.ensures.started c.new-state.ensures.stands c.new-state.ensures.expects c.new-state.ensures.subject (c.run_accounting.ensures.played works)

pub returns-clause-shown : goal.returns-clause-shown
returns-clause-shown g c = λ works.
    let shown = c.run_accounting.ensures.shown works in (
      shown.0,
      (
        shows_on (λ world steps. ShowsRows shown.0 c.args.play.list.now world steps c.run_accounting.result.ending.fault (g.S.Source.remaining c.args.reader.now) c.run_accounting.result.rows)
            c.args.play.list.now c.args.play.start c.in_ok-core.ensures.started c.new-state.ensures.stands shown.1.0,
        shows_on (λ world steps. ShowsSessions shown.0 c.args.play.list.now world steps c.run_accounting.result.ending.fault (g.S.Source.remaining c.args.reader.now))
            c.args.play.list.now c.args.play.start c.in_ok-core.ensures.started c.new-state.ensures.stands shown.1.1,
      ),
    )

pub run_accounting-requires-clause-sees : goal.run_accounting-requires-clause-sees
run_accounting-requires-clause-sees g c = c.in_ok-observer.ensures c.args.play.list.now c.in_ok-core.ensures.started

pub returns-clause-ok : goal.returns-clause-ok
returns-clause-ok g c =
    ends_for_cause _ _ _ c.run_accounting.ensures.played
    (unplayed_with c.run_accounting.result.ending _ _ _ _ _ (ap g.S.Source.has_failed) c.run_accounting.ensures.before) c.run_accounting.ensures.writing
