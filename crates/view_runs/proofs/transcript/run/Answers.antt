-- On the machine of the list.
use Rattle.std.proofs.Common.{ap}
use Rattle.std.specs.Option.{option_copied}
use Rattle.view_runs.specs.Transcripts.{list_behind, shown_of}
use Rattle.run_scenario.proofs.WriteLemmas.{ends_for_cause, played_on, unplayed_with}
use Rattle.view_runs.proofs.transcript.run.Goals as goal

pub returns-clause-played : goal.returns-clause-played
returns-clause-played g c = λ works.
    played_on c.args.play.list.now (option_copied c.args.showing.only) c.args.play.start (shown_of c.args.showing.numbers (option_copied c.args.showing.only)) (list_behind c.args.showing.accounts (option_copied c.args.showing.only) c.args.play.list.now) c.run_on.result _ _ _ _ _ _ _
    c.in_ok-core.ensures.started c.new-state.ensures.stands c.new-state.ensures.expects c.new-state.ensures.subject (c.run_on.ensures.played works)

pub returns-clause-ok : goal.returns-clause-ok
returns-clause-ok g c =
    ends_for_cause _ _ _ c.run_on.ensures.played (unplayed_with c.run_on.result _ _ _ _ _ (ap g.S.Source.has_failed) c.run_on.ensures.before) c.run_on.ensures.writing
