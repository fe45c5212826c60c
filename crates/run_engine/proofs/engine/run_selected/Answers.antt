-- What is promised of a run that has ended.
use Rattle.std.proofs.Common.{◌∙◌, refl, sym}
use Rattle.std.specs.Option.{option_copied}
use Rattle.run_engine.proofs.Ending.{has_room, runs, runs_unread, runs_unwritten}
use Rattle.run_lines.proofs.ToldLemmas.{left_none, told_none}
use Rattle.run_engine.proofs.engine.run_selected.Goals as goal

pub returns-clause-runs : goal.returns-clause-runs
returns-clause-runs g c =
    runs (option_copied c.args.run.now.only) c.args.core.now c.play-played.new.core c.play-played.result.fault c.play-played.ensures.plays _ c.outcome.result c.new-buffers.ensures.gathered c.outcome.ensures c.play-played.ensures.writing c.play-played.ensures.reading c.play-played.ensures.few

pub outcome-requires : goal.outcome-requires
outcome-requires g c = record { room = has_room (option_copied c.args.run.now.only) c.args.core.now c.play-played.new.core c.play-played.result.fault c.play-played.ensures.plays }

pub play-played-requires-clause-leads : goal.play-played-requires-clause-leads
play-played-requires-clause-leads g c = (refl, sym (left_none (option_copied c.args.run.now.only) c.args.core.now))

pub play-played-requires-clause-silent : goal.play-played-requires-clause-silent
play-played-requires-clause-silent g c = told_none (option_copied c.args.run.now.only) c.args.core.now

pub returns-then-failed-clause-runs : goal.returns-then-failed-clause-runs
returns-then-failed-clause-runs g c = runs_unwritten _ _ _ _ _ _ _ (sym c.failed.ensures ∙ c.if-failed.true)

pub returns-then-failed-2-clause-runs : goal.returns-then-failed-2-clause-runs
returns-then-failed-2-clause-runs g c = runs_unread _ _ _ _ _ _ _ (sym c.failed.ensures ∙ c.if-failed.false) (sym c.failed-2.ensures ∙ c.if-failed-2.true)
