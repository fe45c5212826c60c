-- What the play writes, and the account list behind it where it is asked for.
use Rattle.std.proofs.Common.{rules, Bool, subst, sym}
use Rattle.std.specs.Option.{option_copied}
use Rattle.run_lines.specs.Machine.{accounts_for}
use Rattle.run_scenario.specs.Writes.{Closes}
use Rattle.view_runs.proofs.ViewLemmas.{run_played}
use Rattle.run_scenario.proofs.WriteLemmas.{closes_alone, reported_at}
use Rattle.view_runs.proofs.transcript.run_on.Goals as goal

pub returns-then-accounts-clause-played : goal.returns-then-accounts-clause-played
returns-then-accounts-clause-played g c = λ works.
    reported_at
    (run_played c.args.showing.numbers c.args.showing.accounts (option_copied c.args.stage.run.only) c.args.stage.run.list.now c.play-ending.result c.close_with_list.result (c.play-ending.ensures.plays works)
    (subst (λ (b : Bool). Closes c.play-ending.result c.close_with_list.result (g.K.Sink.contents c.play-ending.new.writer) (g.K.Sink.contents c.close_with_list.new.writer) (accounts_for b c.args.stage.run.list.now c.play-ending.new.core))
    (sym c.if-accounts.true) c.close_with_list.ensures.closes)) (search rules)

pub returns-clause-played : goal.returns-clause-played
returns-clause-played g c = λ works.
    reported_at
    (run_played c.args.showing.numbers c.args.showing.accounts (option_copied c.args.stage.run.only) c.args.stage.run.list.now c.play-ending.result c.play-ending.result (c.play-ending.ensures.plays works)
    (subst (λ (b : Bool). Closes c.play-ending.result c.play-ending.result (g.K.Sink.contents c.play-ending.new.writer) (g.K.Sink.contents c.play-ending.new.writer) (accounts_for b c.args.stage.run.list.now c.play-ending.new.core))
    (sym c.if-accounts.false) (closes_alone c.play-ending.result (g.K.Sink.contents c.play-ending.new.writer)))) (search rules)
