-- What the play writes, and the count behind it.
use Rattle.std.proofs.Common.{rules, refl}
use Rattle.view_runs.proofs.ViewLemmas.{alone_counts, alone_played, alone_same, same_behind}
use Rattle.run_scenario.proofs.WriteLemmas.{played_from, reported_at}
use Rattle.view_runs.proofs.alone_run.run_alone.Goals as goal

pub returns-clause-played : goal.returns-clause-played
returns-clause-played g c = λ works.
    let name = c.args.named.now.name.now in
    let start = c.args.machines.whole in
    let plays = rw c.play-ending.ensures.held at (rw c.requires.all at (c.play-ending.ensures.plays works)) in
    reported_at
    (alone_played name c.play-ending.result c.close.result.ending c.play-ending.ensures.few plays
    (c.close.ensures.closes (alone_same c.play-ending.result.fault name start _ _ _ _ plays.sees))) (search rules)

pub returns-clause-summed : goal.returns-clause-summed
returns-clause-summed g c = λ works.
    let name = c.args.named.now.name.now in
    let start = c.args.machines.whole in
    let plays = rw c.play-ending.ensures.held at (rw c.requires.all at (c.play-ending.ensures.plays works)) in
    rw c.close.ensures.lines
    (reported_at
    (played_from c.play-ending.result c.close.result.ending plays refl
    (c.close.ensures.closes (alone_same c.play-ending.result.fault name start _ _ _ _ plays.sees))) (search rules))

pub returns-clause-counts : goal.returns-clause-counts
returns-clause-counts g c = λ works.
    let name = c.args.named.now.name.now in
    let start = c.args.machines.whole in
    let plays = rw c.play-ending.ensures.held at (rw c.requires.all at (c.play-ending.ensures.plays works)) in
    rw c.close.ensures.lines
    (alone_counts name c.args.named.now.run.list.now _ c.play-ending.result c.close.result.ending c.play-ending.ensures.few plays
    (c.close.ensures.closes (alone_same c.play-ending.result.fault name start _ _ _ _ plays.sees)))

pub returns-clause-same : goal.returns-clause-same
returns-clause-same g c = λ works.
    let name = c.args.named.now.name.now in
    let start = c.args.machines.whole in
    let plays = rw c.play-ending.ensures.held at (rw c.requires.all at (c.play-ending.ensures.plays works)) in
    let same = alone_same c.play-ending.result.fault name start _ _ _ _ plays.sees in
    rw c.close.ensures.difference (same_behind c.play-ending.result c.close.result.ending _ _ _ (c.close.ensures.closes same) same)

pub play-ending-requires-clause-sees : goal.play-ending-requires-clause-sees
play-ending-requires-clause-sees g c = record { leads = c.requires.same; counted = λ _. refl; alike = refl }
