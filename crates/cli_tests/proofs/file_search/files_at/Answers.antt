-- The files of one path more, and a path that isn't known.
use Rattle.std.proofs.lemmas.Result.{err_from_is_err_and}
use Rattle.cli_tests.specs.Outcome.{LacksPath}
use Rattle.cli_tests.proofs.PlanLemmas.{files_all, files_next, lacks_path, no_room}
use Rattle.cli_tests.proofs.file_search.files_at.Goals as goal

pub loop-path-preserved : goal.loop-path-preserved
loop-path-preserved g c =
    files_next (g.H.Host.text_at c.args.host.now) c.args.paths.now c.loop-path.path-index _ c.loop-path.all.items c.in_ok-found.found.items
    c.append.new.self.items c.loop-path-test.true c.in_ok-append.ensures.items c.loop-path.invariant c.in_ok-found.ensures.found

pub returns-in_err-found-clause-failed : goal.returns-in_err-found-clause-failed
returns-in_err-found-clause-failed g c =
    let p = err_from_is_err_and c.from_residual.result c.from_residual.ensures.1 in
    rw (p.1, p.2) (λ room. lacks_path (g.H.Host.text_at c.args.host.now) c.args.paths.now c.loop-path.path-index _ c.loop-path-test.true
    (c.in_err-found.ensures.failed room))

pub returns-in_err-append-clause-failed : goal.returns-in_err-append-clause-failed
returns-in_err-append-clause-failed g c =
    no_room (LacksPath (g.H.Host.text_at c.args.host.now) c.args.paths.now) c.from_residual-in_err-append.result c.from_residual-in_err-append.ensures.1

pub returns-clause-found : goal.returns-clause-found
returns-clause-found g c =
    files_all (g.H.Host.text_at c.args.host.now) c.args.paths.now c.loop-path.path-index c.loop-path.all.items c.loop-path-test.false
    c.loop-path.invariant
