-- A run with or without its calls ends as its lines do.
use Rattle.std.proofs.Common.{◌≡◌, false, Ok, Err}
use Rattle.cli_base.specs.Origins.{origin_bytes}
use Rattle.cli_tests.specs.ScenarioTest.{EndsRun, run_lacks_memory, start_by}
use Rattle.cli_tests.proofs.RunLemmas.{ends_run, kept_end, none_before, run_of, unbooted_end}
use Rattle.cli_tests.proofs.scenario_run.run_lines.Goals as goal

pub returns-then-not-are_asked-clause-ends : goal.returns-then-not-are_asked-clause-ends
returns-then-not-are_asked-clause-ends g c =
    let none = none_before _ _ _ c.silent_reader-reader.ensures.fresh c.plain_writer-nowhere.ensures c.plain_writer-complaints.ensures in
    let list = c.args.case.list.now in
    let first = start_by c.args.case.settings c.args.marks.now in
    let text = origin_bytes g.F.Read.remaining c.args.origin in
    kept_end (EndsRun list first text) c.run-ended.result c.new.result c.new.ensures.ended c.new.ensures.memory
    (ends_run list first text _ c.run-ended.result c.run-ended.ensures.played c.run-ended.ensures.boots
    (λ ending boots played. run_of list first _ text ending c.in_ok-start.ensures c.silent_reader-reader.ensures.bytes boots (played none))
    c.run-ended.ensures.unbooted)

pub returns-then-not-are_asked-clause-memory : goal.returns-then-not-are_asked-clause-memory
returns-then-not-are_asked-clause-memory g c =
    kept_end (λ ended. run_lacks_memory ended ≡ false) c.run-ended.result c.new.result c.new.ensures.ended c.new.ensures.memory (λ memory. memory)

pub returns-in-Ok-clause-ends : goal.returns-in-Ok-clause-ends
returns-in-Ok-clause-ends g c =
    let none = none_before _ _ _ c.silent_reader-reader.ensures.fresh c.plain_writer-nowhere.ensures c.plain_writer-complaints.ensures in
    let list = c.args.case.list.now in
    let first = start_by c.args.case.settings c.args.marks.now in
    let text = origin_bytes g.F.Read.remaining c.args.origin in
    kept_end (EndsRun list first text) (Ok c.in-Ok.answered.ending) c.new-in-Ok.result c.new-in-Ok.ensures.ended c.new-in-Ok.ensures.memory
    (λ memory. run_of list first _ text c.in-Ok.answered.ending c.in_ok-start.ensures c.silent_reader-reader.ensures.bytes c.in-Ok.ensures.boots
    (c.in-Ok.ensures.played none))

pub returns-in-Ok-clause-memory : goal.returns-in-Ok-clause-memory
returns-in-Ok-clause-memory g c =
    kept_end (λ ended. run_lacks_memory ended ≡ false) (Ok c.in-Ok.answered.ending) c.new-in-Ok.result c.new-in-Ok.ensures.ended c.new-in-Ok.ensures.memory
    (λ memory. memory)

pub returns-clause-ends : goal.returns-clause-ends
returns-clause-ends g c =
    let list = c.args.case.list.now in
    let first = start_by c.args.case.settings c.args.marks.now in
    let text = origin_bytes g.F.Read.remaining c.args.origin in
    kept_end (EndsRun list first text) (Err c.in-Err.fault) c.new-in-Err.result c.new-in-Err.ensures.ended c.new-in-Err.ensures.memory
    (unbooted_end list first text c.in-Err.fault c.in-Err.ensures.unbooted)

pub returns-clause-memory : goal.returns-clause-memory
returns-clause-memory g c =
    kept_end (λ ended. run_lacks_memory ended ≡ false) (Err c.in-Err.fault) c.new-in-Err.result c.new-in-Err.ensures.ended c.new-in-Err.ensures.memory
    (λ memory. memory)
