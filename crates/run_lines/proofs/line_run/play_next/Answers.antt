-- A line that was found is played and passed, one that is too long is passed, or a fault comes before any.
use Rattle.std.proofs.Common.{Ok, arith, refl, subst, take, true}
use Rattle.std.proofs.lemmas.Bool.{or_from}
use Rattle.std.proofs.lemmas.List.{length-take}
use Rattle.run_devices.specs.Lines.{to_come}
use Rattle.run_lines.specs.Next.{FindsNextIn, IsReady}
use Rattle.run_lines.specs.LineRuns.{point}
use Rattle.run_lines.specs.Reach.{reach}
use Rattle.run_lines.specs.declared.lines.NextLine.{NextLine}
use Rattle.run_lines.proofs.FaultLemmas.{fault_writing, line_writing, ready_on, works_on}
use Rattle.run_lines.proofs.PlayLemmas.{breaks_before, passes_ahead, passes_long, played_line}
use Rattle.run_lines.proofs.ReachLemmas.{behind_then, writes_told}
use Rattle.run_lines.proofs.line_run.play_next.Goals as goal

pub returns-in-Ok-Line-clause-next : goal.returns-in-Ok-Line-clause-next
returns-in-Ok-Line-clause-next g c = λ first start earlier led.
    let before = g.S.Source.remaining c.args.reader.now in
    let rest = g.S.Source.remaining c.next_line.new.source in
    let found = subst (λ (next : NextLine). FindsNextIn (Ok next) c.args.buffers.now.ahead before c.next_line.new.self.ahead rest) c.in-Ok-Line.field-0-is c.in-Ok-Line.ensures.finds.next in
    let ready = subst (λ (next : NextLine). IsReady next c.next_line.new.self.ahead c.next_line.new.self.gathered) c.in-Ok-Line.field-0-is c.in-Ok-Line.ensures.finds.ready in
    rw c.more_unless_stopped.ensures (played_line (g.P.LineHandler.told first start) (g.P.LineHandler.leads first start c.play_ahead.new.player c.play_ahead.new.core) (g.P.LineHandler.stops first start c.play_ahead.new.player c.play_ahead.new.core) earlier
    (g.S.Source.has_failed c.next_line.new.source)
    (point c.args.buffers.now before (g.K.Sink.contents c.args.writer.now))
    (point c.play_ahead.new.buffers rest (g.K.Sink.contents c.play_ahead.new.writer))
    (g.K.Sink.contents c.next_line.new.sink) c.next_line.new.self.gathered (take c.in-Ok-Line.count c.next_line.new.self.ahead)
    c.in-Ok-Line.ensures.finds.told
    (passes_ahead (to_come c.args.buffers.now.ahead before) rest c.next_line.new.self.ahead c.play_ahead.new.buffers.ahead c.in-Ok-Line.count found c.play_ahead.ensures.passed)
    (omega (arith, ready.1, length-take c.in-Ok-Line.count c.next_line.new.self.ahead))
    c.play_ahead.result _ (c.play_ahead.ensures.played first start earlier led) c.play_ahead.ensures.failing)

pub returns-in-Ok-TooLong-clause-next : goal.returns-in-Ok-TooLong-clause-next
returns-in-Ok-TooLong-clause-next g c = λ first start earlier led.
    let before = g.S.Source.remaining c.args.reader.now in
    let rest = g.S.Source.remaining c.next_line.new.source in
    let found = subst (λ (next : NextLine). FindsNextIn (Ok next) c.args.buffers.now.ahead before c.next_line.new.self.ahead rest) c.in-Ok-TooLong.field-0-is c.in-Ok-TooLong.ensures.finds.next in
    let long = passes_long (to_come c.args.buffers.now.ahead before) (to_come c.next_line.new.self.ahead rest) found in
    rw c.more_unless_stopped-in-Ok-TooLong.ensures (played_line (g.P.LineHandler.told first start) (g.P.LineHandler.leads first start c.play_too_long.new.self c.play_too_long.new.core) (g.P.LineHandler.stops first start c.play_too_long.new.self c.play_too_long.new.core) earlier
    (g.S.Source.has_failed c.next_line.new.source)
    (point c.args.buffers.now before (g.K.Sink.contents c.args.writer.now))
    (point (record { ahead = c.next_line.new.self.ahead; gathered = c.play_too_long.new.gathered }) rest (g.K.Sink.contents c.play_too_long.new.writer))
    (g.K.Sink.contents c.next_line.new.sink) c.next_line.new.self.gathered long.0
    c.in-Ok-TooLong.ensures.finds.told long.2 long.3
    c.play_too_long.result _ (c.play_too_long.ensures.played first start earlier long.0 long.1 led) c.play_too_long.ensures.failing)

pub returns-in-Err-clause-next : goal.returns-in-Err-clause-next
returns-in-Err-clause-next g c = λ first start earlier led.
    rw c.from.ensures (breaks_before (g.P.LineHandler.told first start) (g.P.LineHandler.leads first start c.args.player.now c.args.core.now) (g.P.LineHandler.stops first start c.args.player.now c.args.core.now) earlier _ _ _ NextLine c.in-Err.fault
    c.in-Err.ensures.finds.told c.in-Err.ensures.failing.reading c.in-Err.ensures.finds.next led)

pub returns-in-Ok-Line-clause-behind : goal.returns-in-Ok-Line-clause-behind
returns-in-Ok-Line-clause-behind g c = λ first start earlier led.
    behind_then _ _ _ _ reach _ refl c.in-Ok-Line.ensures.finds.behind (writes_told c.play_ahead.result _ _ _ _ _ (c.play_ahead.ensures.played first start earlier led).tells)

pub returns-in-Ok-TooLong-clause-behind : goal.returns-in-Ok-TooLong-clause-behind
returns-in-Ok-TooLong-clause-behind g c = λ first start earlier led.
    let found = subst (λ (next : NextLine). FindsNextIn (Ok next) c.args.buffers.now.ahead (g.S.Source.remaining c.args.reader.now) c.next_line.new.self.ahead (g.S.Source.remaining c.next_line.new.source)) c.in-Ok-TooLong.field-0-is c.in-Ok-TooLong.ensures.finds.next in
    let long = passes_long (to_come c.args.buffers.now.ahead (g.S.Source.remaining c.args.reader.now)) (to_come c.next_line.new.self.ahead (g.S.Source.remaining c.next_line.new.source)) found in
    behind_then _ _ _ _ reach _ refl c.in-Ok-TooLong.ensures.finds.behind (writes_told c.play_too_long.result _ _ _ _ _ (c.play_too_long.ensures.played first start earlier long.0 long.1 led).tells)

pub returns-in-Ok-Line-clause-ready : goal.returns-in-Ok-Line-clause-ready
returns-in-Ok-Line-clause-ready g c = λ more is. rw c.more_unless_stopped.ensures (ready_on _ c.play_ahead.result (c.play_ahead.ensures.ready more is))

pub returns-in-Ok-TooLong-clause-ready : goal.returns-in-Ok-TooLong-clause-ready
returns-in-Ok-TooLong-clause-ready g c = λ more is. rw c.more_unless_stopped-in-Ok-TooLong.ensures (ready_on _ c.play_too_long.result (c.play_too_long.ensures.ready more is))

pub returns-in-Ok-Line-clause-works : goal.returns-in-Ok-Line-clause-works
returns-in-Ok-Line-clause-works g c = rw c.more_unless_stopped.ensures (works_on c.play_ahead.result _ _ _ c.in-Ok-Line.ensures.failing.reading c.play_ahead.ensures.failing)

pub returns-in-Ok-TooLong-clause-works : goal.returns-in-Ok-TooLong-clause-works
returns-in-Ok-TooLong-clause-works g c = rw c.more_unless_stopped-in-Ok-TooLong.ensures (works_on c.play_too_long.result _ _ _ c.in-Ok-TooLong.ensures.failing.reading c.play_too_long.ensures.failing)

pub returns-in-Ok-Line-clause-writing : goal.returns-in-Ok-Line-clause-writing
returns-in-Ok-Line-clause-writing g c = rw c.more_unless_stopped.ensures (line_writing c.play_ahead.result _ true c.play_ahead.ensures.failing)

pub returns-in-Ok-TooLong-clause-writing : goal.returns-in-Ok-TooLong-clause-writing
returns-in-Ok-TooLong-clause-writing g c = rw c.more_unless_stopped-in-Ok-TooLong.ensures (line_writing c.play_too_long.result _ true c.play_too_long.ensures.failing)

pub returns-in-Ok-End-clause-writing : goal.returns-in-Ok-End-clause-writing
returns-in-Ok-End-clause-writing g c = or_from _ _ c.in-Ok-End.ensures.failing.writing c.requires.works.own

pub returns-in-Err-clause-writing : goal.returns-in-Err-clause-writing
returns-in-Err-clause-writing g c = rw c.from.ensures (fault_writing NextLine c.in-Err.fault _ _ c.in-Err.ensures.failing.writing c.requires.works.own)
