-- One more line is played, or the play ends behind those played.
use Rattle.std.proofs.Common.{◌≡◌, ◌∷◌, [], ◌++◌, ◌+◌, ◌-◌, ◌≤◌, ℕ, Bool, Ok, arith, refl, sym, ◌∙◌, ap, subst, length, length-append}
use Rattle.std.proofs.lemmas.Bool.{or_from}
use Rattle.run_lines.specs.Faults.{line_fault}
use Rattle.run_lines.specs.Next.{BeginsIn}
use Rattle.run_lines.specs.LineRuns.{HandlesNext, point}
use Rattle.run_lines.proofs.FaultLemmas.{fault_writing}
use Rattle.run_lines.proofs.PlayLemmas.{breaks_before, come_fresh, none_begins, plays_more, plays_none, plays_to_end, plays_to_fault, plays_too_many}
use Rattle.run_lines.proofs.line_run.play.Goals as goal

pub loop-count-init : goal.loop-count-init
loop-count-init g c = record {
  ready = λ more is. let all : c.args.max_lines ≡ more = omega (arith, is) in subst (g.P.LineHandler.is_ready c.args.player.now c.args.core.now) all c.requires.ready;
  works = c.requires.works;
  played = ([], refl, c.requires.leads, plays_none (g.P.LineHandler.told c.args.player.now c.args.core.now) _ c.requires.silent);
}

pub play_next-requires-clause-ready : goal.play_next-requires-clause-ready
play_next-requires-clause-ready g c =
    (c.args.max_lines - c.loop-count.count - 1, c.loop-count.invariant.ready (c.args.max_lines - c.loop-count.count - 1 + 1) (omega arith))

pub loop-count-preserved : goal.loop-count-preserved
loop-count-preserved g c =
    let first = c.args.player.now in
    let start = c.args.core.now in
    let mid = point c.loop-count.buffers (g.S.Source.remaining c.loop-count.reader) (g.K.Sink.contents c.loop-count.writer) in
    let next = point c.play_next.new.buffers (g.S.Source.remaining c.play_next.new.reader) (g.K.Sink.contents c.play_next.new.writer) in
    let so = c.loop-count.invariant.played in
    let step = subst (λ (b : Bool). HandlesNext (g.P.LineHandler.told first start) (g.P.LineHandler.leads first start c.play_next.new.player c.play_next.new.core) (g.P.LineHandler.stops first start c.play_next.new.player c.play_next.new.core) so.0 (Ok b) (g.S.Source.has_failed c.play_next.new.reader) mid next)
    c.in-Ok-true.field-0-test (c.in-Ok-true.ensures.next first start so.0 so.2) in
    record {
      ready = λ more is. c.in-Ok-true.ensures.ready more (c.loop-count.invariant.ready (more + 1) (omega (arith, is))) c.in-Ok-true.field-0-test;
      works = c.in-Ok-true.ensures.works;
      played = (
        so.0 ++ step.0 ∷ [],
        length-append so.0 (step.0 ∷ []) ∙ ap (λ n. n + 1) so.1,
        step.2,
        plays_more (come_fresh c.args.buffers.now.ahead (g.S.Source.remaining c.args.reader.now) c.requires.fresh) so.3 next step.0 (c.in-Ok-true.ensures.behind first start so.0 so.2) step.1,
      );
    }

pub returns-in-Ok-false-clause-plays : goal.returns-in-Ok-false-clause-plays
returns-in-Ok-false-clause-plays g c =
    let first = c.args.player.now in
    let start = c.args.core.now in
    let leads = g.P.LineHandler.leads first start c.play_next.new.player c.play_next.new.core in
    let stops = g.P.LineHandler.stops first start c.play_next.new.player c.play_next.new.core in
    let mid = point c.loop-count.buffers (g.S.Source.remaining c.loop-count.reader) (g.K.Sink.contents c.loop-count.writer) in
    let next = point c.play_next.new.buffers (g.S.Source.remaining c.play_next.new.reader) (g.K.Sink.contents c.play_next.new.writer) in
    let so = c.loop-count.invariant.played in
    let step = subst (λ (b : Bool). HandlesNext (g.P.LineHandler.told first start) leads stops so.0 (Ok b) (g.S.Source.has_failed c.play_next.new.reader) mid next)
    c.in-Ok-false.field-0-test (c.in-Ok-false.ensures.next first start so.0 so.2) in
    plays_to_end (come_fresh c.args.buffers.now.ahead (g.S.Source.remaining c.args.reader.now) c.requires.fresh) so.3 leads stops next c.loop-count.count c.args.max_lines _
    (c.in-Ok-false.ensures.behind first start so.0 so.2) step.0 (omega (arith, so.1)) (sym so.1) step.1

pub returns-in-Err-clause-plays : goal.returns-in-Err-clause-plays
returns-in-Err-clause-plays g c =
    let first = c.args.player.now in
    let start = c.args.core.now in
    let leads = g.P.LineHandler.leads first start c.play_next.new.player c.play_next.new.core in
    let stops = g.P.LineHandler.stops first start c.play_next.new.player c.play_next.new.core in
    let next = point c.play_next.new.buffers (g.S.Source.remaining c.play_next.new.reader) (g.K.Sink.contents c.play_next.new.writer) in
    let so = c.loop-count.invariant.played in
    let breaks = c.in-Err.ensures.next first start so.0 so.2 in
    plays_to_fault (come_fresh c.args.buffers.now.ahead (g.S.Source.remaining c.args.reader.now) c.requires.fresh) so.3 leads stops next c.loop-count.count c.args.max_lines _
    (c.in-Err.ensures.behind first start so.0 so.2) c.in-Err.fault breaks (omega (arith, so.1, breaks.one)) c.fits.ensures

pub returns-in-Ok-true-begins_line-clause-plays : goal.returns-in-Ok-true-begins_line-clause-plays
returns-in-Ok-true-begins_line-clause-plays g c =
    let first = c.args.player.now in
    let start = c.args.core.now in
    let next = point (record { ahead = c.begins_line.new.self.ahead; gathered = [] }) (g.S.Source.remaining c.begins_line.new.source) (g.K.Sink.contents c.begins_line.new.sink) in
    let so = c.loop-count.invariant.played in
    let more = subst (λ (b : Bool). BeginsIn (Ok b) c.loop-count.buffers.ahead (g.S.Source.remaining c.loop-count.reader) (g.S.Source.remaining c.begins_line.new.source)) c.in-Ok-true-begins_line.field-0-test c.in-Ok-true-begins_line.ensures.begins in
    let full : length so.0 ≡ c.args.max_lines = omega (arith, so.1) in
    plays_too_many (come_fresh c.args.buffers.now.ahead (g.S.Source.remaining c.args.reader.now) c.requires.fresh) so.3 (g.P.LineHandler.leads first start c.loop-count.player c.loop-count.core) (g.P.LineHandler.stops first start c.loop-count.player c.loop-count.core) next c.args.max_lines c.args.max_lines _
    c.in-Ok-true-begins_line.ensures.behind full c.in-Ok-true-begins_line.ensures.told more so.2

pub returns-in-Ok-false-begins_line-clause-plays : goal.returns-in-Ok-false-begins_line-clause-plays
returns-in-Ok-false-begins_line-clause-plays g c =
    let first = c.args.player.now in
    let start = c.args.core.now in
    let next = point (record { ahead = c.begins_line.new.self.ahead; gathered = [] }) (g.S.Source.remaining c.begins_line.new.source) (g.K.Sink.contents c.begins_line.new.sink) in
    let so = c.loop-count.invariant.played in
    let none = subst (λ (b : Bool). BeginsIn (Ok b) c.loop-count.buffers.ahead (g.S.Source.remaining c.loop-count.reader) (g.S.Source.remaining c.begins_line.new.source)) c.in-Ok-false-begins_line.field-0-test c.in-Ok-false-begins_line.ensures.begins in
    plays_to_end (come_fresh c.args.buffers.now.ahead (g.S.Source.remaining c.args.reader.now) c.requires.fresh) so.3 (g.P.LineHandler.leads first start c.loop-count.player c.loop-count.core) (g.P.LineHandler.stops first start c.loop-count.player c.loop-count.core) next c.args.max_lines c.args.max_lines _
    c.in-Ok-false-begins_line.ensures.behind (record { tells = c.in-Ok-false-begins_line.ensures.told; none = none_begins _ none }) (omega (arith, so.1)) (omega (arith, so.1)) so.2

pub returns-in-Err-begins_line-clause-plays : goal.returns-in-Err-begins_line-clause-plays
returns-in-Err-begins_line-clause-plays g c =
    let first = c.args.player.now in
    let start = c.args.core.now in
    let leads = g.P.LineHandler.leads first start c.loop-count.player c.loop-count.core in
    let stops = g.P.LineHandler.stops first start c.loop-count.player c.loop-count.core in
    let mid = point c.loop-count.buffers (g.S.Source.remaining c.loop-count.reader) (g.K.Sink.contents c.loop-count.writer) in
    let next = point (record { ahead = c.begins_line.new.self.ahead; gathered = [] }) (g.S.Source.remaining c.begins_line.new.source) (g.K.Sink.contents c.begins_line.new.sink) in
    let so = c.loop-count.invariant.played in
    let few : length so.0 + 0 ≤ c.args.max_lines = omega (arith, so.1) in
    rw c.from.ensures (plays_to_fault (come_fresh c.args.buffers.now.ahead (g.S.Source.remaining c.args.reader.now) c.requires.fresh) so.3 leads stops next c.args.max_lines c.args.max_lines _
    c.in-Err-begins_line.ensures.behind (line_fault c.in-Err-begins_line.fault)
    (breaks_before (g.P.LineHandler.told first start) leads stops so.0 _ mid next Bool c.in-Err-begins_line.fault c.in-Err-begins_line.ensures.told c.in-Err-begins_line.ensures.failing.reading c.in-Err-begins_line.ensures.begins so.2)
    few c.fits-2.ensures)

pub returns-in-Ok-false-clause-writing : goal.returns-in-Ok-false-clause-writing
returns-in-Ok-false-clause-writing g c = c.in-Ok-false.ensures.writing

pub returns-in-Err-clause-writing : goal.returns-in-Err-clause-writing
returns-in-Err-clause-writing g c = c.in-Err.ensures.writing

pub returns-in-Ok-true-begins_line-clause-writing : goal.returns-in-Ok-true-begins_line-clause-writing
returns-in-Ok-true-begins_line-clause-writing g c = or_from _ _ c.in-Ok-true-begins_line.ensures.failing.writing c.loop-count.invariant.works.own

pub returns-in-Ok-false-begins_line-clause-writing : goal.returns-in-Ok-false-begins_line-clause-writing
returns-in-Ok-false-begins_line-clause-writing g c = or_from _ _ c.in-Ok-false-begins_line.ensures.failing.writing c.loop-count.invariant.works.own

pub returns-in-Err-begins_line-clause-writing : goal.returns-in-Err-begins_line-clause-writing
returns-in-Err-begins_line-clause-writing g c = rw c.from.ensures (fault_writing Bool c.in-Err-begins_line.fault _ _ c.in-Err-begins_line.ensures.failing.writing c.loop-count.invariant.works.own)
