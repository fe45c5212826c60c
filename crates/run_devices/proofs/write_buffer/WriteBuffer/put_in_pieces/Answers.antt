-- What is taken in after a flush is told behind what was told before.
use Rattle.std.proofs.Common.{◌++◌, arith, take, drop}
use Rattle.std.proofs.lemmas.Grind.{common_steps}
use Rattle.std.proofs.lemmas.List.{take-append-drop}
use Rattle.run_devices.specs.RunOutput.{Tells}
use Rattle.run_devices.proofs.GatheredLemmas.{Tells-gathered, Tells-more, Tells-front, told_err, take-rest}
use Rattle.run_devices.proofs.write_buffer.WriteBuffer.put_in_pieces.Goals as goal

pub loop-done-preserved : goal.loop-done-preserved
loop-done-preserved g c = record {
  within = grind (arith, common_steps);
  told = rw (take-rest c.loop-done.done c.take_in-done-in-loop-done.result c.args.bytes.now)
      (Tells-more c.loop-done.invariant.told (Tells-more c.in_ok-flush.ensures.told (Tells-gathered _ _ _ _ c.take_in-done-in-loop-done.ensures.grown)));
  works = c.in_ok-flush.ensures.failing;
}

pub returns-in_err-flush-clause-told : goal.returns-in_err-flush-clause-told
returns-in_err-flush-clause-told g c =
    let lost = c.in_err-flush.ensures.told in
    let told : Tells (g.K.Sink.contents c.args.sink.now) c.args.self.now (g.K.Sink.contents c.flush.new.sink) (lost.0 ++ drop c.loop-done.done c.args.bytes.now) (take c.loop-done.done c.args.bytes.now ++ drop c.loop-done.done c.args.bytes.now) =
    Tells-more c.loop-done.invariant.told (Tells-front (drop c.loop-done.done c.args.bytes.now) (lost.1)) in
    told_err _ _ _ c.from_residual.ensures.1 (_, rw take-append-drop at told)
