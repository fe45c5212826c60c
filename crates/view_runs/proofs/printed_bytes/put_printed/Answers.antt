-- One byte more is gathered, or a write fails there.
use Rattle.std.proofs.Common.{map, arith, subst}
use Rattle.std.proofs.lemmas.List.{take_all}
use Rattle.own_model.specs.Reply.{printed}
use Rattle.run_devices.specs.RunOutput.{Tells}
use Rattle.run_lines.proofs.AccountLemmas.{told_on, told_cut}
use Rattle.run_devices.proofs.GatheredLemmas.{Tells-none, told_err}
use Rattle.view_runs.proofs.PrintedLemmas.{printed_cut, printed_more}
use Rattle.view_runs.proofs.printed_bytes.put_printed.Goals as goal

pub loop-byte-init : goal.loop-byte-init
loop-byte-init g c = record { told = Tells-none _ _; works = c.requires }

pub loop-byte-preserved : goal.loop-byte-preserved
loop-byte-preserved g c = record {
  told = told_on (printed_more c.args.bytes.now c.loop-byte.byte-index 0 c.printed.result c.loop-byte-test.true c.printed.ensures)
      c.loop-byte.invariant.told c.in_ok-put_byte.ensures.told;
  works = c.in_ok-put_byte.ensures.failing;
}

pub returns-in_err-put_byte-clause-told : goal.returns-in_err-put_byte-clause-told
returns-in_err-put_byte-clause-told g c =
    told_err _ _ _ c.from_residual.ensures.1
    (told_cut _ (printed_cut c.args.bytes.now c.loop-byte.byte-index 0 c.printed.result c.loop-byte-test.true c.printed.ensures)
    c.loop-byte.invariant.told (c.in_err-put_byte.ensures.told.1))

pub returns-clause-told : goal.returns-clause-told
returns-clause-told g c =
    subst (λ bytes. Tells (g.K.Sink.contents c.args.sink.now) c.args.gathered.now (g.K.Sink.contents c.loop-byte.sink) c.loop-byte.gathered (map printed bytes))
    (take_all c.loop-byte.byte-index c.args.bytes.now (omega (arith, c.loop-byte-test.false))) c.loop-byte.invariant.told
