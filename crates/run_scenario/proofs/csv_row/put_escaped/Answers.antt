-- One byte more is told, or a write fails there.
use Rattle.std.proofs.Common.{rules, subst}
use Rattle.run_devices.specs.RunOutput.{Tells}
use Rattle.run_lines.proofs.AccountLemmas.{told_on, told_cut}
use Rattle.run_devices.proofs.GatheredLemmas.{Tells-none, told_err}
use Rattle.run_scenario.proofs.CellLemmas.{escaped_cut, escaped_more, escaped_nothing}
use Rattle.run_scenario.proofs.csv_row.put_escaped.Goals as goal

pub loop-place-init : goal.loop-place-init
loop-place-init g c = record {
  told = subst (Tells (g.K.Sink.contents c.args.sink.now) c.args.gathered.now (g.K.Sink.contents c.args.sink.now) c.args.gathered.now) escaped_nothing
      (Tells-none (g.K.Sink.contents c.args.sink.now) c.args.gathered.now);
  works = c.requires;
}

pub loop-place-preserved : goal.loop-place-preserved
loop-place-preserved g c = record {
  told = told_on (escaped_more c.args.text.now c.loop-place.place (search rules)) c.loop-place.invariant.told c.in_ok-put_byte.ensures.told;
  works = c.in_ok-put_byte.ensures.failing;
}

pub returns-in_err-put_byte-clause-told : goal.returns-in_err-put_byte-clause-told
returns-in_err-put_byte-clause-told g c =
    told_err _ _ _ c.from_residual.ensures.1
    (told_cut _ (escaped_cut c.args.text.now c.loop-place.place (search rules)) c.loop-place.invariant.told (c.in_err-put_byte.ensures.told.1))
