-- The loop ends when enough bytes were read, or at the end of the source.
use Rattle.std.proofs.Common.{arith}
use Rattle.std.proofs.lemmas.List.{length-take}
use Rattle.cli_engine.proofs.ConfigLemmas.{read_in_full, read_none}
use Rattle.cli_engine.proofs.config.read_config.Goals as goal
use Rattle.cli_engine.proofs.config.read_config.Goals.{else-loop-block-test, then-loop-block-test+in_ok-count+then-count-eq0}

pub returns-clause-text : goal.returns-clause-text
returns-clause-text g c =
    elim c.loop-block-test.branch [
      | else-loop-block-test w ↦ read_in_full _ _ _ _ c.loop-block.invariant.read (omega arith) c.loop-block.invariant.fits
      | then-loop-block-test+in_ok-count+then-count-eq0 w ↦
          read_none _ _ _ _ _ _ _ c.loop-block.invariant.read w.in_ok-count.ensures.bytes.0 w.if-count-eq0.true c.loop-block.invariant.fits
          (w.in_ok-count.ensures.bytes.1 w.if-count-eq0.true (omega (arith, length-take w.min-room.result c.loop-block.block)))
    ]
