-- A close more.
use Rattle.std.proofs.Common.{◌+◌, refl, arith}
use Rattle.pd_core.proofs.ExitCallLemmas.{closes_on}
use Rattle.pd_core.proofs.exit.close_all.Goals as goal

pub loop-place-preserved : goal.loop-place-preserved
loop-place-preserved c = closes_on (c.loop-place.place + 1) c.requires.at.caller c.requires.script c.loop-place.invariant refl c.close.ensures

pub close-requires : goal.close-requires
close-requires c = record { core = c.loop-place.invariant.core; caller = omega (arith, c.requires.at.caller, c.loop-place.auto.components) }
