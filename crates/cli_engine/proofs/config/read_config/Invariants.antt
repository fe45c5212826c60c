-- What was read stands in the text, and no read has failed.
use Rattle.std.proofs.Common.{◌≡◌, ◌-◌, ◌≤◌, false, length}
use Rattle.std.specs.Io.KnownBytes.{Consumes}
use Rattle.cli_engine.proofs.config.read_config.Given as goal

abbrev pub invariant-loop-block : goal.invariant-loop-block
invariant-loop-block g l = record {
  read : Consumes (g.S.Source.remaining l.initial.source) (g.S.Source.remaining l.source) l.text.items;
  fits : length l.text.items ≤ 65537;
  reads : g.S.Source.has_failed l.source ≡ false;
}

abbrev pub decreases-loop-block : goal.decreases-loop-block
decreases-loop-block g l = 65537 - length l.text.items
