use Rattle.std.proofs.Common.{◌≡◌, length}
use Rattle.list_parser.specs.PathIndex.{StandThere}
use Rattle.list_parser.proofs.FinderLemmas.{AreFirstOf}
use Rattle.list_parser.proofs.path_index.PathIndex.of.Given as goal

abbrev pub invariant-loop-place : goal.invariant-loop-place
invariant-loop-place l = record { kinds : length l.firsts ≡ 1024; first : AreFirstOf l.firsts l.entries l.place; there : StandThere l.firsts l.entries }
