-- The files of the paths so far.
use Rattle.std.proofs.Common.{take}
use Rattle.cli_tests.specs.Plan.{AreFiles}
use Rattle.cli_tests.proofs.file_search.files_at.Given as goal

abbrev pub invariant-loop-path : goal.invariant-loop-path
invariant-loop-path g l = AreFiles (g.H.Host.text_at l.host) (take l.path-index l.paths) l.all.items
