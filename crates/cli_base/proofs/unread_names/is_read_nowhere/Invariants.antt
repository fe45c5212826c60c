-- No file so far reads the name.
use Rattle.std.proofs.Common.{ℕ, List, take}
use Rattle.std.specs.Prelude.{All}
use Rattle.std.specs.Borrow.{Bor}
use Rattle.cli_base.specs.Given.{LacksName}
use Rattle.cli_base.proofs.unread_names.is_read_nowhere.Given as goal

abbrev pub invariant-loop-path : goal.invariant-loop-path
invariant-loop-path g l = All (λ (path : Bor (List ℕ)). LacksName (g.H.Host.text_at l.host) l.name path.now) (take l.path-index l.paths)
