use Rattle.std.proofs.Common.{◌≡◌, drop}
use Rattle.cli_base.specs.Given.{has_use}
use Rattle.cli_base.proofs.unread_names.reads_name.Given as goal

-- the name is read at this place or after it
abbrev pub invariant-loop-at : goal.invariant-loop-at
invariant-loop-at l = has_use l.name l.text ≡ has_use l.name (drop l.at l.text)
