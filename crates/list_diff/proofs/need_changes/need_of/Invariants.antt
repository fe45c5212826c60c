use Rattle.std.proofs.Common.{◌≡◌, drop}
use Rattle.list_diff.specs.Needs.{need_of}
use Rattle.list_diff.proofs.need_changes.need_of.Given as goal

-- the need is that of the components that are left
abbrev pub invariant-loop-need : goal.invariant-loop-need
invariant-loop-need l = need_of (drop l.need-index l.needs) l.name ≡ need_of l.needs l.name
