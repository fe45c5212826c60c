use Rattle.std.proofs.Common.{◌≡◌, ◌+◌, drop, length, map}
use Rattle.own_model.specs.Listed.{start_of, start_list_of}
use Rattle.own_model.specs.StartList.{inits_keep, inits_kept}
use Rattle.list_parts.proofs.start_quota.kept.Given as goal

abbrev pub invariant-loop-entry : goal.invariant-loop-entry
invariant-loop-entry l = record {
  kept : inits_kept (start_list_of l.list) ≡ inits_keep l.inits.items (map (start_of l.list) (drop l.entry-index l.entries));
  many : length l.inits.items ≡ l.entry-index + 1;
}
