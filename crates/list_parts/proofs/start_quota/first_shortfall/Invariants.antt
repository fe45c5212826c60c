use Rattle.std.proofs.Common.{◌≡◌, ◌+◌, drop, length, map}
use Rattle.own_model.specs.Listed.{start_of, start_list_of}
use Rattle.own_model.specs.StartList.{inits_at_first}
use Rattle.list_parser.specs.Quota.{first_uncovered}
use Rattle.list_parts.specs.Left.{first_shortfall, lack_from}
use Rattle.list_parts.proofs.start_quota.first_shortfall.Given as goal

abbrev pub invariant-loop-number : goal.invariant-loop-number
invariant-loop-number l = record {
  first : first_shortfall l.list ≡ lack_from l.list l.number l.inits.items (drop l.number l.entries);
  covered :
      first_uncovered (inits_at_first (start_list_of l.list)) (start_list_of l.list).starts
      ≡ first_uncovered l.inits.items (map (start_of l.list) (drop l.number l.entries));
  many : length l.inits.items ≡ l.number + 1;
}
