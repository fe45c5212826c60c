use Rattle.std.proofs.Common.{◌≡◌, ◌+◌, ◌≤◌, drop, length, map}
use Rattle.serde_json.specs.View.{view}
use Rattle.list_parser.specs.Depth.{Grow}
use Rattle.list_parser.specs.Entries.{all_read, read_within}
use Rattle.list_parser.specs.View.{so_far}
use Rattle.list_parser.proofs.list_reader.ListReader.+read_list.Given as goal

abbrev pub invariant-loop-value : goal.invariant-loop-value
invariant-loop-value l = record {
  read : all_read (read_within l.deeper) l.place (so_far l.initial.self) (map view l.starts)
      ≡ all_read (read_within l.deeper) l.place (so_far l.self) (map view (drop l.value-index l.starts));
  grow : Grow l.initial.self.entries.items l.self.entries.items;
  count : length l.self.entries.items + l.initial.self.met ≡ length l.initial.self.entries.items + l.value-index + l.self.met;
  most : l.self.met ≤ 32;
}

abbrev pub decreases-read_list : goal.decreases-read_list
decreases-read_list l = l.deeper
