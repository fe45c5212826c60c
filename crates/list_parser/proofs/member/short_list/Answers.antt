use Rattle.std.proofs.Common.{map, arith}
use Rattle.std.proofs.Math.ListN.{length-map}
use Rattle.serde_json.specs.View.{view}
use Rattle.list_parser.proofs.MemberLemmas.{short_list-read, short_list-refused}
use Rattle.list_parser.proofs.member.short_list.Goals as goal

pub returns-then-len-le-LONGEST_LIST-clause-value : goal.returns-then-len-le-LONGEST_LIST-clause-value
returns-then-len-le-LONGEST_LIST-clause-value c =
    short_list-read _ (map view c.in_ok-list.list.now.items) c.in_ok-list.ensures (simp length-map (omega arith))

pub returns-else-len-le-LONGEST_LIST-clause-value : goal.returns-else-len-le-LONGEST_LIST-clause-value
returns-else-len-le-LONGEST_LIST-clause-value c =
    short_list-refused _ (map view c.in_ok-list.list.now.items) c.in_ok-list.ensures (simp length-map (omega arith))
