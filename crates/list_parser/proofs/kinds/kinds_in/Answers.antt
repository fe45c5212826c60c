-- Kinds are read one after another.
use Rattle.std.proofs.Common.{◌≡◌, [], ◌∷◌, ◌++◌, Ok, Err, map, subst}
use Rattle.serde_json.specs.View.{view}
use Rattle.list_parser.specs.DeclaredServers.{with_next}
use Rattle.list_parser.proofs.KindLemmas.{kind_passed, kind_refused, read_more}
use Rattle.list_parser.proofs.MemberLemmas.{next_refused}
use Rattle.list_parser.proofs.kinds.kinds_in.Goals as goal

pub loop-value-preserved : goal.loop-value-preserved
loop-value-preserved c =
    let kinds = c.loop-value.kinds.items in
    rw c.in_ok-push-in-Ok.ensures.items
    (read_more kinds c.args.values.now c.loop-value.value-index c.value-item.result c.in-Ok.kind c.loop-value.invariant c.loop-value-test.true c.value-item.is
    (kind_passed kinds (view c.value-item.result) c.in-Ok.kind (rw (← c.as_slice.ensures.value) c.in-Ok.ensures.value)) c.in-Ok.ensures.kind (rw (← c.as_slice.ensures.value) c.in-Ok.ensures.new))
