-- The entry comes last, and its list is one of those that are there.
use Rattle.std.proofs.Common.{◌≡◌, ◌≢◌, true, arith}
use Rattle.std.proofs.lemmas.Grind.{common_steps}
use Rattle.std.proofs.Math.ListN.{length-map}
use Rattle.serde_json.specs.View.{view}
use Rattle.list_parser.specs.Depth.{is_list}
use Rattle.list_parser.specs.View.{model_head, so_far}
use Rattle.list_parser.specs.declared.fault.BootFault.TheVariants.{NoMemory}
use Rattle.list_parser.proofs.DepthLemmas.{grow_by, grow_none}
use Rattle.list_parser.proofs.ReadLemmas.{entry_misread, entry_read_to, starts_below}
use Rattle.list_parser.proofs.list_reader.ListReader.read_entry.Goals as goal

pub returns-in-Err-clause-err : goal.returns-in-Err-clause-err
returns-in-Err-clause-err c =
    let told = λ (other : c.in-Err.fault.fault ≢ NoMemory). entry_misread c.args.deeper c.args.place.now (so_far c.args.self.now) (view c.args.value.now) c.in-Err.fault (rw c.as_slice.ensures.value at c.in-Err.ensures.err other) in
    grind (arith, common_steps, told)

pub returns-in_err-push-clause-grow : goal.returns-in_err-push-clause-grow
returns-in_err-push-clause-grow c =
    rw c.in_err-push.ensures.items (grow_none c.args.self.now.entries.items c.requires.homes)

pub returns-clause-ok : goal.returns-clause-ok
returns-clause-ok c =
    entry_read_to c.args.deeper c.args.place.now (so_far c.args.self.now) (view c.args.value.now) (model_head c.in-Ok.head) c.within.result _ (rw c.as_slice.ensures.value at c.in-Ok.ensures.ok)
    (grind (arith, common_steps)) c.in_ok-push.ensures.items (simp length-map (omega arith))

pub returns-clause-grow : goal.returns-clause-grow
returns-clause-grow c =
    let here : is_list c.args.self.now.entries.items c.in-Ok.head.entry.home ≡ true = rw c.in-Ok.ensures.home c.requires.list in
    rw c.in_ok-push.ensures.items (grow_by c.args.self.now.entries.items c.in-Ok.head.entry c.requires.homes here)

pub returns-clause-some : goal.returns-clause-some
returns-clause-some c =
    λ some. starts_below c.args.deeper c.args.self.now.entries.items c.push.new.self.items c.in-Ok.head.entry c.within.result c.requires.place.deep (c.in-Ok.ensures.some some)
    (grind (arith, common_steps)) c.in_ok-push.ensures.items
