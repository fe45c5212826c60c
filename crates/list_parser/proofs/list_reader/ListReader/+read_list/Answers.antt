-- One entry more is read, with those that it starts.
use Rattle.std.proofs.Common.{◌≡◌, ◌≢◌, ◌∙◌, ap, map, length, arith}
use Rattle.std.proofs.lemmas.Grind.{common_steps}
use Rattle.serde_json.specs.View.{view}
use Rattle.list_parser.specs.Depth.{reads_below}
use Rattle.list_parser.specs.Entries.{all_read, read_within}
use Rattle.list_parser.specs.View.{so_far}
use Rattle.list_parser.specs.declared.fault.BootFault.TheVariants.{NoMemory}
use Rattle.list_parser.proofs.DepthLemmas.{grow_then}
use Rattle.list_parser.proofs.MemberLemmas.{next_passed, next_refused, none_left}
use Rattle.list_parser.proofs.ReadLemmas.{below_less}
use Rattle.list_parser.proofs.list_reader.ListReader.+read_list.Goals as goal
use Rattle.list_parser.proofs.list_reader.ListReader.+read_list.Goals.{then-not-is_empty+in_ok-read_list, else-not-is_empty}

pub returns-in_err-read_list-clause-err : goal.returns-in_err-read_list-clause-err
returns-in_err-read_list-clause-err t c =
    let below = c.in_ok-below.below in
    let some = c.in_ok-below.ensures.some (grind (arith, common_steps)) in
    let told = λ (other : c.in_err-read_list.field-0.0.fault ≢ NoMemory).
    next_refused (read_within c.args.deeper c.args.place.now) (so_far c.args.self.now) (so_far c.loop-value.self) c.args.starts.now c.loop-value.value-index c.value-item.result
    c.loop-value.invariant.read c.loop-value-test.true c.value-item.is c.in_err-read_list.field-0.0
    (c.in_ok-below.ensures.ok ∙ ap (λ reads. all_read reads below.place (so_far c.read_entry.new.self) (map view below.starts.now)) (below_less c.args.deeper some.some) ∙ c.in_err-read_list.ensures.err other) in
    grind (arith, common_steps, told)

pub loop-value-preserved : goal.loop-value-preserved
loop-value-preserved t c = elim c.if-not-is_empty.branch [
  | then-not-is_empty+in_ok-read_list w ↦
      let below = c.in_ok-below.below in
      let some = c.in_ok-below.ensures.some (grind (arith, common_steps)) in
      rw w.self-is (record {
        read = next_passed (read_within c.args.deeper c.args.place.now) (so_far c.args.self.now) (so_far c.loop-value.self) c.args.starts.now c.loop-value.value-index c.value-item.result
            c.loop-value.invariant.read c.loop-value-test.true c.value-item.is (so_far w.read_list.new.self)
            (c.in_ok-below.ensures.ok ∙ ap (λ reads. all_read reads below.place (so_far c.read_entry.new.self) (map view below.starts.now)) (below_less c.args.deeper some.some) ∙ w.in_ok-read_list.ensures.ok);
        grow = grow_then c.loop-value.invariant.grow (grow_then c.in_ok-below.ensures.grow w.in_ok-read_list.ensures.grow);
        count = omega (arith, c.loop-value.invariant.count, c.in_ok-below.ensures.count, c.in_ok-below.ensures.met, w.in_ok-read_list.ensures.count);
        most = w.in_ok-read_list.ensures.most;
      })
  | else-not-is_empty w ↦
      let below = c.in_ok-below.below in
      let none : length below.starts.now ≡ 0 = grind (arith, common_steps) in
      rw w.self-is (record {
        read = next_passed (read_within c.args.deeper c.args.place.now) (so_far c.args.self.now) (so_far c.loop-value.self) c.args.starts.now c.loop-value.value-index c.value-item.result
            c.loop-value.invariant.read c.loop-value-test.true c.value-item.is (so_far c.read_entry.new.self)
            (c.in_ok-below.ensures.ok ∙ none_left (reads_below c.args.deeper below.place) (so_far c.read_entry.new.self) below.starts.now none);
        grow = grow_then c.loop-value.invariant.grow c.in_ok-below.ensures.grow;
        count = omega (arith, c.loop-value.invariant.count, c.in_ok-below.ensures.count, c.in_ok-below.ensures.met, none);
        most = c.in_ok-below.ensures.most;
      })
]
