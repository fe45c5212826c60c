-- A label of this length has just what the ending has after the shared bytes.
use Rattle.std.proofs.Common.{◌∙◌, ◌-◌, arith, drop, length, sym}
use Rattle.std.proofs.lemmas.Bool.{both_ways}
use Rattle.std.proofs.lemmas.List.{length-drop, take_all}
use Rattle.list_classes.proofs.WitnessLemmas.{none_sharing, shared_by}
use Rattle.list_classes.proofs.witness.TextPair.sharing.Goals as goal

pub returns-then-ends_with : goal.returns-then-ends_with
returns-then-ends_with c =
    let cut = length c.args.end.now - c.args.rest in
    shared_by c.args.self.now c.args.front.now c.args.end.now _ c.args.rest c.label_of.result
    (take_all (length c.args.end.now - cut) (drop cut c.args.end.now) (omega (arith, length-drop cut c.args.end.now)))
    c.requires c.label_of.ensures

pub returns-else-ends_with : goal.returns-else-ends_with
returns-else-ends_with c =
    none_sharing c.args.self.now c.args.front.now c.args.end.now c.args.rest c.requires
    (λ ends given is. both_ways _ (sym c.ends_with.ensures.value ∙ c.if-ends_with.false) ends)
