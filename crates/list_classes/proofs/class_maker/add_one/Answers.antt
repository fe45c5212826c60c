-- One more class, of one label.
use Rattle.std.proofs.Common.{List, ℕ, ◌∙◌, ap, refl, subst, sym}
use Rattle.list_labels.specs.Asked.{is_given}
use Rattle.list_labels.proofs.AskedLemmas.{read_is}
use Rattle.list_classes.specs.Classes.{IsLongestIn}
use Rattle.list_classes.specs.Making.{has_single}
use Rattle.list_classes.proofs.MakingLemmas.{one_added}
use Rattle.list_classes.proofs.class_maker.add_one.Goals as goal

pub returns-clause-made : goal.returns-clause-made
returns-clause-made c =
    one_added c.args.parts.fronts.now c.args.parts.ends.now c.args.parts.known.now c.args.classes.now.items c.push.new.self.items _
    c.args.label.now c.requires.made refl
    ((read_is c.as_bytes-2.result.now c.in-Some.witness (is_given c.as_bytes-2.result.now) c.in-Some.ensures).0 ∙ c.as_bytes-2.ensures.bytes)
    (subst (λ (l : List ℕ). IsLongestIn c.args.parts.fronts.now l c.place_of.result) c.as_bytes-3.ensures.bytes c.place_of.ensures)
    (subst (λ (l : List ℕ). IsLongestIn c.args.parts.ends.now l c.place_of-2.result) c.as_bytes-4.ensures.bytes c.place_of-2.ensures)
    c.requires.known
    (ap (λ cs. has_single cs c.args.label.now) (sym c.deref.ensures.value)
    ∙ (ap (λ l. has_single c.deref.result.now l) (sym c.as_bytes.ensures.bytes) ∙ (sym c.has_single.ensures ∙ c.if-has_single.false)))
    c.in_ok-push.ensures.items
