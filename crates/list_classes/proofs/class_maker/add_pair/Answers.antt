-- One more class, of several labels.
use Rattle.std.proofs.Common.{refl}
use Rattle.list_classes.proofs.MakingLemmas.{pair_added}
use Rattle.list_classes.proofs.class_maker.add_pair.Goals as goal

pub returns-in_ok-push : goal.returns-in_ok-push
returns-in_ok-push c =
    pair_added c.args.parts.fronts.now c.args.parts.ends.now c.args.parts.known.now c.args.front c.args.end c.args.classes.now.items
    c.push.new.self.items _ c.requires.made refl refl refl c.in-Some.ensures.witness.front c.in-Some.ensures.witness.end c.in-Some.ensures.witness.unknown
    (λ label given front_is end_is none.
    c.in-Some.ensures.least label given (record { front = front_is; end = end_is; unknown = none }))
    c.in_ok-push.ensures.items
