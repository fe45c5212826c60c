-- One end after another, until all are there.
use Rattle.std.proofs.Common.{◌+◌, ◌∙◌, Some, ap, arith, refl, sym}
use Rattle.std.specs.Option.{option_copied}
use Rattle.list_labels.specs.Asked.{is_tail}
use Rattle.list_labels.specs.KnownLabels.{is_tail_after, is_tail_below}
use Rattle.list_labels.proofs.KnownLemmas.{added_as, added_then, tails_all, tails_more}
use Rattle.list_labels.proofs.known_labels.add_tails.Goals as goal

pub loop-cut-preserved : goal.loop-cut-preserved
loop-cut-preserved c =
    let before = c.args.before.now in
    let suffix = c.as_bytes-suffix.result.now in
    let cut = c.loop-cut.cut in
    record {
      some = omega arith;
      added = added_then (is_tail_below before suffix cut) (is_tail_after before suffix cut) (is_tail_below before suffix (cut + 1))
          c.args.known.now.items c.loop-cut.known.items c.add_tail.new.known.items c.loop-cut.invariant.added c.in_ok-add_tail.ensures
          (λ label filled. tails_more before suffix cut (cut + 1) label refl);
    }

pub returns : goal.returns
returns c =
    let before = c.args.before.now in
    let suffix = c.as_bytes-suffix.result.now in
    added_as (is_tail_below before suffix c.loop-cut.cut) (λ label. is_tail before label (option_copied c.args.asked))
    c.args.known.now.items c.loop-cut.known.items c.loop-cut.invariant.added
    (λ label filled. ap (λ o. is_tail before label o) (ap option_copied c.in-Some.is ∙ ap Some (sym c.as_bytes-suffix.ensures.value))
    ∙ tails_all before suffix c.loop-cut.cut label (omega (arith, c.loop-cut-test.false)) filled)
