-- One byte more.
use Rattle.std.proofs.Common.{arith, ◌++◌, sym, ◌∙◌}
use Rattle.budget_least.specs.WrittenDonation.{kept_pairs}
use Rattle.budget_least.proofs.DonationLemmas.{tells_end, tells_more}
use Rattle.budget_least.proofs.written_donation.add_others.Goals.{then-ends_pair+in_ok-add_other, else-ends_pair}
use Rattle.budget_least.proofs.written_donation.add_others.Goals as goal

pub loop-place-preserved : goal.loop-place-preserved
loop-place-preserved c =
    let args = c.args.args.now in
    let whole = c.args.told.now.items ++ kept_pairs args in
    elim c.if-ends_pair.branch [
      | then-ends_pair+in_ok-add_other w ↦ record {
        order = omega arith;
        text = tells_end args c.loop-place.is_quoted c.if-ends_pair.is_quoted c.loop-place.start c.if-ends_pair.start c.loop-place.place c.loop-place.told.items c.if-ends_pair.told.items whole
            c.loop-place-test.true (sym c.ends_pair.ensures ∙ w.if-ends_pair.true) w.is_quoted-is w.start-is (cc w.in_ok-add_other.ensures) c.loop-place.invariant.text;
      }
      | else-ends_pair w ↦ record {
        order = omega arith;
        text = tells_more args c.loop-place.is_quoted c.if-ends_pair.is_quoted c.loop-place.start c.if-ends_pair.start c.loop-place.place c.loop-place.told.items c.if-ends_pair.told.items whole
            c.loop-place.invariant.order c.loop-place-test.true (sym c.ends_pair.ensures ∙ w.if-ends_pair.false) (w.is_quoted-is ∙ w.quoted_after-is_quoted.ensures) w.start-is (cc) c.loop-place.invariant.text;
      }
    ]
