-- The text isn't at this place.
use Rattle.std.proofs.Common.{◌∙◌, ℕ, List, ap, arith, nat_eq, sym}
use Rattle.std.specs.List.{starts_with}
use Rattle.list_policy.proofs.ReadingLemmas.{text_passed}
use Rattle.list_policy.proofs.cuts.text_at.Goals as goal

pub loop-at-preserved : goal.loop-at-preserved
loop-at-preserved c =
    text_passed c.args.needle.now c.args.text.now c.loop-at.at (omega (arith, c.loop-at-test.true))
    (ap (λ (t : List ℕ). starts_with nat_eq t c.args.needle.now) (sym c.skip_bytes.ensures)
    ∙ (sym c.starts_with.ensures.value ∙ c.if-starts_with.false))
    c.loop-at.invariant
