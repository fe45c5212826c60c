-- The page that was taken is none of those before.
use Rattle.std.proofs.Common.{◌≡◌, ◌≢◌, ℕ, ◌<◌, length, ◌∙◌, ⊎_elim, below_more, arith}
use Rattle.std.proofs.lemmas.List.{get_or-set_same, get_or-set_other, length-set}
use Rattle.std.proofs.lemmas.Bool.{cases_eq}
use Rattle.layer_tests.proofs.pages.take_sixteen.Goals as goal

pub loop-k-preserved : goal.loop-k-preserved
loop-k-preserved g c =
    let last : ℕ = c.loop-k.k in
    let page : ℕ = c.take_and_fill.result.0 in
    let there : last < length c.loop-k.pages = let sized = c.loop-k.invariant.sized in omega arith in
    let now = get_or-set_same c.loop-k.pages last page 0 there in
    let before : (k : ℕ) → k < last → _ = λ k h. get_or-set_other c.loop-k.pages last k page 0 (omega (arith, h)) in
    record {
      sized = length-set c.loop-k.pages last page ∙ c.loop-k.invariant.sized;
      taken = below_more _ _
          (λ k h. rw (before k h) (c.take_and_fill.ensures.others _ (c.loop-k.invariant.taken k h)))
          (rw now c.take_and_fill.ensures.taken);
      apart = λ j k less h. let j_before : j < last = omega (arith, less, h) in ⊎_elim
          (λ (e : k ≡ last). rw (before j j_before, e, now) (c.take_and_fill.ensures.apart _ (c.loop-k.invariant.taken j j_before)))
          (λ (ne : k ≢ last). let k_before : k < last = omega (arith, h) in rw (before j j_before, before k k_before) (c.loop-k.invariant.apart j k less k_before))
          (cases_eq k last);
    }
