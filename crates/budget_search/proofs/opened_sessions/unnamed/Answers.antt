-- One more, and all.
use Rattle.std.proofs.Common.{arith, ◌≡◌, ◌∷◌, [], ◌++◌, ap, ◌∙◌}
use Rattle.std.proofs.lemmas.List.{replicate_more}
use Rattle.std.specs.Prelude.{replicate, None}
use Rattle.budget_search.proofs.opened_sessions.unnamed.Goals as goal

pub loop-count-preserved : goal.loop-count-preserved
loop-count-preserved c = record {
  all =
      c.in_ok-push.ensures.items ∙ ap (λ owners. owners ++ None ∷ []) c.loop-count.invariant.all ∙ replicate_more c.loop-count.count None;
  within = omega (arith, c.loop-count-test.true);
}

pub returns : goal.returns
returns c =
    let all : c.loop-count.count ≡ 4097 = omega (arith, c.loop-count-test.false, c.loop-count.invariant.within) in
    c.loop-count.invariant.all ∙ ap (λ n. replicate n None) all
