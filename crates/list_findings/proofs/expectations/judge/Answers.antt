-- Each finding meets an expectation or is left, and then each expectation that is left is a finding.
use Rattle.std.proofs.Common.{◌≡◌, [], ◌∷◌, ◌++◌, length, map, ap, sym, ◌∙◌, arith}
use Rattle.std.proofs.lemmas.List.{append-nil, append_assoc, nil_from_length}
use Rattle.std.specs.Vec.Iter.{into_iter_items}
use Rattle.list_findings.specs.Expectations.{judged, unmet}
use Rattle.list_findings.proofs.expectations.judge.Goals as goal

pub loop-finding-init : goal.loop-finding-init
loop-finding-init c =
    let gives = c.into_iter-finding-iterator.ensures.into_iter_gives in record {
      all =
          ap (λ left. left ++ judged c.args.expected.items (into_iter_items c.into_iter-finding-iterator.result)) c.new-left.ensures.items
          ∙ ap (judged c.args.expected.items) gives.0;
      exact = gives.1 ∙ c.args.found.ok.0 ∙ ap length (sym gives.0);
    }

pub loop-finding-preserved : goal.loop-finding-preserved
loop-finding-preserved c =
    let steps : into_iter_items c.loop-finding.finding-iterator ≡ c.in-Some.finding ∷ into_iter_items c.next.new.self = c.in-Some.ensures.steps.0 in record {
      all =
          c.in_ok-judge_one.ensures (into_iter_items c.next.new.self)
          ∙ ap (λ more. c.loop-finding.left.items ++ judged c.loop-finding.expected.items more) (sym steps)
          ∙ c.loop-finding.invariant.all;
      exact = let was = c.loop-finding.invariant.exact in let gone = c.in-Some.ensures.steps.1 in let short = ap length steps in omega arith;
    }

pub loop-expectation-init : goal.loop-expectation-init
loop-expectation-init c =
    let gives = c.into_iter-expectation-iterator.ensures.into_iter_gives in
    let none = nil_from_length _ (sym c.loop-finding.invariant.exact ∙ c.in-None.ensures.steps.0) in record {
      all =
          ap (λ es. c.loop-finding.left.items ++ map unmet es) gives.0
          ∙ ap (λ fs. c.loop-finding.left.items ++ judged c.loop-finding.expected.items fs) (sym none)
          ∙ c.loop-finding.invariant.all;
      exact = gives.1 ∙ c.loop-finding.expected.ok.0 ∙ ap length (sym gives.0);
    }

pub loop-expectation-preserved : goal.loop-expectation-preserved
loop-expectation-preserved c =
    let rest = into_iter_items c.next-in-loop-expectation.new.self in
    let steps : into_iter_items c.loop-expectation.expectation-iterator ≡ c.in-Some-expectation.expectation ∷ rest = c.in-Some-expectation.ensures.steps.0 in record {
      all =
          ap (λ left. left ++ map unmet rest) c.in_ok-push.ensures.items
          ∙ append_assoc c.loop-expectation.left.items (_ ∷ []) (map unmet rest)
          ∙ ap (λ finding. c.loop-expectation.left.items ++ finding ∷ map unmet rest) c.unmet.ensures
          ∙ ap (λ es. c.loop-expectation.left.items ++ map unmet es) (sym steps)
          ∙ c.loop-expectation.invariant.all;
      exact = let was = c.loop-expectation.invariant.exact in let gone = c.in-Some-expectation.ensures.steps.1 in let short = ap length steps in omega arith;
    }

pub returns : goal.returns
returns c =
    let none = nil_from_length _ (sym c.loop-expectation.invariant.exact ∙ c.in-None-expectation.ensures.steps.0) in
    sym (append-nil c.loop-expectation.left.items)
    ∙ ap (λ es. c.loop-expectation.left.items ++ map unmet es) (sym none)
    ∙ c.loop-expectation.invariant.all
