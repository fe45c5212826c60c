-- One view more.
use Rattle.std.proofs.Common.{◌≡◌, [], ◌∷◌, ◌++◌, arith, subst, sym}
use Rattle.std.proofs.lemmas.Grind.{common_steps}
use Rattle.list_reach.specs.Deciding.{AreDecisions}
use Rattle.list_reach.proofs.AdditionLemmas.{adds_one}
use Rattle.list_findings.specs.Views.{IsShown, Shows, ViewOf, asking_of}
use Rattle.list_findings.proofs.decision_views.add_view.Goals as goal

pub returns : goal.returns
returns c =
    let named : c.in_ok-service.service ≡ c.args.service.now = first_of (cc, grind (arith, common_steps)) in
    let asked : c.as_bytes.result.now ≡ c.in_ok-service.service = first_of (cc, grind (arith, common_steps)) in
    let view : ViewOf = record { client = c.args.client; service = c.in_ok-service.service; trails = c.in_ok-trails.trails } in
    let items : c.push.new.self.items ≡ c.args.views.now.items ++ view ∷ [] = first_of (cc, grind (arith, common_steps)) in
    subst (λ s. Shows c.args.list.now c.args.views.now.items (record { client = c.args.client; service = s } ∷ []) c.push.new.self.items) named
    (subst (λ new. Shows c.args.list.now c.args.views.now.items (record { client = c.args.client; service = c.in_ok-service.service } ∷ []) new)
    (sym items)
    (adds_one asking_of (IsShown c.args.list.now) c.args.views.now.items view c.requires.shown
    (subst (λ s. AreDecisions c.args.list.now c.args.client s c.in_ok-trails.trails) asked c.in_ok-trails.ensures)))
