-- Init by init, the innermost first.
use Rattle.std.proofs.Common.{arith, ◌≡◌, ◌-◌, suc, length, refl, sym, ap, subst, ◌∙◌, Bor}
use Rattle.own_model.specs.Listed.{Listed}
use Rattle.budget_least.proofs.NeededLemmas.{needed_all, needed_first}
use Rattle.budget_least.specs.InitNeeds.{AreNeededFrom}
use Rattle.budget_least.proofs.report.BudgetReport.sum_inits.Goals as goal

pub loop-place-init : goal.loop-place-init
loop-place-init c =
    let choice = c.args.self.now.choice in
    let list = c.args.self.now.list.now in
    let accounts = c.args.self.now.accounts.items in
    record {
      list = refl;
      choice = refl;
      scene = refl;
      accounts = λ count before. (before, refl);
      within = omega (arith, c.count-place.ensures.value);
      needed = subst (λ n. AreNeededFrom n choice list accounts) (sym c.count-place.ensures.value) (needed_first choice list accounts accounts);
    }

pub sum_init-requires : goal.sum_init-requires
sum_init-requires c = omega (arith, c.loop-place.invariant.within, c.loop-place-test.true)

pub loop-place-preserved : goal.loop-place-preserved
loop-place-preserved c =
    let self = c.loop-place.self in
    let count = ap (λ (list : Bor Listed). length list.now.entries) c.sum_init.ensures.list in
    let next : c.loop-place.place ≡ suc (c.loop-place.place - 1) = omega (arith, c.loop-place-test.true) in
    record {
      list = c.sum_init.ensures.list ∙ c.loop-place.invariant.list;
      choice = c.sum_init.ensures.choice ∙ c.loop-place.invariant.choice;
      scene = c.sum_init.ensures.scene ∙ c.loop-place.invariant.scene;
      accounts = λ n before.
          let was = c.loop-place.invariant.accounts n before in
          let now = c.in_ok-sum_init.ensures.accounts n was.0 in
          (now.0, now.1 ∙ was.1);
      within = omega (arith, c.loop-place.invariant.within, count);
      needed = c.in_ok-sum_init.ensures.needed (subst (λ n. AreNeededFrom n self.choice self.list.now self.accounts.items) next c.loop-place.invariant.needed);
    }

pub returns-clause-needed : goal.returns-clause-needed
returns-clause-needed c =
    let self = c.loop-place.self in
    let none : c.loop-place.place ≡ 0 = omega (arith, c.loop-place-test.false) in
    needed_all self.choice self.list.now self.accounts.items self.accounts.items
    (subst (λ n. AreNeededFrom n self.choice self.list.now self.accounts.items) none c.loop-place.invariant.needed)
