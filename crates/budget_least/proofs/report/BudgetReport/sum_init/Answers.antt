-- The component starts others, or nobody.
use Rattle.std.proofs.Common.{arith, ◌≡◌, ◌+◌, suc, refl, sym, subst, ◌∙◌, Bor}
use Rattle.std.specs.List.{slice_get}
use Rattle.std.specs.Option.{option_map}
use Rattle.budget_meter.specs.Needs.{amounts_of}
use Rattle.budget_least.proofs.AccountLemmas.{all_kept, all_stay}
use Rattle.budget_least.proofs.NeededLemmas.{home_told, init_told, needed_next, needed_skipped, same_report}
use Rattle.own_model.specs.Listed.{Listed}
use Rattle.budget_least.specs.ComponentAccounts.{AreAccounts}
use Rattle.budget_least.specs.InitNeeds.{capped, needed_below}
use Rattle.budget_least.specs.declared.lines_by_component.LinesByComponent.{LinesByComponent}
use Rattle.budget_least.proofs.report.BudgetReport.sum_init.Goals as goal

pub overflow_add-place : goal.overflow_add-place
overflow_add-place c = omega (arith, c.requires, c.count-few.ensures.value, c.count-few.ensures.most)

pub returns-then-not-is_init-clause-needed : goal.returns-then-not-is_init-clause-needed
returns-then-not-is_init-clause-needed c = λ before.
    let list = c.args.self.now.list.now in
    let accounts = c.args.self.now.accounts.items in
    needed_skipped c.args.self.now.choice list c.args.place accounts accounts
    (init_told (slice_get list.entries c.args.place) c.is_init.result c.is_init.ensures ∙ c.if-not-is_init.true) before

pub returns-then-not-is_init-clause-accounts : goal.returns-then-not-is_init-clause-accounts
returns-then-not-is_init-clause-accounts c = λ count before. (before, refl)

pub returns-clause-accounts : goal.returns-clause-accounts
returns-clause-accounts c = λ count before.
    let list = c.args.self.now.list.now in
    let steps = c.args.self.now.scene.steps.items in
    let was = c.args.self.now.accounts.items in
    let all = c.set_need.new.self.accounts.items in
    let need = option_map amounts_of c.needed_below-needed.result in
    let starts = init_told (slice_get list.entries c.args.place) c.is_init.result c.is_init.ensures ∙ c.if-not-is_init.false in
    let changed = c.in_ok-set_need.ensures.changed in (
      subst (λ (scene : LinesByComponent). AreAccounts c.set_need.new.self.list.now scene.steps.items count all) (sym c.set_need.ensures.scene)
          (subst (λ (l : Bor Listed). AreAccounts l.now steps count all) (sym c.set_need.ensures.list)
          (all_kept list c.args.place need starts steps count was all changed before)),
      all_stay list c.args.place need starts steps count was all changed before,
    )

pub returns-clause-needed : goal.returns-clause-needed
returns-clause-needed c = λ before.
    let choice = c.args.self.now.choice in
    let list = c.args.self.now.list.now in
    let place = c.args.place in
    let was = c.args.self.now.accounts.items in
    let all = c.set_need.new.self.accounts.items in
    let need = option_map amounts_of c.needed_below-needed.result in
    let next : place + 1 ≡ suc place = omega arith in
    same_report place choice c.set_need.new.self.choice c.args.self.now.list c.set_need.new.self.list all c.set_need.ensures.choice c.set_need.ensures.list
    (needed_next choice list place need was all c.in_ok-set_need.ensures.changed
    (subst (λ n. need ≡ option_map capped (needed_below choice list n was)) next c.needed_below-needed.ensures)
    (home_told list place c.home-parent.result c.home-parent.ensures.value c.home-parent.ensures.home.before) before)
