-- From the innermost init outwards.
use Rattle.std.proofs.Common.{◌≡◌, ◌-◌, Some, refl, sym, ap, subst, arith, ◌∙◌}
use Rattle.std.specs.Prelude.{slice_get}
use Rattle.std.specs.Option.{option_map}
use Rattle.own_model.specs.Amounts.{Amounts}
use Rattle.own_model.specs.Listed.{Listed, ListedEntry}
use Rattle.list_parser.specs.Budgets.{but_budgets, entry_with_budget}
use Rattle.list_parser.specs.Depth.{IsParentInit}
use Rattle.budget_search.proofs.AlikeLemmas.{budget_set, same_count}
use Rattle.budget_search.proofs.FundedLemmas.{AreLaidFrom, all_laid, changed_other, entry_of_home, init_laid, laid_boots, own_laid}
use Rattle.budget_search.proofs.funded_list.fund_inits.Goals as goal

pub loop-init-init : goal.loop-init-init
loop-init-init c =
    let list = c.args.machine.now in
    let most : Amounts = record { ram = c.args.ram.0; caps = c.args.caps.0 } in
    let before = c.home-init.ensures.home.before in
    record {
      alike = refl;
      there = omega (arith, before, c.requires);
      below = before;
      pages = refl;
      caps_same = refl;
      own = refl;
      laid = λ alone.
          let entry = entry_of_home (slice_get list.entries c.args.component) c.home-init.result c.home-init.ensures.value in
          own_laid most list.entries c.args.component entry.0 c.home-init.result entry.1.0 entry.1.1 before c.home-init.ensures.home.list alone.others
          (alone.own_ram entry.0 entry.1.0) (alone.own_caps entry.0 entry.1.0);
    }

pub home-init-requires-in-loop-init : goal.home-init-requires-in-loop-init
home-init-requires-in-loop-init c =
    let set : but_budgets c.set_budget.new.self ≡ but_budgets c.loop-init.machine =
    budget_set c.loop-init.machine c.set_budget.new.self (c.loop-init.init - 1) (record { ram = c.args.ram.0; caps = c.args.caps.0 }) c.set_budget.ensures in
    omega (arith, c.loop-init.invariant.there, c.loop-init-test.true, same_count c.set_budget.new.self c.loop-init.machine set)

pub loop-init-preserved : goal.loop-init-preserved
loop-init-preserved c =
    let most : Amounts = record { ram = c.args.ram.0; caps = c.args.caps.0 } in
    let inv = c.loop-init.invariant in
    let init = c.loop-init.init - 1 in
    let old = c.loop-init.machine in
    let next = c.home-init-in-loop-init.result in
    let positive = c.loop-init-test.true in
    let below = inv.below in
    let home = c.home-init-in-loop-init.ensures.home in
    let before = home.before in
    let set : but_budgets c.set_budget.new.self ≡ but_budgets old = budget_set old c.set_budget.new.self init most c.set_budget.ensures in
    let entries = ap (λ (m : Listed). m.entries) c.set_budget.ensures in
    record {
      alike = set ∙ inv.alike;
      there = omega (arith, inv.there, before, same_count c.set_budget.new.self old set);
      below = omega (arith, below, before);
      pages = ap (λ (m : Listed). m.pages) c.set_budget.ensures ∙ inv.pages;
      caps_same = ap (λ (m : Listed). m.caps) c.set_budget.ensures ∙ inv.caps_same;
      own =
          ap (λ es. slice_get es c.args.component) entries
          ∙ changed_other (entry_with_budget most) old.entries init c.args.component (λ same. omega (arith, same, below, positive)) ∙ inv.own;
      laid = λ alone.
          subst (λ es. AreLaidFrom most es c.args.component next) (sym entries)
          (init_laid most old.entries c.args.component c.loop-init.init init next (omega (arith, positive)) (inv.laid alone)
          (subst (λ es. option_map (λ (entry : ListedEntry). entry.home) (slice_get es init) ≡ Some next) entries c.home-init-in-loop-init.ensures.value)
          (subst (λ es. IsParentInit es init next) entries home));
    }

pub returns-clause-boots : goal.returns-clause-boots
returns-clause-boots c = λ alone.
    let most : Amounts = record { ram = c.args.ram.0; caps = c.args.caps.0 } in
    let inv = c.loop-init.invariant in
    let ram = alone.ram in
    let caps = alone.caps in
    let pages = inv.pages in
    let same = inv.caps_same in
    laid_boots c.loop-init.machine most (omega (arith, ram, pages)) (omega (arith, caps, same))
    (all_laid most c.loop-init.machine.entries c.args.component c.loop-init.init (omega (arith, c.loop-init-test.false)) (inv.laid alone))
