-- The component has what it had but for its budget, and the rest is the list's.
use Rattle.std.proofs.Common.{◌≡◌, get_or, length, Some, refl, sym, ap, subst, arith, ◌∙◌}
use Rattle.std.specs.List.{slice_get}
use Rattle.std.proofs.lemmas.Option.{slice_get_read}
use Rattle.own_model.specs.Amounts.{Amounts}
use Rattle.own_model.specs.Listed.{Listed}
use Rattle.list_parser.proofs.BudgetLemmas.{reserve_aside}
use Rattle.list_parser.specs.Budgets.{but_budgets, with_budget, with_reserve}
use Rattle.budget_meter.specs.Needs.{amounts_of}
use Rattle.budget_search.specs.Alike.{HasAlone}
use Rattle.budget_search.proofs.AlikeLemmas.{budget_set, is_funded, same_count}
use Rattle.budget_search.proofs.FundedLemmas.{funded_alone, room_fits, taken, taken_alike}
use Rattle.budget_search.proofs.funded_list.funded.Goals as goal

pub set_budget-requires : goal.set_budget-requires
set_budget-requires c =
    let list = c.args.list.now in
    let alike = ap but_budgets (c.take_all.ensures ∙ ap taken c.in_ok-machine.ensures) ∙ taken_alike list in
    omega (arith, c.requires.there, same_count c.take_all.new.machine list alike)

pub set_reserve-requires : goal.set_reserve-requires
set_reserve-requires c =
    let list = c.args.list.now in
    let alike : but_budgets c.set_budget.new.self ≡ but_budgets list =
    budget_set c.take_all.new.machine c.set_budget.new.self c.args.component (amounts_of c.args.budget) c.set_budget.ensures
    ∙ ap but_budgets (c.take_all.ensures ∙ ap taken c.in_ok-machine.ensures) ∙ taken_alike list in
    omega (arith, c.requires.there, same_count c.set_budget.new.self list alike)

pub fund_inits-requires : goal.fund_inits-requires
fund_inits-requires c =
    let list = c.args.list.now in
    let alike : but_budgets c.set_reserve.new.self ≡ but_budgets list =
    ap but_budgets c.set_reserve.ensures ∙ reserve_aside c.set_budget.new.self c.args.component _
    ∙ budget_set c.take_all.new.machine c.set_budget.new.self c.args.component (amounts_of c.args.budget) c.set_budget.ensures
    ∙ ap but_budgets (c.take_all.ensures ∙ ap taken c.in_ok-machine.ensures) ∙ taken_alike list in
    omega (arith, c.requires.there, same_count c.set_reserve.new.self list alike)

pub returns-clause-funded : goal.returns-clause-funded
returns-clause-funded c =
    let list = c.args.list.now in
    let component = c.args.component in
    let entry = c.index-entries-component.result in
    let there : slice_get list.entries component ≡ Some entry =
    slice_get_read list.entries (length list.entries) component entry refl c.requires.there
    (subst (λ es. entry ≡ get_or es component entry) c.entries.ensures c.index-entries-component.is) in
    let set = c.set_reserve.ensures ∙ (λ i. with_reserve (c.set_budget.ensures i) component (c.reserve.ensures i))
    ∙ (λ i. with_reserve (with_budget (c.take_all.ensures i) component (amounts_of c.args.budget)) component entry.reserve)
    ∙ (λ i. with_reserve (with_budget (taken (c.in_ok-machine.ensures i)) component (amounts_of c.args.budget)) component entry.reserve) in
    let given = is_funded (taken list) list component (amounts_of c.args.budget) entry there (taken_alike list) in
    record {
      alike = c.fund_inits.ensures.alike ∙ ap but_budgets set ∙ given.alike;
      given = c.fund_inits.ensures.own ∙ ap (λ (m : Listed). slice_get m.entries component) set ∙ given.given;
    }

pub returns-clause-boots : goal.returns-clause-boots
returns-clause-boots c = λ room.
    let list = c.args.list.now in
    let component = c.args.component in
    let entry = c.index-entries-component.result in
    let there : slice_get list.entries component ≡ Some entry =
    slice_get_read list.entries (length list.entries) component entry refl c.requires.there
    (subst (λ es. entry ≡ get_or es component entry) c.entries.ensures c.index-entries-component.is) in
    let set = c.set_reserve.ensures ∙ (λ i. with_reserve (c.set_budget.ensures i) component (c.reserve.ensures i))
    ∙ (λ i. with_reserve (with_budget (c.take_all.ensures i) component (amounts_of c.args.budget)) component entry.reserve)
    ∙ (λ i. with_reserve (with_budget (taken (c.in_ok-machine.ensures i)) component (amounts_of c.args.budget)) component entry.reserve) in
    let fits = room_fits list component entry there (amounts_of c.args.budget) room in
    let ram = fits.0 in
    let caps = fits.1 in
    let kept_ram = ap (λ (a : Amounts). a.ram) c.reserve_at_start-beside.ensures in
    let kept_caps = ap (λ (a : Amounts). a.caps) c.reserve_at_start-beside.ensures in
    c.fund_inits.ensures.boots
    (subst (λ m. HasAlone m component (record { ram = c.saturating_add.result; caps = c.saturating_add-2.result })) (sym set)
    (funded_alone list component entry there (amounts_of c.args.budget) (record { ram = c.saturating_add.result; caps = c.saturating_add-2.result })
    (omega (arith, ram, kept_ram, c.saturating_add.ensures)) (omega (arith, caps, kept_caps, c.saturating_add-2.ensures))
    (omega (arith, ram, kept_ram, c.saturating_add.ensures)) (omega (arith, caps, kept_caps, c.saturating_add-2.ensures))))
