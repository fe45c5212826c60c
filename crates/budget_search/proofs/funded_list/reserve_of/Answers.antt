-- The component's entry has it.
use Rattle.std.proofs.Common.{◌≡◌, get_or, length, Some, refl, sym, ap, arith, subst, ◌∙◌}
use Rattle.std.specs.List.{slice_get}
use Rattle.std.specs.Option.{option_map, unwrap_or}
use Rattle.std.proofs.lemmas.Option.{slice_get_read}
use Rattle.own_model.specs.Amounts.{no_amounts}
use Rattle.own_model.specs.Listed.{reserve_of}
use Rattle.budget_search.proofs.funded_list.reserve_of.Goals as goal

pub returns : goal.returns
returns c =
    let list = c.args.list.now in
    let entry = c.index-entries-component.result in
    let there : slice_get list.entries c.args.component ≡ Some entry =
    slice_get_read list.entries (length list.entries) c.args.component entry refl c.requires
    (subst (λ es. entry ≡ get_or es c.args.component entry) c.entries.ensures c.index-entries-component.is) in
    let caps : c.from.result ≡ c.reserve_at_start-reserve.result.caps.0 = omega arith in
    (λ i. record { ram = c.reserve_at_start-reserve.result.ram.0; caps = caps i })
    ∙ c.reserve_at_start-reserve.ensures ∙ ap (λ o. unwrap_or (option_map reserve_of o) no_amounts) (sym there)
