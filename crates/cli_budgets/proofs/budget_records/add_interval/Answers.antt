-- The cells are those of the interval, one by one.
use Rattle.std.proofs.Common.{◌≡◌, ◌++◌, ◌∷◌, ◌∙◌, [], ap, codes, subst}
use Rattle.std.specs.Prelude.{OnOk}
use Rattle.std.specs.Option.{option_map}
use Rattle.own_model.specs.Amounts.{Amounts}
use Rattle.budget_search.specs.declared.account_budgets.SessionKey.{SessionKey}
use Rattle.view_records.specs.JsonTexts.{list_data}
use Rattle.view_records.specs.Lists.{records_of}
use Rattle.view_records.specs.Records.{Record, if_number, list, null_if_absent, number, text}
use Rattle.cli_budgets.proofs.budget_records.add_interval.Goals as goal

pub returns : goal.returns
returns c =
    let row = c.args.row.now in
    let selector = c.session_cells.ensures.selector ∙ ap (λ s. null_if_absent (if_number (option_map (λ (key : SessionKey). key.selector) s))) c.session.ensures in
    let line = c.session_cells.ensures.line ∙ ap (λ s. null_if_absent (if_number (option_map (λ (key : SessionKey). key.line) s))) c.session.ensures in
    let below = c.or_null.ensures ∙ ap null_if_absent c.if_number.ensures in
    let safe_ram = c.budget_cells.ensures.ram ∙ ap (λ b. null_if_absent (if_number (option_map (λ (a : Amounts). a.ram) b))) c.safe.ensures.value in
    let safe_caps = c.budget_cells.ensures.caps ∙ ap (λ b. null_if_absent (if_number (option_map (λ (a : Amounts). a.caps) b))) c.safe.ensures.value in
    subst (λ (cells : Record). OnOk c.add.result (records_of c.add.new.self ≡ records_of c.args.records.now ++ cells ∷ []))
    (λ i.
    (codes "kind", text (codes "interval")) ∷ (codes "component", text c.args.path.now) ∷ (codes "session", selector i) ∷ (codes "line", line i)
    ∷ (codes "ram_from", number row.ram_from) ∷ (codes "ram_below", below i) ∷ (codes "caps_from", number row.caps_from)
    ∷ (codes "unmeasured", list (list_data (records_of c.args.unmeasured.now))) ∷ (codes "safe_ram", safe_ram i) ∷ (codes "safe_caps", safe_caps i)
    ∷ (codes "count", number (c.count.ensures i)) ∷ [])
    c.add.ensures
