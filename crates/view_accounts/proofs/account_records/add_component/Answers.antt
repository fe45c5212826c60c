-- The record of the reserve after that of the account.
use Rattle.std.proofs.Common.{◌≡◌, ◌∙◌, ◌++◌, ◌∷◌, List, [], ap, append_assoc, codes, subst, sym}
use Rattle.std.specs.Prelude.{OnOk}
use Rattle.std.specs.Option.{option_map}
use Rattle.core_calls.specs.Quotas.{reserve_amounts}
use Rattle.view_records.specs.Lists.{records_of}
use Rattle.view_records.specs.Records.{Record, number, text}
use Rattle.view_accounts.specs.AccountRecords.{account_record, component_records, reserve_records}
use Rattle.view_accounts.specs.Rows.{component_view}
use Rattle.view_accounts.proofs.account_records.add_component.Goals as goal

pub returns-in-Some : goal.returns-in-Some
returns-in-Some c =
    let shown = component_view c.args.component.now in
    let before = records_of c.args.records.now in
    let reserve : Record =
    (codes "kind", text (codes "reserve")) ∷ (codes "name", text shown.account.name)
    ∷ (codes "ram", number c.in-Some.reserve.ram.0) ∷ (codes "caps", number c.in-Some.reserve.caps.0) ∷ [] in
    let added : OnOk c.add.result (records_of c.add.new.self ≡ records_of c.add_account.new.records ++ reserve ∷ []) =
    subst (λ (cells : Record). OnOk c.add.result (records_of c.add.new.self ≡ records_of c.add_account.new.records ++ cells ∷ []))
    (λ i.
    (codes "kind", text (codes "reserve")) ∷ (codes "name", text (c.as_slice.ensures.value i))
    ∷ (codes "ram", number c.in-Some.reserve.ram.0) ∷ (codes "caps", number (c.from.ensures i)) ∷ [])
    c.add.ensures in
    let all : records_of c.add_account.new.records ++ reserve ∷ [] ≡ before ++ component_records shown =
    ap (λ (l : List Record). l ++ reserve ∷ []) c.in_ok-add_account.ensures
    ∙ append_assoc before (account_record shown.account ∷ []) (reserve ∷ [])
    ∙ ap (λ o. before ++ account_record shown.account ∷ reserve_records shown.account.name (option_map reserve_amounts o)) (sym c.in-Some.is) in
    subst (λ (more : List Record). OnOk c.add.result (records_of c.add.new.self ≡ more)) all added
