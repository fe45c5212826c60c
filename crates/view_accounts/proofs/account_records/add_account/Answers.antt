-- The cells are those of the account, one by one.
use Rattle.std.proofs.Common.{◌≡◌, ◌++◌, ◌∷◌, [], codes, subst}
use Rattle.std.specs.Prelude.{OnOk}
use Rattle.view_records.specs.Lists.{records_of}
use Rattle.view_records.specs.Records.{Record, number, text}
use Rattle.view_accounts.proofs.account_records.add_account.Goals as goal

pub returns : goal.returns
returns c =
    let row = c.args.row.now in
    subst (λ (cells : Record). OnOk c.add.result (records_of c.add.new.self ≡ records_of c.args.records.now ++ cells ∷ []))
    (λ i.
    (codes "kind", text (codes "account")) ∷ (codes "name", text (c.as_slice.ensures.value i))
    ∷ (codes "ram_used", number row.account.ram_used.0) ∷ (codes "ram_limit", number row.account.ram_limit.0)
    ∷ (codes "caps_used", number (c.from.ensures i)) ∷ (codes "caps_limit", number (c.from-2.ensures i))
    ∷ (codes "state", c.gone_cell.ensures i)
    ∷ (codes "ram_need", number row.needed.need.ram) ∷ (codes "caps_need", number row.needed.need.caps)
    ∷ (codes "ram_peak", number row.peak.ram.0) ∷ (codes "caps_peak", number (c.from-3.ensures i)) ∷ [])
    c.add.ensures
