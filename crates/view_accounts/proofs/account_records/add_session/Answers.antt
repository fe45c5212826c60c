-- The cells are those of the session, one by one.
use Rattle.std.proofs.Common.{◌≡◌, ◌++◌, ◌∷◌, [], codes, subst}
use Rattle.std.specs.Prelude.{OnOk}
use Rattle.view_records.specs.Lists.{records_of}
use Rattle.view_records.specs.Records.{Record, number, text}
use Rattle.view_accounts.proofs.account_records.add_session.Goals as goal

pub returns : goal.returns
returns c =
    let row = c.args.row.now in
    let own = c.account_cells-own.ensures in
    subst (λ (cells : Record). OnOk c.add.result (records_of c.add.new.self ≡ records_of c.args.records.now ++ cells ∷ []))
    (λ i.
    (codes "kind", text (codes "session")) ∷ (codes "name", text (c.as_slice.ensures.value i)) ∷ (codes "session", number row.selector)
    ∷ (codes "ram_used", own.ram_used i) ∷ (codes "ram_limit", own.ram_limit i)
    ∷ (codes "caps_used", own.caps_used i) ∷ (codes "caps_limit", own.caps_limit i)
    ∷ (codes "state", own.state i)
    ∷ (codes "ram_need", number row.needed.need.ram) ∷ (codes "caps_need", number row.needed.need.caps)
    ∷ (codes "ram_peak", number row.peak.ram.0) ∷ (codes "caps_peak", number (c.from.ensures i))
    ∷ (codes "server", text (c.as_slice-2.ensures.value i)) ∷ (codes "label", text (c.as_slice-3.ensures.value i)) ∷ [])
    c.add.ensures
