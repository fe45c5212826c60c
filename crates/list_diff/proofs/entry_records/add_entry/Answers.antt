-- The cells are those of both entries, one by one.
use Rattle.std.proofs.Common.{◌≡◌, ◌++◌, ◌∷◌, [], codes, subst}
use Rattle.std.specs.Prelude.{OnOk}
use Rattle.view_records.specs.Lists.{records_of}
use Rattle.view_records.specs.Records.{Record, text}
use Rattle.list_diff.proofs.entry_records.add_entry.Goals as goal

pub returns : goal.returns
returns c =
    let old = c.of-old.ensures in
    let new = c.of-new.ensures in
    subst (λ (cells : Record). OnOk c.add.result (records_of c.add.new.self ≡ records_of c.args.records.now ++ cells ∷ []))
    (λ i.
    (codes "kind", text (codes "entry")) ∷ (codes "change", text c.args.sign.now) ∷ (codes "name", c.some_path.ensures i)
    ∷ (codes "was_binary", (old i).binary) ∷ (codes "was_ram", (old i).ram) ∷ (codes "was_caps", (old i).caps)
    ∷ (codes "was_reserve_ram", (old i).reserve_ram) ∷ (codes "was_reserve_caps", (old i).reserve_caps)
    ∷ (codes "was_provides", (old i).provides) ∷ (codes "was_kinds", (old i).kinds)
    ∷ (codes "binary", (new i).binary) ∷ (codes "ram", (new i).ram) ∷ (codes "caps", (new i).caps)
    ∷ (codes "reserve_ram", (new i).reserve_ram) ∷ (codes "reserve_caps", (new i).reserve_caps)
    ∷ (codes "provides", (new i).provides) ∷ (codes "kinds", (new i).kinds) ∷ [])
    c.add.ensures
