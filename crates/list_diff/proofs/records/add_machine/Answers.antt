-- The cells are those of both machines, one by one.
use Rattle.std.proofs.Common.{◌≡◌, ◌++◌, ◌∷◌, ◌∙◌, [], codes, false, subst, sym}
use Rattle.std.specs.Prelude.{OnOk}
use Rattle.view_records.specs.Lists.{records_of}
use Rattle.view_records.specs.Records.{Record, number, text}
use Rattle.list_diff.specs.Differences.{same_machine}
use Rattle.list_diff.proofs.records.add_machine.Goals as goal

pub returns : goal.returns
returns c =
    let differ : same_machine c.args.was.now c.args.now.now ≡ false = sym c.has_same_machine.ensures ∙ c.if-has_same_machine.false in
    let pages = c.from.ensures ∙ c.pages.ensures.value in
    let caps = c.from-2.ensures ∙ c.caps.ensures.value in
    let old_pages = c.from-3.ensures ∙ c.pages-2.ensures.value in
    let old_caps = c.from-4.ensures ∙ c.caps-2.ensures.value in
    rw differ
    (subst (λ (cells : Record). OnOk c.add.result (records_of c.add.new.self ≡ records_of c.args.records.now ++ cells ∷ []))
    (λ i.
    (codes "kind", text (codes "machine")) ∷ (codes "change", text (codes "~")) ∷ (codes "pages", number (pages i))
    ∷ (codes "caps", number (caps i)) ∷ (codes "was_pages", number (old_pages i)) ∷ (codes "was_caps", number (old_caps i)) ∷ [])
    c.add.ensures)
