-- The cells are those of the change, one by one.
use Rattle.std.proofs.Common.{◌≡◌, ◌++◌, ◌∷◌, ◌∙◌, ℕ, List, [], ap, codes, subst}
use Rattle.std.specs.Prelude.{OnOk, Option, string_bytes}
use Rattle.std.specs.Option.{option_and_then, option_map}
use Rattle.view_records.specs.JsonTexts.{list_data}
use Rattle.view_records.specs.Lists.{records_of}
use Rattle.view_records.specs.Records.{CellData, Record, if_text, list, null_if_absent, text}
use Rattle.list_diff.specs.ReachRecords.{target_path}
use Rattle.list_diff.proofs.reach_records.add_change.Goals as goal

-- a text or null, where the text is another one
as_text : {one other : Option (List ℕ)} {cell : CellData} → cell ≡ null_if_absent (if_text one) → one ≡ other → cell ≡ null_if_absent (if_text other)
as_text is same = is ∙ ap (λ t. null_if_absent (if_text t)) same

pub returns : goal.returns
returns c =
    let gained = c.requires.gained in
    let lost = c.requires.lost in
    let gained_witness = as_text c.witness_of.ensures c.as_ref.ensures.value in
    let gained_by = as_text c.text_of.ensures (ap (option_map string_bytes) c.as_ref-2.ensures.value ∙ gained.rules) in
    let gained_to = as_text c.path_of.ensures (ap (option_and_then target_path) c.as_ref-3.ensures.value) in
    let gained_was_by = as_text c.text_of-2.ensures (ap (option_map string_bytes) c.as_ref-4.ensures.value ∙ gained.old_rules) in
    let gained_was_to = as_text c.path_of-2.ensures (ap (option_and_then target_path) c.as_ref-5.ensures.value) in
    let lost_witness = as_text c.witness_of-2.ensures c.as_ref-6.ensures.value in
    let lost_by = as_text c.text_of-3.ensures (ap (option_map string_bytes) c.as_ref-7.ensures.value ∙ lost.rules) in
    let lost_to = as_text c.path_of-3.ensures (ap (option_and_then target_path) c.as_ref-8.ensures.value) in
    let lost_was_by = as_text c.text_of-4.ensures (ap (option_map string_bytes) c.as_ref-9.ensures.value ∙ lost.old_rules) in
    let lost_was_to = as_text c.path_of-4.ensures (ap (option_and_then target_path) c.as_ref-10.ensures.value) in
    subst (λ (cells : Record). OnOk c.add.result (records_of c.add.new.self ≡ records_of c.args.records.now ++ cells ∷ []))
    (λ i.
    (codes "kind", text (codes "reach")) ∷ (codes "change", text (codes "~")) ∷ (codes "name", text (c.path.ensures.path i))
    ∷ (codes "service", text c.args.change.now.service.now) ∷ (codes "to", text (c.path-2.ensures.path i))
    ∷ (codes "reach", text (c.word_of.ensures i)) ∷ (codes "label", c.label_of.ensures i)
    ∷ (codes "was_reach", text (c.word_of-2.ensures i)) ∷ (codes "was_label", c.label_of-2.ensures i)
    ∷ (codes "gained", list (list_data (gained.labels i))) ∷ (codes "gained_witness", gained_witness i) ∷ (codes "gained_by", gained_by i)
    ∷ (codes "gained_to", gained_to i) ∷ (codes "gained_was_by", gained_was_by i) ∷ (codes "gained_was_to", gained_was_to i)
    ∷ (codes "lost", list (list_data (lost.labels i))) ∷ (codes "lost_witness", lost_witness i) ∷ (codes "lost_by", lost_by i)
    ∷ (codes "lost_to", lost_to i) ∷ (codes "lost_was_by", lost_was_by i) ∷ (codes "lost_was_to", lost_was_to i) ∷ [])
    c.add.ensures
