-- The fault at its place in the text, or with its part.
use Rattle.std.proofs.Common.{◌≡◌, ◌≢◌, ◌∙◌, ◌++◌, ◌∷◌, [], List, None, Option, Some, codes, refl, subst, sym, ℕ}
use Rattle.std.proofs.lemmas.Result.{on_ok_weaker}
use Rattle.view_records.specs.Cells.{cell_data}
use Rattle.view_records.specs.Lists.{records_of}
use Rattle.view_records.specs.Records.{null, text}
use Rattle.cli_lists.specs.CheckDocuments.{fault_at, faulty_part, noted_record}
use Rattle.cli_lists.proofs.check_records.add_fault.Goals as goal

-- a fault that has no place in the text
no_place : (place : Option (ℕ × ℕ)) → ((start : ℕ × ℕ) → place ≢ Some start) → place ≡ None
no_place None none = refl
no_place (Some start) none = absurd (none start refl)

pub returns-in-Some : goal.returns-in-Some
returns-in-Some c =
    on_ok_weaker c.add_noted.result
    (λ (listed : records_of c.add_noted.new.records ≡ records_of c.args.records.now
    ++ noted_record (codes "fault") c.args.path.now (cell_data c.at.result.0) (cell_data c.at.result.1) (cell_data c.at.result.2) c.as_str.result.now ∷ []). (
      c.as_str.result.now,
      listed
          ∙ subst
          (λ (o : Option (ℕ × ℕ)). records_of c.args.records.now
          ++ noted_record (codes "fault") c.args.path.now (cell_data c.at.result.0) (cell_data c.at.result.1) (cell_data c.at.result.2) c.as_str.result.now ∷ []
          ≡ records_of c.args.records.now ++ fault_at c.args.path.now o (faulty_part c.args.fault.now.place) c.as_str.result.now ∷ [])
          (sym c.in-Some.is ∙ c.placed_at.ensures)
          (λ i. records_of c.args.records.now
          ++ noted_record (codes "fault") c.args.path.now (c.at.ensures.line i) (c.at.ensures.column i) (c.at.ensures.part i) c.as_str.result.now ∷ []),
    )) c.add_noted.ensures

pub returns : goal.returns
returns c =
    let message = c.as_str-3.result.now in
    let none : c.placed_at.result ≡ None = no_place c.placed_at.result c.in_default.not-Some in
    let part : c.as_str-2.result.now ≡ faulty_part c.args.fault.now.place = c.as_str-2.ensures.value ∙ c.in_ok-part.ensures in
    on_ok_weaker c.add_noted-2.result
    (λ (listed : records_of c.add_noted-2.new.records
    ≡ records_of c.args.records.now ++ noted_record (codes "fault") c.args.path.now null null (text c.as_str-2.result.now) message ∷ []). (
      message,
      listed
          ∙ subst
          (λ (o : Option (ℕ × ℕ)). records_of c.args.records.now
          ++ noted_record (codes "fault") c.args.path.now null null (text c.as_str-2.result.now) message ∷ []
          ≡ records_of c.args.records.now ++ fault_at c.args.path.now o (faulty_part c.args.fault.now.place) message ∷ [])
          (sym none ∙ c.placed_at.ensures)
          (λ i. records_of c.args.records.now ++ noted_record (codes "fault") c.args.path.now null null (text (part i)) message ∷ []),
    )) c.add_noted-2.ensures
