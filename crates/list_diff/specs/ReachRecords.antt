-- Labels that are routed elsewhere, as records.
use Rattle.std.specs.Prelude.{◌≡◌, ℕ, List, [], ◌∷◌, ◌++◌, codes, String, string_bytes, Option, Some, None}
use Rattle.std.specs.Global.{Global}
use Rattle.std.specs.List.{slice_get}
use Rattle.std.specs.Option.{option_and_then, option_copied, option_map}
use Rattle.own_model.specs.Listed.{ListedEntry}
use Rattle.list_reach.specs.RuleTexts.{summary_text}
use Rattle.list_reach.specs.declared.client_reach.Reach.{Reach}
use Rattle.list_reach.specs.declared.client_reach.Reach.TheVariants.{Always, By, Never}
use Rattle.list_reach.specs.declared.route_path.RoutePath.{RoutePath}
use Rattle.view_records.specs.JsonTexts.{list_data}
use Rattle.view_records.specs.Lists.{records_of}
use Rattle.view_records.specs.Records.{Record, if_text, list, null_if_absent, text}
use Rattle.list_diff.specs.LabelRecords.{label_records}
use Rattle.list_diff.specs.declared.moved_labels.MovedLabels.{MovedLabels}
use Rattle.list_diff.specs.declared.reach_changes.ReachChange.{ReachChange}
use Rattle.list_diff.specs.declared.reach_records.MovedTexts.{MovedTexts}

-- how many labels are routed to the server, and one of them if not all are
abbrev pub reach_word : Option Reach → List ℕ
reach_word (Some Always) = codes "always"
reach_word (Some (By label)) = codes "some"
reach_word (Some Never) = codes "none"
reach_word None = codes "none"

abbrev pub reach_label : Option Reach → Option (List ℕ)
reach_label (Some Always) = None
reach_label (Some (By label)) = Some label
reach_label (Some Never) = None
reach_label None = None

-- the path of the component to which a request is routed
abbrev pub target_path : RoutePath → Option (List ℕ)
target_path course = option_map (λ (entry : ListedEntry). entry.path) (option_and_then (slice_get course.list.now.entries) course.child)

-- the records of moved labels, and the rules of the route paths of their witness after and before, as text
pub record AreTextsOf (moved : MovedLabels) (texts : MovedTexts) : Type 0 where
  pub labels : records_of texts.labels ≡ label_records moved.set.labels
  pub rules : option_map (λ (t : String Global). string_bytes t) texts.rules ≡ option_map summary_text moved.now
  pub old_rules : option_map (λ (t : String Global). string_bytes t) texts.old_rules ≡ option_map summary_text moved.was

-- moved labels, with the route paths of their witness, after a word
abbrev pub moved_cells : List ℕ → MovedLabels → Record
moved_cells word moved =
    (word, list (list_data (label_records moved.set.labels)))
    ∷ (word ++ codes "_witness", null_if_absent (if_text moved.set.witness))
    ∷ (word ++ codes "_by", null_if_absent (if_text (option_map summary_text moved.now)))
    ∷ (word ++ codes "_to", null_if_absent (if_text (option_and_then target_path moved.now)))
    ∷ (word ++ codes "_was_by", null_if_absent (if_text (option_map summary_text moved.was)))
    ∷ (word ++ codes "_was_to", null_if_absent (if_text (option_and_then target_path moved.was))) ∷ []

-- who requests what of whom, with which labels the server is reached after and before, and the labels that it gains and loses
abbrev pub reach_record : ReachChange → Record
reach_record change =
    (codes "kind", text (codes "reach")) ∷ (codes "change", text (codes "~")) ∷ (codes "name", text change.client.now.path)
    ∷ (codes "service", text change.service.now) ∷ (codes "to", text change.server.now.path)
    ∷ (codes "reach", text (reach_word (option_copied change.now)))
    ∷ (codes "label", null_if_absent (if_text (reach_label (option_copied change.now))))
    ∷ (codes "was_reach", text (reach_word (option_copied change.was)))
    ∷ (codes "was_label", null_if_absent (if_text (reach_label (option_copied change.was))))
    ∷ (moved_cells (codes "gained") change.gained ++ moved_cells (codes "lost") change.lost)
