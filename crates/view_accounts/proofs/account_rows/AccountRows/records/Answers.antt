-- The records one after another.
use Rattle.std.proofs.Common.{◌≡◌, ◌∙◌, ◌++◌, ◌∷◌, List, [], ap, append_assoc, map}
use Rattle.std.specs.List.{flat_map}
use Rattle.view_records.specs.Records.{Record}
use Rattle.view_accounts.specs.AccountRecords.{account_record, component_records, session_record, total_record}
use Rattle.view_accounts.specs.Rows.{ComponentView, accounts_view}
use Rattle.view_accounts.proofs.account_rows.AccountRows.records.Goals as goal

all_added : (init total : Record) (accounts sessions closed none one two three four five : List Record) → none ≡ [] → one ≡ none ++ init ∷ []
    → two ≡ one ++ accounts → three ≡ two ++ sessions → four ≡ three ++ total ∷ [] → five ≡ four ++ closed
    → five ≡ init ∷ accounts ++ sessions ++ total ∷ closed
all_added init total accounts sessions closed none one two three four five starts first second third fourth fifth =
    fifth
    ∙ ap (λ l. l ++ closed) (fourth ∙ ap (λ l. l ++ total ∷ []) (third ∙ ap (λ l. l ++ sessions) (second ∙ ap (λ l. l ++ accounts)
    (first ∙ ap (λ l. l ++ init ∷ []) starts))))
    ∙ simp append_assoc

pub returns : goal.returns
returns c =
    let shown = accounts_view c.args.self.now in
    all_added (account_record shown.init) (total_record shown.total) (flat_map component_records shown.components)
    (flat_map (λ (its : ComponentView). map session_record its.sessions) shown.components) (map session_record shown.closed)
    _ _ _ _ _ _ c.new-records.ensures c.in_ok-add_account.ensures
    (rw c.as_slice-components.ensures.value at c.in_ok-add_components.ensures)
    (rw c.as_slice-components.ensures.value at c.in_ok-add_open.ensures) c.in_ok-add_total.ensures
    (rw c.as_slice-closed.ensures.value at c.in_ok-add_sessions.ensures)
