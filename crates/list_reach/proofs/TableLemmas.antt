-- Decisions of scripts, and their route decisions, by their places.
use Rattle.std.proofs.Common.{◌≡◌, ◌<◌, ℕ, List, get_or, length}
use Rattle.std.specs.Prelude.{All}
use Rattle.std.proofs.lemmas.List.Elements.{All-contains}
use Rattle.own_model.specs.Listed.{Listed}
use Rattle.list_reach.specs.Deciding.{AreDecisions, IsDecision, DecisionAt}
use Rattle.list_reach.specs.ScriptDecisions.{IsDecided}
use Rattle.list_reach.specs.declared.script_decisions.ScriptDecisions.{ScriptDecisions}

-- each of all decisions is one
pub decided_at : (list : Listed) (found : List ScriptDecisions) (place : ℕ) (one : ScriptDecisions)
    → All (IsDecided list) found → place < length found → get_or found place one ≡ one → IsDecided list one
decided_at list found place one are within is = All-contains (IsDecided list) found one are (place, within, is)

-- each trail of those that are told is one
pub trail_at : (list : Listed) (client : ℕ) (service : List ℕ) (trails : List DecisionAt) (place : ℕ) (one : DecisionAt)
    → AreDecisions list client service trails → place < length trails → get_or trails place one ≡ one → IsDecision list client service one
trail_at list client service trails place one are within is =
    All-contains (IsDecision list client service) trails one are.told (place, within, is)
