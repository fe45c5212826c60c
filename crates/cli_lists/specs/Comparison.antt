-- The comparison of two start lists, and the exit status by it.
use Rattle.std.specs.Prelude.{◌≡◌, ◌≢◌, ◌⊎◌, ℕ, ◌==◌, ◌||◌, not, Bool, List, [], map, if◌then◌else◌, Option, Some, None, MatchBool, MatchOption, Result, Ok, Err, All, length, nat_eq}
use Rattle.std.specs.Borrow.{Bor}
use Rattle.std.specs.Option.{option_copied}
use Rattle.std.specs.declared.io.Error.{Error}
use Rattle.line_rounds.specs.Unfolding.{UnfoldedText}
use Rattle.list_diff.specs.Breaches.{breach_changes, change_at}
use Rattle.list_diff.specs.PlacedBreaches.{ArePlaced, BreachAt}
use Rattle.list_diff.specs.Changes.{changes_of}
use Rattle.list_diff.specs.Differences.{nothing_differs}
use Rattle.list_diff.specs.LineResults.{call_in}
use Rattle.list_diff.specs.Reaches.{AreReachChanges}
use Rattle.list_diff.specs.Replies.{AreCompared}
use Rattle.list_diff.specs.declared.line_outcomes.LineResult.{LineResult}
use Rattle.list_diff.specs.declared.policy_breaches.BreachChange.{BreachChange}
use Rattle.list_diff.specs.declared.differences.ListDifferences.{ListDifferences}
use Rattle.list_diff.specs.declared.need_changes.NeedChange.{NeedChange}
use Rattle.list_diff.specs.declared.reach_changes.ReachChange.{ReachChange}
use Rattle.list_diff.specs.declared.reach_changes.ReachSide.{ReachSide}
use Rattle.list_diff.specs.declared.reply_changes.ComparedLines.TheVariants.{Changed, Misread}
use Rattle.list_diff.specs.declared.reply_changes.ReplyChange.{ReplyChange}
use Rattle.list_policy.specs.Reading.{faults_of, lines_of}
use Rattle.list_reach.specs.Paths.{is_chosen}
use Rattle.list_reach.specs.Rows.{row_of, rows}
use Rattle.list_reach.specs.Table.{IsTrue}
use Rattle.own_model.specs.Listed.{Listed}
use Rattle.run_exchanges.specs.Exchange.{Exchange}
use Rattle.cli_options.specs.declared.command_options.DiffOptions.{DiffOptions}
use Rattle.cli_base.specs.Files.{HasNoBoot, IsTextAt}
use Rattle.cli_base.specs.PolicyVerdict.{HasNoPolicy}
use Rattle.cli_base.specs.Statuses.{HasNoResult, HasWritten}
use Rattle.cli_base.specs.declared.settings.Settings.{Settings}
use Rattle.cli_lists.specs.ComparedRuns.{AreLinesAt, AreShortfalls, HasFaultIn, LacksScenario, answers_on, path_after, results_by}
use Rattle.cli_lists.specs.ListStatus.{IsListAt}
use Rattle.cli_lists.specs.declared.diff_text.DiffText.{DiffText}

-- ---- entries and reachability

-- a side is a list with the cells of its table: one for each script and each server, and each is true
pub record IsSideOf (list : Listed) (side : ReachSide) : Type 0 where
  pub list_is : side.list.now ≡ list
  pub rows_are : map row_of side.cells.now ≡ rows list (is_chosen []) (is_chosen [])
  pub cells_are : All (IsTrue list) side.cells.now

-- rows of reach are those by the tables of two lists
pub record AreRowsOf (before after : Listed) (found : List ReachChange) : Type 0 where
  pub was : ReachSide
  pub now : ReachSide
  pub was_is : IsSideOf before was
  pub now_is : IsSideOf after now
  pub are : AreReachChanges was now found

-- ---- all differences

-- the lists, the breaches, the needs and the replies are the same
pub record AreSoFar (so_far found : ListDifferences) : Type 0 where
  pub before_is : found.before.now ≡ so_far.before.now
  pub after_is : found.after.now ≡ so_far.after.now
  pub breaches_are : found.breaches.now ≡ so_far.breaches.now
  pub lacks_are : found.lacks.now ≡ so_far.lacks.now
  pub replies_are : found.replies.now ≡ so_far.replies.now

-- differences are all those of two lists, and these breaches, needs and replies
pub record AreAll (before after : Listed) (breaches : List BreachChange) (lacks : List NeedChange) (replies : List ReplyChange) (found : ListDifferences) : Type 0 where
  pub before_is : found.before.now ≡ before
  pub after_is : found.after.now ≡ after
  pub changes_are : found.changes.now ≡ changes_of before after
  pub rows_are : AreRowsOf before after found.leads.now
  pub breaches_are : found.breaches.now ≡ breaches
  pub lacks_are : found.lacks.now ≡ lacks
  pub replies_are : found.replies.now ≡ replies

-- what comes of a comparison: nothing differs, something does, or a line of a scenario isn't understood by any list
pub data Compared : Type 0 where
  Same : Compared
  Different : Compared
  Misunderstood : Compared

abbrev pub changed_if : Bool → Compared
changed_if changed = if changed then Different else Same

-- whether two lists differ, or their breaches, needs or replies do
abbrev pub Differ : Listed → Listed → List BreachChange → List NeedChange → List ReplyChange → Compared → Type 0
Differ before after breaches lacks replies changed =
    (found : ListDifferences) × AreAll before after breaches lacks replies found × (changed ≡ changed_if (not (nothing_differs found)))

-- a text says so
abbrev pub IsTextOf : ListDifferences → DiffText → Type 0
IsTextOf so_far text =
    Differ so_far.before.now so_far.after.now so_far.breaches.now so_far.lacks.now so_far.replies.now (changed_if text.is_changed)

-- ---- a policy

-- the breaches of a policy's text by two lists; the text has no fault for the list after
pub record AreBreachesOf (text : List ℕ) (before after : Listed) (olds news : List BreachAt) : Type 0 where
  pub sound : faults_of after text ≡ []
  pub olds_are : ArePlaced before (lines_of before text) olds
  pub news_are : ArePlaced after (lines_of after text) news

-- without a policy there is no breach
abbrev pub AreBreachesBy : (List ℕ → Option (List ℕ)) → Option (List ℕ) → Listed → Listed → List BreachAt → List BreachAt → Type 0
AreBreachesBy texts None before after olds news = (olds ≡ []) × (news ≡ [])
AreBreachesBy texts (Some policy) before after olds news =
    (text : List ℕ) × IsTextAt texts policy text × AreBreachesOf text before after olds news

-- breaches are those that one list alone has
abbrev pub AreNewBreaches : (List ℕ → Option (List ℕ)) → Option (List ℕ) → Listed → Listed → List BreachChange → Type 0
AreNewBreaches texts policy before after breaches =
    (olds : List BreachAt) × (news : List BreachAt) × AreBreachesBy texts policy before after olds news
    × (map change_at breaches ≡ breach_changes olds news)

-- a policy's text has a fault for the list after
abbrev pub HasPolicyFault : List ℕ → Listed → Type 0
HasPolicyFault text after = faults_of after text ≢ []

-- a policy is refused: the file at its path is none, or its text has a fault
abbrev pub RefusesPolicy : (List ℕ → Option (List ℕ)) → Option (List ℕ) → Listed → Type 0
RefusesPolicy texts None after = ⊥
RefusesPolicy texts (Some policy) after =
    HasNoPolicy texts policy ⊎ ((text : List ℕ) × IsTextAt texts policy text × HasPolicyFault text after)

-- ---- scenarios

-- two lists differ, or their breaches or replies do, or their needs for lines
abbrev pub NeedsDiffer : Settings → Listed → UnfoldedText → Listed → UnfoldedText → List BreachChange → List ReplyChange → Compared → Type 0
NeedsDiffer settings before was after now breaches replies changed =
    (lacks : List NeedChange) × AreShortfalls settings before was after now lacks × Differ before after breaches lacks replies changed

-- two lists differ, or their breaches or needs do, or what comes of the lines; or no list understands a line
abbrev pub ResultsDiffer : Settings → Listed → UnfoldedText → Listed → UnfoldedText → List LineResult → List LineResult
    → List BreachChange → Compared → Type 0
ResultsDiffer settings before was after now olds news breaches changed =
    (misread : List ReplyChange) × AreCompared Misread olds news misread
    × MatchBool (nat_eq (length misread) 0)
    ((replies : List ReplyChange) × AreCompared Changed olds news replies
    × NeedsDiffer settings before was after now breaches replies changed)
    (changed ≡ Misunderstood)

-- the same by these calls with their replies
abbrev pub AnswersDiffer : Settings → Listed → UnfoldedText → Listed → UnfoldedText → List Exchange → List Exchange → List BreachChange
    → Compared → Type 0
AnswersDiffer settings before was after now olds news breaches changed =
    (old : List LineResult) × (new : List LineResult) × (map call_in old ≡ results_by settings was olds)
    × (map call_in new ≡ results_by settings now news) × ResultsDiffer settings before was after now old new breaches changed

-- two lists differ, or their breaches do, or the runs of lines on them
abbrev pub LinesDiffer : Settings → Listed → UnfoldedText → Listed → UnfoldedText → List BreachChange → Compared → Type 0
LinesDiffer settings before was after now breaches changed =
    AnswersDiffer settings before was after now (answers_on settings before was) (answers_on settings after now) breaches changed

-- or the runs of the scenarios at two paths
abbrev pub ScenariosDiffer : (List ℕ → Option (List ℕ)) → Settings → List ℕ → List ℕ → Listed → Listed → List BreachChange → Compared → Type 0
ScenariosDiffer texts settings old new before after breaches changed =
    (was : UnfoldedText) × (now : UnfoldedText) × AreLinesAt texts settings old was × AreLinesAt texts settings new now
    × LinesDiffer settings before was after now breaches changed

-- without a scenario there are neither needs nor replies
abbrev pub RunsDiffer : (List ℕ → Option (List ℕ)) → DiffOptions → Settings → Option (Bor (List ℕ)) → Listed → Listed → List BreachChange
    → Compared → Type 0
RunsDiffer texts asked settings None before after breaches changed = Differ before after breaches [] [] changed
RunsDiffer texts asked settings (Some scenario) before after breaches changed =
    ScenariosDiffer texts settings scenario.now (path_after asked.scenario_after scenario.now) before after breaches changed

-- ---- all that is compared

-- two lists differ, or their breaches of the policy do, or the runs of the scenarios
abbrev pub PairDiffers : (List ℕ → Option (List ℕ)) → DiffOptions → Settings → Listed → Listed → Compared → Type 0
PairDiffers texts asked settings before after changed =
    (breaches : List BreachChange) × AreNewBreaches texts (option_copied asked.policy) before after breaches
    × RunsDiffer texts asked settings asked.scenario before after breaches changed

-- a list and that of the file at the path after
abbrev pub AfterDiffers : (List ℕ → Option (List ℕ)) → DiffOptions → Settings → Listed → Compared → Type 0
AfterDiffers texts asked settings before changed =
    (after : Listed) × IsListAt texts settings asked.after.now after × PairDiffers texts asked settings before after changed

-- the lists of the files at both paths
abbrev pub ListsDiffer : (List ℕ → Option (List ℕ)) → DiffOptions → Settings → Compared → Type 0
ListsDiffer texts asked settings changed =
    (before : Listed) × IsListAt texts settings asked.before.now before × AfterDiffers texts asked settings before changed

-- ---- the exit status

-- the exit status by what comes of a comparison
abbrev pub diff_status : Compared → ℕ
diff_status Same = 0
diff_status Different = 4
diff_status Misunderstood = 3

-- 3 after a result if no list understands a line
abbrev pub status_if_misread : ℕ → ℕ
status_if_misread status = if status == 0 || status == 4 then 3 else status

-- after a write, whose failure has its own
abbrev pub EndsWith : {T : Type 0} → Result T Error → Bool → ℕ → Type 0
EndsWith (Ok done) changed status = status ≡ diff_status (changed_if changed)
EndsWith {T} (Err error) changed status = HasWritten {T = T} (Err error) status

-- the status says what comes of a comparison
abbrev pub EndsChanged : (Compared → Type 0) → ℕ → Type 0
EndsChanged differ status = (changed : Compared) × differ changed × (status ≡ diff_status changed)

-- the exit status without a result: the host fails, what is asked for or read is refused (2), or rounds have a fault (3)
abbrev pub HasStopped : Type 0 → Type 0 → ℕ → Type 0
HasStopped Refused Faulty status = HasNoResult Refused status ⊎ ((status ≡ 3) × Faulty)

-- the status says what comes of a comparison, unless there is no result
abbrev pub EndsBy : Type 0 → Type 0 → (Compared → Type 0) → ℕ → Type 0
EndsBy Refused Faulty differ status = HasStopped Refused Faulty status ⊎ EndsChanged differ status

-- both scenarios, if there is one
abbrev pub OfScenarios : (List ℕ → List ℕ → Type 0) → DiffOptions → Type 0
OfScenarios Holds asked =
    MatchOption asked.scenario ⊥ (λ scenario. Holds scenario.now (path_after asked.scenario_after scenario.now))

-- two lists are refused: the policy is refused for the list after, or a scenario isn't known
abbrev pub PairRefused : (List ℕ → Option (List ℕ)) → DiffOptions → Listed → Type 0
PairRefused texts asked after = RefusesPolicy texts (option_copied asked.policy) after ⊎ OfScenarios (LacksScenario texts) asked

-- the list after doesn't boot; or it does, and both are refused
abbrev pub AfterRefused : (List ℕ → Option (List ℕ)) → DiffOptions → Settings → Type 0
AfterRefused texts asked settings =
    HasNoBoot texts settings asked.after.now
    ⊎ ((after : Listed) × IsListAt texts settings asked.after.now after × PairRefused texts asked after)

-- or the list before doesn't
abbrev pub DiffRefused : (List ℕ → Option (List ℕ)) → DiffOptions → Settings → Type 0
DiffRefused texts asked settings = HasNoBoot texts settings asked.before.now ⊎ AfterRefused texts asked settings

abbrev pub DiffEnds : (List ℕ → Option (List ℕ)) → DiffOptions → Settings → ℕ → Type 0
DiffEnds texts asked settings status =
    EndsBy (DiffRefused texts asked settings) (OfScenarios (HasFaultIn texts settings) asked) (ListsDiffer texts asked settings) status
