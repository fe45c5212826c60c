-- What the exit status of `diff` states of the runs of scenarios, and of all that is compared.
use Rattle.std.proofs.Common.{Global, ◌≡◌, ◌∙◌, ◌++◌, ℕ, Bool, true, false, List, append-nil, ap, inl, inr, length, map, nat_eq, refl, subst, sym}
use Rattle.std.proofs.lemmas.Result.{IfErr-weaker, IfOk-at_ok, IfOk-weaker}
use Rattle.std.specs.Prelude.{◌⊎◌, IfErr, IfNone, IfOk, Option, Some, None, Result, Ok, MatchBool, Vec}
use Rattle.std.specs.Borrow.{Bor}
use Rattle.std.specs.Option.{option_copied}
use Rattle.line_rounds.specs.Unfolding.{UnfoldedText}
use Rattle.list_diff.specs.LineResults.{call_in}
use Rattle.list_diff.specs.Needs.{shortfalls}
use Rattle.list_diff.specs.Replies.{AreCompared}
use Rattle.list_diff.specs.declared.line_outcomes.LineResult.{LineResult}
use Rattle.list_diff.specs.declared.need_changes.ComponentNeed.{ComponentNeed}
use Rattle.list_diff.specs.declared.need_changes.NeedChange.{NeedChange}
use Rattle.list_diff.specs.declared.policy_breaches.BreachChange.{BreachChange}
use Rattle.list_diff.specs.declared.reply_changes.ComparedLines.TheVariants.{Changed, Misread}
use Rattle.list_diff.specs.declared.reply_changes.ReplyChange.{ReplyChange}
use Rattle.own_model.specs.Listed.{Listed}
use Rattle.own_model.specs.Text.{lines_of}
use Rattle.own_model.specs.World.{World}
use Rattle.run_exchanges.specs.Exchange.{Exchange}
use Rattle.run_lines.specs.LineRuns.{EndsFor}
use Rattle.run_lines.specs.declared.line_run_fault.LineRunFault.{LineRunFault}
use Rattle.run_scenario.specs.LineSteps.{LineStep}
use Rattle.run_scenario.specs.RunCalls.{calls_answered}
use Rattle.run_scenario.specs.ScenarioRuns.{most_lines}
use Rattle.run_scenario.specs.declared.scenario_end.ScenarioEnd.{ScenarioEnd}
use Rattle.view_runs.specs.Answers.{IsAnsweredFrom, exchanges}
use Rattle.cli_options.specs.declared.command_options.DiffOptions.{DiffOptions}
use Rattle.cli_base.specs.Files.{IsTextAt}
use Rattle.cli_base.specs.Statuses.{EndsAs}
use Rattle.cli_base.specs.Unfolding.{HasRoundsFault, rounds_of}
use Rattle.cli_base.specs.declared.settings.Settings.{Settings}
use Rattle.cli_lists.specs.ComparedRuns.{AreLinesAt, AreNeedsOn, HasFaultAt, path_after, results_by}
use Rattle.cli_lists.specs.Comparison.{AnswersDiffer, AreNewBreaches, Compared, Differ, EndsBy, EndsChanged, HasStopped, LinesDiffer, NeedsDiffer, PairDiffers, ResultsDiffer, RunsDiffer, ScenariosDiffer, status_if_misread}
use Rattle.cli_lists.specs.Comparison.Compared.{Same, Different, Misunderstood}

-- ---- the answered calls of a run

-- all lines ran
all_lines : (steps : List (List ℕ) → List LineStep) (start : World) (found : List Exchange) (given : List (List ℕ)) (text : List ℕ)
    (rest : Option (List ℕ)) (failed : Bool) → EndsFor most_lines None given (Some text) rest failed
    → found ≡ exchanges start (calls_answered None (steps given)) → found ≡ exchanges start (calls_answered None (steps (lines_of text)))
all_lines steps start found given text rest failed ends are =
    let same : lines_of text ≡ given = ends.1 ∙ ap (λ left. given ++ left) ends.2.0 ∙ append-nil given in
    are ∙ ap (λ (lines : List (List ℕ)). exchanges start (calls_answered None (steps lines))) (sym same)

pub answered : (steps : List (List ℕ) → List LineStep) (start : World) (ending : ScenarioEnd) (found : List Exchange) (input rest : Option (List ℕ))
    (failed : Bool) (text : List ℕ) → input ≡ Some text → ending.fault ≡ None → IsAnsweredFrom steps start ending found input rest failed
    → found ≡ exchanges start (calls_answered None (steps (lines_of text)))
answered steps start ending found input rest failed text input_is none run =
    all_lines steps start found run.given text rest failed
    (subst (λ (i : Option (List ℕ)). EndsFor most_lines None run.given i rest failed) input_is
    (subst (λ (f : Option LineRunFault). EndsFor most_lines f run.given input rest failed) none run.ends))
    (subst (λ (f : Option LineRunFault). IfNone f (found ≡ exchanges start (calls_answered None (steps run.given)))) none run.are)

-- ---- statuses that say whether something differs

-- what is known of whether something differs
pub changed_as : (P Q : Compared → Type 0) → ((b : Compared) → P b → Q b) → (status : ℕ) → EndsAs ⊥ (EndsChanged P) status → EndsAs ⊥ (EndsChanged Q) status
changed_as P Q more status (inl none) = inl none
changed_as P Q more status (inr (changed, differ, is)) = inr (changed, more changed differ, is)

pub ok_as : (P Q : Compared → Type 0) → ((b : Compared) → P b → Q b) → (r : Result ℕ ℕ) → IfOk r (EndsAs ⊥ (EndsChanged P))
    → IfOk r (EndsAs ⊥ (EndsChanged Q))
ok_as P Q more r = IfOk-weaker r (EndsAs ⊥ (EndsChanged P)) (EndsAs ⊥ (EndsChanged Q)) (changed_as P Q more)

-- a line isn't understood, unless the host fails
pub misread_ends : (P Q : Compared → Type 0) → Q Misunderstood → (status : ℕ) → EndsAs ⊥ (EndsChanged P) status
    → EndsAs ⊥ (EndsChanged Q) (status_if_misread status)
misread_ends P Q misread status (inl (inl (inl one))) = inl (inl (inl (ap status_if_misread one)))
misread_ends P Q misread status (inl (inl (inr unread))) = inl (inl (inr (ap status_if_misread unread)))
misread_ends P Q misread status (inl (inr (two, refused))) = absurd refused
misread_ends P Q misread status (inr (Same, differ, is)) = inr (Misunderstood, misread, ap status_if_misread is)
misread_ends P Q misread status (inr (Different, differ, is)) = inr (Misunderstood, misread, ap status_if_misread is)
misread_ends P Q misread status (inr (Misunderstood, differ, is)) = inr (Misunderstood, misread, ap status_if_misread is)

-- where nothing is refused
pub ends_any : (R F : Type 0) (P : Compared → Type 0) (status : ℕ) → EndsAs ⊥ (EndsChanged P) status → EndsBy R F P status
ends_any R F P status (inl (inl failed)) = inl (inl (inl failed))
ends_any R F P status (inl (inr (two, refused))) = absurd refused
ends_any R F P status (inr changed) = inr changed

-- with other reasons
pub ends_more : (R S F : Type 0) (P Q : Compared → Type 0) → (R → S) → ((b : Compared) → P b → Q b) → (status : ℕ) → EndsBy R F P status
    → EndsBy S F Q status
ends_more R S F P Q why more status (inl (inl (inl failed))) = inl (inl (inl failed))
ends_more R S F P Q why more status (inl (inl (inr (two, refused)))) = inl (inl (inr (two, why refused)))
ends_more R S F P Q why more status (inl (inr (three, fault))) = inl (inr (three, fault))
ends_more R S F P Q why more status (inr (changed, differ, is)) = inr (changed, more changed differ, is)

-- ---- statuses without a result

-- with other reasons
pub stopped_as : (R S F G : Type 0) → (R → S) → (F → G) → (status : ℕ) → HasStopped R F status → HasStopped S G status
stopped_as R S F G why how status (inl (inl failed)) = inl (inl failed)
stopped_as R S F G why how status (inl (inr (two, refused))) = inl (inr (two, why refused))
stopped_as R S F G why how status (inr (three, fault)) = inr (three, how fault)

pub err_as : (R S F G : Type 0) → (R → S) → (F → G) → (r : Result ℕ ℕ) → IfErr r (HasStopped R F) → IfErr r (HasStopped S G)
err_as R S F G why how r = IfErr-weaker r (HasStopped R F) (HasStopped S G) (stopped_as R S F G why how)

-- a refusal
pub refusal_stops : (R S F : Type 0) (status : ℕ) → (R → S) → (status ≡ 1) ⊎ (status ≡ 2) × R → HasStopped S F status
refusal_stops R S F status why (inl one) = inl (inl (inl one))
refusal_stops R S F status why (inr (two, refused)) = inl (inr (two, why refused))

-- out of memory, or a fault of rounds
pub fault_stops : (R F G : Type 0) (status : ℕ) → (F → G) → (status ≡ 1) ⊎ (status ≡ 3) → (status ≡ 3 → F) → HasStopped R G status
fault_stops R F G status how (inl one) fault = inl (inl (inl one))
fault_stops R F G status how (inr three) fault = inr (three, how (fault three))

pub one_stops : (R F : Type 0) (r : Result ℕ ℕ) → IfErr r (λ status. status ≡ 1) → IfErr r (HasStopped R F)
one_stops R F r = IfErr-weaker r (λ status. status ≡ 1) (HasStopped R F) (λ status one. inl (inl (inl one)))

-- ---- what the runs of scenarios differ in

module _ (settings : Settings) (before : Listed) (old : UnfoldedText) (after : Listed) (new : UnfoldedText) (breaches : List BreachChange) where
  -- what came of the lines
  pub with_results : (olds news : List Exchange) (was now old_lines new_lines : List LineResult) (r : Result ℕ ℕ) → old_lines ≡ was
      → new_lines ≡ now → map call_in was ≡ results_by settings old olds → map call_in now ≡ results_by settings new news
      → IfOk r (EndsAs ⊥ (EndsChanged (ResultsDiffer settings before old after new old_lines new_lines breaches)))
      → IfOk r (EndsAs ⊥ (EndsChanged (AnswersDiffer settings before old after new olds news breaches)))
  with_results olds news was now old_lines new_lines r was_is now_is olds_are news_are ends =
      ok_as (ResultsDiffer settings before old after new old_lines new_lines breaches)
      (AnswersDiffer settings before old after new olds news breaches)
      (λ b differ. (
        old_lines,
        new_lines,
        ap (λ (rs : List LineResult). map call_in rs) was_is ∙ olds_are,
        ap (λ (rs : List LineResult). map call_in rs) now_is ∙ news_are,
        differ,
      )) r ends

  -- the replies that were found, where each line is understood
  pub with_replies : (was now : List LineResult) (misread replies : List ReplyChange) (status : ℕ) → AreCompared Misread was now misread
      → AreCompared Changed was now replies → nat_eq (length misread) 0 ≡ true
      → EndsAs ⊥ (EndsChanged (NeedsDiffer settings before old after new breaches replies)) status
      → EndsAs ⊥ (EndsChanged (ResultsDiffer settings before old after new was now breaches)) status
  with_replies was now misread replies status misread_are are none ends =
      changed_as (NeedsDiffer settings before old after new breaches replies) (ResultsDiffer settings before old after new was now breaches)
      (λ b needs. (
        misread,
        misread_are,
        subst
            (λ (n : Bool). MatchBool n ((rs : List ReplyChange) × AreCompared Changed was now rs × NeedsDiffer settings before old after new breaches rs b)
            (b ≡ Misunderstood)) (sym none) (replies, are, needs),
      )) status ends

  -- a line that isn't understood
  pub with_misread : (P : Compared → Type 0) (was now : List LineResult) (misread : List ReplyChange) (status : ℕ)
      → AreCompared Misread was now misread → nat_eq (length misread) 0 ≡ false → EndsAs ⊥ (EndsChanged P) status
      → EndsAs ⊥ (EndsChanged (ResultsDiffer settings before old after new was now breaches)) (status_if_misread status)
  with_misread P was now misread status misread_are some ends =
      misread_ends P (ResultsDiffer settings before old after new was now breaches) (
        misread,
        misread_are,
        subst
            (λ (n : Bool). MatchBool n ((rs : List ReplyChange) × AreCompared Changed was now rs × NeedsDiffer settings before old after new breaches rs Misunderstood)
            (Misunderstood ≡ Misunderstood)) (sym some) refl,
      ) status ends

  -- the needs that were found
  pub with_needs : {E : Type 0} (had has : List ComponentNeed) (replies : List ReplyChange) (made : Result (Vec NeedChange Global) E)
      (value : Vec NeedChange Global) (lacks : List NeedChange) (status : ℕ) → AreNeedsOn settings before old had
      → AreNeedsOn settings after new has → IfOk made (λ found. found.items ≡ shortfalls had has) → made ≡ Ok value → lacks ≡ value.items
      → EndsAs ⊥ (EndsChanged (Differ before after breaches lacks replies)) status
      → EndsAs ⊥ (EndsChanged (NeedsDiffer settings before old after new breaches replies)) status
  with_needs had has replies made value lacks status had_are has_are are is lacks_are ends =
      let found : value.items ≡ shortfalls had has = IfOk-at_ok (λ (v : Vec NeedChange Global). v.items ≡ shortfalls had has) is are in
      changed_as (Differ before after breaches lacks replies) (NeedsDiffer settings before old after new breaches replies)
      (λ b differ. (lacks, (had, has, had_are, has_are, lacks_are ∙ found), differ)) status ends

-- ---- the scenarios at both paths

module _ (texts : List ℕ → Option (List ℕ)) (settings : Settings) where
  -- the lines of the text at a path
  pub lines_at : (path read text : List ℕ) (lines : UnfoldedText) → IsTextAt texts path read → text ≡ read → rounds_of settings text ≡ Ok lines
      → AreLinesAt texts settings path lines
  lines_at path read text lines there same is = (text, subst (λ (t : List ℕ). IsTextAt texts path t) (sym same) there, is)

  pub fault_at_path : (path read text : List ℕ) → IsTextAt texts path read → text ≡ read → HasRoundsFault settings text
      → HasFaultAt texts settings path
  fault_at_path path read text there same fault = (text, subst (λ (t : List ℕ). IsTextAt texts path t) (sym same) there, fault)

  -- the same scenario on both lists
  pub with_same : (path : List ℕ) (other : Option (Bor (List ℕ))) (lines : UnfoldedText) (before after : Listed) (breaches : List BreachChange)
      (r : Result ℕ ℕ) → path_after other path ≡ path → AreLinesAt texts settings path lines
      → IfOk r (EndsAs ⊥ (EndsChanged (LinesDiffer settings before lines after lines breaches)))
      → IfOk r (EndsAs ⊥ (EndsChanged (ScenariosDiffer texts settings path (path_after other path) before after breaches)))
  with_same path other lines before after breaches r same lines_there ends =
      ok_as (LinesDiffer settings before lines after lines breaches)
      (ScenariosDiffer texts settings path (path_after other path) before after breaches)
      (λ b differ. (lines, lines, lines_there, subst (λ (p : List ℕ). AreLinesAt texts settings p lines) (sym same) lines_there, differ)) r ends

  -- another scenario on the list after
  pub with_other : (path next : List ℕ) (other : Option (Bor (List ℕ))) (lines : UnfoldedText) (before after : Listed)
      (breaches : List BreachChange) (r : Result ℕ ℕ) → path_after other path ≡ next → AreLinesAt texts settings path lines
      → IfOk r (EndsAs ⊥ (EndsChanged (λ changed. (now : UnfoldedText) × AreLinesAt texts settings next now
      × LinesDiffer settings before lines after now breaches changed)))
      → IfOk r (EndsAs ⊥ (EndsChanged (ScenariosDiffer texts settings path (path_after other path) before after breaches)))
  with_other path next other lines before after breaches r next_is lines_there ends =
      ok_as (λ changed. (now : UnfoldedText) × AreLinesAt texts settings next now × LinesDiffer settings before lines after now breaches changed)
      (ScenariosDiffer texts settings path (path_after other path) before after breaches)
      (λ b found. (
        lines,
        found.0,
        lines_there,
        subst (λ (p : List ℕ). AreLinesAt texts settings p found.0) (sym next_is) found.1,
        found.2,
      )) r ends

  -- ---- all that is compared

  -- with the breaches that one list alone has
  pub with_breaches : (asked : DiffOptions) (before after : Listed) (breaches : List BreachChange) (r : Result ℕ ℕ)
      → AreNewBreaches texts (option_copied asked.policy) before after breaches
      → IfOk r (EndsAs ⊥ (EndsChanged (RunsDiffer texts asked settings asked.scenario before after breaches)))
      → IfOk r (EndsAs ⊥ (EndsChanged (PairDiffers texts asked settings before after)))
  with_breaches asked before after breaches r are =
      ok_as (RunsDiffer texts asked settings asked.scenario before after breaches) (PairDiffers texts asked settings before after)
      (λ b runs. (breaches, are, runs)) r
