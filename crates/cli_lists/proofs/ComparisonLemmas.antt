-- The comparison of two start lists, and its exit status.
use Rattle.std.proofs.Common.{Global, ◌≡◌, ◌≢◌, ℕ, Bool, true, false, not, List, [], ◌∷◌, map, length, nat_eq, refl, sym, subst, ap, ◌∙◌, arith, inl, inr}
use Rattle.std.specs.Prelude.{◌⊎◌, if◌then◌else◌, IfOk, IfErr, Option, Some, Result, Ok, Err, All, Vec}
use Rattle.std.specs.IoError.{error_kind}
use Rattle.std.specs.declared.io.Error.{Error}
use Rattle.std.specs.declared.io.ErrorKind.TheVariants.{BrokenPipe}
use Rattle.std.proofs.lemmas.Bool.Decides.{nat_tests}
use Rattle.std.proofs.lemmas.Result.{IfOk-at_ok}
use Rattle.cli_base.specs.Files.{IsTextAt}
use Rattle.cli_base.specs.PolicyVerdict.{HasNoPolicy}
use Rattle.cli_base.specs.Statuses.{EndsAs, HasFailed, HasWritten}
use Rattle.cli_lists.specs.Comparison.{AreAll, AreBreachesBy, AreBreachesOf, AreNewBreaches, AreSoFar, Compared, EndsChanged, EndsWith, HasPolicyFault, IsSideOf, IsTextOf, RefusesPolicy, changed_if}
use Rattle.cli_lists.specs.declared.diff_policy.PolicyBreaches.{PolicyBreaches}
use Rattle.cli_lists.specs.declared.diff_text.DiffText.{DiffText}
use Rattle.list_diff.specs.Breaches.{breach_changes, change_at}
use Rattle.list_diff.specs.PlacedBreaches.{ArePlaced, BreachAt}
use Rattle.list_diff.specs.Changes.{changes_of}
use Rattle.list_diff.specs.Differences.{nothing_differs}
use Rattle.list_diff.specs.Reaches.{AreReachChanges}
use Rattle.list_diff.specs.declared.policy_breaches.BreachChange.{BreachChange}
use Rattle.list_diff.specs.declared.differences.ListDifferences.{ListDifferences}
use Rattle.list_diff.specs.declared.entry_changes.EntryChange.{EntryChange}
use Rattle.list_diff.specs.declared.reach_changes.ReachChange.{ReachChange}
use Rattle.list_diff.specs.declared.reach_changes.ReachSide.{ReachSide}
use Rattle.list_policy.specs.Components.{FaultAt, fault_at}
use Rattle.list_policy.specs.Line.{LineAt, line_at}
use Rattle.list_policy.specs.Reading.{Reads}
use Rattle.list_policy.specs.declared.demand.PolicyLine.{PolicyLine}
use Rattle.list_policy.specs.declared.fault.PolicyFault.{PolicyFault}
use Rattle.list_policy.specs.declared.policy_text.Policy.{Policy}
use Rattle.list_reach.specs.Paths.{is_chosen}
use Rattle.list_reach.specs.Rows.{row_of, rows}
use Rattle.list_reach.specs.Table.{IsTrue}
use Rattle.list_reach.specs.declared.reach_cell.ReachCell.{ReachCell}
use Rattle.own_model.specs.Listed.{Listed}

-- ---- writes

failed_by : (A : Type 0) (status : ℕ) (b : Bool) → nat_eq status 141 ≡ b → (A → status ≡ 141) → ((¬ A) → status ≡ 1) → HasFailed status
failed_by A status true is broken other = inr (grind (arith, nat_tests))
failed_by A status false is broken other =
    let no : status ≢ 141 = grind (arith, nat_tests) in
    inl (other (λ a. absurd (no (broken a))))

-- a write that failed
failed_write : (T : Type 0) (error : Error) (status : ℕ) → HasWritten {T = T} (Err error) status → HasFailed status
failed_write T error status is = failed_by (error_kind error ≡ BrokenPipe) status (nat_eq status 141) refl is.0 is.1

-- the status after a write
pub written : {T : Type 0} (printed : Result T Error) (changed : Bool) (status : ℕ) → EndsWith printed changed status
    → EndsAs ⊥ (EndsChanged (λ c. c ≡ changed_if changed)) status
written (Ok done) changed status is = inr (changed_if changed, refl, is)
written {T} (Err error) changed status is = inl (inl (failed_write T error status is))

-- a text says whether something differs
pub ends_text : (P : Compared → Type 0) (changed : Bool) (status : ℕ) → P (changed_if changed)
    → EndsAs ⊥ (EndsChanged (λ c. c ≡ changed_if changed)) status
    → EndsAs ⊥ (EndsChanged P) status
ends_text P changed status differ (inl none) = inl none
ends_text P changed status differ (inr (said, same, is)) = inr (said, subst P (sym same) differ, is)

-- ---- all differences

-- a side by its table
pub side_is : (list : Listed) (cells : List ReachCell) (side : ReachSide) → map row_of cells ≡ rows list (is_chosen []) (is_chosen [])
    → All (IsTrue list) cells → side.list.now ≡ list → side.cells.now ≡ cells → IsSideOf list side
side_is list cells side rows_are cells_are list_is is = record {
  list_is = list_is;
  rows_are = ap (λ (cs : List ReachCell). map row_of cs) is ∙ rows_are;
  cells_are = subst (λ (cs : List ReachCell). All (IsTrue list) cs) (sym is) cells_are;
}

-- the text of differences that are all
pub text_is : {E : Type 0} (so_far found : ListDifferences) (r : Result DiffText E)
    → AreAll so_far.before.now so_far.after.now so_far.breaches.now so_far.lacks.now so_far.replies.now found
    → IfOk r (λ made. made.is_changed ≡ not (nothing_differs found)) → IfOk r (IsTextOf so_far)
text_is so_far found (Ok made) all is = (found, all, ap changed_if is)
text_is so_far found (Err fault) all is = tt

pub all_found : (so_far found : ListDifferences) (was now : ReachSide) (changes : List EntryChange) (leads : List ReachChange)
    → AreSoFar so_far found → found.changes.now ≡ changes → found.leads.now ≡ leads
    → changes ≡ changes_of so_far.before.now so_far.after.now → AreReachChanges was now leads
    → IsSideOf so_far.before.now was → IsSideOf so_far.after.now now
    → AreAll so_far.before.now so_far.after.now so_far.breaches.now so_far.lacks.now so_far.replies.now found
all_found so_far found was now changes leads kept changes_is leads_is changes_are are was_is now_is =
    record {
      before_is = kept.before_is;
      after_is = kept.after_is;
      changes_are = changes_is ∙ changes_are;
      rows_are = record {
        was = was;
        now = now;
        was_is = was_is;
        now_is = now_is;
        are = subst (λ (rows : List ReachChange). AreReachChanges was now rows) (sym leads_is) are;
      };
      breaches_are = kept.breaches_are;
      lacks_are = kept.lacks_are;
      replies_are = kept.replies_are;
    }

-- ---- the breaches of a policy

-- with the policy of a text
pub ok_by_text : {E : Type 0} (texts : List ℕ → Option (List ℕ)) (policy : Option (List ℕ)) (path read text : List ℕ) (before after : Listed)
    (r : Result PolicyBreaches E) → policy ≡ Some path → IsTextAt texts path read → text ≡ read
    → IfOk r (λ found. AreBreachesOf text before after found.before.items found.after.items)
    → IfOk r (λ found. AreBreachesBy texts policy before after found.before.items found.after.items)
ok_by_text texts policy path read text before after (Ok found) is there same are =
    subst (λ (p : Option (List ℕ)). AreBreachesBy texts p before after found.before.items found.after.items) (sym is)
    (text, subst (λ (t : List ℕ). IsTextAt texts path t) (sym same) there, are)
ok_by_text texts policy path read text before after (Err status) is there same are = tt

-- the policy of a text is refused, or that of a path
pub text_refused : {T : Type 0} (texts : List ℕ → Option (List ℕ)) (policy : Option (List ℕ)) (path read text : List ℕ) (after : Listed)
    (r : Result T ℕ) → policy ≡ Some path → IsTextAt texts path read → text ≡ read
    → IfErr r (λ status. (status ≡ 1) ⊎ (status ≡ 2) × HasPolicyFault text after)
    → IfErr r (λ status. (status ≡ 1) ⊎ (status ≡ 2) × RefusesPolicy texts policy after)
text_refused texts policy path read text after (Ok value) is there same failed = tt
text_refused texts policy path read text after (Err status) is there same (inl one) = inl one
text_refused texts policy path read text after (Err status) is there same (inr (two, fault)) =
    inr (
      two,
      subst (λ (p : Option (List ℕ)). RefusesPolicy texts p after) (sym is)
          (inr (text, subst (λ (t : List ℕ). IsTextAt texts path t) (sym same) there, fault)),
    )

pub path_refused : (texts : List ℕ → Option (List ℕ)) (policy : Option (List ℕ)) (path : List ℕ) (after : Listed) (lacks : Bool) (status : ℕ)
    → policy ≡ Some path → (lacks ≡ false → HasNoPolicy texts path) → status ≡ (if lacks then 1 else 2)
    → (status ≡ 1) ⊎ (status ≡ 2) × RefusesPolicy texts policy after
path_refused texts policy path after true status is none one = inl one
path_refused texts policy path after false status is none two =
    inr (two, subst (λ (p : Option (List ℕ)). RefusesPolicy texts p after) (sym is) (inl (none refl)))

-- some faults were found
pub some_faults : (faults : List PolicyFault) (found : List FaultAt) (b : Bool) → map fault_at faults ≡ found → b ≡ nat_eq (length faults) 0
    → b ≡ false → found ≢ []
some_faults [] found b are test is none = let no : true ≡ false = sym test ∙ is in cc
some_faults (fault ∷ faults) found b are test is none = let no : fault_at fault ∷ map fault_at faults ≡ [] = are ∙ none in cc

-- no fault was found
pub no_faults : {X : Type 0} (xs : List X) (b : Bool) → b ≡ nat_eq (length xs) 0 → b ≡ true → xs ≡ []
no_faults [] b test is = refl
no_faults (x ∷ xs) b test is = let none : length (x ∷ xs) ≡ 0 = grind (arith, nat_tests) in absurd (omega (arith, none))

-- the breaches that one list alone has
pub made_breaches : {E : Type 0} (texts : List ℕ → Option (List ℕ)) (policy : Option (List ℕ)) (before after : Listed) (olds news : List BreachAt)
    (made : Result (Vec BreachChange Global) E) (value : Vec BreachChange Global) (breaches : List BreachChange)
    → AreBreachesBy texts policy before after olds news → IfOk made (λ found. map change_at found.items ≡ breach_changes olds news)
    → made ≡ Ok value → breaches ≡ value.items → AreNewBreaches texts policy before after breaches
made_breaches texts policy before after olds news made value breaches by are is breaches_are = (
  olds,
  news,
  by,
  ap (λ (bs : List BreachChange). map change_at bs) breaches_are
      ∙ IfOk-at_ok (λ (found : Vec BreachChange Global). map change_at found.items ≡ breach_changes olds news) is are,
)

-- the breaches of the lines that were read
pub placed_by : (text : List ℕ) (before after : Listed) (old policy : Policy) (old_lines lines : List PolicyLine) (olds news : List BreachAt)
    → Reads before text old → Reads after text policy → policy.faults.items ≡ [] → old_lines ≡ old.lines.items → lines ≡ policy.lines.items
    → ArePlaced before (map line_at old_lines) olds → ArePlaced after (map line_at lines) news → AreBreachesOf text before after olds news
placed_by text before after old policy old_lines lines olds news old_reads reads none old_are are old_placed placed =
    record {
      sound = sym reads.faults ∙ ap (λ (fs : List PolicyFault). map fault_at fs) none;
      olds_are = subst (λ (ls : List LineAt). ArePlaced before ls olds) (ap (λ (ls : List PolicyLine). map line_at ls) old_are ∙ old_reads.lines) old_placed;
      news_are = subst (λ (ls : List LineAt). ArePlaced after ls news) (ap (λ (ls : List PolicyLine). map line_at ls) are ∙ reads.lines) placed;
    }
