-- Lines that are judged, step by step.
use Rattle.std.proofs.Common.{arith, ◌≡◌, ℕ, zero, suc, ◌<◌, ◌≤◌, Bool, true, false, List, [], ◌∷◌, length, get_or, set, refl, sym, ap, subst, ◌∙◌, IfErr, Result, Ok, Err}
use Rattle.std.specs.Prelude.{IsErrAnd, not, if◌then◌else◌, Option, Some, None}
use Rattle.std.specs.List.{slice_get}
use Rattle.std.specs.Option.{unwrap_or}
use Rattle.own_model.specs.Call.{Call, Spoken}
use Rattle.line_names.specs.Filling.{FilledLine}
use Rattle.line_names.specs.NameTable.{NameTable}
use Rattle.line_steps.specs.ResolvedLines.{ResolvedLine, resolved_line}
use Rattle.line_steps.specs.ResolvedLines.ResolvedLine.{Follow, Call as CallLine}
use Rattle.line_steps.specs.RunPosition.{arrived, passed as past}
use Rattle.list_parser.specs.Budgets.{changed_at}
use Rattle.run_scenario.specs.LineSteps.{is_meant_line}
use Rattle.run_scenario.specs.UnknownNames.{names_unknown}
use Rattle.budget_search.specs.AmpleCalls.{Client}
use Rattle.budget_least.specs.BoundRuns.{kept_by, made_in, without_client, BoundRun, IsClient}
use Rattle.budget_least.specs.ComponentLines.{expects_refusal, said_in}
use Rattle.budget_least.specs.LineErrors.{at_position, caller_in, counted, is_error, is_unmade, one_more, IsJudged, IsJudgedAs, IsJudgedBy, IsJudgedCall, IsMade, IsMadeUnless, Judged, Judging}
use Rattle.budget_least.specs.declared.binding_run.BindingBudgets.{BindingBudgets}
use Rattle.budget_least.proofs.BoundRunLemmas.{kept_taken}

-- an error that is passed on is the callee's
pub passed : {X E : Type 0} (P : E → Type 0) (its : E) (r : Result X E) → IsErrAnd r (λ fault. fault ≡ its) → P its → IfErr r P
passed P its (Ok x) is so = tt
passed P its (Err fault) is so = subst P (sym is) so

-- an element that is written is a change of the one that was there
pub set_at : {X : Type 0} (change : X → X) (xs : List X) (i : ℕ) (old new : X) → i < length xs → old ≡ get_or xs i old → new ≡ change old →
    set xs i new ≡ changed_at change xs i
set_at change [] i old new there was is = absurd (omega (arith, there))
set_at change (x ∷ xs) zero old new there was is = ap (λ y. y ∷ xs) (is ∙ ap change was)
set_at change (x ∷ xs) (suc i) old new there was is = ap (λ ys. x ∷ ys) (set_at change xs i old new (omega (arith, there)) was is)

-- an element that is there is the one that is got
pub got_at : (counts : List ℕ) (i count : ℕ) → i < length counts → count ≡ get_or counts i count → count ≡ unwrap_or (slice_get counts i) 0
got_at [] i count there was = absurd (omega (arith, there))
got_at (c ∷ counts) zero count there was = was
got_at (c ∷ counts) (suc i) count there was = got_at counts i count (omega (arith, there)) was

-- a call that isn't made, and one that is
pub unmade : (is_so meant unknown complained : Bool) (component : ℕ) (filled : FilledLine) (expected : Option (List ℕ)) (call : Call) (old new : Judging) → is_so ≡ true →
    new ≡ counted component old → complained ≡ false → IsMadeUnless is_so meant unknown component filled expected call old new complained
unmade true meant unknown complained component filled expected call old new so is none = (is, none)
unmade false meant unknown complained component filled expected call old new so is none = absurd cc

pub made : (is_so meant unknown complained : Bool) (component : ℕ) (filled : FilledLine) (expected : Option (List ℕ)) (call : Call) (old new : Judging) → is_so ≡ false →
    IsMade meant unknown component filled expected call old new complained → IsMadeUnless is_so meant unknown component filled expected call old new complained
made true meant unknown complained component filled expected call old new so is = absurd cc
made false meant unknown complained component filled expected call old new so is = is

-- a line is counted, and the client of its component is taken out, makes the call, and is kept; the reply is compared
pub made_as : (meant unknown complained binds : Bool) (component place : ℕ) (filled : FilledLine) (expected : Option (List ℕ)) (call : Call) (old more : Judging)
    (taken kept : BoundRun) (client made : Client) (budgets : BindingBudgets) (text : List ℕ) → more ≡ counted component old →
    place ≡ unwrap_or (slice_get old.counts component) 0 → IsClient more.run component client → taken ≡ without_client component more.run → budgets ≡ taken.budgets →
    made ≡ made_in budgets component place call client → text ≡ made.text → complained ≡ is_error meant unknown expected text →
    binds ≡ not (expects_refusal expected) → kept ≡ kept_by binds component filled made taken →
    IsMade meant unknown component filled expected call old (record { run = kept; counts = more.counts }) complained
made_as meant unknown complained binds component place filled expected call old more taken kept client made budgets text count place_is its take same make told other bind keep =
    let run_is : more.run ≡ old.run = ap (λ (j : Judging). j.run) count in
    let taken_is : taken ≡ without_client component old.run = take ∙ ap (without_client component) run_is in
    let budgets_is : budgets ≡ old.run.budgets = same ∙ ap (λ (r : BoundRun). r.budgets) taken_is in
    let counts_is : more.counts ≡ changed_at one_more old.counts component = ap (λ (j : Judging). j.counts) count in
    let it : Client = made_in old.run.budgets component (unwrap_or (slice_get old.counts component) 0) call client in
    let made_is : made ≡ it = make ∙ (λ i. made_in (budgets_is i) component (place_is i) call client) in
    let kept_is : kept ≡ kept_by (not (expects_refusal expected)) component filled it old.run =
    keep ∙ (λ i. kept_by (bind i) component filled (made_is i) (taken_is i)) ∙ kept_taken (not (expects_refusal expected)) component filled it old.run in (
      client,
      (
        subst (λ (r : BoundRun). IsClient r component client) run_is its,
        (
          (λ i. record { run = kept_is i; counts = counts_is i }),
          other ∙ ap (is_error meant unknown expected) (told ∙ ap (λ (c : Client). c.text) made_is),
        ),
      ),
    )

-- a call by what was parsed of its line, and by its component
pub judged_by : (meant unknown complained : Bool) (filled : FilledLine) (expected : Option (List ℕ)) (old new : Judging) (says : Option Spoken) (said : Spoken) (component : Option ℕ) →
    says ≡ Some said → component ≡ caller_in old.run.list said.name → IsJudgedBy meant unknown filled expected said.call component old new complained →
    IsJudgedCall meant unknown filled expected says old new complained
judged_by meant unknown complained filled expected old new says said component is named so =
    subst (λ s. IsJudgedCall meant unknown filled expected s old new complained) (sym is)
    (subst (λ c. IsJudgedBy meant unknown filled expected said.call c old new complained) named so)

-- a line by what it was resolved to, at the position after it
pub judged_line : (line : List ℕ) (complained : Bool) (resolved : ResolvedLine) (known : NameTable) (old : Judged) (before after : BoundRun) (taken : Judging) (errors : ℕ) →
    before ≡ record old.judging.run { position = past old.judging.run.position } → known ≡ before.position.known → resolved ≡ resolved_line None known line →
    IsJudgedAs (is_meant_line line) resolved (record { run = before; counts = old.judging.counts }) taken complained →
    errors ≡ (if complained then one_more old.errors else old.errors) → after ≡ record taken.run { position = arrived taken.run.position } →
    IsJudged line old (record { judging = record { run = after; counts = taken.counts }; errors = errors })
judged_line line complained resolved known old before after taken errors pass knows is judged count arrive =
    let resolved_is : resolved ≡ resolved_line None old.judging.run.position.known line =
    is ∙ ap (λ k. resolved_line None k line) (knows ∙ ap (λ (r : BoundRun). r.position.known) pass) in (
      taken,
      (
        complained,
        (
          subst (λ r. IsJudgedAs (is_meant_line line) r (at_position (past old.judging.run.position) old.judging) taken complained) resolved_is
              (subst (λ (r : BoundRun). IsJudgedAs (is_meant_line line) resolved (record { run = r; counts = old.judging.counts }) taken complained) pass judged),
          (λ i. record { judging = record { run = arrive i; counts = taken.counts }; errors = count i }),
        ),
      ),
    )

-- ---- the list of a run stays

kept_list : (binds : Bool) (component : ℕ) (filled : FilledLine) (client : Client) (run : BoundRun) → (kept_by binds component filled client run).list ≡ run.list
kept_list true component filled client run = refl
kept_list false component filled client run = refl

made_list : (is_so meant unknown complained : Bool) (component : ℕ) (filled : FilledLine) (expected : Option (List ℕ)) (call : Call) (old new : Judging) →
    IsMadeUnless is_so meant unknown component filled expected call old new complained → new.run.list ≡ old.run.list
made_list true meant unknown complained component filled expected call old new is = ap (λ (j : Judging). j.run.list) is.0
made_list false meant unknown complained component filled expected call old new is =
    ap (λ (j : Judging). j.run.list) is.1.1.0
    ∙ kept_list (not (expects_refusal expected)) component filled
    (made_in old.run.budgets component (unwrap_or (slice_get old.counts component) 0) call is.0) old.run

called_list : (meant unknown complained : Bool) (filled : FilledLine) (expected : Option (List ℕ)) (says : Option Spoken) (old new : Judging) →
    IsJudgedCall meant unknown filled expected says old new complained → new.run.list ≡ old.run.list
called_list meant unknown complained filled expected None old new is = ap (λ (j : Judging). j.run.list) is.0
called_list meant unknown complained filled expected (Some said) old new is = by (caller_in old.run.list said.name) is
  where
    by : (component : Option ℕ) → IsJudgedBy meant unknown filled expected said.call component old new complained → new.run.list ≡ old.run.list
    by None so = ap (λ (j : Judging). j.run.list) so.0
    by (Some component) so =
        made_list (is_unmade unknown old.run.list component expected said.call) meant unknown complained component filled expected said.call old new so

pub judged_list : (meant complained : Bool) (resolved : ResolvedLine) (old new : Judging) → IsJudgedAs meant resolved old new complained → new.run.list ≡ old.run.list
judged_list meant complained (Follow directive) old new is = ap (λ (j : Judging). j.run.list) is.0
judged_list meant complained (CallLine filled line expected) old new is =
    called_list meant (names_unknown old.run.list line) complained filled expected (said_in line) old new is
judged_list meant complained resolved old new is = ap (λ (j : Judging). j.run.list) is.0
