-- What the lines of a scenario donate, session by session and line by line.
use Rattle.std.proofs.Common.{arith, ◌≡◌, ◌≢◌, ℕ, zero, suc, ◌+◌, ◌<◌, ◌≤◌, ◌&&◌, Bool, true, false, List, [], ◌∷◌, ◌++◌, length, take, get_or, set, nat_eq, refl, sym, ap, subst, ◌∙◌, append-nil, append_assoc}
use Rattle.std.proofs.Math.Bool.{and-true}
use Rattle.std.proofs.lemmas.Bool.Decides.{nat_tests}
use Rattle.std.proofs.lemmas.List.{get_or-set_same, get_or-set_other, take_more}
use Rattle.std.proofs.lemmas.List.Elements.{filter-append}
use Rattle.std.proofs.lemmas.List.Folds.{list_all-append}
use Rattle.std.proofs.lemmas.Option.{slice_get-get_or, unwrap_or-slice_get}
use Rattle.std.specs.Prelude.{⊤, filter, is_some, max, if◌then◌else◌, Option, Some, None}
use Rattle.std.specs.List.{slice_get, list_all, AllByRecursion}
use Rattle.std.specs.Option.{option_and_then, option_map, option_map_or, unwrap_or}
use Rattle.own_model.specs.Amounts.{Amounts, no_amounts}
use Rattle.budget_meter.specs.Needs.{amounts_of}
use Rattle.budget_meter.specs.declared.budget.Budget.{Budget}
use Rattle.budget_search.specs.Donations.{donated_text}
use Rattle.budget_search.specs.Lines.{args_to_change, opening_args, Donates}
use Rattle.budget_search.specs.Steps.{call_said}
use Rattle.budget_search.specs.declared.account_budgets.AccountBudgets.{AccountBudgets}
use Rattle.budget_search.specs.declared.account_budgets.SessionKey.{SessionKey}
use Rattle.budget_search.specs.declared.budget_intervals.BudgetChoice.{BudgetChoice}
use Rattle.budget_search.specs.declared.component_line.ComponentLine.{ComponentLine}
use Rattle.budget_least.specs.ComponentLines.{IsAsWritten}
use Rattle.budget_least.specs.LineDonations.{as_budget, donation_for, has_both, have_same, is_at, kept_for, larger, least_of, safe_for, safest_of, same_amounts, sessions_at, IsDonated}
use Rattle.budget_least.specs.declared.line_donations.LineDonation.{LineDonation}
use Rattle.budget_least.specs.declared.line_donations.LineDonation.TheVariants.{Unused, Alike, Unlike, Insufficient}

-- ---- a line with one more session

larger_swap : (one two three : Amounts) → larger one (larger two three) ≡ larger two (larger one three)
larger_swap one two three =
    let ram : max one.ram (max two.ram three.ram) ≡ max two.ram (max one.ram three.ram) = omega arith in
    let caps : max one.caps (max two.caps three.caps) ≡ max two.caps (max one.caps three.caps) = omega arith in
    λ i. record { ram = ram i; caps = caps i }

larger_alone : (one : Amounts) → larger one no_amounts ≡ one
larger_alone one =
    let ram : max one.ram 0 ≡ one.ram = omega arith in
    let caps : max one.caps 0 ≡ one.caps = omega arith in
    λ i. record { ram = ram i; caps = caps i }

-- what is safe for one more session
safe_more : (sessions : List AccountBudgets) (account : AccountBudgets) (safe : Amounts) → Some safe ≡ safest_of account →
    safe_for (sessions ++ account ∷ []) ≡ larger safe (safe_for sessions)
safe_more [] account safe is = ap (λ o. larger (unwrap_or o no_amounts) no_amounts) (sym is)
safe_more (first ∷ sessions) account safe is =
    ap (larger (unwrap_or (safest_of first) no_amounts)) (safe_more sessions account safe is)
    ∙ larger_swap (unwrap_or (safest_of first) no_amounts) safe (safe_for sessions)

-- what is kept of sessions, by whether all have donations and the same minimum
abbrev kept_by : Bool → Bool → Amounts → Amounts → LineDonation
kept_by both same least safe = if both then (if same then Alike (as_budget least) (as_budget safe) else Unlike (as_budget safe)) else Insufficient

-- with one more session, which has this minimum and this safe donation
abbrev kept_with : Amounts → Amounts → LineDonation → LineDonation
kept_with least safe Unused = Alike (as_budget least) (as_budget safe)
kept_with least safe (Alike other more) =
    if same_amounts (amounts_of other) least
    then Alike other (as_budget (larger safe (amounts_of more)))
    else Unlike (as_budget (larger safe (amounts_of more)))
kept_with least safe (Unlike more) = Unlike (as_budget (larger safe (amounts_of more)))
kept_with least safe Insufficient = Insufficient

with_by : (both same : Bool) (first all least safe : Amounts) →
    kept_with least safe (kept_by both same first all) ≡ kept_by (both && true) (same && same_amounts first least) first (larger safe all)
with_by true true first all least safe = refl
with_by true false first all least safe = refl
with_by false same first all least safe = refl

-- this is what is kept with it
kept_next : (sessions : List AccountBudgets) (account : AccountBudgets) (least safe : Amounts) → Some least ≡ least_of account → Some safe ≡ safest_of account →
    kept_with least safe (kept_for sessions) ≡ kept_for (sessions ++ account ∷ [])
kept_next [] account least safe is_least is_safe =
    ap (λ all. Alike (as_budget least) (as_budget all)) (sym (larger_alone safe))
    ∙ (λ i. kept_by ((is_some (is_least i) && is_some (is_safe i)) && true) true (unwrap_or (is_least i) no_amounts) (larger (unwrap_or (is_safe i) no_amounts) no_amounts))
kept_next (first ∷ sessions) account least safe is_least is_safe =
    let lowest = unwrap_or (least_of first) no_amounts in
    let both : (list_all has_both (first ∷ sessions) && true) ≡ list_all has_both (first ∷ (sessions ++ account ∷ [])) =
    (λ i. list_all has_both (first ∷ sessions) && ((is_some (is_least i) && is_some (is_safe i)) && true)) ∙ sym (list_all-append has_both (first ∷ sessions) (account ∷ [])) in
    let same : (list_all (have_same first) sessions && same_amounts lowest least) ≡ list_all (have_same first) (sessions ++ account ∷ []) =
    (λ i. list_all (have_same first) sessions && same_amounts lowest (unwrap_or (is_least i) no_amounts))
    ∙ ap (λ b. list_all (have_same first) sessions && b) (sym (and-true (have_same first account)))
    ∙ sym (list_all-append (have_same first) sessions (account ∷ [])) in
    let all : larger safe (safe_for (first ∷ sessions)) ≡ safe_for (first ∷ (sessions ++ account ∷ [])) = sym (safe_more (first ∷ sessions) account safe is_safe) in
    with_by (list_all has_both (first ∷ sessions)) (list_all (have_same first) sessions) lowest (safe_for (first ∷ sessions)) least safe
    ∙ (λ i. kept_by (both i) (same i) lowest (all i))

module _ (sessions : List AccountBudgets) (account : AccountBudgets) (least safe more all : Budget) (is_least : Some (amounts_of least) ≡ least_of account)
    (is_safe : Some (amounts_of safe) ≡ safest_of account) (is_all : amounts_of all ≡ larger (amounts_of safe) (amounts_of more)) where
  next : (kept : LineDonation) → kept ≡ kept_for sessions → kept_with (amounts_of least) (amounts_of safe) kept ≡ kept_for (sessions ++ account ∷ [])
  next kept is = ap (kept_with (amounts_of least) (amounts_of safe)) is ∙ kept_next sessions account (amounts_of least) (amounts_of safe) is_least is_safe

  pub alike_more : (other : Budget) (same : Bool) → same ≡ same_amounts (amounts_of other) (amounts_of least) → Alike other more ≡ kept_for sessions →
      (if same then Alike other all else Unlike all) ≡ kept_for (sessions ++ account ∷ [])
  alike_more other same told before = (λ i. if told i then Alike other (as_budget (is_all i)) else Unlike (as_budget (is_all i))) ∙ next (Alike other more) before

  pub still_unlike : Unlike more ≡ kept_for sessions → Unlike all ≡ kept_for (sessions ++ account ∷ [])
  still_unlike before = ap (λ a. Unlike (as_budget a)) is_all ∙ next (Unlike more) before

-- ---- all lines with one more session

-- the line of a session opens one session more, and the other lines stay
pub one_opened : (before : List AccountBudgets) (account : AccountBudgets) (number : ℕ) (lines : List LineDonation) (session : SessionKey) (old new : LineDonation) →
    account.session ≡ Some session → session.line < length lines → old ≡ get_or lines session.line old →
    ((sessions : List AccountBudgets) → old ≡ kept_for sessions → new ≡ kept_for (sessions ++ account ∷ [])) →
    unwrap_or (slice_get lines number) Unused ≡ kept_for (sessions_at number before) →
    unwrap_or (slice_get (set lines session.line new) number) Unused ≡ kept_for (sessions_at number (before ++ account ∷ []))
one_opened before account number lines session old new is within value more holds =
    let place = session.line in
    let sessions = sessions_at number before in
    let these : (b : Bool) → nat_eq place number ≡ b → sessions ++ filter (λ (a : AccountBudgets). b) (account ∷ []) ≡ sessions_at number (before ++ account ∷ []) =
    λ b told.
    sym (filter-append (λ (a : AccountBudgets). is_at number a.session) before (account ∷ [])
    ∙ ap (λ s. sessions ++ filter (λ (a : AccountBudgets). is_at number s) (account ∷ [])) is
    ∙ ap (λ b. sessions ++ filter (λ (a : AccountBudgets). b) (account ∷ [])) told) in
    elim (nat_eq place number) as
    (λ b. nat_eq place number ≡ b → unwrap_or (slice_get (set lines place new) number) Unused ≡ kept_for (sessions_at number (before ++ account ∷ []))) [
      | true ↦ λ told.
          let here : place ≡ number = grind (arith, nat_tests, told) in
          let old_is : old ≡ kept_for sessions =
          value ∙ ap (λ o. unwrap_or o Unused) (sym (slice_get-get_or lines place old within)) ∙ ap (λ n. unwrap_or (slice_get lines n) Unused) here ∙ holds in
          ap (λ n. unwrap_or (slice_get (set lines place new) n) Unused) (sym here)
          ∙ unwrap_or-slice_get (set lines place new) place Unused
          ∙ get_or-set_same lines place new Unused within
          ∙ more sessions old_is
          ∙ ap kept_for (these true told)
      | false ↦ λ told.
          let apart : number ≢ place = λ here. absurd (grind (arith, nat_tests, told, here)) in
          unwrap_or-slice_get (set lines place new) number Unused
          ∙ get_or-set_other lines place number new Unused apart
          ∙ sym (unwrap_or-slice_get lines number Unused)
          ∙ holds
          ∙ ap kept_for (sym (append-nil sessions) ∙ these false told)
    ] refl

-- one element more of those that are added
pub taken_more : {X : Type 0} (before xs : List X) (place : ℕ) (x : X) → place < length xs → x ≡ get_or xs place x →
    (before ++ take place xs) ++ x ∷ [] ≡ before ++ take (place + 1) xs
taken_more before xs place x there is =
    append_assoc before (take place xs) (x ∷ [])
    ∙ ap (λ y. before ++ (take place xs ++ y ∷ [])) is
    ∙ ap (λ ys. before ++ ys) (sym (take_more xs place x there))

-- ---- lines that donate

nowhere : {Y : Type 0} (args : Option (List ℕ)) (told : Option Y) → None ≡ told → None ≡ option_and_then (λ args. told) args
nowhere None told is = refl
nowhere (Some args) told is = is

-- a line that donates nothing else than before
pub not_donated : (choice : BudgetChoice) (sessions : List AccountBudgets) (step : ComponentLine) → None ≡ donation_for choice (sessions_at step.number sessions) →
    IsAsWritten step → IsDonated choice sessions step
not_donated choice sessions step none written = record {
  donation = ap (option_map amounts_of) written.donation ∙ nowhere (args_to_change step) (donation_for choice (sessions_at step.number sessions)) none;
  args =
      ap (option_map (λ args. args.items)) written.args
      ∙ untold (args_to_change step)
      ∙ ap (λ o. option_and_then (λ args. option_map (λ donation. donated_text donation args) o) (args_to_change step)) none;
}
  where
    untold : (args : Option (List ℕ)) → None ≡ option_and_then (λ args. option_map (λ donation. donated_text donation args) None) args
    untold None = refl
    untold (Some args) = refl

-- a line that donates what its sessions need
pub is_donated : (choice : BudgetChoice) (sessions : List AccountBudgets) (old new : ComponentLine) (donation : Amounts) →
    Some donation ≡ donation_for choice (sessions_at old.number sessions) → IsAsWritten old → Donates donation old new → IsDonated choice sessions new
is_donated choice sessions old new donation is written donates =
    let change : args_to_change old ≡ args_to_change new = λ i. if sym donates.can_donate i then opening_args (call_said (sym donates.line i)) else None in
    let its : Some donation ≡ donation_for choice (sessions_at new.number sessions) = is ∙ ap (λ n. donation_for choice (sessions_at n sessions)) (sym donates.number) in
    record {
      donation =
          donates.donated
          ∙ ap (λ d. option_map_or (λ args. Some donation) (args_to_change old) (option_map amounts_of d)) written.donation
          ∙ or_none (λ args. Some donation) (args_to_change old)
          ∙ (λ i. option_and_then (λ args. its i) (change i));
      args =
          donates.args
          ∙ ap (λ d. option_map_or (λ args. Some (donated_text donation args)) (args_to_change old) (option_map (λ args. args.items) d)) written.args
          ∙ or_none (λ args. Some (donated_text donation args)) (args_to_change old)
          ∙ (λ i. option_and_then (λ args. option_map (λ donation. donated_text donation args) (its i)) (change i));
    }
  where
    or_none : {Y : Type 0} (of : List ℕ → Option Y) (args : Option (List ℕ)) → option_map_or of args None ≡ option_and_then of args
    or_none of None = refl
    or_none of (Some args) = refl

-- ---- line by line

module _ {X : Type 0} (P Q : X → Type 0) where
  -- the elements before a place are P, and the others still Q
  abbrev pub HaveBecome : ℕ → List X → Type 0
  HaveBecome zero xs = AllByRecursion Q xs
  HaveBecome (suc place) [] = ⊤
  HaveBecome (suc place) (x ∷ xs) = P x × HaveBecome place xs

  becomes : (place : ℕ) (xs : List X) (old new : X) → place < length xs → old ≡ get_or xs place old → (Q old → P new) → HaveBecome place xs →
      HaveBecome (suc place) (set xs place new)
  becomes place [] old new there is turn have = absurd (omega (arith, there))
  becomes zero (x ∷ xs) old new there is turn have = (turn (subst Q (sym is) have.0), have.1)
  becomes (suc place) (x ∷ xs) old new there is turn have = (have.0, becomes place xs old new (omega (arith, there)) is turn have.1)

  pub become_next : (place : ℕ) (xs : List X) (old new : X) → place < length xs → old ≡ get_or xs place old → (Q old → P new) → HaveBecome place xs →
      HaveBecome (place + 1) (set xs place new)
  become_next place xs old new there is turn have =
      let next : suc place ≡ place + 1 = omega arith in
      subst (λ n. HaveBecome n (set xs place new)) next (becomes place xs old new there is turn have)

  pub become_all : (place : ℕ) (xs : List X) → length xs ≤ place → HaveBecome place xs → AllByRecursion P xs
  become_all place [] past have = tt
  become_all zero (x ∷ xs) past have = absurd (omega (arith, past))
  become_all (suc place) (x ∷ xs) past have = (have.0, become_all place xs (omega (arith, past)) have.1)
