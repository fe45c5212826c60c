-- Runs that bind names, call by call.
use Rattle.std.proofs.lemmas.Bool.Decides.{nat_tests}
use Rattle.std.proofs.Common.{arith, ◌≡◌, ℕ, zero, suc, ◌<◌, ◌≤◌, Bool, true, false, List, [], ◌∷◌, length, set, refl, sym, ap, subst, ◌∙◌}
use Rattle.std.specs.Prelude.{if◌then◌else◌, nat_le, Option, Some, None}
use Rattle.own_model.specs.Amounts.{Amounts}
use Rattle.own_model.specs.Call.{Call}
use Rattle.line_names.specs.Filling.{FilledLine}
use Rattle.line_names.specs.Learning.{learnt}
use Rattle.list_parser.specs.Budgets.{changed_at}
use Rattle.budget_search.specs.AmpleCalls.{Client}
use Rattle.budget_least.specs.BoundRuns.{answered_by, budget_or, kept_by, made_in, with_client, without_client, BoundRun}
use Rattle.budget_least.specs.declared.binding_run.BindingBudgets.{BindingBudgets}

-- an element that is written, and written again
written : {X : Type 0} (v : X) (xs : List X) (i : ℕ) → i < length xs → set xs i v ≡ changed_at (λ other. v) xs i
written v [] i there = absurd (omega (arith, there))
written v (x ∷ xs) zero there = refl
written v (x ∷ xs) (suc i) there = ap (λ ys. x ∷ ys) (written v xs i (omega (arith, there)))

rewritten : {X : Type 0} (u v : X) (xs : List X) (i : ℕ) → changed_at (λ other. v) (changed_at (λ other. u) xs i) i ≡ changed_at (λ other. v) xs i
rewritten u v [] i = refl
rewritten u v (x ∷ xs) zero = refl
rewritten u v (x ∷ xs) (suc i) = ap (λ ys. x ∷ ys) (rewritten u v xs i)

-- the client at a place is written in a run whose value is seen
pub client_set : (seen run : BoundRun) (component : ℕ) (new v : Option Client) → seen ≡ run → length seen.clients ≡ length seen.list.entries →
    component < length run.list.entries → new ≡ v →
    record seen { clients = set seen.clients component new } ≡ record run { clients = changed_at (λ other. v) run.clients component }
client_set seen run component new v is all there same =
    let within : component < length seen.list.entries = subst (λ (r : BoundRun). component < length r.list.entries) (sym is) there in
    ap (λ c. record seen { clients = set seen.clients component c }) same
    ∙ ap (λ cs. record seen { clients = cs }) (written v seen.clients component (omega (arith, all, within)))
    ∙ ap (λ (r : BoundRun). record r { clients = changed_at (λ other. v) r.clients component }) is

-- the client makes its call with the budgets of the run
pub made_is : (component place : ℕ) (call : Call) (client made : Client) (old taken : BoundRun) (budgets : BindingBudgets) → taken ≡ without_client component old →
    budgets ≡ taken.budgets → made ≡ made_in budgets component place call client → made ≡ made_in old.budgets component place call client
made_is component place call client made old taken budgets take same is =
    is ∙ ap (λ b. made_in b component place call client) (same ∙ ap (λ (r : BoundRun). r.budgets) take)

abbrev pub learning : FilledLine → List ℕ → BoundRun → BoundRun
learning filled text run = record run { position = record run.position { known = learnt run.position.known filled text } }

abbrev pub putting : ℕ → Client → BoundRun → BoundRun
putting component client run = record run { clients = with_client component client run.clients }

-- a client is taken out, makes a call whose reply is learnt, and is put back
pub answered_is : (component : ℕ) (filled : FilledLine) (old taken bound new : BoundRun) (client : Client) (text : List ℕ) → taken ≡ without_client component old →
    text ≡ client.text → bound ≡ learning filled text taken → new ≡ putting component client bound → new ≡ answered_by component filled client old
answered_is component filled old taken bound new client text take told learn put =
    put ∙ ap (putting component client) (learn ∙ (λ i. learning filled (told i) (take i)))
    ∙ (λ i. record old {
      position = record old.position { known = learnt old.position.known filled client.text };
      clients = rewritten None (Some client) old.clients component i;
    })

-- it makes no difference that a client was taken out before it is kept
pub kept_taken : (binds : Bool) (component : ℕ) (filled : FilledLine) (client : Client) (run : BoundRun) →
    kept_by binds component filled client (without_client component run) ≡ kept_by binds component filled client run
kept_taken true component filled client run = λ i. record run {
  position = record run.position { known = learnt run.position.known filled client.text };
  clients = rewritten None (Some client) run.clients component i;
}
kept_taken false component filled client run = λ i. record run { clients = rewritten None (Some client) run.clients component i }

-- the budget of a run is no more than the most
pub within_most : (most : Amounts) (written : Option Amounts) → ((budget_or most written).ram ≤ most.ram) × ((budget_or most written).caps ≤ most.caps)
within_most most None = (omega arith, omega arith)
within_most most (Some budget) = by (nat_le budget.caps most.caps) (nat_le budget.ram most.ram) refl refl
  where
    by : (few less : Bool) → nat_le budget.caps most.caps ≡ few → nat_le budget.ram most.ram ≡ less →
        ((if few then (if less then budget else most) else most).ram ≤ most.ram) × ((if few then (if less then budget else most) else most).caps ≤ most.caps)
    by true true few less = (grind (arith, nat_tests, less), grind (arith, nat_tests, few))
    by true false few less = (omega arith, omega arith)
    by false less few is = (omega arith, omega arith)
