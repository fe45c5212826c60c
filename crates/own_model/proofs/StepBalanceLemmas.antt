-- A call moves limits between its caller, the caller's sessions and the caller's init, so what was balanced stays so.
use Rattle.std.proofs.lemmas.Bool.Decides.{nat_tests}
use Rattle.std.proofs.Common.{rules, ◌≡◌, ℕ, ◌+◌, ◌-◌, ◌<◌, ◌≤◌, ◌==◌, ◌&&◌, ◌⊎◌, inl, inr, Bool, true, false, cond, List, [], ◌∷◌, length, map, sum_by, refl, sym, ap, subst, ◌∙◌, arith, eqb-true, set, get_or, zero, suc}
use Rattle.std.proofs.lemmas.Bool.{cases_lt, eqb-false}
use Rattle.std.proofs.lemmas.Grind.{get_or-set_at}
use Rattle.std.proofs.lemmas.List.{set_past, get_or_past, get_or-set_other, length-set, set-get_or}
use Rattle.std.proofs.lemmas.List.Sums.{sum_by-set, sum_by-cons, get_or-le-sum_by}
use Rattle.std.specs.List.{AllByRecursion, zip}
use Rattle.own_model.proofs.StepExitLemmas.{by_exit, alike_on}
use Rattle.own_model.proofs.StepLimitLemmas.{limits_left, limits_move, none_left, gone_within_all, step_all_within, inits_stay, init_gains}
use Rattle.own_model.proofs.ListLemmas.{all_set, all_at}
use Rattle.own_model.specs.AccountList.{TotalsAreTheMachine, total_line}
use Rattle.own_model.specs.Account.{Account}
use Rattle.own_model.specs.Call.{Call, is_exit}
use Rattle.own_model.specs.Theorems.{StepKeepsBalance, LinesKeepBalance, StepKeepsBalanceFor, LinesKeepBalanceFor, LimitsFitTheMachine}
use Rattle.own_model.specs.Limits.{ram_limits, caps_limits, init_after, AreWithinLimits}
use Rattle.own_model.specs.OwnState.{OwnState}
use Rattle.own_model.specs.OwnStep.{own_step, exited_state}
use Rattle.own_model.specs.StartList.{Entry, StartEntry, StartList, entries_of, init_at, inits_kept, no_account, own_budget}
use Rattle.own_model.specs.Transcript.{Heard, heard, entry_at, state_at, nobody, nothing}
use Rattle.own_model.specs.Transcript.Heard.{NoCall, Stranger, Caller}
use Rattle.own_model.specs.World.{World, HasItsBudget, ram_returned, caps_returned, init_for, IsUnused, IsBalanced, IsBalancedFor, world_after_line, with_state, outcome_at}
use Rattle.own_model.specs.Donation.{raised}

-- a sum, where an element gives way to one that counts no more: with what is lost it is what it was
sum_after : {X : Type 0} (f : X → ℕ) (xs : List X) (i : ℕ) (y d : X) → f d ≡ 0 → f y ≤ f (get_or xs i d) → (f (get_or xs i d) - f y) + sum_by f (set xs i y) ≡ sum_by f xs
sum_after f xs i y d none less = search (rules, cases_lt, sum_by-set, set_past, get_or_past)

-- what is left is no more than there was
left_le : (ends : Bool) (n m : ℕ) → n ≡ cond ends 0 m → n ≤ m
left_le true n m is = omega (arith, is)
left_le false n m is = omega (arith, is)

-- a call leaves no more limits than there were
pub limits_le : (entry : Entry) (call : Call) (s : OwnState) →
    (ram_limits (own_step entry call s).next ≤ ram_limits s) × (caps_limits (own_step entry call s).next ≤ caps_limits s)
limits_le entry call s = grind (arith, nat_tests, limits_left, left_le)

-- the default account has nothing in use
none_unused : IsUnused no_account
none_unused = record { ram = refl; caps = refl }

-- a place's init is there, or nobody stands at the place
home_there : (n : ℕ) (entries : List Entry) (component : ℕ) → AllByRecursion (λ entry. entry.home < n) entries →
    ((entry_at entries component).home < n) ⊎ (entry_at entries component ≡ nobody)
home_there n [] component each = inr refl
home_there n (entry ∷ entries) zero each = inl each.0
home_there n (entry ∷ entries) (suc component) each = home_there n entries component each.1

-- what a component loses of limits its init gains, if it is there
inits_gain : (limit : Account → ℕ) (inits : List Account) (home : ℕ) (init : Account) (lost : ℕ) → home < length inits → limit init ≡ limit (init_at inits home) + lost →
    sum_by limit (set inits home init) ≡ sum_by limit inits + lost
inits_gain limit inits home init lost there is = omega (arith, is, sum_by-set limit inits home init no_account there)

-- another own state with no more limits leaves a world balanced, where the component's init is there
balanced_with : (pages caps : ℕ) (world : World) (component : ℕ) (after : OwnState) → (entry_at world.entries component).home < length world.inits →
    AreWithinLimits after → ram_limits after ≤ ram_limits (state_at world.states component) → caps_limits after ≤ caps_limits (state_at world.states component) →
    IsBalanced pages caps world → IsBalanced pages caps (with_state world component after)
balanced_with pages caps world component after there within ram_less caps_less h =
    let home : ℕ = (entry_at world.entries component).home in
    let before : OwnState = state_at world.states component in
    let init : Account = init_after (init_at world.inits home) before after in
    let unused = all_at IsUnused world.inits home no_account h.unused none_unused in
    let ram_gain = inits_gain (λ init. init.ram_limit) world.inits home init (ram_limits before - ram_limits after) there refl in
    let caps_gain = inits_gain (λ init. init.caps_limit) world.inits home init (caps_limits before - caps_limits after) there refl in
    let ram = sum_after ram_limits world.states component after nothing none_left.0 ram_less in
    let caps_sum = sum_after caps_limits world.states component after nothing none_left.1 caps_less in
    record {
      within = all_set AreWithinLimits world.states component after h.within within;
      unused = all_set IsUnused world.inits home init h.unused (record { ram = unused.ram; caps = unused.caps });
      homes = subst (λ n. AllByRecursion (λ entry. entry.home < n) world.entries) (sym (length-set world.inits home init)) h.homes;
      ram_adds_up = omega (arith, ram_gain, ram, h.ram_adds_up);
      caps_add_up = omega (arith, caps_gain, caps_sum, h.caps_add_up);
    }

-- the same own state changes nothing
pub with_state_same : (world : World) (component : ℕ) → with_state world component (state_at world.states component) ≡ world
with_state_same world component = λ i. record world {
  inits = inits_stay (entry_at world.entries component).home world.inits (state_at world.states component) (state_at world.states component) (refl, refl) i;
  states = set-get_or world.states component nothing i;
}

-- so nobody's call does
nobody_stays : (world : World) (component : ℕ) (call : Call) → entry_at world.entries component ≡ nobody → with_state world component (outcome_at world component call).next ≡ world
nobody_stays world component call none =
    let before : OwnState = state_at world.states component in
    ap (λ (entry : Entry). with_state world component (own_step entry call before).next) none ∙ with_state_same world component

-- a component's call leaves a balanced world balanced
step_by : (pages caps : ℕ) (world : World) (component : ℕ) (call : Call) →
    ((entry_at world.entries component).home < length world.inits) ⊎ (entry_at world.entries component ≡ nobody) →
    IsBalanced pages caps world → IsBalanced pages caps (with_state world component (outcome_at world component call).next)
step_by pages caps world component call (inr none) h = subst (IsBalanced pages caps) (sym (nobody_stays world component call none)) h
step_by pages caps world component call (inl there) h =
    let entry : Entry = entry_at world.entries component in
    let before : OwnState = state_at world.states component in
    let less = limits_le entry call before in
    balanced_with pages caps world component (own_step entry call before).next there
    (step_all_within entry call before (all_at AreWithinLimits world.states component nothing h.within gone_within_all)) less.0 less.1 h

pub step_balanced : StepKeepsBalance
step_balanced pages caps world component call h =
    step_by pages caps world component call (home_there (length world.inits) world.entries component h.homes) h

-- what was heard leaves it balanced
heard_balanced : (pages caps : ℕ) (world : World) (what : Heard) → IsBalanced pages caps world → IsBalanced pages caps (world_after_line world what)
heard_balanced pages caps world NoCall h = h
heard_balanced pages caps world (Stranger name) h = h
heard_balanced pages caps world (Caller made) h = step_balanced pages caps world made.component made.call h

-- lines leave it balanced
pub lines_balanced : LinesKeepBalance
lines_balanced pages caps world [] h = h
lines_balanced pages caps world (line ∷ lines) h =
    let what : Heard = heard world.entries line in
    lines_balanced pages caps (world_after_line world what) lines (heard_balanced pages caps world what h)

-- what stands somewhere in a list counts no more than all
at_most : {X : Type 0} (f : X → ℕ) (xs : List X) (i : ℕ) (d : X) → f d ≡ 0 → f (get_or xs i d) ≤ sum_by f xs
at_most f xs i d none = search (rules, cases_lt, get_or-le-sum_by, get_or_past)

-- so a component's limits fit the machine
pub limits_fit : LimitsFitTheMachine
limits_fit pages caps world component h = search (rules, at_most, none_left)

-- ---- the world after a call

-- a call that isn't an exit leaves inits' accounts
pub world_on : (world : World) (component : ℕ) (call : Call) → is_exit call ≡ false →
    with_state world component (outcome_at world component call).next ≡ record world { states = set world.states component (outcome_at world component call).next }
world_on world component call on =
    let entry : Entry = entry_at world.entries component in
    let before : OwnState = state_at world.states component in
    let stay = inits_stay entry.home world.inits before (own_step entry call before).next (limits_move entry call before on) in
    λ i. record world { inits = stay i; states = set world.states component (own_step entry call before).next }

-- an exit gives its caller's init all that its caller had
pub world_exited : (world : World) (component : ℕ) →
    with_state world component exited_state
    ≡ record world {
      inits = set world.inits (entry_at world.entries component).home
          (raised (init_at world.inits (entry_at world.entries component).home) (ram_limits (state_at world.states component)) (caps_limits (state_at world.states component)));
      states = set world.states component exited_state;
    }
world_exited world component =
    let home : ℕ = (entry_at world.entries component).home in
    let gains = init_gains (init_at world.inits home) (state_at world.states component) in
    λ i. record world { inits = set world.inits home (gains i); states = set world.states component exited_state }

-- ---- the balance of a start list

-- a component keeps its budget, or is gone
budget_after : (entry : Entry) (call : Call) (s : OwnState) (start : StartEntry) → HasItsBudget start s → HasItsBudget start (own_step entry call s).next
budget_after entry call s start h = search (rules, by_exit, limits_move, alike_on, none_left)

-- where one does, all do that did
budgets_set : (starts : List StartEntry) (states : List OwnState) (i : ℕ) (y : OwnState) → ((start : StartEntry) → HasItsBudget start (get_or states i nothing) → HasItsBudget start y) →
    AllByRecursion (λ p. HasItsBudget p.0 p.1) (zip starts states) → AllByRecursion (λ p. HasItsBudget p.0 p.1) (zip starts (set states i y))
budgets_set [] states i y step each = tt
budgets_set (start ∷ starts) [] i y step each = each
budgets_set (start ∷ starts) (s ∷ states) zero y step each = (step start each.0, each.1)
budgets_set (start ∷ starts) (s ∷ states) (suc i) y step each = (each.0, budgets_set starts states i y step each.1)

-- what a component loses is returned to its own init, and nothing to another
returned_more : (was is mine : Bool) (before after budget : ℕ) → before ≡ cond was 0 budget → after ≡ cond is 0 budget → after ≤ before →
    cond (is && mine) budget 0 ≡ cond (was && mine) budget 0 + cond mine (before - after) 0
returned_more true true mine before after budget b a less = grind (arith, nat_tests)
returned_more true false mine before after budget b a less = grind (arith, nat_tests)
returned_more false true mine before after budget b a less = grind (arith, nat_tests)
returned_more false false mine before after budget b a less = grind (arith, nat_tests)

-- nobody loses anything
none_lost : (mine : Bool) (n m : ℕ) → n ≡ 0 → 0 + cond mine (n - m) 0 ≡ 0
none_lost true n m none = omega (arith, none)
none_lost false n m none = omega arith

module _ (number : ℕ) (share : StartEntry → ℕ) (limits : OwnState → ℕ) (none : limits nothing ≡ 0)
    (of : (start : StartEntry) (s : OwnState) → HasItsBudget start s → limits s ≡ cond s.gone 0 (share start)) where
  -- the budgets of those of the init's that are gone
  abbrev returned_in : StartEntry × OwnState → ℕ
  returned_in p = cond (p.1.gone && p.0.entry.home == number) (share p.0) 0

  abbrev returned : List StartEntry → List OwnState → ℕ
  returned starts states = sum_by returned_in (zip starts states)

  -- what a component loses is returned to its init
  returned_set : (starts : List StartEntry) (states : List OwnState) (i : ℕ) (y : OwnState) → length states ≡ length starts →
      AllByRecursion (λ p. HasItsBudget p.0 p.1) (zip starts states) → ((start : StartEntry) → HasItsBudget start (get_or states i nothing) → HasItsBudget start y) →
      limits y ≤ limits (get_or states i nothing) →
      returned starts (set states i y)
      ≡ returned starts states + cond ((entry_at (map (λ start. start.entry) starts) i).home == number) (limits (get_or states i nothing) - limits y) 0
  returned_set [] [] i y count each step less = sym (none_lost ((entry_at [] i).home == number) (limits nothing) (limits y) none)
  returned_set [] (s ∷ states) i y count each step less = absurd (omega (arith, count))
  returned_set (start ∷ starts) [] i y count each step less = absurd (omega (arith, count))
  returned_set (start ∷ starts) (s ∷ states) zero y count each step less =
      let old : returned (start ∷ starts) (s ∷ states) ≡ returned_in (start, s) + returned starts states = sum_by-cons returned_in (start, s) (zip starts states) in
      let new : returned (start ∷ starts) (y ∷ states) ≡ returned_in (start, y) + returned starts states = sum_by-cons returned_in (start, y) (zip starts states) in
      let more = returned_more s.gone y.gone (start.entry.home == number) (limits s) (limits y) (share start) (of start s each.0) (of start y (step start each.0)) less in
      new ∙ omega (arith, old, more)
  returned_set (start ∷ starts) (s ∷ states) (suc i) y count each step less =
      let old : returned (start ∷ starts) (s ∷ states) ≡ returned_in (start, s) + returned starts states = sum_by-cons returned_in (start, s) (zip starts states) in
      let new : returned (start ∷ starts) (s ∷ set states i y) ≡ returned_in (start, s) + returned starts (set states i y) = sum_by-cons returned_in (start, s) (zip starts (set states i y)) in
      let rest = returned_set starts states i y (omega (arith, count)) each.1 step less in
      new ∙ omega (arith, old, rest)

-- what an init of a number has once more of its own is returned
init_more : (mine : Bool) (kept init : Account) (ram caps more_ram more_caps lost_ram lost_caps : ℕ) → init ≡ raised kept ram caps →
    more_ram ≡ ram + cond mine lost_ram 0 → more_caps ≡ caps + cond mine lost_caps 0 → cond mine (raised init lost_ram lost_caps) init ≡ raised kept more_ram more_caps
init_more true kept init ram caps more_ram more_caps lost_ram lost_caps has more_r more_c =
    ap (λ a. raised a lost_ram lost_caps) has
    ∙ let ram_is : kept.ram_limit + ram + lost_ram ≡ kept.ram_limit + more_ram = omega (arith, more_r) in
    let caps_is : kept.caps_limit + caps + lost_caps ≡ kept.caps_limit + more_caps = omega (arith, more_c) in
    λ i. record kept { ram_limit = ram_is i; caps_limit = caps_is i }
init_more false kept init ram caps more_ram more_caps lost_ram lost_caps has more_r more_c =
    has
    ∙ let ram_is : ram ≡ more_ram = omega (arith, more_r) in
    let caps_is : caps ≡ more_caps = omega (arith, more_c) in
    λ i. raised kept (ram_is i) (caps_is i)

-- what stands at a number after a change at another or the same one
at_number : (inits : List Account) (home number : ℕ) (init : Account) → home < length inits →
    init_at (set inits home init) number ≡ cond (home == number) init (init_at inits number)
at_number inits home number init there = elim (home == number) as (λ b. (home == number) ≡ b → init_at (set inits home init) number ≡ cond b init (init_at inits number)) [
  | true ↦ λ is. get_or-set_at inits home number init no_account (sym (eqb-true home number is)) there
  | false ↦ λ other. get_or-set_other inits home number init no_account (λ at. eqb-false home number other (sym at))
] refl

-- where the numbers are the same, the accounts are
number_is : (inits : List Account) (home number ram caps : ℕ) →
    cond (home == number) (raised (init_at inits home) ram caps) (init_at inits number) ≡ cond (home == number) (raised (init_at inits number) ram caps) (init_at inits number)
number_is inits home number ram caps = grind (arith, nat_tests, eqb-true)

-- so each init has what it should
init_set : (list : StartList) (world : World) (component : ℕ) (y : OwnState) → (entry_at world.entries component).home < length world.inits → IsBalancedFor list world →
    ((start : StartEntry) → HasItsBudget start (state_at world.states component) → HasItsBudget start y) →
    ram_limits y ≤ ram_limits (state_at world.states component) → caps_limits y ≤ caps_limits (state_at world.states component) → (number : ℕ) → number < length world.inits →
    init_at (with_state world component y).inits number ≡ init_for list (set world.states component y) number
init_set list world component y there h step ram_less caps_less number within =
    let home : ℕ = (entry_at world.entries component).home in
    let before : OwnState = state_at world.states component in
    let kept : Account = init_at (inits_kept list) number in
    let lost_ram : ℕ = ram_limits before - ram_limits y in
    let lost_caps : ℕ = caps_limits before - caps_limits y in
    let own : (entry_at (entries_of list) component).home ≡ home = ap (λ entries. (entry_at entries component).home) (sym h.entries) in
    let more_ram = returned_set number (λ start. (own_budget start).ram) ram_limits none_left.0 (λ start s b. b.ram) list.starts world.states component y h.count h.budgets step ram_less in
    let more_caps = returned_set number (λ start. (own_budget start).caps) caps_limits none_left.1 (λ start s b. b.caps) list.starts world.states component y h.count h.budgets step caps_less in
    at_number world.inits home number (init_after (init_at world.inits home) before y) there
    ∙ number_is world.inits home number lost_ram lost_caps
    ∙ init_more (home == number) kept (init_at world.inits number) (ram_returned number list.starts world.states) (caps_returned number list.starts world.states)
    (ram_returned number list.starts (set world.states component y)) (caps_returned number list.starts (set world.states component y)) lost_ram lost_caps
    (h.inits number within)
    (subst (λ n. ram_returned number list.starts (set world.states component y) ≡ ram_returned number list.starts world.states + cond (n == number) lost_ram 0) own more_ram)
    (subst (λ n. caps_returned number list.starts (set world.states component y) ≡ caps_returned number list.starts world.states + cond (n == number) lost_caps 0) own more_caps)

-- a component's call leaves it
step_for : (list : StartList) (world : World) (component : ℕ) (call : Call) →
    ((entry_at world.entries component).home < length world.inits) ⊎ (entry_at world.entries component ≡ nobody) →
    IsBalancedFor list world → IsBalancedFor list (with_state world component (outcome_at world component call).next)
step_for list world component call (inr none) h = subst (IsBalancedFor list) (sym (nobody_stays world component call none)) h
step_for list world component call (inl there) h =
    let entry : Entry = entry_at world.entries component in
    let before : OwnState = state_at world.states component in
    let after : OwnState = (own_step entry call before).next in
    let less = limits_le entry call before in
    let step = budget_after entry call before in
    let inits_length = length-set world.inits entry.home (init_after (init_at world.inits entry.home) before after) in
    record {
      balanced = step_balanced list.pages list.caps world component call h.balanced;
      entries = h.entries;
      count = length-set world.states component after ∙ h.count;
      budgets = budgets_set list.starts world.states component after step h.budgets;
      inits = λ number within. init_set list world component after there h step less.0 less.1 number (subst (λ n. number < n) inits_length within);
    }

pub step_balanced_for : StepKeepsBalanceFor
step_balanced_for list world component call h =
    step_for list world component call (home_there (length world.inits) world.entries component h.balanced.homes) h

-- what was heard leaves it
heard_balanced_for : (list : StartList) (world : World) (what : Heard) → IsBalancedFor list world → IsBalancedFor list (world_after_line world what)
heard_balanced_for list world NoCall h = h
heard_balanced_for list world (Stranger name) h = h
heard_balanced_for list world (Caller made) h = step_balanced_for list world made.component made.call h

-- lines leave it
pub lines_balanced_for : LinesKeepBalanceFor
lines_balanced_for list world [] h = h
lines_balanced_for list world (line ∷ lines) h = let what : Heard = heard world.entries line in lines_balanced_for list (world_after_line world what) lines (heard_balanced_for list world what h)

-- the sums of the account list are the machine's
pub totals : TotalsAreTheMachine
totals pages caps world h = λ i. total_line (h.ram_adds_up i) (h.caps_add_up i)
