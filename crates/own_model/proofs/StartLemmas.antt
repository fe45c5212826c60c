-- What a start list hands out and what inits keep are the whole machine.
use Rattle.std.proofs.lemmas.Bool.Decides.{nat_tests}
use Rattle.std.proofs.Common.{rules, ◌≡◌, ℕ, ◌+◌, ◌-◌, ◌<◌, ◌≤◌, List, [], ◌∷◌, ◌++◌, length, map, set, sum_by, refl, sym, ◌∙◌, arith}
use Rattle.std.proofs.lemmas.List.{length-append, length-map, length-set}
use Rattle.std.proofs.lemmas.List.Sums.{sum_by-cons, sum_by-set, sum_by_push}
use Rattle.std.specs.List.{AllByRecursion, zip}
use Rattle.std.proofs.lemmas.Option.{none-some}
use Rattle.own_model.proofs.ListLemmas.{all_append, all_at, all_set}
use Rattle.own_model.proofs.NatMapLemmas.{get-empty}
use Rattle.own_model.proofs.Totals.{total-empty}
use Rattle.own_model.specs.Account.{Account, parted_with}
use Rattle.own_model.specs.Amounts.{Amounts, more_of}
use Rattle.own_model.specs.Donation.{raised}
use Rattle.own_model.specs.Limits.{ram_with, caps_with, ram_limits, caps_limits, AreWithinLimits}
use Rattle.own_model.specs.OwnState.{EachSession}
use Rattle.own_model.specs.OwnState.Object.{OpenSession}
use Rattle.own_model.specs.Rows.{start_of_a}
use Rattle.own_model.specs.StartList.{Entry, Kind, StartEntry, StartList, Boots, AllCovered, budget, init_account, init_at, inits_at_first, inits_keep, inits_kept, no_account, of_component, of_init, own_budget, start_state, with_started}
use Rattle.own_model.specs.StartList.Kind.{Script, Server, Init}
use Rattle.own_model.specs.World.{HasItsBudget, IsUnused, ram_returned, caps_returned, IsBalanced, IsBalancedFor, start_world}

-- nobody starts with a session
pub start_alone : (start : StartEntry) → EachSession (λ session. ⊥) (start_state start)
start_alone start selector session is = none-some (OpenSession session) (sym (get-empty selector) ∙ is)

-- nobody starts with anything in use
starts_within : (starts : List StartEntry) → AllByRecursion AreWithinLimits (map start_state starts)
starts_within [] = tt
starts_within (start ∷ starts) = (record { own = record { ram = omega arith; caps = omega arith }; sessions = λ selector session is. absurd (start_alone start selector session is) }, starts_within starts)

-- what a component starts with by itself is its own budget
own_ram : (kind : Kind) (account reserve : Amounts) → (of_component kind account).ram + (of_component kind reserve).ram ≡ (of_component kind (more_of account reserve)).ram
own_ram Script account reserve = refl
own_ram Server account reserve = refl
own_ram Init account reserve = omega arith

own_caps : (kind : Kind) (account reserve : Amounts) → (of_component kind account).caps + (of_component kind reserve).caps ≡ (of_component kind (more_of account reserve)).caps
own_caps Script account reserve = refl
own_caps Server account reserve = refl
own_caps Init account reserve = omega arith

start_ram : (start : StartEntry) → ram_limits (start_state start) ≡ (own_budget start).ram
start_ram start = omega (arith, own_ram start.entry.kind (record { ram = start.ram; caps = start.caps }) start.reserve, total-empty ram_with)

start_caps : (start : StartEntry) → caps_limits (start_state start) ≡ (own_budget start).caps
start_caps start = omega (arith, own_caps start.entry.kind (record { ram = start.ram; caps = start.caps }) start.reserve, total-empty caps_with)

-- and with what it has as an init, that is its budget
parts_ram : (kind : Kind) (amounts : Amounts) → (of_component kind amounts).ram + (of_init kind amounts).ram ≡ amounts.ram
parts_ram Script amounts = omega arith
parts_ram Server amounts = omega arith
parts_ram Init amounts = omega arith

parts_caps : (kind : Kind) (amounts : Amounts) → (of_component kind amounts).caps + (of_init kind amounts).caps ≡ amounts.caps
parts_caps Script amounts = omega arith
parts_caps Server amounts = omega arith
parts_caps Init amounts = omega arith

-- what an init parts with goes to what it starts
started : (limit : Account → ℕ) (inits : List Account) (home budget : ℕ) (parted last : Account) → home < length inits → limit parted ≡ limit (init_at inits home) - budget →
    budget ≤ limit (init_at inits home) → sum_by limit (set inits home parted ++ last ∷ []) + budget ≡ sum_by limit inits + limit last
started limit inits home budget parted last there is less =
    omega (arith, is, less, sum_by_push limit (set inits home parted) last, sum_by-set limit inits home parted no_account there)

-- what inits keep, with what they hand out, is what they had
ram_kept : (inits : List Account) (starts : List StartEntry) → AllCovered inits starts →
    sum_by (λ (init : Account). init.ram_limit) (inits_keep inits starts) + sum_by ram_limits (map start_state starts) ≡ sum_by (λ (init : Account). init.ram_limit) inits
ram_kept inits [] covered = omega arith
ram_kept inits (start ∷ starts) covered =
    let home : ℕ = start.entry.home in
    let rest = ram_kept (with_started inits start) starts covered.1 in
    let init : Account = init_at inits home in
    let fits : (budget start).ram ≤ init.ram_limit = omega (arith, covered.0.covers.ram_fits) in
    let parted : Account = parted_with init (budget start).ram (budget start).caps in
    let moved = started (λ account. account.ram_limit) inits home (budget start).ram parted (init_account start) covered.0.there refl fits in
    rw (sum_by-cons ram_limits (start_state start) (map start_state starts))
    (omega (arith, rest, moved, start_ram start, parts_ram start.entry.kind (budget start)))

-- the same of capabilities
caps_kept : (inits : List Account) (starts : List StartEntry) → AllCovered inits starts →
    sum_by (λ (init : Account). init.caps_limit) (inits_keep inits starts) + sum_by caps_limits (map start_state starts) ≡ sum_by (λ (init : Account). init.caps_limit) inits
caps_kept inits [] covered = omega arith
caps_kept inits (start ∷ starts) covered =
    let home : ℕ = start.entry.home in
    let rest = caps_kept (with_started inits start) starts covered.1 in
    let init : Account = init_at inits home in
    let fits : (budget start).caps ≤ init.caps_limit = omega (arith, covered.0.covers.caps_fit) in
    let parted : Account = parted_with init (budget start).ram (budget start).caps in
    let moved = started (λ account. account.caps_limit) inits home (budget start).caps parted (init_account start) covered.0.there refl fits in
    rw (sum_by-cons caps_limits (start_state start) (map start_state starts))
    (omega (arith, rest, moved, start_caps start, parts_caps start.entry.kind (budget start)))

-- inits use nothing
inits_unused : (inits : List Account) (starts : List StartEntry) → AllByRecursion IsUnused inits → AllByRecursion IsUnused (inits_keep inits starts)
inits_unused inits [] unused = unused
inits_unused inits (start ∷ starts) unused =
    let init : Account = init_at inits start.entry.home in
    let before = all_at IsUnused inits start.entry.home no_account unused (record { ram = refl; caps = refl }) in
    let parted : Account = parted_with init (budget start).ram (budget start).caps in
    inits_unused (with_started inits start) starts
    (all_append IsUnused (set inits start.entry.home parted) (init_account start ∷ []) (all_set IsUnused inits start.entry.home parted unused (record { ram = before.ram; caps = before.caps }))
    (record { ram = refl; caps = refl }, tt))

-- one more has a number with each that starts
pub length-with_started : (inits : List Account) (start : StartEntry) → length (with_started inits start) ≡ length inits + 1
length-with_started inits start =
    let parted : Account = parted_with (init_at inits start.entry.home) (budget start).ram (budget start).caps in
    omega (arith, length-append (set inits start.entry.home parted) (init_account start ∷ []), length-set inits start.entry.home parted)

pub length-inits_keep : (inits : List Account) (starts : List StartEntry) → length (inits_keep inits starts) ≡ length inits + length starts
length-inits_keep inits [] = omega arith
length-inits_keep inits (start ∷ starts) = omega (arith, length-inits_keep (with_started inits start) starts, length-with_started inits start)

-- the init of each is there
homes_there : (inits : List Account) (starts : List StartEntry) (n : ℕ) → AllCovered inits starts → length inits + length starts ≤ n →
    AllByRecursion (λ (entry : Entry). entry.home < n) (map (λ (start : StartEntry). start.entry) starts)
homes_there inits [] n covered fits = tt
homes_there inits (start ∷ starts) n covered fits =
    (omega (arith, covered.0.there, fits), homes_there (with_started inits start) starts n covered.1 (omega (arith, fits, length-with_started inits start)))

-- a start list that boots starts balanced
pub start_balanced : (list : StartList) → Boots list → IsBalanced list.pages list.caps (start_world list)
start_balanced list covered =
    let first : List Account = inits_at_first list in
    record {
      within = starts_within list.starts;
      unused = inits_unused first list.starts (record { ram = refl; caps = refl }, tt);
      homes = homes_there first list.starts (length (inits_kept list)) covered (omega (arith, length-inits_keep first list.starts));
      ram_adds_up = ram_kept first list.starts covered ∙ omega arith;
      caps_add_up = caps_kept first list.starts covered ∙ omega arith;
    }

-- each component has its budget
budgets_handed : (starts : List StartEntry) → AllByRecursion (λ p. HasItsBudget p.0 p.1) (zip starts (map start_state starts))
budgets_handed [] = tt
budgets_handed (start ∷ starts) = (record { ram = start_ram start; caps = start_caps start }, budgets_handed starts)

-- and nobody is gone
none_returned : (number : ℕ) (starts : List StartEntry) → (ram_returned number starts (map start_state starts) ≡ 0) × (caps_returned number starts (map start_state starts) ≡ 0)
none_returned number [] = (refl, refl)
none_returned number (start ∷ starts) = grind (arith, nat_tests, sum_by-cons, none_returned number starts)

-- so nothing is returned
raised_none : (a : Account) (ram caps : ℕ) → ram ≡ 0 → caps ≡ 0 → a ≡ raised a ram caps
raised_none a ram caps no_ram no_caps = grind (arith, nat_tests)

pub start_balanced_for : (list : StartList) → Boots list → IsBalancedFor list (start_world list)
start_balanced_for list covered = record {
  balanced = start_balanced list covered;
  entries = refl;
  count = length-map list.starts start_state;
  budgets = budgets_handed list.starts;
  inits = λ number within.
      let none = none_returned number list.starts in
      raised_none (init_at (inits_kept list) number) (ram_returned number list.starts (map start_state list.starts)) (caps_returned number list.starts (map start_state list.starts)) none.0 none.1;
}

-- machine A covers each of its budgets in turn, and so starts balanced
pub machine_a_covers : Boots start_of_a
machine_a_covers = search rules

pub machine_a_balanced : IsBalanced 64 64 (start_world start_of_a)
machine_a_balanced = start_balanced start_of_a machine_a_covers

pub machine_a_balanced_for : IsBalancedFor start_of_a (start_world start_of_a)
machine_a_balanced_for = start_balanced_for start_of_a machine_a_covers
