-- Under fewer capabilities, or under less RAM down to the greatest choice, a call's tests come out alike or the call is in want.
use Rattle.std.proofs.Common.{◌≡◌, ℕ, ◌+◌, ◌⊎◌, inl, inr, Bool, true, false, cond, List, [], ◌∷◌, length, nat_lt, refl, sym, true≢false, subst, ◌&&◌}
use Rattle.std.specs.FinMap.{get}
use Rattle.std.specs.List.{AllByRecursion}
use Rattle.std.specs.Option.{option_or}
use Rattle.std.specs.Prelude.{Option, Some, None, Result, Ok, Err, nat_le}
use Rattle.trade_base.specs.Page.{page_of, is_valid_size}
use Rattle.trade_base.specs.declared.refusal.Refusal.{Refusal}
use Rattle.trade_base.specs.declared.refusal.Refusal.TheVariants.{InvalidSize, OutOfRam, OutOfCaps, TooManyChunks}
use Rattle.own_model.proofs.ListLemmas.{all_then}
use Rattle.own_model.specs.Account.{shortage, alloc_refusal}
use Rattle.own_model.specs.Amounts.{Amounts}
use Rattle.own_model.specs.BestFit.{Spot}
use Rattle.own_model.specs.Call.{Call}
use Rattle.own_model.specs.Call.Call.{Alloc, Capalloc, New, Snew, Yield, Open, Upgrade}
use Rattle.own_model.specs.Growth.{most_chunks, is_large, hole_for, least_growth, small_refusal, heap_refusal}
use Rattle.own_model.specs.OwnState.{OwnState, session_named}
use Rattle.own_model.specs.OwnStep.{Outcome, unless, turned_away, allocated, cap_allocated, sliced_in, own_heap_gap, newed, yielded_by, reserve_yielded, opened_by, session_opened, upgraded_by, session_upgraded, entry_step, own_step}
use Rattle.own_model.specs.Session.{Session, Wish, wish, donation_refusal, too_small}
use Rattle.own_model.specs.SessionArgs.{Arguments, arguments_of}
use Rattle.own_model.specs.Sliced.{sliced_header, sliced_size, sliced_refusal}
use Rattle.own_model.specs.StartList.{Entry}
use Rattle.budget_theorems.proofs.CellLemmas.{Leads}
use Rattle.budget_theorems.proofs.StepLemmas.{Moved, limits_of, here_when, turned_alike}
use Rattle.budget_theorems.proofs.TestLemmas.{IsAlike, IsLed, lacks, decided, sized_decided, growth_decided, alike_to, led_of, alone}
use Rattle.budget_theorems.specs.Need.{budgeted, need_of, ComesOutAlike}
use Rattle.budget_theorems.specs.Test.{Test, test_of, small_tests, growth_tests, arguments_tests, donation_tests, upgrade_tests, entry_tests, tests_unless, tests}
use Rattle.budget_theorems.specs.Shortfall.{is_short, wants}

-- what is refused for want is in want
short_by : (why : Option Refusal) (t : OwnState) (p : Outcome) → lacks why ≡ true → is_short (unless why t p).reply ≡ true
short_by (Some OutOfRam) t p is = refl
short_by (Some OutOfCaps) t p is = refl
short_by why t p is = absurd (true≢false (sym is))

or_short : {A : Type 0} (why : Option Refusal) (t : OwnState) (p : Outcome) → A ⊎ (lacks why ≡ true) → A ⊎ (is_short (unless why t p).reply ≡ true)
or_short why t p (inl a) = inl a
or_short why t p (inr is) = inr (short_by why t p is)

-- a reason that comes first
lacks_first : (a b : Option Refusal) → lacks a ≡ true → lacks (option_or a b) ≡ true
lacks_first None b is = absurd (true≢false (sym is))
lacks_first (Some why) b is = is

or_first : {A : Type 0} (a b : Option Refusal) → A ⊎ (lacks a ≡ true) → A ⊎ (lacks (option_or a b) ≡ true)
or_first a b (inl x) = inl x
or_first a b (inr is) = inr (lacks_first a b is)

module _ (m : Amounts) (s : OwnState) where
  abbrev t : OwnState
  t = budgeted m s

  abbrev Alike : List Test → Type 0
  Alike each = AllByRecursion (IsAlike m s.account) each

  abbrev Led : List Test → Type 0
  Led each = AllByRecursion (IsLed m s.account) each

  yields : (arguments : Option Arguments) → Led (arguments_tests arguments) → Alike (arguments_tests arguments) ⊎ (is_short (yielded_by arguments t).reply ≡ true)
  yields None each = inl tt
  yields (Some more) each = or_short (shortage t.account more.ram more.caps) t (reserve_yielded more t) (alone (decided m s.account (test_of more.ram more.caps) each.0))

  upgrades : (k : ℕ) (session : Option Session) (arguments : Option Arguments) → Led (upgrade_tests session arguments) →
      Alike (upgrade_tests session arguments) ⊎ (is_short (upgraded_by k session arguments t).reply ≡ true)
  upgrades k None arguments each = inl tt
  upgrades k (Some session) None each = inl tt
  upgrades k (Some session) (Some more) each =
      or_short (shortage t.account more.ram more.caps) t (session_upgraded k session more t) (alone (decided m s.account (test_of more.ram more.caps) each.0))

  opens : (asked : Result Wish Refusal) → Led (donation_tests asked) → Alike (donation_tests asked) ⊎ (is_short (opened_by asked t).reply ≡ true)
  opens (Err why) each = inl tt
  opens (Ok wish) each =
      or_short (donation_refusal t.account wish.ram wish.caps) t (session_opened wish t)
      (or_first (shortage t.account wish.ram wish.caps) (too_small wish.ram wish.caps) (alone (decided m s.account (test_of wish.ram wish.caps) each.0)))

  chunks : (n : ℕ) (full : Bool) → Led (cond full [] (growth_tests n s.heap.shape s.account)) →
      Alike (cond full [] (growth_tests n s.heap.shape s.account)) ⊎ (lacks (cond full (Some TooManyChunks) (shortage t.account (least_growth n s.heap.shape).bytes 1)) ≡ true)
  chunks n true each = inl tt
  chunks n false each = growth_decided m s.account n s.heap.shape each

  smalls : (n : ℕ) (hole : Option Spot) → Led (small_tests n hole s.heap.shape s.account) →
      Alike (small_tests n hole s.heap.shape s.account) ⊎ (lacks (small_refusal n hole s.heap.shape t.account) ≡ true)
  smalls n (Some hole) each = inl tt
  smalls n None each = chunks n (nat_le most_chunks (length s.heap.shape.chunks)) each

  news : (n : ℕ) (valid large : Bool) →
      Led (cond valid (cond large (test_of (page_of n) 1 ∷ []) (small_tests n (hole_for n s.heap.shape) s.heap.shape s.account)) []) →
      Alike (cond valid (cond large (test_of (page_of n) 1 ∷ []) (small_tests n (hole_for n s.heap.shape) s.heap.shape s.account)) [])
      ⊎ (lacks (cond valid (cond large (shortage t.account (page_of n) 1) (small_refusal n (hole_for n s.heap.shape) s.heap.shape t.account)) (Some InvalidSize)) ≡ true)
  news n false large each = inl tt
  news n true true each = alone (decided m s.account (test_of (page_of n) 1) each.0)
  news n true false each = smalls n (hole_for n s.heap.shape) each

  entry_decides : (entry : Entry) (call : Call) → Led (entry_tests entry call s) → Alike (entry_tests entry call s) ⊎ (wants call (entry_step entry call t).reply ≡ true)
  entry_decides entry (Alloc n) each = or_short (alloc_refusal n t.account) t (allocated n t) (sized_decided m s.account (is_valid_size n) (test_of (page_of n) 1) InvalidSize each)
  entry_decides entry Capalloc each = or_short (shortage t.account 0 1) t (cap_allocated t) (alone (decided m s.account (test_of 0 1) each.0))
  entry_decides entry (New n) each = or_short (heap_refusal n s.heap.shape t.account) t (newed n t) (news n (is_valid_size n) (is_large n) each)
  entry_decides entry (Snew n) each =
      or_short (sliced_refusal n t.account) t (sliced_in n (own_heap_gap (sliced_size n) t) t)
      (sized_decided m s.account (nat_lt 0 n && is_valid_size (sliced_header + n)) (test_of (sliced_size n) 1) InvalidSize each)
  entry_decides entry (Open service text) each = opens (wish entry.label entry.routes service text) each
  entry_decides entry (Upgrade k text) each = upgrades k (session_named (get s.selectors k)) (arguments_of text) each
  entry_decides entry (Yield text) each = yields (arguments_of text) each
  entry_decides entry call each = inl tt

module _ (one other : Amounts) (entry : Entry) (call : Call) (s : OwnState) where
  abbrev Need_Of : Test → Type 0
  Need_Of test = ComesOutAlike one other (need_of one s.account test)

  abbrev EachLeads : List Test → Type 0
  EachLeads each = AllByRecursion (λ test. Leads one other (need_of one s.account test)) each

  abbrev EachAlike : List Test → Type 0
  EachAlike each = AllByRecursion Need_Of each

  decides_by : (m : Amounts) → Moved one other s (budgeted m s) → (why : Option Refusal) → (why ≡ None → s.gone ≡ false) → EachLeads (tests_unless why (entry_tests entry call s)) →
      EachAlike (tests_unless why (entry_tests entry call s)) ⊎ (wants call (unless why (budgeted m s) (entry_step entry call (budgeted m s))).reply ≡ true)
  decides_by m before (Some why) here each = inl tt
  decides_by m before None here each =
      let ram = before.ram (here refl) in
      let caps = before.caps (here refl) in
      let led = all_then (λ test. Leads one other (need_of one s.account test)) (IsLed m s.account) (entry_tests entry call s) (led_of one other m s.account ram caps) each in
      elim (entry_decides m s entry call led) [
        | inl alike ↦ inl (all_then (IsAlike m s.account) Need_Of (entry_tests entry call s) (alike_to one other m s.account ram caps) alike)
        | inr short ↦ inr short
      ]

  decides_at : (m : Amounts) → Moved one other s (budgeted m s) → EachLeads (tests entry call s) →
      EachAlike (tests entry call s) ⊎ (wants call (own_step entry call (budgeted m s)).reply ≡ true)
  decides_at m before each =
      subst (λ why. EachAlike (tests entry call s) ⊎ (wants call (unless why (budgeted m s) (entry_step entry call (budgeted m s))).reply ≡ true)) (sym (turned_alike entry.kind m s))
      (decides_by m before (turned_away entry.kind s) (here_when entry.kind s) each)

  -- a call whose tests lead there
  pub own_decides : (t : OwnState) → Moved one other s t → EachLeads (tests entry call s) →
      EachAlike (tests entry call s) ⊎ (wants call (own_step entry call t).reply ≡ true)
  own_decides t before each =
      subst (λ x. EachAlike (tests entry call s) ⊎ (wants call (own_step entry call x).reply ≡ true)) (sym before.same)
      (decides_at (limits_of t) (record { same = refl; ram = before.ram; caps = before.caps }) each)
