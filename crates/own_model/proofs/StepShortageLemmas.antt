-- A call is refused for a reason of its own, and for no shortage but of what it asks of its caller's account.
use Rattle.std.proofs.lemmas.Bool.Decides.{nat_tests}
use Rattle.std.proofs.Common.{rules, ◌≡◌, ℕ, ◌+◌, ◌*◌, ◌/◌, ◌<◌, ◌≤◌, Bool, true, false, cond, List, [], ◌∷◌, Some, suc, refl, sym, ap, ◌∙◌, arith, true≢false, IsSome, subst}
use Rattle.std.proofs.lemmas.Bool.{ltb-true, cases_lt}
use Rattle.std.proofs.lemmas.Option.{none-some, same_Some}
use Rattle.std.specs.List.{AllByRecursion}
use Rattle.std.specs.Prelude.{Option, None, is_none}
use Rattle.trade_base.specs.Page.{page_of}
use Rattle.trade_base.specs.declared.refusal.Refusal.{Refusal}
use Rattle.trade_base.specs.declared.refusal.Refusal.TheVariants.{NotAScript, Gone, InvalidSize, InvalidCap, OutOfRam, OutOfCaps, RegionConflict, TooManyRegions, PageFault, InvalidSession, BadArgs}
use Rattle.own_model.proofs.ListLemmas.{all_then, all_at, all_map}
use Rattle.own_model.proofs.SlicedNewLemmas.{machine_gap}
use Rattle.own_model.proofs.StepLemmas.{covers}
use Rattle.own_model.proofs.StepTableLemmas.{refused_in_order}
use Rattle.own_model.specs.Account.{Account, shortage}
use Rattle.own_model.specs.BestFit.{Spot, block_size}
use Rattle.own_model.specs.Call.{Call}
use Rattle.own_model.specs.Call.Call.{Alloc, Free, Attach, AttachAt, Detach, Peek, Poke, Capalloc, Capfree, New, Del, Snew, Sdel, Quota, Reserve, Request, Yield, Open, Upgrade, CallSession, Close, Exit}
use Rattle.own_model.specs.Amounts.{Amounts}
use Rattle.own_model.specs.Donated.{donation_in}
use Rattle.own_model.specs.Growth.{is_large, hole_for, least_growth, larger_growth}
use Rattle.own_model.specs.HeapWindow.{largest_machine}
use Rattle.own_model.specs.Theorems.{RefusalsHaveReason}
use Rattle.own_model.specs.OwnState.{OwnState}
use Rattle.own_model.specs.OwnStep.{own_heap_gap, exited_state, own_run}
use Rattle.own_model.specs.Shortage.{asked_of, NoHiddenShortage, asked, asked_with, bytes_and_cap, NoHiddenShortageAfterLines}
use Rattle.own_model.specs.Reserve.{reserve_account}
use Rattle.own_model.specs.Sliced.{sliced_size}
use Rattle.own_model.specs.Sound.{IsSound}
use Rattle.own_model.specs.StartList.{Entry, Kind, StartEntry, StartList, entries_of, start_state, start_states}
use Rattle.own_model.specs.StartList.Kind.{Script, Server, Init}
use Rattle.own_model.specs.Table.{Test, FailsFor, when, first_failed, lacks_ram, lacks_caps, memory_line, small_line, line_of, line_by, whole_line, refusal_in}
use Rattle.own_model.specs.Use.{UsesWhatItHolds}
use Rattle.own_model.specs.Transcript.{entry_at, state_at, own_part, calls_of, nothing}
use Rattle.own_model.specs.World.{World, start_world, world_running}
use Rattle.own_model.specs.Limits.{AreWithinLimits}
use Rattle.own_model.proofs.RunningLemmas.{states_running-at}
use Rattle.own_model.proofs.StepBalanceLemmas.{lines_balanced, limits_fit}
use Rattle.own_model.proofs.StepLimitLemmas.{gone_within_all}
use Rattle.own_model.proofs.StartLemmas.{start_balanced}
use Rattle.own_model.proofs.StepSoundLemmas.{start_sound, gone_sound, run_sound}
use Rattle.own_model.proofs.StepUseLemmas.{start_uses, gone_uses, run_uses}

-- the first test that fails is one that fails
first_fails : (refusal : Refusal) (line : List Test) → first_failed line ≡ Some refusal → FailsFor refusal line
first_fails refusal [] is = absurd (none-some refusal is)
first_fails refusal (test ∷ tests) is =
    elim test.fails as (λ b. test.fails ≡ b → cond b (Some test.refusal) (first_failed tests) ≡ Some refusal → FailsFor refusal (test ∷ tests)) [
      | true ↦ λ fails same. (0, test, omega arith, refl, (same_Some test.refusal refusal same, fails))
      | false ↦ λ passes same.
          let rest = first_fails refusal tests same in
          (suc rest.0, rest.1, omega (arith, rest.2), rest.3, rest.4)
    ] refl is

-- so each refusal has its reason
pub refused_with_reason : RefusalsHaveReason
refused_with_reason entry call s refusal within sound told =
    first_fails refusal (whole_line entry call s) (sym (refused_in_order entry call s within sound) ∙ ap refusal_in told)

-- ---- shortages

-- what follows from any test that fails for a refusal follows from that refusal
first_gives : (Q : Type 0) (refusal : Refusal) (line : List Test) → AllByRecursion (λ test. test.refusal ≡ refusal → test.fails ≡ true → Q) line → first_failed line ≡ Some refusal → Q
first_gives Q refusal [] each is = absurd (none-some refusal is)
first_gives Q refusal (test ∷ tests) each is =
    elim test.fails as (λ b. test.fails ≡ b → cond b (Some test.refusal) (first_failed tests) ≡ Some refusal → Q) [
      | true ↦ λ fails same. each.0 (same_Some test.refusal refusal same) fails
      | false ↦ λ passes same. first_gives Q refusal tests each.1 same
    ] refl is

-- a test fails for want of RAM or of capabilities only where the account doesn't cover what is asked
record IsTold (a : Account) (more : Amounts) (test : Test) : Type 0 where
  ram : test.refusal ≡ OutOfRam → test.fails ≡ true → a.ram_limit < a.ram_used + more.ram
  caps : test.refusal ≡ OutOfCaps → test.fails ≡ true → a.caps_limit < a.caps_used + more.caps

-- a refusal is for want of RAM or of capabilities
abbrev of_shortage : Refusal → Bool
of_shortage OutOfRam = true
of_shortage OutOfCaps = true
of_shortage refusal = false

-- the two are two
ram_or_caps : ¬ (OutOfRam ≡ OutOfCaps)
ram_or_caps e = cc

-- a shortage that isn't there is no refusal for it
not_none : (o : Option ℕ) → IsSome o → is_none o ≡ true → ⊥
not_none None some is = absurd (true≢false (sym some))
not_none (Some n) some is = absurd (true≢false (sym is))

-- nothing is lacked
no_reason : (o : Option Refusal) → is_none o ≡ true → o ≡ None
no_reason None is = refl
no_reason (Some refusal) is = absurd (true≢false (sym is))

module _ (a : Account) (more : Amounts) where
  -- tests for other causes
  other : (refusal : Refusal) (fails : Bool) → of_shortage refusal ≡ false → IsTold a more (when fails refusal)
  other refusal fails apart = search (rules, true≢false)

  -- those of the account
  ram_told : IsTold a more (when (lacks_ram a more.ram) OutOfRam)
  ram_told = record { ram = λ _ fails. ltb-true a.ram_limit (a.ram_used + more.ram) fails; caps = λ is _. absurd (ram_or_caps is) }

  caps_told : IsTold a more (when (lacks_caps a more.caps) OutOfCaps)
  caps_told = record { ram = λ is _. absurd (ram_or_caps (sym is)); caps = λ _ fails. ltb-true a.caps_limit (a.caps_used + more.caps) fails }

  -- and that of a gap, which is there for what is covered
  gap_told : (gap : Option ℕ) → (a.ram_used + more.ram ≤ a.ram_limit → IsSome gap) → IsTold a more (when (is_none gap) OutOfRam)
  gap_told gap there = search (rules, cases_lt, not_none, ram_or_caps)

module _ (s : OwnState) (sound : IsSound s) (uses : UsesWhatItHolds s) (small : s.account.ram_limit ≤ largest_machine * 4096) where
  -- there is a gap for what the account covers
  gap_there : (bytes : ℕ) → s.account.ram_used + bytes ≤ s.account.ram_limit → IsSome (own_heap_gap bytes s)
  gap_there bytes covered = (machine_gap largest_machine s (bytes / 4096) sound uses (omega arith) (omega arith) (omega arith)).0

  abbrev AreTold : Amounts → List Test → Type 0
  AreTold more line = AllByRecursion (IsTold s.account more) line

  abbrev AreToldOf : Call → List Test → Type 0
  AreToldOf call line = AllByRecursion (IsTold (asked_of call s) (asked call s)) line

  -- what takes so many bytes, at a gap for as many or others that are covered too
  memory_told : (bytes wanted : ℕ) → (s.account.ram_used + bytes ≤ s.account.ram_limit → s.account.ram_used + wanted ≤ s.account.ram_limit) →
      AreTold (bytes_and_cap bytes) (memory_line bytes (own_heap_gap wanted s) s)
  memory_told bytes wanted too = grind (arith, nat_tests, ram_told, caps_told, gap_told, gap_there)

  -- a growth is covered where the least one is
  growth_covered : (n : ℕ) (larger : Bool) → is_none (shortage s.account (larger_growth n s.heap.shape).bytes 1) ≡ larger →
      s.account.ram_used + page_of (block_size n) ≤ s.account.ram_limit →
      s.account.ram_used + (cond larger (larger_growth n s.heap.shape) (least_growth n s.heap.shape)).bytes ≤ s.account.ram_limit
  growth_covered n true is covered = (covers s.account (larger_growth n s.heap.shape).bytes 1 (no_reason _ is)).ram_fits
  growth_covered n false is covered = covered

  -- a block of a chunk
  small_told : (n : ℕ) (hole : Option Spot) → AreTold (asked_with n hole) (small_line n hole s)
  small_told n (Some hole) = tt
  small_told n None = grind (arith, nat_tests, other, memory_told, growth_covered)

  -- any block of the heap
  new_told : (n : ℕ) (large : Bool) →
      AreTold (cond large (bytes_and_cap (page_of n)) (asked_with n (hole_for n s.heap.shape)))
      (cond large (memory_line (page_of n) (own_heap_gap (page_of n) s) s) (small_line n (hole_for n s.heap.shape) s))
  new_told n true = memory_told (page_of n) (page_of n) (λ covered. covered)
  new_told n false = small_told n (hole_for n s.heap.shape)

  -- each call
  line_told : (entry : Entry) (call : Call) → AreToldOf call (line_of entry call s)
  line_told entry (Alloc n) = (other s.account _ InvalidSize _ refl, (ram_told s.account (bytes_and_cap (page_of n)), (caps_told s.account (bytes_and_cap (page_of n)), tt)))
  line_told entry (Free selector) = (other s.account _ InvalidCap _ refl, tt)
  line_told entry (Attach selector) = (other s.account _ InvalidCap _ refl, (other s.account _ TooManyRegions _ refl, (other s.account _ RegionConflict _ refl, tt)))
  line_told entry (AttachAt selector address) = (other s.account _ InvalidCap _ refl, (other s.account _ TooManyRegions _ refl, (other s.account _ RegionConflict _ refl, tt)))
  line_told entry (Detach address) = (other s.account _ PageFault _ refl, tt)
  line_told entry (Peek address count) = (other s.account _ InvalidSize _ refl, (other s.account _ PageFault _ refl, tt))
  line_told entry (Poke address bytes) = (other s.account _ InvalidSize _ refl, (other s.account _ PageFault _ refl, tt))
  line_told entry Capalloc = (caps_told s.account (bytes_and_cap 0), tt)
  line_told entry (Capfree selector) = (other s.account _ InvalidCap _ refl, tt)
  line_told entry (New n) = (other s.account _ InvalidSize _ refl, new_told n (is_large n))
  line_told entry (Del address) = (other s.account _ PageFault _ refl, tt)
  line_told entry (Snew n) = (other s.account _ InvalidSize _ refl, memory_told (sliced_size n) (sliced_size n) (λ covered. covered))
  line_told entry (Sdel address) = (other s.account _ PageFault _ refl, tt)
  line_told entry (Open service text) = grind (arith, nat_tests, other, ram_told, caps_told)
  line_told entry (Upgrade selector text) = grind (arith, nat_tests, other, ram_told, caps_told)
  line_told entry (CallSession selector request) = (other s.account _ InvalidSession _ refl, tt)
  line_told entry (Close selector) = (other s.account _ InvalidSession _ refl, tt)
  line_told entry Quota = tt
  line_told entry Reserve = tt
  line_told entry (Request text) =
      let reserve = reserve_account s.reserve in
      (other reserve _ BadArgs _ refl, (ram_told reserve (donation_in text), (caps_told reserve (donation_in text), tt)))
  line_told entry (Yield text) = (other s.account _ BadArgs _ refl, (ram_told s.account (donation_in text), (caps_told s.account (donation_in text), tt)))
  line_told entry Exit = tt

  -- of each component
  whole_told : (kind : Kind) (entry : Entry) (call : Call) → AreToldOf call (line_by kind entry call s)
  whole_told Server entry call = (other (asked_of call s) _ NotAScript _ refl, tt)
  whole_told Init entry call = (other (asked_of call s) _ NotAScript _ refl, tt)
  whole_told Script entry call = (other (asked_of call s) _ Gone _ refl, line_told entry call)

-- so there is no shortage but of what is asked
pub no_hidden_shortage : NoHiddenShortage
no_hidden_shortage entry call s within sound uses small =
    let line : List Test = whole_line entry call s in
    let a : Account = asked_of call s in
    let more : Amounts = asked call s in
    let told = whole_told s sound uses small entry.kind entry call in
    let order = refused_in_order entry call s within sound in
    record {
      ram = λ refused. first_gives (a.ram_limit < a.ram_used + more.ram) OutOfRam line (all_then (IsTold a more) _ line (λ test h. h.ram) told) (sym order ∙ ap refusal_in refused);
      caps = λ refused. first_gives (a.caps_limit < a.caps_used + more.caps) OutOfCaps line (all_then (IsTold a more) _ line (λ test h. h.caps) told) (sym order ∙ ap refusal_in refused);
    }

-- ---- after any lines

-- what holds of who starts and of who is gone, and after calls, holds of each component after lines
after_lines : (P : OwnState → Type 0) → ((start : StartEntry) → P (start_state start)) → P exited_state →
    ((entry : Entry) (calls : List Call) (s : OwnState) → P s → P (own_run entry calls s)) →
    (list : StartList) (lines : List (List ℕ)) (component : ℕ) → P (state_at (world_running (start_world list) lines).states component)
after_lines P start gone run list lines component =
    let entries : List Entry = entries_of list in
    let starts : List OwnState = start_states list in
    subst P (sym (states_running-at entries starts lines component))
    (run (entry_at entries component) (own_part component (calls_of entries lines)) (state_at starts component)
    (all_at P starts component nothing (all_map P start_state list.starts start) gone))

-- who has booted has no hidden shortage
pub no_hidden_shortage_after : NoHiddenShortageAfterLines
no_hidden_shortage_after list lines component call boots few =
    let world : World = world_running (start_world list) lines in
    let s : OwnState = state_at world.states component in
    let balanced = lines_balanced list.pages list.caps (start_world list) lines (start_balanced list boots) in
    let within = all_at AreWithinLimits world.states component nothing balanced.within gone_within_all in
    let fits = (limits_fit list.pages list.caps world component balanced).0 in
    no_hidden_shortage (entry_at world.entries component) call s within.own
    (after_lines IsSound start_sound gone_sound run_sound list lines component)
    (after_lines UsesWhatItHolds start_uses gone_uses run_uses list lines component)
    (omega (arith, fits, few))
