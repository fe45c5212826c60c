-- A new sliced block is zeros at a gap, and what a machine's RAM holds leaves one.
use Rattle.std.proofs.lemmas.Bool.Decides.{nat_tests}
use Rattle.std.proofs.Common.{rules, ◌≡◌, ℕ, ◌+◌, ◌-◌, ◌*◌, ◌/◌, ◌≤◌, Option, Some, None, refl, subst, IsSome, arith}
use Rattle.std.specs.FinMap.{get}
use Rattle.trade_base.specs.declared.refusal.Refusal.{Refusal}
use Rattle.own_model.proofs.HeapGapLemmas.{heap_gap_is_there, heap_gaps_agree}
use Rattle.own_model.proofs.HeapRangeLemmas.{window_some, total-ranges, gap_free, new_page}
use Rattle.own_model.proofs.NatMapJoinedLemmas.{total-joined_le}
use Rattle.own_model.proofs.HeapOwnLemmas.{heap_pages_le}
use Rattle.own_model.proofs.NatMapLemmas.{get-insert_same, some_of}
use Rattle.own_model.proofs.StepLemmas.{covers, accepted_block}
use Rattle.own_model.proofs.Totals.{total_times_le}
use Rattle.own_model.specs.Call.Call.{Snew}
use Rattle.own_model.specs.HeapWindow.{heap_gap, largest_machine, FitMachine}
use Rattle.own_model.specs.NatMap.{total}
use Rattle.own_model.specs.OwnState.{OwnState, heap_ranges, zeros}
use Rattle.own_model.specs.OwnStep.{unless, sliced_in, own_heap_gap, script_step}
use Rattle.own_model.specs.Reply.Reply.{Attached}
use Rattle.own_model.specs.Sliced.{sliced_header, sliced_size, sliced_refusal, block_size, block_pages}
use Rattle.own_model.specs.Sound.{IsSound}
use Rattle.own_model.specs.Use.{UsesWhatItHolds}

-- where a sliced block is answered, it is new, and all zero
zero_at : (s : OwnState) (n block : ℕ) (refusal : Option Refusal) (gap : Option ℕ) → own_heap_gap (sliced_size n) s ≡ gap →
    (unless refusal s (sliced_in n gap s)).reply ≡ Attached block →
    (get s.sliced block ≡ None) × (get (unless refusal s (sliced_in n gap s)).next.sliced block ≡ Some (zeros (sliced_size n - sliced_header)))
zero_at s n block (Some refusal) gap at told = absurd (cc)
zero_at s n block None None at told = absurd (cc)
zero_at s n block None (Some start) at told = grind (arith, nat_tests, gap_free, new_page, get-insert_same)

-- the same of the call
pub new_zero : (s : OwnState) (n block : ℕ) → (script_step (Snew n) s).reply ≡ Attached block →
    (get s.sliced block ≡ None) × (get (script_step (Snew n) s).next.sliced block ≡ Some (zeros (sliced_size n - sliced_header)))
new_zero s n block told = zero_at s n block (sliced_refusal n s.account) (own_heap_gap (sliced_size n) s) refl told

-- the pages of all blocks are no more bytes than the blocks have
block_bytes : (s : OwnState) → IsSound s → total block_pages s.sliced * 4096 ≤ total block_size s.sliced
block_bytes s h = total_times_le block_pages block_size 4096 s.sliced (λ k payload there. omega (arith, (h.blocks k payload there).whole))

-- what stands in the heap window fits a machine that has the RAM in use
fits_machine : (machine : ℕ) (s : OwnState) → IsSound s → UsesWhatItHolds s → s.account.ram_used ≤ machine * 4096 → FitMachine machine (heap_ranges s)
fits_machine machine s h uses covered = search (rules, window_some, total-joined_le, total-ranges, heap_pages_le, block_bytes)

-- so that machine has a gap, which is the largest machine's
pub machine_gap : (machine : ℕ) (s : OwnState) (pages : ℕ) → IsSound s → UsesWhatItHolds s → machine ≤ largest_machine →
    s.account.ram_used ≤ machine * 4096 → pages ≤ machine →
    IsSome (heap_gap machine (heap_ranges s) pages)
    × (heap_gap machine (heap_ranges s) pages ≡ heap_gap largest_machine (heap_ranges s) pages)
machine_gap machine s pages h uses small covered few =
    let fits = fits_machine machine s h uses covered in (
      heap_gap_is_there machine (heap_ranges s) pages fits few,
      heap_gaps_agree machine largest_machine (heap_ranges s) pages fits few small,
    )

-- a block is given where nothing refuses it and there is a gap
given_at : (s : OwnState) (n start : ℕ) → sliced_refusal n s.account ≡ None → own_heap_gap (sliced_size n) s ≡ Some start →
    (script_step (Snew n) s).reply ≡ Attached (start + sliced_header)
given_at s n start accepted gap = cc

-- so a block that the account covers is given
pub covered_given : (machine : ℕ) (s : OwnState) (n : ℕ) → IsSound s → UsesWhatItHolds s → machine ≤ largest_machine →
    s.account.ram_limit ≤ machine * 4096 → sliced_refusal n s.account ≡ None → (block : ℕ) × ((script_step (Snew n) s).reply ≡ Attached block)
covered_given machine s n h uses small limit accepted =
    let fits = (covers s.account (sliced_size n) 1 (accepted_block n s.account accepted)).ram_fits in
    let agree = machine_gap machine s (sliced_size n / 4096) h uses small (omega arith) (omega arith) in
    let gap = some_of (own_heap_gap (sliced_size n) s) (subst IsSome agree.1 agree.0) in
    (gap.0 + sliced_header, given_at s n gap.0 accepted gap.1)
