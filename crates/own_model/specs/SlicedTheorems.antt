-- Theorems on sliced blocks, as statements.
use Rattle.std.specs.Prelude.{◌≡◌, ◌≢◌, ℕ, ◌+◌, ◌-◌, ◌*◌, ◌<◌, ◌≤◌, ◌⊎◌, List, length, Some, None, IsSome}
use Rattle.std.specs.FinMap.{get}
use Rattle.own_model.specs.Call.Call.{Snew, Sdel}
use Rattle.own_model.specs.HeapWindow.{heap_low, heap_high, heap_gap, largest_machine}
use Rattle.own_model.specs.OwnState.{OwnState, heap_ranges, zeros}
use Rattle.own_model.specs.OwnStep.{script_step}
use Rattle.own_model.specs.Place.{found}
use Rattle.own_model.specs.Place.Place.{InPayload}
use Rattle.own_model.specs.Reply.Reply.{Attached}
use Rattle.own_model.specs.Sliced.{sliced_header, sliced_size, sliced_refusal}
use Rattle.own_model.specs.Sound.{IsSound}
use Rattle.own_model.specs.Use.{UsesWhatItHolds}

-- each payload lies within the heap window, after its header
abbrev pub PayloadsLieInWindow : Type 0
PayloadsLieInWindow =
    (s : OwnState) (block : ℕ) (payload : List ℕ) → IsSound s → get s.sliced block ≡ Some payload →
    (heap_low + sliced_header ≤ block) × (block + length payload ≤ heap_high largest_machine)

-- and between two payloads is room for the header of the later one
abbrev pub PayloadsLieApart : Type 0
PayloadsLieApart =
    (s : OwnState) (a b : ℕ) (x y : List ℕ) → IsSound s → get s.sliced a ≡ Some x → get s.sliced b ≡ Some y → a ≢ b →
    (a + length x + sliced_header ≤ b) ⊎ (b + length y + sliced_header ≤ a)

-- a new block is at a place without a block, and is all zero
abbrev pub NewBlocksAreZero : Type 0
NewBlocksAreZero =
    (s : OwnState) (n block : ℕ) → (script_step (Snew n) s).reply ≡ Attached block →
    (get s.sliced block ≡ None)
    × (get (script_step (Snew n) s).next.sliced block ≡ Some (zeros (sliced_size n - sliced_header)))

-- a range that is found in a payload lies within it
abbrev pub FoundPayloadsFit : Type 0
FoundPayloadsFit =
    (s : OwnState) (address count block offset : ℕ) → found s address count ≡ Some (InPayload block offset) →
    (payload : List ℕ) × (get s.sliced block ≡ Some payload) × (block + offset ≡ address) × (offset + count ≤ length payload)

-- and each range of some bytes within a payload is found there
abbrev pub PayloadsAreFound : Type 0
PayloadsAreFound =
    (s : OwnState) (address count block : ℕ) (payload : List ℕ) → IsSound s → get s.sliced block ≡ Some payload →
    0 < count → block ≤ address → address + count ≤ block + length payload →
    found s address count ≡ Some (InPayload block (address - block))

-- until the block is freed: then nothing is found there
abbrev pub FreedBlocksAreNotFound : Type 0
FreedBlocksAreNotFound =
    (s : OwnState) (address count block : ℕ) (payload : List ℕ) → IsSound s → get s.sliced block ≡ Some payload →
    0 < count → block ≤ address → address + count ≤ block + length payload →
    found (script_step (Sdel block) s).next address count ≡ None

-- where the RAM in use fits a machine, the heap window of that machine has a gap for as many pages as the machine has,
-- and its first one is that of the largest machine's window
abbrev pub GapsFitTheMachine : Type 0
GapsFitTheMachine =
    (machine : ℕ) (s : OwnState) (pages : ℕ) → IsSound s → UsesWhatItHolds s → machine ≤ largest_machine →
    s.account.ram_used ≤ machine * 4096 → pages ≤ machine →
    IsSome (heap_gap machine (heap_ranges s) pages)
    × (heap_gap machine (heap_ranges s) pages ≡ heap_gap largest_machine (heap_ranges s) pages)

-- so a block that the account covers is given, if the account's limit is within some machine's RAM
abbrev pub CoveredBlocksAreGiven : Type 0
CoveredBlocksAreGiven =
    (machine : ℕ) (s : OwnState) (n : ℕ) → IsSound s → UsesWhatItHolds s → machine ≤ largest_machine →
    s.account.ram_limit ≤ machine * 4096 → sliced_refusal n s.account ≡ None →
    (block : ℕ) × ((script_step (Snew n) s).reply ≡ Attached block)
