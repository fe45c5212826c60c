-- Theorems on a script's heap, as statements.
use Rattle.std.specs.Prelude.{◌≡◌, ◌≢◌, ℕ, ◌+◌, ◌-◌, ◌*◌, ◌<◌, ◌≤◌, ◌⊎◌, List, length, Some, None}
use Rattle.std.specs.List.{AllByRecursion}
use Rattle.std.specs.FinMap.{get}
use Rattle.own_model.specs.BestFit.{Spot, block_size}
use Rattle.own_model.specs.Call.Call.{New, Del}
use Rattle.own_model.specs.Growth.{Shape, Growth, hole_for, shape_taken, shape_given, shape_grown, new_hole, heap_refusal}
use Rattle.own_model.specs.Heap.{AreBlocks}
use Rattle.own_model.specs.HeapWindow.{heap_low, heap_high, largest_machine}
use Rattle.own_model.specs.OwnState.{OwnState, zeros}
use Rattle.own_model.specs.OwnStep.{script_step}
use Rattle.own_model.specs.Place.{found}
use Rattle.own_model.specs.Place.Place.{InBlock}
use Rattle.own_model.specs.Reply.Reply.{Attached}
use Rattle.own_model.specs.Sound.{IsSound}
use Rattle.own_model.specs.Use.{UsesWhatItHolds}

-- if no hole is large enough, the hole of a new chunk is the best one
abbrev pub GrownHoleIsBest : Type 0
GrownHoleIsBest =
    (n : ℕ) (shape : Shape) (growth : Growth) → hole_for n shape ≡ None → block_size n ≤ growth.bytes →
    hole_for n (shape_grown growth shape) ≡ Some (new_hole growth shape)

-- a block that is given back as it was taken leaves the blocks as they were
abbrev pub GivingUndoesTaking : Type 0
GivingUndoesTaking =
    (n : ℕ) (shape : Shape) (hole : Spot) → AllByRecursion AreBlocks shape.chunks → hole_for n shape ≡ Some hole →
    shape_given hole.chunk hole.offset (shape_taken n hole shape) ≡ shape

-- each payload of a heap lies within the heap window
abbrev pub HeapPayloadsLieInWindow : Type 0
HeapPayloadsLieInWindow =
    (s : OwnState) (block : ℕ) (payload : List ℕ) → IsSound s → get s.heap.payloads block ≡ Some payload →
    (heap_low ≤ block) × (block + length payload ≤ heap_high largest_machine)

-- and lies apart from the others
abbrev pub HeapPayloadsLieApart : Type 0
HeapPayloadsLieApart =
    (s : OwnState) (a b : ℕ) (x y : List ℕ) → IsSound s → get s.heap.payloads a ≡ Some x → get s.heap.payloads b ≡ Some y → a ≢ b →
    (a + length x ≤ b) ⊎ (b + length y ≤ a)

-- and from the payloads of sliced blocks
abbrev pub HeapIsApartFromSliced : Type 0
HeapIsApartFromSliced =
    (s : OwnState) (a b : ℕ) (x y : List ℕ) → IsSound s → get s.heap.payloads a ≡ Some x → get s.sliced b ≡ Some y →
    (a + length x ≤ b) ⊎ (b + length y ≤ a)

-- a new block is at a place without a block, has the bytes that were requested, and is all zero
abbrev pub NewHeapBlocksAreZero : Type 0
NewHeapBlocksAreZero =
    (s : OwnState) (n block : ℕ) → IsSound s → (script_step (New n) s).reply ≡ Attached block →
    (get s.heap.payloads block ≡ None)
    × ((size : ℕ) × (n ≤ size) × (get (script_step (New n) s).next.heap.payloads block ≡ Some (zeros size)))

-- a range that is found in a payload of the heap lies within it
abbrev pub FoundHeapPayloadsFit : Type 0
FoundHeapPayloadsFit =
    (s : OwnState) (address count block offset : ℕ) → found s address count ≡ Some (InBlock block offset) →
    (payload : List ℕ) × (get s.heap.payloads block ≡ Some payload) × (block + offset ≡ address) × (offset + count ≤ length payload)

-- and each range of some bytes within a payload is found there
abbrev pub HeapPayloadsAreFound : Type 0
HeapPayloadsAreFound =
    (s : OwnState) (address count block : ℕ) (payload : List ℕ) → IsSound s → get s.heap.payloads block ≡ Some payload →
    0 < count → block ≤ address → address + count ≤ block + length payload →
    found s address count ≡ Some (InBlock block (address - block))

-- until the block is given back: then nothing is found there
abbrev pub FreedHeapBlocksAreNotFound : Type 0
FreedHeapBlocksAreNotFound =
    (s : OwnState) (address count block : ℕ) (payload : List ℕ) → IsSound s → get s.heap.payloads block ≡ Some payload →
    0 < count → block ≤ address → address + count ≤ block + length payload →
    found (script_step (Del block) s).next address count ≡ None

-- what no test refuses is given, if the account's limit is within some machine's RAM
abbrev pub CoveredHeapBlocksAreGiven : Type 0
CoveredHeapBlocksAreGiven =
    (machine : ℕ) (s : OwnState) (n : ℕ) → IsSound s → UsesWhatItHolds s → machine ≤ largest_machine →
    s.account.ram_limit ≤ machine * 4096 → heap_refusal n s.heap.shape s.account ≡ None →
    (block : ℕ) × ((script_step (New n) s).reply ≡ Attached block)
