-- The range of addresses that a region holds, and the bytes that are read and written there.
use Rattle.std.proofs.Common.{◌≡◌, ℕ, ◌+◌, ◌*◌, ◌≤◌, List, Some, length, sym, subst, arith}
use Rattle.std.specs.Prelude.{None}
use Rattle.std.specs.FinMap.{get}
pub use Rattle.own_model.proofs.ByteLemmas.{with_part-within, slice_range-with_part}
use Rattle.own_model.proofs.StepBytesLemmas.{peeks, pokes}
use Rattle.own_model.proofs.NatMapLemmas.{get-insert_same}
use Rattle.own_model.proofs.RegionLemmas.{resolved_facts}
use Rattle.own_model.specs.OwnState.{OwnState, named_bytes}
use Rattle.own_model.specs.Call.Call.{Peek, Poke}
use Rattle.own_model.specs.OwnStep.{count_refusal, script_step}
use Rattle.own_model.specs.Reply.Reply.{Bytes}
use Rattle.own_model.specs.Region.{resolved}
use Rattle.own_model.specs.Sound.{IsSound}
use Rattle.std.proofs.lemmas.Bool.Decides.{nat_tests}

-- a range that a region holds lies within the bytes that the region's selector names
pub range_fits : (s : OwnState) (address count selector offset : ℕ) → IsSound s → resolved s.regions address count ≡ Some (selector, offset) →
    (bytes : List ℕ) × (named_bytes (get s.selectors selector) ≡ Some bytes) × (offset + count ≤ length bytes)
range_fits s address count selector offset h is =
    let at = resolved_facts s.regions address count selector offset is in
    let named = h.mapped.named at.0.0 at.0.1 at.2 in
    let whole = (h.whole at.0.1.of named.bytes named.there).whole in (
      named.bytes,
      subst (λ k. named_bytes (get s.selectors k) ≡ Some named.bytes) at.3 named.there,
      subst (λ n. offset + count ≤ n) (sym whole) (subst (λ n. offset + count ≤ n * 4096) named.pages at.5),
    )

-- ---- what was put is read back

-- a peek of as many bytes at the address tells these bytes
abbrev pub ReadsBack : OwnState → ℕ → List ℕ → OwnState → Type 0
ReadsBack s address bytes next = (script_step (Peek address (length bytes)) next).reply ≡ Bytes bytes

-- what was poked is read back, where its size is accepted and its range lies in a region
pub read_after : (s : OwnState) (address selector offset : ℕ) (bytes : List ℕ) → IsSound s → count_refusal (length bytes) ≡ None →
    resolved s.regions address (length bytes) ≡ Some (selector, offset) → ReadsBack s address bytes (script_step (Poke address bytes) s).next
read_after s address selector offset bytes h some found = grind (arith, nat_tests, range_fits, pokes, peeks, get-insert_same, slice_range-with_part)
