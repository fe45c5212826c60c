-- What a range of addresses finds in an own state.
use Rattle.std.specs.Prelude.{ℕ, ◌+◌, List, [], slice_range, Option}
use Rattle.std.specs.Option.{option_map, option_or, unwrap_or}
use Rattle.std.specs.FinMap.{get}
use Rattle.own_model.specs.OwnState.{OwnState, bytes_named}
use Rattle.own_model.specs.Region.{resolved}
use Rattle.own_model.specs.Sliced.{block_found}

-- where a range starts: so many bytes into the dataspace that a selector names, or into the payload at an address, of a sliced
-- block or of a block of the heap
pub data Place : Type 0 where
  InDataspace : ℕ → ℕ → Place
  InPayload : ℕ → ℕ → Place
  InBlock : ℕ → ℕ → Place

abbrev pub in_dataspace : ℕ × ℕ → Place
in_dataspace at = InDataspace at.0 at.1

abbrev pub in_payload : ℕ × ℕ → Place
in_payload at = InPayload at.0 at.1

abbrev pub in_block : ℕ × ℕ → Place
in_block at = InBlock at.0 at.1

-- what a range finds: it lies whole in one user region, or in one payload
abbrev pub found : OwnState → ℕ → ℕ → Option Place
found s address count =
    option_or (option_map in_dataspace (resolved s.regions address count))
    (option_or (option_map in_payload (block_found s.sliced address count))
    (option_map in_block (block_found s.heap.payloads address count)))

-- so many bytes from a place on
abbrev pub bytes_from : OwnState → Place → ℕ → List ℕ
bytes_from s (InDataspace selector offset) count = slice_range (bytes_named (get s.selectors selector)) offset (offset + count)
bytes_from s (InPayload address offset) count = slice_range (unwrap_or (get s.sliced address) []) offset (offset + count)
bytes_from s (InBlock address offset) count = slice_range (unwrap_or (get s.heap.payloads address) []) offset (offset + count)
