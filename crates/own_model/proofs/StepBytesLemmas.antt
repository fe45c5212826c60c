-- What a peek and a poke do, by what their lookups find.
use Rattle.std.proofs.Common.{rules, ◌≡◌, ℕ, ◌+◌, List, [], Some, length, ap, slice_range}
use Rattle.std.specs.Prelude.{Option, None}
use Rattle.std.specs.Option.{option_map, option_or}
use Rattle.std.specs.FinMap.{get}
use Rattle.trade_base.specs.declared.refusal.Refusal.TheVariants.{PageFault}
use Rattle.own_model.specs.Call.Call.{Peek, Poke}
use Rattle.own_model.specs.OwnState.{OwnState, Object, named_bytes}
use Rattle.own_model.specs.Place.{Place, found, in_dataspace, in_payload, in_block}
use Rattle.own_model.specs.Place.Place.{InDataspace, InPayload, InBlock}
use Rattle.own_model.specs.Sliced.{block_found}
use Rattle.own_model.specs.OwnStep.{refused, count_refusal, poked_at, payload_poked, block_poked, script_step}
use Rattle.own_model.specs.Region.{resolved}
use Rattle.own_model.specs.Reply.Reply.{Bytes}

module _ (s : OwnState) where
  -- what a range finds, by what its three lookups find
  abbrev found_by : Option (ℕ × ℕ) → Option (ℕ × ℕ) → Option (ℕ × ℕ) → Option Place
  found_by o p q = option_or (option_map in_dataspace o) (option_or (option_map in_payload p) (option_map in_block q))

  -- a range that a region holds is found there
  pub found_region : (address count selector offset : ℕ) → resolved s.regions address count ≡ Some (selector, offset) → found s address count ≡ Some (InDataspace selector offset)
  found_region address count selector offset is = ap (λ o. found_by o (block_found s.sliced address count) (block_found s.heap.payloads address count)) is

  -- one that no region holds is found in a sliced block's payload, if one holds it
  pub found_payload : (address count : ℕ) (at : ℕ × ℕ) → resolved s.regions address count ≡ None → block_found s.sliced address count ≡ Some at → found s address count ≡ Some (in_payload at)
  found_payload address count at none is = cc

  -- and else in a payload of the heap, if one holds it
  pub found_block : (address count : ℕ) (o : Option (ℕ × ℕ)) → resolved s.regions address count ≡ None → block_found s.sliced address count ≡ None → block_found s.heap.payloads address count ≡ o →
      found s address count ≡ option_map in_block o
  found_block address count o none free is = cc

  -- a peek tells the bytes that the region shows, of the region that holds the range
  pub peeks : (address count selector offset : ℕ) (bytes : List ℕ) → count_refusal count ≡ None → resolved s.regions address count ≡ Some (selector, offset) →
      named_bytes (get s.selectors selector) ≡ Some bytes →
      script_step (Peek address count) s ≡ record { reply = Bytes (slice_range bytes offset (offset + count)); lines = []; next = s }
  peeks address count selector offset bytes some at there = search (rules, found_region)

  -- or those of the payload that holds it
  pub peeks_payload : (address count block offset : ℕ) (payload : List ℕ) → count_refusal count ≡ None → found s address count ≡ Some (InPayload block offset) →
      get s.sliced block ≡ Some payload →
      script_step (Peek address count) s ≡ record { reply = Bytes (slice_range payload offset (offset + count)); lines = []; next = s }
  peeks_payload address count block offset payload some at there = cc

  -- or those of the payload of the heap that holds it
  pub peeks_block : (address count block offset : ℕ) (payload : List ℕ) → count_refusal count ≡ None → found s address count ≡ Some (InBlock block offset) →
      get s.heap.payloads block ≡ Some payload →
      script_step (Peek address count) s ≡ record { reply = Bytes (slice_range payload offset (offset + count)); lines = []; next = s }
  peeks_block address count block offset payload some at there = cc

  -- nothing holds the range
  pub peeks_none : (address count : ℕ) → count_refusal count ≡ None → found s address count ≡ None → script_step (Peek address count) s ≡ refused s PageFault
  peeks_none address count some none = cc

  -- a poke puts bytes over those of the dataspace
  pub pokes : (address selector offset : ℕ) (bytes : List ℕ) (object : Object) → count_refusal (length bytes) ≡ None →
      resolved s.regions address (length bytes) ≡ Some (selector, offset) → get s.selectors selector ≡ Some object →
      script_step (Poke address bytes) s ≡ poked_at selector offset bytes (Some object) s
  pokes address selector offset bytes object some at there = search (rules, found_region)

  -- or over those of the payload
  pub pokes_payload : (address block offset : ℕ) (bytes payload : List ℕ) → count_refusal (length bytes) ≡ None →
      found s address (length bytes) ≡ Some (InPayload block offset) → get s.sliced block ≡ Some payload →
      script_step (Poke address bytes) s ≡ payload_poked block offset bytes (Some payload) s
  pokes_payload address block offset bytes payload some at there = cc

  -- or over those of the payload of the heap
  pub pokes_block : (address block offset : ℕ) (bytes payload : List ℕ) → count_refusal (length bytes) ≡ None →
      found s address (length bytes) ≡ Some (InBlock block offset) → get s.heap.payloads block ≡ Some payload →
      script_step (Poke address bytes) s ≡ block_poked block offset bytes (Some payload) s
  pokes_block address block offset bytes payload some at there = cc

  -- nothing holds the range
  pub pokes_none : (address : ℕ) (bytes : List ℕ) → count_refusal (length bytes) ≡ None → found s address (length bytes) ≡ None → script_step (Poke address bytes) s ≡ refused s PageFault
  pokes_none address bytes some none = cc
