-- A script's peeks and pokes where a range is found: in a region's dataspace, in a sliced block's payload or in a payload of its heap.
use Rattle.std.proofs.Common.{◌≡◌, ◌≢◌, ℕ, ◌+◌, ◌-◌, ◌≤◌, true, List, [], length, drop, Option, Some, None, is_some, subst, refl, sym, ap, ◌∙◌, slice_range, inl, inr}
use Rattle.std.proofs.lemmas.Option.{none-some}
use Rattle.std.specs.Option.{option_map, option_and_then, unwrap_or}
use Rattle.std.specs.FinMap.{get, insert}
use Rattle.trade_base.specs.declared.id.DsId.{DsId}
use Rattle.own_model.specs.Call.Call.{Peek, Poke}
use Rattle.own_model.specs.OwnState.{Object, named_bytes, with_part}
use Rattle.own_model.specs.OwnStep.{count_refusal, script_step}
use Rattle.own_model.specs.Place.{found}
use Rattle.own_model.specs.Place.Place.{InPayload}
use Rattle.own_model.specs.Region.{Region}
use Rattle.own_model.specs.Reply.Reply.{Bytes, Done}
use Rattle.own_model.specs.Sliced.{sliced_header as header, block_found}
use Rattle.own_model.proofs.StepBytesLemmas.{found_payload, peeks_payload, pokes_payload}
use Rattle.cap_space.specs.declared.cap.Cap.TheVariants.{Dataspace}
use Rattle.dataspace_core.specs.Store.{Store, Part, part, account_of, Exists, space_at, bytes_of, part_with_bytes, PartBecomes, IsOpenIn}
use Rattle.dataspace_core.specs.Share.{Share, share_in}
use Rattle.dataspace_core.proofs.PartLaws.{IsPaidBy, paid_in_part, open_after}
use Rattle.dataspace_core.proofs.ShareLaws.{share_alike}
use Rattle.heap_core.specs.Heap.{payer_of as heap_payer}
use Rattle.heap_core.specs.Theorems.{block_region, HeapStays}
use Rattle.heap_core.specs.Words.{are_bytes}
use Rattle.sliced_heap.specs.Heap.{share_at, blocks_at, HoldsRange}
use Rattle.sliced_heap.specs.Theorems.{Pokes}
use Rattle.sliced_heap.specs.Sliced.{block_regions}
use Rattle.sliced_heap.proofs.HeapLaws.{payload_poked, payload_read}
use Rattle.pd_core.specs.Own.{Sessions, lent_in, object_of, own_at, own_of, part_at, own_heap_at, sliced_at, selector_of, IsFound, IsFoundInRegion, IsFoundInSliced, IsFoundInBlock}
use Rattle.pd_core.specs.Sound.{buffer_at, IsSoundScript}
use Rattle.pd_core.specs.declared.script.Script.{Script}
use Rattle.sliced_heap.proofs.BesideLemmas.{map_of, sliced_no_block}
use Rattle.pd_core.proofs.BytesLemmas.{renamed_is, selector, names, fits, peek_is, poke_is, put_over, poke_settles}
use Rattle.pd_core.proofs.LentPokeLemmas.{lent_poked}
use Rattle.pd_core.proofs.HeapCallLemmas.{own_in, parts, finishes_parts, put_spare}
use Rattle.heap_core.proofs.StayLemmas.{heap_stays}
use Rattle.pd_core.proofs.HeapPlaceLemmas.{block_fits, block_peeked, block_poked_ends}
use Rattle.pd_core.proofs.ScriptNameLemmas.{Names, IsOwn, own_or_lent}
use Rattle.pd_core.proofs.ScriptOwnLemmas.{for_payer, has_bytes, object_is, names_object}
use Rattle.pd_core.proofs.ScriptSettleLemmas.{settled}
use Rattle.pd_core.specs.Does.{Does, DoesPoke}
use Rattle.pd_core.proofs.ScriptLemmas.{leaves_others, finishes, at_heap, block_there, is_region}
use Rattle.pd_core.proofs.SlicedLemmas.{ChangesHeaps, no_block, finishes_heaps}
use Rattle.sliced_heap.proofs.WindowLemmas.{IsPut, is_put}

-- a dataspace that selectors name is there, and they name its bytes
record IsThere (sessions_name : Sessions → Option Object) (store : Store) (key : ℕ) : Type 0 where
  there : Exists store key
  named : (sessions : Sessions) → named_bytes (sessions_name sessions) ≡ Some (space_at store key).bytes

module _ (store : Store) (script : Script) (sound : IsSoundScript store script) where
  -- what a selector names in the own state
  abbrev named_at : ℕ → Sessions → Option Object
  named_at s sessions = get (own_at sessions store script).selectors s

  -- its account pays for what is its own
  own_payer : (s key : ℕ) → IsOwn (get script.caps.caps s) key → (space_at store key).payer ≡ script.account.0
  own_payer s key its =
      let has = has_bytes (part_at store script) script.caps script.regions (own_heap_at store script) (sliced_at store script) sound.own s its.ds its.is in
      subst (λ k. (space_at store k).payer ≡ script.account.0) its.key_is (paid_in_part script.account.0 its.ds.0 _ store has).payer

  -- so is what a selector names under a key, its own or lent
  bytes_there : (s key : ℕ) → Names script.caps.caps s key → IsThere (named_at s) store key
  bytes_there s key names =
      let p = part_at store script in
      let space = script.caps in
      let regions = script.regions in
      let heap = own_heap_at store script in
      let sliced = sliced_at store script in
      elim (own_or_lent (get space.caps s) key names) [
        | inl its ↦
            let paid = paid_in_part script.account.0 its.ds.0 (bytes_of p its.ds.0) store (has_bytes p space regions heap sliced sound.own s its.ds its.is) in
            subst (IsThere (named_at s) store) its.key_is (record {
              there = paid.exists;
              named = λ sessions. ap named_bytes (names_object p space regions heap sliced sound.own sessions s its.ds its.is) ∙ ap (λ l. Some l) (sym paid.bytes_are);
            })
        | inr its ↦ subst (IsThere (named_at s) store) its.key_is (record {
          there = (sound.lent s its.session.0 its.of.0 (ap buffer_at its.is)).there;
          named = λ sessions. ap named_bytes (object_is p space regions heap sliced sound.own sessions s ∙ ap (option_and_then (object_of (lent_in store) sessions p)) its.is);
        })
      ]

module _ (store : Store) (script : Script) (sound : IsSoundScript store script) (address ds offset : ℕ) where
  -- a peek of so many bytes that isn't refused tells those of the dataspace
  abbrev pub IsPeeked : ℕ → Type 0
  IsPeeked count = count_refusal count ≡ None → (sessions : Sessions) →
      record { reply = Bytes (slice_range (space_at store ds).bytes offset (offset + count)); lines = []; next = own_at sessions store script } ≡ script_step (Peek address count) (own_at sessions store script)

  -- ---- in a region

  module _ (count : ℕ) (few : count_refusal count ≡ None) (at : IsFoundInRegion script address count ds offset) where
    abbrev p : Part
    p = part_at store script

    abbrev region_selector : ℕ
    region_selector = (selector p script.caps script.regions (own_heap_at store script) (sliced_at store script) sound.own address count ds offset few at).0

    region_names : Names script.caps.caps region_selector ds
    region_names = names p script.caps script.regions (own_heap_at store script) (sliced_at store script) sound.own address count ds offset few at

    region_there : IsThere (named_at store script sound region_selector) store ds
    region_there = bytes_there store script sound region_selector ds region_names

  -- ---- in a sliced block's payload

  module _ (count : ℕ) (is : IsFoundInSliced store script address count ds offset) where
    abbrev held : HoldsRange (share_at script.account.0 store script.regions) ds offset address count
    held = is.holds

    -- the part has the block's bytes
    sliced_has : get (part_at store script).spaces ds ≡ Some held.bytes
    unfolding share_in
    sliced_has = held.there

    -- these are they
    sliced_paid : IsPaidBy script.account.0 ds held.bytes store
    sliced_paid = paid_in_part script.account.0 ds held.bytes store sliced_has

    -- the own state finds the range in the payload
    own_found : (sessions : Sessions) → found (own_at sessions store script) address count ≡ Some (InPayload (held.start + header) (offset - header))
    unfolding own_of
    own_found sessions =
        let renamed = renamed_is (part_at store script) script.caps script.regions (own_heap_at store script) (sliced_at store script) sound.own address count sessions in
        found_payload (own_at sessions store script) address count (held.start + header, offset - header)
        (renamed ∙ ap (option_and_then (λ (x : ℕ × ℕ). option_map (λ other. (other, x.1)) (selector_of script.caps.caps x.0))) is.no_region) held.found

    -- so a peek tells its bytes
    payload_peeked : IsPeeked count
    unfolding own_of
    payload_peeked few sessions =
        let block = held.start + header in
        let payload = drop header held.bytes in
        let told : slice_range (space_at store ds).bytes offset (offset + count) ≡ slice_range payload (offset - header) (offset - header + count)
        = ap (λ l. slice_range l offset (offset + count)) sliced_paid.bytes_are ∙ payload_read (share_at script.account.0 store script.regions) ds offset address count held
        ∙ ap (λ o. slice_range (unwrap_or o []) (offset - header) (offset - header + count)) held.payload in
        ap (λ l. record { reply = Bytes l; lines = []; next = own_at sessions store script }) told
        ∙ sym (peeks_payload (own_at sessions store script) address count block (offset - header) payload few (own_found sessions) held.payload)

  -- ---- a poke there

  module _ {store' : Store} (bytes : List ℕ) (few : count_refusal (length bytes) ≡ None) (is : IsFoundInSliced store script address (length bytes) ds offset)
      (becomes : PartBecomes script.account.0 (part_with_bytes (part_at store script) ds offset bytes) store store') where
    -- the payload, and what the poke makes of it
    abbrev payload : List ℕ
    payload = drop header is.holds.bytes

    abbrev over : List ℕ
    over = with_part payload (offset - header) bytes

    -- the sliced heap is as it was but for that payload
    pokes : Pokes script.sliced (is.holds.start + header) over store store' script.regions
    pokes =
        subst (λ a. (h : HoldsRange (share_at a store script.regions) ds offset address (length bytes)) → PartBecomes a (part_with_bytes (part a store) ds offset bytes) store store' →
        Pokes script.sliced (h.start + header) (with_part (drop header h.bytes) (offset - header) bytes) store store' script.regions) sound.heaps.sliced_pays
        (λ h after. payload_poked script.sliced ds offset address bytes store store' script.regions sound.heaps.sliced h after) is.holds becomes

    -- the dataspaces are as many, and others than the block's stay
    abbrev put : IsPut script.account.0 ds store store'
    put = is_put script.account.0 ds offset bytes is.holds.bytes (sliced_has (length bytes) is) is.holds.within becomes

    -- chunks and large blocks stand where they stood
    stand : (s : ℕ) → block_region (share_at script.account.0 store' script.regions) s ≡ block_region (share_at script.account.0 store script.regions) s
    stand s = ap (λ (x : Share). block_region x s) (share_alike (part_at store script) (part script.account.0 store') script.regions.heap script.regions.tags (λ _ r there. put.alike r.of))

    -- and their dataspaces are others
    block_apart : (s k : ℕ) (r : Region) → block_region (share_at script.account.0 store script.regions) s ≡ Some (r, k) → r.of ≢ ds
    block_apart s k r at e =
        let share = share_at script.account.0 store script.regions in
        let region : Region = record { of = ds; pages = is.holds.pages } in
        let same : is.holds.start ≡ s
        = sound.heaps.heap.window.once is.holds.start s region r (is_region store script sound is.holds.start region is.holds.region) (block_there store script sound s (r, k) at) (sym e) in
        none-some (r, k) (sym (sliced_no_block share is.holds.start region is.holds.region) ∙ ap (block_region share) same ∙ at)

    -- so the heap stays
    heap_is : HeapStays script.heap store store' script.regions script.regions
    heap_is =
        let window = sound.heaps.heap.window in
        heap_stays script.heap store store' script.regions script.regions sound.heaps.heap (map_of pokes.sound.maps window.few window.lie)
        (at_heap store script sound (IsOpenIn store') (open_after becomes sound.own.paid.is_open))
        (at_heap store script sound (λ a. (s : ℕ) → block_region (share_at a store' script.regions) s ≡ block_region (share_at a store script.regions) s) stand)
        (at_heap store script sound (λ a. (s k : ℕ) (r : Region) → block_region (share_at a store script.regions) s ≡ Some (r, k) → get (part a store').spaces r.of ≡ get (part a store).spaces r.of)
        (λ s k r at. put.others r.of (block_apart s k r at)))

    -- and nothing else of the script changes
    poked_changes : ChangesHeaps store script store' script.regions script.heap script.sliced
    poked_changes =
        let account = script.account.0 in
        let p = part_at store script in
        let stands = subst (λ a. block_regions (share_at a store' script.regions) ≡ block_regions (share_at a store script.regions)) sound.heaps.sliced_pays pokes.stands in
        let apart : (q : ℕ) (d : DsId) → get script.caps.caps q ≡ Some (Dataspace d) → d.0 ≢ ds
        = (λ q d names e. no_block store script sound q d names is.holds.start _ is.holds.region (sym e)) in record {
          has = record {
            heap = heap_is.sound;
            sliced = pokes.sound;
            heap_pays = sound.heaps.heap_pays;
            sliced_pays = sound.heaps.sliced_pays;
            all = λ s r there. elim (sound.heaps.all s r there) [
              | inl one ↦ inl (ap (λ m. get m s) stands ∙ one)
              | inr one ↦ inr (ap is_some (stand s) ∙ one)
            ];
          };
          blocks = record { held = λ s r there. put.alike r.of ∙ sound.own.blocks.held s r there; unnamed = sound.own.blocks.unnamed };
          still = λ q d names. put.others d.0 (apart q d names);
          rest = refl;
          ram_limit = ap (λ q. (account_of q).ram_limit) becomes.own;
          caps_limit = ap (λ q. (account_of q).caps_limit) becomes.own;
          spare = put_spare script.account.0 ds offset _ bytes is.holds.bytes (sliced_has (length bytes) is) becomes sound.own.paid.spare;
          others = becomes.others;
          root = becomes.root;
          parents = becomes.parents;
          room = becomes.room;
        }

    -- so the poke is the model's
    payload_finishes : Does (Poke address bytes) Done store script store' script
    unfolding own_of
    payload_finishes =
        let blocks = subst (λ a. blocks_at a store' script.regions ≡ insert (blocks_at a store script.regions) (is.holds.start + header) over) sound.heaps.sliced_pays pokes.blocks in
        finishes_heaps store script sound poked_changes (λ sessions.
        let b = own_at sessions store script in
        pokes_payload b address (is.holds.start + header) (offset - header) bytes payload few (own_found (length bytes) is sessions) is.holds.payload
        ∙ (λ i. record { reply = Done; lines = []; next = record b { account = account_of (sym becomes.own i); heap = sym heap_is.value i; sliced = sym blocks i } }))

  -- ---- in a payload of the heap

  module _ (count : ℕ) (is : IsFoundInBlock store script address count ds offset) where
    -- the part has the dataspace's bytes
    block_paid : IsPaidBy script.account.0 ds is.holds.bytes store
    block_paid = paid_in_part script.account.0 ds is.holds.bytes store (subst (λ a. get (part a store).spaces ds ≡ Some is.holds.bytes) sound.heaps.heap_pays is.holds.there)

    -- no sliced block's payload holds the range
    no_sliced : block_found (blocks_at (heap_payer script.heap) store script.regions) address count ≡ None
    no_sliced = at_heap store script sound (λ a. block_found (blocks_at a store script.regions) address count ≡ None) is.no_sliced

    -- a peek tells the bytes of the payload
    heap_peeked : IsPeeked count
    heap_peeked few sessions =
        ap (λ l. record { reply = Bytes (slice_range l offset (offset + count)); lines = []; next = own_at sessions store script }) block_paid.bytes_are
        ∙ subst (λ a. record { reply = Bytes (slice_range is.holds.bytes offset (offset + count)); lines = []; next = own_in sessions a store script.caps script.regions script.heap }
        ≡ script_step (Peek address count) (own_in sessions a store script.caps script.regions script.heap)) sound.heaps.heap_pays
        (block_peeked (parts store script sound) ds offset address count is.holds is.no_region no_sliced sessions few)

  -- ---- in any

  module _ (count : ℕ) (few : count_refusal count ≡ None) (is : IsFound store script address count ds offset) where
    -- the dataspace is there
    pub found_there : Exists store ds
    found_there = elim is [
      | inl at ↦ (region_there count few at).there
      | inr payload ↦ elim payload [
        | inl at ↦ (sliced_paid count at).exists
        | inr at ↦ (block_paid count at).exists
      ]
    ]

    -- the range lies within its bytes
    pub found_fits : offset + count ≤ length (space_at store ds).bytes
    found_fits = elim is [
      | inl at ↦ fits _ _ _ _ _ sound.own address count ds offset few at (space_at store ds).bytes (region_there count few at).named
      | inr payload ↦ elim payload [
        | inl at ↦ subst (λ (l : List ℕ). offset + count ≤ length l) (sym (sliced_paid count at).bytes_are) at.holds.within
        | inr at ↦ subst (λ (l : List ℕ). offset + count ≤ length l) (sym (block_paid count at).bytes_are) (block_fits (parts store script sound) ds offset address count at.holds)
      ]
    ]

  -- a peek tells them
  pub peek_found : (count : ℕ) → IsFound store script address count ds offset → IsPeeked count
  peek_found count is few sessions = elim is [
    | inl at ↦ peek_is _ _ _ _ _ sound.own address count ds offset few at (space_at store ds).bytes (region_there count few at).named sessions
    | inr payload ↦ elim payload [
      | inl at ↦ payload_peeked count at few sessions
      | inr at ↦ heap_peeked count at few sessions
    ]
  ]

  -- a poke puts its bytes over those that the range finds
  pub poke_finishes : (count : ℕ) (bytes : List ℕ) {store' : Store} → count ≡ length bytes → count_refusal count ≡ None → are_bytes bytes ≡ true → IsFound store script address count ds offset →
      PartBecomes (space_at store ds).payer (part_with_bytes (part (space_at store ds).payer store) ds offset bytes) store store' →
      DoesPoke address bytes Done store script store'
  poke_finishes count bytes {store'} size few are is becomes =
      let own : (space_at store ds).payer ≡ script.account.0 → PartBecomes script.account.0 (part_with_bytes (part_at store script) ds offset bytes) store store'
      = λ pays. for_payer (λ q. part_with_bytes q ds offset bytes) pays becomes in
      let some : count_refusal (length bytes) ≡ None = subst (λ n. count_refusal n ≡ None) size few in
      elim is [
        | inl at ↦ elim (own_or_lent (get script.caps.caps (region_selector count few at)) ds (region_names count few at)) [
          | inl its ↦
              let its_becomes = own (own_payer store script sound (region_selector count few at) ds its) in
              leaves_others (finishes store script sound its_becomes (settled its_becomes.own refl refl (poke_settles _ _ _ _ _ sound.own address count ds offset few at bytes size its)))
          | inr its ↦
              let has = (region_there count few at).named in
              lent_poked store script sound address ds offset (region_selector count few at) bytes its
              (subst (λ n. offset + n ≤ length (space_at store ds).bytes) size (fits _ _ _ _ _ sound.own address count ds offset few at (space_at store ds).bytes has))
              (put_over _ _ _ _ _ sound.own address count ds offset few at (space_at store ds).bytes has bytes size)
              (λ object sessions there. poke_is _ _ _ _ _ sound.own address count ds offset few at (space_at store ds).bytes has bytes object sessions size there)
              becomes
        ]
        | inr payload ↦ elim payload [
          | inl at ↦ leaves_others (payload_finishes bytes some (subst (λ n. IsFoundInSliced store script address n ds offset) size at) (own (sliced_paid count at).payer))
          | inr at ↦
              let held = subst (λ n. IsFoundInBlock store script address n ds offset) size at in
              leaves_others (finishes_parts store script sound (block_poked_ends (parts store script sound) ds offset address bytes held.holds held.no_region (no_sliced (length bytes) held) some are
              (at_heap store script sound (λ a. PartBecomes a (part_with_bytes (part a store) ds offset bytes) store store') (own (block_paid count at).payer))))
        ]
      ]
