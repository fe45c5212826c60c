-- What a session takes of its client's account, and gives back.
use Rattle.std.proofs.Common.{◌≡◌, ◌≢◌, ℕ, ◌+◌, ◌-◌, ◌≤◌, Some, is_some, List, nat_cmp, unwrap_or, refl, sym, ap, subst, ◌∙◌, arith}
use Rattle.std.proofs.lemmas.Bool.Decides.{nat_tests}
use Rattle.std.specs.Prelude.{⊤, None, Result, IfOk, OnOk}
use Rattle.std.specs.Result.{result_err}
use Rattle.std.specs.FinMap.{get, insert, remove, len, empty, len-empty}
use Rattle.trade_base.specs.declared.refusal.Refusal.{Refusal}
use Rattle.own_model.specs.Account.{Account, shortage, charged, credited, opened}
use Rattle.own_model.specs.NatMap.{NatMap, total}
use Rattle.own_model.specs.Sliced.{block_size, sliced_refusal, sliced_size, sliced_header}
use Rattle.own_model.specs.Session.{session_ram, session_caps, session_object, session_account, too_small}
use Rattle.own_model.proofs.NatMapLemmas.{get-empty, apart_from_free}
use Rattle.own_model.proofs.Totals.{len-insert_new}
use Rattle.own_model.specs.OwnState.{zeros}
use Rattle.region_map.specs.Regions.{Regions}
use Rattle.dataspace_core.specs.Store.{Store, Part, part, parted_part, raised_part, charged_part, credited_part, account_of, accounts_in, account_in, parents_in, parent_in, root_in, room_in, IsOpenIn, IsLeafIn, with_child_in, with_account_in, without_account_in, AreRelatedIn, ram_limits_in, PartBecomes, OpensPart, ClosesPart, OtherPartsStay}
use Rattle.dataspace_core.specs.Share.{share_in}
use Rattle.dataspace_core.proofs.PartLaws.{account_of-part, open_in_part, account_by}
use Rattle.dataspace_core.proofs.LimitLaws.{limits_after}
use Rattle.sliced_heap.specs.Sliced.{sliced_of}
use Rattle.sliced_heap.specs.Heap.{payer_of, share_at, blocks_at, MapsMemory, IsSound, HasNoBlocks, TakesBlock, GivesAll, KeepsOthers}
use Rattle.sliced_heap.specs.declared.heap.SlicedHeap.{SlicedHeap}
use Rattle.server_frame.specs.Session.{holding, holding_of, IsSessionHeap, HasBlocksAlone}
use Rattle.server_frame.specs.Frame.{OpensChargedAccount}
use Rattle.server_frame.proofs.HoldingLemmas.{on_ok, if_ok, lacks_nothing, held_by, maps_books, no_blocks, no_payloads, same_part}

-- ---- a donation that is enough

pub enough_ram : (ram caps : ℕ) → too_small ram caps ≡ None → session_ram ≤ ram
enough_ram ram caps enough = grind (arith, nat_tests)

pub enough_caps : (ram caps : ℕ) → too_small ram caps ≡ None → session_caps ≤ caps
enough_caps ram caps enough = grind (arith, nat_tests)

-- ---- a session's account is opened, and charged for the session

-- what is then known
pub record IsCharged (client account ram caps : ℕ) (old new : Store) (regions : Regions) : Type 0 where
  pub charge : (part account new).account ≡ Some (charged (opened ram caps) 0 1)
  pub none : (part account new).spaces ≡ empty
  pub maps : MapsMemory new regions
  pub holdings : (other : ℕ) → holding (share_at other new regions) ≡ holding (share_at other old regions)
  pub parted : part client new ≡ parted_part (part client old) ram caps
  pub parts : OtherPartsStay client account old new
  pub leaf : IsLeafIn new account
  pub root : root_in new ≡ root_in old
  pub parents : parents_in new ≡ insert (parents_in old) account client
  pub room : room_in new + 1 ≡ room_in old

module _ (client account ram caps : ℕ) (old mid : Store) (regions : Regions) (maps : MapsMemory old regions) (enough : too_small ram caps ≡ None)
    (fresh : get (accounts_in old) account ≡ None) (client_open : IsOpenIn old client) (leaf : IsLeafIn mid account) (is : mid ≡ with_child_in old client account ram caps) (opens : OpensPart client account ram caps old mid) (ram_moved : ram_limits_in mid ≡ ram_limits_in old) where
  -- the account has what was donated
  opened_account : account_in mid account ≡ opened ram caps
  opened_account = account_by account mid (opened ram caps) (ap (λ (p : Part). p.account) opens.opened_one)

  -- so it is open
  pub account_open : IsOpenIn mid account
  account_open = open_in_part account mid (ap (λ (p : Part). is_some p.account) opens.opened_one)

  -- the client is another
  apart : client ≢ account
  apart = apart_from_free (accounts_in old) account client fresh client_open

  pub is_charged : (new : Store) (r : Result ⊤ Refusal) → result_err r ≡ shortage (account_in mid account) 0 1 → OnOk r (new ≡ with_account_in mid account (charged (account_in mid account) 0 1)) → OnOk r (PartBecomes account (charged_part (part account mid) 1) mid new) → IsCharged client account ram caps old new regions
  is_charged new r refusal ok becomes_if =
      let covered : shortage (account_in mid account) 0 1 ≡ None = ap (λ a. shortage a 0 1) opened_account ∙ lacks_nothing (opened ram caps) 0 1 (omega arith) (omega (arith, enough_caps ram caps enough)) in
      let accepted = refusal ∙ covered in
      let equation = on_ok r accepted ok in
      let becomes = on_ok r accepted becomes_if in
      let charge : (part account new).account ≡ Some (charged (opened ram caps) 0 1) = ap (λ (p : Part). p.account) becomes.own ∙ ap (λ a. Some (charged a 0 1)) (account_of-part account mid ∙ opened_account) in
      let limits = limits_after account (charged_part (part account mid) 1) mid new _ becomes refl account_open (ap (λ (a : Account). a.ram_limit) (account_of-part account mid)) in
      record {
        charge = charge;
        none = ap (λ (p : Part). p.spaces) (becomes.own) ∙ ap (λ (p : Part). p.spaces) opens.opened_one;
        maps = maps_books mid new _ regions equation limits (maps_books old mid _ regions is ram_moved maps);
        holdings = λ other. held_by mid new _ equation other regions ∙ held_by old mid _ is other regions;
        parted = becomes.others client apart ∙ opens.parted_one;
        parts = λ other not_client not_account. becomes.others other not_account ∙ opens.others other not_client not_account;
        leaf = λ k e. leaf k (ap (λ (m : NatMap ℕ). get m k) (sym becomes.parents) ∙ e);
        root = becomes.root ∙ opens.root;
        parents = becomes.parents ∙ opens.parents;
        room = ap (λ n. n + 1) becomes.room ∙ opens.room;
      }

-- ---- and for its object

module _ (client account ram caps : ℕ) (old mid : Store) (regions : Regions) (enough : too_small ram caps ≡ None) (fresh : get (accounts_in old) account ≡ None) (ready : IsCharged client account ram caps old mid regions) where
  -- a new heap of the account is sound
  pub heap_ready : (heap : SlicedHeap) → payer_of heap ≡ account → ((store : Store) (after : Regions) → IsOpenIn store account → MapsMemory store after → HasNoBlocks (share_at account store after) → IsSound heap store after) → IsSound heap mid regions
  heap_ready heap payer sound = sound mid regions (open_in_part account mid (ap is_some ready.charge)) ready.maps (no_blocks account mid regions ready.none)

  module _ (taken : SlicedHeap) (new : Store) (after : Regions) (address : ℕ) (payer : payer_of taken ≡ account) (took : TakesBlock account session_object address mid new regions after)
      (sound : IsSound taken new after) (others : KeepsOthers account mid new regions after) (apart : client ≢ account) where
    -- the account uses what a new session uses
    charge : (part account new).account ≡ Some (session_account ram caps)
    charge = took.charge ∙ ap (λ a. Some (charged a session_ram 1)) (account_by account mid _ ready.charge)

    -- and has one dataspace
    one : len (part account new).spaces ≡ 1
    one = took.count ∙ ap (λ m. len m + 1) ready.none ∙ ap (λ n. n + 1) (len-empty nat_cmp (List ℕ))

    -- which is a block
    one_block : len (blocks_at account new after) ≡ 1
    one_block =
        ap len (took.blocks ∙ ap (λ m. insert m address (zeros (sliced_size session_object - sliced_header))) (no_payloads account mid regions ready.none))
        ∙ len-insert_new empty address _ (get-empty address) ∙ ap (λ n. n + 1) (len-empty nat_cmp (List ℕ))

    is_session_heap : IsSessionHeap taken new after
    is_session_heap = record {
      sound = sound;
      pays = subst (λ k. (account_in new k).caps_used ≡ len (part k new).spaces + 1) (sym payer)
          (ap (λ (a : Account). a.caps_used) (account_by account new _ charge) ∙ ap (λ n. n + 1) (sym one));
    }

    is_alone : HasBlocksAlone (holding_of taken new after)
    unfolding share_in sliced_of
    is_alone = subst (λ k. HasBlocksAlone (holding (share_at k new after))) (sym payer) (one ∙ sym one_block)

    pub furnishes : OpensChargedAccount client ram caps account taken old new regions after
    furnishes = record {
      fresh = fresh;
      payer = payer;
      heap = is_session_heap;
      alone = is_alone;
      leaf = λ k e. ready.leaf k (ap (λ (m : NatMap ℕ). get m k) (sym others.parents) ∙ e);
      charge = charge;
      parted = same_part client mid new regions after (others.shares client apart) ∙ ready.parted;
      parts = λ other not_client not_account. same_part other mid new regions after (others.shares other not_account) ∙ ready.parts other not_client not_account;
      holdings = λ other not_account. ap holding (others.shares other not_account) ∙ ready.holdings other;
      root = others.root ∙ ready.root;
      parents = others.parents ∙ ready.parents;
      room = ap (λ n. n + 1) others.room ∙ ready.room;
      rest = others.rest;
    }

  -- the account covers the object
  covers_object : sliced_refusal session_object (account_in mid account) ≡ None
  covers_object =
      ap (sliced_refusal session_object) (account_by account mid _ ready.charge)
      ∙ lacks_nothing (charged (opened ram caps) 0 1) session_ram 1 (omega (arith, enough_ram ram caps enough)) (omega (arith, enough_caps ram caps enough))

  pub is_furnished : (heap taken : SlicedHeap) (new : Store) (after : Regions) (r : Result ℕ Refusal) → client ≢ account → payer_of heap ≡ account → result_err r ≡ sliced_refusal session_object (account_in mid (payer_of heap)) →
      IfOk r (λ address. TakesBlock (payer_of heap) session_object address mid new regions after) → IsSound taken new after → KeepsOthers (payer_of heap) mid new regions after → payer_of taken ≡ payer_of heap →
      OpensChargedAccount client ram caps account taken old new regions after
  is_furnished heap taken new after r apart payer refusal taken_if sound others same_payer =
      let accepted : result_err r ≡ None = refusal ∙ ap (λ k. sliced_refusal session_object (account_in mid k)) payer ∙ covers_object in
      let took = if_ok r accepted taken_if in
      furnishes taken new after took.0 (same_payer ∙ payer) (subst (λ k. TakesBlock k session_object took.0 mid new regions after) payer took.1) sound
      (subst (λ k. KeepsOthers k mid new regions after) payer others) apart

-- ---- a session's account gives all back, and is closed

module _ (account : ℕ) (heap left : SlicedHeap) (old mid : Store) (regions after : Regions) (payer : payer_of heap ≡ account) (session : IsSessionHeap heap old regions) (alone : HasBlocksAlone (holding_of heap old regions))
    (given_by : GivesAll (payer_of heap) old mid regions after) (sound : IsSound left mid after) (others_by : KeepsOthers (payer_of heap) old mid regions after) (payer_stays : payer_of left ≡ payer_of heap) where
  -- the heap is the account's
  given : GivesAll account old mid regions after
  given = subst (λ k. GivesAll k old mid regions after) payer given_by

  others : KeepsOthers account old mid regions after
  others = subst (λ k. KeepsOthers k old mid regions after) payer others_by

  -- it uses a capability for each dataspace, and one more
  pays : (account_in old account).caps_used ≡ len (part account old).spaces + 1
  pays = subst (λ k. (account_in old k).caps_used ≡ len (part k old).spaces + 1) payer session.pays

  -- and each dataspace was a block
  blocks : len (part account old).spaces ≡ len (blocks_at account old regions)
  unfolding share_in sliced_of
  blocks = subst (λ k. HasBlocksAlone (holding (share_at k old regions))) payer alone

  -- so it has none that is left
  pub no_space : len (part account mid).spaces ≡ 0
  no_space = omega (arith, given.count, blocks)

  -- and uses one capability
  pub one_used : (account_in mid account).caps_used ≡ 1
  one_used =
      let credit = ap (λ (a : Account). a.caps_used) (account_by account mid _ given.charge) in
      omega (arith, credit, pays, blocks)

  pub still_open : IsOpenIn mid account
  still_open = subst (IsOpenIn mid) (payer_stays ∙ payer) sound.opens

  module _ (last : Store) (credit : last ≡ with_account_in mid account (credited (account_in mid account) 0 1)) (becomes : PartBecomes account (credited_part (part account mid) 1) mid last) where
    -- then it uses none
    pub none_used : (account_in last account).caps_used ≡ 0
    none_used =
        let now = ap (λ (p : Part). account_of p) becomes.own in
        omega (arith, ap (λ (a : Account). a.caps_used) (sym (account_of-part account last) ∙ now), ap (λ (a : Account). a.caps_used) (account_of-part account mid), one_used)

    -- who is whose parent stays
    pub parents_stay : parents_in last ≡ parents_in old
    parents_stay = becomes.parents ∙ others.parents

    same_parent : parent_in last account ≡ parent_in old account
    same_parent =
        ap (λ m. unwrap_or (get m account) (root_in last)) parents_stay
        ∙ ap (λ r. unwrap_or (get (parents_in old) account) r) (becomes.root ∙ others.root)

    -- its limits are what they were
    credit_is : account_of (part account last) ≡ credited (account_of (part account mid)) 0 1
    credit_is = ap account_of becomes.own

    left_is : account_of (part account mid) ≡ credited (account_in old account) (total block_size (blocks_at account old regions)) (len (blocks_at account old regions))
    left_is = ap (λ o. unwrap_or o (opened 0 0)) given.charge

    same_ram : (account_of (part account last)).ram_limit ≡ (account_of (part account old)).ram_limit
    same_ram = ap (λ (a : Account). a.ram_limit) credit_is ∙ ap (λ (a : Account). a.ram_limit) left_is ∙ ap (λ (a : Account). a.ram_limit) (sym (account_of-part account old))

    same_caps : (account_of (part account last)).caps_limit ≡ (account_of (part account old)).caps_limit
    same_caps = ap (λ (a : Account). a.caps_limit) credit_is ∙ ap (λ (a : Account). a.caps_limit) left_is ∙ ap (λ (a : Account). a.caps_limit) (sym (account_of-part account old))

    -- nobody else is touched
    others_stay : (other : ℕ) → other ≢ account → part other last ≡ part other old
    others_stay other apart = becomes.others other apart ∙ same_part other old mid regions after (others.shares other apart)

    module _ (new : Store) (closed : new ≡ without_account_in last account) (shut : ClosesPart account (parent_in last account) last new) (ram_moved : ram_limits_in new ≡ ram_limits_in last) (related : AreRelatedIn last account (parent_in last account)) where
      -- the parent's part has the limits
      raised_one : part (parent_in old account) new ≡ raised_part (part (parent_in old account) old) (account_of (part account old)).ram_limit (account_of (part account old)).caps_limit
      raised_one = subst (λ k. part k new ≡ raised_part (part k old) (account_of (part account old)).ram_limit (account_of (part account old)).caps_limit) same_parent
          (shut.raised_one
          ∙ ap (λ p. raised_part p (account_of (part account last)).ram_limit (account_of (part account last)).caps_limit) (others_stay (parent_in last account) related.apart)
          ∙ ap (λ n. raised_part (part (parent_in last account) old) n (account_of (part account last)).caps_limit) same_ram
          ∙ ap (λ n. raised_part (part (parent_in last account) old) (account_of (part account old)).ram_limit n) same_caps)

      pub closes : ClosesPart account (parent_in old account) old new
      closes = record {
        closed_one = shut.closed_one;
        raised_one = raised_one;
        others = λ other apart not_parent. shut.others other apart (λ e. not_parent (e ∙ same_parent)) ∙ others_stay other apart;
        root = shut.root ∙ becomes.root ∙ others.root;
        parents = shut.parents ∙ ap (λ m. remove m account) parents_stay;
        room = shut.room ∙ ap (λ n. n + 1) (becomes.room ∙ others.room);
      }

      pub maps_then : MapsMemory new after
      maps_then =
          let limits = limits_after account (credited_part (part account mid) 1) mid last _ becomes refl still_open (ap (λ (a : Account). a.ram_limit) (account_of-part account mid)) in
          maps_books last new _ after closed ram_moved (maps_books mid last _ after credit limits sound.maps)

      pub holdings_then : (other : ℕ) → other ≢ account → holding (share_at other new after) ≡ holding (share_at other old regions)
      holdings_then other apart = held_by last new _ closed other after ∙ held_by mid last _ credit other after ∙ ap holding (others.shares other apart)
