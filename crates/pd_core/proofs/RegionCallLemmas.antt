-- A script's calls on its regions.
use Rattle.std.proofs.Common.{◌≡◌, ℕ, ◌≤◌, List, [], Some, None, is_some, refl, sym, ap, subst, ◌∙◌, arith, inl, inr}
use Rattle.std.specs.Prelude.{Ok, Err, Option}
use Rattle.std.proofs.lemmas.Option.{none-some}
use Rattle.std.specs.Option.{option_map, option_and_then, unwrap_or}
use Rattle.std.specs.FinMap.{get}
use Rattle.trade_base.specs.declared.id.DsId.{DsId}
use Rattle.trade_base.specs.declared.refusal.Refusal.{Refusal}
use Rattle.trade_base.specs.declared.refusal.Refusal.TheVariants.{InvalidCap}
use Rattle.own_model.specs.Call.{Call}
use Rattle.own_model.specs.Call.Call.{Attach, AttachAt, Detach}
use Rattle.own_model.specs.NatMap.{NatMap}
use Rattle.own_model.specs.OwnHeap.{OwnHeap}
use Rattle.own_model.specs.OwnState.{Object, named_bytes, pages_in}
use Rattle.own_model.specs.OwnState.Object.{Dataspace as ADataspace}
use Rattle.own_model.specs.OwnStep.{Outcome, refused, unless, attached_first, attached_at, with_region, region_detached, script_step}
use Rattle.own_model.specs.Region.{Region, user_low, user_high, first_gap, user_gap, attach_refusal, attach_at_refusal, detach_refusal, most_regions}
use Rattle.own_model.specs.Reply.Reply.{Attached, Done}
use Rattle.own_model.specs.Sound.{IsPages}
use Rattle.own_model.proofs.NatMapLemmas.{after_insert, before_remove}
use Rattle.own_model.proofs.RegionLemmas.{AreAlike, AreAlike-renamed, attach_refusal_alike, attach_at_refusal_alike, detach_refusal_alike, first_gap_alike, renamed-insert, renamed-remove}
use Rattle.cap_space.specs.Space.{Space, dataspace_of}
use Rattle.cap_space.specs.declared.cap.Cap.{Cap}
use Rattle.cap_space.specs.declared.cap.Cap.TheVariants.{Dataspace, RpcObject as AnRpcCap, Session, Buffer}
use Rattle.region_map.specs.Regions.{Regions, attached, detached}
use Rattle.dataspace_core.specs.Store.{Part, bytes_of}
use Rattle.pd_core.specs.Own.{Sessions, Lent, object_of, selector_of, regions_of, own_of, sized_at, key_at}
use Rattle.pd_core.specs.Sound.{buffer_at, AreNamed, IsScript}
use Rattle.pd_core.proofs.ScriptNameLemmas.{named_is}
use Rattle.pd_core.proofs.ScriptOwnLemmas.{all_sessions, before, object_is, has_bytes, remaps}
use Rattle.pd_core.proofs.ScriptSettleLemmas.{Settles}
use Rattle.pd_core.proofs.AccountLemmas.{refuses}

-- what a look-up finds is the dataspace of a capability that has bytes, with the pages of these
record IsSized (L : Lent) (p : Part) (o : Option Cap) (found : DsId × ℕ) : Type 0 where
  bytes : List ℕ
  key : key_at o ≡ Some found.0.0
  there : (sessions : Sessions) → named_bytes (option_and_then (object_of L sessions p) o) ≡ Some bytes
  pages : found.1 ≡ pages_in bytes

sized : (L : Lent) (p : Part) (o : Option Cap) (found : DsId × ℕ) → ((ds : DsId) → o ≡ Some (Dataspace ds) → get p.spaces ds.0 ≡ Some (bytes_of p ds.0)) → Ok found ≡ sized_at L p o → IsSized L p o found
sized L p None found has h = cc
sized L p (Some (Dataspace d)) found has h =
    let same : found ≡ (d, pages_in (bytes_of p d.0)) = cc in record {
      bytes = bytes_of p d.0;
      key = ap (λ (f : DsId × ℕ). Some f.0.0) (sym same);
      there = λ sessions. ap (λ o. named_bytes (option_map ADataspace o)) (has d refl);
      pages = ap (λ (f : DsId × ℕ). f.1) same;
    }
sized L p (Some AnRpcCap) found has h = cc
sized L p (Some (Buffer space session)) found has h =
    let same : found ≡ (space, pages_in (L space.0)) = cc in record {
      bytes = L space.0;
      key = ap (λ (f : DsId × ℕ). Some f.0.0) (sym same);
      there = λ sessions. refl;
      pages = ap (λ (f : DsId × ℕ). f.1) same;
    }
sized L p (Some (Session server session)) found has h = cc

-- what a look-up finds nothing for names no dataspace, nor a buffer
unsized : (L : Lent) (p : Part) (o : Option Cap) (refusal : Refusal) → Err refusal ≡ sized_at L p o → (refusal ≡ InvalidCap) × (dataspace_of o ≡ None) × (buffer_at o ≡ None)
unsized L p None refusal h = (cc, refl, refl)
unsized L p (Some (Dataspace d)) refusal h = cc
unsized L p (Some AnRpcCap) refusal h = (cc, refl, refl)
unsized L p (Some (Buffer space session)) refusal h = cc
unsized L p (Some (Session server session)) refusal h = (cc, refl, refl)

module _ {L : Lent} (p : Part) (space : Space) (regions : Regions) (heap : OwnHeap) (sliced : NatMap (List ℕ)) (sound : IsScript L p space regions heap sliced) where
  -- the own state's regions have the starts and pages of the map's
  alike : (sessions : Sessions) → AreAlike regions.user (before p space regions heap sliced sound sessions).regions
  unfolding own_of regions_of
  alike sessions = AreAlike-renamed (selector_of space.caps) regions.user sound.attached

  -- ---- attach

  module _ (s : ℕ) (refusal : Refusal) (none : Err refusal ≡ sized_at L p (get space.caps s)) where
    -- a call that attaches what has no bytes is refused
    unnamed : (sessions : Sessions) (step : Option (List ℕ) → Outcome) → step None ≡ refused (before p space regions heap sliced sound sessions) InvalidCap →
        refused (before p space regions heap sliced sound sessions) refusal ≡ step (named_bytes (get (before p space regions heap sliced sound sessions).selectors s))
    unnamed sessions step nothing =
        let b = before p space regions heap sliced sound sessions in
        let un = unsized L p (get space.caps s) refusal none in
        let by : Option Object → Outcome = λ o. step (named_bytes o) in
        ap (refused b) un.0 ∙ refuses L by b nothing nothing (λ session. nothing) sessions p (get space.caps s)
        (λ of session named. absurd (none-some (session.0, of.0) (sym un.2 ∙ ap buffer_at named))) un.1 ∙ ap by (sym (object_is p space regions heap sliced sound sessions s))

    -- so an attach is
    pub attach_unnamed : (sessions : Sessions) → refused (before p space regions heap sliced sound sessions) refusal ≡ script_step (Attach s) (before p space regions heap sliced sound sessions)
    attach_unnamed sessions = let b = before p space regions heap sliced sound sessions in unnamed sessions (λ o. attached_first s o b) refl

    -- and so is one at an address
    pub attach_at_unnamed : (address : ℕ) (sessions : Sessions) → refused (before p space regions heap sliced sound sessions) refusal ≡ script_step (AttachAt s address) (before p space regions heap sliced sound sessions)
    attach_at_unnamed address sessions = let b = before p space regions heap sliced sound sessions in unnamed sessions (λ o. attached_at s address o b) refl

  module _ (s : ℕ) (found : DsId × ℕ) (is : Ok found ≡ sized_at L p (get space.caps s)) where
    -- the dataspace and its pages
    abbrev ds : DsId
    ds = found.0

    abbrev pages : ℕ
    pages = found.1

    -- it has bytes
    at : IsSized L p (get space.caps s) found
    at = sized L p (get space.caps s) found (λ d names. has_bytes p space regions heap sliced sound s d names) is

    -- the selector names these
    named : (sessions : Sessions) → named_bytes (get (before p space regions heap sliced sound sessions).selectors s) ≡ Some at.bytes
    named sessions = ap named_bytes (object_is p space regions heap sliced sound sessions s) ∙ at.there sessions

    -- and they are pages, at least one
    pub some_pages : 1 ≤ pages
    some_pages =
        let whole : IsPages at.bytes = (sound.lawful all_sessions (λ q server session there. refl)).sound.whole s at.bytes (named all_sessions) in
        omega (arith, whole.some, at.pages)

    -- an attach does to the own state what it does to the map
    first_is : (sessions : Sessions) → script_step (Attach s) (before p space regions heap sliced sound sessions)
        ≡ unless (attach_refusal regions.most regions.user pages) (before p space regions heap sliced sound sessions)
        (with_region s pages (unwrap_or (first_gap user_low user_high regions.user pages) 0) (before p space regions heap sliced sound sessions))
    first_is sessions =
        let b = before p space regions heap sliced sound sessions in
        ap (λ x. attached_first s x b) (named sessions)
        ∙ ap (λ n. unless (attach_refusal most_regions b.regions n) b (with_region s n (user_gap b.regions n) b)) (sym at.pages)
        ∙ ap (λ r. unless r b (with_region s pages (user_gap b.regions pages) b))
        (sym (attach_refusal_alike regions.user b.regions (alike sessions) most_regions pages) ∙ ap (λ m. attach_refusal m regions.user pages) (sym sound.most))
        ∙ ap (λ o. unless (attach_refusal regions.most regions.user pages) b (with_region s pages (unwrap_or o 0) b)) (sym (first_gap_alike regions.user b.regions (alike sessions) user_low user_high pages))

    -- so does one at an address
    place_is : (address : ℕ) (sessions : Sessions) → script_step (AttachAt s address) (before p space regions heap sliced sound sessions)
        ≡ unless (attach_at_refusal regions.most regions.user pages address) (before p space regions heap sliced sound sessions) (with_region s pages address (before p space regions heap sliced sound sessions))
    place_is address sessions =
        let b = before p space regions heap sliced sound sessions in
        ap (λ x. attached_at s address x b) (named sessions)
        ∙ ap (λ n. unless (attach_at_refusal most_regions b.regions n address) b (with_region s n address b)) (sym at.pages)
        ∙ ap (λ r. unless r b (with_region s pages address b))
        (sym (attach_at_refusal_alike regions.user b.regions (alike sessions) most_regions pages address) ∙ ap (λ m. attach_at_refusal m regions.user pages address) (sym sound.most))

    -- what the map refuses, the attach is refused
    pub attach_refused : (refusal : Refusal) → Some refusal ≡ attach_refusal regions.most regions.user pages → (sessions : Sessions) → refused (before p space regions heap sliced sound sessions) refusal ≡ script_step (Attach s) (before p space regions heap sliced sound sessions)
    attach_refused refusal is sessions = let b = before p space regions heap sliced sound sessions in ap (λ r. unless r b (with_region s pages (unwrap_or (first_gap user_low user_high regions.user pages) 0) b)) is ∙ sym (first_is sessions)

    -- and one at an address
    pub attach_at_refused : (address : ℕ) (refusal : Refusal) → Some refusal ≡ attach_at_refusal regions.most regions.user pages address →
        (sessions : Sessions) → refused (before p space regions heap sliced sound sessions) refusal ≡ script_step (AttachAt s address) (before p space regions heap sliced sound sessions)
    attach_at_refused address refusal is sessions = let b = before p space regions heap sliced sound sessions in ap (λ r. unless r b (with_region s pages address b)) is ∙ sym (place_is address sessions)

    -- a region more is named too
    attached_more : (address : ℕ) → AreNamed space.caps (attached regions ds.0 pages address).user
    attached_more address start region there = elim (after_insert regions.user address (record { of = ds.0; pages = pages }) start region there) [
      | inl here ↦ ap (λ (r : Region). is_some (selector_of space.caps r.of)) here.1 ∙ ap is_some (named_is space.caps sound.named.one s ds.0 at.key)
      | inr old ↦ sound.attached start region old.1
    ]

    -- a call that attaches the pages settles
    attaches : (call : Call) (address : ℕ) → ((sessions : Sessions) → script_step call (before p space regions heap sliced sound sessions) ≡ with_region s pages address (before p space regions heap sliced sound sessions)) →
        Settles L call p space regions heap sliced (Attached address) p space (attached regions ds.0 pages address)
    unfolding own_of regions_of
    attaches call address is =
        let more = renamed-insert (selector_of space.caps) regions.user address ds.0 pages s (named_is space.caps sound.named.one s ds.0 at.key) in
        remaps p space regions heap sliced sound call (attached regions ds.0 pages address) (Attached address) refl (record { heap = refl; tags = refl; most = refl; pages = refl }) (attached_more address)
        (λ sessions ready. (λ i. record { reply = Attached address; lines = []; next = record (before p space regions heap sliced sound sessions) { regions = more i } }) ∙ sym (is sessions))

    -- an attach settles
    pub attach_settles : (address : ℕ) → None ≡ attach_refusal regions.most regions.user pages → first_gap user_low user_high regions.user pages ≡ Some address →
        Settles L (Attach s) p space regions heap sliced (Attached address) p space (attached regions ds.0 pages address)
    attach_settles address accepted gap =
        attaches (Attach s) address (λ sessions. let b = before p space regions heap sliced sound sessions in
        first_is sessions ∙ ap (λ r. unless r b (with_region s pages (unwrap_or (first_gap user_low user_high regions.user pages) 0) b)) (sym accepted)
        ∙ ap (λ o. with_region s pages (unwrap_or o 0) b) gap)

    -- so does one at an address
    pub attach_at_settles : (address told : ℕ) → told ≡ address → None ≡ attach_at_refusal regions.most regions.user pages address →
        Settles L (AttachAt s address) p space regions heap sliced (Attached told) p space (attached regions ds.0 pages address)
    attach_at_settles address told same accepted =
        subst (λ a. Settles L (AttachAt s address) p space regions heap sliced (Attached a) p space (attached regions ds.0 pages address)) (sym same)
        (attaches (AttachAt s address) address (λ sessions. let b = before p space regions heap sliced sound sessions in place_is address sessions ∙ ap (λ r. unless r b (with_region s pages address b)) (sym accepted)))

  -- ---- detach

  module _ (address : ℕ) where
    -- a detach does to the own state what it does to the map
    detach_is : (sessions : Sessions) → script_step (Detach address) (before p space regions heap sliced sound sessions) ≡ unless (detach_refusal regions.user address) (before p space regions heap sliced sound sessions) (region_detached address (before p space regions heap sliced sound sessions))
    detach_is sessions = let b = before p space regions heap sliced sound sessions in ap (λ r. unless r b (region_detached address b)) (sym (detach_refusal_alike regions.user b.regions (alike sessions) address))

    -- what the map refuses, the detach is refused
    pub detach_refused : (refusal : Refusal) → Some refusal ≡ detach_refusal regions.user address → (sessions : Sessions) → refused (before p space regions heap sliced sound sessions) refusal ≡ script_step (Detach address) (before p space regions heap sliced sound sessions)
    detach_refused refusal is sessions = let b = before p space regions heap sliced sound sessions in ap (λ r. unless r b (region_detached address b)) is ∙ sym (detach_is sessions)

    -- a detach settles
    pub detach_settles : None ≡ detach_refusal regions.user address → Settles L (Detach address) p space regions heap sliced Done p space (detached regions address)
    unfolding own_of regions_of
    detach_settles accepted =
        let less = renamed-remove (selector_of space.caps) regions.user address in
        remaps p space regions heap sliced sound (Detach address) (detached regions address) Done refl (record { heap = refl; tags = refl; most = refl; pages = refl })
        (λ start region there. sound.attached start region (before_remove regions.user address start region there))
        (λ sessions ready. let b = before p space regions heap sliced sound sessions in
        (λ i. record { reply = Done; lines = []; next = record b { regions = less i } }) ∙ sym (detach_is sessions ∙ ap (λ r. unless r b (region_detached address b)) (sym accepted)))
