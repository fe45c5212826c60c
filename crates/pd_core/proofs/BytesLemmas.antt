-- A script's peeks and pokes.
use Rattle.std.proofs.Common.{◌≡◌, ℕ, ◌+◌, ◌≤◌, List, [], length, Option, Some, None, is_some, IsSome, subst, refl, sym, ap, ◌∙◌, slice_range, arith}
use Rattle.std.specs.Option.{option_map, option_and_then, option_or}
use Rattle.std.proofs.lemmas.Option.{same_Some}
use Rattle.std.specs.Prelude.{◌||◌, if◌then◌else◌}
use Rattle.std.proofs.lemmas.Bool.Decides.{nat_tests}
use Rattle.std.specs.FinMap.{get, insert}
use Rattle.trade_base.specs.declared.refusal.Refusal.{Refusal}
use Rattle.trade_base.specs.declared.refusal.Refusal.TheVariants.{PageFault}
use Rattle.trade_base.specs.Bytes.{with_bytes}
use Rattle.own_model.specs.Call.Call.{Peek, Poke}
use Rattle.own_model.specs.OwnState.Object.{Dataspace as ADataspace}
use Rattle.own_model.specs.OwnStep.{Outcome, refused, unless, count_refusal, most_bytes, peeked, poked, script_step}
use Rattle.own_model.specs.NatMap.{NatMap}
use Rattle.own_model.specs.OwnHeap.{OwnHeap}
use Rattle.own_model.specs.OwnState.{OwnState, Object, named_bytes, object_with, with_part}
use Rattle.own_model.specs.Place.{Place, in_dataspace, in_payload, in_block, found}
use Rattle.own_model.specs.Sliced.{block_found}
use Rattle.own_model.specs.Region.{resolved}
use Rattle.own_model.specs.Reply.Reply.{Bytes, Done}
use Rattle.own_model.proofs.StepBytesLemmas.{peeks, pokes}
use Rattle.own_model.proofs.RegionRangeLemmas.{range_fits, with_part-within}
use Rattle.own_model.proofs.RegionLemmas.{resolved_renamed, resolved_facts}
use Rattle.own_model.proofs.NatMapLemmas.{some_of}
use Rattle.cap_space.specs.Space.{Space}
use Rattle.region_map.specs.Regions.{Regions}
use Rattle.dataspace_core.specs.Store.{Part, bytes_of, part_with_bytes}
use Rattle.pd_core.specs.Own.{Sessions, selector_of, regions_of, own_of, range_refusal, Lent}
use Rattle.pd_core.specs.Sound.{IsScript}
use Rattle.pd_core.proofs.ScriptNameLemmas.{Names, IsOwn, is_named}
use Rattle.pd_core.proofs.ScriptOwnLemmas.{all_sessions, before, names_object, rewrites}
use Rattle.pd_core.proofs.ScriptSettleLemmas.{Settles}

-- what refuses a range refuses a call that looks at the count and then at what is found
ranges_refused : (b : OwnState) (step : Option Place → Outcome) (rename : ℕ × ℕ → Option (ℕ × ℕ)) → step None ≡ refused b PageFault → (refusal : Refusal) (count : Option Refusal) (region sliced block : Option (ℕ × ℕ)) →
    Some refusal ≡ option_or count (if is_some region || is_some sliced || is_some block then None else Some PageFault) →
    refused b refusal ≡ unless count b (step (option_or (option_map in_dataspace (option_and_then rename region)) (option_or (option_map in_payload sliced) (option_map in_block block))))
ranges_refused b step rename fault refusal (Some r) region sliced block is = let e : refusal ≡ r = cc in ap (refused b) e
ranges_refused b step rename fault refusal None None None None is = let e : refusal ≡ PageFault = cc in ap (refused b) e ∙ sym fault
ranges_refused b step rename fault refusal None None None (Some z) is = cc
ranges_refused b step rename fault refusal None None (Some y) block is = cc
ranges_refused b step rename fault refusal None (Some x) sliced block is = cc

-- a count that isn't refused
counted : (count other : Option Refusal) → None ≡ option_or count other → count ≡ None
counted None other is = refl
counted (Some r) other is = cc

-- it is within the most
count_within : (count : ℕ) → count_refusal count ≡ None → count ≤ most_bytes
count_within count h = grind (arith, nat_tests)

module _ {L : Lent} (p : Part) (space : Space) (regions : Regions) (heap : OwnHeap) (sliced : NatMap (List ℕ)) (sound : IsScript L p space regions heap sliced) (address count : ℕ) where
  -- the own state before a call
  abbrev own : Sessions → OwnState
  own = before p space regions heap sliced sound

  -- it finds a range where the map does, by the selector in place of the key
  pub renamed_is : (sessions : Sessions) → resolved (own sessions).regions address count
      ≡ option_and_then (λ (x : ℕ × ℕ). option_map (λ other. (other, x.1)) (selector_of space.caps x.0)) (resolved regions.user address count)
  unfolding own_of regions_of
  renamed_is sessions = resolved_renamed (selector_of space.caps) regions.user sound.attached address count

  module _ (refusal : Refusal) (is : Some refusal ≡ range_refusal regions.user sliced heap address count) (sessions : Sessions) where
    -- a call that looks for the range is refused as the range is
    range_refused : (step : Option Place → Outcome) → step None ≡ refused (own sessions) PageFault →
        refused (own sessions) refusal ≡ unless (count_refusal count) (own sessions) (step (found (own sessions) address count))
    unfolding own_of
    range_refused step fault =
        let b = own sessions in
        let payload = option_or (option_map in_payload (block_found sliced address count)) (option_map in_block (block_found heap.payloads address count)) in
        ranges_refused b step _ fault refusal (count_refusal count) (resolved regions.user address count) (block_found sliced address count) (block_found heap.payloads address count) is
        ∙ ap (λ o. unless (count_refusal count) b (step (option_or (option_map in_dataspace o) payload))) (sym (renamed_is sessions))

    -- so a peek is
    pub peek_refused : refused (own sessions) refusal ≡ script_step (Peek address count) (own sessions)
    peek_refused = range_refused (λ o. peeked count o (own sessions)) refl

    -- and so is a poke
    pub poke_refused : (bytes : List ℕ) → count ≡ length bytes → refused (own sessions) refusal ≡ script_step (Poke address bytes) (own sessions)
    poke_refused bytes size =
        let b = own sessions in
        range_refused (λ o. poked bytes o b) refl ∙ ap (λ n. unless (count_refusal n) b (poked bytes (found b address n) b)) size

  module _ (accepted : None ≡ range_refusal regions.user sliced heap address count) where
    -- the range is of as many bytes as can be
    pub few : count_refusal count ≡ None
    few = counted _ _ accepted

    -- 1,024 at most
    pub few_bytes : count ≤ most_bytes
    few_bytes = count_within count few

  module _ (key offset : ℕ) (some : count_refusal count ≡ None) (at : resolved regions.user address count ≡ Some (key, offset)) where
    -- a selector names the dataspace that is found
    abbrev pub selector : (s : ℕ) × (selector_of space.caps key ≡ Some s)
    selector =
        let facts = resolved_facts regions.user address count key offset at in
        some_of (selector_of space.caps key) (subst (λ k. IsSome (selector_of space.caps k)) facts.3 (sound.attached facts.0.0 facts.0.1 facts.2))

    -- it names the dataspace under the key
    pub names : Names space.caps selector.0 key
    names = is_named space.caps key selector.0 selector.1

    -- the own state finds the range under that selector, at the same offset
    pub own_found : (sessions : Sessions) → resolved (own sessions).regions address count ≡ Some (selector.0, offset)
    own_found sessions =
        renamed_is sessions ∙ ap (option_and_then (λ (x : ℕ × ℕ). option_map (λ other. (other, x.1)) (selector_of space.caps x.0))) at
        ∙ ap (option_map (λ other. (other, offset))) selector.1

    module _ (bytes : List ℕ) (has : (sessions : Sessions) → named_bytes (get (own sessions).selectors selector.0) ≡ Some bytes) where
      -- the range lies within the bytes that the selector names
      pub fits : offset + count ≤ length bytes
      fits =
          let law = (sound.lawful all_sessions (λ q server session there. refl)).sound in
          let range = range_fits (own all_sessions) address count selector.0 offset law (own_found all_sessions) in
          subst (λ (l : List ℕ). offset + count ≤ length l) (same_Some range.0 bytes (sym range.1 ∙ has all_sessions)) range.2

      -- a peek tells these
      pub peek_is : (sessions : Sessions) → record { reply = Bytes (slice_range bytes offset (offset + count)); lines = []; next = own sessions } ≡ script_step (Peek address count) (own sessions)
      peek_is sessions = sym (peeks (own sessions) address count selector.0 offset bytes some (own_found sessions) (has sessions))

      -- a poke puts its bytes over those of what the selector names
      pub poke_is : (put : List ℕ) (object : Object) (sessions : Sessions) → count ≡ length put → get (own sessions).selectors selector.0 ≡ Some object →
          script_step (Poke address put) (own sessions) ≡ record { reply = Done; lines = []; next = record (own sessions) { selectors = insert (own sessions).selectors selector.0 (object_with object offset put) } }
      poke_is put object sessions size there =
          pokes (own sessions) address selector.0 offset put object (ap count_refusal (sym size) ∙ some) (ap (resolved (own sessions).regions address) (sym size) ∙ own_found sessions) there

      -- which are within them
      pub put_over : (put : List ℕ) → count ≡ length put → with_part bytes offset put ≡ with_bytes bytes offset put
      put_over put size = with_part-within bytes offset put (subst (λ n. offset + n ≤ length bytes) size fits)

    -- a poke over bytes of the script's own settles
    pub poke_settles : (put : List ℕ) → count ≡ length put → (its : IsOwn (get space.caps selector.0) key) → Settles L (Poke address put) p space regions heap sliced Done (part_with_bytes p key offset put) space regions
    poke_settles put size its =
        let ds = its.ds in
        let object = λ (sessions : Sessions). names_object p space regions heap sliced sound sessions selector.0 ds its.is in
        let has = λ (sessions : Sessions). ap named_bytes (object sessions) in
        subst (λ k. Settles L (Poke address put) p space regions heap sliced Done (part_with_bytes p k offset put) space regions) its.key_is
        (rewrites p space regions heap sliced sound (Poke address put) ds selector.0 _ its.is
        (λ sessions.
        let b = own sessions in
        poke_is (bytes_of p ds.0) has put (ADataspace (bytes_of p ds.0)) sessions size (object sessions)
        ∙ ap (λ l. record { reply = Done; lines = []; next = record b { selectors = insert b.selectors selector.0 (ADataspace l) } }) (put_over (bytes_of p ds.0) has put size)))
