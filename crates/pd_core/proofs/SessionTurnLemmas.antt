-- What calls of a session make of its client: a buffer comes or goes, or the session goes with its buffer.
use Rattle.std.proofs.Common.{◌≡◌, ◌≢◌, ℕ, ◌+◌, Some, refl, sym, ap, ◌∙◌, arith}
use Rattle.std.proofs.lemmas.Option.{none-some}
use Rattle.std.specs.Prelude.{Option, None}
use Rattle.std.specs.FinMap.{get, len, remove}
use Rattle.trade_base.specs.declared.id.DsId.{DsId}
use Rattle.trade_base.specs.declared.id.Selector.{Selector}
use Rattle.trade_base.specs.declared.id.SessionId.{SessionId}
use Rattle.own_model.specs.NatMap.{NatMap, total}
use Rattle.own_model.specs.Region.{Region}
use Rattle.own_model.proofs.NatMapLemmas.{get-insert_same, get-insert_other, get-remove_same, get-remove_other}
use Rattle.own_model.proofs.Totals.{len-insert_new, len-remove_at, total-insert_new, total-remove}
use Rattle.cap_space.specs.Space.{with_cap, without_cap}
use Rattle.cap_space.specs.declared.cap.Cap.{Cap}
use Rattle.cap_space.specs.declared.cap.Cap.TheVariants.{Session, Buffer}
use Rattle.region_map.specs.Regions.{all_detached}
use Rattle.pd_core.specs.Own.{key_at}
use Rattle.pd_core.specs.Sessions.{IsLentAt}
use Rattle.pd_core.specs.Sound.{rpc_weight, session_weight, lent_weight, buffer_at, IsOne}
use Rattle.pd_core.specs.declared.script.Script.{Script}
use Rattle.pd_core.proofs.LentLemmas.{buffer_is}
use Rattle.pd_core.proofs.ScriptNameLemmas.{Names}
use Rattle.pd_core.proofs.SessionOwnLemmas.{TurnsTables, regions_after, regions_same, lent_names}

-- a script after a call of a session under a selector: its account, its heaps and its places stay; two selectors change, and the
-- regions of what was lent, and as many sessions and buffers come or go as selectors
pub record Turns (before after : Script) (q k : ℕ) (lent lent' : Option ℕ) : Type 0 where
  pub is : after ≡ record before { caps = after.caps; regions = record before.regions { user = after.regions.user } }
  pub places : after.caps.places ≡ before.caps.places
  pub tables : TurnsTables before.caps.caps after.caps.caps before.regions.user after.regions.user q k lent lent'
  pub sessions : len after.caps.caps + total session_weight before.caps.caps ≡ len before.caps.caps + total session_weight after.caps.caps
  pub rpcs : total rpc_weight after.caps.caps ≡ total rpc_weight before.caps.caps

-- ---- what goes out of capabilities

-- a capability that is no RPC object, and that a session's account pays for
pub record IsSessions (cap : Cap) : Type 0 where
  pub counts : session_weight cap ≡ 1
  pub no_rpc : rpc_weight cap ≡ 0

-- a session is one, and so is a buffer
session_counts : (server : ℕ) (session : SessionId) → IsSessions (Session server session)
session_counts server session = record { counts = refl; no_rpc = refl }

buffer_counts : (space : DsId) (session : Selector) → IsSessions (Buffer space session)
buffer_counts space session = record { counts = refl; no_rpc = refl }

-- what is lent is under a selector of such a one
lent_counts : {caps : NatMap Cap} {q k key : ℕ} → IsLentAt caps q k (Some key) → (cap : Cap) × (get caps k ≡ Some cap) × IsSessions cap
lent_counts {caps = caps} {q = q} {k = k} {key = key} at =
    let its = buffer_is (get caps k) q key at.has in (Buffer its.0 its.1, its.2, buffer_counts its.0 its.1)

-- it goes, and the numbers with it
pub record Removes (caps : NatMap Cap) (s : ℕ) : Type 0 where
  pub sessions : len (remove caps s) + total session_weight caps ≡ len caps + total session_weight (remove caps s)
  pub fewer : total session_weight (remove caps s) + 1 ≡ total session_weight caps
  pub rpcs : total rpc_weight (remove caps s) ≡ total rpc_weight caps

removes : (caps : NatMap Cap) (s : ℕ) (cap : Cap) → get caps s ≡ Some cap → IsSessions cap → Removes caps s
removes caps s cap there its =
    let shorter = len-remove_at caps s cap there in
    let weights = total-remove session_weight caps s cap there in
    let rpcs = total-remove rpc_weight caps s cap there in
    record { sessions = omega (arith, shorter, weights); fewer = omega (arith, weights, its.counts); rpcs = omega (arith, rpcs, its.no_rpc) }

-- ---- a script with a session under a selector

module _ (script : Script) (q k server : ℕ) (session : SessionId) (has : get script.caps.caps q ≡ Some (Session server session)) where
  abbrev caps : NatMap Cap
  caps = script.caps.caps

  no_space : key_at (get script.caps.caps q) ≡ None
  no_space = ap key_at has

  -- what it lends has another selector
  pub apart_lent : (lent : Option ℕ) → IsLentAt script.caps.caps q k lent → q ≢ k
  apart_lent None at e = none-some (Session server session) (sym (at.free refl) ∙ ap (get caps) (sym e) ∙ has)
  apart_lent (Some key) at e = none-some (q, key) (sym (ap buffer_at has) ∙ ap (λ n. buffer_at (get caps n)) e ∙ at.has)

  -- nothing changes
  pub turns_same : (lent : Option ℕ) → IsLentAt script.caps.caps q k lent → IsOne script.caps.caps → Turns script script q k lent lent
  turns_same lent at one = record {
    is = refl;
    places = refl;
    tables = record {
      others = λ s _ _. refl;
      no_spaces = record { before = no_space; after = no_space };
      before = at;
      after = at;
      kept = λ a b _ _. refl;
      fresh = λ s key is apart names. apart (one s k key names (lent_names lent at ∙ is));
      regions = sym (regions_same lent script.regions.user);
    };
    sessions = refl;
    rpcs = refl;
  }

  -- where nothing is lent afterwards
  none_lent : (lent : Option ℕ) (after : NatMap Cap) (user : NatMap Region) → IsLentAt script.caps.caps q k lent → ((s : ℕ) → s ≢ q → s ≢ k → get after s ≡ get script.caps.caps s) →
      key_at (get after q) ≡ None → get after k ≡ None → user ≡ regions_after lent None script.regions.user → TurnsTables script.caps.caps after script.regions.user user q k lent None
  none_lent lent after user at others no_after none regions = record {
    others = others;
    no_spaces = record { before = no_space; after = no_after };
    before = at;
    after = record { has = ap buffer_at none; free = λ _. none };
    kept = λ a b _ is. absurd (none-some b is);
    fresh = λ s other is. absurd (none-some other is);
    regions = regions;
  }

  -- a buffer comes, in a dataspace that no selector named
  module _ (space : DsId) (by : Selector) (of : by.0 ≡ q) (at : IsLentAt script.caps.caps q k None) where
    abbrev pub lent_script : Script
    lent_script = record script { caps = with_cap script.caps k (Buffer space by) }

    made_at : IsLentAt lent_script.caps.caps q k (Some space.0)
    made_at = record { has = ap buffer_at (get-insert_same caps k (Buffer space by) k refl) ∙ ap (λ n. Some (n, space.0)) of; free = λ none. absurd (none-some space.0 (sym none)) }

    -- the session stays
    pub still_has : get lent_script.caps.caps q ≡ Some (Session server session)
    still_has = get-insert_other caps k (Buffer space by) q (apart_lent None at) ∙ has

    pub turns_made : ((s : ℕ) → s ≢ k → Names script.caps.caps s space.0 → ⊥) → Turns script lent_script q k None (Some space.0)
    turns_made fresh =
        let free = at.free refl in
        let longer = len-insert_new caps k (Buffer space by) free in
        let weights = total-insert_new session_weight caps k (Buffer space by) free in
        let rpcs = total-insert_new rpc_weight caps k (Buffer space by) free in
        record {
          is = refl;
          places = refl;
          tables = record {
            others = λ s _ apart. get-insert_other caps k (Buffer space by) s apart;
            no_spaces = record { before = no_space; after = ap key_at still_has };
            before = at;
            after = made_at;
            kept = λ a b is. absurd (none-some a is);
            fresh = λ s key is apart names. fresh s apart (names ∙ sym is);
            regions = refl;
          };
          sessions = omega (arith, longer, weights);
          rpcs = omega (arith, rpcs);
        }

    -- it is one more that a session's account pays for
    pub one_more : total session_weight lent_script.caps.caps ≡ total session_weight script.caps.caps + 1
    one_more = total-insert_new session_weight caps k (Buffer space by) (at.free refl)

  -- a buffer goes, with its regions
  module _ (key : ℕ) (at : IsLentAt script.caps.caps q k (Some key)) where
    abbrev pub given_script : Script
    given_script = record script { caps = without_cap script.caps k; regions = all_detached script.regions key }

    its : (cap : Cap) × (get script.caps.caps k ≡ Some cap) × IsSessions cap
    its = lent_counts at

    gone_at : get (remove script.caps.caps k) k ≡ None
    gone_at = get-remove_same caps k k refl

    pub kept_has : get (remove script.caps.caps k) q ≡ Some (Session server session)
    kept_has = get-remove_other caps k q (apart_lent (Some key) at) ∙ has

    pub given_removes : Removes script.caps.caps k
    given_removes = removes caps k its.0 its.1 its.2

    pub turns_given : Turns script given_script q k (Some key) None
    turns_given = record {
      is = refl;
      places = refl;
      tables = none_lent (Some key) given_script.caps.caps given_script.regions.user at (λ s _ apart. get-remove_other caps k s apart) (ap key_at kept_has) gone_at refl;
      sessions = given_removes.sessions;
      rpcs = given_removes.rpcs;
    }

  -- ---- the session goes

  gone : get (remove script.caps.caps q) q ≡ None
  gone = get-remove_same caps q q refl

  closes : Removes script.caps.caps q
  closes = removes caps q (Session server session) has (session_counts server session)

  -- alone
  module _ (at : IsLentAt script.caps.caps q k None) where
    abbrev pub closed_script : Script
    closed_script = record script { caps = without_cap script.caps q }

    free_still : get (remove script.caps.caps q) k ≡ None
    free_still = get-remove_other caps q k (λ e. apart_lent None at (sym e)) ∙ at.free refl

    pub turns_closed : Turns script closed_script q k None None
    turns_closed = record {
      is = refl;
      places = refl;
      tables = none_lent None closed_script.caps.caps closed_script.regions.user at (λ s apart _. get-remove_other caps q s apart) (ap key_at gone) free_still refl;
      sessions = closes.sessions;
      rpcs = closes.rpcs;
    }

    pub closed_fewer : total session_weight closed_script.caps.caps + 1 + lent_weight None ≡ total session_weight script.caps.caps
    closed_fewer = omega (arith, closes.fewer)

    pub closed_gone : get closed_script.caps.caps q ≡ None
    closed_gone = gone

  -- or with its buffer
  module _ (key : ℕ) (at : IsLentAt script.caps.caps q k (Some key)) where
    abbrev pub ended_script : Script
    ended_script = record script { caps = without_cap (without_cap script.caps q) k; regions = all_detached script.regions key }

    -- which is there still when the session has gone
    pub beside_gone : get (remove script.caps.caps q) k ≡ get script.caps.caps k
    beside_gone = get-remove_other caps q k (λ e. apart_lent (Some key) at (sym e))

    its_cap : (cap : Cap) × (get script.caps.caps k ≡ Some cap) × IsSessions cap
    its_cap = lent_counts at

    last : Removes (remove script.caps.caps q) k
    last = removes (remove caps q) k its_cap.0 (beside_gone ∙ its_cap.1) its_cap.2

    pub ended_gone : get (remove (remove script.caps.caps q) k) q ≡ None
    ended_gone = get-remove_other (remove caps q) k q (apart_lent (Some key) at) ∙ gone

    none_at : get (remove (remove script.caps.caps q) k) k ≡ None
    none_at = get-remove_same (remove caps q) k k refl

    pub turns_ended : Turns script ended_script q k (Some key) None
    turns_ended = record {
      is = refl;
      places = refl;
      tables = none_lent (Some key) ended_script.caps.caps ended_script.regions.user at (λ s apart beside. get-remove_other (remove caps q) k s beside ∙ get-remove_other caps q s apart) (ap key_at ended_gone) none_at refl;
      sessions = let first = closes.sessions in omega (arith, first, last.sessions);
      rpcs = last.rpcs ∙ closes.rpcs;
    }

    pub ended_fewer : total session_weight ended_script.caps.caps + 1 + lent_weight (Some key) ≡ total session_weight script.caps.caps
    ended_fewer = let first = closes.fewer in omega (arith, first, last.fewer)
