-- The calls of a reserve go as the model's.
use Rattle.std.proofs.Common.{◌≡◌, ◌≢◌, ℕ, ◌+◌, ◌<◌, ◌≤◌, is_some, List, [], Some, None, length, get_or, false, refl, sym, ap, subst, ◌∙◌, arith}
use Rattle.std.specs.FinMap.{get}
use Rattle.trade_base.specs.declared.refusal.Refusal.{Refusal}
use Rattle.trade_base.specs.declared.refusal.Refusal.TheVariants.{BadArgs}
use Rattle.own_model.specs.Account.{Account, WithinLimits, shortage, parted_with}
use Rattle.own_model.specs.Amounts.{Amounts}
use Rattle.own_model.specs.Call.{Call, is_exit}
use Rattle.own_model.specs.Call.Call.{Reserve, Request, Yield}
use Rattle.own_model.specs.Donation.{raised}
use Rattle.own_model.specs.NatMap.{total}
use Rattle.own_model.specs.OwnState.{OwnState}
use Rattle.own_model.specs.OwnStep.{Outcome, own_step, entry_step, refused, unless, reported_reserve, requested_by, reserve_requested, yielded_by, reserve_yielded}
use Rattle.own_model.specs.Reply.{reply_text}
use Rattle.own_model.specs.Reply.Reply.{Done, Refused, Reserved}
use Rattle.own_model.specs.Reserve.{reserve_account, filled, drawn}
use Rattle.own_model.specs.SessionArgs.{Arguments, arguments_of}
use Rattle.own_model.proofs.StepLemmas.{covers}
use Rattle.dataspace_core.specs.Store.{Store, part, account_of, account_in, opened_part, parted_part, raised_part, parents_in, ram_limits_in, caps_limits_in, IsChildIn, IsOpenIn, AreSiblingsIn, ShiftsPart}
use Rattle.dataspace_core.proofs.PartLaws.{account_of-part}
use Rattle.dataspace_core.proofs.RoomLaws.{room_is_shifted}
use Rattle.pd_core.specs.Answer.{told_alone}
use Rattle.core_calls.specs.Quotas.{reserve_amounts}
use Rattle.core_calls.specs.declared.reserve.Reserve.{Reserve as ReserveTold}
use Rattle.pd_core.specs.Component.{Pays, amounts_in, with_reserve, payer_in, reserve_in, kind_of, entry_of, caps_in, own_in, own, IsSoundRole}
use Rattle.pd_core.specs.Core.{Places, Roles, roles_of, sessions_in, IsBelowHead, IsCore}
use Rattle.pd_core.specs.Core.Owner.{Place, ReserveAt}
use Rattle.pd_core.specs.Own.{Sessions, HasSessions, own_of, own_at, part_at}
use Rattle.pd_core.specs.SessionCalls.{Goes}
use Rattle.pd_core.specs.Sound.{session_weight, IsSoundScript}
use Rattle.pd_core.specs.ReserveDirection.{call_by, giver, taker}
use Rattle.pd_core.specs.declared.component.Component.{Component}
use Rattle.pd_core.specs.declared.component.Role.TheVariants.{Script as AScript}
use Rattle.pd_core.specs.declared.reserves.ReserveDirection.{ReserveDirection}
use Rattle.pd_core.specs.declared.reserves.ReserveDirection.TheVariants.{FromReserve, ToReserve}
use Rattle.pd_core.specs.declared.script.Script.{Script}
use Rattle.pd_core.proofs.ScriptCostLemmas.{placed_with_reserve}
use Rattle.pd_core.proofs.CoreHeldLemmas.{names_open, no_reserve_place, owned_open, place_outer, reserve_outer}
use Rattle.pd_core.proofs.SessionOwnLemmas.{is_step}
use Rattle.pd_core.proofs.ReserveShiftLemmas.{Shifts, UsesAsMuch, own_shifted, sessions_same, inits_rest, shift_change}
use Rattle.pd_core.proofs.CoreWorldLemmas.{goes, refused_goes, stays_goes, role_at, same_inits}

module _ (places : Places) {store : Store} (components : List Component) {i : ℕ} (d : Component) (core : IsCore store components) (here : i < length components) (script : Script) (is : (get_or components i d).role ≡ AScript script) where
  abbrev caller : Component
  caller = get_or components i d

  abbrev roles : Roles
  roles = roles_of components

  abbrev S : Sessions
  S = sessions_in store roles

  abbrev payer : ℕ
  payer = script.account.0

  abbrev kept : ℕ
  kept = script.reserve.0

  is_script : roles_of components i ≡ AScript script
  is_script = role_at components i d here ∙ is

  -- what it has in reserve, and its own state
  abbrev has : Amounts
  has = amounts_in (part script.reserve.0 store)

  abbrev before : OwnState
  before = own_in (sessions_in store (roles_of components)) store (AScript script)

  sound : IsSoundScript store script
  sound = subst (IsSoundRole store) is_script (core.sound i)

  -- it isn't turned away
  steps : (call : Call) → own_step (entry_of (places i) (get_or components i d)) call (own_in (sessions_in store (roles_of components)) store (AScript script))
      ≡ entry_step (entry_of (places i) (get_or components i d)) call (own_in (sessions_in store (roles_of components)) store (AScript script))
  unfolding own_of
  steps call = is_step (entry_of (places i) (get_or components i d)) call (own_in (sessions_in store (roles_of components)) store (AScript script)) (ap kind_of is) refl

  refused_call : (call : Call) (refusal : Refusal) → entry_step (entry_of (places i) (get_or components i d)) call (own_in (sessions_in store (roles_of components)) store (AScript script))
      ≡ refused (own_in (sessions_in store (roles_of components)) store (AScript script)) refusal → Goes places call i (told_alone (reply_text (Refused refusal))) store components store components
  refused_call call refusal why =
      refused_goes places components i d call refusal core here
      (subst (λ r. own_step (entry_of (places i) (get_or components i d)) call (own_in S store r) ≡ refused (own_in S store r) refusal) (sym is) (steps call ∙ why))

  -- ---- it is told

  pub told_goes : (told : ReserveTold) → reserve_amounts told ≡ (own (sessions_in store (roles_of components)) store (get_or components i d)).reserve →
      Goes places Reserve i (told_alone (reply_text (Reserved (reserve_amounts told)))) store components store components
  told_goes told same =
      stays_goes places components i d Reserve (reported_reserve before) core here (ap (λ r. own_step (entry_of (places i) (get_or components i d)) Reserve (own_in S store r)) is ∙ steps Reserve)
      (told_alone (reply_text (Reserved (reserve_amounts told)))) (ap (λ m. reply_text (Reserved m)) (same ∙ ap (λ r. (own_in S store r).reserve) is)) refl (ap (own_in S store) (sym is))

  -- ---- both accounts

  has_reserve : reserve_in (roles_of components i) ≡ Some script.reserve.0
  has_reserve = ap reserve_in is_script

  pays : Pays (roles_of components i) script.account.0
  pays = subst (λ r. Pays r script.account.0) (sym is_script) refl

  apart : payer ≢ kept
  apart e = no_reserve_place i i (core.apart (Place i) (ReserveAt i) kept (subst (Pays (roles i)) e pays) has_reserve)

  -- are below one head
  home : IsBelowHead store core.heads script.account.0
  home = core.children i payer pays

  kept_child : IsChildIn store kept home.head
  kept_child = (core.reserved i kept has_reserve).beside ∙ ap (λ r. get (parents_in store) (payer_in r)) is_script ∙ home.child

  payer_open : IsOpenIn store payer
  payer_open = owned_open core (Place i) payer pays

  kept_open : IsOpenIn store kept
  kept_open = owned_open core (ReserveAt i) kept has_reserve

  -- so they are siblings
  from_reserve : AreSiblingsIn store script.reserve.0 script.account.0
  from_reserve = record { apart = λ e. apart (sym e); child = ap is_some kept_child; same = home.child ∙ sym kept_child }

  to_reserve : AreSiblingsIn store script.account.0 script.reserve.0
  to_reserve = record { apart = apart; child = ap is_some home.child; same = kept_child ∙ sym home.child }

  -- nothing is used of the reserve
  whole : part script.reserve.0 store ≡ opened_part has.ram has.caps
  whole = (core.reserved i kept has_reserve).unused

  reserve_is : account_in store script.reserve.0 ≡ reserve_account has
  reserve_is = sym (account_of-part kept store) ∙ ap account_of whole

  account_within : WithinLimits (account_of (part_at store script))
  unfolding own_of
  account_within = (sound.own.lawful S (subst (λ r. HasSessions S (caps_in r)) is_script (names_open core i))).within

  -- ---- a refusal

  module _ (text : List ℕ) where
    request_unread : arguments_of text ≡ None → Goes places (Request text) i (told_alone (reply_text (Refused BadArgs))) store components store components
    request_unread none = refused_call (Request text) BadArgs (ap (λ o. requested_by o before) none)

    yield_unread : arguments_of text ≡ None → Goes places (Yield text) i (told_alone (reply_text (Refused BadArgs))) store components store components
    yield_unread none = refused_call (Yield text) BadArgs (ap (λ o. yielded_by o before) none)

    module _ {more : Arguments} (reads : arguments_of text ≡ Some more) where
      request_short : (refusal : Refusal) → Some refusal ≡ shortage (account_in store script.reserve.0) more.ram more.caps → Goes places (Request text) i (told_alone (reply_text (Refused refusal))) store components store components
      request_short refusal short =
          refused_call (Request text) refusal (ap (λ o. requested_by o before) reads ∙ ap (λ o. unless o before (reserve_requested more before)) (ap (λ a. shortage a more.ram more.caps) (sym reserve_is) ∙ sym short))

      yield_short : (refusal : Refusal) → Some refusal ≡ shortage (account_in store script.account.0) more.ram more.caps → Goes places (Yield text) i (told_alone (reply_text (Refused refusal))) store components store components
      unfolding own_of
      yield_short refusal short =
          refused_call (Yield text) refusal (ap (λ o. yielded_by o before) reads ∙ ap (λ o. unless o before (reserve_yielded more before)) (ap (λ a. shortage a more.ram more.caps) (account_of-part payer store) ∙ sym short))

  -- ---- limits move

  shift_goes : {store' : Store} {a : Account} {now : Amounts} → Shifts core.heads script a now store store' → UsesAsMuch (account_of (part_at store script)) a → a.caps_limit + total session_weight script.caps.caps ≤ script.caps.places →
      (call : Call) → is_exit call ≡ false → own_step (entry_of (places i) (get_or components i d)) call (own_in (sessions_in store (roles_of components)) store (AScript script))
      ≡ record { reply = Done; lines = []; next = with_reserve now (record (own_at (sessions_in store (roles_of components)) store script) { account = a }) } →
      Goes places call i (told_alone (reply_text Done)) store components store' components
  shift_goes {store'} {a} {now} shifts as_much placed call on step =
      let S' = sessions_in store' roles in
      let after : own_in (sessions_in store' (roles_of components)) store' (roles_of components i) ≡ with_reserve now (record (own_at S store script) { account = a })
      = ap (own_in S' store') is_script ∙ (λ j. own_in (sessions_same core i script is_script shifts j) store' (AScript script)) ∙ own_shifted core i script is_script shifts S in
      let next = after ∙ ap (λ (o : Outcome). o.next) (sym step) ∙ ap (λ r. (own_step (entry_of (places i) (get_or components i d)) call (own_in S store r)).next) (sym is_script) in
      let change = shift_change core i script is_script shifts as_much placed places caller call on next in
      goes components components core change refl here d places call on
      (same_inits components components core change refl here d (inits_rest core i script is_script shifts)) (told_alone (reply_text Done))
      (record { reply = Done; lines = []; next = with_reserve now (record (own_at S store script) { account = a }) })
      (ap (λ r. own_step (entry_of (places i) (get_or components i d)) call (own_in S store r)) is ∙ step) refl refl (sym after)

  module _ {store' : Store} (text : List ℕ) {more : Arguments} (reads : arguments_of text ≡ Some more) (ram : ram_limits_in store' ≡ ram_limits_in store) (caps : caps_limits_in store' ≡ caps_limits_in store) where
    -- from the reserve
    request_goes : None ≡ shortage (account_in store script.reserve.0) more.ram more.caps → ShiftsPart script.reserve.0 script.account.0 more.ram more.caps store store' →
        Goes places (Request text) i (told_alone (reply_text Done)) store components store' components
    unfolding own_of
    request_goes enough moves =
        let fits = covers (account_in store kept) more.ram more.caps (sym enough) in
        let least : more.caps ≤ has.caps = omega (arith, fits.caps_fit, ap (λ (x : Account). x.caps_limit) reserve_is) in
        let within = account_within in
        let shifts : Shifts core.heads script (raised (account_of (part_at store script)) more.ram more.caps) (drawn has more.ram more.caps) store store' = record {
          own = moves.raised_one;
          kept = moves.parted_one ∙ (λ j. parted_part (whole j) more.ram more.caps);
          others = λ other not_payer not_kept. moves.others other not_kept not_payer;
          root = moves.root;
          parents = moves.parents;
          ram = ram;
          caps = caps;
          room = room_is_shifted core.heads kept payer more.ram more.caps store store' moves kept_open payer_open (reserve_outer core i kept has_reserve) (λ e. apart (sym e)) fits core.room;
        } in
        shift_goes shifts
        (record { ram = refl; caps = refl; within = record { ram = omega (arith, within.ram); caps = omega (arith, within.caps) } })
        (omega (arith, placed_with_reserve core i script is_script, least)) (Request text) refl
        (steps (Request text) ∙ ap (λ o. requested_by o before) reads ∙ ap (λ o. unless o before (reserve_requested more before)) (ap (λ a. shortage a more.ram more.caps) (sym reserve_is) ∙ sym enough))

    -- and to it
    yield_goes : None ≡ shortage (account_in store script.account.0) more.ram more.caps → ShiftsPart script.account.0 script.reserve.0 more.ram more.caps store store' →
        Goes places (Yield text) i (told_alone (reply_text Done)) store components store' components
    unfolding own_of
    yield_goes enough moves =
        let fits = covers (account_in store payer) more.ram more.caps (sym enough) in
        let account = account_of-part payer store in
        let shifts : Shifts core.heads script (parted_with (account_of (part_at store script)) more.ram more.caps) (filled has more.ram more.caps) store store' = record {
          own = moves.parted_one;
          kept = moves.raised_one ∙ (λ j. raised_part (whole j) more.ram more.caps);
          others = λ other not_payer not_kept. moves.others other not_payer not_kept;
          root = moves.root;
          parents = moves.parents;
          ram = ram;
          caps = caps;
          room = room_is_shifted core.heads payer kept more.ram more.caps store store' moves payer_open kept_open (place_outer core i payer pays) apart fits core.room;
        } in
        shift_goes shifts
        (record {
          ram = refl;
          caps = refl;
          within = record {
            ram = omega (arith, fits.ram_fits, ap (λ (x : Account). x.ram_limit) account, ap (λ (x : Account). x.ram_used) account);
            caps = omega (arith, fits.caps_fit, ap (λ (x : Account). x.caps_limit) account, ap (λ (x : Account). x.caps_used) account);
          };
        })
        (omega (arith, sound.own.paid.placed)) (Yield text) refl
        (steps (Yield text) ∙ ap (λ o. yielded_by o before) reads ∙ ap (λ o. unless o before (reserve_yielded more before)) (ap (λ a. shortage a more.ram more.caps) account ∙ sym enough))

  -- ---- either way

  pub way_siblings : (way : ReserveDirection) → AreSiblingsIn store (giver way script) (taker way script)
  way_siblings FromReserve = from_reserve
  way_siblings ToReserve = to_reserve

  pub way_unread : (way : ReserveDirection) (text : List ℕ) → arguments_of text ≡ None → Goes places (call_by way text) i (told_alone (reply_text (Refused BadArgs))) store components store components
  way_unread FromReserve = request_unread
  way_unread ToReserve = yield_unread

  pub way_short : (way : ReserveDirection) (text : List ℕ) {more : Arguments} → arguments_of text ≡ Some more → (refusal : Refusal) → Some refusal ≡ shortage (account_in store (giver way script)) more.ram more.caps →
      Goes places (call_by way text) i (told_alone (reply_text (Refused refusal))) store components store components
  way_short FromReserve text reads = request_short text reads
  way_short ToReserve text reads = yield_short text reads

  pub way_goes : (way : ReserveDirection) {store' : Store} (text : List ℕ) {more : Arguments} → arguments_of text ≡ Some more → ram_limits_in store' ≡ ram_limits_in store → caps_limits_in store' ≡ caps_limits_in store →
      None ≡ shortage (account_in store (giver way script)) more.ram more.caps → ShiftsPart (giver way script) (taker way script) more.ram more.caps store store' →
      Goes places (call_by way text) i (told_alone (reply_text Done)) store components store' components
  way_goes FromReserve text reads ram caps = request_goes text reads ram caps
  way_goes ToReserve text reads ram caps = yield_goes text reads ram caps
