-- A component that is a script; the accounts of components; and what a plain call keeps of the memory.
use Rattle.std.proofs.Common.{◌≡◌, ◌≢◌, ℕ, ◌∙◌, Some, IsSome, unwrap_or, refl, sym, ap, subst, inl, inr}
use Rattle.std.specs.Prelude.{Option}
use Rattle.own_model.specs.Account.{Account, opened}
use Rattle.own_model.specs.NatMap.{NatMap, total}
use Rattle.own_model.proofs.NatMapLemmas.{some_of, value_at}
use Rattle.own_model.proofs.Totals.{total-insert_same}
use Rattle.dataspace_core.specs.Room.{HasRoom}
use Rattle.dataspace_core.proofs.LimitLaws.{accounts_after}
use Rattle.dataspace_core.proofs.PartLaws.{account_of-part, open_in_part, part_open}
use Rattle.dataspace_core.proofs.RoomLaws.{room_stays}
use Rattle.own_model.proofs.SessionRouteLemmas.{routes_alike}
use Rattle.core_calls.specs.Call.{model_call, IsPlain}
use Rattle.core_calls.specs.declared.call.Call.{Call}
use Rattle.own_model.specs.OwnStep.{own_step, script_step}
use Rattle.dataspace_core.specs.Store.{Store, part, account_of, account_in, accounts_in, caps_limits_in, space_at, IsOpenIn, PartBecomes}
use Rattle.pd_core.specs.declared.script.Script.{Script}
use Rattle.trade_base.specs.declared.id.AccountId.{AccountId}
use Rattle.pd_core.specs.Own.{Sessions, own_of, own_at}
use Rattle.pd_core.specs.Sound.{OthersStay, SparesOthers, Keeps as ScriptKeeps}
use Rattle.pd_core.specs.Component.{Place, Pays, amounts_in, entry_of, payer_in, payer_of, offer_in, own_in, own, IsSoundRole, IsSound, Keeps}
use Rattle.pd_core.specs.Core.{Heads}
use Rattle.pd_core.specs.Exit.{IsScriptRole}
use Rattle.trade_base.specs.declared.refusal.Refusal.TheVariants.{Gone as IsGone, NotAScript}
use Rattle.std.proofs.lemmas.Option.{none-some}
use Rattle.pd_core.specs.declared.component.Role.{Role}
use Rattle.pd_core.specs.declared.component.Role.TheVariants.{Script as AScript, Server as AServer, Init as AnInit, Gone as AGone}
use Rattle.pd_core.specs.declared.component.Component.{Component}
use Rattle.pd_core.proofs.ReserveAsideLemmas.{outcome_with, stands_aside}
use Rattle.pd_core.proofs.ServerLemmas.{is_server}
use Rattle.cap_space.specs.declared.cap.Cap.{Cap}
use Rattle.std.proofs.lemmas.Bool.{cases_eq}

-- its own step is the script's, beside the reserve
pub script_outcome : (place : Place) (sessions : Sessions) (store : Store) (component : Component) (script : Script) (call : Call) → component.role ≡ AScript script → IsPlain call →
    own_step (entry_of place component) (model_call call) (own sessions store component) ≡ outcome_with (amounts_in (part script.reserve.0 store)) (script_step (model_call call) (own_at sessions store script))
unfolding own_of
script_outcome place sessions store component script call is plain =
    ap (λ role. own_step (entry_of place (record component { role = role })) (model_call call) (own_in sessions store role)) is
    ∙ stands_aside (amounts_in (part script.reserve.0 store)) (own_at sessions store script) (entry_of place component) (model_call call) plain.of_no_reserve plain.no_exit
    ∙ ap (outcome_with (amounts_in (part script.reserve.0 store))) (routes_alike (entry_of place component) (model_call call) (own_at sessions store script) plain.of_no_session)

-- a call that spares others leaves what the reserve has
pub reserve_spared : {account : ℕ} {caps : NatMap Cap} {store store' : Store} (before after : AccountId) → SparesOthers account caps store store' → after ≡ before → before.0 ≢ account →
    amounts_in (part after.0 store') ≡ amounts_in (part before.0 store)
reserve_spared {account} {caps} {store} {store'} before after spares same apart =
    ap (λ (a : AccountId). amounts_in (part a.0 store')) same ∙ elim spares [
      | inl others ↦ ap amounts_in (others before.0 apart)
      | inr writes ↦ elim (cases_eq before.0 (space_at store writes.key).payer) [
        | inl at ↦ ap (λ n. amounts_in (part n store')) at ∙ ap amounts_in writes.becomes.own ∙ ap (λ n. amounts_in (part n store)) (sym at)
        | inr other ↦ ap amounts_in (writes.becomes.others before.0 other)
      ]
    ]

-- what the script keeps, the component does
pub script_keeps : {store store' : Store} (component : Component) (script script' : Script) → component.role ≡ AScript script → ScriptKeeps store script store' script' → SparesOthers script.account.0 script.caps.caps store store' →
    Keeps store component store' (record component { role = AScript script' })
script_keeps {store} {store'} component script script' is keeps others =
    subst (λ role. Keeps store (record component { role = role }) store' (record component { role = AScript script' })) (sym is) (record {
      sound = keeps.sound;
      entry = λ place. refl;
      service = refl;
      pays = λ account pays. ap (λ (a : AccountId). a.0) (sym keeps.account) ∙ pays;
      paid = λ account pays. ap (λ (a : AccountId). a.0) keeps.account ∙ pays;
      reserve = ap (λ (a : AccountId). Some a.0) keeps.reserve;
      is_open = subst (λ (a : AccountId). IsSome (part a.0 store').account) keeps.account keeps.sound.own.paid.is_open;
      caps_limit = ap (λ (a : AccountId). (account_of (part a.0 store')).caps_limit) (sym keeps.account) ∙ keeps.caps_limit;
      places = ap Some keeps.places;
      sessions = keeps.sessions;
      buffers = keeps.buffers;
      rows = refl;
      root = keeps.root;
      parents = keeps.parents;
      room = keeps.room;
      others = others;
      limits = keeps.limits;
    })

-- ---- accounts

-- the account that a role pays for is the one that it is charged on
pub pays_is : (role : Role) (account : ℕ) → Pays role account → payer_in role ≡ account
pays_is (AScript script) account pays = pays
pays_is (AServer key host) account pays = pays
pays_is (AnInit key) account pays = pays
pays_is AGone account pays = absurd pays

-- who makes calls is a script
pub a_script : (role : Role) → IsScriptRole role → (script : Script) × (role ≡ AScript script)
a_script (AScript script) is = (script, refl)
a_script (AServer key host) is = absurd (none-some NotAScript (sym is))
a_script (AnInit key) is = absurd (none-some NotAScript (sym is))
a_script AGone is = absurd (none-some IsGone (sym is))

-- a script and a server have it
pub pays_script : (role : Role) → IsScriptRole role → Pays role (payer_in role)
pays_script role is = subst (λ r. Pays r (payer_in r)) (sym (a_script role is).1) refl

pub pays_server : (role : Role) → IsSome (offer_in role) → Pays role (payer_in role)
pays_server role serves = subst (λ r. Pays r (payer_in r)) (sym (is_server role serves).1.1) refl

-- and it is open
pub account_open : (store : Store) (role : Role) → IsSoundRole store role → (account : ℕ) → Pays role account → IsSome (part account store).account
account_open store (AScript script) sound account pays = subst (λ k. IsSome (part k store).account) pays sound.own.paid.is_open
account_open store (AServer key host) sound account pays = subst (λ k. IsSome (part k store).account) pays sound.is_open
account_open store (AnInit key) sound account pays = part_open account store (subst (IsOpenIn store) pays sound)
account_open store AGone sound account pays = absurd pays

-- ---- what a plain call that leaves other parts keeps of the memory

module _ (store : Store) (before : Component) (store' : Store) (after : Component) (sound : IsSound store before) (script : IsScriptRole before.role) (keeps : Keeps store before store' after)
    (others : OthersStay (payer_of before) store store') where
  -- only the part of the caller's account changes
  pub part_becomes : PartBecomes (payer_of before) (part (payer_of before) store') store store'
  part_becomes = record { own = refl; others = others; root = keeps.root; parents = keeps.parents; room = keeps.room }

  -- it was open, and has its limit still
  was_open : IsOpenIn store (payer_of before)
  was_open = open_in_part (payer_of before) store (account_open store before.role sound (payer_of before) (pays_script before.role script))

  has : (a : Account) × ((part (payer_of before) store').account ≡ Some a)
  has = some_of (part (payer_of before) store').account keeps.is_open

  same_limit : has.0.caps_limit ≡ (account_in store (payer_of before)).caps_limit
  same_limit =
      ap (λ (o : Option Account). (unwrap_or o (opened 0 0)).caps_limit) (sym has.1) ∙ keeps.caps_limit
      ∙ ap (λ (a : Account). a.caps_limit) (account_of-part (payer_of before) store)

  -- all limits of capabilities stay
  pub same_caps : caps_limits_in store' ≡ caps_limits_in store
  same_caps =
      let was = value_at (accounts_in store) (payer_of before) was_open in
      let is : account_in store (payer_of before) ≡ was.0 = ap (λ (o : Option Account). unwrap_or o (opened 0 0)) was.1 in
      ap (total (λ (a : Account). a.caps_limit)) (accounts_after (payer_of before) (part (payer_of before) store') store store' has.0 part_becomes has.1)
      ∙ total-insert_same (λ a. a.caps_limit) (accounts_in store) (payer_of before) has.0 was.0 was.1 (same_limit ∙ ap (λ (a : Account). a.caps_limit) is)

  -- and so does the room for accounts
  pub same_room : (heads : Heads) → HasRoom heads store → HasRoom heads store'
  same_room heads = room_stays heads (payer_of before) (part (payer_of before) store') store store' has.0 part_becomes has.1 was_open same_limit
