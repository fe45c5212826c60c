-- A plain call of a component: the change that it makes to the core, and that it goes as the model's.
use Rattle.std.proofs.Common.{◌≡◌, ℕ, ◌<◌, List, [], Some, is_some, false, get_or, length, set, refl, sym, ap, subst, ◌∙◌, inl, inr}
use Rattle.std.proofs.lemmas.List.{set-get_or}
use Rattle.std.specs.FinMap.{get}
use Rattle.std.specs.Option.{option_map}
use Rattle.std.specs.Prelude.{IsSome}
use Rattle.own_model.specs.Call.{Call, is_exit}
use Rattle.own_model.specs.NatMap.{NatMap}
use Rattle.own_model.specs.OwnStep.{own_step}
use Rattle.own_model.specs.Session.{Labelled}
use Rattle.dataspace_core.specs.Store.{Store, Part, account_of, opened_part, parents_in, root_in}
use Rattle.dataspace_core.proofs.PartLaws.{open_in_part, part_open}
use Rattle.server_frame.specs.Frame.{Row}
use Rattle.core_calls.specs.ReplyText.{Told as Written}
use Rattle.pd_core.specs.Answer.{Told, told, told_of}
use Rattle.pd_core.specs.Component.{Place, Pays, IsReserve, reserve_in, entry_of, EntryStays, payer_in, payer_of, offer_of, caps_in, places_in, rows_in, own_in, own, lent_by, NamesItsSessions, IsSoundRole, IsSound, Keeps}
use Rattle.pd_core.specs.Core.{Places, Roles, roles_of, rows_at, sessions_in, NamesAccount, IsCore}
use Rattle.pd_core.specs.Exit.{refusal_of, IsScriptRole}
use Rattle.pd_core.specs.Own.{Sessions}
use Rattle.pd_core.specs.SessionCalls.{Goes}
use Rattle.pd_core.specs.Sessions.{row_session}
use Rattle.pd_core.specs.Sound.{session_at, buffer_at, WritesLent}
use Rattle.pd_core.specs.declared.component.Component.{Component}
use Rattle.pd_core.specs.declared.component.Role.{Role}
use Rattle.pd_core.specs.declared.component.Role.TheVariants.{Script as AScript, Server as AServer, Init as AnInit, Gone as AGone}
use Rattle.pd_core.proofs.CoreChangeLemmas.{ChangesCore, Follows}
use Rattle.pd_core.proofs.ComponentLemmas.{pays_is, pays_script, part_becomes, same_caps, same_room}
use Rattle.pd_core.proofs.CoreHeldLemmas.{held_by}
use Rattle.pd_core.proofs.CoreSparesLemmas.{SparesRest, spares_beside, spares_lent}
use Rattle.pd_core.proofs.CoreWorldLemmas.{RowsStay, rows_kept, face_of, face_set, goes, places_kept, stays_goes, role_at, role_set, role_kept, same_inits}

-- a role makes calls or is refused
by_refusal : (role : Role) (X : Type 0) → (IsScriptRole role → X) → (IsSome (refusal_of role) → X) → X
by_refusal (AScript script) X calls refused = calls refl
by_refusal (AServer account host) X calls refused = refused refl
by_refusal (AnInit key) X calls refused = refused refl
by_refusal AGone X calls refused = refused refl

-- a place of which a start list says nothing
pub unlisted : Place
unlisted = record { name = []; home = 0; routes = [] }

-- what an entry and an offer say is a face
pub face_is : (before after : Component) → EntryStays before after → offer_of after ≡ offer_of before → face_of after ≡ face_of before
face_is before after entry offer j = record { label = (entry unlisted j).label; kind = (entry unlisted j).kind; offer = offer j }

module _ (store : Store) (components : List Component) (i : ℕ) (d : Component) (here : i < length components) (core : IsCore store components) where
  abbrev caller : Component
  caller = get_or components i d

  abbrev roles : Roles
  roles = roles_of components

  abbrev S : Sessions
  S = sessions_in store roles

  is_caller : roles i ≡ caller.role
  is_caller = role_at components i d here

  module _ (store' : Store) (after : Component) where
    abbrev components' : List Component
    components' = set components i after

    abbrev roles' : Roles
    roles' = roles_of components'

    is_after : roles' i ≡ after.role
    is_after = role_set components i after i refl here

    -- ---- a script's call

    module _ (script : IsScriptRole caller.role) (keeps : Keeps store caller store' after) where
      abbrev payer : ℕ
      payer = payer_of caller

      sound : IsSound store caller
      sound = subst (IsSoundRole store) is_caller (core.sound i)

      pays : Pays (roles i) payer
      pays = subst (λ r. Pays r payer) (sym is_caller) (pays_script caller.role script)

      -- the caller names what it named
      caps_are : caps_in caller.role ≡ caps_in (roles i)
      caps_are = ap caps_in (sym is_caller)

      -- it is a script at its place
      calls : IsScriptRole (roles i)
      calls = subst IsScriptRole (sym is_caller) script

      -- what isn't the caller's stays, but for what a session lends it
      rest : SparesRest core.heads i store roles store'
      rest = elim keeps.others [
        | inl others ↦
            let becomes = part_becomes store caller store' after sound script keeps others in
            spares_beside core i payer calls pays becomes keeps.limits (same_caps store caller store' after sound script keeps others) (same_room store caller store' after sound script keeps others core.heads core.room)
        | inr writes ↦ spares_lent core i (subst (λ caps. WritesLent caps store store') caps_are writes)
      ]

      same_rows : RowsStay store roles store' roles'
      same_rows = rows_kept components i after store store' (ap (rows_in store') is_after ∙ keeps.rows ∙ ap (rows_in store) (sym is_caller)) rest.rows

      -- so all sessions stay
      same_sessions : sessions_in store' roles' ≡ S
      same_sessions j server session = option_map (row_session server) (get (same_rows server j) session)

      -- the caller names the sessions and the buffers that it named
      same_names : (q : ℕ) → session_at (get (caps_in (roles' i)) q) ≡ session_at (get (caps_in (roles i)) q)
      same_names q = ap (λ r. session_at (get (caps_in r) q)) is_after ∙ keeps.sessions q ∙ ap (λ r. session_at (get (caps_in r) q)) (sym is_caller)

      same_buffers : (q : ℕ) → buffer_at (get (caps_in (roles' i)) q) ≡ buffer_at (get (caps_in (roles i)) q)
      same_buffers q = ap (λ r. buffer_at (get (caps_in r) q)) is_after ∙ keeps.buffers q ∙ ap (λ r. buffer_at (get (caps_in r) q)) (sym is_caller)

      -- and they lend what they lent
      same_lent : (q : ℕ) → lent_by (rows_at store' roles') (session_at (get (caps_in (roles' i)) q)) ≡ lent_by (rows_at store roles) (session_at (get (caps_in (roles i)) q))
      same_lent q j = lent_by (λ k. same_rows k j) (same_names q j)

      named : NamesItsSessions (rows_at store' roles') (roles' i)
      named = record {
        its = λ q server session names.
            let its = (core.named i).its q server session (sym (same_names q) ∙ names) in
            record {
              row = its.row;
              there = ap (λ (m : NatMap (Row Labelled)). get m session.0) (same_rows server) ∙ its.there;
              client = subst (λ r. Pays r its.row.client) (sym is_after) (keeps.paid its.row.client (subst (λ r. Pays r its.row.client) is_caller its.client));
            };
        once = λ p q server a b one two. (core.named i).once p q server a b (sym (same_names p) ∙ one) (sym (same_names q) ∙ two);
        lent = λ p q key has. same_lent q ∙ (core.named i).lent p q key (sym (same_buffers p) ∙ has);
        lends = λ q key lends. let its = (core.named i).lends q key (sym (same_lent q) ∙ lends) in (its.0, same_buffers its.0 ∙ its.1);
      }

      held : (child parent : ℕ) → Pays (roles i) parent → get store'.books.parents child ≡ Some parent → NamesAccount (rows_at store' roles') (roles' i) child parent
      held child parent its below =
          let names = held_by core i parent its calls child (ap (λ (m : NatMap ℕ). get m child) (sym keeps.parents) ∙ below) in
          record {
            selector = names.selector;
            server = names.server;
            session = names.session;
            names = same_names names.selector ∙ names.names;
            row = names.row;
            there = ap (λ (m : NatMap (Row Labelled)). get m names.session.0) (same_rows names.server) ∙ names.there;
            key = names.key;
            its = names.its;
          }

      -- its reserve is what it was
      reserve_kept : reserve_in (roles i) ≡ reserve_in (roles' i)
      reserve_kept = ap reserve_in is_caller ∙ sym keeps.reserve ∙ ap reserve_in (sym is_after)

      same_payer : payer_in (roles i) ≡ payer_in (roles' i)
      same_payer =
          let its : Pays after.role payer = keeps.paid payer (pays_script caller.role script) in
          ap payer_in is_caller ∙ sym (pays_is after.role payer its) ∙ ap payer_in (sym is_after)

      reserve_rests : (account : ℕ) → reserve_in (roles i) ≡ Some account → IsReserve store' (payer_in (roles' i)) account
      reserve_rests account is =
          let before = core.reserved i account is in
          record {
            beside = ap (λ (m : NatMap ℕ). get m account) keeps.parents ∙ before.beside ∙ ap (λ (m : NatMap ℕ). get m (payer_in (roles i))) (sym keeps.parents) ∙ ap (get (parents_in store')) same_payer;
            unused = subst (λ p. p ≡ opened_part (account_of p).ram_limit (account_of p).caps_limit) (sym (rest.reserve account is)) before.unused;
          }

      module _ (call : Call) (on : is_exit call ≡ false) (places : Places)
          (next : own (sessions_in store' roles') store' after ≡ (own_step (entry_of (places i) caller) call (own S store caller)).next) where
        own_next : own_in (sessions_in store' roles') store' (roles' i) ≡ (own_step (entry_of (places i) caller) call (own_in S store (roles i))).next
        own_next = ap (own_in (sessions_in store' roles') store') is_after ∙ next ∙ ap (λ r. (own_step (entry_of (places i) caller) call (own_in S store r)).next) (sym is_caller)

        changes : ChangesCore core.heads i 0 0 store roles store' roles'
        changes = record {
          script = calls;
          others = λ k other. subst (Follows store (roles k) store') (sym (role_kept components i after k other))
              (rest.follows k other);
          sound = subst (IsSoundRole store') (sym is_after) keeps.sound;
          pays = λ account its. subst (λ r. Pays r account) (sym is_caller) (keeps.pays account (subst (λ r. Pays r account) is_after its));
          reserve = λ account is. reserve_kept ∙ is;
          reserved = λ account is. reserve_rests account (reserve_kept ∙ is);
          rows = λ server id _. ap (λ (m : NatMap (Row Labelled)). get m id) (same_rows server);
          row = inl (ap (λ (m : NatMap (Row Labelled)). get m 0) (same_rows 0));
          named = named;
          held = held;
          placed = places_kept S (sessions_in store' roles') store store' (roles i) (roles' i) (entry_of (places i) caller) call on own_next
              (ap places_in is_after ∙ keeps.places ∙ ap places_in (sym is_caller)) (core.placed i);
          init = open_in_part (root_in store) store' (ap (λ (p : Part). is_some p.account) (rest.inits (root_in store) (inl refl)) ∙ part_open (root_in store) store core.init);
          root = keeps.root;
          children = λ k account _ _. ap (λ (m : NatMap ℕ). get m account) keeps.parents;
          parents = λ child parent below. inr (ap (λ (m : NatMap ℕ). get m child) (sym keeps.parents) ∙ below);
          room = rest.room;
        }

      script_goes : (call : Call) → is_exit call ≡ false → (places : Places) (reply : Written) → told reply (own S store' after) ≡ told_of (own_step (entry_of (places i) caller) call (own S store caller)) →
          Goes places call i reply store components store' components'
      script_goes call on places reply is =
          let next = ap (λ S. own S store' after) same_sessions ∙ ap (λ (t : Told). t.next) is in
          let faces = face_set components i after d (face_is caller after keeps.entry keeps.service) in
          goes components components' core (changes call on places next) faces here d places call on
          (same_inits components components' core (changes call on places next) faces here d rest.inits) reply (own_step (entry_of (places i) caller) call (own S store caller)) refl (ap (λ (t : Told). t.text) is) (ap (λ (t : Told). t.lines) is)
          (sym next ∙ ap (own_in (sessions_in store' roles') store') (sym is_after))

    -- ---- a plain call, of a script or of one that makes none

    -- it goes as the model's
    pub plain_goes : (IsScriptRole caller.role → Keeps store caller store' after) → (IsSome (refusal_of caller.role) → (store' ≡ store) × (after ≡ caller)) →
        (places : Places) (call : Call) (reply : Written) → is_exit call ≡ false → told reply (own S store' after) ≡ told_of (own_step (entry_of (places i) caller) call (own S store caller)) →
        Goes places call i reply store components store' components'
    plain_goes keeps stays places call reply on is =
        by_refusal caller.role (Goes places call i reply store components store' components')
        (λ script. script_goes script (keeps script) call on places reply is)
        (λ refused.
        let same = stays refused in
        subst (λ m. Goes places call i reply store components m components') (sym same.0)
        (subst (Goes places call i reply store components store) (sym (ap (set components i) same.1 ∙ set-get_or components i d))
        (stays_goes places components i d call (own_step (entry_of (places i) caller) call (own S store caller)) core here refl reply (ap (λ (t : Told). t.text) is) (ap (λ (t : Told). t.lines) is)
        (ap (λ (t : Told). t.next) (sym is) ∙ (λ j. own S (same.0 j) (same.1 j))))))
