-- The components of a core as a world: what is seen of them, and the world that a change of the core leaves.
use Rattle.std.proofs.Common.{◌≡◌, ◌≢◌, ℕ, ◌<◌, ◌≤◌, List, [], ◌∷◌, None, false, length, map, get_or, set, refl, sym, ap, subst, ◌∙◌, inl, inr, arith, length-set, get_or-set_other}
use Rattle.std.proofs.Math.ListN.{get_or-map as each-map}
use Rattle.std.proofs.Math.Seq.{map-set_same}
use Rattle.std.proofs.lemmas.Bool.{cases_eq, cases_lt}
use Rattle.std.proofs.lemmas.Grind.{get_or-set_at}
use Rattle.std.proofs.lemmas.List.{map-set, get_or-map, get_or_past, ext_get_or, length-map}
use Rattle.std.proofs.lemmas.List.FromFn.{get_or-enumerate_from, length-enumerate_from}
use Rattle.std.specs.List.{enumerate_from, flat_map}
use Rattle.std.specs.Option.{option_map}
use Rattle.std.specs.Prelude.{IfSome, Option}
use Rattle.own_model.specs.Call.{Call, is_exit}
use Rattle.own_model.specs.Limits.{caps_limits}
use Rattle.own_model.specs.OwnStep.{Outcome, own_step, refused}
use Rattle.own_model.specs.Reply.{reply_text, log_text}
use Rattle.own_model.specs.Reply.Reply.{Refused}
use Rattle.own_model.specs.Offer.{Offer}
use Rattle.own_model.specs.Routes.{ServerAt}
use Rattle.own_model.specs.StartList.{Entry, Kind, no_account}
use Rattle.own_model.specs.StartList.Kind.{Script as AScriptKind, Server as AServerKind, Init as AnInitKind}
use Rattle.own_model.specs.Transcript.{nobody, nothing, entry_at, state_at}
use Rattle.own_model.specs.World.{World, with_state, outcome_at}
use Rattle.own_model.proofs.StepBalanceLemmas.{with_state_same, world_on}
use Rattle.own_model.proofs.StepLimitLemmas.{limits_move}
use Rattle.dataspace_core.specs.Store.{Store, part, root_in, account_in, account_of}
use Rattle.dataspace_core.proofs.PartLaws.{account_of-part}
use Rattle.core_calls.specs.ReplyText.{Told}
use Rattle.trade_base.specs.declared.refusal.Refusal.{Refusal}
use Rattle.pd_core.specs.Answer.{told_alone}
use Rattle.pd_core.specs.Component.{entry_of, kind_of, offer_in, offer_of, places_in, rows_in, own_in, own, HasPlaces}
use Rattle.pd_core.specs.Core.{Roles, roles_of, rows_at, Places, IsInitOf, init_in, inits_of, entries_of, sessions_in, world_of, IsCore, IsCoreAt}
use Rattle.pd_core.specs.Own.{Sessions}
use Rattle.pd_core.specs.SessionCalls.{Agrees, AreBelowParents, Answers, Goes, Leads, server_at, offer_at}
use Rattle.pd_core.specs.declared.component.Component.{Component}
use Rattle.pd_core.specs.declared.component.Role.{Role}
use Rattle.pd_core.specs.declared.component.Role.TheVariants.{Script as AScript, Server as AServer, Init as AnInit, Gone}
use Rattle.pd_core.proofs.CoreChangeLemmas.{InitsRest, ChangesCore, core_after, own_follows, homes_after, init_follows}

-- a list with a place has an element
pub one_of : {X : Type 0} (xs : List X) (i : ℕ) → i < length xs → X
one_of [] i within = absurd (omega (arith, within))
one_of (x ∷ xs) i within = x

-- ---- roles

-- the role at a place is its component's
pub role_at : (components : List Component) (k : ℕ) (d : Component) → k < length components → roles_of components k ≡ (get_or components k d).role
role_at components k d within = get_or-map (λ c. c.role) components k d Gone within

-- so is what is read there
pub role_read : (components : List Component) (k : ℕ) (d : Component) {c : Component} → k < length components → c ≡ get_or components k d → roles_of components k ≡ c.role
role_read components k d within is = role_at components k d within ∙ ap (λ (e : Component). e.role) (sym is)

-- what is so of each component's role, and of one that has exited, is so at all places
pub all_roles : (P : ℕ → Role → Type 0) (components : List Component) → ((k : ℕ) → P k Gone) → ((k : ℕ) → k < length components → (d : Component) → P k (get_or components k d).role) → (k : ℕ) → P k (roles_of components k)
all_roles P [] gone each k = gone k
all_roles P (c ∷ rest) gone each k = elim (cases_lt k (length (c ∷ rest))) [
  | inl within ↦ subst (P k) (sym (role_at (c ∷ rest) k c within)) (each k within c)
  | inr past ↦ subst (P k) (sym (get_or_past (map (λ d. d.role) (c ∷ rest)) k Gone (omega (arith, past, length-map (c ∷ rest) (λ (d : Component). d.role))))) (gone k)
]

-- past the components is nobody
pub place_of : (components : List Component) (k : ℕ) → roles_of components k ≢ Gone → k < length components
place_of components k some = elim (cases_lt k (length components)) [
  | inl within ↦ within
  | inr past ↦ absurd (some (get_or_past (map (λ c. c.role) components) k Gone (omega (arith, past, length-map components (λ (c : Component). c.role)))))
]

-- where one is set it stands, and the others stay
pub role_set : (components : List Component) (i : ℕ) (after : Component) (k : ℕ) → k ≡ i → i < length components → roles_of (set components i after) k ≡ after.role
role_set components i after k at within =
    ap (λ l. get_or l k Gone) (map-set (λ (c : Component). c.role) components i after)
    ∙ get_or-set_at (map (λ c. c.role) components) i k after.role Gone at (omega (arith, within, length-map components (λ (c : Component). c.role)))

pub role_kept : (components : List Component) (i : ℕ) (after : Component) (k : ℕ) → k ≢ i → roles_of (set components i after) k ≡ roles_of components k
role_kept components i after k other =
    ap (λ l. get_or l k Gone) (map-set (λ (c : Component). c.role) components i after) ∙ get_or-set_other (map (λ c. c.role) components) i k after.role Gone other

-- the servers' rows stay
abbrev pub RowsStay : Store → Roles → Store → Roles → Type 0
RowsStay store roles store' roles' = (k : ℕ) → rows_at store' roles' k ≡ rows_at store roles k

-- they do where one is set that has the rows of its place, and the others keep theirs
pub rows_kept : (components : List Component) (i : ℕ) (after : Component) (store store' : Store) → rows_at store' (roles_of (set components i after)) i ≡ rows_at store (roles_of components) i →
    ((k : ℕ) → k ≢ i → rows_at store' (roles_of components) k ≡ rows_at store (roles_of components) k) → RowsStay store (roles_of components) store' (roles_of (set components i after))
rows_kept components i after store store' here others k = elim (cases_eq k i) [
  | inl at ↦ ap (rows_at store' (roles_of (set components i after))) at ∙ here ∙ ap (rows_at store (roles_of components)) (sym at)
  | inr other ↦ ap (rows_in store') (role_kept components i after k other) ∙ others k other
]

-- ---- what a start list and the routes see of a component

pub record Face : Type 0 where
  pub label : List ℕ
  pub kind : Kind
  pub offer : Option Offer

abbrev pub face_of : Component → Face
face_of component = record { label = component.name.items; kind = kind_of component.role; offer = offer_in component.role }

-- the components show what they showed
abbrev pub SameFaces : List Component → List Component → Type 0
SameFaces before after = map face_of after ≡ map face_of before

-- one makes way for another of its face
pub face_set : (components : List Component) (i : ℕ) (after d : Component) → face_of after ≡ face_of (get_or components i d) → SameFaces components (set components i after)
face_set components i after d same = map-set_same face_of components i after d same

-- there are as many entries as components
pub length-entries : (places : Places) (components : List Component) → length (entries_of places components) ≡ length components
length-entries places components =
    length-map (enumerate_from 0 components) (λ c. entry_of (places c.0) c.1) ∙ length-enumerate_from 0 components

-- each stands at its component's place
pub entries_at : (places : Places) (components : List Component) (k : ℕ) (d : Component) → k < length components →
    entry_at (entries_of places components) k ≡ entry_of (places k) (get_or components k d)
entries_at places components k d within =
    get_or-map (λ c. entry_of (places c.0) c.1) (enumerate_from 0 components) k (0, d) nobody (omega (arith, within, length-enumerate_from 0 components))
    ∙ ap (λ c. entry_of (places c.0) c.1) (get_or-enumerate_from 0 components k (0, d) within)
    ∙ ap (λ (n : ℕ). entry_of (places n) (get_or components k d)) (omega arith)

module _ (before after : List Component) (faces : SameFaces before after) where
  pub as_many : length after ≡ length before
  as_many = sym (length-map after face_of) ∙ ap length faces ∙ length-map before face_of

  face_at : (k : ℕ) (d : Component) → face_of (get_or after k d) ≡ face_of (get_or before k d)
  face_at k d = sym (each-map face_of after k d) ∙ ap (λ l. get_or l k (face_of d)) faces ∙ each-map face_of before k d

  -- the entries stay
  pub same_entries : (places : Places) (d : Component) → entries_of places after ≡ entries_of places before
  same_entries places d =
      ext_get_or nobody _ _ (length-entries places after ∙ as_many ∙ sym (length-entries places before)) (λ k h.
      let within : k < length before = omega (arith, h, length-entries places after, as_many) in
      entries_at places after k d (omega (arith, within, as_many))
      ∙ ap {B = Entry} (λ (f : Face). record { name = (places k).name; label = f.label; kind = f.kind; home = (places k).home; routes = (places k).routes }) (face_at k d)
      ∙ sym (entries_at places before k d within))

  same_service : (p : ℕ) → offer_at after p ≡ offer_at before p
  same_service p = elim (cases_lt p (length before)) [
    | inl within ↦ elim before as (λ l. l ≡ before → offer_at after p ≡ offer_at before p) [
      | [] ↦ λ none. absurd (omega (arith, within, ap length none))
      | (d ∷ rest) ↦ λ _.
          get_or-map offer_of after p d None (omega (arith, within, as_many)) ∙ ap (λ (f : Face). f.offer) (face_at p d) ∙ sym (get_or-map offer_of before p d None within)
    ] refl
    | inr past ↦
        get_or_past (map offer_of after) p None (omega (arith, past, as_many, length-map after offer_of))
        ∙ sym (get_or_past (map offer_of before) p None (omega (arith, past, length-map before offer_of)))
  ]

  -- a server of a kind at a place
  abbrev stands : ℕ → Offer → ServerAt
  stands p kind = record { kind = kind; place = p }

  same_server : (p : ℕ) → server_at after p ≡ server_at before p
  same_server p = ap (option_map (stands p)) (same_service p)

  -- and routes lead where they did, if each account is below its init's still
  pub same_leads : (store store' : Store) (places : Places) (leads : Leads) → (AreBelowParents places store before → AreBelowParents places store' after) → Agrees places leads store before → Agrees places leads store' after
  same_leads store store' places leads homes agrees = record {
    names = λ k d within. subst (λ (f : Face). length f.label ≤ 140) (sym (face_at k d)) (agrees.names k d (omega (arith, within, as_many)));
    each = λ i service label within.
        (λ j. option_map (λ p. same_server p j) (leads i service label)) ∙ agrees.each i service label (omega (arith, within, as_many));
    homes = homes agrees.homes;
  }

-- ---- inits

-- who is no init has no account as one
init_none : (store : Store) (role : Role) → kind_of role ≢ AnInitKind → init_in store role ≡ no_account
init_none store (AScript script) other = refl
init_none store (AServer account host) other = refl
init_none store (AnInit account) other = absurd (other refl)
init_none store Gone other = refl

-- and an init has its own
pub init_is : (store : Store) (role : Role) (account : ℕ) → IsInitOf role account → init_in store role ≡ account_in store account
init_is store (AScript script) account is = absurd is
init_is store (AServer key host) account is = absurd is
init_is store (AnInit key) account is = ap (account_in store) is
init_is store Gone account is = absurd is

module _ (store store' : Store) where
  -- an account is what it was where its part is
  pub account_kept : (account : ℕ) → part account store' ≡ part account store → account_in store' account ≡ account_in store account
  account_kept account own = sym (account_of-part account store') ∙ ap account_of own ∙ account_of-part account store

  -- roles of one kind have the same as inits where an init's account stays
  init_alike : (before after : Role) → kind_of after ≡ kind_of before → ((account : ℕ) → IsInitOf before account → IsInitOf after account × (account_in store' account ≡ account_in store account)) →
      init_in store' after ≡ init_in store before
  init_alike (AScript script) after kinds stays = init_none store' after (λ e. let no : AnInitKind ≡ AScriptKind = sym e ∙ kinds in cc)
  init_alike (AServer account host) after kinds stays = init_none store' after (λ e. let no : AnInitKind ≡ AServerKind = sym e ∙ kinds in cc)
  init_alike (AnInit account) after kinds stays = let its = stays account.0 refl in init_is store' after account.0 its.0 ∙ its.1
  init_alike Gone after kinds stays = init_none store' after (λ e. let no : AnInitKind ≡ AScriptKind = sym e ∙ kinds in cc)

-- ---- the world

-- the outcome of a component's call in the world is that of its own step
pub outcome_is : (places : Places) (store : Store) (components : List Component) (i : ℕ) (d : Component) (call : Call) → i < length components →
    outcome_at (world_of places store components) i call ≡ own_step (entry_of (places i) (get_or components i d)) call (own (sessions_in store (roles_of components)) store (get_or components i d))
outcome_is places store components i d call here j =
    own_step (entries_at places components i d here j) call (get_or-map (own (sessions_in store (roles_of components)) store) components i d nothing here j)

module _ {i s key : ℕ} {store store' : Store} (before after : List Component) (core : IsCore store before) (changes : ChangesCore core.heads i s key store (roles_of before) store' (roles_of after))
    (faces : SameFaces before after) (here : i < length before) (d : Component) where
  abbrev S : Sessions
  S = sessions_in store (roles_of before)

  abbrev S' : Sessions
  S' = sessions_in store' (roles_of after)

  state_at_place : (k : ℕ) → k < length before → get_or (map (own S' store') after) k nothing ≡ own_in S' store' (roles_of after k)
  state_at_place k within =
      let many = as_many before after faces in
      get_or-map (own S' store') after k d nothing (omega (arith, within, many)) ∙ ap (own_in S' store') (sym (role_at after k d (omega (arith, within, many))))

  -- the own states are those from before, with the caller's new one at its place
  pub same_states : map (own S' store') after ≡ set (map (own S store) before) i (own_in S' store' (roles_of after i))
  same_states =
      let left = length-map after (own S' store') ∙ as_many before after faces in
      let right = length-set (map (own S store) before) i (own_in S' store' (roles_of after i)) ∙ length-map before (own S store) in
      ext_get_or nothing _ _ (left ∙ sym right) (λ k h.
      let within : k < length before = omega (arith, h, left) in
      state_at_place k within ∙ elim (cases_eq k i) [
        | inl at ↦
            ap (λ n. own_in S' store' (roles_of after n)) at
            ∙ sym (get_or-set_at (map (own S store) before) i k (own_in S' store' (roles_of after i)) nothing at (omega (arith, here, length-map before (own S store))))
        | inr other ↦
            own_follows core changes k other ∙ ap (own_in S store) (role_at before k d within) ∙ sym (get_or-map (own S store) before k d nothing within)
            ∙ sym (get_or-set_other (map (own S store) before) i k (own_in S' store' (roles_of after i)) nothing other)
      ])

  pub world_changed : (places : Places) → world_of places store' after ≡ record (world_of places store before) {
    inits = inits_of store' after;
    states = set (map (own S store) before) i (own_in S' store' (roles_of after i));
  }
  world_changed places j = record { entries = same_entries before after faces places d j; inits = inits_of store' after; states = same_states j }

  -- an init has the account that it had where its part stays
  pub init_seen : (k : ℕ) → k < length before → ((account : ℕ) → IsInitOf (roles_of before k) account → part account store' ≡ part account store) →
      init_in store' (get_or after k d).role ≡ init_in store (get_or before k d).role
  init_seen k within stays =
      let was = role_at before k d within in
      let is = role_at after k d (omega (arith, within, as_many before after faces)) in
      init_alike store store' (get_or before k d).role (get_or after k d).role (ap (λ (f : Face). f.kind) (face_at before after faces k d)) (λ account its.
      let had : IsInitOf (roles_of before k) account = subst (λ r. IsInitOf r account) (sym was) its in
      (subst (λ r. IsInitOf r account) is (init_follows core changes k account had), account_kept store store' account (stays account had)))

  -- so inits' accounts stay
  pub same_inits : InitsRest (roles_of before) store store' → inits_of store' after ≡ inits_of store before
  same_inits stays =
      let root : account_in store' (root_in store') ≡ account_in store (root_in store) = ap (account_in store') changes.root ∙ account_kept store store' (root_in store) (stays (root_in store) (inl refl)) in
      let many = as_many before after faces in
      let left = length-map after (λ (c : Component). init_in store' c.role) in
      let right = length-map before (λ (c : Component). init_in store c.role) in
      let rest : map (λ (c : Component). init_in store' c.role) after ≡ map (λ (c : Component). init_in store c.role) before = ext_get_or no_account _ _ (left ∙ many ∙ sym right) (λ k h.
      let within : k < length before = omega (arith, h, left, many) in
      get_or-map (λ (c : Component). init_in store' c.role) after k d no_account (omega (arith, within, many)) ∙ init_seen k within (λ account its. stays account (inr (k, its)))
      ∙ sym (get_or-map (λ (c : Component). init_in store c.role) before k d no_account within)) in
      λ j. root j ∷ rest j

  -- a call that is no exit, and leaves inits' accounts, goes as the model's where its outcome is
  pub goes : (places : Places) (call : Call) → is_exit call ≡ false → inits_of store' after ≡ inits_of store before → (told : Told) (o : Outcome) →
      own_step (entry_of (places i) (get_or before i d)) call (own S store (get_or before i d)) ≡ o → told.text ≡ reply_text o.reply → told.lines ≡ flat_map log_text o.lines →
      o.next ≡ own_in S' store' (roles_of after i) → Goes places call i told store before store' after
  goes places call on inits told o outcome text lines next =
      let at = outcome_is places store before i d call here ∙ outcome in
      record {
        answers = record {
          answered = text ∙ ap (λ (x : Outcome). reply_text x.reply) (sym at);
          lines = lines ∙ ap (λ (x : Outcome). flat_map log_text x.lines) (sym at);
          stepped = world_changed places
              ∙ (λ j. record (world_of places store before) { inits = inits j; states = set (map (own S store) before) i (sym (ap (λ (x : Outcome). x.next) at ∙ next) j) })
              ∙ sym (world_on (world_of places store before) i call on);
        };
        core = core_after core changes;
        homes = λ all. homes_after core changes all;
        leads = λ all leads. same_leads before after faces store store' all leads (homes_after core changes all);
      }

-- what of a call that is no exit is needed for its caller's places: the model's outcome
pub places_kept : (S S' : Sessions) (store store' : Store) (role role' : Role) (entry : Entry) (call : Call) → is_exit call ≡ false →
    own_in S' store' role' ≡ (own_step entry call (own_in S store role)).next → places_in role' ≡ places_in role → HasPlaces S store role → HasPlaces S' store' role'
places_kept S S' store store' role role' entry call on next places placed =
    let same = ap caps_limits next ∙ (limits_move entry call (own_in S store role) on).1 in
    subst (λ o. IfSome o (λ p. caps_limits (own_in S' store' role') ≤ p)) (sym places) (subst (λ n. IfSome (places_in role) (λ p. n ≤ p)) (sym same) placed)

-- the same call with the same answer goes so
pub goes_as : {places : Places} {made call : Call} {i : ℕ} {said told : Told} {store store' : Store} {before after : List Component} → made ≡ call → said ≡ told →
    Goes places call i told store before store' after → Goes places made i said store before store' after
goes_as {places} {made} {call} {i} {said} {told} {store} {store'} {before} {after} is same goes =
    subst (λ one. Goes places one i said store before store' after) (sym is) (subst (λ one. Goes places call i one store before store' after) (sym same) goes)

-- a call that leaves all
pub stays_goes : (places : Places) {store : Store} (components : List Component) (i : ℕ) (d : Component) (call : Call) (o : Outcome) → IsCore store components → i < length components →
    own_step (entry_of (places i) (get_or components i d)) call (own (sessions_in store (roles_of components)) store (get_or components i d)) ≡ o → (told : Told) → told.text ≡ reply_text o.reply →
    told.lines ≡ flat_map log_text o.lines → o.next ≡ own (sessions_in store (roles_of components)) store (get_or components i d) → Goes places call i told store components store components
stays_goes places {store} components i d call o core here is told text lines next =
    let world : World = world_of places store components in
    let outcome = outcome_is places store components i d call here ∙ is in
    let same : own (sessions_in store (roles_of components)) store (get_or components i d) ≡ state_at world.states i
    = sym (get_or-map (own (sessions_in store (roles_of components)) store) components i d nothing here) in
    record {
      answers = record {
        answered = text ∙ ap (λ (x : Outcome). reply_text x.reply) (sym outcome);
        lines = lines ∙ ap (λ (x : Outcome). flat_map log_text x.lines) (sym outcome);
        stepped = sym (ap (λ (x : Outcome). with_state world i x.next) outcome ∙ ap (with_state world i) (next ∙ same) ∙ with_state_same world i);
      };
      core = core;
      homes = λ places at. at;
      leads = λ places leads agrees. agrees;
    }

-- so does one that is refused
pub refused_goes : (places : Places) {store : Store} (components : List Component) (i : ℕ) (d : Component) (call : Call) (refusal : Refusal) → IsCore store components → i < length components →
    own_step (entry_of (places i) (get_or components i d)) call (own (sessions_in store (roles_of components)) store (get_or components i d)) ≡ refused (own (sessions_in store (roles_of components)) store (get_or components i d)) refusal →
    Goes places call i (told_alone (reply_text (Refused refusal))) store components store components
refused_goes places {store} components i d call refusal core here is =
    stays_goes places components i d call (refused (own (sessions_in store (roles_of components)) store (get_or components i d)) refusal) core here is (told_alone (reply_text (Refused refusal))) refl refl refl

-- a place in the world is one among the components
pub place_within : (places : Places) (store : Store) (components : List Component) (world : World) (i : ℕ) → world_of places store components ≡ world → i < length world.entries → i < length components
place_within places store components world i is within =
    omega (arith, within, ap (λ (w : World). length w.entries) is, length-entries places components)

-- components that are lent are a sound core's, and a place in its world is one among them
pub core_at : (places : Places) (store : Store) (components lent : List Component) (world : World) (i : ℕ) → lent ≡ components → IsCore store components → world_of places store components ≡ world →
    i < length world.entries → IsCoreAt i store lent
core_at places store components lent world i is core same within =
    record { core = subst (IsCore store) (sym is) core; caller = place_within places store lent world i (ap (world_of places store) is ∙ same) within }

-- a call leaves as many components
pub same_many : {places : Places} {store : Store} {components : List Component} {i : ℕ} {call : Call} {reply : Told} {store' : Store} {after : List Component} →
    Answers places call i reply store components store' after → length after ≡ length components
same_many {places} {components = components} {after = after} answers =
    sym (length-entries places after) ∙ ap (λ (w : World). length w.entries) answers.stepped ∙ length-entries places components
