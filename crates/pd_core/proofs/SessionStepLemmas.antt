-- What each call of a session is to the model, in the own state of the script that makes it.
use Rattle.std.proofs.Common.{◌≡◌, ◌≢◌, ℕ, ◌&&◌, true, false, cond, eqb, eqb-true, true≢false, List, [], Some, is_some, refl, sym, ap, subst, ◌∙◌, arith, inl, inr}
use Rattle.std.proofs.lemmas.Bool.{cases_eq, false_from_ne_true}
use Rattle.std.proofs.lemmas.Bool.Decides.{nat_tests}
use Rattle.std.proofs.lemmas.Option.{none-some, same_Some}
use Rattle.std.specs.Prelude.{Option, None, Ok, ◌==◌, if◌then◌else◌}
use Rattle.std.specs.Option.{option_map, option_and_then}
use Rattle.std.specs.FinMap.{get, insert, remove}
use Rattle.trade_base.specs.declared.id.SessionId.{SessionId}
use Rattle.own_model.specs.Reserve.{no_reserve}
use Rattle.own_model.specs.Account.{Account, parted_with, shortage}
use Rattle.own_model.specs.Call.{Call}
use Rattle.own_model.specs.Call.Call.{Open, Upgrade, CallSession, Close}
use Rattle.own_model.specs.Donation.{raised}
use Rattle.own_model.specs.NatMap.{NatMap, picked}
use Rattle.own_model.specs.OwnHeap.{OwnHeap}
use Rattle.own_model.specs.OwnState.{OwnState, Object, NamedBuffer, new_selector, session_named, is_buffer_of, buffer_of, bytes_of_buffer}
use Rattle.own_model.specs.OwnState.Object.{Dataspace as ADataspace, OpenSession, Buffer as ABuffer}
use Rattle.own_model.specs.OwnStep.{Outcome, entry_step, unless, opened_by, session_opened, upgraded_by, session_upgraded, session_called, session_served, session_closed, with_buffer, selectors_lent, regions_lent, completed}
use Rattle.own_model.specs.Region.{Region}
use Rattle.own_model.specs.Reply.{Reply, LogLine}
use Rattle.own_model.specs.Reply.Reply.{Selected, Done, Told}
use Rattle.own_model.specs.Session.{Session as AnOpenSession, Wish, wish, donation_refusal, new_session, upgraded, Served, served}
use Rattle.own_model.specs.SessionArgs.{Arguments, arguments_of}
use Rattle.own_model.specs.StartList.{Entry}
use Rattle.own_model.specs.StartList.Kind.{Script as AScript}
use Rattle.own_model.proofs.LentLemmas.{buffer_none, only_buffer}
use Rattle.own_model.proofs.NatMapLemmas.{same, get-picked, get-picked_at, get-insert_same, get-insert_other, get-remove_same, get-remove_other}
use Rattle.own_model.proofs.NewSelector.{new_selector_free}
use Rattle.own_model.proofs.RegionLemmas.{renamed-without}
use Rattle.cap_space.specs.declared.cap.Cap.{Cap}
use Rattle.cap_space.specs.declared.cap.Cap.TheVariants.{Dataspace, RpcObject, Session, Buffer}
use Rattle.dataspace_core.specs.Store.{Part, account_of}
use Rattle.pd_core.specs.Own.{Sessions, HasSessions, object_of, selector_of, regions_of, own_of, Lent}
use Rattle.pd_core.specs.Sessions.{AgreeBut, IsLentAt, HoldsLent}
use Rattle.pd_core.specs.Sound.{buffer_at, lent_from, IsOne, AreNamed, IsLawful}
use Rattle.pd_core.proofs.ScriptNameLemmas.{is_named, named_is}
use Rattle.pd_core.proofs.SessionOwnLemmas.{TurnsTables, regions_after, regions_turn, lent_names, lawful_step, lawful_whichever}

-- ---- sessions with another one

-- sessions with another one under a server's entry and a key there
abbrev pub with_session : Sessions → ℕ → ℕ → AnOpenSession → Sessions
with_session sessions server key session other_server other =
    if other_server == server && other == key then Some session else sessions other_server other

-- it is the other one under its key
pub with_session_same : (S : Sessions) (server key : ℕ) (x : AnOpenSession) → with_session S server key x server key ≡ Some x
with_session_same S server key x = grind (arith, nat_tests)

-- under another key there is what was there
pub with_session_other : (S : Sessions) (server key other_server other : ℕ) (x : AnOpenSession) → ((other_server ≡ server) → (other ≡ key) → ⊥) → with_session S server key x other_server other ≡ S other_server other
with_session_other S server key other_server other x apart = grind (arith, nat_tests)

-- sessions of which each is open, and one of them is this
pub some_sessions : ℕ → ℕ → AnOpenSession → Sessions
some_sessions server key x = with_session (λ _ _. Some x) server key x

pub some_are_open : (server key : ℕ) (x : AnOpenSession) (caps : NatMap Cap) → HasSessions (some_sessions server key x) caps
unfolding some_sessions
some_are_open server key x caps q other session there = elim (eqb other server && eqb session.0 key) as (λ b. is_some (cond b (Some x) (Some x)) ≡ true) [ true ↦ refl | false ↦ refl ]

pub some_same : (server key : ℕ) (x : AnOpenSession) → some_sessions server key x server key ≡ Some x
unfolding some_sessions
some_same server key x = with_session_same (λ _ _. Some x) server key x

-- an own state that is read out of parts hasn't exited
stays_here : (L : Lent) (S : Sessions) (p : Part) (caps : NatMap Cap) (user : NatMap Region) (heap : OwnHeap) (sliced : NatMap (List ℕ)) → (own_of L S p caps user heap sliced).gone ≡ false
unfolding own_of
stays_here L S p caps user heap sliced = refl

-- what a close comes to, by the buffer before it and after
abbrev closed_with : ℕ → AnOpenSession → Option NamedBuffer → Option (List ℕ) → OwnState → Outcome
closed_with q x old new s =
    let t = with_buffer q old new s in
    record { reply = Done; lines = []; next = record t { account = raised s.account x.account.ram_limit x.account.caps_limit; selectors = remove t.selectors q } }

-- ---- what a selector names

-- what a capability is to a component depends on the bytes of a dataspace, its own or lent, and on a session
objects_same : (L L' : Lent) (S S' : Sessions) (p p' : Part) (o : Option Cap) → p'.spaces ≡ p.spaces → ((server : ℕ) (session : SessionId) → o ≡ Some (Session server session) → S' server session.0 ≡ S server session.0) →
    ((by key : ℕ) → buffer_at o ≡ Some (by, key) → L' key ≡ L key) → option_and_then (object_of L' S' p') o ≡ option_and_then (object_of L S p) o
objects_same L L' S S' p p' None spaces agrees alike = refl
objects_same L L' S S' p p' (Some (Dataspace ds)) spaces agrees alike = ap (λ (m : NatMap (List ℕ)). option_map ADataspace (get m ds.0)) spaces
objects_same L L' S S' p p' (Some RpcObject) spaces agrees alike = refl
objects_same L L' S S' p p' (Some (Session server session)) spaces agrees alike = ap (option_map OpenSession) (agrees server session refl)
objects_same L L' S S' p p' (Some (Buffer of session)) spaces agrees alike = ap (λ bytes. Some (ABuffer session.0 bytes)) (alike session.0 of.0 refl)

-- a buffer is one of its session, with the bytes that are lent
lent_object : (L : Lent) (S : Sessions) (p : Part) (q : ℕ) (o : Option Cap) (lent : Option ℕ) → buffer_at o ≡ lent_from q lent → (lent ≡ None → o ≡ None) →
    option_and_then (object_of L S p) o ≡ option_map (ABuffer q) (option_map L lent)
lent_object L S p q o None has free = ap (option_and_then (object_of L S p)) (free refl)
lent_object L S p q None (Some key) has free = absurd (none-some (q, key) has)
lent_object L S p q (Some (Dataspace ds)) (Some key) has free = absurd (none-some (q, key) has)
lent_object L S p q (Some RpcObject) (Some key) has free = absurd (none-some (q, key) has)
lent_object L S p q (Some (Session server session)) (Some key) has free = absurd (none-some (q, key) has)
lent_object L S p q (Some (Buffer of session)) (Some key) has free = ap (λ (x : ℕ × ℕ). Some (ABuffer x.0 (L x.1))) (same_Some (session.0, of.0) (q, key) has)

-- nothing else is a buffer
space_is_none : (q : ℕ) (o : Option (List ℕ)) → is_buffer_of q (option_map ADataspace o) ≡ false
space_is_none q None = refl
space_is_none q (Some bytes) = refl

session_is_none : (q : ℕ) (o : Option AnOpenSession) → is_buffer_of q (option_map OpenSession o) ≡ false
session_is_none q None = refl
session_is_none q (Some session) = refl

lent_of_object : (L : Lent) (S : Sessions) (p : Part) (q : ℕ) (o : Option Cap) → is_buffer_of q (option_and_then (object_of L S p) o) ≡ true → (key : ℕ) × (buffer_at o ≡ Some (q, key))
lent_of_object L S p q None is = absurd (true≢false (sym is))
lent_of_object L S p q (Some (Dataspace ds)) is = absurd (true≢false (sym is ∙ space_is_none q (get p.spaces ds.0)))
lent_of_object L S p q (Some RpcObject) is = absurd (true≢false (sym is))
lent_of_object L S p q (Some (Session server session)) is = absurd (true≢false (sym is ∙ session_is_none q (S server session.0)))
lent_of_object L S p q (Some (Buffer of session)) is = (of.0, ap (λ n. Some (n, of.0)) (eqb-true session.0 q is))

-- ---- the buffer of a session

-- as its client has it
abbrev pub named_at : Lent → ℕ → ℕ → NamedBuffer
named_at L k key = record { selector = k; bytes = L key }

-- its bytes
bytes_named : (L : Lent) (k : ℕ) (lent : Option ℕ) → bytes_of_buffer (option_map (named_at L k) lent) ≡ option_map L lent
bytes_named L k None = refl
bytes_named L k (Some key) = refl

module _ (L : Lent) (S : Sessions) (p : Part) (caps : NatMap Cap) (q k : ℕ) where
  abbrev objects : NatMap Object
  objects = picked (object_of L S p) caps

  has_lent : (j : ℕ) → is_buffer_of q (get objects j) ≡ true → (key : ℕ) × (buffer_at (get caps j) ≡ Some (q, key))
  has_lent j is = lent_of_object L S p q (get caps j) (ap (is_buffer_of q) (sym (get-picked (object_of L S p) caps j)) ∙ is)

  -- it is found under its selector, and none is where the session lends nothing
  pub found_buffer : (lent : Option ℕ) → HoldsLent caps q k lent → buffer_of q (picked (object_of L S p) caps) ≡ option_map (named_at L k) lent
  found_buffer None holds =
      buffer_none q objects (λ j. false_from_ne_true (is_buffer_of q (get objects j)) (λ is. let has = has_lent j is in none-some has.0 (holds.only j has.0 has.1).1))
  found_buffer (Some key) holds =
      only_buffer q objects k (L key) (get-picked (object_of L S p) caps k ∙ lent_object L S p q (get caps k) (Some key) holds.at.has holds.at.free)
      (λ j is. let has = has_lent j is in (holds.only j has.0 has.1).0)

module _ (m : NatMap Object) (q k : ℕ) (L L' : Lent) where
  -- what selectors name after a request of a session that lent this and lends that
  abbrev lent_after : Option ℕ → Option ℕ → NatMap Object
  lent_after lent lent' = selectors_lent q (option_map (named_at L k) lent) (option_map L' lent') m

  -- its selector names what is lent
  lent_there : (lent lent' : Option ℕ) → (lent ≡ None → k ≡ new_selector m) → (s : ℕ) → s ≡ k → get (lent_after lent lent') s ≡ option_map (ABuffer q) (option_map L' lent')
  lent_there None None new s at = ap (get m) (at ∙ new refl) ∙ new_selector_free m
  lent_there None (Some key) new s at = get-insert_same m (new_selector m) (ABuffer q (L' key)) s (at ∙ new refl)
  lent_there (Some key) (Some other) new s at = get-insert_same m k (ABuffer q (L' other)) s at
  lent_there (Some key) None new s at = get-remove_same m k s at

  -- and others what they did
  lent_beside : (lent lent' : Option ℕ) → (lent ≡ None → k ≡ new_selector m) → (s : ℕ) → s ≢ k → get (lent_after lent lent') s ≡ get m s
  lent_beside None None new s apart = refl
  lent_beside None (Some key) new s apart = get-insert_other m (new_selector m) (ABuffer q (L' key)) s (λ e. apart (e ∙ sym (new refl)))
  lent_beside (Some key) (Some other) new s apart = get-insert_other m k (ABuffer q (L' other)) s apart
  lent_beside (Some key) None new s apart = get-remove_other m k s apart

  -- the reply tells the selector
  told_under : (lent lent' : Option ℕ) → (lent ≡ None → k ≡ new_selector m) → (reply : List ℕ) →
      completed (option_map (named_at L k) lent) (option_map L' lent') (new_selector m) reply ≡ completed (option_map (named_at L k) lent) (option_map L' lent') k reply
  told_under None lent' new reply = ap (λ n. completed None (option_map L' lent') n reply) (sym (new refl))
  told_under (Some key) lent' new reply = refl

-- regions lose those of what is given back
module _ (L L' : Lent) (caps : NatMap Cap) (q k : ℕ) (one : IsOne caps) (user : NatMap Region) where
  regions_given : (lent lent' : Option ℕ) → IsLentAt caps q k lent →
      regions_of caps (regions_after lent lent' user) ≡ regions_lent (option_map (named_at L k) lent) (option_map L' lent') (regions_of caps user)
  unfolding regions_of
  regions_given None lent' at = refl
  regions_given (Some key) (Some other) at = refl
  regions_given (Some key) None at =
      let names = lent_names (Some key) at in
      renamed-without (selector_of caps) key k (named_is caps one k key names) (λ thing is. same_Some thing key (sym (is_named caps thing k is) ∙ names)) user

-- ---- what a call of a session changes

-- the account's numbers, the session, the bytes of what it lends, and the tables so
pub record ChangesTwo (L L' : Lent) (S S' : Sessions) (p p' : Part) (caps caps' : NatMap Cap) (user user' : NatMap Region) (q k : ℕ) (lent lent' : Option ℕ) : Type 0 where
  pub tables : TurnsTables caps caps' user user' q k lent lent'
  pub spaces : p'.spaces ≡ p.spaces
  pub agrees : (s server : ℕ) (session : SessionId) → s ≢ q → get caps s ≡ Some (Session server session) → S' server session.0 ≡ S server session.0
  pub alike : (s by key : ℕ) → s ≢ k → buffer_at (get caps s) ≡ Some (by, key) → L' key ≡ L key

-- where no other selector names the session that changes, each other one names a session that stays
pub others_agree : (caps : NatMap Cap) (q server : ℕ) (session : SessionId) → ((s : ℕ) (at : SessionId) → get caps s ≡ Some (Session server at) → at.0 ≡ session.0 → s ≡ q) → (S S' : Sessions) → AgreeBut S S' server session.0 →
    (s other : ℕ) (at : SessionId) → s ≢ q → get caps s ≡ Some (Session other at) → S' other at.0 ≡ S other at.0
others_agree caps q server session once S S' agree s other at apart is = agree other at.0 (λ e f. apart (once s at (subst (λ n. get caps s ≡ Some (Session n at)) e is) f))

module _ {L L' : Lent} {S S' : Sessions} {p p' : Part} {caps caps' : NatMap Cap} {user user' : NatMap Region} {q k : ℕ} {lent lent' : Option ℕ} (changes : ChangesTwo L L' S S' p p' caps caps' user user' q k lent lent')
    (heap : OwnHeap) (sliced : NatMap (List ℕ)) (one : IsOne caps) (attached : AreNamed caps user) where
  -- before and after
  abbrev before : OwnState
  before = own_of L S p caps user heap sliced

  abbrev after : OwnState
  after = own_of L' S' p' caps' user' heap sliced

  abbrev m : NatMap Object
  m = picked (object_of L S p) caps

  abbrev m' : NatMap Object
  m' = picked (object_of L' S' p') caps'

  abbrev old : Option NamedBuffer
  old = option_map (named_at L k) lent

  abbrev new : Option (List ℕ)
  new = option_map L' lent'

  -- another selector names what it named
  elsewhere : (s : ℕ) → s ≢ q → s ≢ k → get m' s ≡ get m s
  elsewhere s apart beside =
      get-picked (object_of L' S' p') caps' s ∙ ap (option_and_then (object_of L' S' p')) (changes.tables.others s apart beside)
      ∙ objects_same L L' S S' p p' (get caps s) changes.spaces (λ server session is. changes.agrees s server session apart is) (λ by key is. changes.alike s by key beside is)
      ∙ sym (get-picked (object_of L S p) caps s)

  -- the buffer's what is lent, before and after
  was_lent : (s : ℕ) → s ≡ k → get m s ≡ option_map (ABuffer q) (option_map L lent)
  was_lent s at = ap (get m) at ∙ get-picked (object_of L S p) caps k ∙ lent_object L S p q (get caps k) lent changes.tables.before.has changes.tables.before.free

  is_lent : (s : ℕ) → s ≡ k → get m' s ≡ option_map (ABuffer q) (option_map L' lent')
  is_lent s at = ap (get m') at ∙ get-picked (object_of L' S' p') caps' k ∙ lent_object L' S' p' q (get caps' k) lent' changes.tables.after.has changes.tables.after.free

  -- beside the session's selector it is what a request leaves
  beside_it : (lent ≡ None → k ≡ new_selector m) → (s : ℕ) → s ≢ q → get m' s ≡ get (selectors_lent q (option_map (named_at L k) lent) (option_map L' lent') m) s
  beside_it is_new s apart = elim (cases_eq s k) [
    | inl at ↦ is_lent s at ∙ sym (lent_there m q k L L' lent lent' is_new s at)
    | inr beside ↦ elsewhere s apart beside ∙ sym (lent_beside m q k L L' lent lent' is_new s beside)
  ]

  -- ---- the session's selector has it after the call

  module _ (server : ℕ) (session : SessionId) (x : AnOpenSession) (names : get caps' q ≡ Some (Session server session)) (is : S' server session.0 ≡ Some x) where
    here : (s : ℕ) → s ≡ q → get m' s ≡ Some (OpenSession x)
    here s at = ap (get m') at ∙ get-picked_at (object_of L' S' p') caps' q (Session server session) names ∙ ap (option_map OpenSession) is

    -- and nothing of what it lends changes
    pub own_put : (a : Account) → account_of p' ≡ a → option_map L' lent' ≡ option_map L lent → regions_after lent lent' user ≡ user → after ≡ record before { account = a; selectors = insert before.selectors q (OpenSession x) }
    unfolding own_of
    own_put a account alike whole =
        let selectors : m' ≡ insert m q (OpenSession x) = same _ _ (λ s. elim (cases_eq s q) [
          | inl at ↦ here s at ∙ sym (get-insert_same m q (OpenSession x) s at)
          | inr apart ↦ elim (cases_eq s k) [
            | inl at ↦ is_lent s at ∙ ap (option_map (ABuffer q)) alike ∙ sym (was_lent s at) ∙ sym (get-insert_other m q (OpenSession x) s apart)
            | inr beside ↦ elsewhere s apart beside ∙ sym (get-insert_other m q (OpenSession x) s apart)
          ]
        ]) in
        let regions = regions_turn changes.tables one attached ∙ ap (regions_of caps) whole in
        λ i. record { account = account i; reserve = no_reserve; selectors = selectors i; regions = regions i; heap = heap; sliced = sliced; gone = false }

    -- or a request makes it
    own_served : (lent ≡ None → k ≡ new_selector m) → account_of p' ≡ account_of p →
        after ≡ record (with_buffer q (option_map (named_at L k) lent) (option_map L' lent') before) { selectors = insert (selectors_lent q (option_map (named_at L k) lent) (option_map L' lent') m) q (OpenSession x) }
    unfolding own_of
    own_served is_new account =
        let t = selectors_lent q (option_map (named_at L k) lent) (option_map L' lent') m in
        let selectors : m' ≡ insert t q (OpenSession x) = same _ _ (λ s. elim (cases_eq s q) [
          | inl at ↦ here s at ∙ sym (get-insert_same t q (OpenSession x) s at)
          | inr apart ↦ beside_it is_new s apart ∙ sym (get-insert_other t q (OpenSession x) s apart)
        ]) in
        let regions = regions_turn changes.tables one attached ∙ regions_given L L' caps q k one user lent lent' changes.tables.before in
        λ i. record { account = account i; reserve = no_reserve; selectors = selectors i; regions = regions i; heap = heap; sliced = sliced; gone = false }

  -- ---- it has nothing

  own_gone : (a : Account) → get caps' q ≡ None → (lent ≡ None → k ≡ new_selector m) → account_of p' ≡ a →
      after ≡ record (with_buffer q (option_map (named_at L k) lent) (option_map L' lent') before) { account = a; selectors = remove (selectors_lent q (option_map (named_at L k) lent) (option_map L' lent') m) q }
  unfolding own_of
  own_gone a gone is_new account =
      let t = selectors_lent q (option_map (named_at L k) lent) (option_map L' lent') m in
      let selectors : m' ≡ remove t q = same _ _ (λ s. elim (cases_eq s q) [
        | inl at ↦ ap (get m') at ∙ get-picked (object_of L' S' p') caps' q ∙ ap (option_and_then (object_of L' S' p')) gone ∙ sym (get-remove_same t q s at)
        | inr apart ↦ beside_it is_new s apart ∙ sym (get-remove_other t q s apart)
      ]) in
      let regions = regions_turn changes.tables one attached ∙ regions_given L L' caps q k one user lent lent' changes.tables.before in
      λ i. record { account = account i; reserve = no_reserve; selectors = selectors i; regions = regions i; heap = heap; sliced = sliced; gone = false }

  -- ---- calls of sessions

  module _ (entry : Entry) (server : ℕ) (session : SessionId) (x : AnOpenSession) (named : get caps q ≡ Some (Session server session)) (is : S server session.0 ≡ Some x) where
    -- the selector names it before
    named_before : session_named (get before.selectors q) ≡ Some x
    unfolding own_of
    named_before = ap session_named (get-picked_at (object_of L S p) caps q (Session server session) named ∙ ap (option_map OpenSession) is)

    -- more is donated for it
    pub upgrades_own : (text : List ℕ) (more : Arguments) → arguments_of text ≡ Some more → shortage (account_of p) more.ram more.caps ≡ None →
        get caps' q ≡ Some (Session server session) → S' server session.0 ≡ Some (upgraded x more.ram more.caps) → account_of p' ≡ parted_with (account_of p) more.ram more.caps →
        option_map L' lent' ≡ option_map L lent → regions_after lent lent' user ≡ user →
        entry_step entry (Upgrade q text) before ≡ record { reply = Done; lines = []; next = after }
    unfolding own_of
    upgrades_own text more reads enough names put account alike whole =
        (λ i. upgraded_by q (named_before i) (reads i) before)
        ∙ ap (λ o. unless o before (session_upgraded q x more before)) enough
        ∙ ap {B = Outcome} (λ s. record { reply = Done; lines = []; next = s }) (sym (own_put server session (upgraded x more.ram more.caps) names put _ account alike whole))

    module _ (holds : HoldsLent caps q k lent) (new_is : new_selector before.selectors ≡ new_selector caps) where
      -- its buffer's selector is the new one where it has none
      is_new : lent ≡ None → k ≡ new_selector m
      unfolding own_of
      is_new none = holds.new none ∙ sym new_is

      found : buffer_of q before.selectors ≡ option_map (named_at L k) lent
      unfolding own_of
      found = found_buffer L S p caps q k lent holds

      -- it serves a request
      pub serves_own : (request : List ℕ) → get caps' q ≡ Some (Session server session) → S' server session.0 ≡ Some (served (option_map L lent) x request).session → account_of p' ≡ account_of p →
          (served (option_map L lent) x request).buffer ≡ option_map L' lent' →
          entry_step entry (CallSession q request) before ≡ record {
            reply = Told (completed (option_map (named_at L k) lent) (option_map L' lent') k (served (option_map L lent) x request).reply);
            lines = (served (option_map L lent) x request).lines;
            next = after;
          }
      unfolding own_of
      serves_own request names put account bytes =
          let o : Served = served (option_map L lent) x request in
          ap (λ n. session_called q n request before) named_before
          ∙ ap (λ b. session_served q b (served (bytes_of_buffer b) x request) before) found
          ∙ ap (λ b. session_served q (option_map (named_at L k) lent) (served b x request) before) (bytes_named L k lent)
          ∙ ap (λ b. session_served q (option_map (named_at L k) lent) (record o { buffer = b }) before) bytes
          ∙ (λ i. record { reply = Told (told_under m q k L L' lent lent' is_new o.reply i); lines = o.lines; next = sym (own_served server session o.session names put is_new account) i })

      -- it is closed
      pub closes_own : lent' ≡ None → get caps' q ≡ None → account_of p' ≡ raised (account_of p) x.account.ram_limit x.account.caps_limit →
          entry_step entry (Close q) before ≡ record { reply = Done; lines = []; next = after }
      unfolding own_of
      closes_own none gone account =
          ap (λ n. session_closed q n before) named_before
          ∙ ap (λ b. closed_with q x b None before) found
          ∙ ap (λ b. closed_with q x (option_map (named_at L k) lent) b before) (sym (ap (option_map L') none))
          ∙ ap {B = Outcome} (λ s. record { reply = Done; lines = []; next = s }) (sym (own_gone _ gone is_new account))

  -- a session is opened
  pub opens_own : (entry : Entry) (service text : List ℕ) (w : Wish) (server : ℕ) (session : SessionId) → wish entry.label entry.routes service text ≡ Ok w → donation_refusal (account_of p) w.ram w.caps ≡ None →
      q ≡ new_selector before.selectors → get caps' q ≡ Some (Session server session) → S' server session.0 ≡ Some (new_session w) → account_of p' ≡ parted_with (account_of p) w.ram w.caps →
      option_map L' lent' ≡ option_map L lent → regions_after lent lent' user ≡ user →
      entry_step entry (Open service text) before ≡ record { reply = Selected q; lines = []; next = after }
  unfolding own_of
  opens_own entry service text w server session asks enough least names put account alike whole =
      ap (λ r. opened_by r before) asks
      ∙ ap (λ o. unless o before (session_opened w before)) enough
      ∙ ap {B = Outcome} (λ n. record { reply = Selected n; lines = []; next = record before { account = parted_with (account_of p) w.ram w.caps; selectors = insert before.selectors n (OpenSession (new_session w)) } }) (sym least)
      ∙ ap {B = Outcome} (λ s. record { reply = Selected q; lines = []; next = s }) (sym (own_put server session (new_session w) names put _ account alike whole))

  -- ---- what is lawful stays so

  -- where the model's call makes the one of the other, for some sessions, it is lawful for all
  pub lawful_after : (entry : Entry) (call : Call) (reply : Reply) (lines : List LogLine) → entry.kind ≡ AScript → entry_step entry call before ≡ record { reply = reply; lines = lines; next = after } → IsLawful before →
      (any : Sessions) → IsLawful (own_of L' any p' caps' user' heap sliced)
  lawful_after entry call reply lines script steps law any =
      lawful_whichever L' p' caps' user' heap sliced S' any (subst (λ (o : Outcome). IsLawful o.next) steps (lawful_step entry call before script (stays_here L S p caps user heap sliced) law))
