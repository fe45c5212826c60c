-- Calls leave each buffer to an open session, which has no other.
use Rattle.std.proofs.Common.{◌≡◌, ◌≢◌, ◌⊎◌, inl, inr, ℕ, true, false, eqb, List, is_some, IsSome, Some, refl, sym, ap, subst, ◌∙◌, eqb-true, true≢false}
use Rattle.std.proofs.lemmas.Bool.{eqb-false, false_from_ne_true}
use Rattle.std.specs.Prelude.{Option, None}
use Rattle.std.specs.FinMap.{get, insert, remove}
use Rattle.own_model.proofs.LentLemmas.{buffer_is, buffer_there, no_buffer, lent_still}
use Rattle.own_model.proofs.NatMapLemmas.{get-empty, get-insert_same, get-insert_other, get-remove_same, get-remove_other, alike_insert, alike_remove, apart_from_free, some_of}
use Rattle.own_model.proofs.SessionLemmas.{named_there}
use Rattle.own_model.proofs.NewSelector.{new_selector_free}
use Rattle.own_model.proofs.StepLemmas.{KeptByEffects, KeptBySessions}
use Rattle.own_model.proofs.StepTableLemmas.{run_keeps}
use Rattle.own_model.specs.NatMap.{NatMap}
use Rattle.own_model.specs.OwnState.{OwnState, Object, NamedBuffer, is_buffer_of, buffer_of, bytes_of_buffer, new_selector, zeros, object_with, session_named}
use Rattle.own_model.specs.OwnState.Object.{Dataspace, RpcObject, OpenSession, Buffer}
use Rattle.own_model.specs.OwnStep.{selectors_lent, exited_state}
use Rattle.own_model.specs.Session.{Session, new_session, upgraded, served}
use Rattle.own_model.specs.SharedBufferTheorems.{StartsLent, RunKeepsLent}
use Rattle.own_model.specs.Sound.{AreLent}
use Rattle.own_model.specs.StartList.{start_state}
use Rattle.trade_base.specs.Page.{page_of}

-- ---- buffers that are left

-- where each buffer that is left was one, and is of an open session, each is of one, which has no other
lent_left : (m n : NatMap Object) → AreLent m → ((k q : ℕ) → is_buffer_of q (get n k) ≡ true → (is_buffer_of q (get m k) ≡ true) × IsSome (session_named (get n q))) → AreLent n
lent_left m n h left = record {
  open_session = λ k q is. (left k q is).1;
  only = λ j k q one other. h.only j k q (left j q one).0 (left k q other).0;
}

-- so it is where each selector names a buffer of the same session as before, and a session where one was
lent_alike : (m n : NatMap Object) → ((q k : ℕ) → is_buffer_of q (get n k) ≡ is_buffer_of q (get m k)) → ((k : ℕ) → is_some (session_named (get n k)) ≡ is_some (session_named (get m k))) → AreLent m → AreLent n
lent_alike m n buffers sessions h = lent_left m n h (λ k q is. let was = sym (buffers q k) ∙ is in (was, sessions q ∙ h.open_session k q was))

-- ---- calls that are of no session

module _ (m : NatMap Object) (h : AreLent m) where
  -- what is neither a session nor a buffer comes in place of nothing
  pub lent_new : (object : Object) → ((q : ℕ) → is_buffer_of q (Some object) ≡ false) → session_named (Some object) ≡ None → AreLent (insert m (new_selector m) object)
  lent_new object no_buffers no_session =
      let key = new_selector m in
      let free = new_selector_free m in
      lent_alike m (insert m key object)
      (λ q. alike_insert (is_buffer_of q) m key object (no_buffers q ∙ ap (is_buffer_of q) (sym free)))
      (alike_insert (λ o. is_some (session_named o)) m key object (ap is_some no_session ∙ ap (λ o. is_some (session_named o)) (sym free))) h

  -- or goes
  pub lent_gone : (k : ℕ) (object : Object) → get m k ≡ Some object → ((q : ℕ) → is_buffer_of q (Some object) ≡ false) → session_named (Some object) ≡ None → AreLent (remove m k)
  lent_gone k object there no_buffers no_session =
      lent_alike m (remove m k)
      (λ q. alike_remove (is_buffer_of q) m k (sym (no_buffers q) ∙ ap (is_buffer_of q) (sym there)))
      (alike_remove (λ o. is_some (session_named o)) m k (ap is_some (sym no_session) ∙ ap (λ o. is_some (session_named o)) (sym there))) h

  -- an object of the same kind comes in place of one
  pub lent_put : (k : ℕ) (old new : Object) → get m k ≡ Some old → ((q : ℕ) → is_buffer_of q (Some new) ≡ is_buffer_of q (Some old)) → is_some (session_named (Some new)) ≡ is_some (session_named (Some old)) → AreLent (insert m k new)
  lent_put k old new there buffers sessions =
      lent_alike m (insert m k new)
      (λ q. alike_insert (is_buffer_of q) m k new (buffers q ∙ ap (is_buffer_of q) (sym there)))
      (alike_insert (λ o. is_some (session_named o)) m k new (sessions ∙ ap (λ o. is_some (session_named o)) (sym there))) h

-- bytes put over others leave the kind
buffers_with : (object : Object) (offset : ℕ) (part : List ℕ) (q : ℕ) → is_buffer_of q (Some (object_with object offset part)) ≡ is_buffer_of q (Some object)
buffers_with (Dataspace bytes) offset part q = refl
buffers_with RpcObject offset part q = refl
buffers_with (OpenSession session) offset part q = refl
buffers_with (Buffer session bytes) offset part q = refl

pub sessions_with : (object : Object) (offset : ℕ) (part : List ℕ) → session_named (Some (object_with object offset part)) ≡ session_named (Some object)
sessions_with (Dataspace bytes) offset part = refl
sessions_with RpcObject offset part = refl
sessions_with (OpenSession session) offset part = refl
sessions_with (Buffer session bytes) offset part = refl

abbrev Lent : OwnState → Type 0
Lent s = AreLent s.selectors

pub effects_lent : (s : OwnState) → Lent s → KeptByEffects Lent s
effects_lent s h = record {
  allocates = λ n accepted. lent_new s.selectors h (Dataspace (zeros (page_of n))) (λ q. refl) refl;
  frees = λ selector bytes there. lent_gone s.selectors h selector (Dataspace bytes) there (λ q. refl) refl;
  attaches = λ selector address bytes there can room. h;
  detaches = λ address. h;
  pokes = λ selector offset bytes object there. lent_put s.selectors h selector object (object_with object offset bytes) there (buffers_with object offset bytes) (ap is_some (sessions_with object offset bytes));
  pokes_payload = λ address offset bytes payload there. h;
  pokes_block = λ address offset bytes payload there. h;
  takes = λ n hole best. h;
  grows = λ n start accepted gap. h;
  takes_large = λ n start large accepted gap. h;
  gives = λ address payload there small. h;
  gives_large = λ address bytes there. h;
  slices = λ n start accepted gap. h;
  unslices = λ address payload there. h;
  allocates_cap = λ accepted. lent_new s.selectors h RpcObject (λ q. refl) refl;
  frees_cap = λ selector there. lent_gone s.selectors h selector RpcObject there (λ q. refl) refl;
}

-- ---- calls of sessions

-- a buffer is one session's
pub one_session : (q of : ℕ) (bytes : List ℕ) → is_buffer_of q (Some (Buffer of bytes)) ≡ true → of ≡ q
one_session q of bytes is = eqb-true of q is

module _ (m : NatMap Object) (h : AreLent m) (q : ℕ) (x : Session) (there : get m q ≡ Some (OpenSession x)) where
  -- who was open is open after a buffer of the session came, changed or went
  open_after : (old : Option NamedBuffer) (new : Option (List ℕ)) → buffer_of q m ≡ old → (k : ℕ) → IsSome (session_named (get m k)) → IsSome (session_named (get (selectors_lent q old new m) k))
  open_after old new found k is =
      let at = some_of (session_named (get m k)) is in
      ap (λ o. is_some (session_named o)) (lent_still q m old new found k (OpenSession at.0) (named_there (get m k) at.0 at.1) refl)

  module _ (bytes : List ℕ) (none : buffer_of q m ≡ None) where
    abbrev made : NatMap Object
    made = insert m (new_selector m) (Buffer q bytes)

    -- a buffer was there before, or is the one that is made
    made_or_was : (k of : ℕ) → is_buffer_of of (get made k) ≡ true → ((k ≡ new_selector m) × (q ≡ of)) ⊎ (is_buffer_of of (get m k) ≡ true)
    made_or_was k of is = elim (eqb k (new_selector m)) as (λ b. eqb k (new_selector m) ≡ b → ((k ≡ new_selector m) × (q ≡ of)) ⊎ (is_buffer_of of (get m k) ≡ true)) [
      | true ↦ λ at.
          let here = eqb-true k (new_selector m) at in
          inl (here, one_session of q bytes (sym (ap (is_buffer_of of) (get-insert_same m (new_selector m) (Buffer q bytes) k here)) ∙ is))
      | false ↦ λ other. inr (sym (ap (is_buffer_of of) (get-insert_other m (new_selector m) (Buffer q bytes) k (eqb-false k (new_selector m) other))) ∙ is)
    ] refl

    -- the session had none
    none_of_it : (k of : ℕ) → q ≡ of → is_buffer_of of (get m k) ≡ true → ⊥
    none_of_it k of same is = true≢false (sym is ∙ ap (λ p. is_buffer_of p (get m k)) (sym same) ∙ no_buffer q m none k)

    made_open : (k of : ℕ) → ((k ≡ new_selector m) × (q ≡ of)) ⊎ (is_buffer_of of (get m k) ≡ true) → IsSome (session_named (get made of))
    made_open k of (inl here) = subst (λ p. IsSome (session_named (get made p))) here.1 (open_after None (Some bytes) none q (ap (λ o. is_some (session_named o)) there))
    made_open k of (inr was) = open_after None (Some bytes) none of (h.open_session k of was)

    made_only : (j k of : ℕ) → ((j ≡ new_selector m) × (q ≡ of)) ⊎ (is_buffer_of of (get m j) ≡ true) → ((k ≡ new_selector m) × (q ≡ of)) ⊎ (is_buffer_of of (get m k) ≡ true) → j ≡ k
    made_only j k of (inl a) (inl b) = a.0 ∙ sym b.0
    made_only j k of (inl a) (inr b) = absurd (none_of_it k of a.1 b)
    made_only j k of (inr a) (inl b) = absurd (none_of_it j of b.1 a)
    made_only j k of (inr a) (inr b) = h.only j k of a b

    -- a buffer that is made is the session's only one
    lent_made : AreLent made
    lent_made = record {
      open_session = λ k of is. made_open k of (made_or_was k of is);
      only = λ j k of one other. made_only j k of (made_or_was j of one) (made_or_was k of other);
    }

  -- what is there after a removal stands under another selector
  removed : (n : NatMap Object) (i k of : ℕ) → is_buffer_of of (get (remove n i) k) ≡ true → (k ≢ i) × (is_buffer_of of (get n k) ≡ true)
  removed n i k of is = elim (eqb k i) as (λ b. eqb k i ≡ b → (k ≢ i) × (is_buffer_of of (get n k) ≡ true)) [
    | true ↦ λ at. absurd (true≢false (sym is ∙ ap (is_buffer_of of) (get-remove_same n i k (eqb-true k i at))))
    | false ↦ λ other. let apart = eqb-false k i other in (apart, sym (ap (is_buffer_of of) (get-remove_other n i k apart)) ∙ is)
  ] refl

  -- each buffer is of an open session after a buffer came, changed or went
  pub lent_selectors : (old : Option NamedBuffer) (new : Option (List ℕ)) → buffer_of q m ≡ old → AreLent (selectors_lent q old new m)
  lent_selectors None None found = h
  lent_selectors None (Some bytes) found = lent_made bytes found
  lent_selectors (Some b) (Some bytes) found = lent_put m h b.selector (Buffer q b.bytes) (Buffer q bytes) (buffer_there q m b found) (λ of. refl) refl
  lent_selectors (Some b) None found = lent_left m (remove m b.selector) h (λ k of is.
      let was = (removed m b.selector k of is).1 in (was, open_after (Some b) None found of (h.open_session k of was)))

  -- a session in place of one
  pub lent_session : (y : Session) → AreLent (insert m q (OpenSession y))
  lent_session y = lent_put m h q (OpenSession x) (OpenSession y) there (λ of. refl) refl

  -- a buffer that is given back was the session's only one
  pub none_left : (old : Option NamedBuffer) → buffer_of q m ≡ old → (k : ℕ) → is_buffer_of q (get (selectors_lent q old None m) k) ≡ false
  none_left None found k = no_buffer q m found k
  none_left (Some b) found k = false_from_ne_true (is_buffer_of q (get (remove m b.selector) k)) (λ is.
      let left = removed m b.selector k q is in
      left.0 (h.only k b.selector q left.1 (ap (is_buffer_of q) (buffer_there q m b found) ∙ buffer_is q b.bytes)))

  -- so a session can go with it
  pub lent_closed : (old : Option NamedBuffer) → buffer_of q m ≡ old → AreLent (remove (selectors_lent q old None m) q)
  lent_closed old found =
      let n = selectors_lent q old None m in
      let after = lent_selectors old None found in
      lent_left n (remove n q) after (λ k of is.
      let was = (removed n q k of is).1 in
      let other : of ≢ q = λ same. true≢false (sym was ∙ ap (λ p. is_buffer_of p (get n k)) same ∙ none_left old found k) in
      (was, ap (λ o. is_some (session_named o)) (get-remove_other n q of other) ∙ after.open_session k of was))

-- a new session comes in place of nothing
pub lent_opened : (m : NatMap Object) (x : Session) → AreLent m → AreLent (insert m (new_selector m) (OpenSession x))
lent_opened m x h =
    let key = new_selector m in
    let free = new_selector_free m in
    lent_left m (insert m key (OpenSession x)) h (λ k of is.
    let was = sym (alike_insert (is_buffer_of of) m key (OpenSession x) (ap (is_buffer_of of) (sym free)) k) ∙ is in
    let there = h.open_session k of was in
    let at = some_of (session_named (get m of)) there in
    let named = named_there (get m of) at.0 at.1 in
    (was, ap (λ o. is_some (session_named o)) (get-insert_other m key (OpenSession x) of (apart_from_free m key of free (ap is_some named)) ∙ named)))

pub sessions_lent : (s : OwnState) → Lent s → KeptBySessions Lent s
sessions_lent s h = record {
  opens = λ wish accepted. lent_opened s.selectors (new_session wish) h;
  upgrades = λ selector x more there accepted. lent_session s.selectors h selector x there (upgraded x more.ram more.caps);
  serves = λ selector x request there.
      let buffer = buffer_of selector s.selectors in
      let o = served (bytes_of_buffer buffer) x request in
      lent_session (selectors_lent selector buffer o.buffer s.selectors) (lent_selectors s.selectors h selector x there buffer o.buffer refl) selector x
      (lent_still selector s.selectors buffer o.buffer refl selector (OpenSession x) there refl) o.session;
  closes = λ selector x there. lent_closed s.selectors h selector x there (buffer_of selector s.selectors) refl;
}

-- ---- all calls

-- nothing is lent where no selector names anything
none_lent : (m : NatMap Object) → ((k : ℕ) → get m k ≡ None) → AreLent m
none_lent m none = record {
  open_session = λ k q is. absurd (true≢false (sym is ∙ ap (is_buffer_of q) (none k)));
  only = λ j k q one other. absurd (true≢false (sym one ∙ ap (is_buffer_of q) (none j)));
}

pub start_lent : StartsLent
start_lent start = none_lent (start_state start).selectors get-empty

pub gone_lent : AreLent exited_state.selectors
gone_lent = none_lent exited_state.selectors get-empty

pub run_lent : RunKeepsLent
run_lent = run_keeps Lent effects_lent (λ s h. record { requests = λ _ _. h; yields = λ _ _. h }) sessions_lent gone_lent
