-- What is charged to sessions, before and after calls: a session pays for itself, for what its server keeps, and for its buffer.
use Rattle.std.proofs.Common.{◌≡◌, ◌≢◌, ℕ, ◌+◌, true, false, cond, eqb, List, length, is_some, Some, refl, sym, ap, subst, ◌∙◌, eqb-true, true≢false, arith}
use Rattle.std.proofs.lemmas.Bool.{eqb-false, false_from_ne_true}
use Rattle.std.proofs.lemmas.Option.{none-some, same_Some}
use Rattle.std.specs.Prelude.{Option, None, if◌then◌else◌}
use Rattle.std.specs.Option.{option_map}
use Rattle.std.specs.FinMap.{get, insert, remove}
use Rattle.trade_base.specs.Page.{page_of}
use Rattle.own_model.proofs.ByteLemmas.{length-with_part}
use Rattle.own_model.proofs.LentKeptLemmas.{lent_selectors, lent_session, lent_opened, lent_closed, none_left, effects_lent, sessions_lent, sessions_with, one_session, gone_lent}
use Rattle.own_model.proofs.LentLemmas.{is_buffer, buffer_is, buffer_there, no_buffer, only_buffer, buffer_none, lent_still}
use Rattle.own_model.proofs.NatMapLemmas.{get-empty, get-insert_same, get-insert_other, get-remove_same, before_remove, alike_insert, alike_remove}
use Rattle.own_model.proofs.NewSelector.{new_selector_free}
use Rattle.own_model.proofs.ServiceLemmas.{nothing_at_first, serve_charges}
use Rattle.own_model.proofs.SessionLemmas.{named_there, each_lent}
use Rattle.own_model.proofs.StepLemmas.{KeptByEffects, KeptByReserve, KeptBySessions}
use Rattle.own_model.proofs.StepTableLemmas.{run_keeps}
use Rattle.own_model.specs.BufferService.{buffer_ram, buffer_caps}
use Rattle.own_model.specs.NatMap.{NatMap}
use Rattle.own_model.specs.OwnState.{OwnState, Object, NamedBuffer, is_buffer_of, buffer_of, bytes_of_buffer, bytes_named, new_selector, zeros, object_with, session_named}
use Rattle.own_model.specs.OwnState.Object.{Dataspace, RpcObject, OpenSession, Buffer}
use Rattle.own_model.specs.OwnStep.{selectors_lent, exited_state}
use Rattle.own_model.specs.Session.{Session, Wish, new_session, upgraded, served}
use Rattle.own_model.specs.SessionTheorems.{RunKeepsCharges}
use Rattle.own_model.specs.Sound.{AreLent}
use Rattle.own_model.specs.Use.{UsesItsCharge, UseTheirCharges}

-- ---- one session

-- a new session uses what it is charged for
new_charges : (wish : Wish) → UsesItsCharge (new_session wish) None
new_charges wish = let none = nothing_at_first wish.server.kind in record { ram = omega (arith, none.0); caps = omega (arith, none.1) }

-- a buffer is charged by its length
by_length : (a b : Option (List ℕ)) → option_map length a ≡ option_map length b → (buffer_ram a ≡ buffer_ram b) × (buffer_caps a ≡ buffer_caps b)
by_length None None same = (refl, refl)
by_length (Some x) (Some y) same = (same_Some (length x) (length y) same, refl)
by_length None (Some y) same = absurd (none-some (length y) same)
by_length (Some x) None same = absurd (none-some (length x) (sym same))

uses_alike : (x : Session) (a b : Option (List ℕ)) → option_map length a ≡ option_map length b → UsesItsCharge x b → UsesItsCharge x a
uses_alike x a b same h = let alike = by_length a b same in record { ram = omega (arith, h.ram, alike.0); caps = omega (arith, h.caps, alike.1) }

-- ---- how long its buffer is

-- how long what a selector names is, if that is a buffer of the session
abbrev lent_length : ℕ → Option Object → Option ℕ
lent_length q o = if is_buffer_of q o then Some (length (bytes_named o)) else None

-- that of the buffer that is found
abbrev found_length : ℕ → NatMap Object → Option ℕ
found_length q m = option_map length (bytes_of_buffer (buffer_of q m))

-- what isn't a buffer of the session has no length
no_length : (q : ℕ) (o : Option Object) → is_buffer_of q o ≡ false → lent_length q o ≡ None
no_length q o other = ap (λ b. cond b (Some (length (bytes_named o))) None) other

-- what has none isn't one
not_lent : (q : ℕ) (o : Option Object) → lent_length q o ≡ None → is_buffer_of q o ≡ false
not_lent q o none = false_from_ne_true (is_buffer_of q o) (λ is. none-some (length (bytes_named o)) (sym none ∙ ap (λ b. cond b (Some (length (bytes_named o))) None) is))

-- a buffer of the session has its own
its_length : (q : ℕ) (bytes : List ℕ) → lent_length q (Some (Buffer q bytes)) ≡ Some (length bytes)
its_length q bytes = ap (λ b. cond b (Some (length bytes)) None) (buffer_is q bytes)

-- another's has none
other_length : (p q : ℕ) (bytes : List ℕ) → p ≢ q → lent_length p (Some (Buffer q bytes)) ≡ None
other_length p q bytes apart = no_length p (Some (Buffer q bytes)) (false_from_ne_true (is_buffer_of p (Some (Buffer q bytes))) (λ is. apart (sym (one_session p q bytes is))))

-- what has a length is a buffer
lent_is : (q n : ℕ) (o : Option Object) → lent_length q o ≡ Some n → is_buffer_of q o ≡ true
lent_is q n o is = elim (is_buffer_of q o) as (λ b. is_buffer_of q o ≡ b → b ≡ true) [
  | true ↦ λ _. refl
  | false ↦ λ other. absurd (none-some n (sym (no_length q o other) ∙ is))
] refl

-- the length of the only buffer is found
length_found : (q n k : ℕ) (m : NatMap Object) → AreLent m → lent_length q (get m k) ≡ Some n → found_length q m ≡ Some n
length_found q n k m h is =
    let its = lent_is q n (get m k) is in
    let at = is_buffer q (get m k) its in
    ap (λ b. option_map length (bytes_of_buffer b)) (only_buffer q m k at.0 at.1 (λ j other. h.only j k q other its))
    ∙ sym (its_length q at.0) ∙ ap (lent_length q) (sym at.1) ∙ is

-- so it is found in two maps whose buffers of the session are as long
lengths_alike : (q : ℕ) (m n : NatMap Object) → AreLent n → ((k : ℕ) → lent_length q (get n k) ≡ lent_length q (get m k)) → found_length q n ≡ found_length q m
lengths_alike q m n after alike =
    elim (buffer_of q m) as (λ b. buffer_of q m ≡ b → found_length q n ≡ option_map length (bytes_of_buffer b)) [
      | None ↦ λ none. ap (λ b. option_map length (bytes_of_buffer b)) (buffer_none q n (λ k. not_lent q (get n k) (alike k ∙ no_length q (get m k) (no_buffer q m none k))))
      | Some b ↦ λ found. length_found q (length b.bytes) b.selector n after (alike b.selector ∙ ap (lent_length q) (buffer_there q m b found) ∙ its_length q b.bytes)
    ] refl

-- ---- all sessions

-- each session uses what it is charged for
abbrev Charged : NatMap Object → Type 0
Charged m = (q : ℕ) (x : Session) → get m q ≡ Some (OpenSession x) → UsesItsCharge x (bytes_of_buffer (buffer_of q m))

-- and so it does where the same sessions are open, and their buffers are as long
charged_alike : (m n : NatMap Object) → AreLent n → ((q k : ℕ) → lent_length q (get n k) ≡ lent_length q (get m k)) → ((k : ℕ) → session_named (get n k) ≡ session_named (get m k)) → Charged m → Charged n
charged_alike m n after lengths sessions h q x there =
    let was = named_there (get m q) x (sym (sessions q) ∙ ap session_named there) in
    uses_alike x (bytes_of_buffer (buffer_of q n)) (bytes_of_buffer (buffer_of q m)) (lengths_alike q m n after (lengths q)) (h q x was)

-- bytes put over others leave lengths
lengths_with : (q : ℕ) (object : Object) (offset : ℕ) (part : List ℕ) → lent_length q (Some (object_with object offset part)) ≡ lent_length q (Some object)
lengths_with q (Dataspace bytes) offset part = refl
lengths_with q RpcObject offset part = refl
lengths_with q (OpenSession session) offset part = refl
lengths_with q (Buffer session bytes) offset part = ap (λ n. cond (eqb session q) (Some n) None) (length-with_part bytes offset part)

abbrev Pays : OwnState → Type 0
Pays s = AreLent s.selectors × UseTheirCharges s

effects_pay : (s : OwnState) → Pays s → KeptByEffects Pays s
effects_pay s h =
    let m = s.selectors in
    let lent = effects_lent s h.0 in
    let key = new_selector m in
    let free = new_selector_free m in
    record {
      allocates = λ n accepted.
          let space = Dataspace (zeros (page_of n)) in
          let after = lent.allocates n accepted in
          (after, charged_alike m (insert m key space) after (λ q. alike_insert (lent_length q) m key space (ap (lent_length q) (sym free))) (alike_insert session_named m key space (ap session_named (sym free))) h.1);
      frees = λ selector bytes there.
          let after = lent.frees selector bytes there in
          (after, charged_alike m (remove m selector) after (λ q. alike_remove (lent_length q) m selector (ap (lent_length q) (sym there))) (alike_remove session_named m selector (ap session_named (sym there))) h.1);
      attaches = λ selector address bytes there can room. h;
      detaches = λ address. h;
      pokes = λ selector offset bytes object there.
          let new = object_with object offset bytes in
          let after = lent.pokes selector offset bytes object there in (
            after,
            charged_alike m (insert m selector new) after
                (λ q. alike_insert (lent_length q) m selector new (lengths_with q object offset bytes ∙ ap (lent_length q) (sym there)))
                (alike_insert session_named m selector new (sessions_with object offset bytes ∙ ap session_named (sym there))) h.1,
          );
      pokes_payload = λ address offset bytes payload there. h;
      pokes_block = λ address offset bytes payload there. h;
      takes = λ n hole best. h;
      grows = λ n start accepted gap. h;
      takes_large = λ n start large accepted gap. h;
      gives = λ address payload there small. h;
      gives_large = λ address bytes there. h;
      slices = λ n start accepted gap. h;
      unslices = λ address payload there. h;
      allocates_cap = λ accepted.
          let after = lent.allocates_cap accepted in
          (after, charged_alike m (insert m key RpcObject) after (λ q. alike_insert (lent_length q) m key RpcObject (ap (lent_length q) (sym free))) (alike_insert session_named m key RpcObject (ap session_named (sym free))) h.1);
      frees_cap = λ selector there.
          let after = lent.frees_cap selector there in
          (after, charged_alike m (remove m selector) after (λ q. alike_remove (lent_length q) m selector (ap (lent_length q) (sym there))) (alike_remove session_named m selector (ap session_named (sym there))) h.1);
    }

-- ---- calls of sessions

-- a session under a selector of no buffer uses what it is charged for, and so do all others
charged_session : (m : NatMap Object) (q : ℕ) (y : Session) → AreLent (insert m q (OpenSession y)) → ((p : ℕ) → is_buffer_of p (get m q) ≡ false) → UsesItsCharge y (bytes_of_buffer (buffer_of q m)) →
    ((p : ℕ) (z : Session) → p ≢ q → get m p ≡ Some (OpenSession z) → UsesItsCharge z (bytes_of_buffer (buffer_of p m))) → Charged (insert m q (OpenSession y))
charged_session m q y after no_buffers its others p z there =
    let n = insert m q (OpenSession y) in
    let lengths = lengths_alike p m n after (alike_insert (lent_length p) m q (OpenSession y) (sym (no_length p (get m q) (no_buffers p)))) in
    elim (eqb p q) as (λ b. eqb p q ≡ b → UsesItsCharge z (bytes_of_buffer (buffer_of p n))) [
      | true ↦ λ at.
          let here = eqb-true p q at in
          let same : y ≡ z = same_Some y z (ap session_named (sym (get-insert_same m q (OpenSession y) p here) ∙ there)) in
          uses_alike z (bytes_of_buffer (buffer_of p n)) (bytes_of_buffer (buffer_of p m)) lengths (subst (λ w. UsesItsCharge w (bytes_of_buffer (buffer_of p m))) same (subst (λ k. UsesItsCharge y (bytes_of_buffer (buffer_of k m))) (sym here) its))
      | false ↦ λ other.
          let apart = eqb-false p q other in
          uses_alike z (bytes_of_buffer (buffer_of p n)) (bytes_of_buffer (buffer_of p m)) lengths (others p z apart (sym (get-insert_other m q (OpenSession y) p apart) ∙ there))
    ] refl

-- a new session has no buffer
charged_opened : (m : NatMap Object) (wish : Wish) → AreLent m → Charged m → Charged (insert m (new_selector m) (OpenSession (new_session wish)))
charged_opened m wish lent h =
    let key = new_selector m in
    let free = new_selector_free m in
    let none = buffer_none key m (λ k. false_from_ne_true (is_buffer_of key (get m k)) (λ is.
    true≢false (sym (lent.open_session k key is) ∙ ap (λ o. is_some (session_named o)) free))) in
    charged_session m key (new_session wish) (lent_opened m (new_session wish) lent) (λ p. ap (is_buffer_of p) free)
    (subst (λ b. UsesItsCharge (new_session wish) (bytes_of_buffer b)) (sym none) (new_charges wish)) (λ p z apart there. h p z there)

module _ (m : NatMap Object) (lent : AreLent m) (q : ℕ) (x : Session) (there : get m q ≡ Some (OpenSession x)) where
  -- buffers of other sessions are as long as before
  other_lengths : (old : Option NamedBuffer) (new : Option (List ℕ)) → buffer_of q m ≡ old → (p : ℕ) → p ≢ q → (k : ℕ) → lent_length p (get (selectors_lent q old new m) k) ≡ lent_length p (get m k)
  other_lengths None None found p apart = λ k. refl
  other_lengths None (Some bytes) found p apart = alike_insert (lent_length p) m (new_selector m) (Buffer q bytes) (other_length p q bytes apart ∙ ap (lent_length p) (sym (new_selector_free m)))
  other_lengths (Some b) (Some bytes) found p apart =
      alike_insert (lent_length p) m b.selector (Buffer q bytes) (other_length p q bytes apart ∙ sym (other_length p q b.bytes apart) ∙ ap (lent_length p) (sym (buffer_there q m b found)))
  other_lengths (Some b) None found p apart =
      alike_remove (lent_length p) m b.selector (sym (other_length p q b.bytes apart) ∙ ap (lent_length p) (sym (buffer_there q m b found)))

  -- and so other sessions use what they are charged for
  others_charged : (old : Option NamedBuffer) (new : Option (List ℕ)) → buffer_of q m ≡ old → Charged m → (p : ℕ) (z : Session) → p ≢ q → get (selectors_lent q old new m) p ≡ Some (OpenSession z) →
      UsesItsCharge z (bytes_of_buffer (buffer_of p (selectors_lent q old new m)))
  others_charged old new found h p z apart is =
      let n = selectors_lent q old new m in
      let was = each_lent (λ k y. get m k ≡ Some (OpenSession y)) q old new m (λ k y at. at) p z is in
      uses_alike z (bytes_of_buffer (buffer_of p n)) (bytes_of_buffer (buffer_of p m)) (lengths_alike p m n (lent_selectors m lent q x there old new found) (other_lengths old new found p apart)) (h p z was)

  -- the session's own buffer is what came of it
  buffer_after : (old : Option NamedBuffer) (new : Option (List ℕ)) → buffer_of q m ≡ old → bytes_of_buffer (buffer_of q (selectors_lent q old new m)) ≡ new
  buffer_after old None found = ap bytes_of_buffer (buffer_none q (selectors_lent q old None m) (none_left m lent q x there old found))
  buffer_after None (Some bytes) found =
      let key = new_selector m in
      let n = insert m key (Buffer q bytes) in
      let here = get-insert_same m key (Buffer q bytes) key refl in
      let after = lent_selectors m lent q x there None (Some bytes) found in
      ap bytes_of_buffer (only_buffer q n key bytes here (λ j is. after.only j key q is (ap (is_buffer_of q) here ∙ buffer_is q bytes)))
  buffer_after (Some b) (Some bytes) found =
      let n = insert m b.selector (Buffer q bytes) in
      let here = get-insert_same m b.selector (Buffer q bytes) b.selector refl in
      let after = lent_selectors m lent q x there (Some b) (Some bytes) found in
      ap bytes_of_buffer (only_buffer q n b.selector bytes here (λ j is. after.only j b.selector q is (ap (is_buffer_of q) here ∙ buffer_is q bytes)))

  -- a request of a session
  charged_served : (request : List ℕ) → Charged m →
      let buffer = buffer_of q m in
      let o = served (bytes_of_buffer buffer) x request in
      Charged (insert (selectors_lent q buffer o.buffer m) q (OpenSession o.session))
  charged_served request h =
      let buffer = buffer_of q m in
      let o = served (bytes_of_buffer buffer) x request in
      let n = selectors_lent q buffer o.buffer m in
      let still = lent_still q m buffer o.buffer refl q (OpenSession x) there refl in
      charged_session n q o.session (lent_session n (lent_selectors m lent q x there buffer o.buffer refl) q x still o.session) (λ p. ap (is_buffer_of p) still)
      (subst (UsesItsCharge o.session) (sym (buffer_after buffer o.buffer refl)) (serve_charges x.state (bytes_of_buffer buffer) x request refl (h q x there)))
      (others_charged buffer o.buffer refl h)

  -- a close
  charged_closed : Charged m → Charged (remove (selectors_lent q (buffer_of q m) None m) q)
  charged_closed h p z is =
      let old = buffer_of q m in
      let n = selectors_lent q old None m in
      let still = lent_still q m old None refl q (OpenSession x) there refl in
      let apart : p ≢ q = λ same. none-some (OpenSession z) (sym (get-remove_same n q p same) ∙ is) in
      uses_alike z (bytes_of_buffer (buffer_of p (remove n q))) (bytes_of_buffer (buffer_of p n))
      (lengths_alike p n (remove n q) (lent_closed m lent q x there old refl) (alike_remove (lent_length p) n q (ap (lent_length p) (sym still))))
      (others_charged old None refl h p z apart (before_remove n q p (OpenSession z) is))

reserve_pays : (s : OwnState) → Pays s → KeptByReserve Pays s
reserve_pays s h = record { requests = λ _ _. h; yields = λ _ _. h }

sessions_pay : (s : OwnState) → Pays s → KeptBySessions Pays s
sessions_pay s h =
    let m = s.selectors in
    let lent = sessions_lent s h.0 in
    record {
      opens = λ wish accepted. (lent.opens wish accepted, charged_opened m wish h.0 h.1);
      upgrades = λ selector x more there accepted.
          let after = lent.upgrades selector x more there accepted in
          let uses = h.1 selector x there in
          (after, charged_session m selector (upgraded x more.ram more.caps) after (λ p. ap (is_buffer_of p) there) (record { ram = uses.ram; caps = uses.caps }) (λ p z apart at. h.1 p z at));
      serves = λ selector x request there. (lent.serves selector x request there, charged_served m h.0 selector x there request h.1);
      closes = λ selector x there. (lent.closes selector x there, charged_closed m h.0 selector x there h.1);
    }

gone_pays : Pays exited_state
gone_pays = (gone_lent, λ q x is. absurd (none-some (OpenSession x) (sym (get-empty q) ∙ is)))

-- calls leave each session using what it is charged for
pub run_charges : RunKeepsCharges
run_charges entry calls s lent h = (run_keeps Pays effects_pay reserve_pays sessions_pay gone_pays entry calls s (lent, h)).1
