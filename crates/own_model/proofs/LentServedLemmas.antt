-- What a request leaves under its session's selector and its buffer's, and what it is answered of a new buffer.
use Rattle.std.proofs.Common.{false, ◌≡◌, ◌≢◌, ◌⊎◌, inl, inr, ℕ, ◌++◌, List, length, take, drop, codes, decimal, is_some, IsSome, Some, refl, sym, ap, subst, ◌∙◌, true≢false, cond, eqb-true, ◌==◌}
use Rattle.std.proofs.lemmas.Bool.{false_from_ne_true}
use Rattle.std.proofs.lemmas.Option.{none-some, same_Some}
use Rattle.std.specs.Prelude.{Option, None}
use Rattle.std.specs.Option.{option_map}
use Rattle.std.specs.FinMap.{get, insert}
use Rattle.own_model.proofs.LentKeptLemmas.{lent_selectors, lent_session, none_left}
use Rattle.own_model.proofs.LentLemmas.{buffer_is, buffer_none, only_buffer, apart_from_buffer, buffer_there, lent_still}
use Rattle.own_model.proofs.NatMapLemmas.{get-insert_same, get-insert_other, get-remove_other, get-picked_at, alike_insert, apart_from_free}
use Rattle.own_model.proofs.NewSelector.{new_selector_free}
use Rattle.own_model.proofs.ServiceLemmas.{serve_new}
use Rattle.own_model.specs.SharedBufferTheorems.{IsServed, RequestsAreServed, LeavesOthers, SessionCallsLeaveOthers, lent_under}
use Rattle.own_model.specs.NatMap.{NatMap}
use Rattle.own_model.specs.OwnState.{OwnState, Object, NamedBuffer, is_buffer_of, buffer_of, bytes_of_buffer, new_selector, zeros, session_named}
use Rattle.own_model.specs.OwnState.Object.{OpenSession, Buffer}
use Rattle.own_model.specs.OwnStep.{selectors_lent, regions_lent, session_called, session_closed, completed}
use Rattle.own_model.specs.Region.{Region}
use Rattle.own_model.specs.Reply.Reply.{Told}
use Rattle.own_model.specs.Session.{Session, served}
use Rattle.own_model.specs.Sound.{AreLent}

-- ---- what is left under the selectors

module _ (m : NatMap Object) (lent : AreLent m) (q : ℕ) (x y : Session) (there : get m q ≡ Some (OpenSession x)) where
  abbrev left : Option NamedBuffer → Option (List ℕ) → NatMap Object
  left old new = insert (selectors_lent q old new m) q (OpenSession y)

  -- the buffer's bytes stand under its selector
  stands_under : (old : Option NamedBuffer) (new : Option (List ℕ)) → buffer_of q m ≡ old → (k : ℕ) (bytes : List ℕ) → q ≢ k → get (selectors_lent q old new m) k ≡ Some (Buffer q bytes) →
      buffer_of q (left old new) ≡ Some (record { selector = k; bytes = bytes })
  stands_under old new found k bytes apart is =
      let n = selectors_lent q old new m in
      let still = lent_still q m old new found q (OpenSession x) there refl in
      let after = lent_session n (lent_selectors m lent q x there old new found) q x still y in
      let here = get-insert_other n q (OpenSession y) k (λ e. apart (sym e)) ∙ is in
      only_buffer q (left old new) k bytes here (λ j its. after.only j k q its (ap (is_buffer_of q) here ∙ buffer_is q bytes))

  -- the session's buffer is the one that the request left
  buffer_left : (s : OwnState) → s.selectors ≡ m → (old : Option NamedBuffer) (new : Option (List ℕ)) → buffer_of q m ≡ old →
      buffer_of q (left old new) ≡ option_map (λ bytes. record { selector = lent_under old s; bytes = bytes }) new
  buffer_left s is old None found =
      let still = lent_still q m old None found q (OpenSession x) there refl in
      buffer_none q (left old None) (λ k. alike_insert (is_buffer_of q) (selectors_lent q old None m) q (OpenSession y) (ap (is_buffer_of q) (sym still)) k ∙ none_left m lent q x there old found k)
  buffer_left s is None (Some bytes) found =
      let key = new_selector m in
      stands_under None (Some bytes) found key bytes (apart_from_free m key q (new_selector_free m) (ap is_some there)) (get-insert_same m key (Buffer q bytes) key refl)
      ∙ ap (λ k. Some (record { selector = new_selector k; bytes = bytes })) (sym is)
  buffer_left s is (Some b) (Some bytes) found =
      stands_under (Some b) (Some bytes) found b.selector bytes (apart_from_buffer q m b found q (OpenSession x) there refl) (get-insert_same m b.selector (Buffer q bytes) b.selector refl)

-- ---- a request

-- the reply is the service's, but where a buffer is made
told_as : (old : Option NamedBuffer) (new : Option (List ℕ)) (k : ℕ) (reply : List ℕ) → IsSome old ⊎ (new ≡ None) → completed old new k reply ≡ reply
told_as (Some b) new k reply why = refl
told_as None None k reply why = refl
told_as None (Some bytes) k reply (inl some) = absurd (true≢false (sym some))
told_as None (Some bytes) k reply (inr none) = absurd (none-some bytes (sym none))

-- there it is completed
made_told : (s : OwnState) (x : Session) (request bytes : List ℕ) (old : Option NamedBuffer) → old ≡ None → (served (bytes_of_buffer old) x request).buffer ≡ Some bytes →
    let o = served (bytes_of_buffer old) x request in
    (bytes ≡ zeros (length bytes)) × (completed old o.buffer (new_selector s.selectors) o.reply ≡ codes "OK cap " ++ decimal (new_selector s.selectors))
made_told s x request bytes (Some b) none is = absurd (none-some b (sym none))
made_told s x request bytes None none is =
    let new = serve_new x.state x request bytes is in
    let k = new_selector s.selectors in
    (new.0, ap (λ o. completed None o k (served None x request).reply) is ∙ ap (λ reply. reply ++ decimal k) new.1)

served_so : (s : OwnState) (q : ℕ) (x : Session) (request : List ℕ) → AreLent s.selectors → get s.selectors q ≡ Some (OpenSession x) →
    let old = buffer_of q s.selectors in
    IsServed q old (served (bytes_of_buffer old) x request) s (session_called q (Some x) request s)
served_so s q x request lent there =
    let old = buffer_of q s.selectors in
    let o = served (bytes_of_buffer old) x request in
    record {
      session = get-insert_same (selectors_lent q old o.buffer s.selectors) q (OpenSession o.session) q refl;
      buffer = buffer_left s.selectors lent q x o.session there s refl old o.buffer refl;
      made = λ bytes none is. let told = made_told s x request bytes old none is in (told.0, ap Told told.1);
      told = λ why. ap Told (told_as old o.buffer (new_selector s.selectors) o.reply why);
    }

pub requests_served : RequestsAreServed
requests_served s q x request lent there =
    let old = buffer_of q s.selectors in
    subst (λ found. IsServed q old (served (bytes_of_buffer old) x request) s (session_called q found request s)) (ap session_named (sym there)) (served_so s q x request lent there)

-- ---- what a call of a session leaves

-- regions of anything but the buffer stay
regions_still : (s : OwnState) (q : ℕ) (old : Option NamedBuffer) (new : Option (List ℕ)) → buffer_of q s.selectors ≡ old → (start : ℕ) (region : Region) → get s.regions start ≡ Some region →
    is_buffer_of q (get s.selectors region.of) ≡ false → get (regions_lent old new s.regions) start ≡ Some region
regions_still s q None new found start region is other = is
regions_still s q (Some b) (Some bytes) found start region is other = is
regions_still s q (Some b) None found start region is other =
    let apart = false_from_ne_true (region.of == b.selector) (λ same. true≢false (
    sym (buffer_is q b.bytes) ∙ ap (is_buffer_of q) (sym (buffer_there q s.selectors b found) ∙ ap (get s.selectors) (sym (eqb-true region.of b.selector same))) ∙ other)) in
    get-picked_at (λ r. cond (r.of == b.selector) None (Some r)) s.regions start region is ∙ ap (λ t. cond t None (Some region)) apart

served_leaves : (s : OwnState) (q : ℕ) (found : Option Session) (request : List ℕ) → LeavesOthers q s (session_called q found request s).next
served_leaves s q None request = record { selectors = λ k object apart is other. is; regions = λ start region is other. is }
served_leaves s q (Some x) request =
    let old = buffer_of q s.selectors in
    let o = served (bytes_of_buffer old) x request in
    record {
      selectors = λ k object apart is other.
          get-insert_other (selectors_lent q old o.buffer s.selectors) q (OpenSession o.session) k apart ∙ lent_still q s.selectors old o.buffer refl k object is other;
      regions = regions_still s q old o.buffer refl;
    }

closed_leaves : (s : OwnState) (q : ℕ) (found : Option Session) → LeavesOthers q s (session_closed q found s).next
closed_leaves s q None = record { selectors = λ k object apart is other. is; regions = λ start region is other. is }
closed_leaves s q (Some x) =
    let old = buffer_of q s.selectors in
    record {
      selectors = λ k object apart is other. get-remove_other (selectors_lent q old None s.selectors) q k apart ∙ lent_still q s.selectors old None refl k object is other;
      regions = regions_still s q old None refl;
    }

pub others_left : SessionCallsLeaveOthers
others_left s q request = (served_leaves s q (session_named (get s.selectors q)) request, closed_leaves s q (session_named (get s.selectors q)))
