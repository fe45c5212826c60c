-- The sessions that a line closes are those that are open before it and aren't after it.
use Rattle.std.proofs.Common.{arith, ◌≡◌, ◌≢◌, ℕ, zero, suc, ◌+◌, ◌<◌, ◌≤◌, ◌==◌, ◌&&◌, Bool, true, false, true≢false, not, cond, eqb-true, List, [], ◌∷◌, ◌++◌, append-nil, append_assoc, get_or, is_some, length, map, Option, Some, None, refl, sym, ◌∙◌, ap, subst}
use Rattle.std.proofs.lemmas.Bool.{eq-eqb, eqb-false}
use Rattle.std.proofs.lemmas.List.{get_or-map, length-map}
use Rattle.std.proofs.lemmas.List.Elements.{All-append, All-cons, All-nil}
use Rattle.std.proofs.lemmas.List.Folds.{fold-map}
use Rattle.std.proofs.lemmas.List.Sorted.{All-permutation, IsNonDecreasingBy-short, sum_by-IsPermutation}
use Rattle.std.proofs.lemmas.List.Sums.{sum_by-append}
use Rattle.std.proofs.lemmas.Option.{none-some}
use Rattle.std.specs.List.{All, count_by}
use Rattle.std.specs.List.Sorted.{IsNonDecreasingBy}
use Rattle.std.specs.Option.{option_map_or}
use Rattle.own_model.specs.Call.{Call}
use Rattle.own_model.specs.Call.Call.{Open, Upgrade, CallSession, Close, Exit}
use Rattle.own_model.specs.Listed.{Listed}
use Rattle.own_model.specs.Session.{Session}
use Rattle.own_model.specs.World.{World, world_running}
use Rattle.budget_meter.specs.Needs.{amounts_of}
use Rattle.view_accounts.specs.ClosedByLines.{AreClosed, AreClosedBy, closed_after, ends_between, is_under, opening_line}
use Rattle.view_accounts.specs.ClosedSessions.{Closed, Closes, ClosesAll, closing, closing_of, closings, ended_at, ended_from}
use Rattle.view_accounts.specs.KeptSessions.{KeepsSession}
use Rattle.view_accounts.specs.Peaks.{Noted, is_open, noted_of, session_at}
use Rattle.view_accounts.specs.SessionHistories.{SessionHistory, history_of, need_by_history}
use Rattle.view_accounts.specs.SessionNeeds.{Asks, Begins, Change, ChangesAt, Ends, HearsCall, IsKept, Opens, Raises}
use Rattle.view_accounts.specs.SessionTable.{row_of, row_value, value_at}
use Rattle.view_accounts.specs.declared.session_needs.Ended.{Ended}
use Rattle.view_accounts.specs.declared.session_needs.MeteredSession.{MeteredSession}
use Rattle.view_accounts.specs.declared.session_outcome.SessionOutcome.{SessionOutcome}
use Rattle.view_accounts.specs.declared.session_table.SessionTable.{SessionTable}
use Rattle.view_accounts.proofs.SessionHistoryLemmas.{Leads}

-- ---- one of them

-- an ended session is what was kept under its selector
pub record IsEndOf (kept : Option MeteredSession) (ended : Ended) : Type 0 where
  pub there : MeteredSession
  pub is : kept ≡ Some there
  pub need : ended.need ≡ there.need
  pub earlier : ended.earlier ≡ there.earlier

-- so many have a selector
abbrev pub count_under : ℕ → List Ended → ℕ
count_under q ended = count_by (λ (e : Ended). e.selector == q) ended

-- a number is another, or isn't
eqb_no : (k n : ℕ) → n ≢ k → (k == n) ≡ false
eqb_no k n apart = by (k == n) refl
  where
    by : (b : Bool) → (k == n) ≡ b → (k == n) ≡ false
    by false is = is
    by true is = absurd (apart (sym (eqb-true k n is)))

at_same : (k n : ℕ) (kept : Option MeteredSession) → n ≡ k → count_under n (ended_at k kept) ≡ cond (is_some kept) 1 0
at_same k n None is = refl
at_same k n (Some x) is = ap (λ b. 0 + cond b 1 0) (eq-eqb k n (sym is))

at_other : (k n : ℕ) (kept : Option MeteredSession) → n ≢ k → count_under n (ended_at k kept) ≡ 0
at_other k n None apart = refl
at_other k n (Some x) apart = ap (λ b. 0 + cond b 1 0) (eqb_no k n apart)

-- ---- those of a row

counted_both : (n : ℕ) (xs ys : List Ended) → count_under n (xs ++ ys) ≡ count_under n xs + count_under n ys
counted_both n xs ys = sum_by-append (λ (e : Ended). cond (e.selector == n) 1 0) xs ys

above : (k : ℕ) (row : List (Option MeteredSession)) (n : ℕ) → n < k → count_under n (ended_from k row) ≡ 0
above k [] n less = refl
above k (kept ∷ row) n less =
    let first = at_other k n kept (λ same. omega (arith, less, same)) in
    let rest = above (k + 1) row n (omega (arith, less)) in
    counted_both n (ended_at k kept) (ended_from (k + 1) row) ∙ (λ i. first i + rest i)

no_more : (a : ℕ) → a + 0 ≡ a
no_more a = omega arith

no_less : (a : ℕ) → 0 + a ≡ a
no_less a = omega arith

-- each that is kept is there once
counted : (k : ℕ) (row : List (Option MeteredSession)) (q n : ℕ) → n ≡ k + q → count_under n (ended_from k row) ≡ cond (is_some (row_value row q)) 1 0
counted k [] zero n is = refl
counted k [] (suc q) n is = refl
counted k (kept ∷ row) zero n is =
    let first = at_same k n kept (omega (arith, is)) in
    let rest = above (k + 1) row n (omega (arith, is)) in
    counted_both n (ended_at k kept) (ended_from (k + 1) row) ∙ (λ i. first i + rest i) ∙ no_more (cond (is_some kept) 1 0)
counted k (kept ∷ row) (suc q) n is =
    let first = at_other k n kept (λ same. omega (arith, is, same)) in
    let rest = counted (k + 1) row q n (omega (arith, is)) in
    counted_both n (ended_at k kept) (ended_from (k + 1) row) ∙ (λ i. first i + rest i) ∙ no_less (cond (is_some (row_value row q)) 1 0)

-- and is what was kept
kept_from : (whole : ℕ → Option MeteredSession) (k : ℕ) (row : List (Option MeteredSession)) → ((q : ℕ) → whole (k + q) ≡ row_value row q) → All (λ (e : Ended). IsEndOf (whole e.selector) e) (ended_from k row)
kept_from whole k [] same = All-nil (λ (e : Ended). IsEndOf (whole e.selector) e)
kept_from whole k (kept ∷ row) same =
    All-append (λ (e : Ended). IsEndOf (whole e.selector) e) (ended_at k kept) (ended_from (k + 1) row) (one kept (let at : k ≡ k + 0 = omega arith in ap whole at ∙ same 0))
    (kept_from whole (k + 1) row (λ q. let at : k + 1 + q ≡ k + suc q = omega arith in ap whole at ∙ same (suc q)))
  where
    one : (o : Option MeteredSession) → whole k ≡ o → All (λ (e : Ended). IsEndOf (whole e.selector) e) (ended_at k o)
    one None is = All-nil (λ (e : Ended). IsEndOf (whole e.selector) e)
    one (Some x) is =
        All-cons (λ (e : Ended). IsEndOf (whole e.selector) e) (record { earlier = x.earlier; selector = k; need = x.need }) [] (record { there = x; is = is; need = refl; earlier = refl })
        (All-nil (λ (e : Ended). IsEndOf (whole e.selector) e))

-- ---- those that a call closes

-- a session is kept before a call and none is after it
abbrev pub ends_kept : Option MeteredSession → Option MeteredSession → ℕ
ends_kept was is = cond (is_some was && not (is_some is)) 1 0

-- sessions of a component are closed: each that was kept and isn't any more, once, in the order of openings
pub record EndsKept (noted : ℕ → Option Noted) (component : ℕ) (was is : ℕ → Option MeteredSession) (old new : List Closed) : Type 0 where
  pub ended : List Ended
  pub closed : new ≡ old ++ closings noted component ended
  pub each : (q : ℕ) → count_under q ended ≡ ends_kept (was q) (is q)
  pub kept : All (λ (e : Ended). IsEndOf (was e.selector) e) ended
  pub in_order : IsNonDecreasingBy (λ (e : Ended). e.earlier) ended

-- what is kept stays kept
abbrev Stays : Option MeteredSession → Option MeteredSession → Type 0
Stays was is = is_some was ≡ true → is_some is ≡ true

module _ (noted : ℕ → Option Noted) (component : ℕ) (was is : ℕ → Option MeteredSession) (old new : List Closed) where
  ends_no : (w i : Option MeteredSession) → Stays w i → 0 ≡ ends_kept w i
  ends_no None i stays = refl
  ends_no (Some x) None stays = absurd (true≢false (sym (stays refl)))
  ends_no (Some x) (Some y) stays = refl

  -- none
  ends_none : ((q : ℕ) → Stays (was q) (is q)) → new ≡ old → EndsKept noted component was is old new
  ends_none stays same = record {
    ended = [];
    closed = same ∙ sym (append-nil old);
    each = λ q. ends_no (was q) (is q) (stays q);
    kept = All-nil (λ (e : Ended). IsEndOf (was e.selector) e);
    in_order = IsNonDecreasingBy-short (λ (e : Ended). e.earlier) [] (omega arith);
  }

  -- one
  ends_one : (k : ℕ) → ((q : ℕ) → (q == k) ≡ true → is q ≡ None) → ((q : ℕ) → (q == k) ≡ false → is q ≡ was q) → new ≡ old ++ closings noted component (ended_at k (was k)) → EndsKept noted component was is old new
  ends_one k gone other closes = record {
    ended = ended_at k (was k);
    closed = closes;
    each = λ q. elim (q == k) as (λ b. (q == k) ≡ b → count_under q (ended_at k (was k)) ≡ ends_kept (was q) (is q)) [
      | true ↦ λ same.
          let here : q ≡ k = eqb-true q k same in
          at_same k q (was k) here ∙ by_gone (was k) ∙ (λ i. ends_kept (was (sym here i)) (sym (gone q same) i))
      | false ↦ λ apart.
          at_other k q (was k) (eqb-false q k apart) ∙ ends_no (was q) (was q) (λ there. there) ∙ ap (ends_kept (was q)) (sym (other q apart))
    ] refl;
    kept = by_kept (was k) refl;
    in_order = by_order (was k);
  }
    where
      by_gone : (w : Option MeteredSession) → cond (is_some w) 1 0 ≡ ends_kept w None
      by_gone None = refl
      by_gone (Some x) = refl

      by_kept : (w : Option MeteredSession) → was k ≡ w → All (λ (e : Ended). IsEndOf (was e.selector) e) (ended_at k w)
      by_kept None there = All-nil (λ (e : Ended). IsEndOf (was e.selector) e)
      by_kept (Some x) there =
          All-cons (λ (e : Ended). IsEndOf (was e.selector) e) (record { earlier = x.earlier; selector = k; need = x.need }) [] (record { there = x; is = there; need = refl; earlier = refl })
          (All-nil (λ (e : Ended). IsEndOf (was e.selector) e))

      by_order : (w : Option MeteredSession) → IsNonDecreasingBy (λ (e : Ended). e.earlier) (ended_at k w)
      by_order None = IsNonDecreasingBy-short (λ (e : Ended). e.earlier) [] (omega arith)
      by_order (Some x) = IsNonDecreasingBy-short (λ (e : Ended). e.earlier) (record { earlier = x.earlier; selector = k; need = x.need } ∷ []) (omega arith)

  -- all of a row
  ends_all : (row : List (Option MeteredSession)) → ((q : ℕ) → was q ≡ row_value row q) → ((q : ℕ) → is q ≡ None) → ClosesAll noted component row old new → EndsKept noted component was is old new
  ends_all row same gone closes = record {
    ended = closes.ended;
    closed = closes.closed;
    each = λ q.
        sum_by-IsPermutation (λ (e : Ended). cond (e.selector == q) 1 0) (ended_from 0 row) closes.ended closes.all ∙ counted 0 row q q (let at : q ≡ 0 + q = omega arith in at)
        ∙ by_gone (row_value row q) ∙ (λ i. ends_kept (sym (same q) i) (sym (gone q) i));
    kept = All-permutation (λ (e : Ended). IsEndOf (was e.selector) e) (ended_from 0 row) closes.ended closes.all (kept_from was 0 row (λ q. let at : 0 + q ≡ q = omega arith in ap was at ∙ same q));
    in_order = closes.in_order;
  }
    where
      by_gone : (w : Option MeteredSession) → cond (is_some w) 1 0 ≡ ends_kept w None
      by_gone None = refl
      by_gone (Some x) = refl

same_stays : (was is : Option MeteredSession) → is ≡ was → Stays was is
same_stays was is same there = ap is_some same ∙ there

kept_stays : (P : MeteredSession → Type 0) (was is : Option MeteredSession) → IsKept P is → Stays was is
kept_stays P was None kept there = absurd kept
kept_stays P was (Some x) kept there = refl

begins_stays : (line : ℕ) (x : Option Session) (was is : Option MeteredSession) → Begins line x was is → Stays was is
begins_stays line None was is begins = same_stays was is begins
begins_stays line (Some x) was is begins = kept_stays _ was is begins

asks_stays : (request reply : List ℕ) (x : Option Session) (was is : Option MeteredSession) → Asks request reply x was is → Stays was is
asks_stays request reply None was is asks = same_stays was is asks
asks_stays request reply (Some x) None is asks = same_stays None is asks
asks_stays request reply (Some x) (Some old) is asks = kept_stays _ (Some old) is asks

raises_stays : (x : Option Session) (was is : Option MeteredSession) → Raises x was is → Stays was is
raises_stays None was is raises = same_stays was is raises
raises_stays (Some x) None is raises = same_stays None is raises
raises_stays (Some x) (Some old) is raises = kept_stays _ (Some old) is raises

at_stays : (component selector : ℕ) (change : Change) (c q : ℕ) (was is : Option MeteredSession) → (change was is → Stays was is) → ChangesAt component selector change c q was is → Stays was is
at_stays component selector change c q was is own changes = by (c == component && q == selector) refl
  where
    by : (b : Bool) → (c == component && q == selector) ≡ b → Stays was is
    by true here = own (changes.0 here)
    by false aside = same_stays was is (changes.1 aside)

module _ (line : ℕ) (world : World) (component : ℕ) (outcome : SessionOutcome) (reply : List ℕ) (opened : SessionTable MeteredSession) (is : ℕ → Option MeteredSession) (noted : ℕ → Option Noted) (old new : List Closed) where
  abbrev was : ℕ → Option MeteredSession
  was q = value_at opened component q

  abbrev Observed : Call → Type 0
  Observed call = (q : ℕ) → HearsCall line world component call outcome reply component q (was q) (is q)

  own : (q k : ℕ) (b : Bool) → (q == k) ≡ b → (component == component && q == k) ≡ b
  own q k b same = ap (λ o. o && q == k) (eq-eqb component component refl) ∙ same

  closes_named : (k : ℕ) → Observed (Close k) → Closes noted opened component (Close k) outcome.is_done old new → EndsKept noted component was is old new
  closes_named k changes closes = by outcome.is_done changes closes
    where
      by : (done : Bool) → ((q : ℕ) → ChangesAt component k (Ends done) component q (was q) (is q)) → Closes noted opened component (Close k) done old new → EndsKept noted component was is old new
      by true changes closes = ends_one noted component was is old new k (λ q same. (changes q).0 (own q k true same)) (λ q apart. (changes q).1 (own q k false apart)) closes
      by false changes closes = ends_none noted component was is old new (λ q. at_stays component k (Ends false) component q (was q) (is q) (same_stays (was q) (is q)) (changes q)) closes

  closes_each : Observed Exit → Closes noted opened component Exit outcome.is_done old new → EndsKept noted component was is old new
  closes_each changes closes = by outcome.is_done (λ q. (changes q).0 (eq-eqb component component refl)) closes
    where
      by : (done : Bool) → ((q : ℕ) → Ends done (was q) (is q)) → Closes noted opened component Exit done old new → EndsKept noted component was is old new
      by true ends closes = ends_all noted component was is old new (row_of opened.rows.items component) (λ q. refl) ends closes
      by false ends closes = ends_none noted component was is old new (λ q. same_stays (was q) (is q) (ends q)) closes

  opens_none : (service text : List ℕ) → Observed (Open service text) → (q : ℕ) → Stays (was q) (is q)
  opens_none service text changes q = by outcome.opened (changes q)
    where
      by : (found : Option ℕ) → Opens line world component found component q (was q) (is q) → Stays (was q) (is q)
      by None same = same_stays (was q) (is q) same
      by (Some k) at =
          at_stays component k (Begins line (session_at component k world)) component q (was q) (is q) (begins_stays line (session_at component k world) (was q) (is q)) at

  -- by the call
  pub ends_by : (call : Call) → Observed call → Closes noted opened component call outcome.is_done old new → EndsKept noted component was is old new
  ends_by (Open service text) changes closes = ends_none noted component was is old new (opens_none service text changes) closes
  ends_by (Upgrade k text) changes closes = ends_none noted component was is old new (λ q. at_stays component k (Raises (session_at component k world)) component q (was q) (is q) (raises_stays (session_at component k world) (was q) (is q)) (changes q)) closes
  ends_by (CallSession k request) changes closes =
      ends_none noted component was is old new (λ q. at_stays component k (Asks request reply (session_at component k world)) component q (was q) (is q) (asks_stays request reply (session_at component k world) (was q) (is q)) (changes q)) closes
  ends_by (Close k) changes closes = closes_named k changes closes
  ends_by Exit changes closes = closes_each changes closes
  ends_by call changes closes = ends_none noted component was is old new (λ q. same_stays (was q) (is q) (changes q)) closes

-- ---- as the run has them

-- what is kept of a session, by its history
pub need_kept : (n : ℕ) (history : Option SessionHistory) (kept : Option MeteredSession) → KeepsSession n history kept →
    amounts_of (option_map_or (λ session. session.need) kept (record { ram = 0; caps = 0 })) ≡ need_by_history history
need_kept n None kept none = ap (λ o. amounts_of (option_map_or (λ session. session.need) o (record { ram = 0; caps = 0 }))) none
need_kept n (Some h) None keeps = absurd keeps
need_kept n (Some h) (Some x) keeps = ap amounts_of keeps.measured ∙ (λ i. record { ram = (keeps.reached.shown i).ram; caps = (keeps.reached.shown i).caps })

line_kept : (n : ℕ) (history : Option SessionHistory) (kept : Option MeteredSession) (x : MeteredSession) → kept ≡ Some x → KeepsSession n history kept → x.earlier ≡ n
line_kept n None kept x there none = absurd (none-some x (sym none ∙ there))
line_kept n (Some h) kept x there keeps = (subst (KeepsSession n (Some h)) there keeps).opened

pub open_kept : (n : ℕ) (history : Option SessionHistory) (kept : Option MeteredSession) (now : Option Session) → Leads history now → KeepsSession n history kept → is_some kept ≡ is_some now
open_kept n None kept now leads none = ap is_some none ∙ ap is_some leads
open_kept n (Some h) None now leads keeps = absurd keeps
open_kept n (Some h) (Some x) now leads keeps = ap is_some leads

count_no : (xs : List Ended) → count_by (λ (e : Ended). false) xs ≡ 0
count_no [] = refl
count_no (x ∷ xs) = count_no xs

-- what is open and stays open doesn't end
abbrev ends_count : Bool → Bool → ℕ
ends_count before after = cond (before && not after) 1 0

no_end : (before after : Bool) → after ≡ before → 0 ≡ ends_count before after
no_end true after same = ap (ends_count true) (sym same)
no_end false after same = refl

moved_le : (a b a' b' : ℕ) → a ≡ a' → b ≡ b' → a' ≤ b' → a ≤ b
moved_le a b a' b' one other less = omega (arith, one, other, less)

no_ended : Ended
no_ended = record { earlier = 0; selector = 0; need = record { ram = 0; caps = 0 } }

module _ (listed : Listed) (start : World) (earlier : List (List ℕ)) (line : List ℕ) where
  abbrev before : World
  before = world_running start earlier

  abbrev after : World
  after = world_running start (earlier ++ line ∷ [])

  -- none, of a line that leaves the open sessions
  pub closed_nothing : ((c q : ℕ) → is_open c q after ≡ is_open c q before) → AreClosedBy listed start earlier line []
  closed_nothing same = record {
    each = λ c q. no_end (is_open c q before) (is_open c q after) (same c q);
    values = refl;
    in_order = IsNonDecreasingBy-short (λ (x : Closed). opening_line start earlier x.component x.selector) [] (omega arith);
  }

  module _ (component : ℕ) (noted : ℕ → Option Noted) (was is : ℕ → Option MeteredSession)
      (noted_is : (q : ℕ) → noted q ≡ cond (is_open component q before) (Some (noted_of listed start earlier component q)) None)
      (keeps : (q : ℕ) → KeepsSession (opening_line start earlier component q) (history_of start earlier component q) (was q))
      (open_before : (q : ℕ) → is_some (was q) ≡ is_open component q before) (open_after : (q : ℕ) → is_some (is q) ≡ is_open component q after)
      (others : (c q : ℕ) → (c == component) ≡ false → is_open c q after ≡ is_open c q before) where
    abbrev at : Ended → Closed
    at e = closed_after listed start earlier component e.selector

    closing_is : (e : Ended) → IsEndOf (was e.selector) e → closing_of noted component e ≡ at e ∷ []
    closing_is e end =
        let there : is_open component e.selector before ≡ true = sym (open_before e.selector) ∙ ap is_some end.is in
        let need = ap amounts_of end.need ∙ ap (λ o. amounts_of (option_map_or (λ session. session.need) o (record { ram = 0; caps = 0 }))) (sym end.is)
        ∙ need_kept (opening_line start earlier component e.selector) (history_of start earlier component e.selector) (was e.selector) (keeps e.selector) in
        ap (closing component e) (noted_is e.selector ∙ ap (λ b. cond b (Some (noted_of listed start earlier component e.selector)) None) there)
        ∙ (λ i. record { component = component; selector = e.selector; noted = noted_of listed start earlier component e.selector; need = need i } ∷ [])

    closings_are : (ended : List Ended) → All (λ (e : Ended). IsEndOf (was e.selector) e) ended → closings noted component ended ≡ map at ended
    closings_are [] all = refl
    closings_are (e ∷ rest) all =
        let first = closing_is e (all 0 e (omega arith)) in
        let more = closings_are rest (λ k d less. all (suc k) d (omega (arith, less))) in
        λ i. first i ++ more i

    values_are : (ended : List Ended) → map (λ (x : Closed). closed_after listed start earlier x.component x.selector) (map at ended) ≡ map at ended
    values_are [] = refl
    values_are (e ∷ rest) = ap (λ l. at e ∷ l) (values_are rest)

    each_is : (ended : List Ended) → ((q : ℕ) → count_under q ended ≡ ends_kept (was q) (is q)) → (c q : ℕ) → count_by (is_under c q) (map at ended) ≡ ends_between before after c q
    each_is ended each c q =
        fold-map (λ a x. a + cond (is_under c q x) 1 0) at 0 ended
        ∙ elim (component == c) as (λ b. (component == c) ≡ b → count_by (λ (e : Ended). component == c && e.selector == q) ended ≡ ends_between before after c q) [
          | true ↦ λ same.
              ap (λ b. count_by (λ (e : Ended). b && e.selector == q) ended) same ∙ each q ∙ (λ i. ends_count (open_before q i) (open_after q i))
              ∙ ap (λ k. ends_between before after k q) (eqb-true component c same)
          | false ↦ λ apart.
              ap (λ b. count_by (λ (e : Ended). b && e.selector == q) ended) apart ∙ count_no ended
              ∙ no_end (is_open c q before) (is_open c q after) (others c q (eqb_no c component (eqb-false component c apart)))
        ] refl

    in_order_is : (ended : List Ended) → All (λ (e : Ended). IsEndOf (was e.selector) e) ended → IsNonDecreasingBy (λ (e : Ended). e.earlier) ended →
        IsNonDecreasingBy (λ (x : Closed). opening_line start earlier x.component x.selector) (map at ended)
    in_order_is ended all order i j d le within =
        let second : j < length ended = omega (arith, within, length-map ended at) in
        let first : i < length ended = omega (arith, le, second) in
        moved_le (place (get_or (map at ended) i d)) (place (get_or (map at ended) j d)) (get_or ended i no_ended).earlier (get_or ended j no_ended).earlier (is_at i first) (is_at j second)
        (order i j no_ended le second)
      where
        place : Closed → ℕ
        place x = opening_line start earlier x.component x.selector

        line_is : (e : Ended) → IsEndOf (was e.selector) e → opening_line start earlier component e.selector ≡ e.earlier
        line_is e end =
            sym (end.earlier ∙ line_kept (opening_line start earlier component e.selector) (history_of start earlier component e.selector) (was e.selector) end.there end.is (keeps e.selector))

        is_at : (k : ℕ) → k < length ended → place (get_or (map at ended) k d) ≡ (get_or ended k no_ended).earlier
        is_at k less = ap place (get_or-map at ended k no_ended d less) ∙ line_is (get_or ended k no_ended) (all k no_ended less)

    -- those that end
    pub are_closed : (old new : List Closed) (ends : EndsKept noted component was is old new) → AreClosedBy listed start earlier line (map at ends.ended)
    are_closed old new ends = record {
      each = each_is ends.ended ends.each;
      values = values_are ends.ended;
      in_order = in_order_is ends.ended ends.kept ends.in_order;
    }

    pub closed_then : (old new : List Closed) (ends : EndsKept noted component was is old new) → new ≡ old ++ map at ends.ended
    closed_then old new ends = ends.closed ∙ ap (λ l. old ++ l) (closings_are ends.ended ends.kept)

-- one line more
pub closed_more : (listed : Listed) (start : World) (earlier lines : List (List ℕ)) (line : List ℕ) (old more : List Closed) → AreClosed listed start earlier lines old →
    AreClosedBy listed start (earlier ++ lines) line more → AreClosed listed start earlier (lines ++ line ∷ []) (old ++ more)
closed_more listed start earlier [] line old more none one =
    (more, [], ap (λ l. l ++ more) none ∙ sym (append-nil more), subst (λ calls. AreClosedBy listed start calls line more) (append-nil earlier) one, refl)
closed_more listed start earlier (first ∷ lines) line old more all one = (
  all.0,
  all.1 ++ more,
  ap (λ l. l ++ more) all.2 ∙ append_assoc all.0 all.1 more,
  all.3,
  closed_more listed start (earlier ++ first ∷ []) lines line all.1 more all.4 (subst (λ calls. AreClosedBy listed start calls line more) (sym (append_assoc earlier (first ∷ []) lines)) one),
)
