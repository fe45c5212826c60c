-- All that reached a session led to its state, and its meter has observed that.
use Rattle.std.proofs.Common.{◌≡◌, ◌⊎◌, inl, inr, ℕ, ◌==◌, ◌&&◌, Bool, true, false, true≢false, cond, eqb-true, List, [], ◌∷◌, ◌++◌, append-nil, is_some, Option, Some, None, refl, sym, ◌∙◌, ap, subst}
use Rattle.std.proofs.lemmas.Bool.{eq-eqb, eqb-false}
use Rattle.std.proofs.lemmas.Option.{none-some}
use Rattle.std.specs.FinMap.{get}
use Rattle.std.specs.Option.{option_map}
use Rattle.trade_base.specs.declared.refusal.Refusal.{Refusal}
use Rattle.trade_base.specs.declared.refusal.Refusal.TheVariants.{BadArgs, Gone, InvalidSession}
use Rattle.own_model.proofs.NatMapLemmas.{get-empty, get-insert_same, get-remove_same}
use Rattle.own_model.proofs.StepExitLemmas.{alike_on}
use Rattle.own_model.specs.Account.{shortage}
use Rattle.own_model.specs.Amounts.{Amounts}
use Rattle.own_model.specs.Call.{Call}
use Rattle.own_model.specs.Call.Call.{Open, Upgrade, CallSession, Close, Exit}
use Rattle.own_model.specs.OwnState.{NamedBuffer, OwnState, buffer_of, bytes_of_buffer, new_selector, session_named}
use Rattle.own_model.specs.OwnState.Object.{OpenSession}
use Rattle.own_model.specs.OwnStep.{Outcome, completed, entry_step, own_run, own_step, session_called, session_closed, session_served, session_upgraded, turned_away, unless, upgraded_by, with_buffer}
use Rattle.own_model.specs.Reply.{reply_text}
use Rattle.own_model.specs.Reply.Reply.{Done, Refused}
use Rattle.own_model.specs.Session.{Served, Session, Wish, new_session, served, too_small, upgraded}
use Rattle.own_model.specs.SessionArgs.{Arguments, arguments_of}
use Rattle.own_model.specs.SessionTheorems.{is_of}
use Rattle.own_model.specs.StartList.{Entry, Kind}
use Rattle.own_model.specs.StartList.Kind.{Script, Server, Init}
use Rattle.own_model.specs.World.{World}
use Rattle.own_model.specs.Transcript.{state_at}
use Rattle.budget_theorems.specs.RequestTheorems.{Reaches, session_after, session_run}
use Rattle.budget_theorems.specs.RequestTheorems.Reaches.{Asked, Raised}
use Rattle.view_accounts.specs.KeptSessions.{KeepsSession}
use Rattle.view_accounts.specs.Peaks.{opens, session_at}
use Rattle.view_accounts.specs.SessionHistories.{SessionHistory, history_along, history_with, opening_donation, raised_by, reaching, session_after_all}
use Rattle.view_accounts.specs.SessionNeeds.{Asks, Begins, Change, ChangesAt, Ends, HasAsked, HasRaised, HearsCall, IsKept, IsNew, Opens, Raises}
use Rattle.view_accounts.specs.declared.session_needs.MeteredSession.{MeteredSession}
use Rattle.view_accounts.specs.declared.session_outcome.SessionOutcome.{SessionOutcome}
use Rattle.view_accounts.proofs.OpenLemmas.{none_still}
use Rattle.view_accounts.proofs.SessionNeedLemmas.{some_image}
use Rattle.view_accounts.proofs.SessionStepLemmas.{IsOutcome, IsRefused, exit_does, open_does, refused_or, session_in, session_still}

-- more that reaches a session
run_append : (all more : List Reaches) (s : Session) → session_run (all ++ more) s ≡ session_run more (session_run all s)
run_append [] more s = refl
run_append (x ∷ all) more s = run_append all more (session_after x s)

-- ---- what a call does to the session under a selector

-- a component that isn't turned away
stepped : (entry : Entry) (call : Call) (s : OwnState) → turned_away entry.kind s ≡ None → own_step entry call s ≡ entry_step entry call s
stepped entry call s here = ap (λ why. unless why s (entry_step entry call s)) here

away_same : (kind : Kind) (s t : OwnState) → t.gone ≡ s.gone → turned_away kind t ≡ turned_away kind s
away_same Server s t same = refl
away_same Init s t same = refl
away_same Script s t same = ap (λ b. cond b (Some Gone) None) same

module _ (entry : Entry) (q : ℕ) (s : OwnState) where
  -- an upgrade was done
  pub record IsRaisedIn (text : List ℕ) (x : Session) (o : Outcome) : Type 0 where
    pub more : Arguments
    pub read : arguments_of text ≡ Some more
    pub replied : o.reply ≡ Done
    pub made : session_in q o.next ≡ Some (upgraded x more.ram more.caps)

  upgrade_does : (text : List ℕ) (x : Session) → session_in q s ≡ Some x → IsRefused s (own_step entry (Upgrade q text) s) ⊎ IsRaisedIn text x (own_step entry (Upgrade q text) s)
  upgrade_does text x there =
      refused_or s (IsRaisedIn text x) (turned_away entry.kind s) (upgraded_by q (session_named (get s.selectors q)) (arguments_of text) s)
      (λ _. subst (λ found. IsRefused s (upgraded_by q found (arguments_of text) s) ⊎ IsRaisedIn text x (upgraded_by q found (arguments_of text) s)) (sym there) (by (arguments_of text) refl))
    where
      by : (arguments : Option Arguments) → arguments_of text ≡ arguments → IsRefused s (upgraded_by q (Some x) arguments s) ⊎ IsRaisedIn text x (upgraded_by q (Some x) arguments s)
      by None is = inl (record { left = refl; refusal = BadArgs; replied = refl })
      by (Some more) is =
          refused_or s (IsRaisedIn text x) (shortage s.account more.ram more.caps) (session_upgraded q x more s)
          (λ _. inr (record { more = more; read = is; replied = refl; made = ap session_named (get-insert_same s.selectors q (OpenSession (upgraded x more.ram more.caps)) q refl) }))

  abbrev asked_of : Session → List ℕ → Served
  asked_of x request = served (bytes_of_buffer (buffer_of q s.selectors)) x request

  -- a request of an open session is served
  ask_does : (request : List ℕ) (x : Session) → session_in q s ≡ Some x → turned_away entry.kind s ≡ None →
      own_step entry (CallSession q request) s ≡ session_served q (buffer_of q s.selectors) (asked_of x request) s
  ask_does request x there here = stepped entry (CallSession q request) s here ∙ ap (λ found. session_called q found request s) there

  asked_then : (request : List ℕ) (x : Session) → session_in q s ≡ Some x → turned_away entry.kind s ≡ None → session_in q (own_step entry (CallSession q request) s).next ≡ Some (asked_of x request).session
  asked_then request x there here =
      ap (λ (o : Outcome). session_in q o.next) (ask_does request x there here)
      ∙ ap session_named (get-insert_same (with_buffer q (buffer_of q s.selectors) (asked_of x request).buffer s).selectors q (OpenSession (asked_of x request).session) q refl)

  -- an open session is closed
  close_does : (x : Session) → session_in q s ≡ Some x → turned_away entry.kind s ≡ None → own_step entry (Close q) s ≡ session_closed q (Some x) s
  close_does x there here = stepped entry (Close q) s here ∙ ap (λ found. session_closed q found s) there

  closed_then : (x : Session) → session_in q s ≡ Some x → turned_away entry.kind s ≡ None → session_in q (own_step entry (Close q) s).next ≡ None
  closed_then x there here =
      ap (λ (o : Outcome). session_in q o.next) (close_does x there here)
      ∙ ap session_named (get-remove_same (with_buffer q (buffer_of q s.selectors) None s).selectors q q refl)

  -- a close of no session is refused
  close_none : session_in q s ≡ None → (refusal : Refusal) × ((own_step entry (Close q) s).reply ≡ Refused refusal)
  close_none none = by (turned_away entry.kind s)
    where
      by : (why : Option Refusal) → (refusal : Refusal) × ((unless why s (session_closed q (session_named (get s.selectors q)) s)).reply ≡ Refused refusal)
      by (Some refusal) = (refusal, refl)
      by None = (InvalidSession, ap (λ found. (session_closed q found s).reply) none)

  -- a test of two selectors, the other way around
  flipped : (k : ℕ) (b : Bool) → (q == k) ≡ b → (k == q) ≡ b
  flipped k true same = eq-eqb k q (sym (eqb-true q k same))
  flipped k false apart = by (k == q) refl
    where
      by : (b : Bool) → (k == q) ≡ b → (k == q) ≡ false
      by false is_not = is_not
      by true same = absurd (eqb-false q k apart (sym (eqb-true k q same)))

  -- what reaches a session by its own upgrade
  reached_refused : (text : List ℕ) → IsRefused s (own_step entry (Upgrade q text) s) → reaching entry q s (Upgrade q text) ≡ []
  reached_refused text refused = ap (λ b. cond b (raised_by (own_step entry (Upgrade q text) s).reply (arguments_of text)) []) (eq-eqb q q refl) ∙ ap (λ r. raised_by r (arguments_of text)) refused.replied

  reached_raised : (text : List ℕ) (x : Session) (raised : IsRaisedIn text x (own_step entry (Upgrade q text) s)) → reaching entry q s (Upgrade q text) ≡ Raised (record { ram = raised.more.ram; caps = raised.more.caps }) ∷ []
  reached_raised text x raised =
      ap (λ b. cond b (raised_by (own_step entry (Upgrade q text) s).reply (arguments_of text)) []) (eq-eqb q q refl)
      ∙ (λ i. raised_by (raised.replied i) (raised.read i))

  -- or by its own request
  reached_asked : (request : List ℕ) → reaching entry q s (CallSession q request) ≡ Asked (bytes_of_buffer (buffer_of q s.selectors)) request ∷ []
  reached_asked request = ap (λ b. cond b (Asked (bytes_of_buffer (buffer_of q s.selectors)) request ∷ []) []) (eq-eqb q q refl)

-- ---- who has a session isn't turned away

abbrev pub IsActive : Entry → ℕ → OwnState → Type 0
IsActive entry q s = is_some (session_in q s) ≡ true → turned_away entry.kind s ≡ None

active_more : (entry : Entry) (call : Call) (q : ℕ) (s : OwnState) → IsActive entry q s → IsActive entry q (own_step entry call s).next
active_more entry call q s active has = by (turned_away entry.kind s) refl
  where
    as_before : (own_step entry call s).next ≡ s → turned_away entry.kind (own_step entry call s).next ≡ None
    as_before same = subst (λ t. turned_away entry.kind t ≡ None) (sym same) (active (subst (λ t. is_some (session_in q t) ≡ true) same has))

    by_call : (made : Call) → made ≡ call → turned_away entry.kind s ≡ None → turned_away entry.kind (own_step entry call s).next ≡ None
    by_call Exit is here = elim (exit_does s entry) [
      | inl refused ↦ as_before (ap (λ c. (own_step entry c s).next) (sym is) ∙ refused.left)
      | inr gone ↦
          absurd (true≢false (sym has ∙ ap (λ (o : Outcome). is_some (session_in q o.next)) (ap (λ c. own_step entry c s) (sym is) ∙ gone) ∙ ap (λ o. is_some (session_named o)) (get-empty q)))
    ]
    by_call made is here = subst (λ c. turned_away entry.kind (own_step entry c s).next ≡ None) is (away_same entry.kind s (own_step entry made s).next (alike_on entry made s refl) ∙ here)

    by : (why : Option Refusal) → turned_away entry.kind s ≡ why → turned_away entry.kind (own_step entry call s).next ≡ None
    by (Some refusal) away = as_before (ap (λ o. (unless o s (entry_step entry call s)).next) away)
    by None here = by_call call refl here

pub active_along : (entry : Entry) (q : ℕ) (calls : List Call) (s : OwnState) → IsActive entry q s → IsActive entry q (own_run entry calls s)
active_along entry q [] s active = active
active_along entry q (call ∷ calls) s active = active_along entry q calls (own_step entry call s).next (active_more entry call q s active)

-- ---- all that reached it led to its state

-- a session is closed, or is what it is after this reached it
abbrev IsLedOn : Session → List Reaches → Option Session → Type 0
IsLedOn x more now = (now ≡ None) ⊎ (now ≡ Some (session_run more x))

module _ (entry : Entry) (q : ℕ) (s : OwnState) (x : Session) (there : session_in q s ≡ Some x) (here : turned_away entry.kind s ≡ None) where
  abbrev OnBy : Call → List Reaches → Type 0
  OnBy call more = IsLedOn x more (session_in q (own_step entry call s).next)

  stays_on : (call : Call) → session_in q (own_step entry call s).next ≡ session_in q s → OnBy call []
  stays_on call same = inr (same ∙ there)

  open_on : (service text : List ℕ) → OnBy (Open service text) []
  open_on service text = elim (open_does s entry service text) [
    | inl refused ↦ stays_on (Open service text) (ap (session_in q) refused.left)
    | inr opened ↦ elim (q == opened.selector) as (λ b. (q == opened.selector) ≡ b → OnBy (Open service text) []) [
      | true ↦ λ same. absurd (none-some x (sym (subst (λ k. session_in k s ≡ None) (sym (eqb-true q opened.selector same)) opened.free) ∙ there))
      | false ↦ λ apart. stays_on (Open service text) (opened.others q (eqb-false q opened.selector apart))
    ] refl
  ]

  upgrade_on : (text : List ℕ) → OnBy (Upgrade q text) (reaching entry q s (Upgrade q text))
  upgrade_on text = elim (upgrade_does entry q s text x there) [
    | inl refused ↦ subst (OnBy (Upgrade q text)) (sym (reached_refused entry q s text refused)) (stays_on (Upgrade q text) (ap (session_in q) refused.left))
    | inr raised ↦ subst (OnBy (Upgrade q text)) (sym (reached_raised entry q s text x raised)) (inr raised.made)
  ]

  ask_on : (request : List ℕ) → OnBy (CallSession q request) (reaching entry q s (CallSession q request))
  ask_on request = subst (OnBy (CallSession q request)) (sym (reached_asked entry q s request)) (inr (asked_then entry q s request x there here))

  -- a call that names a session under some selector
  named_on : (call_of : ℕ → Call) (k : ℕ) → opens (call_of k) ≡ false → ((k == q) ≡ false → is_of q (call_of k) ≡ false) → ((k == q) ≡ false → reaching entry q s (call_of k) ≡ []) →
      OnBy (call_of q) (reaching entry q s (call_of q)) → OnBy (call_of k) (reaching entry q s (call_of k))
  named_on call_of k none other nothing own = elim (q == k) as (λ b. (q == k) ≡ b → OnBy (call_of k) (reaching entry q s (call_of k))) [
    | true ↦ λ same. subst (λ j. OnBy (call_of j) (reaching entry q s (call_of j))) (eqb-true q k same) own
    | false ↦ λ apart.
        subst (OnBy (call_of k)) (sym (nothing (flipped entry q s k false apart))) (stays_on (call_of k) (session_still entry (call_of k) s q (other (flipped entry q s k false apart)) none))
  ] refl

  led_on : (call : Call) → OnBy call (reaching entry q s call)
  led_on (Open service text) = open_on service text
  led_on (Upgrade k text) =
      named_on (λ j. Upgrade j text) k refl (λ apart. apart) (λ apart. ap (λ b. cond b (raised_by (own_step entry (Upgrade k text) s).reply (arguments_of text)) []) apart) (upgrade_on text)
  led_on (CallSession k request) =
      named_on (λ j. CallSession j request) k refl (λ apart. apart) (λ apart. ap (λ b. cond b (Asked (bytes_of_buffer (buffer_of q s.selectors)) request ∷ []) []) apart) (ask_on request)
  led_on (Close k) = named_on (λ j. Close j) k refl (λ apart. apart) (λ apart. refl) (inl (closed_then entry q s x there here))
  led_on Exit = elim (exit_does s entry) [
    | inl refused ↦ stays_on Exit (ap (session_in q) refused.left)
    | inr gone ↦ inl (ap (λ (o : Outcome). session_in q o.next) gone ∙ ap session_named (get-empty q))
  ]
  led_on call = stays_on call (session_still entry call s q refl refl)

-- a history leads to this session
abbrev pub Leads : Option SessionHistory → Option Session → Type 0
Leads history now = option_map session_after_all history ≡ now

led_first : (now : Option Session) (more : List Reaches) → Leads (history_with now more None) now
led_first None more = refl
led_first (Some x) more = refl

led_step : (entry : Entry) (q : ℕ) (s : OwnState) (call : Call) (history : Option SessionHistory) → IsActive entry q s → Leads history (session_in q s) →
    Leads (history_with (session_in q (own_step entry call s).next) (reaching entry q s call) history) (session_in q (own_step entry call s).next)
led_step entry q s call None active leads = led_first (session_in q (own_step entry call s).next) (reaching entry q s call)
led_step entry q s call (Some h) active leads =
    let more = reaching entry q s call in
    elim (led_on entry q s (session_after_all h) (sym leads) (active (ap is_some (sym leads))) call) [
      | inl gone ↦ subst (λ o. Leads (history_with o more (Some h)) o) (sym gone) refl
      | inr on ↦ subst (λ o. Leads (history_with o more (Some h)) o) (sym on) (ap Some (run_append h.all more h.first))
    ]

pub led_along : (entry : Entry) (q : ℕ) (calls : List Call) (s : OwnState) (history : Option SessionHistory) → IsActive entry q s → Leads history (session_in q s) →
    Leads (history_along entry q calls s history) (session_in q (own_run entry calls s))
led_along entry q [] s history active leads = leads
led_along entry q (call ∷ calls) s history active leads =
    led_along entry q calls (own_step entry call s).next (history_with (session_in q (own_step entry call s).next) (reaching entry q s call) history) (active_more entry call q s active)
    (led_step entry q s call history active leads)

-- one call more
pub along_more : (entry : Entry) (q : ℕ) (calls : List Call) (call : Call) (s : OwnState) (history : Option SessionHistory) →
    history_along entry q (calls ++ call ∷ []) s history
    ≡ history_with (session_in q (own_step entry call (own_run entry calls s)).next) (reaching entry q (own_run entry calls s) call) (history_along entry q calls s history)
along_more entry q [] call s history = refl
along_more entry q (first ∷ calls) call s history =
    along_more entry q calls call (own_step entry first s).next (history_with (session_in q (own_step entry first s).next) (reaching entry q s first) history)

-- ---- what is kept of it

-- a session that stays
stays_kept : (now : Option Session) (history : Option SessionHistory) (was is : Option MeteredSession) (n n' : ℕ) → Leads history now → is ≡ was → (is_some now ≡ true → n' ≡ n) →
    KeepsSession n history was → KeepsSession n' (history_with now [] history) is
stays_kept now None was is n n' leads same number keeps = subst (λ o. KeepsSession n' (history_with o [] None) is) leads (same ∙ keeps)
stays_kept now (Some h) was is n n' leads same number keeps =
    subst (λ o. KeepsSession n' (history_with o [] (Some h)) is) leads
    (subst (λ all. KeepsSession n' (Some (record { first = h.first; all = all })) is) (sym (append-nil h.all))
    (subst (KeepsSession n' (Some h)) (sym same) (subst (λ k. KeepsSession k (Some h) was) (sym (number (ap is_some (sym leads)))) keeps)))

-- one that is closed
gone_kept : (now : Option Session) (more : List Reaches) (history : Option SessionHistory) (is : Option MeteredSession) (n' : ℕ) → now ≡ None → is ≡ None → KeepsSession n' (history_with now more history) is
gone_kept now more history is n' none gone = subst (λ o. KeepsSession n' (history_with o more history) is) (sym none) gone

-- one that was just opened
begun_kept : (now : Option Session) (w : Wish) (history : Option SessionHistory) (was is : Option MeteredSession) (line n' : ℕ) → now ≡ Some (new_session w) → too_small w.ram w.caps ≡ None → history ≡ None → n' ≡ line →
    Begins line now was is → KeepsSession n' (history_with now [] history) is
begun_kept now w history was is line n' same enough none number begins =
    subst (λ o. KeepsSession n' (history_with o [] history) is) (sym same)
    (subst (λ h. KeepsSession n' (history_with (Some (new_session w)) [] h) is) (sym none) (by is (subst (λ o. Begins line o was is) same begins)))
  where
    by : (kept : Option MeteredSession) → IsKept (IsNew line (new_session w)) kept → KeepsSession n' (Some (record { first = new_session w; all = [] })) kept
    by None has = absurd has
    by (Some kept) has = record { measured = has.0; reached = has.1.reached w refl enough; opened = has.1.opened ∙ sym number }

-- one that got a request
asked_kept : (now : Option Session) (h : SessionHistory) (buffer : Option NamedBuffer) (request reply : List ℕ) (selector : ℕ) (was is : Option MeteredSession) (n n' : ℕ) →
    now ≡ Some (served (bytes_of_buffer buffer) (session_after_all h) request).session →
    reply ≡ completed buffer (served (bytes_of_buffer buffer) (session_after_all h) request).buffer selector (served (bytes_of_buffer buffer) (session_after_all h) request).reply →
    n' ≡ n → KeepsSession n (Some h) was → Asks request reply now was is → KeepsSession n' (history_with now (Asked (bytes_of_buffer buffer) request ∷ []) (Some h)) is
asked_kept now h buffer request reply selector None is n n' same told number keeps asks = absurd keeps
asked_kept now h buffer request reply selector (Some old) is n n' same told number keeps asks =
    subst (λ o. KeepsSession n' (history_with o (Asked (bytes_of_buffer buffer) request ∷ []) (Some h)) is) (sym same) (by is (subst (λ o. Asks request reply o (Some old) is) same asks))
  where
    by : (kept : Option MeteredSession) → IsKept (HasAsked request reply (served (bytes_of_buffer buffer) (session_after_all h) request).session.account old) kept →
        KeepsSession n' (Some (record { first = h.first; all = h.all ++ Asked (bytes_of_buffer buffer) request ∷ [] })) kept
    by None has = absurd has
    by (Some kept) has = record {
      measured = has.0;
      reached = has.1.reached h.all (opening_donation h) h.first buffer keeps.reached (λ left leaves. record { selector = selector; told = told; leaves = leaves });
      opened = has.1.opened ∙ keeps.opened ∙ sym number;
    }

-- one that was upgraded
raised_kept : (now : Option Session) (h : SessionHistory) (more : Amounts) (was is : Option MeteredSession) (n n' : ℕ) → now ≡ Some (upgraded (session_after_all h) more.ram more.caps) → n' ≡ n →
    KeepsSession n (Some h) was → Raises now was is → KeepsSession n' (history_with now (Raised more ∷ []) (Some h)) is
raised_kept now h more None is n n' same number keeps raises = absurd keeps
raised_kept now h more (Some old) is n n' same number keeps raises =
    subst (λ o. KeepsSession n' (history_with o (Raised more ∷ []) (Some h)) is) (sym same) (by is (subst (λ o. Raises o (Some old) is) same raises))
  where
    by : (kept : Option MeteredSession) → IsKept (HasRaised (upgraded (session_after_all h) more.ram more.caps).account old) kept → KeepsSession n' (Some (record { first = h.first; all = h.all ++ Raised more ∷ [] })) kept
    by None has = absurd has
    by (Some kept) has = record {
      measured = has.0;
      reached = has.1.done h.all (opening_donation h) more h.first keeps.reached refl;
      opened = has.1.opened ∙ keeps.opened ∙ sym number;
    }

-- one whose upgrade was refused
refused_kept : (now : Option Session) (h : SessionHistory) (was is : Option MeteredSession) (n n' : ℕ) → now ≡ Some (session_after_all h) → n' ≡ n →
    KeepsSession n (Some h) was → Raises now was is → KeepsSession n' (history_with now [] (Some h)) is
refused_kept now h None is n n' same number keeps raises = absurd keeps
refused_kept now h (Some old) is n n' same number keeps raises =
    subst (λ o. KeepsSession n' (history_with o [] (Some h)) is) (sym same)
    (subst (λ all. KeepsSession n' (Some (record { first = h.first; all = all })) is) (sym (append-nil h.all)) (by is (subst (λ o. Raises o (Some old) is) same raises)))
  where
    by : (kept : Option MeteredSession) → IsKept (HasRaised (session_after_all h).account old) kept → KeepsSession n' (Some h) kept
    by None has = absurd has
    by (Some kept) has = record {
      measured = has.0;
      reached = has.1.refused h.all (opening_donation h) h.first keeps.reached refl;
      opened = has.1.opened ∙ keeps.opened ∙ sym number;
    }

-- one whose place was left
pub left_kept : (n n' : ℕ) (history : Option SessionHistory) (was is : Option MeteredSession) → is ≡ was → (is_some history ≡ true → n' ≡ n) → KeepsSession n history was → KeepsSession n' history is
left_kept n n' None was is same number keeps = same ∙ keeps
left_kept n n' (Some h) was is same number keeps = subst (KeepsSession n' (Some h)) (sym same) (subst (λ k. KeepsSession k (Some h) was) (sym (number refl)) keeps)

-- no history leads to no session
none_history : (history : Option SessionHistory) → Leads history None → history ≡ None
none_history None leads = refl
none_history (Some h) leads = absurd (none-some (session_after_all h) (sym leads))

-- ---- a session of the caller

module _ (entry : Entry) (component q : ℕ) (s : OwnState) (world : World) (line n n' : ℕ) (outcome : SessionOutcome) (history : Option SessionHistory) (was is : Option MeteredSession) where
  -- a call was made, and what is kept of its session is changed so
  pub record IsObserved (call : Call) : Type 0 where
    pub step : state_at world.states component ≡ (own_step entry call s).next
    pub states : IsOutcome (own_step entry call s).reply (λ k. session_at component k world) outcome
    pub active : IsActive entry q s
    pub leads : Leads history (session_in q s)
    pub keeps : KeepsSession n history was
    pub first : session_in q s ≡ None → is_some (session_at component q world) ≡ true → n' ≡ line
    pub same : is_some (session_in q s) ≡ true → is_some (session_at component q world) ≡ true → n' ≡ n
    pub changes : HearsCall line world component call outcome (reply_text (own_step entry call s).reply) component q was is

  abbrev now : Option Session
  now = session_at component q world

  abbrev Goal : Call → Type 0
  Goal call = KeepsSession n' (history_with now (reaching entry q s call) history) is

  at_own : (k : ℕ) (b : Bool) → (q == k) ≡ b → (component == component && q == k) ≡ b
  at_own k b same = ap (λ o. o && q == k) (eq-eqb component component refl) ∙ same

  remains : (call : Call) → IsObserved call → session_in q (own_step entry call s).next ≡ session_in q s → reaching entry q s call ≡ [] → is ≡ was → Goal call
  remains call o still nothing kept =
      let stays : now ≡ session_in q s = ap (session_in q) o.step ∙ still in
      subst (λ more. KeepsSession n' (history_with now more history) is) (sym nothing)
      (stays_kept now history was is n n' (o.leads ∙ sym stays) kept (λ there. o.same (ap is_some (sym stays) ∙ there) there) o.keeps)

  -- nothing was kept of no session
  was_none : (call : Call) → IsObserved call → session_in q s ≡ None → was ≡ None
  was_none call o none = subst (λ h. KeepsSession n h was) (none_history history (o.leads ∙ none)) o.keeps

  open_kept : (service text : List ℕ) → IsObserved (Open service text) → Goal (Open service text)
  open_kept service text o = elim (open_does s entry service text) [
    | inl refused ↦
        remains (Open service text) o (ap (session_in q) refused.left) refl
        (subst (λ (r : SessionOutcome). Opens line world component r.opened component q was is) (o.states.refused refused.refusal refused.replied) o.changes)
    | inr opened ↦
        let k = opened.selector in
        let there : session_at component k world ≡ Some (new_session opened.wish) = ap (session_in k) o.step ∙ opened.made in
        let changes : ChangesAt component k (Begins line (session_at component k world)) component q was is =
        subst (λ found. Opens line world component found component q was is) (o.states.opened k opened.replied (ap is_some there)) o.changes in
        elim (q == k) as (λ b. (q == k) ≡ b → Goal (Open service text)) [
          | true ↦ λ same.
              let here : k ≡ q = sym (eqb-true q k same) in
              let mine : now ≡ Some (new_session opened.wish) = subst (λ j. session_at component j world ≡ Some (new_session opened.wish)) here there in
              let free : session_in q s ≡ None = subst (λ j. session_in j s ≡ None) here opened.free in
              begun_kept now opened.wish history was is line n' mine opened.enough (none_history history (o.leads ∙ free)) (o.first free (ap is_some mine))
              (subst (λ j. Begins line (session_at component j world) was is) here (changes.0 (at_own k true same)))
          | false ↦ λ apart. remains (Open service text) o (opened.others q (eqb-false q k apart)) refl (changes.1 (at_own k false apart))
        ] refl
  ]

  -- a call that names the session
  upgrade_kept : (text : List ℕ) → IsObserved (Upgrade q text) → Goal (Upgrade q text)
  upgrade_kept text o = by (session_in q s) refl
    where
      next : OwnState
      next = (own_step entry (Upgrade q text) s).next

      raises : Raises now was is
      raises = o.changes.0 (at_own q true (eq-eqb q q refl))

      by : (found : Option Session) → session_in q s ≡ found → Goal (Upgrade q text)
      by None none =
          let gone : now ≡ None = ap (session_in q) o.step ∙ none_still q s none entry (Upgrade q text) refl in
          gone_kept now (reaching entry q s (Upgrade q text)) history is n' gone (subst (λ x. Raises x was is) gone raises ∙ was_none (Upgrade q text) o none)
      by (Some x) there =
          let led = some_image session_after_all history x (sym there ∙ sym o.leads) in
          let h = led.0 in
          let keeps : KeepsSession n (Some h) was = subst (λ g. KeepsSession n g was) led.1.0 o.keeps in
          elim (upgrade_does entry q s text x there) [
            | inl refused ↦
                let mine : now ≡ Some (session_after_all h) = ap (session_in q) (o.step ∙ refused.left) ∙ there ∙ ap Some led.1.1 in
                subst (λ more. KeepsSession n' (history_with now more history) is) (sym (reached_refused entry q s text refused))
                (subst (λ g. KeepsSession n' (history_with now [] g) is) (sym led.1.0) (refused_kept now h was is n n' mine (o.same (ap is_some there) (ap is_some mine)) keeps raises))
            | inr raised ↦
                let more : Amounts = record { ram = raised.more.ram; caps = raised.more.caps } in
                let mine : now ≡ Some (upgraded (session_after_all h) more.ram more.caps) = ap (session_in q) o.step ∙ raised.made ∙ ap (λ y. Some (upgraded y more.ram more.caps)) led.1.1 in
                subst (λ reached. KeepsSession n' (history_with now reached history) is) (sym (reached_raised entry q s text x raised))
                (subst (λ g. KeepsSession n' (history_with now (Raised more ∷ []) g) is) (sym led.1.0) (raised_kept now h more was is n n' mine (o.same (ap is_some there) (ap is_some mine)) keeps raises))
          ]

  ask_kept : (request : List ℕ) → IsObserved (CallSession q request) → Goal (CallSession q request)
  ask_kept request o = by (session_in q s) refl
    where
      reply : List ℕ
      reply = reply_text (own_step entry (CallSession q request) s).reply

      asks : Asks request reply now was is
      asks = o.changes.0 (at_own q true (eq-eqb q q refl))

      by : (found : Option Session) → session_in q s ≡ found → Goal (CallSession q request)
      by None none =
          let gone : now ≡ None = ap (session_in q) o.step ∙ none_still q s none entry (CallSession q request) refl in
          gone_kept now (reaching entry q s (CallSession q request)) history is n' gone (subst (λ x. Asks request reply x was is) gone asks ∙ was_none (CallSession q request) o none)
      by (Some x) there =
          let led = some_image session_after_all history x (sym there ∙ sym o.leads) in
          let h = led.0 in
          let buffer = buffer_of q s.selectors in
          let here = o.active (ap is_some there) in
          let mine : now ≡ Some (served (bytes_of_buffer buffer) (session_after_all h) request).session =
          ap (session_in q) o.step ∙ asked_then entry q s request x there here ∙ ap (λ y. Some (served (bytes_of_buffer buffer) y request).session) led.1.1 in
          subst (λ more. KeepsSession n' (history_with now more history) is) (sym (reached_asked entry q s request))
          (subst (λ g. KeepsSession n' (history_with now (Asked (bytes_of_buffer buffer) request ∷ []) g) is) (sym led.1.0)
          (asked_kept now h buffer request reply (new_selector s.selectors) was is n n' mine
          (ap (λ (c : Outcome). reply_text c.reply) (ask_does entry q s request x there here)
          ∙ ap (λ (y : Session). completed buffer (served (bytes_of_buffer buffer) y request).buffer (new_selector s.selectors) (served (bytes_of_buffer buffer) y request).reply) led.1.1)
          (o.same (ap is_some there) (ap is_some mine)) (subst (λ g. KeepsSession n g was) led.1.0 o.keeps) asks))

  close_kept : IsObserved (Close q) → Goal (Close q)
  close_kept o = by (session_in q s) refl
    where
      ends : Ends outcome.is_done was is
      ends = o.changes.0 (at_own q true (eq-eqb q q refl))

      by : (found : Option Session) → session_in q s ≡ found → Goal (Close q)
      by None none =
          let refused = close_none entry q s none in
          remains (Close q) o (none_still q s none entry (Close q) refl ∙ sym none) refl
          (subst (λ (r : SessionOutcome). Ends r.is_done was is) (o.states.refused refused.0 refused.1) ends)
      by (Some x) there =
          let here = o.active (ap is_some there) in
          gone_kept now [] history is n' (ap (session_in q) o.step ∙ closed_then entry q s x there here)
          (subst (λ b. Ends b was is) (o.states.done (ap (λ (c : Outcome). c.reply) (close_does entry q s x there here))) ends)

  -- an exit
  exit_kept : IsObserved Exit → Goal Exit
  exit_kept o = elim (exit_does s entry) [
    | inl refused ↦
        remains Exit o (ap (session_in q) refused.left) refl
        (subst (λ (r : SessionOutcome). Ends r.is_done was is) (o.states.refused refused.refusal refused.replied) ends)
    | inr gone ↦
        gone_kept now [] history is n' (ap (session_in q) (o.step ∙ ap (λ (c : Outcome). c.next) gone) ∙ ap session_named (get-empty q))
        (subst (λ b. Ends b was is) (o.states.done (ap (λ (c : Outcome). c.reply) gone)) ends)
  ]
    where
      ends : Ends outcome.is_done was is
      ends = o.changes.0 (eq-eqb component component refl)

  -- a call that names a session under some selector
  named_kept : (call_of : ℕ → Call) (k : ℕ) (change : Change) → IsObserved (call_of k) → opens (call_of k) ≡ false → ((k == q) ≡ false → is_of q (call_of k) ≡ false) →
      ((k == q) ≡ false → reaching entry q s (call_of k) ≡ []) → ChangesAt component k change component q was is → (IsObserved (call_of q) → Goal (call_of q)) → Goal (call_of k)
  named_kept call_of k change o none other nothing changes own = elim (q == k) as (λ b. (q == k) ≡ b → Goal (call_of k)) [
    | true ↦ λ same. subst (λ j. Goal (call_of j)) (eqb-true q k same) (own (subst (λ j. IsObserved (call_of j)) (sym (eqb-true q k same)) o))
    | false ↦ λ apart.
        let aside = flipped entry q s k false apart in
        remains (call_of k) o (session_still entry (call_of k) s q (other aside) none) (nothing aside) (changes.1 (at_own k false apart))
  ] refl

  pub observed_kept : (call : Call) → IsObserved call → Goal call
  observed_kept (Open service text) o = open_kept service text o
  observed_kept (Upgrade k text) o =
      named_kept (λ j. Upgrade j text) k (Raises (session_at component k world)) o refl (λ apart. apart)
      (λ apart. ap (λ b. cond b (raised_by (own_step entry (Upgrade k text) s).reply (arguments_of text)) []) apart) o.changes (upgrade_kept text)
  observed_kept (CallSession k request) o =
      named_kept (λ j. CallSession j request) k (Asks request (reply_text (own_step entry (CallSession k request) s).reply) (session_at component k world)) o refl (λ apart. apart)
      (λ apart. ap (λ b. cond b (Asked (bytes_of_buffer (buffer_of q s.selectors)) request ∷ []) []) apart) o.changes (ask_kept request)
  observed_kept (Close k) o = named_kept (λ j. Close j) k (Ends outcome.is_done) o refl (λ apart. apart) (λ apart. refl) o.changes close_kept
  observed_kept Exit o = exit_kept o
  observed_kept call o = remains call o (session_still entry call s q refl refl) refl o.changes

-- ---- a session of another component

pub changes_aside : (line : ℕ) (world : World) (component : ℕ) (call : Call) (outcome : SessionOutcome) (reply : List ℕ) (c q : ℕ) (was is : Option MeteredSession) → (c == component) ≡ false →
    HearsCall line world component call outcome reply c q was is → is ≡ was
changes_aside line world component (Open service text) outcome reply c q was is apart changes = by outcome.opened changes
  where
    by : (found : Option ℕ) → Opens line world component found c q was is → is ≡ was
    by None same = same
    by (Some k) at = at.1 (ap (λ b. b && q == k) apart)
changes_aside line world component (Upgrade k text) outcome reply c q was is apart changes = changes.1 (ap (λ b. b && q == k) apart)
changes_aside line world component (CallSession k request) outcome reply c q was is apart changes = changes.1 (ap (λ b. b && q == k) apart)
changes_aside line world component (Close k) outcome reply c q was is apart changes = changes.1 (ap (λ b. b && q == k) apart)
changes_aside line world component Exit outcome reply c q was is apart changes = changes.1 apart
changes_aside line world component call outcome reply c q was is apart changes = changes
