-- What is kept of peaks from call to call.
use Rattle.std.proofs.Common.{Bor, ◌≡◌, ◌≢◌, inl, inr, ℕ, ◌+◌, ◌<◌, ◌==◌, ◌&&◌, Bool, true, false, true≢false, cond, eqb-true, List, [], ◌∷◌, ◌++◌, length, is_some, max, refl, sym, ◌∙◌, ap, subst, arith}
use Rattle.std.proofs.lemmas.Bool.{and_parts, cases_lt, eqb-false}
use Rattle.std.proofs.lemmas.List.{get_or-set_other, get_or-set_same, set_past}
use Rattle.std.proofs.lemmas.Option.{none-some, same_Some}
use Rattle.std.specs.Prelude.{Option, Some, None, nat_le}
use Rattle.std.specs.List.{position}
use Rattle.std.specs.Str.{bytes_eq}
use Rattle.std.specs.Option.{option_map, option_map_or, option_or}
use Rattle.trade_base.specs.declared.refusal.Refusal.{Refusal}
use Rattle.own_model.proofs.RunningLemmas.{world_running-push}
use Rattle.own_model.specs.Account.{Account}
use Rattle.own_model.specs.Amounts.{Amounts}
use Rattle.own_model.specs.Call.{Call, Spoken, parsed_call}
use Rattle.own_model.specs.Call.Call.{Open}
use Rattle.own_model.specs.Limits.{init_after, inits_after}
use Rattle.own_model.specs.Listed.{Listed, start_list_of}
use Rattle.own_model.specs.OwnState.{OwnState}
use Rattle.own_model.specs.OwnStep.{own_step}
use Rattle.own_model.specs.Reply.{Reply, reply_text}
use Rattle.own_model.specs.Reply.Reply.{Selected, Done, Refused}
use Rattle.own_model.specs.Running.{running_step}
use Rattle.own_model.specs.Session.{Session}
use Rattle.own_model.specs.StartList.{Entry, Kind, init_at, no_account}
use Rattle.own_model.specs.StartList.Kind.{Script, Server, Init}
use Rattle.own_model.specs.Transcript.{Heard, Made, calls_in, entry_at, heard, heard_call, classify_call, heard_spoken, longest_line, nothing, state_at}
use Rattle.own_model.specs.Transcript.Heard.{NoCall, Stranger, Caller}
use Rattle.own_model.specs.World.{World, account_at, account_by, machine_init, world_after_line, world_running}
use Rattle.core_calls.specs.Outcome.{IsText}
use Rattle.run_lines.specs.Answer.{answered_reply}
use Rattle.run_lines.specs.Machine.{world_of}
use Rattle.run_lines.specs.declared.line_answer.LineAnswer.{LineAnswer}
use Rattle.view_accounts.specs.Kept.{SeesPeaks, begun_with, found, grown, in_use, noted_after, noted_in, noted_more, peak_at, raised_in}
use Rattle.view_accounts.specs.Peaks.{Noted, is_open, label_by, noted_of, peak_of, server_by, session_account_at, session_at, worlds}
use Rattle.run_scenario.specs.Said.{said_in}
use Rattle.run_scenario.specs.Observation.{IsAnsweredAfter}
use Rattle.view_accounts.specs.declared.peaks.Peak.{Peak}
use Rattle.view_accounts.specs.declared.peaks.SessionPeak.{SessionPeak as Kept}
use Rattle.view_accounts.specs.declared.session_outcome.SessionOutcome.{SessionOutcome}
use Rattle.view_accounts.specs.declared.session_table.SessionTable.{SessionTable}
use Rattle.view_accounts.proofs.NeedLemmas.{steps_now}
use Rattle.view_accounts.proofs.NotedLemmas.{noted_first, noted_last, noted_still}
use Rattle.view_accounts.proofs.OpenLemmas.{closed_at_start, none_still}
use Rattle.view_accounts.proofs.PeakLemmas.{peak-more, peak-same, worlds-more}
use Rattle.view_accounts.proofs.SessionStepLemmas.{IsOutcome, noted_aside, noted_is, session_in}

-- ---- what is kept of one session

-- one is put under a selector, or taken
pub found_then : (b : Bool) (x now was : Option Kept) → now ≡ cond b x was → option_map noted_in now ≡ cond b (option_map noted_in x) (option_map noted_in was)
found_then true x now was is = ap (option_map noted_in) is
found_then false x now was is = ap (option_map noted_in) is

-- one is looked at
pub noted_found : (o : Option (Bor Kept)) (kept : Option Kept) → option_map (λ value. value.now) o ≡ kept → option_map (λ session. noted_in session.now) o ≡ option_map noted_in kept
noted_found None kept is = ap (option_map noted_in) is
noted_found (Some value) kept is = ap (option_map noted_in) is

-- one was opened, or none
pub found_opened : (b : Bool) (session : Kept) (now was : Option Kept) (begun : Option Noted) → now ≡ cond b (Some session) was → Some (noted_in session) ≡ begun →
    option_map noted_in now ≡ option_or (cond b begun None) (option_map noted_in was)
found_opened true session now was begun is noted = ap (option_map noted_in) is ∙ ap (λ o. option_or o (option_map noted_in was)) noted
found_opened false session now was begun is noted = ap (option_map noted_in) is

pub found_unopened : (b : Bool) (now : Option Session) (first : Session → Noted) (was : Option Noted) → None ≡ option_map (λ (x : Session). x.account) now →
    was ≡ option_or (cond b (option_map first now) None) was
found_unopened true None first was none = refl
found_unopened true (Some x) first was none = absurd (none-some x.account none)
found_unopened false now first was none = refl

-- one was used, or is gone, at the place where it was
module _ (component selector c q : ℕ) (kept : ℕ → ℕ → Option Kept) (now : ℕ → ℕ → Option Session) where
  abbrev here : Bool
  here = c == component && q == selector

  -- the place is the same
  at_place : (x : Option Noted) → x ≡ raised_in (now component selector) (option_map noted_in (kept component selector)) →
      (b : Bool) → here ≡ b → cond b x (option_map noted_in (kept c q)) ≡ cond b (raised_in (now c q) (option_map noted_in (kept c q))) (option_map noted_in (kept c q))
  at_place x is true same =
      let parts = and_parts (c == component) (q == selector) same in
      let same_component : component ≡ c = sym (eqb-true c component parts.0) in
      let same_selector : selector ≡ q = sym (eqb-true q selector parts.1) in
      is ∙ (λ i. raised_in (now (same_component i) (same_selector i)) (option_map noted_in (kept (same_component i) (same_selector i))))
  at_place x is false apart = refl

  pub found_named : (x then : Option Kept) → then ≡ cond here x (kept c q) → option_map noted_in x ≡ raised_in (now component selector) (option_map noted_in (kept component selector)) →
      option_map noted_in then ≡ cond here (raised_in (now c q) (option_map noted_in (kept c q))) (option_map noted_in (kept c q))
  found_named x then is noted = found_then here x then (kept c q) is ∙ at_place (option_map noted_in x) noted here refl

-- what is noted of a session that is there
abbrev pub noted_first_of : Account → Option ℕ → List ℕ → Noted
noted_first_of account server label = record { peak = in_use account; server = server; label = label }

pub begun_there : (now : Option Session) (account : Account) (server : Option ℕ) (label : List ℕ) → Some account ≡ option_map (λ (x : Session). x.account) now →
    Some (noted_first_of account server label) ≡ option_map (λ (x : Session). noted_first_of x.account server label) now
begun_there None account server label is = absurd (none-some account (sym is))
begun_there (Some x) account server label is = let same : account ≡ x.account = same_Some account x.account is in ap (λ (a : Account). Some (noted_first_of a server label)) same

-- what isn't noted isn't raised
pub raised_none : (now : Option Session) (was : Option Noted) → was ≡ None → None ≡ raised_in now was
raised_none now was none = by now ∙ ap (raised_in now) (sym none)
  where
    by : (o : Option Session) → None ≡ raised_in o None
    by None = refl
    by (Some x) = refl

-- ---- what a line is heard as

-- a line is heard as what it says
pub heard_said : (entries : List Entry) (line : List ℕ) → heard entries line ≡ heard_spoken entries (said_in line)
heard_said entries line =
    elim (nat_le (length line) longest_line) as (λ b. cond b (heard_spoken entries (parsed_call line)) NoCall ≡ heard_spoken entries (cond b (parsed_call line) None)) [ true ↦ refl | false ↦ refl ]

-- a call says what it is heard as
abbrev heard_as_call : Heard → Option Call
heard_as_call NoCall = None
heard_as_call (Stranger name) = None
heard_as_call (Caller made) = Some made.call

says_of : (kind : Kind) (says : Spoken) (component : ℕ) (call : Call) → heard_as_call (classify_call kind says component) ≡ Some call → says.call ≡ call
says_of Script says component call is = same_Some says.call call is
says_of Server says component call is = same_Some says.call call is
says_of Init says component call is = absurd (none-some call is)

says_called : (entries : List Entry) (says : Spoken) (at : Option ℕ) (call : Call) → heard_as_call (heard_call entries says at) ≡ Some call → says.call ≡ call
says_called entries says None call is = absurd (none-some call is)
says_called entries says (Some component) call is = says_of (entry_at entries component).kind says component call is

said_call : (entries : List Entry) (said : Option Spoken) (call : Call) → heard_as_call (heard_spoken entries said) ≡ Some call → option_map (λ (says : Spoken). says.call) said ≡ Some call
said_call entries None call is = absurd (none-some call is)
said_call entries (Some says) call is = ap Some (says_called entries says (position (λ (entry : Entry). bytes_eq entry.name says.name) entries) call is)

-- ---- what accounts use after a call

inits_use : (home : ℕ) (inits : List Account) (s next : OwnState) (n : ℕ) → in_use (init_at (inits_after home inits s next) n) ≡ in_use (init_at inits n)
inits_use home inits s next n = elim (n == home) as (λ b. (n == home) ≡ b → in_use (init_at (inits_after home inits s next) n) ≡ in_use (init_at inits n)) [
  | true ↦ λ same. elim (cases_lt home (length inits)) [
    | inl within ↦
        let here : n ≡ home = eqb-true n home same in
        ap (λ k. in_use (init_at (inits_after home inits s next) k)) here
        ∙ ap in_use (get_or-set_same inits home (init_after (init_at inits home) s next) no_account within)
        ∙ ap (λ k. in_use (init_at inits k)) (sym here)
    | inr past ↦ ap (λ (l : List Account). in_use (init_at l n)) (set_past inits home (init_after (init_at inits home) s next) past)
  ]
  | false ↦ λ apart. ap in_use (get_or-set_other inits home n (init_after (init_at inits home) s next) no_account (eqb-false n home apart))
] refl

use_by : (kind : Kind) (init init' own own' : Account) → in_use init' ≡ in_use init → own' ≡ own → in_use (account_by kind init' own') ≡ in_use (account_by kind init own)
use_by Script init init' own own' used same = ap in_use same
use_by Server init init' own own' used same = ap in_use same
use_by Init init init' own own' used same = used

module _ (world : World) (made : Made) where
  abbrev next : OwnState
  next = (running_step world.entries world.states made).next

  abbrev left_by : World
  left_by = world_after_line world (Caller made)

  use_of_inits : (n : ℕ) → in_use (init_at left_by.inits n) ≡ in_use (init_at world.inits n)
  use_of_inits n = inits_use (entry_at world.entries made.component).home world.inits (state_at world.states made.component) next n

  -- another's state stays
  pub aside : (place : ℕ) → place ≢ made.component → state_at left_by.states place ≡ state_at world.states place
  aside place apart = get_or-set_other world.states made.component place next nothing apart

  -- and so does what its account uses
  use_aside : (place : ℕ) → place ≢ made.component → in_use (account_at left_by place) ≡ in_use (account_at world place)
  use_aside place apart =
      use_by (entry_at world.entries place).kind (init_at world.inits (place + 1)) (init_at left_by.inits (place + 1)) (state_at world.states place).account (state_at left_by.states place).account
      (use_of_inits (place + 1)) (ap (λ s. s.account) (aside place apart))

-- ---- at the start

most_of_one : (n : ℕ) → n ≡ max n 0
most_of_one n = omega arith

peak_first : (account_in : World → Account) (start : World) → in_use (account_in start) ≡ peak_of account_in (worlds start [])
peak_first account_in start = λ i. record { ram = most_of_one (account_in start).ram_used i; caps = most_of_one (account_in start).caps_used i }

pub sees_first : {init : Amounts} {components : List Peak} {sessions : SessionTable Kept} (listed : Listed) {start : World} → start ≡ world_of listed → init ≡ in_use (machine_init start) →
    length components ≡ length start.entries → ((place : ℕ) → place < length start.entries → peak_at components place ≡ in_use (account_at start place)) →
    ((component selector : ℕ) → found sessions component selector ≡ None) → SeesPeaks init components sessions listed start []
sees_first {init} {components} {sessions} listed {start} starts of_init count of_components none =
    let closed = λ (component selector : ℕ). ap (is_open component selector) starts ∙ closed_at_start component selector (start_list_of listed) in
    record {
      of_init = of_init ∙ peak_first machine_init start;
      count = count;
      of_components = λ place within. of_components place within ∙ peak_first (λ w. account_at w place) start;
      none_at_start = closed;
      of_sessions = λ component selector within.
          none component selector ∙ ap (λ b. cond b (Some (noted_of listed start [] component selector)) None) (sym (closed component selector));
    }

-- ---- and then from call to call

-- what is noted of a session in a world
abbrev noted_by : Option Session → Noted → Option Noted
noted_by now noted = cond (is_some now) (Some noted) None

noted_same : (before now : Option Session) (was is : Noted) → now ≡ before → (is_some now ≡ true → was ≡ is) → noted_by before was ≡ noted_by now is
noted_same before now was is same noted = ap (λ o. noted_by o was) (sym same) ∙ by now noted
  where
    by : (o : Option Session) → (is_some o ≡ true → was ≡ is) → noted_by o was ≡ noted_by o is
    by None noted = refl
    by (Some x) noted = ap Some (noted refl)

noted_raised : (before now : Option Session) (was is : Noted) → (is_some before ≡ true → (x : Session) → now ≡ Some x → is ≡ noted_more was x.account) → (before ≡ None → now ≡ None) →
    raised_in now (noted_by before was) ≡ noted_by now is
noted_raised None None was is still closed = refl
noted_raised None (Some x) was is still closed = absurd (none-some x (sym (closed refl)))
noted_raised (Some b) None was is still closed = refl
noted_raised (Some b) (Some x) was is still closed = ap Some (sym (still refl x refl))

module _ {init : Amounts} {components : List Peak} {sessions : SessionTable Kept} {listed : Listed} {start : World} {earlier : List (List ℕ)} (sees : SeesPeaks init components sessions listed start earlier)
    (line : List ℕ) where
  abbrev after : World
  after = world_running start (earlier ++ line ∷ [])

  abbrev before : World
  before = world_running start earlier

  abbrev was_noted : ℕ → ℕ → Noted
  was_noted component selector = noted_of listed start earlier component selector

  abbrev is_noted : ℕ → ℕ → Noted
  is_noted component selector = noted_of listed start (earlier ++ line ∷ []) component selector

  -- the peak of an account whose use stays
  stays : (account_in : World → Account) → in_use (account_in after) ≡ in_use (account_in before) → peak_of account_in (worlds start earlier) ≡ peak_of account_in (worlds start (earlier ++ line ∷ []))
  stays account_in used = peak-same account_in start earlier line used

  -- and of one that is looked at
  grows : (account_in : World → Account) → grown (peak_of account_in (worlds start earlier)) (account_in after) ≡ peak_of account_in (worlds start (earlier ++ line ∷ []))
  grows account_in = sym (peak-more account_in (worlds start earlier) after) ∙ ap (peak_of account_in) (sym (worlds-more start earlier line))

  module _ (component selector : ℕ) where
    account_is : (world : World) (x : Session) → session_at component selector world ≡ Some x → session_account_at component selector world ≡ x.account
    account_is world x there = ap (λ o. option_map_or (λ (s : Session). s.account) o no_account) there

    -- what is noted of a session that stays
    same_noted : session_at component selector after ≡ session_at component selector before → is_open component selector after ≡ true → was_noted component selector ≡ is_noted component selector
    same_noted same now =
        let then : is_open component selector before ≡ true = ap is_some (sym same) ∙ now in
        sym (noted_last component selector start earlier listed then)
        ∙ ap (λ o. noted_more (was_noted component selector) (option_map_or (λ (s : Session). s.account) o no_account)) (sym same)
        ∙ sym (noted_still component selector start earlier line now listed (sees.none_at_start component selector) then)

    -- and of one that is used
    more_noted : is_open component selector before ≡ true → (x : Session) → session_at component selector after ≡ Some x → is_noted component selector ≡ noted_more (was_noted component selector) x.account
    more_noted then x there =
        noted_still component selector start earlier line (ap is_some there) listed (sees.none_at_start component selector) then
        ∙ ap (noted_more (was_noted component selector)) (account_is after x there)

    -- and of one that the line's call opened
    first_noted : (service text : List ℕ) (made : Made) → heard start.entries line ≡ Caller made → made.call ≡ Open service text → session_at component selector before ≡ None → is_open component selector after ≡ true →
        begun_with listed after service text component selector ≡ Some (is_noted component selector)
    first_noted service text made is called closed now = by (session_at component selector after) refl
      where
        said : option_map (λ (says : Spoken). says.call) (said_in line) ≡ Some (Open service text)
        said = said_call start.entries (said_in line) (Open service text) (ap heard_as_call (sym (heard_said start.entries line) ∙ is) ∙ ap Some called)

        server_is : (o : Option Spoken) → option_map (λ (says : Spoken). says.call) o ≡ Some (Open service text) → server_by listed component (Some (record { name = []; call = Open service text })) ≡ server_by listed component o
        server_is None none = absurd (none-some (Open service text) none)
        server_is (Some says) of = let same : says.call ≡ Open service text = same_Some says.call (Open service text) of in ap (λ call. server_by listed component (Some (record { name = []; call = call }))) (sym same)

        label_is : (o : Option Spoken) → option_map (λ (says : Spoken). says.call) o ≡ Some (Open service text) →
            label_by (entry_at start.entries component).label (Some (record { name = []; call = Open service text })) ≡ label_by (entry_at start.entries component).label o
        label_is None none = absurd (none-some (Open service text) none)
        label_is (Some says) of =
            let same : says.call ≡ Open service text = same_Some says.call (Open service text) of in
            ap (λ call. label_by (entry_at start.entries component).label (Some (record { name = []; call = call }))) (sym same)

        by : (o : Option Session) → session_at component selector after ≡ o → begun_with listed after service text component selector ≡ Some (is_noted component selector)
        by None gone = absurd (true≢false (sym now ∙ ap is_some gone))
        by (Some x) there =
            ap (option_map (λ (s : Session). noted_first_of s.account (server_by listed component (Some (record { name = []; call = Open service text }))) (label_by (entry_at start.entries component).label (Some (record { name = []; call = Open service text }))))) there
            ∙ (λ i. Some (noted_first_of (sym (account_is after x there) i) (server_is (said_in line) said i) (label_is (said_in line) said i)))
            ∙ ap Some (sym (noted_first component selector start earlier line now listed (ap is_some closed)))

  -- ---- a line that calls nobody

  pub sees_silent : calls_in (heard start.entries line) ≡ [] → SeesPeaks init components sessions listed start (earlier ++ line ∷ [])
  sees_silent none = record {
    of_init = sees.of_init ∙ stays machine_init (ap (λ w. in_use (machine_init w)) same);
    count = sees.count;
    of_components = λ place within. sees.of_components place within ∙ stays (λ w. account_at w place) (ap (λ w. in_use (account_at w place)) same);
    none_at_start = sees.none_at_start;
    of_sessions = λ component selector within.
        sees.of_sessions component selector within
        ∙ noted_same (session_at component selector before) (session_at component selector after) (was_noted component selector) (is_noted component selector)
        (ap (session_at component selector) same) (same_noted component selector (ap (session_at component selector) same));
  }
    where
      silent : (what : Heard) → calls_in what ≡ [] → world_after_line before what ≡ before
      silent NoCall empty = refl
      silent (Stranger name) empty = refl
      silent (Caller made) empty = absurd (true≢false (ap (λ (l : List Made). is_none_of l) (sym empty)))
        where
          is_none_of : List Made → Bool
          is_none_of [] = true
          is_none_of (first ∷ rest) = false

      same : after ≡ before
      same = world_running-push start earlier line ∙ silent (heard start.entries line) none

  -- ---- and one that a component's call is

  module _ (component : ℕ) (call : Call) (is : heard start.entries line ≡ Caller (record { component = component; call = call })) (outcome : SessionOutcome)
      (tells : IsOutcome (own_step (entry_at start.entries component) call (state_at before.states component)).reply (λ k. session_at component k after) outcome) where
    abbrev made : Made
    made = record { component = component; call = call }

    after_is : after ≡ world_after_line before (Caller made)
    after_is = world_running-push start earlier line ∙ ap (world_after_line before) is

    step_is : state_at after.states component ≡ (own_step (entry_at start.entries component) call (state_at before.states component)).next
    step_is = steps_now start earlier line component call is

    -- a session of the caller
    own_noted : (q : ℕ) → component < length start.entries → noted_after listed after component call outcome component q (found sessions component q) ≡ noted_by (session_at component q after) (is_noted component q)
    own_noted q within =
        noted_is listed after component (entry_at start.entries component) (state_at before.states component) outcome q (found sessions component q) (noted_by (session_at component q after) (is_noted component q))
        call
        (record {
          tells = subst (λ s. IsOutcome (own_step (entry_at start.entries component) call (state_at before.states component)).reply (λ k. session_in k s) outcome) step_is tells;
          stays = λ same. was ∙ noted_same (session_at component q before) (session_at component q after) (was_noted component q) (is_noted component q)
              (ap (session_in q) step_is ∙ same) (same_noted component q (ap (session_in q) step_is ∙ same));
          comes = λ service text opening closed there.
              let now : is_open component q after ≡ true = ap (λ s. is_some (session_in q s)) step_is ∙ there in
              ap (λ o. option_or o (found sessions component q)) (first_noted component q service text made is opening closed now)
              ∙ ap (λ b. cond b (Some (is_noted component q)) None) (sym now);
          changes = λ none.
              ap (raised_in (session_at component q after)) was
              ∙ noted_raised (session_at component q before) (session_at component q after) (was_noted component q) (is_noted component q) (more_noted component q)
              (λ closed. ap (session_in q) step_is ∙ none_still q (state_at before.states component) closed (entry_at start.entries component) call none);
          goes = λ gone. ap (λ o. noted_by o (is_noted component q)) (sym (ap (session_in q) step_is ∙ gone));
        })
      where
        was : found sessions component q ≡ noted_by (session_at component q before) (was_noted component q)
        was = sees.of_sessions component q within

    -- and any one
    all_noted : (c q : ℕ) → c < length start.entries → noted_after listed after component call outcome c q (found sessions c q) ≡ noted_by (session_at c q after) (is_noted c q)
    all_noted c q within = elim (c == component) as (λ b. (c == component) ≡ b → noted_after listed after component call outcome c q (found sessions c q) ≡ noted_by (session_at c q after) (is_noted c q)) [
      | true ↦ λ same.
          let here : component ≡ c = sym (eqb-true c component same) in
          subst (λ k. noted_after listed after component call outcome k q (found sessions k q) ≡ noted_by (session_at k q after) (is_noted k q)) here
          (own_noted q (subst (λ k. k < length start.entries) (sym here) within))
      | false ↦ λ apart.
          let same : session_at c q after ≡ session_at c q before =
          ap (session_at c q) after_is ∙ ap (session_in q) (aside before made c (eqb-false c component apart)) in
          noted_aside listed after component call outcome c q (found sessions c q) apart ∙ sees.of_sessions c q within
          ∙ noted_same (session_at c q before) (session_at c q after) (was_noted c q) (is_noted c q) same (same_noted c q same)
    ] refl

    pub sees_called : (left : World) → left ≡ after → (init' : Amounts) (components' : List Peak) (sessions' : SessionTable Kept) → init' ≡ init → length components' ≡ length components →
        ((place : ℕ) → place ≢ component → peak_at components' place ≡ peak_at components place) →
        (component < length components → peak_at components' component ≡ grown (peak_at components component) (account_at left component)) →
        ((c q : ℕ) → found sessions' c q ≡ noted_after listed left component call outcome c q (found sessions c q)) →
        SeesPeaks init' components' sessions' listed start (earlier ++ line ∷ [])
    sees_called left leads init' components' sessions' of_init count others own of_sessions = record {
      of_init = of_init ∙ sees.of_init ∙ stays machine_init (ap (λ w. in_use (machine_init w)) after_is ∙ use_of_inits before made 0);
      count = count ∙ sees.count;
      of_components = λ place within. by_place place within (place == component) refl;
      none_at_start = sees.none_at_start;
      of_sessions = λ c q within. of_sessions c q ∙ ap (λ w. noted_after listed w component call outcome c q (found sessions c q)) leads ∙ all_noted c q within;
    }
      where
        by_place : (place : ℕ) → place < length start.entries → (b : Bool) → (place == component) ≡ b → peak_at components' place ≡ peak_of (λ w. account_at w place) (worlds start (earlier ++ line ∷ []))
        by_place place within true same =
            let here : component ≡ place = sym (eqb-true place component same) in
            subst (λ k. peak_at components' k ≡ peak_of (λ w. account_at w k) (worlds start (earlier ++ line ∷ []))) here
            (own (subst (λ k. k < length components) (sym here) (omega (arith, within, sees.count))) ∙ ap (λ w. grown (peak_at components component) (account_at w component)) leads
            ∙ ap (λ peak. grown peak (account_at after component)) (sees.of_components component (subst (λ k. k < length start.entries) (sym here) within))
            ∙ grows (λ w. account_at w component))
        by_place place within false apart =
            others place (eqb-false place component apart) ∙ sees.of_components place within
            ∙ stays (λ w. account_at w place) (ap (λ w. in_use (account_at w place)) after_is ∙ use_aside before made place (eqb-false place component apart))

-- ---- what an outcome tells of sessions, by what was told of the call

module _ {start : World} {earlier : List (List ℕ)} {line : List ℕ} {left : World} {answer : LineAnswer} (told : IsAnsweredAfter start earlier line left answer)
    (component : ℕ) (call : Call) (is : heard start.entries line ≡ Caller (record { component = component; call = call })) where
  abbrev replied : Reply
  replied = (own_step (entry_at start.entries component) call (state_at (world_running start earlier).states component)).reply

  is_text : (reply : Reply) → replied ≡ reply → IsText answer.outcome (reply_text reply)
  is_text reply same =
      subst (IsText answer.outcome) (told.answers.reply ∙ ap (λ what. reply_text (answered_reply (world_running start earlier) what)) is ∙ ap reply_text same) answer.rendered

  pub is_outcome : (outcome : SessionOutcome) →
      ((selector : ℕ) → IsText answer.outcome (reply_text (Selected selector)) → is_open component selector left ≡ true → outcome.opened ≡ Some selector) →
      (IsText answer.outcome (reply_text Done) → outcome.is_done ≡ true) →
      ((refusal : Refusal) → IsText answer.outcome (reply_text (Refused refusal)) → outcome ≡ record { opened = None; is_done = false }) →
      IsOutcome replied (λ k. session_at component k (world_running start (earlier ++ line ∷ []))) outcome
  is_outcome outcome opened done refused = record {
    opened = λ selector same there. opened selector (is_text (Selected selector) same) (subst (λ w. is_open component selector w ≡ true) (sym told.leaves) there);
    done = λ same. done (is_text Done same);
    refused = λ refusal same. refused refusal (is_text (Refused refusal) same);
  }
