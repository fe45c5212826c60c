-- The lines that a session's run shows.
use Rattle.std.proofs.lemmas.List.{append-nil, drop_all}
use Rattle.std.proofs.lemmas.Slice.Eq.{bytes_eq-Decides}
use Rattle.std.proofs.Common.{◌||◌, ◌≡◌, ℕ, ◌+◌, ◌<◌, ◌≤◌, Bool, true, false, true≢false, cond, List, [], ◌∷◌, ◌++◌, append_assoc, decimal, length, drop, get_or, drop-cons, add-one, refl, sym, ap, ◌∙◌, subst}
use Rattle.std.specs.Prelude.{Option, Some, None, codes, slice_get, IfOk, OnOk, Result, Ok, Err}
use Rattle.std.specs.FinMap.{get}
use Rattle.std.specs.List.{list_any}
use Rattle.std.specs.Option.{option_map, option_map_or}
use Rattle.std.specs.Str.{bytes_eq}
use Rattle.trade_base.specs.declared.refusal.Refusal.{Refusal}
use Rattle.own_model.specs.Account.{Account}
use Rattle.own_model.specs.Amounts.{Amounts}
use Rattle.own_model.specs.Call.{Call}
use Rattle.own_model.specs.Call.Call.{Upgrade, CallSession}
use Rattle.own_model.specs.OwnState.{NamedBuffer, bytes_of_buffer, session_named}
use Rattle.own_model.specs.OwnStep.{completed}
use Rattle.own_model.specs.Reply.{reply_text}
use Rattle.own_model.specs.Session.{Session, Served, Wish, new_session, served, too_small, upgraded}
use Rattle.own_model.specs.SessionArgs.{Arguments, arguments_of}
use Rattle.own_model.specs.Transcript.{state_at}
use Rattle.own_model.specs.World.{World, outcome_at, with_state}
use Rattle.core_calls.specs.Quotas.{quotas_account}
use Rattle.core_calls.specs.declared.quotas.Quotas.{Quotas}
use Rattle.budget_theorems.specs.Request.{donating, shows_session_short}
use Rattle.budget_theorems.specs.RequestTheorems.{session_is_short}
use Rattle.budget_meter.proofs.SessionLemmas.{all_left, want_told}
use Rattle.budget_meter.specs.Asked.{asked_in}
use Rattle.budget_meter.specs.SessionRuns.{Sent, run_in_want}
use Rattle.budget_meter.specs.SessionRuns.Sent.{Asks, Raises}
use Rattle.budget_meter.specs.Sessions.{IsAt, IsLeft, IsServedBy, HasReached, Shows}
use Rattle.budget_meter.specs.declared.session.SessionMeter.{SessionMeter}
use Rattle.budget_search.specs.OpenedSessions.{HasLeft, HasSelectors, held}
use Rattle.budget_search.specs.Shortages.{shortage_reply}
use Rattle.budget_search.specs.RunLines.{RunLines, ended_by, preceded, skipped_by}
use Rattle.budget_search.specs.SessionLines.{LinesAfter, HasSessionLeft, donated_shortage, is_skipped, lines_asking, lines_at, lines_calling, lines_opening, lines_raising, lines_step, lines_without, refused_line, session_lines, session_shortage}
use Rattle.budget_search.specs.Steps.{Mark, call_said, mark_of, number_at}
use Rattle.budget_search.specs.declared.component_line.ComponentLine.{ComponentLine}
use Rattle.budget_search.specs.declared.trial.RefusedLine.{RefusedLine}
use Rattle.budget_search.specs.declared.trial.SkippedLine.{SkippedLine}
use Rattle.budget_search.specs.declared.trial.Shortage.{Shortage}
use Rattle.budget_search.specs.declared.trial.Shortage.TheVariants.{SessionRam, SessionCaps}
use Rattle.budget_search.proofs.HeldLemmas.{named_of, named_there, bytes_back}
use Rattle.budget_search.proofs.SessionLemmas.{has_then, served_so, has_raised, raised_leaves}

-- ---- the reply to a request that is short

-- a selector after it changes no shortage
after_ram : (digits : List ℕ) → shows_session_short (shortage_reply SessionRam ++ digits) ≡ true → session_shortage (shortage_reply SessionRam ++ digits) ≡ SessionRam
after_ram [] short = refl
after_ram (digit ∷ digits) short = absurd (true≢false (sym short))

with_digits : (reply digits : List ℕ) (ram caps : Bool) → bytes_eq reply (shortage_reply SessionRam) ≡ ram → bytes_eq reply (shortage_reply SessionCaps) ≡ caps →
    (ram || caps) ≡ true → shows_session_short (reply ++ digits) ≡ true → session_shortage (reply ++ digits) ≡ session_shortage reply
with_digits reply digits true caps is _ _ short =
    let same : reply ≡ shortage_reply SessionRam = (bytes_eq-Decides reply (shortage_reply SessionRam)).0 is in
    subst (λ text. session_shortage (text ++ digits) ≡ session_shortage text) (sym same)
    (after_ram digits (subst (λ text. shows_session_short (text ++ digits) ≡ true) same short))
with_digits reply digits false true _ is _ short =
    let same : reply ≡ shortage_reply SessionCaps = (bytes_eq-Decides reply (shortage_reply SessionCaps)).0 is in
    subst (λ text. session_shortage (text ++ digits) ≡ session_shortage text) (sym same) refl
with_digits reply digits false false _ _ none _ = absurd (true≢false (sym none))

-- so the client gets a reply with the shortage of the server's
completed_so : (named : Option NamedBuffer) (bytes : Option (List ℕ)) (selector : ℕ) (reply : List ℕ) → shows_session_short reply ≡ true →
    shows_session_short (completed named bytes selector reply) ≡ true → session_shortage (completed named bytes selector reply) ≡ session_shortage reply
completed_so None None selector reply short told = refl
completed_so None (Some bytes) selector reply short told =
    with_digits reply (decimal selector) (bytes_eq reply (shortage_reply SessionRam)) (bytes_eq reply (shortage_reply SessionCaps)) refl refl short told
completed_so (Some named) bytes selector reply short told = refl

-- ---- whether a request is short

-- the last request is short if its run is
last_short : (b : Bool) (next : Session) → (b || session_is_short (cond b [] []) next) ≡ b
last_short true next = refl
last_short false next = refl

module _ (sent : List Sent) (donation : Amounts) (session : Session) (request : List ℕ) (buffer : Option (List ℕ)) (now : Session) (old new : SessionMeter)
    (before : IsLeft sent (Asks request ∷ []) donation session buffer now old) where
  abbrev its : Served
  its = served buffer now request

  short_last : run_in_want sent session donation ≡ shows_session_short its.reply
  short_last = before.want ∙ last_short (shows_session_short its.reply) its.session

  -- it isn't short if the run continues
  pub passes : IsLeft sent [] donation session its.buffer its.session new → shows_session_short its.reply ≡ false
  passes after = sym short_last ∙ after.want

  -- it is short if the run ends
  pub ends : Shows sent session donation true new.meter → shows_session_short its.reply ≡ true
  ends shows = sym short_last ∙ ap (λ b. b || run_in_want sent session donation) (sym before.has.opens) ∙ sym shows.want

-- ---- a request

module _ (world after : World) (client : ℕ) (selector line : ℕ) (request reply : List ℕ) (told : reply ≡ reply_text (outcome_at world client (CallSession 1 request)).reply)
    (stepped : after ≡ with_state world client (outcome_at world client (CallSession 1 request)).next) (left : Quotas)
    (account : Some (quotas_account left) ≡ option_map (λ (s : Session). s.account) (session_named (get (state_at after.states client).selectors 1)))
    (session : Session) (donation : Amounts) (old new : SessionMeter) (so_far : List SkippedLine) (rest : LinesAfter) (whole : RunLines)
    (before : HasSessionLeft world client old session donation so_far (lines_asking line request rest) whole) where
  abbrev o : Served
  o = served before.buffer before.now request

  abbrev named : Option NamedBuffer
  named = named_of before.buffer

  abbrev by : Option (List ℕ) → Served
  by buffer = served buffer before.now request

  abbrev its_line : RefusedLine
  its_line = record { line = line; shortage = session_shortage o.reply }

  -- what the run shows if the request is short of quota or not
  abbrev lines_if : Bool → RunLines
  lines_if b = preceded so_far (cond b (ended_by (Some its_line)) (rest o.buffer o.session))

  -- what the run sends, if it sends this after the request
  abbrev asks : List Sent → List Sent
  asks more = before.sent ++ Asks request ∷ more

  abbrev last : HasLeft world client old (asks []) (Asks request ∷ []) session donation
  last = record { now = before.now; buffer = before.buffer; has = before.has; left = before.left (Asks request ∷ []) }

  so : IsServedBy reply left named o
  so = served_so world after client selector request reply told stepped left account (asks []) [] session donation old new last

  has_after : HasSelectors after client (held o.session o.buffer)
  has_after = has_then world after client selector request reply told stepped left account (asks []) [] session donation old new last

  so_named : IsServedBy reply left named (by (bytes_of_buffer named))
  so_named = subst (λ buffer. IsServedBy reply left named (by buffer)) (sym (bytes_back before.buffer)) so

  left_named : (more : List Sent) → IsLeft (asks more) (Asks request ∷ more) donation session (bytes_of_buffer named) before.now old
  left_named more =
      subst (λ buffer. IsLeft (asks more) (Asks request ∷ more) donation session buffer before.now old) (sym (bytes_back before.buffer))
      (before.left (Asks request ∷ more))

  -- the run continues
  pub lines_later :
      ((more : List Sent) → IsLeft (asks more) (Asks request ∷ more) donation session (bytes_of_buffer named) before.now old → IsServedBy reply left named (by (bytes_of_buffer named)) →
      IsLeft (asks more) more donation session (by (bytes_of_buffer named)).buffer (by (bytes_of_buffer named)).session new) →
      HasSessionLeft after client new session donation so_far rest whole
  lines_later follows =
      let follow : (more : List Sent) → IsLeft (asks more) more donation session o.buffer o.session new
      = λ more. subst (λ buffer. IsLeft (asks more) more donation session (by buffer).buffer (by buffer).session new) (bytes_back before.buffer)
      (follows more (left_named more) so_named) in
      let not_short = passes (asks []) donation session request before.buffer before.now old new (before.left (Asks request ∷ [])) (follow []) in
      record {
        now = o.session;
        buffer = o.buffer;
        has = has_after;
        sent = asks [];
        left = λ more. subst (λ all. IsLeft all more donation session o.buffer o.session new) (sym (append_assoc before.sent (Asks request ∷ []) more)) (follow more);
        whole_is = sym (ap lines_if not_short) ∙ before.whole_is;
      }

  -- the run ends with this line
  pub lines_end :
      ((more : List Sent) → IsLeft (asks more) (Asks request ∷ more) donation session (bytes_of_buffer named) before.now old → IsServedBy reply left named (by (bytes_of_buffer named)) →
      Shows (asks more) session donation true new.meter) →
      (refused : RefusedLine) → refused.line ≡ line → refused.shortage ≡ session_shortage reply → record { left_out = so_far; refused = Some refused } ≡ whole
  lines_end follows refused at why =
      let is_left = before.left (Asks request ∷ []) in
      let is_short = ends (asks []) donation session request before.buffer before.now old new is_left (follows [] (left_named []) so_named) in
      let replied_short : shows_session_short reply ≡ true
      = sym (want_told is_left.heard donation session before.now named request reply left old is_left.has is_left.here so_named)
      ∙ ap (λ buffer. shows_session_short (by buffer).reply) (bytes_back before.buffer) ∙ is_short in
      let same : session_shortage reply ≡ session_shortage o.reply
      = ap session_shortage so.told ∙ completed_so named o.buffer so.selector o.reply is_short (sym (ap shows_session_short so.told) ∙ replied_short) in
      let is_lines : record { left_out = so_far; refused = Some refused } ≡ preceded so_far (ended_by (Some its_line))
      = λ i. record { left_out = sym (append-nil so_far) i; refused = Some (record { line = at i; shortage = (why ∙ same) i }) } in
      is_lines ∙ sym (ap lines_if is_short) ∙ before.whole_is

-- ---- a request that is left out

-- the account that a client reports of its session
pub held_account : (world : World) (client : ℕ) (now : Session) (buffer : Option (List ℕ)) → HasSelectors world client (held now buffer) → (account : Option Account) →
    (client < length world.entries → account ≡ option_map (λ (x : Session). x.account) (session_named (get (state_at world.states client).selectors 1))) → account ≡ Some now.account
held_account world client now buffer has account tells =
    tells has.entry ∙ ap (λ m. option_map (λ (x : Session). x.account) (session_named (get m 1))) has.selectors ∙ ap (option_map (λ (x : Session). x.account)) (named_there now buffer)

module _ (world : World) (client : ℕ) (heard : SessionMeter) (session : Session) (donation start : Amounts) (mark : Mark) (request : List ℕ) (so_far new : List SkippedLine) (rest : LinesAfter)
    (whole : RunLines) (before : HasSessionLeft world client heard session donation so_far (lines_without start mark request rest) whole) where
  -- the meter is at the session
  pub heard_at : IsAt heard before.now
  heard_at = let nothing = before.left [] in subst (λ x. IsAt heard x) nothing.here nothing.has.at

  -- its line is added to those that are left out
  pub lines_skipped : new ≡ so_far ++ skipped_by start before.now.account mark (asked_in before.now.state request) → HasSessionLeft world client heard session donation new rest whole
  lines_skipped is =
      let skipped = skipped_by start before.now.account mark (asked_in before.now.state request) in
      let after = rest before.buffer before.now in
      record {
        now = before.now;
        buffer = before.buffer;
        has = before.has;
        sent = before.sent;
        left = before.left;
        whole_is = ap (λ (xs : List SkippedLine). preceded xs after) is
            ∙ ap (λ xs. record after { left_out = xs }) (append_assoc so_far skipped after.left_out) ∙ before.whole_is;
      }

-- ---- an upgrade

module _ (world after : World) (client : ℕ) (text reply : List ℕ) (told : reply ≡ reply_text (outcome_at world client (Upgrade 1 text)).reply)
    (stepped : after ≡ with_state world client (outcome_at world client (Upgrade 1 text)).next) (left : Quotas)
    (account : Some (quotas_account left) ≡ option_map (λ (s : Session). s.account) (session_named (get (state_at after.states client).selectors 1)))
    (done : bytes_eq reply (codes "ok") ≡ true) (more : Arguments) (reads : arguments_of text ≡ Some more)
    (session : Session) (donation : Amounts) (old new : SessionMeter) (so_far : List SkippedLine) (rest : LinesAfter) (whole : RunLines)
    (before : HasSessionLeft world client old session donation so_far (lines_raising (Some more) rest) whole) where
  abbrev raises : Sent
  raises = Raises (record { ram = more.ram; caps = more.caps })

  abbrev up : List Sent → List Sent
  up all = before.sent ++ raises ∷ all

  abbrev raised_to : Session
  raised_to = upgraded before.now more.ram more.caps

  abbrev above : HasLeft world client old (up []) (raises ∷ []) session donation
  above = record { now = before.now; buffer = before.buffer; has = before.has; left = before.left (raises ∷ []) }

  leaves : quotas_account left ≡ raised_to.account
  leaves = raised_leaves world after client text reply told stepped left account done more reads (up []) [] session donation old new above

  has_more : HasSelectors after client (held raised_to before.buffer)
  has_more = has_raised world after client text reply told stepped left account done more reads (up []) [] session donation old new above

  pub lines_raised :
      ((all : List Sent) → IsLeft (up all) (raises ∷ all) donation session before.buffer before.now old → quotas_account left ≡ raised_to.account →
      IsLeft (up all) all donation session before.buffer raised_to new) →
      HasSessionLeft after client new session donation so_far rest whole
  lines_raised follows = record {
    now = raised_to;
    buffer = before.buffer;
    has = has_more;
    sent = up [];
    left = λ all. subst (λ sent. IsLeft sent all donation session before.buffer raised_to new) (sym (append_assoc before.sent (raises ∷ []) all))
        (follows all (before.left (raises ∷ all)) leaves);
    whole_is = before.whole_is;
  }

-- ---- the run

-- before its first request
pub lines_begin : (world : World) (client : ℕ) (w : Wish) (heard : SessionMeter) (so_far : List SkippedLine) (rest : LinesAfter) (whole : RunLines) → so_far ≡ [] →
    rest None (new_session w) ≡ whole → HasSelectors world client (held (new_session w) None) → HasReached [] (record { ram = w.ram; caps = w.caps }) (new_session w) heard →
    HasSessionLeft world client heard (new_session w) (record { ram = w.ram; caps = w.caps }) so_far rest whole
lines_begin world client w heard so_far rest whole none is has reached = record {
  now = new_session w;
  buffer = None;
  has = has;
  sent = [];
  left = λ more. all_left more (record { ram = w.ram; caps = w.caps }) (new_session w) heard reached;
  whole_is = ap (λ (xs : List SkippedLine). preceded xs (rest None (new_session w))) none ∙ is;
}

-- the places to come
pub next_lines : (donation : Amounts) (steps : List ComponentLine) (places : List ℕ) (i : ℕ) → i < length places →
    lines_at donation steps (drop i places) ≡ lines_step donation (slice_get steps (get_or places i 0)) (lines_at donation steps (drop (i + 1) places))
next_lines donation steps places i within =
    ap (lines_at donation steps) (drop-cons places i 0 within)
    ∙ ap (λ n. lines_step donation (slice_get steps (get_or places i 0)) (lines_at donation steps (drop n places))) (sym (add-one i))

-- none are left
pub no_more_lines : (world : World) (client : ℕ) (heard : SessionMeter) (session : Session) (donation start : Amounts) (steps : List ComponentLine) (places : List ℕ) (i : ℕ)
    (so_far : List SkippedLine) (whole : RunLines) → length places ≤ i → HasSessionLeft world client heard session donation so_far (lines_at start steps (drop i places)) whole →
    record { left_out = so_far; refused = None } ≡ whole
no_more_lines world client heard session donation start steps places i so_far whole past left =
    ap (λ xs. record { left_out = xs; refused = None }) (sym (append-nil so_far))
    ∙ sym (ap (λ rest. preceded so_far (lines_at start steps rest left.buffer left.now)) (drop_all i places past)) ∙ left.whole_is

-- ---- with its opening

-- the session is opened
pub lines_opened : (steps : List ComponentLine) (opening : ℕ) (places : List ℕ) (w : Wish) (donation : Amounts) (session : Session) (lines : RunLines) → new_session w ≡ session →
    too_small donation.ram donation.caps ≡ None →
    lines ≡ lines_at donation steps places None (new_session (record w { ram = donation.ram; caps = donation.caps })) → lines ≡ session_lines steps opening places session donation
lines_opened steps opening places w donation session lines same enough is =
    is ∙ ap (λ (x : Session). lines_at donation steps places None (donating donation x)) same
    ∙ sym (ap (λ small. lines_opening (number_at steps opening) small (lines_at donation steps places None (donating donation session))) enough)

-- its donation is too small
pub lines_unopened : (steps : List ComponentLine) (opening : ℕ) (step : ComponentLine) (places : List ℕ) (donation : Amounts) (session : Session) (reply : List ℕ) (lines : RunLines) →
    slice_get steps opening ≡ Some step → lines ≡ ended_by (refused_line step.number (donated_shortage reply)) →
    ((line : ℕ) (rest : RunLines) → ended_by (refused_line line (donated_shortage reply)) ≡ lines_opening line (too_small donation.ram donation.caps) rest) →
    lines ≡ session_lines steps opening places session donation
lines_unopened steps opening step places donation session reply lines there is shows =
    is ∙ ap (λ o. ended_by (refused_line (option_map_or (λ (s : ComponentLine). s.number) o 0) (donated_shortage reply))) (sym there)
    ∙ shows (number_at steps opening) (lines_at donation steps places None (donating donation session))

-- what is so of an answer, where that is given
pub each_two : {X E : Type 0} {A : Type 0} {P S : X → Type 0} (r : Result X E) → ((x : X) → A → P x → S x) → OnOk r A → IfOk r P → IfOk r S
each_two (Ok x) f a p = f x a p
each_two (Err e) f a p = tt

-- ---- no line is left out

-- whether the line at a place is left out
abbrev pub skips : List ComponentLine → ℕ → Bool
skips steps place = is_skipped (slice_get steps place)

-- the rest of a run leaves no line out
abbrev SkipsNone : LinesAfter → Type 0
SkipsNone rest = (buffer : Option (List ℕ)) (session : Session) → (rest buffer session).left_out ≡ []

served_none : (line : ℕ) (b : Bool) (o : Served) (shortage : Shortage) (rest : LinesAfter) → SkipsNone rest →
    (cond b (ended_by (Some (record { line = line; shortage = shortage }))) (rest o.buffer o.session)).left_out ≡ []
served_none line true o shortage rest none = refl
served_none line false o shortage rest none = none o.buffer o.session

asking_none : (line : ℕ) (request : List ℕ) (rest : LinesAfter) → SkipsNone rest → SkipsNone (lines_asking line request rest)
asking_none line request rest none = λ buffer session.
    let o = served buffer session request in served_none line (shows_session_short o.reply) o (session_shortage o.reply) rest none

raising_none : (o : Option Arguments) (rest : LinesAfter) → SkipsNone rest → SkipsNone (lines_raising o rest)
raising_none None rest none = none
raising_none (Some more) rest none = λ buffer session. none buffer (upgraded session more.ram more.caps)

calling_none : (donation : Amounts) (mark : Mark) (call : Option Call) (rest : LinesAfter) → mark.left_out ≡ false → SkipsNone rest → SkipsNone (lines_calling donation mark call rest)
calling_none donation mark None rest made none = none
calling_none donation mark (Some (CallSession selector request)) rest made none =
    subst (λ b. SkipsNone (cond b (lines_without donation mark request rest) (lines_asking mark.number request rest))) (sym made) (asking_none mark.number request rest none)
calling_none donation mark (Some (Upgrade selector text)) rest made none =
    subst (λ b. SkipsNone (cond b rest (lines_raising (arguments_of text) rest))) (sym made) (raising_none (arguments_of text) rest none)
calling_none donation mark (Some call) rest made none = none

step_none : (donation : Amounts) (step : Option ComponentLine) (rest : LinesAfter) → is_skipped step ≡ false → SkipsNone rest →
    SkipsNone (lines_step donation step rest)
step_none donation None rest made none = none
step_none donation (Some step) rest made none = calling_none donation (mark_of step) (call_said step.line.items) rest made none

either_false : (a b : Bool) → (a || b) ≡ false → (a ≡ false) × (b ≡ false)
either_false true b is = absurd (true≢false is)
either_false false b is = (refl, is)

at_none : (donation : Amounts) (steps : List ComponentLine) (places : List ℕ) → list_any (skips steps) places ≡ false → SkipsNone (lines_at donation steps places)
at_none donation steps [] made = λ buffer session. refl
at_none donation steps (place ∷ places) made =
    let each = either_false (skips steps place) (list_any (skips steps) places) made in
    step_none donation (slice_get steps place) (lines_at donation steps places) each.0 (at_none donation steps places each.1)

opening_none : (line : ℕ) (small : Option Refusal) (rest : RunLines) → rest.left_out ≡ [] → (lines_opening line small rest).left_out ≡ []
opening_none line None rest none = none
opening_none line (Some refusal) rest none = refl

pub session_none : (steps : List ComponentLine) (opening : ℕ) (places : List ℕ) (session : Session) (donation : Amounts) → list_any (skips steps) places ≡ false →
    (session_lines steps opening places session donation).left_out ≡ []
session_none steps opening places session donation made =
    opening_none (number_at steps opening) (too_small donation.ram donation.caps) (lines_at donation steps places None (donating donation session))
    (at_none donation steps places made None (donating donation session))
