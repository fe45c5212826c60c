-- What a client that covers what is due for its session is answered.
use Rattle.std.proofs.lemmas.Bool.Decides.{nat_tests}
use Rattle.std.proofs.lemmas.Option.{none-some}
use Rattle.std.proofs.Common.{arith, cond, ◌≡◌, ◌+◌, ◌≤◌, ℕ, Bool, true, false, true≢false, refl, sym, ap, ◌∙◌, subst}
use Rattle.std.specs.Prelude.{Option, Some, None, is_some, List, codes, Result, Ok, Err, IfErr, OnErr, nat_lt, ◌∷◌}
use Rattle.std.specs.FinMap as map
use Rattle.std.specs.FinMap.{get}
use Rattle.std.specs.Option.{option_map, option_or}
use Rattle.std.specs.Str.{bytes_eq}
use Rattle.trade_base.specs.declared.refusal.Refusal.{Refusal}
use Rattle.trade_base.specs.declared.refusal.Refusal.TheVariants.{InsufficientRamQuota, InsufficientCapQuota}
use Rattle.own_model.proofs.ServiceLemmas.{serve_keeps}
use Rattle.own_model.specs.Account.{Account, shortage}
use Rattle.own_model.specs.Amounts.{Amounts, more_of}
use Rattle.own_model.specs.Call.{Call}
use Rattle.own_model.specs.Call.Call.{Open, Upgrade, CallSession}
use Rattle.own_model.specs.OwnState.{OwnState, session_named}
use Rattle.own_model.specs.OwnStep.{Outcome, unless, own_step, entry_step, opened_by, session_opened, session_upgraded, session_served, upgraded_by}
use Rattle.own_model.specs.Reply.{reply_text}
use Rattle.own_model.specs.Routes.{Level}
use Rattle.own_model.specs.Session.{Session, Wish, new_session, resolved_request, served, session_caps, session_ram, too_small, upgraded, wish}
use Rattle.own_model.specs.SessionArgs.{Arguments, arguments_of}
use Rattle.own_model.specs.Transcript.{entry_at, state_at}
use Rattle.own_model.specs.World.{World, outcome_at, with_state}
use Rattle.budget_meter.specs.SessionRuns.{Sent}
use Rattle.budget_meter.specs.SessionRuns.Sent.{Asks, Raises}
use Rattle.budget_search.specs.OpenedSessions.{CanDonate, HasDue, HasSelectors, IsReady, held, is_too_small, made_by, raised_in}
use Rattle.budget_search.proofs.HeldLemmas.{named_of, named_there, called, called_has, raised, raised_has, opened_has}
use Rattle.budget_search.proofs.SessionLemmas.{answered, moved, stands}
use Rattle.budget_search.proofs.WholeLemmas.{whole_alone, whole_held}

abbrev both : ℕ → ℕ → Amounts
both ram caps = record { ram = ram; caps = caps }

-- what is covered isn't refused
covered : (a : Account) (ram caps : ℕ) → a.ram_used + ram ≤ a.ram_limit → a.caps_used + caps ≤ a.caps_limit → shortage a ram caps ≡ None
covered a ram caps fits_ram fits_caps = grind (arith, nat_tests, fits_ram, fits_caps)

-- a client with a session has its account
pub still_named : (world : World) (client : ℕ) (now : Session) (buffer : Option (List ℕ)) → HasSelectors world client (held now buffer) →
    None ≡ option_map (λ (x : Session). x.account) (session_named (get (state_at world.states client).selectors 1)) → ⊥
still_named world client now buffer has none =
    none-some now.account
    (none ∙ ap (λ m. option_map (λ (x : Session). x.account) (session_named (get m 1))) has.selectors ∙ ap (option_map (λ (x : Session). x.account)) (named_there now buffer))

-- ---- a request

module _ (world after : World) (client : ℕ) (request reply : List ℕ) (told : reply ≡ reply_text (outcome_at world client (CallSession 1 request)).reply)
    (stepped : after ≡ with_state world client (outcome_at world client (CallSession 1 request)).next) (due : Amounts) (rest : List Sent)
    (before : HasDue world client due (Asks request ∷ rest)) where
  pub due_asked : HasDue after client due rest
  due_asked =
      let s = state_at world.states client in
      let call = CallSession 1 request in
      let o = served before.buffer before.now request in
      let outcome : own_step (entry_at world.entries client) call s ≡ session_served 1 (named_of before.buffer) o s =
      answered world after client call reply told stepped (held before.now before.buffer) before.has ∙ called s before.now before.buffer before.has.selectors request in
      let keeps = serve_keeps before.now.state before.buffer before.now request in
      record {
        now = o.session;
        buffer = o.buffer;
        has =
            moved world after client call reply told stepped (held before.now before.buffer) before.has (held o.session o.buffer)
            (ap (λ (x : Outcome). x.next.gone) outcome ∙ before.has.here)
            (ap (λ (x : Outcome). x.next.selectors) outcome ∙ called_has s before.now before.buffer before.has.selectors o);
        due_is = before.due_is ∙ (λ i. more_of (both (sym keeps.0 i) (sym keeps.1 i)) (raised_in rest));
      }

-- ---- an upgrade

module _ (world after : World) (client : ℕ) (text reply : List ℕ) (told : reply ≡ reply_text (outcome_at world client (Upgrade 1 text)).reply)
    (stepped : after ≡ with_state world client (outcome_at world client (Upgrade 1 text)).next) (more : Arguments) (reads : arguments_of text ≡ Some more)
    (due : Amounts) (rest : List Sent) (before : HasDue world client due (Raises (record { ram = more.ram; caps = more.caps }) ∷ rest)) where
  abbrev here : OwnState
  here = state_at world.states client

  abbrev up : Call
  up = Upgrade 1 text

  entered : own_step (entry_at world.entries client) up here ≡ entry_step (entry_at world.entries client) (Upgrade 1 text) here
  entered = answered world after client up reply told stepped (held before.now before.buffer) before.has

  -- it is done
  pub due_done : CanDonate world client due → bytes_eq reply (codes "ok") ≡ true
  due_done can =
      let whole = whole_held here before.now before.buffer before.has.selectors in
      let r = raised_in rest in
      let ram : due.ram ≡ before.now.account.ram_limit + (more.ram + r.ram) = ap (λ (a : Amounts). a.ram) before.due_is in
      let caps : due.caps ≡ before.now.account.caps_limit + (more.caps + r.caps) = ap (λ (a : Amounts). a.caps) before.due_is in
      let enough : shortage here.account more.ram more.caps ≡ None =
      covered here.account more.ram more.caps (omega (arith, can.ram_fits, whole.ram, whole.ram_used, ram)) (omega (arith, can.caps_fit, whole.caps, whole.caps_used, caps)) in
      ap (λ t. bytes_eq t (codes "ok")) told
      ∙ ap (λ (x : Outcome). bytes_eq (reply_text x.reply) (codes "ok"))
      (entered ∙ ap (λ m. upgraded_by 1 (session_named (get m 1)) (arguments_of text) here) before.has.selectors
      ∙ ap (λ session. upgraded_by 1 session (arguments_of text) here) (named_there before.now before.buffer) ∙ ap (λ a. upgraded_by 1 (Some before.now) a here) reads
      ∙ ap (λ why. unless why here (session_upgraded 1 before.now more here)) enough)

  -- and then the session has so much more
  pub due_raised : bytes_eq reply (codes "ok") ≡ true → HasDue after client due rest
  due_raised done =
      let now = upgraded before.now more.ram more.caps in
      let upgrades : own_step (entry_at world.entries client) up here ≡ session_upgraded 1 before.now more here =
      entered ∙ ap (λ a. upgraded_by 1 (session_named (get here.selectors 1)) a here) reads
      ∙ raised here before.now before.buffer before.has.selectors more
      (sym (ap (λ a. bytes_eq (reply_text (upgraded_by 1 (session_named (get here.selectors 1)) a here).reply) (codes "ok")) reads)
      ∙ sym (ap (λ (x : Outcome). bytes_eq (reply_text x.reply) (codes "ok")) entered) ∙ sym (ap (λ t. bytes_eq t (codes "ok")) told) ∙ done) in
      let r = raised_in rest in
      let ram : before.now.account.ram_limit + (more.ram + r.ram) ≡ (before.now.account.ram_limit + more.ram) + r.ram = omega arith in
      let caps : before.now.account.caps_limit + (more.caps + r.caps) ≡ (before.now.account.caps_limit + more.caps) + r.caps = omega arith in
      record {
        now = now;
        buffer = before.buffer;
        has =
            moved world after client up reply told stepped (held before.now before.buffer) before.has (held now before.buffer)
            (ap (λ (x : Outcome). x.next.gone) upgrades ∙ before.has.here)
            (ap (λ (x : Outcome). x.next.selectors) upgrades ∙ raised_has here before.now before.buffer before.has.selectors more);
        due_is = before.due_is ∙ (λ i. both (ram i) (caps i));
      }

-- ---- the opening

module _ (s : OwnState) (none : s.selectors ≡ map.empty) (w : Wish) where
  abbrev opening : Option Refusal → Option Refusal → Outcome
  opening short small = unless (option_or short small) s (session_opened w s)

  -- what isn't too small opens
  opens_by : (x y : Bool) → is_too_small (reply_text (opening None (cond x (Some InsufficientRamQuota) (cond y (Some InsufficientCapQuota) None))).reply) ≡ false →
      is_some (session_named (get (opening None (cond x (Some InsufficientRamQuota) (cond y (Some InsufficientCapQuota) None))).next.selectors 1)) ≡ true
  opens_by true y large = absurd (true≢false large)
  opens_by false true large = absurd (true≢false large)
  opens_by false false large = ap (λ m. is_some (session_named (get m 1))) (opened_has s none w) ∙ ap is_some (named_there (new_session w) None)

  pub covered_opens : shortage s.account w.ram w.caps ≡ None → is_too_small (reply_text (opening (shortage s.account w.ram w.caps) (too_small w.ram w.caps)).reply) ≡ false →
      is_some (session_named (get (opening (shortage s.account w.ram w.caps) (too_small w.ram w.caps)).next.selectors 1)) ≡ true
  covered_opens enough =
      subst (λ short. is_too_small (reply_text (opening short (too_small w.ram w.caps)).reply) ≡ false →
      is_some (session_named (get (opening short (too_small w.ram w.caps)).next.selectors 1)) ≡ true) (sym enough)
      (opens_by (nat_lt w.ram session_ram) (nat_lt w.caps session_caps))

mapped : {X Y : Type 0} (f : X → Y) (o : Option X) → is_some (option_map f o) ≡ is_some o
mapped f None = refl
mapped f (Some x) = refl

module _ (world after : World) (client : ℕ) (service text reply : List ℕ) (told : reply ≡ reply_text (outcome_at world client (Open service text)).reply)
    (stepped : after ≡ with_state world client (outcome_at world client (Open service text)).next) (ready : IsReady world client) (w : Wish)
    (asked : wish (entry_at world.entries client).label (entry_at world.entries client).routes service text ≡ Ok w) (more : Amounts)
    (can : CanDonate world client (more_of (record { ram = w.ram; caps = w.caps }) more)) where
  abbrev start : OwnState
  start = state_at world.states client

  -- an opening that the client covers is done, unless its donation is too small
  pub due_opened : None ≡ option_map (λ (x : Session). x.account) (session_named (get (state_at after.states client).selectors 1)) → is_too_small reply ≡ false → ⊥
  due_opened none large =
      let alone = whole_alone start ready.selectors in
      let enough : shortage start.account w.ram w.caps ≡ None =
      covered start.account w.ram w.caps (omega (arith, can.ram_fits, ap (λ (a : Account). a.ram_limit) alone, ap (λ (a : Account). a.ram_used) alone))
      (omega (arith, can.caps_fit, ap (λ (a : Account). a.caps_limit) alone, ap (λ (a : Account). a.caps_used) alone)) in
      let enters : own_step (entry_at world.entries client) (Open service text) start ≡ opened_by (Ok w) start =
      answered world after client (Open service text) reply told stepped map.empty ready ∙ ap (λ x. opened_by x start) asked in
      let there = covered_opens start ready.selectors w enough (sym (ap is_too_small (told ∙ ap (λ (x : Outcome). reply_text x.reply) enters)) ∙ large) in
      true≢false
      (sym there
      ∙ sym (ap (λ t. is_some (session_named (get t.selectors 1))) (stands world after client (Open service text) reply told stepped map.empty ready ∙ ap (λ (x : Outcome). x.next) enters))
      ∙ sym (mapped (λ (x : Session). x.account) (session_named (get (state_at after.states client).selectors 1))) ∙ sym (ap is_some none))

-- what is asked for is in the grammar, if it makes a session
pub made_read : (client : List ℕ) (routes : List Level) (service : List ℕ) (given : Option Arguments) (session : Session) → made_by (resolved_request client routes service given) ≡ Some session →
    is_some given ≡ true
made_read client routes service None session made = absurd (none-some session made)
made_read client routes service (Some arguments) session made = refl

-- what is so of an error, where that is given
pub each_err : {X E : Type 0} {P : Type 0} {Q : E → Type 0} (r : Result X E) → (P → (e : E) → Q e) → OnErr r P → IfErr r Q
each_err (Ok x) f is = tt
each_err (Err e) f is = f is e
