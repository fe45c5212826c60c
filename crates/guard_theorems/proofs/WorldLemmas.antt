-- Lines on a machine whose servers pay with guards.
use Rattle.std.proofs.Common.{◌≡◌, ℕ, ◌+◌, ◌≤◌, ◌++◌, inl, inr, true, List, [], ◌∷◌, length, map, sum_by, refl, sym, ap, subst, ◌∙◌, arith, set}
use Rattle.std.proofs.lemmas.Bool.{cases_lt}
use Rattle.std.proofs.lemmas.List.{set_past, get_or_past, set-get_or}
use Rattle.std.proofs.lemmas.List.Sums.{sum_by-set, sum_by-cons}
use Rattle.std.proofs.lemmas.Option.{none-some}
use Rattle.std.specs.List.{AllByRecursion}
use Rattle.own_model.proofs.ListLemmas.{all_set, all_at, all_map}
use Rattle.own_model.proofs.NatMapLemmas.{get-empty}
use Rattle.own_model.proofs.RunningLemmas.{transcript-running}
use Rattle.own_model.proofs.StepExitLemmas.{gone_left}
use Rattle.own_model.proofs.StepLimitLemmas.{step_all_within, gone_within_all}
use Rattle.own_model.proofs.Totals.{total-empty}
use Rattle.own_model.specs.Account.{Account, WithinLimits}
use Rattle.own_model.specs.Call.{Call}
use Rattle.own_model.specs.Donation.{raised}
use Rattle.own_model.specs.Limits.{AreWithinLimits}
use Rattle.own_model.specs.OwnState.{OwnState}
use Rattle.own_model.specs.OwnState.Object.{OpenSession}
use Rattle.own_model.specs.OwnStep.{Outcome, own_step}
use Rattle.own_model.specs.Running.{running_transcript, told_now}
use Rattle.own_model.specs.Session.{Session}
use Rattle.own_model.specs.StartList.{Entry, StartEntry, StartList, entries_of, start_state, start_states, init_at}
use Rattle.own_model.specs.Text.{lines_of}
use Rattle.own_model.specs.Transcript.{Made, Heard, heard, entry_at, state_at, nothing, outcome_text}
use Rattle.own_model.specs.Transcript.Heard.{NoCall, Stranger, Caller}
use Rattle.own_model.specs.World.{World, outcome_at, world_after_line, world_running}
use Rattle.guard_theorems.specs.Guarded.{GuardedWorld, guarded_outcome, guarded_after_line, guarded_told, guarded_running, guarded_transcript}
use Rattle.guard_theorems.specs.Theorems.{AllUnused, IsOpenIn, guarded_start, GuardedTranscript, GuardedWorlds, AccountsNeverDecide, ClosesAreCovered}
use Rattle.guard_theorems.proofs.AccountLemmas.{Backs, cover_is_guard, close_covered, open_covered}
use Rattle.guard_theorems.proofs.ShareLemmas.{Shares, Pays, AccountsWithin, shares_in, shares_le, share, backs_each, accounts_within}
use Rattle.guard_theorems.proofs.StepLemmas.{IsAlike, step_alike}

-- ---- sums over all own states

-- what a client's sessions have of a server
abbrev pub part : (Account → ℕ) → ℕ → OwnState → ℕ
part f server s = shares_in s.selectors f server

abbrev pub parts : List OwnState → Shares
parts states f server = sum_by (part f server) states

-- who has nothing has no part
no_part : (f : Account → ℕ) (server : ℕ) → part f server nothing ≡ 0
no_part f server = total-empty (share f server)

-- with another own state at a place, or with nothing there
with_part : (f : Account → ℕ) (server : ℕ) (states : List OwnState) (component : ℕ) (y : OwnState) → (length states ≤ component → y ≡ nothing) →
    parts (set states component y) f server ≡ parts (set states component nothing) f server + part f server y
with_part f server states component y past = elim (cases_lt component (length states)) [
  | inl there ↦
      let one = sum_by-set (part f server) states component y nothing there in
      let none = sum_by-set (part f server) states component nothing nothing there in
      omega (arith, one, none, no_part f server)
  | inr out ↦
      let same : part f server y ≡ 0 = ap (part f server) (past out) ∙ no_part f server in
      let left = ap (sum_by (part f server)) (set_past states component y out) in
      let right = ap (sum_by (part f server)) (set_past states component nothing out) in
      omega (arith, same, left, right)
]

-- what holds of each own state of two measures holds of the sums
parts_le : (f g : Account → ℕ) → ((a : Account) → WithinLimits a → f a ≤ g a) → (server : ℕ) (states : List OwnState) → AllByRecursion AreWithinLimits states → parts states f server ≤ parts states g server
parts_le f g less server [] each = omega arith
parts_le f g less server (s ∷ states) each =
    let here = shares_le f g s.selectors (λ k x there. less x.account (each.0.sessions k x there)) server in
    let rest = parts_le f g less server states each.1 in
    omega (arith, here, rest, sum_by-cons (part f server) s states, sum_by-cons (part g server) s states)

-- ---- what accounts have

-- the accounts have what they began with and what all sessions have, and no session is over its donation
pub record IsBacked (starts : ℕ → Account) (g : GuardedWorld) : Type 0 where
  pub pays : Pays starts g.accounts (parts g.world.states)
  pub within : AllByRecursion AreWithinLimits g.world.states

-- what they have without one client's sessions
abbrev beside : (ℕ → Account) → List OwnState → ℕ → ℕ → Account
beside starts states component server =
    let others = set states component nothing in
    record {
      ram_limit = (starts server).ram_limit + parts others (λ a. a.ram_limit) server;
      ram_used = (starts server).ram_used + parts others (λ a. a.ram_used) server;
      caps_limit = (starts server).caps_limit + parts others (λ a. a.caps_limit) server;
      caps_used = (starts server).caps_used + parts others (λ a. a.caps_used) server;
    }

module _ (starts : ℕ → Account) (states : List OwnState) (component : ℕ) where
  abbrev others : List OwnState
  others = set states component nothing

  -- by one measure: with its own state, or with another
  parted : (f : Account → ℕ) (server : ℕ) → parts states f server ≡ parts others f server + part f server (state_at states component)
  parted f server =
      ap (λ all. parts all f server) (sym (set-get_or states component nothing))
      ∙ with_part f server states component (state_at states component) (get_or_past states component nothing)

  pub pays_beside : (accounts : ℕ → Account) → Pays starts accounts (parts states) → Pays (beside starts states component) accounts (shares_in (state_at states component).selectors)
  pays_beside accounts pays = record {
    ram_limit = λ server. omega (arith, pays.ram_limit server, parted (λ a. a.ram_limit) server);
    ram_used = λ server. omega (arith, pays.ram_used server, parted (λ a. a.ram_used) server);
    caps_limit = λ server. omega (arith, pays.caps_limit server, parted (λ a. a.caps_limit) server);
    caps_used = λ server. omega (arith, pays.caps_used server, parted (λ a. a.caps_used) server);
  }

  pub pays_after : (accounts : ℕ → Account) (next : OwnState) → (length states ≤ component → next ≡ nothing) →
      Pays (beside starts states component) accounts (shares_in next.selectors) → Pays starts accounts (parts (set states component next))
  pays_after accounts next past pays = record {
    ram_limit = λ server. omega (arith, pays.ram_limit server, with_part (λ a. a.ram_limit) server states component next past);
    ram_used = λ server. omega (arith, pays.ram_used server, with_part (λ a. a.ram_used) server states component next past);
    caps_limit = λ server. omega (arith, pays.caps_limit server, with_part (λ a. a.caps_limit) server states component next past);
    caps_used = λ server. omega (arith, pays.caps_used server, with_part (λ a. a.caps_used) server states component next past);
  }

  -- nor are they over their limits
  pub beside_within : AllUnused starts → AllByRecursion AreWithinLimits states → AccountsWithin (beside starts states component)
  beside_within unused within server =
      let each = all_set AreWithinLimits states component nothing within gone_within_all in
      record {
        ram = omega (arith, (unused server).ram, parts_le (λ a. a.ram_used) (λ a. a.ram_limit) (λ a w. w.ram) server others each);
        caps = omega (arith, (unused server).caps, parts_le (λ a. a.caps_used) (λ a. a.caps_limit) (λ a w. w.caps) server others each);
      }

-- ---- one line

-- who has no place in the list has nothing, and keeps it
past_stays : (world : World) (component : ℕ) (call : Call) → length world.states ≤ component → (outcome_at world component call).next ≡ nothing
past_stays world component call past =
    let entry : Entry = entry_at world.entries component in
    ap (λ s. (own_step entry call s).next) (get_or_past world.states component nothing past) ∙ gone_left entry call nothing refl

module _ (starts : ℕ → Account) (unused : AllUnused starts) (g : GuardedWorld) (backed : IsBacked starts g) where
  call_alike : (made : Made) →
      IsAlike (beside starts g.world.states made.component) (state_at g.world.states made.component) (guarded_outcome true g made) (outcome_at g.world made.component made.call)
  call_alike made =
      step_alike (beside starts g.world.states made.component) g.accounts (state_at g.world.states made.component)
      (pays_beside starts g.world.states made.component g.accounts backed.pays)
      (beside_within starts g.world.states made.component unused backed.within)
      (all_at AreWithinLimits g.world.states made.component nothing backed.within gone_within_all)
      (entry_at g.world.entries made.component) made.call

  -- what is told of a line is the same
  line_told : (what : Heard) → guarded_told true g what ≡ told_now g.world.entries g.world.states what
  line_told NoCall = refl
  line_told (Stranger name) = refl
  line_told (Caller made) = ap (outcome_text (entry_at g.world.entries made.component).name) (call_alike made).outcome

  -- and so is the world after it
  line_world : (what : Heard) → (guarded_after_line true g what).world ≡ world_after_line g.world what
  line_world NoCall = refl
  line_world (Stranger name) = refl
  line_world (Caller made) =
      let home = (entry_at g.world.entries made.component).home in
      let alike = call_alike made in
      λ i. record g.world {
        inits = set g.world.inits home (raised (init_at g.world.inits home) (alike.ram i) (alike.caps i));
        states = set g.world.states made.component (alike.outcome i).next;
      }

  -- and the accounts have what they should
  pub line_backed : (what : Heard) → IsBacked starts (guarded_after_line true g what)
  line_backed NoCall = backed
  line_backed (Stranger name) = backed
  line_backed (Caller made) =
      let states = g.world.states in
      let component = made.component in
      let o = guarded_outcome true g made in
      let own = outcome_at g.world component made.call in
      let alike = call_alike made in
      let next : (outcome : Outcome) → own ≡ outcome → Pays starts o.accounts (parts (set states component outcome.next)) × AllByRecursion AreWithinLimits (set states component outcome.next)
      = λ outcome is. subst (λ (t : Outcome). Pays starts o.accounts (parts (set states component t.next)) × AllByRecursion AreWithinLimits (set states component t.next)) is (
        pays_after starts states component o.accounts own.next (past_stays g.world component made.call) alike.pays,
        all_set AreWithinLimits states component own.next backed.within
            (step_all_within (entry_at g.world.entries component) made.call (state_at states component) (all_at AreWithinLimits states component nothing backed.within gone_within_all)),
      ) in
      let after = next o.outcome (sym alike.outcome) in
      record { pays = after.0; within = after.1 }

-- ---- all lines

module _ (starts : ℕ → Account) (unused : AllUnused starts) where
  lines_told : (g : GuardedWorld) (lines : List (List ℕ)) → IsBacked starts g → guarded_transcript true g lines ≡ running_transcript g.world.entries g.world.states lines
  lines_told g [] backed = refl
  lines_told g (line ∷ lines) backed =
      let what = heard g.world.entries line in
      let here = line_told starts unused g backed what in
      let rest = lines_told (guarded_after_line true g what) lines (line_backed starts unused g backed what)
      ∙ ap (λ (world : World). running_transcript world.entries world.states lines) (line_world starts unused g backed what) in
      λ i. here i ++ rest i

  lines_world : (g : GuardedWorld) (lines : List (List ℕ)) → IsBacked starts g → (guarded_running true g lines).world ≡ world_running g.world lines
  lines_world g [] backed = refl
  lines_world g (line ∷ lines) backed =
      let what = heard g.world.entries line in
      lines_world (guarded_after_line true g what) lines (line_backed starts unused g backed what)
      ∙ ap (λ world. world_running world lines) (line_world starts unused g backed what)

  lines_backed : (g : GuardedWorld) (lines : List (List ℕ)) → IsBacked starts g → IsBacked starts (guarded_running true g lines)
  lines_backed g [] backed = backed
  lines_backed g (line ∷ lines) backed =
      let what = heard g.world.entries line in
      lines_backed (guarded_after_line true g what) lines (line_backed starts unused g backed what)

-- ---- the start

-- who starts is within all limits
start_within : (start : StartEntry) → AreWithinLimits (start_state start)
start_within start = record {
  own = record { ram = omega arith; caps = omega arith };
  sessions = λ q x there. absurd (none-some (OpenSession x) (sym (get-empty q) ∙ there));
}

-- and nobody has a session
no_parts : (starts : List StartEntry) (f : Account → ℕ) (server : ℕ) → parts (map start_state starts) f server ≡ 0
no_parts [] f server = refl
no_parts (start ∷ starts) f server =
    omega (arith, no_parts starts f server, total-empty (share f server), sum_by-cons (part f server) (start_state start) (map start_state starts))

pub start_backed : (list : StartList) (accounts : ℕ → Account) → IsBacked accounts (guarded_start list accounts)
start_backed list accounts = record {
  pays = record {
    ram_limit = λ server. omega (arith, no_parts list.starts (λ a. a.ram_limit) server);
    ram_used = λ server. omega (arith, no_parts list.starts (λ a. a.ram_used) server);
    caps_limit = λ server. omega (arith, no_parts list.starts (λ a. a.caps_limit) server);
    caps_used = λ server. omega (arith, no_parts list.starts (λ a. a.caps_used) server);
  };
  within = all_map AreWithinLimits start_state list.starts start_within;
}

-- ---- the theorems

pub guarded_answers : GuardedTranscript
guarded_answers list accounts input unused =
    lines_told accounts unused (guarded_start list accounts) (lines_of input) (start_backed list accounts)
    ∙ sym (transcript-running (entries_of list) (start_states list) input)

pub guarded_world : GuardedWorlds
guarded_world list accounts lines unused = lines_world accounts unused (guarded_start list accounts) lines (start_backed list accounts)

module _ (starts : ℕ → Account) (unused : AllUnused starts) (g : GuardedWorld) (backed : IsBacked starts g) where
  -- each session is within its limits, and backed
  pub open_backed : (session : Session) → IsOpenIn g session → WithinLimits session.account × Backs (g.accounts session.server) session.account
  open_backed session is =
      let states = g.world.states in
      let within = all_at AreWithinLimits states is.component nothing backed.within gone_within_all in (
        within.sessions is.selector session is.there,
        backs_each (beside starts states is.component) g.accounts (state_at states is.component).selectors (pays_beside starts states is.component g.accounts backed.pays)
            (beside_within starts states is.component unused backed.within) within.sessions is.selector session is.there,
      )

  -- and each account is within its own
  pub account_within : AccountsWithin g.accounts
  account_within =
      let states = g.world.states in
      let within = all_at AreWithinLimits states 0 nothing backed.within gone_within_all in
      accounts_within (beside starts states 0) g.accounts (state_at states 0).selectors (pays_beside starts states 0 g.accounts backed.pays) (beside_within starts states 0 unused backed.within) within.sessions

pub never_decides : AccountsNeverDecide
never_decides list accounts lines unused =
    let g = guarded_running true (guarded_start list accounts) lines in
    let backed = lines_backed accounts unused (guarded_start list accounts) lines (start_backed list accounts) in (
      λ session is. let own = open_backed accounts unused g backed session is in cover_is_guard (g.accounts session.server) session.account own.0 own.1,
      λ server ram caps enough. open_covered true (g.accounts server) ram caps (account_within accounts unused g backed server) enough,
    )

pub closes_covered : ClosesAreCovered
closes_covered list accounts lines unused session is =
    let g = guarded_running true (guarded_start list accounts) lines in
    let backed = lines_backed accounts unused (guarded_start list accounts) lines (start_backed list accounts) in
    let own = open_backed accounts unused g backed session is in
    close_covered (g.accounts session.server) session.account own.0 own.1
