-- Where no request is a debt, servers without guards answer as those with guards.
use Rattle.std.proofs.Common.{◌≡◌, ℕ, ◌+◌, ◌-◌, ◌++◌, Bool, true, false, List, [], ◌∷◌, refl, sym, ap, subst, ◌∙◌, arith, codes, append_assoc}
use Rattle.std.specs.Prelude.{Option, Some, None, Result, Ok, Err, decimal}
use Rattle.std.specs.List.{flat_map}
use Rattle.std.specs.Option.{option_or}
use Rattle.std.specs.FinMap.{get, insert}
use Rattle.trade_base.specs.declared.refusal.Refusal.{Refusal}
use Rattle.own_model.proofs.SessionLemmas.{donation_covered, named_there}
use Rattle.own_model.specs.Account.{Account, WithinLimits, shortage, charged, opened}
use Rattle.own_model.specs.Amounts.{no_amounts, more_of}
use Rattle.own_model.specs.Call.{Call}
use Rattle.own_model.specs.Call.Call.{Open, CallSession}
use Rattle.own_model.specs.Donation.{raised}
use Rattle.own_model.specs.OwnState.{OwnState, NamedBuffer, session_named, buffer_of, bytes_of_buffer, new_selector}
use Rattle.own_model.specs.OwnState.Object.{OpenSession}
use Rattle.own_model.specs.OwnStep.{turned_away, session_opened, completed, with_buffer}
use Rattle.own_model.specs.Reply.{LogLine, log_text}
use Rattle.own_model.specs.Session.{Session, Wish, Served, donation_refusal, served, session_ram, session_caps, wish}
use Rattle.own_model.specs.StartList.{Entry}
use Rattle.own_model.specs.Transcript.{Made, Heard, heard, entry_at, state_at, outcome_text}
use Rattle.own_model.specs.Transcript.Heard.{NoCall, Stranger, Caller}
use Rattle.budget_theorems.proofs.SessionRunLemmas.{same_of_session}
use Rattle.budget_theorems.specs.Request.{donating}
use Rattle.budget_theorems.specs.RequestTheorems.{AreTold, AnswersAlike}
use Rattle.budget_theorems.specs.RequestTheorems.AreTold.{Same as SameReply, Limits as OtherLimits}
use Rattle.budget_theorems.specs.RequestTheorems.Reaches.{Asked}
use Rattle.guard_theorems.specs.Guarded.{GuardedWorld, GuardedOutcome, limits_of, with_account, with_use, cover, paid_by, unless_refused, request_paid, guarded_open, guarded_request, guarded_call, guarded_outcome, with_outcome, guarded_after_line, guarded_told, guarded_running}
use Rattle.guard_theorems.specs.Theorems.{AllUnused, guarded_start}
use Rattle.guard_theorems.specs.Debts.{slack, with_slack, NoDebtOfSession, NoDebtOfCall, NoDebtOfLine, NoDebts, OutputsAlike, AllAnsweredAlike, NoDebtsNoDifference, AlikeTestsNoDebt}
use Rattle.guard_theorems.specs.Debts.OutputsAlike.{Same, Limits}
use Rattle.guard_theorems.proofs.AccountLemmas.{Backs, cover_is_guard, open_covered}
use Rattle.guard_theorems.proofs.ShareLemmas.{AccountsWithin}
use Rattle.guard_theorems.proofs.WorldLemmas.{IsBacked, line_backed, start_backed, open_backed, account_within}

-- requests whose tests come out alike are no debts
pub alike_no_debt : AlikeTestsNoDebt
alike_no_debt buffer session account request same =
    let one = limits_of session.account in
    let both = same_of_session (Asked buffer request ∷ []) session one (more_of one (slack session.account account)) same in
    record { answer = both.0.0; leaves = both.1 }

-- without guards what is covered is what the slack gives
slack_covers : (account guard : Account) → WithinLimits guard → Backs account guard →
    cover false guard account ≡ raised guard (slack guard account).ram (slack guard account).caps
slack_covers account guard within backs =
    let ram : guard.ram_used + (account.ram_limit - account.ram_used) ≡ guard.ram_limit + (slack guard account).ram = omega (arith, within.ram, backs.ram_left) in
    let caps : guard.caps_used + (account.caps_limit - account.caps_used) ≡ guard.caps_limit + (slack guard account).caps = omega (arith, within.caps, backs.caps_left) in
    λ i. record guard { ram_limit = ram i; caps_limit = caps i }

-- ---- one call

-- a call without guards gives what it gives with them, except limits that are printed
record IsSame (one other : GuardedOutcome) : Type 0 where
  told : (name : List ℕ) → OutputsAlike (outcome_text name one.outcome) (outcome_text name other.outcome)
  next : other.outcome.next ≡ one.outcome.next
  accounts : other.accounts ≡ one.accounts
  returned : other.returned ≡ one.returned

is_same : (o : GuardedOutcome) → IsSame o o
is_same o = record { told = λ name. Same (outcome_text name o.outcome); next = refl; accounts = refl; returned = refl }

same_by : (one other : GuardedOutcome) → one ≡ other → IsSame one other
same_by one other is = subst (IsSame one) is (is_same one)

-- a reply, with what is printed before and after it
abbrev around : List ℕ → List ℕ → List ℕ → List ℕ
around before after reply = before ++ reply ++ after

around_alike : (before after one other : List ℕ) → AreTold one other → OutputsAlike (around before after one) (around before after other)
around_alike before after _ _ (SameReply reply) = Same (around before after reply)
around_alike before after _ _ (OtherLimits one other same) = Limits before after one other same

-- a session without its limits, and one with those of a guard
abbrev guarded_by : Account → Session → Session
guarded_by guard y = record y { account = record guard { ram_used = y.account.ram_used; caps_used = y.account.caps_used } }

-- what is told of a request, by its reply alone
module _ (name : List ℕ) (lines : List LogLine) (selector : ℕ) where
  abbrev text_of : Option NamedBuffer → Option (List ℕ) → List ℕ → List ℕ
  text_of old new reply = flat_map log_text lines ++ (name ++ codes ": " ++ completed old new selector reply ++ 10 ∷ [])

  -- it has the reply within it
  text_around : (old : Option NamedBuffer) (new : Option (List ℕ)) → (before : List ℕ) × (after : List ℕ) × ((reply : List ℕ) → text_of old new reply ≡ around before after reply)
  text_around None (Some bytes) = (
    flat_map log_text lines ++ (name ++ codes ": "),
    decimal selector ++ 10 ∷ [],
    λ reply.
        ap (λ text. flat_map log_text lines ++ text) (ap (λ text. text ++ 10 ∷ []) (sym (append_assoc (name ++ codes ": ") reply (decimal selector))) ∙ append_assoc (name ++ codes ": " ++ reply) (decimal selector) (10 ∷ []))
        ∙ sym (append_assoc (flat_map log_text lines) (name ++ codes ": " ++ reply) (decimal selector ++ 10 ∷ []))
        ∙ ap (λ text. text ++ (decimal selector ++ 10 ∷ [])) (sym (append_assoc (flat_map log_text lines) (name ++ codes ": ") reply)),
  )
  text_around None None = (
    flat_map log_text lines ++ (name ++ codes ": "),
    10 ∷ [],
    λ reply.
        sym (append_assoc (flat_map log_text lines) (name ++ codes ": " ++ reply) (10 ∷ []))
        ∙ ap (λ text. text ++ 10 ∷ []) (sym (append_assoc (flat_map log_text lines) (name ++ codes ": ") reply)),
  )
  text_around (Some buffer) new = (
    flat_map log_text lines ++ (name ++ codes ": "),
    10 ∷ [],
    λ reply.
        sym (append_assoc (flat_map log_text lines) (name ++ codes ": " ++ reply) (10 ∷ []))
        ∙ ap (λ text. text ++ 10 ∷ []) (sym (append_assoc (flat_map log_text lines) (name ++ codes ": ") reply)),
  )

  text_alike : (old : Option NamedBuffer) (new : Option (List ℕ)) (one other : List ℕ) → AreTold one other → OutputsAlike (text_of old new one) (text_of old new other)
  text_alike old new one other alike =
      let at = text_around old new in
      subst (λ text. OutputsAlike text (text_of old new other)) (sym (at.2 one)) (subst (OutputsAlike (around at.0 at.1 one)) (sym (at.2 other)) (around_alike at.0 at.1 one other alike))

-- a request that is no debt
request_same : (q : ℕ) (buffer : Option NamedBuffer) (x : Session) (one other : Served) (s : OwnState) (accounts : ℕ → Account) → AnswersAlike one other →
    donating no_amounts other.session ≡ donating no_amounts one.session → IsSame (request_paid q buffer x one s accounts) (request_paid q buffer x other s accounts)
request_same q buffer x one other s accounts alike same =
    let place : Session → ℕ → Account = λ y. with_account x.server (with_use (accounts x.server) x.account y.account) accounts in
    let left : Option (List ℕ) → Session → OwnState = λ new y.
    let t = with_buffer q buffer new s in record t { selectors = insert t.selectors q (OpenSession (guarded_by x.account y)) } in
    record {
      told = λ name.
          subst (λ lines. OutputsAlike (outcome_text name (request_paid q buffer x one s accounts).outcome) (text_of name lines (new_selector s.selectors) buffer other.buffer other.reply)) (sym alike.lines)
          (subst (λ new. OutputsAlike (outcome_text name (request_paid q buffer x one s accounts).outcome) (text_of name one.lines (new_selector s.selectors) buffer new other.reply)) (sym alike.buffer)
          (text_alike name one.lines (new_selector s.selectors) buffer one.buffer one.reply other.reply alike.reply));
      next = λ i. left (alike.buffer i) (same i);
      accounts = λ i. place (same i);
      returned = refl;
    }

module _ (accounts : ℕ → Account) (s : OwnState) (spare : AccountsWithin accounts)
    (backed : (q : ℕ) (x : Session) → get s.selectors q ≡ Some (OpenSession x) → WithinLimits x.account × Backs (accounts x.server) x.account) where
  -- an open is refused by its client alone, with guards or without
  opens_same : (asked : Result Wish Refusal) → IsSame (guarded_open true asked s accounts) (guarded_open false asked s accounts)
  opens_same (Err refusal) = is_same (guarded_open true (Err refusal) s accounts)
  opens_same (Ok wish) =
      let account = raised (accounts wish.server.place) wish.ram wish.caps in
      let accepted : GuardedOutcome = paid_by (with_account wish.server.place (charged account session_ram session_caps) accounts) (session_opened wish s) in
      let costs : Bool → Option Refusal = λ guards. shortage (cover guards (opened wish.ram wish.caps) account) session_ram session_caps in
      let same : option_or (donation_refusal s.account wish.ram wish.caps) (costs true) ≡ option_or (donation_refusal s.account wish.ram wish.caps) (costs false) =
      elim (donation_refusal s.account wish.ram wish.caps) as (λ d. donation_refusal s.account wish.ram wish.caps ≡ d → option_or d (costs true) ≡ option_or d (costs false)) [
        | None ↦ λ accepted.
            let enough = (donation_covered s.account wish.ram wish.caps accepted).1 in
            let own = spare wish.server.place in
            open_covered true (accounts wish.server.place) wish.ram wish.caps own enough ∙ sym (open_covered false (accounts wish.server.place) wish.ram wish.caps own enough)
        | Some refusal ↦ λ _. refl
      ] refl in
      same_by (guarded_open true (Ok wish) s accounts) (guarded_open false (Ok wish) s accounts) (ap (λ why. unless_refused why s accounts accepted) same)

  -- so is a request that is no debt
  requests_same : (q : ℕ) (found : Option Session) → ((x : Session) → found ≡ Some x → get s.selectors q ≡ Some (OpenSession x)) → (request : List ℕ) → NoDebtOfSession q found request s accounts →
      IsSame (guarded_request true q found request s accounts) (guarded_request false q found request s accounts)
  requests_same q None at request none = is_same (guarded_request true q None request s accounts)
  requests_same q (Some x) at request none =
      let own = backed q x (at x refl) in
      let buffer = buffer_of q s.selectors in
      let given : Account → GuardedOutcome = λ account. request_paid q buffer x (served (bytes_of_buffer buffer) (record x { account = account }) request) s accounts in
      subst (λ account. IsSame (given account) (given (cover false x.account (accounts x.server)))) (sym (cover_is_guard (accounts x.server) x.account own.0 own.1))
      (subst (λ account. IsSame (given x.account) (given account)) (sym (slack_covers (accounts x.server) x.account own.0 own.1))
      (request_same q buffer x (served (bytes_of_buffer buffer) x request) (served (bytes_of_buffer buffer) (with_slack x (accounts x.server)) request) s accounts none.answer none.leaves))

  call_same : (entry : Entry) (call : Call) → NoDebtOfCall call s accounts → IsSame (guarded_call true entry call s accounts) (guarded_call false entry call s accounts)
  call_same entry (Open service text) none = opens_same (wish entry.label entry.routes service text)
  call_same entry (CallSession q request) none = requests_same q (session_named (get s.selectors q)) (named_there (get s.selectors q)) request none
  call_same entry call none = is_same (guarded_call true entry call s accounts)

  -- also where it is turned away
  unless_same : (why : Option Refusal) (one other : GuardedOutcome) → IsSame one other → IsSame (unless_refused why s accounts one) (unless_refused why s accounts other)
  unless_same (Some refusal) one other same = is_same (unless_refused (Some refusal) s accounts one)
  unless_same None one other same = same

-- ---- lines

module _ (starts : ℕ → Account) (unused : AllUnused starts) (g : GuardedWorld) (backed : IsBacked starts g) where
  made_same : (made : Made) → NoDebtOfLine g (Caller made) → IsSame (guarded_outcome true g made) (guarded_outcome false g made)
  made_same made none =
      let entry = entry_at g.world.entries made.component in
      let s = state_at g.world.states made.component in
      let each : (q : ℕ) (x : Session) → get s.selectors q ≡ Some (OpenSession x) → WithinLimits x.account × Backs (g.accounts x.server) x.account
      = λ q x there. open_backed starts unused g backed x (record { component = made.component; selector = q; there = there }) in
      let spare = account_within starts unused g backed in
      unless_same g.accounts s spare each (turned_away entry.kind s) (guarded_call true entry made.call s g.accounts) (guarded_call false entry made.call s g.accounts)
      (call_same g.accounts s spare each entry made.call none)

  told_same : (what : Heard) → NoDebtOfLine g what → OutputsAlike (guarded_told true g what) (guarded_told false g what)
  told_same NoCall none = Same (guarded_told true g NoCall)
  told_same (Stranger name) none = Same (guarded_told true g (Stranger name))
  told_same (Caller made) none = (made_same made none).told (entry_at g.world.entries made.component).name

  after_same : (what : Heard) → NoDebtOfLine g what → guarded_after_line false g what ≡ guarded_after_line true g what
  after_same NoCall none = refl
  after_same (Stranger name) none = refl
  after_same (Caller made) none =
      let same = made_same made none in
      let o = guarded_outcome true g made in
      λ i. with_outcome g made.component (record { outcome = record o.outcome { next = same.next i }; accounts = same.accounts i; returned = same.returned i })

-- what two machines do that are the same after a line
abbrev SameRun : GuardedWorld → List (List ℕ) → Type 0
SameRun g lines = AllAnsweredAlike g g lines × (guarded_running false g lines ≡ guarded_running true g lines)

lines_same : (starts : ℕ → Account) → AllUnused starts → (g : GuardedWorld) (lines : List (List ℕ)) → IsBacked starts g → NoDebts g lines → SameRun g lines
lines_same starts unused g [] backed none = (tt, refl)
lines_same starts unused g (line ∷ lines) backed none =
    let what = heard g.world.entries line in
    let after = guarded_after_line true g what in
    let same : guarded_after_line false g what ≡ after = after_same starts unused g backed what none.0 in
    let rest = lines_same starts unused after lines (line_backed starts unused g backed what) none.1 in (
      (told_same starts unused g backed what none.0, subst (λ h. AllAnsweredAlike after h lines) (sym same) rest.0),
      ap (λ h. guarded_running false h lines) same ∙ rest.1,
    )

pub no_debts_no_difference : NoDebtsNoDifference
no_debts_no_difference list accounts lines unused none = lines_same accounts unused (guarded_start list accounts) lines (start_backed list accounts) none
