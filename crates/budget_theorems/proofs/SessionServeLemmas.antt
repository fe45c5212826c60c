-- What a session answers with another donation, whichever its service is.
use Rattle.std.proofs.Common.{◌≡◌, ℕ, ◌⊎◌, inl, inr, true, List, refl, sym, subst}
use Rattle.std.specs.List.{AllByRecursion}
use Rattle.std.specs.Prelude.{Option}
use Rattle.own_model.specs.Amounts.{Amounts}
use Rattle.own_model.specs.BufferService.{BufferServed, session_request, text_served}
use Rattle.own_model.specs.ObjectKinds.{ObjectKind}
use Rattle.own_model.specs.ObjectSession.{HoldingServed, holding_request, holding_served}
use Rattle.own_model.specs.Session.{ServiceState, Session, Served, served_by, served}
use Rattle.own_model.specs.Services.ServiceState.{Filing, Holding}
use Rattle.budget_theorems.proofs.HoldLemmas.{holding_agrees, holding_decides}
use Rattle.budget_theorems.proofs.ServeLemmas.{requests_agree, requests_decide}
use Rattle.budget_theorems.proofs.TestLemmas.{IsAlike, IsLed}
use Rattle.budget_theorems.specs.Need.{limited}
use Rattle.budget_theorems.specs.Request.{tests_by, request_tests, donating, shows_session_short}
use Rattle.budget_theorems.specs.RequestTheorems.{AreTold, AnswersAlike}
use Rattle.budget_theorems.specs.RequestTheorems.AreTold.{Same}

-- replies that are the same, or told alike, are told alike
told_of : {P : Type 0} {one other : List ℕ} → (other ≡ one) ⊎ (P × AreTold one other) → AreTold one other
told_of {P} {one} (inl e) = subst (AreTold one) (sym e) (Same one)
told_of (inr told) = told.1

-- what a session answers is what it answers with another donation, but for limits, which it leaves. Where these are told its
-- buffer stays as it was before
pub record ServesAlike (x : Amounts) (session : Session) (before : Option (List ℕ)) (o p : Served) : Type 0 where
  pub answers : AnswersAlike o p
  pub whole : (p.reply ≡ o.reply) ⊎ ((o.buffer ≡ before) × AreTold o.reply p.reply)
  pub after : p.session ≡ donating x o.session
  pub ram : o.session.account.ram_limit ≡ session.account.ram_limit
  pub caps : o.session.account.caps_limit ≡ session.account.caps_limit

module _ (x : Amounts) (session : Session) (buffer : Option (List ℕ)) (request : List ℕ) where
  filed_same : (o p : BufferServed) → p.account ≡ limited x o.account → p.files ≡ o.files →
      ◌≡◌ {A = Session} (record session { account = p.account; state = Filing p.files }) (record session { account = limited x o.account; state = Filing o.files })
  filed_same o p account same = λ i. record session { account = account i; state = Filing (same i) }

  held_same : (kinds : List ObjectKind) (o p : HoldingServed) → p.account ≡ limited x o.account → p.objects ≡ o.objects →
      ◌≡◌ {A = Session} (record session { account = p.account; state = Holding kinds p.objects }) (record session { account = limited x o.account; state = Holding kinds o.objects })
  held_same kinds o p account same = λ i. record session { account = account i; state = Holding kinds (same i) }

  serves_by : (state : ServiceState) → AllByRecursion (IsAlike x session.account) (tests_by state buffer session.account request) →
      ServesAlike x session buffer (served_by state buffer session request) (served_by state buffer (donating x session) request)
  serves_by (Filing files) each =
      let agree = requests_agree x session.account files (session_request request) buffer each in
      record {
        answers = record { reply = told_of agree.reply; lines = refl; buffer = agree.buffer };
        whole = agree.reply;
        after = filed_same (text_served buffer files session.account request) (text_served buffer files (limited x session.account) request) agree.account agree.files;
        ram = agree.ram;
        caps = agree.caps;
      }
  serves_by (Holding kinds objects) each =
      let agree = holding_agrees x session.account kinds objects buffer (holding_request request) each in
      record {
        answers = record { reply = told_of agree.reply; lines = refl; buffer = agree.buffer };
        whole = agree.reply;
        after = held_same kinds (holding_served kinds buffer objects session.account request) (holding_served kinds buffer objects (limited x session.account) request) agree.account agree.objects;
        ram = agree.ram;
        caps = agree.caps;
      }
  -- a service that leaves its account
  serves_by state each = record { answers = record { reply = Same _; lines = refl; buffer = refl }; whole = inl refl; after = refl; ram = refl; caps = refl }

  pub serves : AllByRecursion (IsAlike x session.account) (request_tests buffer session request) →
      ServesAlike x session buffer (served buffer session request) (served buffer (donating x session) request)
  serves each = serves_by session.state each

  decides_by : (state : ServiceState) → AllByRecursion (IsLed x session.account) (tests_by state buffer session.account request) →
      AllByRecursion (IsAlike x session.account) (tests_by state buffer session.account request)
      ⊎ (shows_session_short (served_by state buffer (donating x session) request).reply ≡ true)
  decides_by (Filing files) each = requests_decide x session.account files (session_request request) buffer each
  decides_by (Holding kinds objects) each = holding_decides x session.account kinds objects buffer (holding_request request) each
  decides_by state each = inl tt

  pub serve_decides : AllByRecursion (IsLed x session.account) (request_tests buffer session request) →
      AllByRecursion (IsAlike x session.account) (request_tests buffer session request) ⊎ (shows_session_short (served buffer (donating x session) request).reply ≡ true)
  serve_decides each = decides_by session.state each
