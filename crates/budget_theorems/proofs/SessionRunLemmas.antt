-- What reaches a session, under two donations.
use Rattle.std.proofs.Common.{arith, ◌≡◌, ℕ, ◌+◌, ◌<◌, ◌≤◌, ◌⊎◌, inl, inr, Bool, true, false, List, [], ◌∷◌, nat_lt, refl, sym, ap, ◌∙◌, subst, ◌||◌}
use Rattle.std.proofs.lemmas.Bool.{or_left, or_right}
use Rattle.std.specs.List.{AllByRecursion}
use Rattle.own_model.proofs.ListLemmas.{all_append, all_left, all_right, all_then}
use Rattle.own_model.specs.Account.{Account}
use Rattle.own_model.specs.Amounts.{Amounts, no_amounts}
use Rattle.own_model.specs.FileText.{file_reply}
use Rattle.own_model.specs.FileText.FileReply.{Quotas}
use Rattle.own_model.specs.Session.{Session, served}
use Rattle.budget_theorems.proofs.CellLemmas.{Leads, in_cell_of}
use Rattle.budget_theorems.proofs.EachLemmas.{of_mapped, to_mapped}
use Rattle.budget_theorems.proofs.SessionServeLemmas.{serves, serve_decides}
use Rattle.budget_theorems.proofs.TestLemmas.{IsAlike, IsLed, alike_of, alike_to, led_of}
use Rattle.budget_theorems.proofs.WantLemmas.{AlikeOrShort, FallShortAlike, within_by, below_by}
use Rattle.budget_theorems.specs.Need.{Need, HasRam, IsBelow, ComesOutAlike, need_of, greatest_choice}
use Rattle.budget_theorems.specs.Request.{request_tests, donating, shows_session_short}
use Rattle.budget_theorems.specs.RequestTheorems.{Reaches, session_after, needs_of_one, session_needs, session_cell, session_run, AreTold, OneAlike, AllAlike, one_is_short, session_is_short, SameAnswersOfSession, SessionShortfallInACell, SessionShortfallBelowACell}
use Rattle.budget_theorems.specs.RequestTheorems.Reaches.{Asked, Raised}
use Rattle.budget_theorems.specs.RequestTheorems.AreTold.{Same, Limits}

-- a session is another but for the limits, which are as far above the one donation as those are above the other
pub record Donated (one other : Amounts) (s t : Session) : Type 0 where
  pub same : t ≡ donating (record { ram = t.account.ram_limit; caps = t.account.caps_limit }) s
  pub ram : t.account.ram_limit + one.ram ≡ s.account.ram_limit + other.ram
  pub caps : t.account.caps_limit + one.caps ≡ s.account.caps_limit + other.caps

-- use and limits that are told aren't short, whatever the limits
quotas_told : (account : Account) → shows_session_short (file_reply (Quotas account)) ≡ false
quotas_told account = refl

-- replies that are told alike are short alike
short_alike : (one other : List ℕ) → AreTold one other → shows_session_short other ≡ shows_session_short one
short_alike one other (Same reply) = refl
short_alike one other (Limits a b same) = quotas_told b ∙ sym (quotas_told a)

module _ (one other : Amounts) where
  abbrev pub EachAlike : List Need → Type 0
  EachAlike each = AllByRecursion (ComesOutAlike one other) each

  -- one request or donation
  record OnceAlike (reaches : Reaches) (s t : Session) : Type 0 where
    told : OneAlike reaches s t
    next : Donated one other (session_after reaches s) (session_after reaches t)
    want : one_is_short reaches t ≡ one_is_short reaches s

  at_limits : (reaches : Reaches) (s : Session) (x : Amounts) → x.ram + one.ram ≡ s.account.ram_limit + other.ram → x.caps + one.caps ≡ s.account.caps_limit + other.caps →
      EachAlike (needs_of_one one reaches s) → OnceAlike reaches s (donating x s)
  at_limits (Asked buffer request) s x ram caps each =
      let tests = request_tests buffer s request in
      let mapped = of_mapped (ComesOutAlike one other) (need_of one s.account) tests each in
      let does = serves x s buffer request (all_then (λ test. ComesOutAlike one other (need_of one s.account test)) (IsAlike x s.account) tests (alike_of one other x s.account ram caps) mapped) in
      record {
        told = does.answers;
        next = subst (Donated one other (served buffer s request).session) (sym does.after)
            (record { same = refl; ram = ram ∙ ap (λ n. n + other.ram) (sym does.ram); caps = caps ∙ ap (λ n. n + other.caps) (sym does.caps) });
        want = short_alike (served buffer s request).reply (served buffer (donating x s) request).reply does.answers.reply;
      }
  at_limits (Raised more) s x ram caps each = record {
    told = tt;
    next = record { same = refl; ram = omega (arith, ram); caps = omega (arith, caps) };
    want = refl;
  }

  once_alike : (reaches : Reaches) (s t : Session) → Donated one other s t → EachAlike (needs_of_one one reaches s) → OnceAlike reaches s t
  once_alike reaches s t before each =
      subst (OnceAlike reaches s) (sym before.same)
      (at_limits reaches s (record { ram = t.account.ram_limit; caps = t.account.caps_limit }) before.ram before.caps each)

  decides_at : (reaches : Reaches) (s : Session) (x : Amounts) → x.ram + one.ram ≡ s.account.ram_limit + other.ram → x.caps + one.caps ≡ s.account.caps_limit + other.caps →
      AllByRecursion (Leads one other) (needs_of_one one reaches s) → EachAlike (needs_of_one one reaches s) ⊎ (one_is_short reaches (donating x s) ≡ true)
  decides_at (Asked buffer request) s x ram caps each =
      let tests = request_tests buffer s request in
      let mapped = of_mapped (Leads one other) (need_of one s.account) tests each in
      elim (serve_decides x s buffer request (all_then (λ test. Leads one other (need_of one s.account test)) (IsLed x s.account) tests (led_of one other x s.account ram caps) mapped)) [
        | inl alike ↦ inl (to_mapped (ComesOutAlike one other) (need_of one s.account) tests
            (all_then (IsAlike x s.account) (λ test. ComesOutAlike one other (need_of one s.account test)) tests (alike_to one other x s.account ram caps) alike))
        | inr short ↦ inr short
      ]
  decides_at (Raised more) s x ram caps each = inl tt

  once_decides : (reaches : Reaches) (s t : Session) → Donated one other s t → AllByRecursion (Leads one other) (needs_of_one one reaches s) →
      EachAlike (needs_of_one one reaches s) ⊎ (one_is_short reaches t ≡ true)
  once_decides reaches s t before each =
      subst (λ x. EachAlike (needs_of_one one reaches s) ⊎ (one_is_short reaches x ≡ true)) (sym before.same)
      (decides_at reaches s (record { ram = t.account.ram_limit; caps = t.account.caps_limit }) before.ram before.caps each)

  -- all that reaches it
  pub record SessionAlike (all : List Reaches) (s t : Session) : Type 0 where
    pub told : AllAlike all s t
    pub left : donating no_amounts (session_run all t) ≡ donating no_amounts (session_run all s)
    pub want : session_is_short all t ≡ session_is_short all s

  pub session_alike : (all : List Reaches) (s t : Session) → Donated one other s t → EachAlike (session_needs one all s) → SessionAlike all s t
  session_alike [] s t before each = record { told = tt; left = ap (donating no_amounts) before.same; want = refl }
  session_alike (reaches ∷ rest) s t before each =
      let first = needs_of_one one reaches s in
      let others = session_needs one rest (session_after reaches s) in
      let once = once_alike reaches s t before (all_left (ComesOutAlike one other) first others each) in
      let later = session_alike rest (session_after reaches s) (session_after reaches t) once.next (all_right (ComesOutAlike one other) first others each) in
      let want = once.want in
      let wanted = later.want in
      record { told = (once.told, later.told); left = later.left; want = cc }

  -- and leaves it so far apart
  pub session_moved : (all : List Reaches) (s t : Session) → Donated one other s t → EachAlike (session_needs one all s) → Donated one other (session_run all s) (session_run all t)
  session_moved [] s t before each = before
  session_moved (reaches ∷ rest) s t before each =
      let first = needs_of_one one reaches s in
      let others = session_needs one rest (session_after reaches s) in
      session_moved rest (session_after reaches s) (session_after reaches t) (once_alike reaches s t before (all_left (ComesOutAlike one other) first others each)).next
      (all_right (ComesOutAlike one other) first others each)

  pub session_decides : (all : List Reaches) (s t : Session) → Donated one other s t → AllByRecursion (Leads one other) (session_needs one all s) →
      EachAlike (session_needs one all s) ⊎ (session_is_short all t ≡ true)
  session_decides [] s t before each = inl tt
  session_decides (reaches ∷ rest) s t before each =
      let first = needs_of_one one reaches s in
      let others = session_needs one rest (session_after reaches s) in
      let wanted = one_is_short reaches t in
      let later = session_is_short rest (session_after reaches t) in
      elim (once_decides reaches s t before (all_left (Leads one other) first others each)) [
        | inr short ↦ inr (or_left wanted later short)
        | inl alike ↦
            let once = once_alike reaches s t before alike in
            elim (session_decides rest (session_after reaches s) (session_after reaches t) once.next (all_right (Leads one other) first others each)) [
              | inr short ↦ inr (or_right wanted later short)
              | inl more ↦ inl (all_append (ComesOutAlike one other) first others alike more)
            ]
      ]

  -- two donations at first
  pub first_donated : (session : Session) → Donated one other (donating one session) (donating other session)
  first_donated session = record { same = refl; ram = omega arith; caps = omega arith }

pub same_of_session : SameAnswersOfSession
same_of_session all session one other is =
    let alike = session_alike one other all (donating one session) (donating other session) (first_donated one other session)
    (in_cell_of one other (session_needs one all (donating one session)) is) in
    (alike.told, alike.left)

module _ (all : List Reaches) (session : Session) (one other : Amounts) where
  abbrev each : List Need
  each = session_needs one all (donating one session)

  abbrev there : Bool
  there = session_is_short all (donating other session)

  abbrev here : Bool
  here = session_is_short all (donating one session)

  alike : FallShortAlike one other each here there
  alike same = (session_alike one other all (donating one session) (donating other session) (first_donated one other session) same).want

  decides : AlikeOrShort one other each there
  decides led = session_decides one other all (donating one session) (donating other session) (first_donated one other session) led

  within : IsBelow other.caps (session_cell all one session).caps_below → HasRam (session_cell all one session) other.ram → there ≡ (here || nat_lt other.caps (session_cell all one session).caps_from)
  within few has = within_by one other each here there alike decides few has

  below : IsBelow other.caps (session_cell all one session).caps_below → other.ram < (session_cell all one session).ram_from → greatest_choice one each ≤ other.ram → there ≡ true
  below few less chosen = below_by one other each here there alike decides few less chosen

pub session_within : SessionShortfallInACell
session_within all session one other few has = within all session one other few has

pub session_below : SessionShortfallBelowACell
session_below all session one other few less chosen = below all session one other few less chosen
