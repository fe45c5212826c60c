-- A run of a client of which one session has another donation, where the client is ample.
use Rattle.std.proofs.Common.{arith, ◌≡◌, ℕ, ◌+◌, ◌⊎◌, inl, inr, Bool, true, false, cond, List, [], ◌∷◌, ◌++◌, refl, sym, ap, ◌∙◌, subst, ◌||◌}
use Rattle.std.proofs.lemmas.List.{append_assoc}
use Rattle.std.specs.FinMap.{get, insert}
use Rattle.std.proofs.lemmas.Bool.{or_left, or_right}
use Rattle.std.specs.List.{AllByRecursion}
use Rattle.std.specs.Prelude.{None}
use Rattle.own_model.proofs.ListLemmas.{all_append, all_left, all_right}
use Rattle.own_model.proofs.NatMapLemmas.{same, get-insert_same}
use Rattle.own_model.specs.Amounts.{Amounts, no_amounts}
use Rattle.own_model.specs.Call.{Call}
use Rattle.own_model.specs.OwnState.{OwnState, session_named}
use Rattle.own_model.specs.OwnState.Object.{OpenSession}
use Rattle.own_model.specs.OwnStep.{Outcome, turned_away, entry_step, own_step, own_run}
use Rattle.own_model.specs.Session.{Session}
use Rattle.own_model.specs.StartList.{Entry}
use Rattle.budget_theorems.proofs.CellLemmas.{Leads, in_cell_of}
use Rattle.budget_theorems.proofs.ClientCallLemmas.{Apart, EntrySteps, away_same, ended_by, inserted_twice, one_call, or_assoc, stepped, tests_stepped, told_same}
use Rattle.budget_theorems.proofs.SelectorLemmas.{at_it}
use Rattle.budget_theorems.proofs.SessionRunLemmas.{Donated, session_alike, session_decides, session_moved, first_donated}
use Rattle.budget_theorems.proofs.StepLemmas.{limits_of}
use Rattle.budget_theorems.proofs.WantLemmas.{AlikeOrShort, FallShortAlike, within_by, below_by}
use Rattle.budget_theorems.specs.Need.{Need, ComesOutAlike, limited}
use Rattle.budget_theorems.specs.Opened.{donated_to, selectors_but, but_limits_of, ends, brought, reaching, CoversBoth, UnlessEnded, IsAmple, ReplyAlike, AllReplyAlike, HadAsMuch, OpeningsDonate, SameAnswersOfClient, ClientShortfallInACell, ClientShortfallBelowACell}
use Rattle.budget_theorems.specs.Opened.ReplyAlike.{ButLimits}
use Rattle.budget_theorems.specs.Request.{donating}
use Rattle.budget_theorems.specs.RequestTheorems.{Reaches, session_after, needs_of_one, session_needs, session_run, session_is_short, one_is_short}
use Rattle.budget_theorems.specs.Test.{tests}

-- ---- runs

-- the needs and the want of one list after another
needs_over_append : (one : Amounts) (xs ys : List Reaches) (session : Session) → session_needs one (xs ++ ys) session ≡ session_needs one xs session ++ session_needs one ys (session_run xs session)
needs_over_append one [] ys session = refl
needs_over_append one (x ∷ xs) ys session =
    ap (λ rest. needs_of_one one x session ++ rest) (needs_over_append one xs ys (session_after x session))
    ∙ sym (append_assoc (needs_of_one one x session) (session_needs one xs (session_after x session)) (session_needs one ys (session_run xs (session_after x session))))

want_over_append : (xs ys : List Reaches) (session : Session) → session_is_short (xs ++ ys) session ≡ (session_is_short xs session || session_is_short ys (session_run xs session))
want_over_append [] ys session = refl
want_over_append (x ∷ xs) ys session = ap (λ rest. one_is_short x session || rest) (want_over_append xs ys (session_after x session)) ∙ or_assoc (one_is_short x session) (session_is_short xs (session_after x session)) (session_is_short ys (session_run xs (session_after x session)))

module _ (entry : Entry) (q : ℕ) (one other : Amounts) where
  abbrev Each : List Need → Type 0
  Each each = AllByRecursion (ComesOutAlike one other) each

  module _ (session : Session) (s t : OwnState) (apart : Apart entry q one other session s t) where
    -- the state that is meant
    abbrev meant : OwnState
    meant = record s { account = limited (limits_of t) s.account; selectors = insert s.selectors q (OpenSession (donating apart.donation session)) }

    here_then : turned_away entry.kind t ≡ None
    here_then = away_same entry.kind s t (ap (λ (x : OwnState). x.gone) apart.same) ∙ apart.here

    call_of_it : (call : Call) → ends q call ≡ false → AllByRecursion (CoversBoth one other s.account) (tests entry call s) →
        (brought q call t ≡ brought q call s)
        × (Each (session_needs one (brought q call s) session) → EntrySteps entry q one other (session_run (brought q call s) session) (own_step entry call s) (own_step entry call t))
    call_of_it call on each =
        let at = one_call entry q one other session s (limits_of t) apart.donation apart.here apart.there apart.ram apart.caps apart.own_ram apart.own_caps call on
        (subst (λ tests. AllByRecursion (CoversBoth one other s.account) tests) (tests_stepped entry call s apart.here) each) in (
          ap (brought q call) apart.same ∙ at.brings,
          λ alike.
              subst (λ o. EntrySteps entry q one other (session_run (brought q call s) session) o (own_step entry call t)) (sym (stepped entry call s apart.here))
              (subst (λ p. EntrySteps entry q one other (session_run (brought q call s) session) (entry_step entry call s) p) (sym (stepped entry call t here_then))
              (subst (λ x. EntrySteps entry q one other (session_run (brought q call s) session) (entry_step entry call s) (entry_step entry call x)) (sym apart.same) (at.steps alike))),
        )

    end_of_it : (call : Call) → ends q call ≡ true → own_step entry call t ≡ own_step entry call s
    end_of_it call e =
        stepped entry call t here_then
        ∙ ap (entry_step entry call) apart.same
        ∙ ended_by entry q one other session s (limits_of t) apart.donation apart.here apart.there apart.ram apart.caps apart.own_ram apart.own_caps call e
        ∙ sym (stepped entry call s apart.here)

    -- the sessions are so far apart as their donations
    donated_it : Donated one other session (donating apart.donation session)
    donated_it = record { same = refl; ram = apart.ram; caps = apart.caps }

    -- states that are apart are the same but for limits
    hidden_selectors : selectors_but q (session_named (get meant.selectors q)) meant.selectors ≡ selectors_but q (session_named (get s.selectors q)) s.selectors
    hidden_selectors =
        let new = donating apart.donation session in
        ap (λ o. selectors_but q (session_named o) meant.selectors) (at_it q s.selectors session new apart.there)
        ∙ inserted_twice s.selectors q (OpenSession new) (OpenSession (donating no_amounts session))
        ∙ sym (ap (λ o. selectors_but q (session_named o) s.selectors) apart.there)

    hidden_same : but_limits_of q t ≡ but_limits_of q s
    hidden_same = ap (but_limits_of q) apart.same ∙ ap (λ x. record s { account = limited no_amounts s.account; selectors = x }) hidden_selectors

    -- a run of the session leaves it as far apart
    run_apart : (all : List Reaches) (donation : Amounts) → donation.ram + one.ram ≡ (session_run all session).account.ram_limit + other.ram →
        donation.caps + one.caps ≡ (session_run all session).account.caps_limit + other.caps → Each (session_needs one all session) →
        session_run all (donating apart.donation session) ≡ donating donation (session_run all session)
    run_apart all donation ram caps each =
        let moved = session_moved one other all session (donating apart.donation session) donated_it each in
        let x = (session_run all (donating apart.donation session)).account in
        let same_ram : x.ram_limit ≡ donation.ram = omega (arith, ram, moved.ram) in
        let same_caps : x.caps_limit ≡ donation.caps = omega (arith, caps, moved.caps) in
        moved.same ∙ (λ i. donating (record { ram = same_ram i; caps = same_caps i }) (session_run all session))

  -- what a run has alike
  record ClientAlike (calls : List Call) (s t : OwnState) : Type 0 where
    told : AllReplyAlike entry calls s t
    brings : reaching entry q calls t ≡ reaching entry q calls s
    left : but_limits_of q (own_run entry calls t) ≡ but_limits_of q (own_run entry calls s)

  abbrev CallCovered : Call → OwnState → Type 0
  CallCovered call s = AllByRecursion (CoversBoth one other s.account) (tests entry call s)

  client_alike : (calls : List Call) (session : Session) (s t : OwnState) → Apart entry q one other session s t → IsAmple entry q one other calls s →
      Each (session_needs one (reaching entry q calls s) session) → ClientAlike calls s t
  client_alike [] session s t apart ample each = record { told = tt; brings = refl; left = hidden_same session s t apart }
  client_alike (call ∷ calls) session s t apart ample each =
      let o = own_step entry call s in
      let p = own_step entry call t in
      let all = elim (ends q call) as (λ b. ends q call ≡ b → UnlessEnded b (CallCovered call s × IsAmple entry q one other calls o.next) →
      Each (session_needs one (cond b [] (brought q call s ++ reaching entry q calls o.next)) session) →
      AllReplyAlike entry (call ∷ calls) s t
      × (cond b [] (brought q call t ++ reaching entry q calls p.next) ≡ cond b [] (brought q call s ++ reaching entry q calls o.next))
      × (but_limits_of q (own_run entry calls p.next) ≡ but_limits_of q (own_run entry calls o.next))) [
        | true ↦ λ e _ _.
            let end = end_of_it session s t apart call e in (
              subst (λ (x : Outcome). ReplyAlike o.reply x.reply × (x.lines ≡ o.lines) × AllReplyAlike entry calls o.next x.next) (sym end)
                  (ButLimits o.reply o.reply refl, refl, told_same entry calls o.next),
              refl,
              ap (λ (x : Outcome). but_limits_of q (own_run entry calls x.next)) end,
            )
        | false ↦ λ e enough others.
            let first = session_needs one (brought q call s) session in
            let rest = session_needs one (reaching entry q calls o.next) (session_run (brought q call s) session) in
            let both = subst Each (needs_over_append one (brought q call s) (reaching entry q calls o.next) session) others in
            let at = call_of_it session s t apart call e enough.0 in
            let steps = at.1 (all_left (ComesOutAlike one other) first rest both) in
            let later = client_alike calls (session_run (brought q call s) session) o.next p.next steps.next enough.1 (all_right (ComesOutAlike one other) first rest both) in
            ((steps.reply, steps.lines, later.told), (λ i. at.0 i ++ later.brings i), later.left)
      ] refl ample each in
      record { told = all.0; brings = all.1; left = all.2 }

  client_decides : (calls : List Call) (session : Session) (s t : OwnState) (apart : Apart entry q one other session s t) → IsAmple entry q one other calls s →
      AllByRecursion (Leads one other) (session_needs one (reaching entry q calls s) session) →
      Each (session_needs one (reaching entry q calls s) session) ⊎ (session_is_short (reaching entry q calls t) (donating apart.donation session) ≡ true)
  client_decides [] session s t apart ample each = inl tt
  client_decides (call ∷ calls) session s t apart ample each =
      let o = own_step entry call s in
      let p = own_step entry call t in
      let new = donating apart.donation session in
      elim (ends q call) as (λ b. ends q call ≡ b → UnlessEnded b (CallCovered call s × IsAmple entry q one other calls o.next) →
      AllByRecursion (Leads one other) (session_needs one (cond b [] (brought q call s ++ reaching entry q calls o.next)) session) →
      Each (session_needs one (cond b [] (brought q call s ++ reaching entry q calls o.next)) session)
      ⊎ (session_is_short (cond b [] (brought q call t ++ reaching entry q calls p.next)) new ≡ true)) [
        | true ↦ λ _ _ _. inl tt
        | false ↦ λ e enough others.
            let now = brought q call s in
            let after = reaching entry q calls o.next in
            let then_after = reaching entry q calls p.next in
            let first = session_needs one now session in
            let rest = session_needs one after (session_run now session) in
            let both = subst (AllByRecursion (Leads one other)) (needs_over_append one now after session) others in
            let at = call_of_it session s t apart call e enough.0 in
            let parted = ap (λ x. session_is_short (x ++ then_after) new) at.0 ∙ want_over_append now then_after new in
            elim (session_decides one other now session new (donated_it session s t apart) (all_left (Leads one other) first rest both)) [
              | inr short ↦ inr (parted ∙ or_left (session_is_short now new) (session_is_short then_after (session_run now new)) short)
              | inl alike ↦
                  let steps = at.1 alike in
                  elim (client_decides calls (session_run now session) o.next p.next steps.next enough.1 (all_right (Leads one other) first rest both)) [
                    | inr short ↦ inr (
                        parted ∙ or_right (session_is_short now new) (session_is_short then_after (session_run now new))
                        (ap (session_is_short then_after) (run_apart session s t apart now steps.next.donation steps.next.ram steps.next.caps alike) ∙ short))
                    | inl more ↦ inl (subst Each (sym (needs_over_append one now after session)) (all_append (ComesOutAlike one other) first rest alike more))
                  ]
            ]
      ] refl ample each

-- ---- the laws

module _ (entry : Entry) (q : ℕ) (session : Session) (calls : List Call) (base : OwnState) (one own_one other own_other : Amounts) (had : HadAsMuch entry one own_one other own_other base) where
  abbrev one_state : OwnState
  one_state = donated_to q session own_one one base

  abbrev other_state : OwnState
  other_state = donated_to q session own_other other base

  first_apart : Apart entry q one other (donating one session) one_state other_state
  first_apart = record {
    here = away_same entry.kind base one_state refl ∙ had.here;
    there = get-insert_same base.selectors q (OpenSession (donating one session)) q refl;
    donation = other;
    same = ap (λ x. record base { account = limited own_other base.account; selectors = x })
        (sym (inserted_twice base.selectors q (OpenSession (donating one session)) (OpenSession (donating other session))));
    ram = omega arith;
    caps = omega arith;
    own_ram = sym had.ram;
    own_caps = sym had.caps;
  }

  abbrev each : List Need
  each = session_needs one (reaching entry q calls one_state) (donating one session)

  all_alike : IsAmple entry q one other calls one_state → AllByRecursion (ComesOutAlike one other) each → ClientAlike entry q one other calls one_state other_state
  all_alike ample same = client_alike entry q one other calls (donating one session) one_state other_state first_apart ample same

  abbrev there : Bool
  there = session_is_short (reaching entry q calls other_state) (donating other session)

  abbrev here : Bool
  here = session_is_short (reaching entry q calls one_state) (donating one session)

  want_alike : IsAmple entry q one other calls one_state → FallShortAlike one other each here there
  want_alike ample same =
      ap (λ all. session_is_short all (donating other session)) (all_alike ample same).brings
      ∙ (session_alike one other (reaching entry q calls one_state) (donating one session) (donating other session) (first_donated one other session) same).want

  want_decides : IsAmple entry q one other calls one_state → AlikeOrShort one other each there
  unfolding first_apart
  want_decides ample led = client_decides entry q one other calls (donating one session) one_state other_state first_apart ample led

pub openings_donate : OpeningsDonate
openings_donate wish s = refl

pub same_of_client : SameAnswersOfClient
same_of_client entry q session calls base one own_one other own_other had ample is =
    let alike = all_alike entry q session calls base one own_one other own_other had ample (in_cell_of one other (each entry q session calls base one own_one other own_other had) is) in
    (alike.told, alike.brings, alike.left)

pub client_within : ClientShortfallInACell
client_within entry q session calls base one own_one other own_other had ample few has =
    within_by one other (each entry q session calls base one own_one other own_other had) (here entry q session calls base one own_one other own_other had) (there entry q session calls base one own_one other own_other had)
    (want_alike entry q session calls base one own_one other own_other had ample) (want_decides entry q session calls base one own_one other own_other had ample) few has

pub client_below : ClientShortfallBelowACell
client_below entry q session calls base one own_one other own_other had ample few less chosen =
    below_by one other (each entry q session calls base one own_one other own_other had) (here entry q session calls base one own_one other own_other had) (there entry q session calls base one own_one other own_other had)
    (want_alike entry q session calls base one own_one other own_other had ample) (want_decides entry q session calls base one own_one other own_other had ample) few less chosen
