-- One call of a client of which one session has another donation, where the client is ample.
use Rattle.std.proofs.Common.{arith, ◌≡◌, ℕ, ◌+◌, ◌⊎◌, inl, inr, ◌==◌, Bool, true, false, cond, List, [], ◌∷◌, refl, sym, ap, ◌∙◌, eqb-true, true≢false, subst, ◌||◌}
use Rattle.std.proofs.lemmas.Bool.Decides.{nat_tests}
use Rattle.std.proofs.lemmas.Option.{none-some}
use Rattle.std.specs.FinMap.{get, insert, remove}
use Rattle.std.specs.List.{AllByRecursion}
use Rattle.std.specs.Prelude.{Option, Some, None, is_none}
use Rattle.trade_base.specs.declared.refusal.Refusal.{Refusal}
use Rattle.trade_base.specs.declared.refusal.Refusal.TheVariants.{Gone, BadArgs}
use Rattle.own_model.proofs.SessionAloneLemmas.{stand_alone}
use Rattle.own_model.proofs.StepExitLemmas.{alike_on}
use Rattle.own_model.proofs.ListLemmas.{all_left, all_then}
use Rattle.own_model.proofs.NatMapLemmas.{natmaps, same, get-insert_same}
use Rattle.own_model.proofs.StepLemmas.{covers}
use Rattle.own_model.specs.Account.{Account, Fits, shortage, parted_with}
use Rattle.own_model.specs.Amounts.{Amounts}
use Rattle.own_model.specs.Donation.{raised}
use Rattle.own_model.specs.Call.{Call, is_exit}
use Rattle.own_model.specs.Call.Call.{Upgrade, CallSession, Close, Exit}
use Rattle.own_model.specs.NatMap.{NatMap}
use Rattle.own_model.specs.OwnState.{OwnState, Object, NamedBuffer, session_named, buffer_of, bytes_of_buffer, new_selector}
use Rattle.own_model.specs.OwnState.Object.{OpenSession}
use Rattle.own_model.specs.OwnStep.{Outcome, unless, turned_away, session_called, session_served, session_closed, upgraded_by, session_upgraded, selectors_lent, regions_lent, completed, entry_step, own_step}
use Rattle.own_model.specs.Reply.Reply.{Done, Refused}
use Rattle.own_model.specs.Session.{Session, Served, served, upgraded}
use Rattle.own_model.specs.SessionArgs.{Arguments, arguments_of}
use Rattle.own_model.specs.SessionTheorems.{is_of}
use Rattle.own_model.specs.StartList.{Entry, Kind}
use Rattle.own_model.specs.StartList.Kind.{Script, Server, Init}
use Rattle.budget_theorems.proofs.CarryLemmas.{Carries, carried, tests_carried}
use Rattle.budget_theorems.proofs.EachLemmas.{of_mapped}
use Rattle.budget_theorems.proofs.SelectorLemmas.{at_it, buffer_same, lent_beside, new_same}
use Rattle.budget_theorems.proofs.SessionServeLemmas.{ServesAlike, serves}
use Rattle.budget_theorems.proofs.StepLemmas.{Agrees, limits_of, here_when, entry_agrees}
use Rattle.budget_theorems.proofs.TestLemmas.{IsAlike, short_alike, alike_of, less_alike}
use Rattle.budget_theorems.specs.Need.{Need, ComesOutAlike, limited, budgeted, need_of}
use Rattle.budget_theorems.specs.Opened.{ends, raised_by, brought, CoversBoth, ReplyAlike, AllReplyAlike}
use Rattle.budget_theorems.specs.Opened.ReplyAlike.{ButLimits, Texts}
use Rattle.budget_theorems.specs.Request.{request_tests, donating}
use Rattle.budget_theorems.specs.RequestTheorems.{Reaches, needs_of_one, session_needs, session_run, AreTold}
use Rattle.budget_theorems.specs.RequestTheorems.Reaches.{Asked, Raised}
use Rattle.budget_theorems.specs.RequestTheorems.AreTold.{Same}
use Rattle.budget_theorems.specs.Test.{Test, test_of, upgrade_tests, tests_unless, tests, entry_tests}
use Rattle.budget_theorems.specs.Shortfall.{but_limits}

-- ---- replies

-- the reply that a buffer's selector is put to, or isn't
completed_by : (old : Option NamedBuffer) (bytes : Option (List ℕ)) (selector : ℕ) (one other : List ℕ) →
    (other ≡ one) ⊎ ((bytes ≡ bytes_of_buffer old) × AreTold one other) → AreTold (completed old bytes selector one) (completed old bytes selector other)
completed_by old bytes selector one other (inl e) = subst (λ x. AreTold (completed old bytes selector one) (completed old bytes selector x)) (sym e) (Same (completed old bytes selector one))
completed_by None None selector one other (inr told) = told.1
completed_by None (Some bytes) selector one other (inr told) = absurd (none-some bytes (sym told.0))
completed_by (Some b) bytes selector one other (inr told) = told.1

-- equal states tell alike
pub told_same : (entry : Entry) (calls : List Call) (s : OwnState) → AllReplyAlike entry calls s s
told_same entry [] s = tt
told_same entry (call ∷ calls) s = (ButLimits (own_step entry call s).reply (own_step entry call s).reply refl, refl, told_same entry calls (own_step entry call s).next)

-- who has exited as another has is turned away as it is
pub away_same : (kind : Kind) (s t : OwnState) → t.gone ≡ s.gone → turned_away kind t ≡ turned_away kind s
away_same Server s t same = refl
away_same Init s t same = refl
away_same Script s t same = ap (λ b. cond b (Some Gone) None) same

-- a call that isn't turned away is stepped
pub stepped : (entry : Entry) (call : Call) (s : OwnState) → turned_away entry.kind s ≡ None → own_step entry call s ≡ entry_step entry call s
stepped entry call s here = ap (λ why. unless why s (entry_step entry call s)) here

pub tests_stepped : (entry : Entry) (call : Call) (s : OwnState) → turned_away entry.kind s ≡ None → tests entry call s ≡ entry_tests entry call s
tests_stepped entry call s here = ap (λ why. tests_unless why (entry_tests entry call s)) here

-- what is inserted and removed leaves the others
removed_twice : (x : NatMap Object) (q : ℕ) (a : Object) → remove (insert x q a) q ≡ remove x q
removed_twice x q a = same _ _ (λ j. grind (arith, natmaps))

-- what is inserted twice stands as the second
pub inserted_twice : (x : NatMap Object) (q : ℕ) (a b : Object) → insert (insert x q a) q b ≡ insert x q b
inserted_twice x q a b = same _ _ (λ j. grind (arith, natmaps))

-- one of three
pub or_assoc : (a b c : Bool) → (a || (b || c)) ≡ ((a || b) || c)
or_assoc true b c = refl
or_assoc false b c = refl

-- ---- one call

module _ (entry : Entry) (q : ℕ) (one other : Amounts) where
  -- a state is another's but for the donation of a session and what is left of its client's limits
  pub record Apart (session : Session) (s t : OwnState) : Type 0 where
    pub here : turned_away entry.kind s ≡ None
    pub there : get s.selectors q ≡ Some (OpenSession session)
    pub donation : Amounts
    pub same : t ≡ record s { account = limited (limits_of t) s.account; selectors = insert s.selectors q (OpenSession (donating donation session)) }
    pub ram : donation.ram + one.ram ≡ session.account.ram_limit + other.ram
    pub caps : donation.caps + one.caps ≡ session.account.caps_limit + other.caps
    pub own_ram : t.account.ram_limit + other.ram ≡ s.account.ram_limit + one.ram
    pub own_caps : t.account.caps_limit + other.caps ≡ s.account.caps_limit + one.caps

  abbrev EachAlike : List Need → Type 0
  EachAlike each = AllByRecursion (ComesOutAlike one other) each

  -- what a call answers, and the states after it
  pub record EntrySteps (session : Session) (o p : Outcome) : Type 0 where
    pub reply : ReplyAlike o.reply p.reply
    pub lines : p.lines ≡ o.lines
    pub next : Apart session o.next p.next

  -- ---- calls beside the session

  covers_alike : (limits : Amounts) (a : Account) → limits.ram + other.ram ≡ a.ram_limit + one.ram → limits.caps + other.caps ≡ a.caps_limit + one.caps →
      (test : Test) → CoversBoth one other a test → IsAlike limits a test
  covers_alike limits a ram caps test both =
      let x = both.ram in
      let y = both.other_ram in
      let z = both.caps in
      let w = both.other_caps in
      record { ram = grind (arith, nat_tests, ram, x, y); caps = λ _. grind (arith, nat_tests, caps, z, w) }

  module _ (session : Session) (s : OwnState) (limits donation : Amounts) (here : turned_away entry.kind s ≡ None) (there : get s.selectors q ≡ Some (OpenSession session)) (ram : donation.ram + one.ram ≡ session.account.ram_limit + other.ram) (caps : donation.caps + one.caps ≡ session.account.caps_limit + other.caps) (own_ram : limits.ram + other.ram ≡ s.account.ram_limit + one.ram) (own_caps : limits.caps + other.caps ≡ s.account.caps_limit + one.caps) where
    abbrev new : Session
    new = donating donation session

    abbrev m : NatMap Object
    m = s.selectors

    abbrev n : NatMap Object
    n = insert m q (OpenSession new)

    abbrev u : OwnState
    u = record s { selectors = n }

    abbrev t : OwnState
    t = record s { account = limited limits s.account; selectors = n }

    here_s : s.gone ≡ false
    here_s = here_when entry.kind s here

    abbrev Covered : List Test → Type 0
    Covered each = AllByRecursion (CoversBoth one other s.account) each

    module _ (call : Call) (apart : is_of q call ≡ false) (on : is_exit call ≡ false) where
      abbrev o : Outcome
      o = entry_step entry call s

      abbrev v : Outcome
      v = entry_step entry call u

      abbrev p : Outcome
      p = entry_step entry call t

      carry : Carries q s session new there o v
      carry = carried q s session new there entry call apart

      agree : Covered (entry_tests entry call s) → Agrees other one v p
      agree each =
          entry_agrees other one limits u own_ram own_caps entry call
          (subst (λ tests. AllByRecursion (IsAlike limits s.account) tests) (sym (tests_carried q s session new there entry call apart))
          (all_then (CoversBoth one other s.account) (IsAlike limits s.account) (entry_tests entry call s) (covers_alike limits s.account own_ram own_caps) each))

      goes : turned_away entry.kind o.next ≡ None
      goes = away_same entry.kind s o.next (subst (λ (x : Outcome). x.next.gone ≡ s.gone) (stepped entry call s here) (alike_on entry call s on)) ∙ here

      stays : get o.next.selectors q ≡ Some (OpenSession session)
      stays = subst (λ (x : Outcome). get x.next.selectors q ≡ Some (OpenSession session)) (stepped entry call s here) (stand_alone entry call s q session there apart)

      gone_on : v.next.gone ≡ false
      gone_on = ap (λ (x : OwnState). x.gone) carry.next ∙ here_when entry.kind o.next goes

      beside_step : Covered (entry_tests entry call s) → EntrySteps session o p
      beside_step each =
          let agreed = agree each in
          record {
            reply = ButLimits o.reply p.reply (agreed.reply ∙ ap but_limits carry.reply);
            lines = agreed.lines ∙ carry.lines;
            next = record {
              here = goes;
              there = stays;
              donation = donation;
              same = agreed.next.same ∙ ap (budgeted (limits_of p.next)) carry.next;
              ram = ram;
              caps = caps;
              own_ram = agreed.next.ram gone_on ∙ ap (λ (x : OwnState). x.account.ram_limit + one.ram) carry.next;
              own_caps = agreed.next.caps gone_on ∙ ap (λ (x : OwnState). x.account.caps_limit + one.caps) carry.next;
            };
          }

    -- ---- requests of the session

    module _ (request : List ℕ) where
      abbrev buffer : Option NamedBuffer
      buffer = buffer_of q m

      abbrev answered : Served
      answered = served (bytes_of_buffer buffer) session request

      abbrev then_answered : Served
      then_answered = served (bytes_of_buffer buffer) new request

      serve_s : entry_step entry (CallSession q request) s ≡ session_served q buffer answered s
      serve_s = ap (λ found. session_called q (session_named found) request s) there

      serve_t : entry_step entry (CallSession q request) t ≡ session_served q buffer then_answered t
      serve_t =
          ap (λ found. session_called q (session_named found) request t) (at_it q m session new there)
          ∙ ap (λ b. session_served q b (served (bytes_of_buffer b) new request) t) (buffer_same q m session new there q)

      -- what becomes of the client by the buffer's bytes and the session
      abbrev with_both : Option (List ℕ) → Session → OwnState
      with_both bytes z = record t { selectors = insert (selectors_lent q buffer bytes n) q (OpenSession z); regions = regions_lent buffer bytes s.regions }

      here_after : turned_away entry.kind (session_served q buffer answered s).next ≡ None
      here_after = away_same entry.kind s (session_served q buffer answered s).next refl ∙ here

      selectors_after : (z : Session) → insert (selectors_lent q buffer answered.buffer n) q (OpenSession (donating donation z))
          ≡ insert (insert (selectors_lent q buffer answered.buffer m) q (OpenSession z)) q (OpenSession (donating donation z))
      selectors_after z =
          let lent = selectors_lent q buffer answered.buffer m in
          ap (λ x. insert x q (OpenSession (donating donation z))) (lent_beside q m session new there q buffer answered.buffer refl)
          ∙ inserted_twice lent q (OpenSession new) (OpenSession (donating donation z))
          ∙ sym (inserted_twice lent q (OpenSession z) (OpenSession (donating donation z)))

      serves_here : ServesAlike donation session (bytes_of_buffer buffer) answered then_answered → EntrySteps answered.session (session_served q buffer answered s) (session_served q buffer then_answered t)
      serves_here does =
          let told = completed buffer answered.buffer (new_selector m) answered.reply in
          record {
            reply = Texts told (completed buffer then_answered.buffer (new_selector n) then_answered.reply)
                (subst (λ k. AreTold told (completed buffer then_answered.buffer k then_answered.reply)) (sym (new_same q m session new there))
                (subst (λ b. AreTold told (completed buffer b (new_selector m) then_answered.reply)) (sym does.answers.buffer)
                (completed_by buffer answered.buffer (new_selector m) answered.reply then_answered.reply does.whole)));
            lines = does.answers.lines;
            next = record {
              here = here_after;
              there = get-insert_same (selectors_lent q buffer answered.buffer m) q (OpenSession answered.session) q refl;
              donation = donation;
              same = (λ i. with_both (does.answers.buffer i) (does.after i)) ∙ ap (λ x. record t { selectors = x; regions = regions_lent buffer answered.buffer s.regions }) (selectors_after answered.session);
              ram = ram ∙ ap (λ x. x + other.ram) (sym does.ram);
              caps = caps ∙ ap (λ x. x + other.caps) (sym does.caps);
              own_ram = own_ram;
              own_caps = own_caps;
            };
          }

      it_serves : EachAlike (needs_of_one one (Asked (bytes_of_buffer buffer) request) session) → EntrySteps answered.session (entry_step entry (CallSession q request) s) (entry_step entry (CallSession q request) t)
      it_serves each =
          let tests_of = request_tests (bytes_of_buffer buffer) session request in
          let alike = all_then (λ test. ComesOutAlike one other (need_of one session.account test)) (IsAlike donation session.account) tests_of (alike_of one other donation session.account ram caps)
          (of_mapped (ComesOutAlike one other) (need_of one session.account) tests_of each) in
          subst (λ x. EntrySteps answered.session x (entry_step entry (CallSession q request) t)) (sym serve_s)
          (subst (λ x. EntrySteps answered.session (session_served q buffer answered s) x) (sym serve_t)
          (serves_here (serves donation session (bytes_of_buffer buffer) request alike)))

    -- ---- more for the session

    module _ (more : Arguments) where
      abbrev after : Session
      after = upgraded session more.ram more.caps

      abbrev then_after : Session
      then_after = upgraded new more.ram more.caps

      upgrades_here : Fits s.account more.ram more.caps → Fits t.account more.ram more.caps → EntrySteps after (session_upgraded q session more s) (session_upgraded q new more t)
      upgrades_here fits fits_then = record {
        reply = ButLimits Done Done refl;
        lines = refl;
        next = record {
          here = away_same entry.kind s (session_upgraded q session more s).next refl ∙ here;
          there = get-insert_same m q (OpenSession after) q refl;
          donation = record { ram = donation.ram + more.ram; caps = donation.caps + more.caps };
          same = ap (λ x. record t { account = parted_with t.account more.ram more.caps; selectors = x })
              (inserted_twice m q (OpenSession new) (OpenSession then_after) ∙ sym (inserted_twice m q (OpenSession after) (OpenSession then_after)));
          ram = omega (arith, ram);
          caps = omega (arith, caps);
          own_ram = less_alike more.ram s.account.ram_used limits.ram other.ram s.account.ram_limit one.ram own_ram fits_then.ram_fits fits.ram_fits;
          own_caps = less_alike more.caps s.account.caps_used limits.caps other.caps s.account.caps_limit one.caps own_caps fits_then.caps_fit fits.caps_fit;
        };
      }

    -- a test that is covered under both lacks nothing
    lacks_none : (test : Test) → CoversBoth one other s.account test → (shortage s.account test.ram test.caps ≡ None) × (shortage t.account test.ram test.caps ≡ None)
    lacks_none test both =
        let x = both.ram in
        let z = both.caps in
        let fits : shortage s.account test.ram test.caps ≡ None = grind (arith, nat_tests, x, z) in
        (fits, short_alike limits s.account test (covers_alike limits s.account own_ram own_caps test both) ∙ fits)

    -- what an upgrade of the session brings, and does
    abbrev Upgraded : Option Arguments → Outcome → Outcome → Type 0
    Upgraded arguments o p = (raised_by arguments t.account ≡ raised_by arguments s.account) × EntrySteps (session_run (raised_by arguments s.account) session) o p

    upgrades_by : (arguments : Option Arguments) → Covered (upgrade_tests (Some session) arguments) → Upgraded arguments (upgraded_by q (Some session) arguments s) (upgraded_by q (Some new) arguments t)
    upgrades_by None each = (
      refl,
      record {
        reply = ButLimits (Refused BadArgs) (Refused BadArgs) refl;
        lines = refl;
        next = record { here = here; there = there; donation = donation; same = refl; ram = ram; caps = caps; own_ram = own_ram; own_caps = own_caps };
      },
    )
    upgrades_by (Some more) each =
        let none = lacks_none (test_of more.ram more.caps) each.0 in
        let raised_more = Raised (record { ram = more.ram; caps = more.caps }) ∷ [] in
        let by : Option Refusal → List Reaches = λ why. cond (is_none why) raised_more [] in
        let fits = covers s.account more.ram more.caps none.0 in
        let fits_then = covers t.account more.ram more.caps none.1 in (
          ap by none.1 ∙ sym (ap by none.0),
          subst (λ why. EntrySteps (session_run (by why) session) (unless why s (session_upgraded q session more s)) (upgraded_by q (Some new) (Some more) t)) (sym none.0)
              (subst (λ why. EntrySteps (upgraded session more.ram more.caps) (session_upgraded q session more s) (unless why t (session_upgraded q new more t))) (sym none.1)
              (upgrades_here more fits fits_then)),
        )

    it_upgrades : (text : List ℕ) → Covered (upgrade_tests (session_named (get m q)) (arguments_of text)) → Upgraded (arguments_of text) (entry_step entry (Upgrade q text) s) (entry_step entry (Upgrade q text) t)
    it_upgrades text each =
        subst (λ o. Upgraded (arguments_of text) (upgraded_by q (session_named o) (arguments_of text) s) (entry_step entry (Upgrade q text) t)) (sym there)
        (subst (λ o. Upgraded (arguments_of text) (upgraded_by q (Some session) (arguments_of text) s) (upgraded_by q (session_named o) (arguments_of text) t)) (sym (at_it q m session new there))
        (upgrades_by (arguments_of text) (subst (λ o. Covered (upgrade_tests (session_named o) (arguments_of text))) there each)))

    -- ---- all calls but one that ends the session

    pub record OneCall (call : Call) (brings_s brings_t : List Reaches) : Type 0 where
      pub brings : brings_t ≡ brings_s
      pub steps : EachAlike (session_needs one brings_s session) → EntrySteps (session_run brings_s session) (entry_step entry call s) (entry_step entry call t)

    beside_call : (call : Call) → is_of q call ≡ false → is_exit call ≡ false → Covered (entry_tests entry call s) → OneCall call [] []
    beside_call call apart on each = record { brings = refl; steps = λ _. beside_step call apart on each }

    asks : (k : ℕ) (request : List ℕ) (b : Bool) → (k == q) ≡ b → Covered (entry_tests entry (CallSession k request) s) →
        OneCall (CallSession k request) (cond b (Asked (bytes_of_buffer (buffer_of q m)) request ∷ []) []) (cond b (Asked (bytes_of_buffer (buffer_of q n)) request ∷ []) [])
    asks k request false e each = beside_call (CallSession k request) e refl each
    asks k request true e each = record {
      brings = ap (λ b. Asked (bytes_of_buffer b) request ∷ []) (buffer_same q m session new there q);
      steps = λ alike. subst (λ j. EntrySteps (answered request).session (entry_step entry (CallSession j request) s) (entry_step entry (CallSession j request) t)) (sym (eqb-true k q e))
          (it_serves request (all_left (ComesOutAlike one other) (needs_of_one one (Asked (bytes_of_buffer (buffer_of q m)) request) session) [] alike));
    }

    raises : (k : ℕ) (text : List ℕ) (b : Bool) → (k == q) ≡ b → Covered (entry_tests entry (Upgrade k text) s) →
        OneCall (Upgrade k text) (cond b (raised_by (arguments_of text) s.account) []) (cond b (raised_by (arguments_of text) t.account) [])
    raises k text false e each = beside_call (Upgrade k text) e refl each
    raises k text true e each =
        let at : k ≡ q = eqb-true k q e in
        let both = it_upgrades text (subst (λ j. Covered (entry_tests entry (Upgrade j text) s)) at each) in
        record {
          brings = both.0;
          steps = λ _. subst (λ j. EntrySteps (session_run (raised_by (arguments_of text) s.account) session) (entry_step entry (Upgrade j text) s) (entry_step entry (Upgrade j text) t)) (sym at) both.1;
        }

    pub one_call : (call : Call) → ends q call ≡ false → Covered (entry_tests entry call s) → OneCall call (brought q call s) (brought q call t)
    one_call (CallSession k request) on each = asks k request (k == q) refl each
    one_call (Upgrade k text) on each = raises k text (k == q) refl each
    one_call (Close k) on each = beside_call (Close k) on refl each
    one_call Exit on each = absurd (true≢false on)
    one_call call on each = beside_call call refl refl each

    -- ---- a call that ends it leaves both alike

    abbrev closed_with : Option NamedBuffer → NatMap Object → Account → Outcome
    closed_with b selectors account = record { reply = Done; lines = []; next = record s { account = account; selectors = selectors; regions = regions_lent b None s.regions } }

    closed_selectors : remove (selectors_lent q (buffer_of q m) None n) q ≡ remove (selectors_lent q (buffer_of q m) None m) q
    closed_selectors =
        ap (λ x. remove x q) (lent_beside q m session new there q (buffer_of q m) None refl)
        ∙ removed_twice (selectors_lent q (buffer_of q m) None m) q (OpenSession new)

    closed_alike : session_closed q (Some new) t ≡ session_closed q (Some session) s
    closed_alike =
        let sum : limits.ram + donation.ram ≡ s.account.ram_limit + session.account.ram_limit = omega (arith, ram, own_ram) in
        let caps_sum : limits.caps + donation.caps ≡ s.account.caps_limit + session.account.caps_limit = omega (arith, caps, own_caps) in
        let account : ◌≡◌ {A = Account} (raised (limited limits s.account) donation.ram donation.caps) (raised s.account session.account.ram_limit session.account.caps_limit) =
        λ i. record s.account { ram_limit = sum i; caps_limit = caps_sum i } in
        ap (λ b. closed_with b (remove (selectors_lent q b None n) q) (raised (limited limits s.account) donation.ram donation.caps)) (buffer_same q m session new there q)
        ∙ (λ i. closed_with (buffer_of q m) (closed_selectors i) (account i))

    pub ended_by : (call : Call) → ends q call ≡ true → entry_step entry call t ≡ entry_step entry call s
    ended_by (Close k) e =
        let at : k ≡ q = eqb-true k q e in
        ap (λ j. entry_step entry (Close j) t) at
        ∙ ap (λ o. session_closed q (session_named o) t) (at_it q m session new there)
        ∙ closed_alike
        ∙ sym (ap (λ o. session_closed q (session_named o) s) there)
        ∙ ap (λ j. entry_step entry (Close j) s) (sym at)
    ended_by Exit e = refl
    ended_by call e = absurd (true≢false (sym e))
