-- What a meter of a session knows after a request or a donation, and how a run of a session goes on.
use Rattle.std.proofs.Common.{◌≡◌, ℕ, ◌<◌, ◌^◌, ◌||◌, Bool, true, false, cond, List, [], ◌∷◌, ◌++◌, refl, sym, ap, ◌∙◌, subst, append_assoc}
use Rattle.std.specs.Prelude.{Option, Some, None, is_some}
use Rattle.std.proofs.lemmas.List.{append-nil}
use Rattle.own_model.specs.Account.{Account}
use Rattle.own_model.specs.Amounts.{Amounts}
use Rattle.own_model.specs.BufferService.{SessionRequest, session_request}
use Rattle.own_model.specs.OwnState.{NamedBuffer, bytes_of_buffer}
use Rattle.own_model.specs.Session.{ServiceState, Session, Served, Wish, new_session, served, state_at_first, too_small, upgraded}
use Rattle.own_model.specs.Growth.{Shape}
use Rattle.own_model.specs.ObjectSession.{HoldingRequest, holding_request}
use Rattle.core_calls.specs.Quotas.{quotas_account}
use Rattle.core_calls.specs.declared.quotas.Quotas.{Quotas}
use Rattle.budget_theorems.specs.Request.{donating, request_tests, shows_session_short}
use Rattle.budget_theorems.specs.RequestTheorems.{Reaches, session_after, needs_of_one, session_needs, session_run, one_is_short, session_is_short}
use Rattle.budget_theorems.specs.RequestTheorems.Reaches.{Asked, Raised}
use Rattle.budget_meter.specs.Needs.{amounts_of, shown_by, shown_in, shown_of, together}
use Rattle.budget_meter.specs.SessionRuns.{Sent, reaches, buffer_after, reaching_to_want, opening_need}
use Rattle.budget_meter.specs.Sessions.{IsAt, IsServedBy, HasReached, IsLeft, Shows}
use Rattle.budget_theorems.specs.Test.{Test}
use Rattle.budget_meter.specs.KeptState.{HasNoObjects, KeepsState, heap_shape}
use Rattle.budget_meter.specs.ObjectSizes.{KnownObjects}
use Rattle.budget_meter.specs.ObjectTests.{object_growth, object_tests, sizes_after}
use Rattle.budget_meter.specs.Sizes.{Keeps}
use Rattle.budget_meter.specs.RequestTests.{files_in, tests_by_reply, growth_by_reply, Changes}
use Rattle.budget_meter.specs.declared.meter.Meter.{Meter}
use Rattle.budget_meter.specs.declared.session.SessionMeter.{SessionMeter}
use Rattle.budget_meter.proofs.ShownLemmas.{shown-append, together_nothing}
use Rattle.budget_meter.proofs.KeptStateLemmas.{TellsHolding, growth_at_first, holding_told_in, kept_at_first, known_at_first, no_objects_after, no_objects_in, shape_in, short_told_in, sizes_after_request, sizes_in}
use Rattle.budget_meter.proofs.ToldLemmas.{TellsSession, told_in}

-- ---- one more

run_more : (all : List Reaches) (x : Reaches) (s : Session) → session_run (all ++ x ∷ []) s ≡ session_after x (session_run all s)
run_more [] x s = refl
run_more (first ∷ all) x s = run_more all x (session_after first s)

needs_more : (donation : Amounts) (all : List Reaches) (x : Reaches) (s : Session) →
    session_needs donation (all ++ x ∷ []) s ≡ session_needs donation all s ++ needs_of_one donation x (session_run all s)
needs_more donation [] x s = append-nil (needs_of_one donation x s)
needs_more donation (first ∷ all) x s =
    ap (λ rest. needs_of_one donation first s ++ rest) (needs_more donation all x (session_after first s))
    ∙ sym (append_assoc (needs_of_one donation first s) (session_needs donation all (session_after first s)) (needs_of_one donation x (session_run all (session_after first s))))

shown_more : (donation : Amounts) (all : List Reaches) (x : Reaches) (s : Session) →
    shown_by donation (opening_need donation ∷ session_needs donation (all ++ x ∷ []) s)
    ≡ together (shown_by donation (opening_need donation ∷ session_needs donation all s)) (shown_by donation (needs_of_one donation x (session_run all s)))
shown_more donation all x s =
    ap (λ each. shown_by donation (opening_need donation ∷ each)) (needs_more donation all x s)
    ∙ shown-append donation (opening_need donation ∷ session_needs donation all s) (needs_of_one donation x (session_run all s))

-- ---- what was heard

-- at first nothing
module _ (w : Wish) (meter : SessionMeter) where
  abbrev opening : Amounts
  opening = record { ram = w.ram; caps = w.caps }

  pub reached_at_first : amounts_of meter.meter.start ≡ opening → too_small w.ram w.caps ≡ None → shown_in meter.meter ≡ shown_by opening (opening_need opening ∷ []) →
      quotas_account meter.account ≡ (new_session w).account → meter.account.ram_limit.0 < 2 ^ 64 → meter.pages ≡ 4 → Keeps meter.sizes [] → meter.objects ≡ known_at_first w.server.kind →
      HasReached [] opening (new_session w) meter
  reached_at_first start enough shown account few pages none known = record {
    start = start;
    opens = ap is_some enough;
    shown = shown;
    at = record {
      account = account;
      few = few;
      growth = pages ∙ growth_at_first w.server.kind;
      kept = subst (λ k. KeepsState meter.sizes k (state_at_first w.server.kind)) (sym known) (kept_at_first meter.sizes w.server.kind none);
    };
  }

-- what is known of files and objects stays
kept_still : (old new : SessionMeter) (state : ServiceState) → new.sizes ≡ old.sizes → new.objects ≡ old.objects → KeepsState old.sizes old.objects state → KeepsState new.sizes new.objects state
kept_still old new state sizes objects kept =
    subst (λ z. KeepsState z new.objects state) (sym sizes) (subst (λ k. KeepsState old.sizes k state) (sym objects) kept)

module _ (all : List Reaches) (donation : Amounts) (session : Session) where
  abbrev here : Session
  here = session_run all (donating donation session)

  -- more that was donated
  pub raised : (old new : SessionMeter) (more : Amounts) → HasReached all donation session old → new.meter ≡ old.meter → new.pages ≡ old.pages → new.sizes ≡ old.sizes → new.objects ≡ old.objects →
      new.account.ram_limit.0 < 2 ^ 64 → quotas_account new.account ≡ (upgraded here more.ram more.caps).account → HasReached (all ++ Raised more ∷ []) donation session new
  raised old new more before meter pages sizes objects few account = record {
    start = ap (λ (m : Meter). amounts_of m.start) meter ∙ before.start;
    opens = before.opens;
    shown =
        ap shown_in meter ∙ before.shown ∙ sym (together_nothing (shown_by donation (opening_need donation ∷ session_needs donation all (donating donation session))))
        ∙ sym (shown_more donation all (Raised more) (donating donation session));
    at = subst (IsAt new) (sym (run_more all (Raised more) (donating donation session)))
        (record { account = account; few = few; growth = pages ∙ before.at.growth; kept = kept_still old new here.state sizes objects before.at.kept });
  }

  -- or wasn't
  pub unraised : (old new : SessionMeter) → HasReached all donation session old → new.meter ≡ old.meter → new.pages ≡ old.pages → new.sizes ≡ old.sizes → new.objects ≡ old.objects →
      new.account.ram_limit.0 < 2 ^ 64 → quotas_account new.account ≡ here.account → HasReached all donation session new
  unraised old new before meter pages sizes objects few account = record {
    start = ap (λ (m : Meter). amounts_of m.start) meter ∙ before.start;
    opens = before.opens;
    shown = ap shown_in meter ∙ before.shown;
    at = record { account = account; few = few; growth = pages ∙ before.at.growth; kept = kept_still old new here.state sizes objects before.at.kept };
  }

  -- a request
  module _ (buffer : Option NamedBuffer) (request reply : List ℕ) (left : Quotas) (old : SessionMeter) (before : HasReached all donation session old) where
    abbrev o : Served
    o = served (bytes_of_buffer buffer) here request

    module _ (served_so : IsServedBy reply left buffer o) where
      few_now : here.account.ram_limit < 2 ^ 64
      few_now = subst (λ (a : Account). a.ram_limit < 2 ^ 64) before.at.account before.at.few

      pub short_told : shows_session_short reply ≡ shows_session_short o.reply
      short_told =
          ap shows_session_short served_so.told ∙ short_told_in request buffer here few_now served_so.selector old.sizes old.objects here.state before.at.kept

      -- a request that makes these tests, after which the meter knows this
      heard : (new : SessionMeter) (each : List Test) → each ≡ request_tests (bytes_of_buffer buffer) here request →
          shown_in new.meter ≡ together (shown_in old.meter) (shown_of (amounts_of old.meter.start) (quotas_account old.account) each) →
          new.pages ≡ (heap_shape o.session.state).growth → KeepsState new.sizes new.objects o.session.state →
          new.meter.start ≡ old.meter.start → left.ram_limit.0 < 2 ^ 64 → new.account ≡ left → HasReached (all ++ Asked (bytes_of_buffer buffer) request ∷ []) donation session new
      heard new each tested shown pages kept start few account =
          let x = Asked (bytes_of_buffer buffer) request in
          let s = donating donation session in
          record {
            start = ap amounts_of start ∙ before.start;
            opens = before.opens;
            shown =
                shown ∙ (λ i. together (before.shown i) (shown_of (before.start i) (before.at.account i) (tested i)))
                ∙ sym (shown_more donation all x s);
            at = subst (IsAt new) (sym (run_more all x s))
                (record {
                  account = ap quotas_account account ∙ served_so.leaves;
                  few = subst (λ (q : Quotas). q.ram_limit.0 < 2 ^ 64) (sym account) few;
                  growth = pages;
                  kept = kept;
                });
          }

      -- where the meter knows no objects
      module _ (none : old.objects ≡ None) where
        kept_files : KeepsState old.sizes None here.state
        kept_files = subst (λ k. KeepsState old.sizes k here.state) none before.at.kept

        no_objects : HasNoObjects here.state
        no_objects = no_objects_in old.sizes here.state kept_files

        tells : TellsSession request buffer here here.state reply o
        tells = subst (λ text. TellsSession request buffer here here.state text o) (sym served_so.told) (told_in request buffer here few_now served_so.selector here.state no_objects)

        pub keeps_files : Keeps old.sizes (files_in here.state).files
        keeps_files = sizes_in old.sizes here.state kept_files

        pub files_growth : old.pages ≡ (files_in here.state).shape.growth
        files_growth = before.at.growth ∙ ap (λ (s : Shape). s.growth) (shape_in here.state no_objects)

        pub heard_files : (new : SessionMeter) (asked : Option SessionRequest) → asked ≡ session_request request →
            shown_in new.meter
            ≡ together (shown_in old.meter)
            (shown_of (amounts_of old.meter.start) (quotas_account old.account) (tests_by_reply asked reply (quotas_account old.account) (quotas_account left) (files_in here.state))) →
            new.pages ≡ growth_by_reply asked reply (quotas_account old.account) (quotas_account left) (files_in here.state) →
            (Changes asked reply (files_in here.state).files (files_in o.session.state).files → Keeps new.sizes (files_in o.session.state).files) → new.objects ≡ None →
            new.meter.start ≡ old.meter.start → left.ram_limit.0 < 2 ^ 64 → new.account ≡ left → HasReached (all ++ Asked (bytes_of_buffer buffer) request ∷ []) donation session new
        heard_files new asked is shown pages sizes still start few account =
            let leaves : quotas_account left ≡ o.session.account = served_so.leaves in
            let after = no_objects_after here (bytes_of_buffer buffer) request here.state no_objects in
            heard new (tests_by_reply asked reply (quotas_account old.account) (quotas_account left) (files_in here.state))
            ((λ i. tests_by_reply (is i) reply (before.at.account i) (leaves i) (files_in here.state)) ∙ tells.tests) shown
            (pages ∙ (λ i. growth_by_reply (is i) reply (before.at.account i) (leaves i) (files_in here.state)) ∙ tells.growth ∙ sym (ap (λ (s : Shape). s.growth) (shape_in o.session.state after)))
            (subst (λ k. KeepsState new.sizes k o.session.state) (sym still)
            (sizes_after_request here (bytes_of_buffer buffer) request new.sizes here.state no_objects
            (sizes (subst (λ a. Changes a reply (files_in here.state).files (files_in o.session.state).files) (sym is) tells.changes))))
            start few account

      -- where it knows these
      module _ (known : KnownObjects) (some : old.objects ≡ Some known) where
        holds : TellsHolding request buffer here here.state old.sizes known reply o
        holds =
            subst (λ text. TellsHolding request buffer here here.state old.sizes known text o) (sym served_so.told)
            (holding_told_in request buffer here few_now served_so.selector old.sizes known here.state (subst (λ k. KeepsState old.sizes k here.state) some before.at.kept))

        pub heard_objects : (new : SessionMeter) (asked : Option HoldingRequest) → asked ≡ holding_request request →
            ((shape : Shape) → old.pages ≡ shape.growth → shown_in new.meter
            ≡ together (shown_in old.meter)
            (shown_of (amounts_of old.meter.start) (quotas_account old.account) (object_tests asked reply (quotas_account old.account) (quotas_account left) known shape))) →
            ((shape : Shape) → old.pages ≡ shape.growth → new.pages ≡ object_growth asked reply (quotas_account old.account) (quotas_account left) known shape) →
            new.objects ≡ Some (record known { objects = sizes_after known.kinds asked reply known.objects }) → new.sizes ≡ old.sizes →
            new.meter.start ≡ old.meter.start → left.ram_limit.0 < 2 ^ 64 → new.account ≡ left → HasReached (all ++ Asked (bytes_of_buffer buffer) request ∷ []) donation session new
        heard_objects new asked is shown pages objects sizes start few account =
            let leaves : quotas_account left ≡ o.session.account = served_so.leaves in
            let shape = heap_shape here.state in
            heard new (object_tests asked reply (quotas_account old.account) (quotas_account left) known shape)
            ((λ i. object_tests (is i) reply (before.at.account i) (leaves i) known shape) ∙ holds.tests) (shown shape before.at.growth)
            (pages shape before.at.growth ∙ (λ i. object_growth (is i) reply (before.at.account i) (leaves i) known shape) ∙ holds.growth)
            (subst (λ z. KeepsState z new.objects o.session.state) (sym sizes)
            (subst (λ k. KeepsState old.sizes k o.session.state) (sym (objects ∙ ap (λ a. Some (record known { objects = sizes_after known.kinds a reply known.objects })) is)) holds.kept))
            start few account

-- ---- runs

-- whether a request is in want, as its client is told
pub want_told : (heard : List Reaches) (donation : Amounts) (session now : Session) (buffer : Option NamedBuffer) (request reply : List ℕ) (left : Quotas) (old : SessionMeter) →
    HasReached heard donation session old → session_run heard (donating donation session) ≡ now →
    IsServedBy reply left buffer (served (bytes_of_buffer buffer) now request) → shows_session_short (served (bytes_of_buffer buffer) now request).reply ≡ shows_session_short reply
want_told heard donation session now buffer request reply left old has here told =
    ap (λ (t : Session). shows_session_short (served (bytes_of_buffer buffer) t request).reply) (sym here)
    ∙ sym (short_told heard donation session buffer request reply left old has
    (subst (λ (t : Session). IsServedBy reply left buffer (served (bytes_of_buffer buffer) t request)) (sym here) told))

module _ (sent : List Sent) (donation : Amounts) (session : Session) (meter : SessionMeter) where
  -- before the first
  pub all_left : HasReached [] donation session meter → IsLeft sent sent donation session None (donating donation session) meter
  all_left has = record { heard = []; has = has; here = refl; part = refl; want = refl }

  abbrev start : Session
  start = donating donation session

  -- what a run shows that heard all of it
  shown_whole : (heard : List Reaches) → HasReached heard donation session meter → reaching_to_want sent None start ≡ heard → (wanting : Bool) →
      session_is_short (reaching_to_want sent None start) start ≡ wanting → Shows sent session donation wanting meter.meter
  shown_whole heard has whole wanting want = record {
    start = has.start;
    shown =
        has.shown
        ∙ (λ i. shown_by donation (opening_need donation ∷ cond (sym has.opens i) [] (session_needs donation (sym whole i) start)));
    want = sym want ∙ ap (λ b. b || session_is_short (reaching_to_want sent None start) start) (sym has.opens);
  }

  -- after the last
  pub none_left : (buffer : Option (List ℕ)) (now : Session) → IsLeft sent [] donation session buffer now meter → Shows sent session donation false meter.meter
  none_left buffer now left = shown_whole left.heard left.has (left.part ∙ append-nil left.heard) false left.want

  module _ (x : Sent) (rest : List Sent) (buffer : Option (List ℕ)) (now : Session) (old : SessionMeter) (before : IsLeft sent (x ∷ rest) donation session buffer now old)
      (hears : (heard : List Reaches) → HasReached heard donation session old → session_run heard start ≡ now → HasReached (heard ++ reaches buffer x ∷ []) donation session meter) where
    has_more : HasReached (before.heard ++ reaches buffer x ∷ []) donation session meter
    has_more = hears before.heard before.has before.here

    abbrev next : Session
    next = session_after (reaches buffer x) now

    abbrev to_come : List Reaches
    to_come = reaching_to_want rest (buffer_after buffer x now) next

    -- the part up to the first want, where this is in want or not
    abbrev behind : Bool → List Reaches
    behind w = reaches buffer x ∷ cond w [] to_come

    abbrev wants_behind : Bool → Bool
    wants_behind w = one_is_short (reaches buffer x) now || session_is_short (cond w [] to_come) next

    -- what is in no want goes on
    pub one_less : one_is_short (reaches buffer x) now ≡ false → IsLeft sent rest donation session (buffer_after buffer x now) next meter
    one_less is = record {
      heard = before.heard ++ reaches buffer x ∷ [];
      has = has_more;
      here = run_more before.heard (reaches buffer x) start ∙ ap (session_after (reaches buffer x)) before.here;
      part =
          before.part ∙ ap (λ w. before.heard ++ behind w) is
          ∙ sym (append_assoc before.heard (reaches buffer x ∷ []) to_come);
      want = before.want ∙ ap wants_behind is ∙ ap (λ w. w || session_is_short to_come next) is;
    }

    -- and what is ends the run
    pub ended : one_is_short (reaches buffer x) now ≡ true → Shows sent session donation true meter.meter
    ended is =
        shown_whole (before.heard ++ reaches buffer x ∷ []) has_more (before.part ∙ ap (λ w. before.heard ++ behind w) is) true
        (before.want ∙ ap wants_behind is ∙ ap (λ w. w || false) is)
