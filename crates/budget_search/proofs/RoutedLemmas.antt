-- A session that a component opens is routed to a server.
use Rattle.std.proofs.Common.{arith, ◌≡◌, ◌<◌, ◌+◌, ◌*◌, ◌++◌, ℕ, zero, suc, cond, Bool, true, false, List, [], ◌∷◌, inl, inr, length, get_or, refl, sym, ap, ◌∙◌, subst}
use Rattle.std.proofs.lemmas.Bool.Decides.{nat_tests}
use Rattle.std.proofs.lemmas.List.{length-map}
use Rattle.std.specs.Prelude.{Option, Some, None, is_some, nat_lt, IfSome, Result, Ok, Err}
use Rattle.std.specs.List.{AllByRecursion, slice_get}
use Rattle.std.specs.Option.{option_map_or}
use Rattle.trade_base.specs.Refusal.{refusal_name}
use Rattle.trade_base.specs.declared.refusal.Refusal.{Refusal}
use Rattle.trade_base.specs.declared.refusal.Refusal.TheVariants.{BadLine, UnknownComponent, NotAScript, Gone, BadArgs, InvalidSize, InvalidCap, OutOfRam, OutOfCaps, RegionConflict, TooManyRegions, PageFault, TooManyChunks, ServiceDenied, InsufficientRamQuota, InsufficientCapQuota, InvalidSession}
use Rattle.own_model.specs.Amounts.{Amounts}
use Rattle.own_model.specs.Call.{Call}
use Rattle.own_model.specs.Call.Call.{Open, CallSession, Upgrade, Close}
use Rattle.own_model.specs.Listed.{Listed, start_of, start_list_of}
use Rattle.own_model.specs.OwnState.{OwnState}
use Rattle.own_model.specs.OwnStep.{opened_by as step_opened, turned_away, unless}
use Rattle.own_model.specs.Reply.{reply_text}
use Rattle.own_model.specs.Reply.Reply.{Selected}
use Rattle.own_model.specs.Routes.{Level, ServerAt, provider}
use Rattle.own_model.specs.Session.{Wish, resolved_request, routed_request, wish}
use Rattle.own_model.specs.SessionArgs.{Arguments, arguments_of}
use Rattle.own_model.specs.StartList.{Entry, StartEntry, entries_of}
use Rattle.own_model.specs.Transcript.{entry_at, state_at}
use Rattle.own_model.specs.World.{outcome_at}
use Rattle.budget_search.specs.Donations.{donated_text}
use Rattle.budget_search.specs.Alike.{own_entry, IsFunded}
use Rattle.budget_search.specs.AmpleCalls.{after_step, ample_args, ample_call, asked_again, asked_up, enough_of, made_with_enough, of_word, stepped, upgrade_args, Client}
use Rattle.budget_search.specs.OpenedSessions.{made_by, opened_by, opened_with}
use Rattle.budget_search.specs.ReachedSessions.{after_call, after_left_out, first_reached, followed_from, named_in, names, opens, raised_by, raised_with, reached_by, reaches, upgrades, Came, Followed, IsFollowed, IsOfLines, IsRaised, IsShown, Reach, ReachBy, Reached, Sessions}
use Rattle.budget_search.specs.Steps.{call_said}
use Rattle.budget_search.specs.declared.component_line.ComponentLine.{ComponentLine}
use Rattle.budget_search.proofs.AlikeLemmas.{funded_entry, same_count}
use Rattle.budget_search.proofs.ArgumentLemmas.{donation_read, small_read}
use Rattle.budget_search.proofs.RaisedLemmas.{all_changed, all_longer, all_raised}

-- ---- replies

-- each name of a refusal begins with a capital letter
first_letter : (refusal : Refusal) → get_or (refusal_name refusal) 0 0 < 97
first_letter BadLine = omega arith
first_letter UnknownComponent = omega arith
first_letter NotAScript = omega arith
first_letter Gone = omega arith
first_letter BadArgs = omega arith
first_letter InvalidSize = omega arith
first_letter InvalidCap = omega arith
first_letter OutOfRam = omega arith
first_letter OutOfCaps = omega arith
first_letter RegionConflict = omega arith
first_letter TooManyRegions = omega arith
first_letter PageFault = omega arith
first_letter TooManyChunks = omega arith
first_letter ServiceDenied = omega arith
first_letter InsufficientRamQuota = omega arith
first_letter InsufficientCapQuota = omega arith
first_letter InvalidSession = omega arith

not_selected : (refusal : Refusal) (selector : ℕ) → refusal_name refusal ≡ reply_text (Selected selector) → ⊥
not_selected refusal selector e =
    let first : get_or (refusal_name refusal) 0 0 ≡ 99 = ap (λ text. get_or text 0 0) e in
    omega (arith, first_letter refusal, first)

selected_by : (s : OwnState) (selector : ℕ) (why : Option Refusal) (asked : Result Wish Refusal) → reply_text (unless why s (step_opened asked s)).reply ≡ reply_text (Selected selector) →
    is_some (made_by asked) ≡ true
selected_by s selector why (Ok w) told = refl
selected_by s selector None (Err refusal) told = absurd (not_selected refusal selector told)
selected_by s selector (Some other) (Err refusal) told = absurd (not_selected other selector told)

-- ---- what is asked for

-- by the server alone
routed_alike : (client : List ℕ) (one other : Arguments) (server : Option ServerAt) → is_some (made_by (routed_request client one server)) ≡ is_some (made_by (routed_request client other server))
routed_alike client one other None = refl
routed_alike client one other (Some server) = refl

-- so with enough as well
enough_alike : (client : List ℕ) (routes : List Level) (service text : List ℕ) (named : Arguments) → arguments_of text ≡ Some named →
    is_some (made_by (wish client routes service (ample_args text))) ≡ is_some (made_by (wish client routes service text))
enough_alike client routes service text named is =
    let small = small_read text named is in
    let enough = enough_of named in
    let again : Arguments = record { ram = enough.ram; caps = enough.caps; label = named.label } in
    let read : arguments_of (ample_args text) ≡ Some again =
    donation_read text (ample_args text) named enough is (omega (arith, small.ram)) (omega (arith, small.caps))
    (ap (λ o. option_map_or (λ given. donated_text (enough_of given) text) o text) is) in
    ap (λ o. is_some (made_by (resolved_request client routes service o))) read
    ∙ routed_alike client again named (provider routes service named.label)
    ∙ sym (ap (λ o. is_some (made_by (resolved_request client routes service o))) is)

-- ---- the client

-- the component is there, and this is its entry
abbrev IsAt : Entry → Client → Type 0
IsAt entry client = (nat_lt client.component (length client.world.entries) ≡ true) × (entry_at client.world.entries client.component ≡ entry)

module _ (entry : Entry) where
  at_by : (call : Call) (client : Client) (b : Bool) → IsAt entry client → IsAt entry (cond b (stepped (outcome_at client.world client.component call) client) client)
  at_by call client true at = at
  at_by call client false at = at

  step_at : (call : Call) (client : Client) → IsAt entry client → IsAt entry (after_step call client)
  step_at call client at = at_by call client (nat_lt client.component (length client.world.entries)) at

  again_by : (selector : ℕ) (request : Call) (client : Client) (o : Option (List ℕ)) (next : List ℕ → Client) → IsAt entry client → ((args : List ℕ) → IsAt entry (next args)) →
      IsAt entry (option_map_or next o client)
  again_by selector request client None next at then_it = at
  again_by selector request client (Some args) next at then_it = then_it args

  asked_at : (selector : ℕ) (request : Call) (n times : ℕ) (client : Client) → IsAt entry client → IsAt entry (asked_up selector request n times client)
  asked_at selector request zero times client at = at
  asked_at selector request (suc left) times client at =
      again_by selector request client (upgrade_args times client.text) (λ args. asked_up selector request left (of_word (times * 2)) (asked_again selector request args client)) at
      (λ args. asked_at selector request left (of_word (times * 2)) (asked_again selector request args client)
      (step_at request (after_step (Upgrade selector args) client) (step_at (Upgrade selector args) client at)))

  made_at : (call : Call) (client : Client) → IsAt entry client → IsAt entry (made_with_enough call client)
  made_at (CallSession selector request) client at = asked_at selector (CallSession selector request) 32 1 (after_step (CallSession selector request) client) (step_at (CallSession selector request) client at)
  made_at call client at = step_at (ample_call call) client at

  -- an opening that was answered with a selector was routed
  selected : (client : Client) (service text : List ℕ) (named : Arguments) (selector : ℕ) → IsAt entry client → arguments_of text ≡ Some named →
      (made_with_enough (Open service text) client).text ≡ reply_text (Selected selector) → is_some (opened_by entry (Some (Open service text))) ≡ true
  selected client service text named selector at is told =
      let world = client.world in
      let its = entry_at world.entries client.component in
      let s = state_at world.states client.component in
      let call = Open service (ample_args text) in
      let reply : reply_text (outcome_at world client.component call).reply ≡ reply_text (Selected selector) =
      sym (ap (λ b. (cond b (stepped (outcome_at world client.component call) client) client).text) at.0) ∙ told in
      ap (λ (e : Entry). is_some (made_by (wish e.label e.routes service text))) (sym at.1)
      ∙ sym (enough_alike its.label its.routes service text named is)
      ∙ selected_by s selector (turned_away its.kind s) (wish its.label its.routes service (ample_args text)) reply

-- ---- all sessions

module _ (entry : Entry) (all : List ComponentLine) where
  abbrev IsRouted : Reached → Type 0
  IsRouted one = is_some (opened_with entry (slice_get all one.opening)) ≡ true

  abbrev AreRouted : List Reached → Type 0
  AreRouted opened = AllByRecursion IsRouted opened

  reached_routed : (owner : Option ℕ) (place : ℕ) (opened : List Reached) → AreRouted opened → AreRouted (reached_by owner place opened)
  reached_routed None place opened routed = routed
  reached_routed (Some session) place opened routed = all_changed IsRouted (λ one. record one { places = one.places ++ place ∷ [] }) (λ one is. is) opened session routed

  raised_routed : (owner : Option ℕ) (o : Option Arguments) (opened : List Reached) → AreRouted opened → AreRouted (raised_by owner o opened)
  raised_routed None o opened routed = routed
  raised_routed (Some session) None opened routed = routed
  raised_routed (Some session) (Some more) opened routed = all_changed IsRouted (raised_with more) (λ one is. is) opened session routed

  opened_routed : (place : ℕ) (given : Option Arguments) (selector : Option ℕ) (sessions : Sessions) →
      ((named : Arguments) (k : ℕ) → given ≡ Some named → selector ≡ Some k → IsRouted (first_reached place k named)) →
      AreRouted sessions.opened → AreRouted (opens place given selector sessions).opened
  opened_routed place None selector sessions new routed = routed
  opened_routed place (Some named) None sessions new routed = routed
  opened_routed place (Some named) (Some k) sessions new routed = all_longer IsRouted (first_reached place k named) (new named k refl refl) sessions.opened routed

  done_routed : (done : Bool) (selector place : ℕ) (text : List ℕ) (sessions : Sessions) → AreRouted sessions.opened →
      AreRouted (cond done (reaches selector place (upgrades selector (arguments_of text) sessions)) sessions).opened
  done_routed true selector place text sessions routed =
      reached_routed (named_in sessions selector) place (raised_by (named_in sessions selector) (arguments_of text) sessions.opened)
      (raised_routed (named_in sessions selector) (arguments_of text) sessions.opened routed)
  done_routed false selector place text sessions routed = routed

  closed_routed : (done : Bool) (selector : ℕ) (sessions : Sessions) → AreRouted sessions.opened → AreRouted (cond done (names selector None sessions) sessions).opened
  closed_routed true selector sessions routed = routed
  closed_routed false selector sessions routed = routed

  module _ (place : ℕ) (came : Came) (old : Client) (sessions : Sessions) (at : IsAt entry old) (routed : AreRouted sessions.opened) where
    after_routed : (call : Call) → opened_with entry (slice_get all place) ≡ opened_by entry (Some call) → IsShown (made_with_enough call old).text came →
        AreRouted (after_call came place call sessions).opened
    after_routed (Open service text) line shown =
        opened_routed place (arguments_of text) came.selector sessions
        (λ named k is told. ap is_some line ∙ selected entry old service text named k at is
        (subst (λ o. IfSome o (λ selector. (made_with_enough (Open service text) old).text ≡ reply_text (Selected selector))) told shown.selected))
        routed
    after_routed (CallSession selector request) line shown = reached_routed (named_in sessions selector) place sessions.opened routed
    after_routed (Upgrade selector text) line shown = done_routed came.done selector place text sessions routed
    after_routed (Close selector) line shown = closed_routed came.done selector sessions routed
    after_routed call line shown = routed

  left_out_routed : (place : ℕ) (call : Call) (sessions : Sessions) → AreRouted sessions.opened → AreRouted (after_left_out place call sessions).opened
  left_out_routed place (CallSession selector request) sessions routed = reached_routed (named_in sessions selector) place sessions.opened routed
  left_out_routed place call sessions routed = routed

  -- ---- line by line

  abbrev Keeps : Followed → Type 0
  Keeps f = IsAt entry f.client × AreRouted f.sessions.opened

  followed_routed : (left_out : Bool) (place : ℕ) (call : Call) (old next : Followed) → opened_with entry (slice_get all place) ≡ opened_by entry (Some call) →
      IsFollowed left_out place call old next → Keeps old → Keeps next
  followed_routed true place call old next line is keeps = subst Keeps (sym is) (keeps.0, left_out_routed place call old.sessions keeps.1)
  followed_routed false place call old next line is keeps = (
    subst (IsAt entry) (sym is.0) (made_at entry call old.client keeps.0),
    subst (λ (s : Sessions). AreRouted s.opened) (sym is.1.1.1)
        (after_routed place is.1.0 old.client old.sessions keeps.0 keeps.1 call line (subst (λ (c : Client). IsShown c.text is.1.0) is.0 is.1.1.0)),
  )

  line_routed : (left_out : Bool) (o : Option Call) (place : ℕ) (rest : Followed → Type 0) (old : Followed) (end : Sessions) → opened_with entry (slice_get all place) ≡ opened_by entry o →
      ((next : Followed) → Keeps next → rest next → AreRouted end.opened) → Keeps old → ReachBy left_out o place rest old end → AreRouted end.opened
  line_routed left_out None place rest old end line goes keeps reach = goes old keeps reach
  line_routed left_out (Some call) place rest old end line goes keeps (inl ends) = subst (λ (s : Sessions). AreRouted s.opened) (sym ends.1) keeps.1
  line_routed left_out (Some call) place rest old end line goes keeps (inr on) =
      goes on.1.0 (followed_routed left_out place call old on.1.0 line on.1.1.0 keeps) on.1.1.1

  pub lines_routed : (steps : List ComponentLine) (place : ℕ) (old : Followed) (end : Sessions) → ((i : ℕ) → slice_get steps i ≡ slice_get all (place + i)) → Keeps old → Reach steps place old end →
      AreRouted end.opened
  lines_routed [] place old end same keeps reach = subst (λ (s : Sessions). AreRouted s.opened) (sym reach) keeps.1
  lines_routed (step ∷ steps) place old end same keeps reach =
      let here : slice_get all place ≡ Some step = ap (slice_get all) (omega arith) ∙ sym (same 0) in
      line_routed step.is_left_out (call_said step.line.items) place (λ next. Reach steps (place + 1) next end) old end (ap (opened_with entry) here)
      (λ next. lines_routed steps (place + 1) next end (λ i. same (suc i) ∙ ap (slice_get all) (omega arith)))
      keeps reach

-- each session is what its lines say
module _ (machine list : Listed) (component : ℕ) (budget : Amounts) (there : component < length list.entries) (funded : IsFunded machine list component budget) where
  both_of : (entry : Entry) (steps : List ComponentLine) (opened : List Reached) → AllByRecursion (IsRouted entry steps) opened → AllByRecursion (IsRaised steps) opened →
      AllByRecursion (IsOfLines entry steps) opened
  both_of entry steps [] routed raised = tt
  both_of entry steps (one ∷ opened) routed raised = (record { routed = routed.0; raised = raised.0 }, both_of entry steps opened routed.1 raised.1)

  pub all_of_lines : (steps : List ComponentLine) (end : Sessions) → Reach steps 0 (followed_from machine component) end →
      AllByRecursion (IsOfLines (own_entry list component) steps) end.opened
  all_of_lines steps end reach =
      let within : component < length machine.entries = omega (arith, there, same_count machine list funded.alike) in
      let count : component < length (entries_of (start_list_of machine)) =
      omega (arith, within, length-map (start_list_of machine).starts (λ (start : StartEntry). start.entry), length-map machine.entries (start_of machine)) in
      both_of (own_entry list component) steps end.opened
      (lines_routed (own_entry list component) steps steps 0 (followed_from machine component) end (λ i. ap (slice_get steps) (omega arith))
      ((grind (arith, nat_tests, count), funded_entry machine list component budget there funded), tt) reach)
      (all_raised steps (followed_from machine component) end refl reach)
