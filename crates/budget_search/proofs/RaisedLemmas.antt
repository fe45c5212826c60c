-- What upgrades donate in all is what the lines at the session's places send.
use Rattle.std.proofs.Common.{arith, ◌≡◌, ◌+◌, ◌++◌, ℕ, zero, suc, cond, Bool, true, false, List, [], ◌∷◌, inl, inr, refl, sym, ap, ◌∙◌, subst}
use Rattle.std.proofs.lemmas.Option.{same_Some}
use Rattle.std.specs.Prelude.{Option, Some, None}
use Rattle.std.specs.List.{AllByRecursion, slice_get}
use Rattle.own_model.specs.Amounts.{Amounts, more_of, no_amounts}
use Rattle.own_model.specs.Call.{Call}
use Rattle.own_model.specs.Call.Call.{Open, CallSession, Upgrade, Close}
use Rattle.own_model.specs.SessionArgs.{Arguments, arguments_of}
use Rattle.list_parser.specs.Budgets.{changed_at}
use Rattle.budget_meter.specs.SessionRuns.{Sent}
use Rattle.budget_search.specs.AmpleCalls.{of_word}
use Rattle.budget_search.specs.OpenedSessions.{raised_in, raises, sends, sent_at, sent_by}
use Rattle.budget_search.specs.ReachedSessions.{after_call, after_left_out, first_reached, named_in, names, opens, raised_by, raised_with, reached_by, reaches, upgrades, Came, Followed, IsFollowed, IsRaised, Reach, ReachBy, Reached, Sessions}
use Rattle.budget_search.specs.Steps.{call_said}
use Rattle.budget_search.specs.declared.component_line.ComponentLine.{ComponentLine}

-- ---- what is sent in all

abbrev both : ℕ → ℕ → Amounts
both ram caps = record { ram = ram; caps = caps }

nothing_more : (x : Amounts) → x ≡ more_of no_amounts x
nothing_more x =
    let ram : x.ram ≡ 0 + x.ram = omega arith in
    let caps : x.caps ≡ 0 + x.caps = omega arith in
    λ i. both (ram i) (caps i)

raises_more : (o : Option Arguments) (rest : List Sent) → raised_in (raises o rest) ≡ more_of (raised_in (raises o [])) (raised_in rest)
raises_more None rest = nothing_more (raised_in rest)
raises_more (Some more) rest =
    let r = raised_in rest in
    let ram : more.ram + r.ram ≡ (more.ram + 0) + r.ram = omega arith in
    let caps : more.caps + r.caps ≡ (more.caps + 0) + r.caps = omega arith in
    λ i. both (ram i) (caps i)

sends_more : (left_out : Bool) (call : Option Call) (rest : List Sent) → raised_in (sends left_out call rest) ≡ more_of (raised_in (sends left_out call [])) (raised_in rest)
sends_more left_out None rest = nothing_more (raised_in rest)
sends_more true (Some (CallSession selector request)) rest = nothing_more (raised_in rest)
sends_more false (Some (CallSession selector request)) rest = nothing_more (raised_in rest)
sends_more true (Some (Upgrade selector text)) rest = nothing_more (raised_in rest)
sends_more false (Some (Upgrade selector text)) rest = raises_more (arguments_of text) rest
sends_more left_out (Some call) rest = nothing_more (raised_in rest)

line_more : (o : Option ComponentLine) (rest : List Sent) → raised_in (sent_by o rest) ≡ more_of (raised_in (sent_by o [])) (raised_in rest)
line_more None rest = nothing_more (raised_in rest)
line_more (Some step) rest = sends_more step.is_left_out (call_said step.line.items) rest

module _ (steps : List ComponentLine) (place : ℕ) where
  abbrev last : Amounts
  last = raised_in (sent_by (slice_get steps place) [])

  -- one place more
  place_more : (places : List ℕ) → raised_in (sent_at steps (places ++ place ∷ [])) ≡ more_of (raised_in (sent_at steps places)) last
  place_more [] = nothing_more last
  place_more (p ∷ ps) =
      let one = raised_in (sent_by (slice_get steps p) []) in
      let rest = raised_in (sent_at steps ps) in
      let ram : one.ram + (rest.ram + last.ram) ≡ (one.ram + rest.ram) + last.ram = omega arith in
      let caps : one.caps + (rest.caps + last.caps) ≡ (one.caps + rest.caps) + last.caps = omega arith in
      line_more (slice_get steps p) (sent_at steps (ps ++ place ∷ []))
      ∙ ap (more_of one) (place_more ps)
      ∙ (λ i. both (ram i) (caps i))
      ∙ ap (λ x. more_of x last) (sym (line_more (slice_get steps p) (sent_at steps ps)))

  -- ---- one session

  -- a line that donates nothing
  longer : (one : Reached) → last ≡ no_amounts → IsRaised steps one → IsRaised steps (record one { places = one.places ++ place ∷ [] })
  longer one none is =
      let now = raised_in (sent_at steps one.places) in
      let more = place_more one.places in
      let ram : now.ram ≡ (raised_in (sent_at steps (one.places ++ place ∷ []))).ram = omega (arith, ap (λ (a : Amounts). a.ram) more, ap (λ (a : Amounts). a.ram) none) in
      let caps : now.caps ≡ (raised_in (sent_at steps (one.places ++ place ∷ []))).caps = omega (arith, ap (λ (a : Amounts). a.caps) more, ap (λ (a : Amounts). a.caps) none) in
      record { ram = is.ram ∙ ap of_word ram; caps = is.caps ∙ ap of_word caps }

  word_more : (a b n m : ℕ) → a ≡ of_word n → m ≡ n + b → of_word (a + b) ≡ of_word m
  word_more a b n m is sum = omega (arith, is, sum)

  -- one that upgrades it
  raised_longer : (one : Reached) (more : Arguments) → last ≡ both more.ram more.caps → IsRaised steps one →
      IsRaised steps (record (raised_with more one) { places = one.places ++ place ∷ [] })
  raised_longer one more donates is =
      let now = raised_in (sent_at steps one.places) in
      let then_it = raised_in (sent_at steps (one.places ++ place ∷ [])) in
      let sum = place_more one.places in
      let ram : then_it.ram ≡ now.ram + more.ram = omega (arith, ap (λ (a : Amounts). a.ram) sum, ap (λ (a : Amounts). a.ram) donates) in
      let caps : then_it.caps ≡ now.caps + more.caps = omega (arith, ap (λ (a : Amounts). a.caps) sum, ap (λ (a : Amounts). a.caps) donates) in
      record { ram = word_more one.raised.ram more.ram now.ram then_it.ram is.ram ram; caps = word_more one.raised.caps more.caps now.caps then_it.caps is.caps caps }

-- ---- all sessions

module _ {X : Type 0} (P : X → Type 0) where
  pub all_changed : (f : X → X) → ((x : X) → P x → P (f x)) → (xs : List X) (place : ℕ) → AllByRecursion P xs → AllByRecursion P (changed_at f xs place)
  all_changed f keeps [] place all = tt
  all_changed f keeps (x ∷ xs) zero all = (keeps x all.0, all.1)
  all_changed f keeps (x ∷ xs) (suc place) all = (all.0, all_changed f keeps xs place all.1)

  all_changed_twice : (f g : X → X) → ((x : X) → P x → P (g (f x))) → (xs : List X) (place : ℕ) → AllByRecursion P xs →
      AllByRecursion P (changed_at g (changed_at f xs place) place)
  all_changed_twice f g keeps [] place all = tt
  all_changed_twice f g keeps (x ∷ xs) zero all = (keeps x all.0, all.1)
  all_changed_twice f g keeps (x ∷ xs) (suc place) all = (all.0, all_changed_twice f g keeps xs place all.1)

  pub all_longer : (x : X) → P x → (xs : List X) → AllByRecursion P xs → AllByRecursion P (xs ++ x ∷ [])
  all_longer x is [] all = (is, tt)
  all_longer x is (y ∷ ys) all = (all.0, all_longer x is ys all.1)

  -- that at a place
  pub all_at : (xs : List X) (place : ℕ) (x : X) → slice_get xs place ≡ Some x → AllByRecursion P xs → P x
  all_at [] place x is all = absurd (cc)
  all_at (y ∷ ys) zero x is all = subst P (same_Some y x is) all.0
  all_at (y ∷ ys) (suc place) x is all = all_at ys place x is all.1

module _ (steps : List ComponentLine) (place : ℕ) where
  abbrev Good : Sessions → Type 0
  Good sessions = AllByRecursion (IsRaised steps) sessions.opened

  reached_good : (owner : Option ℕ) (opened : List Reached) → last steps place ≡ no_amounts → AllByRecursion (IsRaised steps) opened → AllByRecursion (IsRaised steps) (reached_by owner place opened)
  reached_good None opened none all = all
  reached_good (Some session) opened none all =
      all_changed (IsRaised steps) (λ one. record one { places = one.places ++ place ∷ [] }) (λ one. longer steps place one none) opened session all

  upgraded_good : (owner : Option ℕ) (o : Option Arguments) (opened : List Reached) → last steps place ≡ raised_in (raises o []) → AllByRecursion (IsRaised steps) opened →
      AllByRecursion (IsRaised steps) (reached_by owner place (raised_by owner o opened))
  upgraded_good None o opened donates all = all
  upgraded_good (Some session) None opened donates all = reached_good (Some session) opened donates all
  upgraded_good (Some session) (Some more) opened donates all =
      let ram : more.ram + 0 ≡ more.ram = omega arith in
      let caps : more.caps + 0 ≡ more.caps = omega arith in
      all_changed_twice (IsRaised steps) (raised_with more) (λ one. record one { places = one.places ++ place ∷ [] })
      (λ one. raised_longer steps place one more (donates ∙ (λ i. both (ram i) (caps i)))) opened session all

  opened_good : (given : Option Arguments) (selector : Option ℕ) (sessions : Sessions) → Good sessions → Good (opens place given selector sessions)
  opened_good None selector sessions all = all
  opened_good (Some named) None sessions all = all
  opened_good (Some named) (Some selector) sessions all =
      all_longer (IsRaised steps) (first_reached place selector named) (record { ram = refl; caps = refl }) sessions.opened all

  done_good : (done : Bool) (selector : ℕ) (text : List ℕ) (sessions : Sessions) → last steps place ≡ raised_in (raises (arguments_of text) []) → Good sessions →
      Good (cond done (reaches selector place (upgrades selector (arguments_of text) sessions)) sessions)
  done_good true selector text sessions donates all = upgraded_good (named_in sessions selector) (arguments_of text) sessions.opened donates all
  done_good false selector text sessions donates all = all

  closed_good : (done : Bool) (selector : ℕ) (sessions : Sessions) → Good sessions → Good (cond done (names selector None sessions) sessions)
  closed_good true selector sessions all = all
  closed_good false selector sessions all = all

  -- a call that is made
  after_good : (came : Came) (call : Call) (sessions : Sessions) → last steps place ≡ raised_in (sends false (Some call) []) → Good sessions → Good (after_call came place call sessions)
  after_good came (Open service text) sessions donates all = opened_good (arguments_of text) came.selector sessions all
  after_good came (CallSession selector request) sessions donates all = reached_good (named_in sessions selector) sessions.opened donates all
  after_good came (Upgrade selector text) sessions donates all = done_good came.done selector text sessions donates all
  after_good came (Close selector) sessions donates all = closed_good came.done selector sessions all
  after_good came call sessions donates all = all

  -- and one that is left out
  left_out_good : (call : Call) (sessions : Sessions) → last steps place ≡ raised_in (sends true (Some call) []) → Good sessions → Good (after_left_out place call sessions)
  left_out_good (CallSession selector request) sessions donates all = reached_good (named_in sessions selector) sessions.opened donates all
  left_out_good call sessions donates all = all

  followed_good : (left_out : Bool) (call : Call) (old next : Followed) → last steps place ≡ raised_in (sends left_out (Some call) []) → IsFollowed left_out place call old next →
      Good old.sessions → Good next.sessions
  followed_good true call old next donates is all = subst (λ (f : Followed). Good f.sessions) (sym is) (left_out_good call old.sessions donates all)
  followed_good false call old next donates is all = subst Good (sym is.1.1.1) (after_good is.1.0 call old.sessions donates all)

-- ---- line by line

module _ (all : List ComponentLine) where
  abbrev AllRaised : Sessions → Type 0
  AllRaised sessions = AllByRecursion (IsRaised all) sessions.opened

  line_raised : (left_out : Bool) (o : Option Call) (place : ℕ) (rest : Followed → Type 0) (old : Followed) (end : Sessions) →
      last all place ≡ raised_in (sends left_out o []) → ((next : Followed) → AllRaised next.sessions → rest next → AllRaised end) → AllRaised old.sessions →
      ReachBy left_out o place rest old end → AllRaised end
  line_raised left_out None place rest old end donates goes good reach = goes old good reach
  line_raised left_out (Some call) place rest old end donates goes good (inl ends) = subst AllRaised (sym ends.1) good
  line_raised left_out (Some call) place rest old end donates goes good (inr on) =
      goes on.1.0 (followed_good all place left_out call old on.1.0 donates on.1.1.0 good) on.1.1.1

  pub lines_raised : (steps : List ComponentLine) (place : ℕ) (old : Followed) (end : Sessions) → ((i : ℕ) → slice_get steps i ≡ slice_get all (place + i)) →
      AllRaised old.sessions → Reach steps place old end → AllRaised end
  lines_raised [] place old end same good reach = subst AllRaised (sym reach) good
  lines_raised (step ∷ steps) place old end same good reach =
      let here : slice_get all place ≡ Some step = ap (slice_get all) (omega arith) ∙ sym (same 0) in
      line_raised step.is_left_out (call_said step.line.items) place (λ next. Reach steps (place + 1) next end) old end
      (ap (λ o. raised_in (sent_by o [])) here)
      (λ next. lines_raised steps (place + 1) next end (λ i. same (suc i) ∙ ap (slice_get all) (omega arith)))
      good reach

-- what each session of a component has
pub all_raised : (steps : List ComponentLine) (old : Followed) (end : Sessions) → old.sessions.opened ≡ [] → Reach steps 0 old end → AllByRecursion (IsRaised steps) end.opened
all_raised steps old end none reach =
    lines_raised steps steps 0 old end (λ i. ap (slice_get steps) (omega arith)) (subst (AllByRecursion (IsRaised steps)) (sym none) tt) reach
