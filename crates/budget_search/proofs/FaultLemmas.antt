-- Why there are no budgets.
use Rattle.std.proofs.lemmas.Bool.Decides.{nat_tests}
use Rattle.std.proofs.lemmas.Option.{none-some, slice_get-map, slice_get_read}
use Rattle.std.proofs.Common.{arith, ◌≡◌, ℕ, zero, suc, ◌+◌, ◌-◌, ◌<◌, ◌≤◌, ◌^◌, [], ◌∷◌, Bool, false, true, true≢false, inl, inr, List, get_or, length, map, refl, sym, ap, ◌∙◌, subst, IfErr, Result, Ok, Err}
use Rattle.std.specs.Prelude.{◌⊎◌, Some, None, IsErrAnd}
use Rattle.std.specs.List.{slice_get, AllByRecursion}
use Rattle.std.specs.Option.{option_map, unwrap_or}
use Rattle.own_model.specs.Account.{Fits, opened}
use Rattle.own_model.specs.Amounts.{Amounts, more_of, no_amounts}
use Rattle.own_model.specs.Listed.{Binary, Listed, ListedEntry, reserve_by, reserve_of}
use Rattle.own_model.specs.Listed.Binary.{Script as AScript, Server as AServer, Init as AnInit}
use Rattle.own_model.specs.StartList.Kind.{Script}
use Rattle.own_model.specs.World.{World}
use Rattle.list_parser.specs.Depth.{runs_script}
use Rattle.list_parser.specs.Quota.{quota_fault}
use Rattle.list_parser.specs.declared.fault.BootFault.{BootFault}
use Rattle.list_parser.specs.declared.fault.BootFault.TheVariants.{BadConfig}
use Rattle.list_parser.specs.declared.fault.ConfigField.TheVariants.{Start}
use Rattle.budget_meter.specs.Needs.{amounts_of}
use Rattle.budget_search.specs.Alike.{given_in, most_in, own_entry, reserve_in, IsFunded}
use Rattle.budget_search.specs.BudgetIntervals.{FailsWithin, IsRowWithin}
use Rattle.budget_search.specs.declared.budget_intervals.BudgetInterval.{BudgetInterval}
use Rattle.budget_search.specs.NoBudgets.{has_room, HasNoRoom, IsUnbooted, LacksBudgets}
use Rattle.budget_search.specs.OpenedSessions.{CanDonate, raised_in, sent_at, whole_at}
use Rattle.budget_search.specs.ReachedSessions.{followed_from, reached_of, IsOfLines, IsRaised, Reach, Reached, Sessions}
use Rattle.budget_search.specs.SessionAccounts.{most_for}
use Rattle.budget_search.specs.declared.component_line.ComponentLine.{ComponentLine}
use Rattle.budget_search.specs.declared.opened_sessions.OpenedSession.{OpenedSession}
use Rattle.budget_search.proofs.AlikeLemmas.{is_script}
use Rattle.budget_search.proofs.RaisedLemmas.{all_at}

-- an error that is passed on is the callee's
pub passed_on : {X : Type 0} (P : BootFault → Type 0) (its : BootFault) (r : Result X BootFault) → IsErrAnd r (λ fault. fault ≡ its) → P its → IfErr r P
passed_on P its (Ok x) is so = tt
passed_on P its (Err fault) is so = subst P (sym is) so

module _ (list : Listed) (component : ℕ) where
  abbrev kept : Amounts
  kept = reserve_in list component

  -- a machine that doesn't boot with a budget doesn't have room for it
  pub unbooted : (budget : Amounts) (machine : Listed) (fault : BootFault) → IsFunded machine list component budget →
      (has_room list component budget ≡ true → quota_fault machine ≡ None) → quota_fault machine ≡ Some fault → IsUnbooted list component budget fault
  unbooted budget machine fault funded boots is = record {
    lacks = by (has_room list component budget) boots;
    machine = machine;
    funded = funded;
    fault_is = is;
  }
    where
      by : (room : Bool) → (room ≡ true → quota_fault machine ≡ None) → room ≡ false
      by true covers = absurd (none-some fault (sym (covers refl) ∙ is))
      by false covers = refl

  -- without room for one more than the reserve nothing fits
  pub too_much : (budget other : Amounts) → (budget.ram ≤ 16777216 - kept.ram) → (budget.caps ≤ 4096 - kept.caps) → has_room list component budget ≡ false →
      has_room list component other ≡ false
  too_much budget other ram caps lacks = by (has_room list component other) refl
    where
      by : (room : Bool) → has_room list component other ≡ room → has_room list component other ≡ false
      by true is =
          let other_ram : other.ram + kept.ram ≤ 16777216 = grind (arith, nat_tests, is) in
          let other_caps : other.caps + kept.caps ≤ 4096 = grind (arith, nat_tests, is) in
          let fits_ram : budget.ram + kept.ram ≤ 16777216 = omega (arith, ram, other_ram) in
          let fits_caps : budget.caps + kept.caps ≤ 4096 = omega (arith, caps, other_caps) in
          let room : has_room list component budget ≡ true = grind (arith, nat_tests, fits_ram, fits_caps) in
          absurd (true≢false (sym room ∙ lacks))
      by false is = is

  -- a run from no more than the most that isn't booted: the list gives a script too much
  pub large_within : (fault : BootFault) → (own_entry list component).kind ≡ Script →
      FailsWithin (λ ram its. IsUnbooted list component (record { ram = ram; caps = (most_in list component).caps }) its) (most_in list component).ram fault →
      LacksBudgets list fault
  large_within fault script fails =
      let within = fails.within in
      LacksBudgets.too_large component script
      (too_much (record { ram = fails.ram; caps = (most_in list component).caps }) (given_in list component) within (omega arith) fails.its.lacks)
      (record { ram = fails.ram; caps = (most_in list component).caps }) fails.its

  -- so of no more than the most of any component: what isn't a script has no reserve
  pub large_here : (entry : ListedEntry) → slice_get list.entries component ≡ Some entry → (budget : Amounts) (fault : BootFault) → budget.ram ≤ (most_in list component).ram →
      budget.caps ≤ (most_in list component).caps → IsUnbooted list component budget fault → LacksBudgets list fault
  large_here entry there budget fault ram caps fails = by entry.binary refl
    where
      alone : reserve_of entry ≡ no_amounts → LacksBudgets list fault
      alone none =
          let kept_none = ap (λ o. unwrap_or (option_map reserve_of o) no_amounts) there ∙ none in
          let kept_ram = ap (λ (a : Amounts). a.ram) kept_none in
          let kept_caps = ap (λ (a : Amounts). a.caps) kept_none in
          let fits_ram : budget.ram + kept.ram ≤ 16777216 = omega (arith, ram, kept_ram) in
          let fits_caps : budget.caps + kept.caps ≤ 4096 = omega (arith, caps, kept_caps) in
          let room : has_room list component budget ≡ true = grind (arith, nat_tests, fits_ram, fits_caps) in
          absurd (true≢false (sym room ∙ fails.lacks))

      by : (binary : Binary) → entry.binary ≡ binary → LacksBudgets list fault
      by AScript is =
          LacksBudgets.too_large component (is_script list component entry there (ap runs_script is)) (too_much budget (given_in list component) ram caps fails.lacks) budget fails
      by (AServer service offer) is = alone (ap (λ b. reserve_by b entry.reserve) is)
      by AnInit is = alone (ap (λ b. reserve_by b entry.reserve) is)

  -- the machine with the most doesn't boot
  pub ample_large : (machine : Listed) (fault : BootFault) → (own_entry list component).kind ≡ Script → IsFunded machine list component (most_in list component) →
      (has_room list component (most_in list component) ≡ true → quota_fault machine ≡ None) → quota_fault machine ≡ Some fault → LacksBudgets list fault
  ample_large machine fault script funded boots is =
      large_within fault script
      (record { ram = (most_in list component).ram; within = omega arith; its = unbooted (most_in list component) machine fault funded boots is })

  -- or a session on it isn't measured
  pub ample_lacks : (machine : Listed) (steps : List ComponentLine) (sessions : Sessions) (fault : BootFault) → (own_entry list component).kind ≡ Script →
      IsFunded machine list component (most_in list component) → (has_room list component (most_in list component) ≡ true → quota_fault machine ≡ None) →
      Reach steps 0 (followed_from machine component) sessions → (quota_fault machine ≡ Some fault) ⊎ HasNoRoom list component sessions.opened fault → LacksBudgets list fault
  ample_lacks machine steps sessions fault script funded boots reach (inl is) = ample_large machine fault script funded boots is
  ample_lacks machine steps sessions fault script funded boots reach (inr no_room) =
      LacksBudgets.no_room component script (record { machine = machine; funded = funded; steps = steps; sessions = sessions; reach = reach; no_room = no_room })

  -- the given budget doesn't boot
  pub given_large : (budget : Amounts) (fault : BootFault) → (own_entry list component).kind ≡ Script → budget ≡ given_in list component → IsUnbooted list component budget fault →
      LacksBudgets list fault
  given_large budget fault script given fails =
      LacksBudgets.too_large component script (subst (λ b. has_room list component b ≡ false) given fails.lacks) budget fails

module _ (list : Listed) (component : ℕ) (steps : List ComponentLine) (sessions : List OpenedSession) (place : ℕ) (session : OpenedSession) (within : place < length sessions)
    (is : session ≡ get_or sessions place session) where
  seen : slice_get (map reached_of sessions) place ≡ Some (reached_of session)
  seen = slice_get-map reached_of sessions place ∙ ap (option_map reached_of) (slice_get_read sessions (length sessions) place session refl within is)

  -- the session at a place
  pub no_room_at : (fault : BootFault) → fault ≡ BadConfig Start → AllByRecursion (IsOfLines (own_entry list component) steps) (map reached_of sessions) →
      (IsOfLines (own_entry list component) steps (reached_of session) → has_room list component (more_of (amounts_of session.donation) (amounts_of session.raised)) ≡ false) →
      HasNoRoom list component (map reached_of sessions) fault
  no_room_at fault bad of_lines lacks = record {
    place = place;
    session = reached_of session;
    there = seen;
    fault_is = bad;
    lacks = lacks (all_at (IsOfLines (own_entry list component) steps) (map reached_of sessions) place (reached_of session) seen of_lines);
  }

-- ---- what is donated for a session

module _ (list : Listed) (component : ℕ) (steps : List ComponentLine) (one : Reached) (world : World) (client : ℕ)
    (whole_is : whole_at world client ≡ opened (most_in list component).ram (most_in list component).caps) (raised : IsRaised steps one) where
  abbrev sent : Amounts
  sent = raised_in (sent_at steps one.places)

  abbrev all_of : Amounts
  all_of = more_of one.donation one.raised

  -- the client covers what the largest machine has
  can : (donation : Amounts) → donation.ram + one.raised.ram ≤ (most_in list component).ram → donation.caps + one.raised.caps ≤ (most_in list component).caps →
      CanDonate world client (more_of donation sent)
  can donation ram caps =
      subst (λ account. Fits account (donation.ram + sent.ram) (donation.caps + sent.caps)) (sym whole_is) (record {
        ram_fits = omega (arith, ram, raised.ram);
        caps_fit = omega (arith, caps, raised.caps);
      })

  -- it doesn't cover the donation of the opening
  pub lacks_donation : (one.donation.caps < 2 ^ 32 → CanDonate world client (more_of one.donation sent) → ⊥) → has_room list component all_of ≡ false
  lacks_donation lacks = by (has_room list component all_of) refl
    where
      by : (room : Bool) → has_room list component all_of ≡ room → has_room list component all_of ≡ false
      by true is =
          let ram : (one.donation.ram + one.raised.ram) + (reserve_in list component).ram ≤ 16777216 = grind (arith, nat_tests, is) in
          let caps : (one.donation.caps + one.raised.caps) + (reserve_in list component).caps ≤ 4096 = grind (arith, nat_tests, is) in
          absurd (lacks (omega (arith, caps)) (can one.donation (omega (arith, ram)) (omega (arith, caps))))
      by false is = is

  -- or the most that it can donate by the opening
  pub lacks_most : (CanDonate world client (more_of (most_for list component one) sent) → ⊥) → has_room list component all_of ≡ false
  lacks_most lacks = by (has_room list component all_of) refl
    where
      by : (room : Bool) → has_room list component all_of ≡ room → has_room list component all_of ≡ false
      by true is =
          let ram : (one.donation.ram + one.raised.ram) + (reserve_in list component).ram ≤ 16777216 = grind (arith, nat_tests, is) in
          let caps : (one.donation.caps + one.raised.caps) + (reserve_in list component).caps ≤ 4096 = grind (arith, nat_tests, is) in
          absurd (lacks (can (most_for list component one) (omega (arith, ram)) (omega (arith, caps))))
      by false is = is

-- ---- intervals below so much RAM

pub row_below : (rows : List BudgetInterval) (top i : ℕ) (d : BudgetInterval) → AllByRecursion (λ row. row.ram_from ≤ top) rows → i < length rows →
    (get_or rows i d).ram_from ≤ top
row_below [] top i d all within = absurd (omega (arith, within))
row_below (row ∷ rows) top zero d all within = all.0
row_below (row ∷ rows) top (suc i) d all within = row_below rows top i d all.1 (omega (arith, within))

pub rows_below : (caps top : ℕ) (rows : List BudgetInterval) → AllByRecursion (λ row. IsRowWithin caps top row) rows → AllByRecursion (λ row. row.ram_from ≤ top) rows
rows_below caps top [] all = tt
rows_below caps top (row ∷ rows) all = (all.0.ram, rows_below caps top rows all.1)
