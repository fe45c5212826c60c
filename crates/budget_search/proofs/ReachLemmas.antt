-- The sessions of a component, line by line.
use Rattle.std.proofs.Common.{arith, ◌≡◌, ℕ, zero, suc, ◌<◌, ◌≤◌, Bool, false, true, List, [], ◌∷◌, ◌++◌, inl, inr, length, map, get_or, set, refl, sym, ap, ◌∙◌, subst}
use Rattle.std.proofs.lemmas.List.{length-map, map-append}
use Rattle.std.specs.Prelude.{replicate, Option, Some, None}
use Rattle.own_model.specs.Amounts.{Amounts}
use Rattle.own_model.specs.Call.{Call}
use Rattle.own_model.specs.SessionArgs.{Arguments}
use Rattle.list_parser.specs.Budgets.{changed_at}
use Rattle.budget_search.proofs.ChangeLemmas.{set_changed, changed_past}
use Rattle.budget_search.specs.ReachedSessions.{ends_lines, first_reached, named_in, names, opens, raised_by, raised_with, reached_by, reached_of, reaches, unopened, upgrades, Followed, IsFollowed, ReachBy, Reached, Sessions}
use Rattle.budget_search.specs.declared.opened_sessions.OpenedSession.{OpenedSession}

-- ---- one session

abbrev reached_in : List OpenedSession → List Reached
reached_in openeds = map reached_of openeds

abbrev seen : List Reached → List (Option ℕ) → Sessions
seen opened owners = record { opened = opened; owners = owners }

abbrev pub one_of : ℕ → ℕ → Amounts → Amounts → List ℕ → Reached
one_of opening selector donation raised places =
    record { opening = opening; selector = selector; donation = donation; raised = raised; places = places }

abbrev more : ℕ → Reached → Reached
more place one = record one { places = one.places ++ place ∷ [] }

-- before the first line
pub none_opened : (openeds : List OpenedSession) (owners : List (Option ℕ)) → openeds ≡ [] → owners ≡ replicate 4097 None → seen (reached_in openeds) owners ≡ unopened
none_opened openeds owners none all = ap (λ o. seen (reached_in o) owners) none ∙ ap (seen []) all

module _ (openeds : List OpenedSession) (owners : List (Option ℕ)) where
  -- a line reaches the session that the selector names
  pub reaches_at : (selector place owner : ℕ) (old new : OpenedSession) → Some owner ≡ named_in (seen (reached_in openeds) owners) selector → owner < length openeds →
      old ≡ get_or openeds owner old → reached_of new ≡ more place (reached_of old) →
      seen (reached_in (set openeds owner new)) owners ≡ reaches selector place (seen (reached_in openeds) owners)
  reaches_at selector place owner old new named there is longer =
      ap (λ opened. seen opened owners)
      (set_changed reached_of (more place) openeds owner old new there (longer ∙ ap (λ (opened : OpenedSession). more place (reached_of opened)) is))
      ∙ ap (λ o. seen (reached_by o place (reached_in openeds)) owners) named

  -- or none, if there is no such session
  pub reaches_past : (selector place owner : ℕ) → Some owner ≡ named_in (seen (reached_in openeds) owners) selector → length openeds ≤ owner →
      seen (reached_in openeds) owners ≡ reaches selector place (seen (reached_in openeds) owners)
  reaches_past selector place owner named past =
      let count = length-map openeds reached_of in
      ap (λ opened. seen opened owners) (sym (changed_past (more place) (reached_in openeds) owner (omega (arith, past, count))))
      ∙ ap (λ o. seen (reached_by o place (reached_in openeds)) owners) named

  -- an upgrade of the session that the selector names
  pub upgrades_at : (selector owner : ℕ) (old new : OpenedSession) (o : Option Arguments) (more_of : Arguments) →
      Some owner ≡ named_in (seen (reached_in openeds) owners) selector → owner < length openeds →
      old ≡ get_or openeds owner old → o ≡ Some more_of → reached_of new ≡ raised_with more_of (reached_of old) →
      seen (reached_in (set openeds owner new)) owners ≡ upgrades selector o (seen (reached_in openeds) owners)
  upgrades_at selector owner old new o more_of named there is given raised =
      ap (λ opened. seen opened owners)
      (set_changed reached_of (raised_with more_of) openeds owner old new there (raised ∙ ap (λ (opened : OpenedSession). raised_with more_of (reached_of opened)) is))
      ∙ ap (λ a. seen (raised_by (Some owner) a (reached_in openeds)) owners) (sym given)
      ∙ ap (λ n. seen (raised_by n o (reached_in openeds)) owners) named

  -- of none, since there is no such session
  pub upgrades_past : (selector owner : ℕ) (o : Option Arguments) → Some owner ≡ named_in (seen (reached_in openeds) owners) selector → length openeds ≤ owner →
      seen (reached_in openeds) owners ≡ upgrades selector o (seen (reached_in openeds) owners)
  upgrades_past selector owner o named past =
      past_by o ∙ ap (λ n. seen (raised_by n o (reached_in openeds)) owners) named
    where
      past_by : (a : Option Arguments) → seen (reached_in openeds) owners ≡ seen (raised_by (Some owner) a (reached_in openeds)) owners
      past_by None = refl
      past_by (Some given) =
          let count = length-map openeds reached_of in
          ap (λ opened. seen opened owners) (sym (changed_past (raised_with given) (reached_in openeds) owner (omega (arith, past, count))))

-- a selector names another session
written : (owner : Option ℕ) (owners : List (Option ℕ)) (selector : ℕ) → selector < length owners → set owners selector owner ≡ changed_at (λ other. owner) owners selector
written owner [] selector there = absurd (omega (arith, there))
written owner (x ∷ xs) zero there = refl
written owner (x ∷ xs) (suc selector) there = ap (λ ys. x ∷ ys) (written owner xs selector (omega (arith, there)))

module _ (places : List Reached) (owners : List (Option ℕ)) (selector : ℕ) (owner : Option ℕ) where
  pub names_at : selector < length owners → seen places (set owners selector owner) ≡ names selector owner (seen places owners)
  names_at there = ap (seen places) (written owner owners selector there)

  pub names_past : length owners ≤ selector → seen places owners ≡ names selector owner (seen places owners)
  names_past past = ap (seen places) (sym (changed_past (λ other. owner) owners selector past))

-- ---- one session more

module _ (old : Sessions) (openeds items : List OpenedSession) (owners : List (Option ℕ)) (one : OpenedSession) (place selector count : ℕ) where
  pub opens_one : (o : Option Arguments) (n : Option ℕ) (named : Arguments) → o ≡ Some named → n ≡ Some selector → seen (reached_in openeds) owners ≡ names selector (Some count) old →
      count ≡ length old.opened → reached_of one ≡ first_reached place selector named → items ≡ openeds ++ one ∷ [] → seen (reached_in items) owners ≡ opens place o n old
  opens_one o n named is_o is_n is counted none longer =
      ap (λ opened. seen opened owners) opened ∙ ap (seen (old.opened ++ first_reached place selector named ∷ [])) owned
      ∙ sym (ap (λ a. opens place a n old) is_o ∙ ap (λ m. opens place (Some named) m old) is_n)
    where
      opened : reached_in items ≡ old.opened ++ first_reached place selector named ∷ []
      opened =
          ap reached_in longer ∙ map-append reached_of openeds (one ∷ [])
          ∙ ap (λ new. reached_in openeds ++ new ∷ []) none ∙ ap (λ (s : Sessions). s.opened ++ first_reached place selector named ∷ []) is

      owned : owners ≡ changed_at (λ other. Some (length old.opened)) old.owners selector
      owned = ap (λ (s : Sessions). s.owners) is ∙ ap (λ c. changed_at (λ other. Some c) old.owners selector) counted

-- ---- lines

module _ (left_out : Bool) (place : ℕ) (rest : Followed → Type 0) (old : Followed) (end : Sessions) where
  module _ (said : Option Call) (call : Call) (next : Followed) (is : said ≡ Some call) (goes : ends_lines left_out call ≡ false) (reach : rest next) where
    -- a line that is left out, and one whose call is made
    pub steps_by : (b : Bool) → left_out ≡ b → IsFollowed b place call old next → ReachBy left_out said place rest old end
    steps_by b left step =
        subst (λ o. ReachBy left_out o place rest old end) (sym is) (inr (goes, (next, (subst (λ l. IsFollowed l place call old next) (sym left) step, reach))))

  -- an exit
  pub ends_by : (said : Option Call) (call : Call) → said ≡ Some call → ends_lines left_out call ≡ true → end ≡ old.sessions → ReachBy left_out said place rest old end
  ends_by said call is ends same = subst (λ o. ReachBy left_out o place rest old end) (sym is) (inl (ends, same))
