-- The first entry that isn't covered, and lists in which each is.
use Rattle.std.proofs.Common.{◌≡◌, ℕ, zero, suc, ◌+◌, ◌<◌, List, [], ◌∷◌, length, map, take, Option, Some, None, IsSome, subst, refl, sym, ap, ◌∙◌, arith}
use Rattle.std.specs.List.{slice_get}
use Rattle.std.specs.Option.{option_map}
use Rattle.std.proofs.lemmas.Bool.Decides.{nat_tests}
use Rattle.std.proofs.lemmas.Option.{none-some, same_Some}
use Rattle.own_model.proofs.StartLemmas.{length-with_started}
use Rattle.trade_base.specs.declared.refusal.Refusal.{Refusal}
use Rattle.own_model.specs.Account.{Account, Fits, shortage}
use Rattle.own_model.specs.Listed.{Listed, ListedEntry, start_of, start_list_of}
use Rattle.own_model.specs.StartList.{AllCovered, StartEntry, StartList, budget, init_at, inits_at_first, inits_keep, with_started}
use Rattle.own_model.proofs.StepLemmas.{covers}
use Rattle.list_parser.specs.Quota.{first_or, first_uncovered}
use Rattle.list_parser.specs.ListTheorems.{FaultsAreOfLacks, FaultsNameTheFirst, IsFirstLack}
use Rattle.list_parser.specs.declared.fault.BootFault.TheVariants.{QuotaExceeded}
use Rattle.list_parser.proofs.ListedLemmas.{lists_are_listed}

-- an account that covers it lacks nothing
lacks_none : (a : Account) (ram caps : ℕ) → Fits a ram caps → shortage a ram caps ≡ None
lacks_none a ram caps fits = let ram_fits = fits.ram_fits in let caps_fit = fits.caps_fit in grind (arith, nat_tests, ram_fits, caps_fit)

-- each entry's init is there by then
abbrev HaveInits : ℕ → List StartEntry → Type 0
HaveInits count [] = Unit {0}
HaveInits count (start ∷ starts) = (start.entry.home < count) × HaveInits (count + 1) starts

-- no first one, or none behind
first_none : (short : Option Refusal) (start : StartEntry) (behind : Option StartEntry) → first_or short start behind ≡ None → (short ≡ None) × (behind ≡ None)
first_none None start behind none = (refl, none)
first_none (Some refusal) start behind none = absurd (none-some start (sym none))

all_covered : (inits : List Account) (starts : List StartEntry) → HaveInits (length inits) starts → first_uncovered inits starts ≡ None → AllCovered inits starts
all_covered inits [] have none = tt
all_covered inits (start ∷ starts) have none =
    let both = first_none (shortage (init_at inits start.entry.home) (budget start).ram (budget start).caps) start (first_uncovered (with_started inits start) starts) none in (
      record { there = have.0; covers = covers (init_at inits start.entry.home) (budget start).ram (budget start).caps both.0 },
      all_covered (with_started inits start) starts (subst (λ n. HaveInits n starts) (sym (length-with_started inits start)) have.1) both.1,
    )

none_first : (inits : List Account) (starts : List StartEntry) → AllCovered inits starts → first_uncovered inits starts ≡ None
none_first inits [] covered = refl
none_first inits (start ∷ starts) covered =
    ap (λ short. first_or short start (first_uncovered (with_started inits start) starts)) (lacks_none (init_at inits start.entry.home) (budget start).ram (budget start).caps covered.0.covers)
    ∙ none_first (with_started inits start) starts covered.1

-- so it is of entries that have homes
have_inits : (list : Listed) (entries : List ListedEntry) (count : ℕ) → ((place : ℕ) (entry : ListedEntry) → slice_get entries place ≡ Some entry → entry.home < count + place) →
    HaveInits count (map (start_of list) entries)
have_inits list [] count homes = tt
have_inits list (entry ∷ entries) count homes = (
  (let here = homes 0 entry refl in omega (arith, here)),
  have_inits list entries (count + 1) (λ place other there. let behind = homes (suc place) other there in omega (arith, behind)),
)

-- a fault is one that is there
unmapped : (o : Option StartEntry) → option_map (λ start. QuotaExceeded start.entry.name) o ≡ None → o ≡ None
unmapped None none = refl
unmapped (Some start) none = absurd (none-some (QuotaExceeded start.entry.name) (sym none))

pub faults_are_of_lacks : FaultsAreOfLacks
faults_are_of_lacks text list is =
    let starts = start_list_of list in
    let homes = (lists_are_listed text list is).entries.homes in (
      λ none. all_covered (inits_at_first starts) starts.starts
          (have_inits list list.entries 1 (λ place entry there. let home = homes place entry there in omega (arith, home.before)))
          (unmapped (first_uncovered (inits_at_first starts) starts.starts) none),
      λ boots. ap (option_map (λ (start : StartEntry). QuotaExceeded start.entry.name)) (none_first (inits_at_first starts) starts.starts boots),
    )

-- ---- the first one

-- it is found where it stands
record IsFound (inits : List Account) (starts : List StartEntry) (found : StartEntry) : Type 0 where
  place : ℕ
  there : slice_get starts place ≡ Some found
  before : (earlier : ℕ) (one : StartEntry) → earlier < place → slice_get starts earlier ≡ Some one →
      shortage (init_at (inits_keep inits (take earlier starts)) one.entry.home) (budget one).ram (budget one).caps ≡ None
  lacks : IsSome (shortage (init_at (inits_keep inits (take place starts)) found.entry.home) (budget found).ram (budget found).caps)

-- one before it is the first, or one behind that
sooner : (inits : List Account) (start : StartEntry) (starts : List StartEntry) (found : StartEntry) → shortage (init_at inits start.entry.home) (budget start).ram (budget start).caps ≡ None →
    (rest : IsFound (with_started inits start) starts found) (earlier : ℕ) (one : StartEntry) → earlier < suc rest.place → slice_get (start ∷ starts) earlier ≡ Some one →
    shortage (init_at (inits_keep inits (take earlier (start ∷ starts))) one.entry.home) (budget one).ram (budget one).caps ≡ None
sooner inits start starts found short rest zero one less at =
    subst (λ (s : StartEntry). shortage (init_at inits s.entry.home) (budget s).ram (budget s).caps ≡ None) (same_Some start one at) short
sooner inits start starts found short rest (suc earlier) one less at = rest.before earlier one (omega (arith, less)) at

found_first : (inits : List Account) (starts : List StartEntry) (found : StartEntry) → first_uncovered inits starts ≡ Some found → IsFound inits starts found
found_first inits [] found is = absurd (none-some found is)
found_first inits (start ∷ starts) found is = by_short (shortage (init_at inits start.entry.home) (budget start).ram (budget start).caps) refl is (found_first (with_started inits start) starts found) where
  by_short : (short : Option Refusal) → shortage (init_at inits start.entry.home) (budget start).ram (budget start).caps ≡ short →
      first_or short start (first_uncovered (with_started inits start) starts) ≡ Some found →
      (first_uncovered (with_started inits start) starts ≡ Some found → IsFound (with_started inits start) starts found) → IsFound inits (start ∷ starts) found
  by_short (Some refusal) short told more =
      let same : start ≡ found = same_Some start found told in
      record {
        place = 0;
        there = ap Some same;
        before = λ earlier one less. absurd (omega (arith, less));
        lacks = subst (λ (f : StartEntry). IsSome (shortage (init_at inits f.entry.home) (budget f).ram (budget f).caps)) same (rw short refl);
      }
  by_short None short told more =
      let rest = more told in
      record {
        place = suc rest.place;
        there = rest.there;
        before = sooner inits start starts found short rest;
        lacks = rest.lacks;
      }

pub faults_name_the_first : FaultsNameTheFirst
faults_name_the_first list fault is = by_found (first_uncovered (inits_at_first starts) starts.starts) refl is where
  starts : StartList
  starts = start_list_of list

  by_found : (o : Option StartEntry) → first_uncovered (inits_at_first (start_list_of list)) (start_list_of list).starts ≡ o → option_map (λ start. QuotaExceeded start.entry.name) o ≡ Some fault →
      (path : List ℕ) × (fault ≡ QuotaExceeded path) × IsFirstLack (start_list_of list) path
  by_found None found told = absurd (none-some fault told)
  by_found (Some start) found told =
      let its = found_first (inits_at_first (start_list_of list)) (start_list_of list).starts start found in (
        start.entry.name,
        sym (same_Some (QuotaExceeded start.entry.name) fault told),
        record { place = its.place; start = start; there = its.there; its = refl; before = its.before; lacks = its.lacks },
      )
