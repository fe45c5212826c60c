-- A machine boots on which one component and the inits above it alone have something.
use Rattle.std.proofs.lemmas.Bool.{false≢true}
use Rattle.std.proofs.lemmas.Bool.Decides.{nat_tests}
use Rattle.std.proofs.lemmas.List.{length-set, set-get_or}
use Rattle.std.proofs.lemmas.Option.{none-some, same_Some, slice_get-map}
use Rattle.std.proofs.Common.{arith, ◌≡◌, ◌≢◌, ℕ, zero, suc, ◌+◌, ◌*◌, ◌-◌, ◌<◌, ◌≤◌, false, true, List, [], ◌∷◌, ◌++◌, inl, inr, length, map, drop, get_or, set, refl, sym, ap, ◌∙◌, subst}
use Rattle.std.specs.Prelude.{◌⊎◌, ⊤, Option, Some, None, IfSome}
use Rattle.std.specs.List.{slice_get}
use Rattle.std.specs.Option.{option_map, unwrap_or}
use Rattle.own_model.specs.Account.{Account, parted_with, shortage}
use Rattle.own_model.specs.Amounts.{Amounts, no_amounts}
use Rattle.own_model.specs.Listed.{Binary, Listed, ListedEntry, kind_of, reserve_by, reserve_of, start_of, start_list_of}
use Rattle.own_model.specs.Listed.Binary.{Script, Server, Init}
use Rattle.own_model.specs.StartList.{Kind, StartEntry, budget, init_account, init_at, inits_at_first, no_account, of_init, with_started}
use Rattle.own_model.specs.StartList.Kind.{Init as AnInit}
use Rattle.list_parser.specs.Budgets.{bare, but_budgets, changed_at, entry_with_budget, entry_with_reserve, with_budget, with_reserve, with_size}
use Rattle.list_parser.specs.Depth.{IsParentInit, is_init, is_list, runs_init}
use Rattle.list_parser.proofs.BudgetLemmas.{changed_there}
use Rattle.list_parser.specs.Quota.{first_or, first_uncovered, quota_fault}
use Rattle.list_parser.specs.declared.fault.BootFault.TheVariants.{QuotaExceeded}
use Rattle.budget_search.proofs.AlikeLemmas.{is_funded}
use Rattle.budget_search.specs.Alike.{reserve_in, HasAlone}
use Rattle.budget_search.specs.NoBudgets.{has_room}

-- ---- accounts of inits

-- no part of an account is used
pub record IsUnused (a : Account) : Type 0 where
  pub ram : a.ram_used ≡ 0
  pub caps : a.caps_used ≡ 0

-- nothing of the account at any place of a list is used, nor of one more
one_more : (inits : List Account) (last : Account) → ((h : ℕ) → IsUnused (get_or inits h no_account)) → IsUnused last → (h : ℕ) → IsUnused (get_or (inits ++ last ∷ []) h no_account)
one_more [] last all is zero = is
one_more [] last all is (suc h) = record { ram = refl; caps = refl }
one_more (init ∷ inits) last all is zero = all zero
one_more (init ∷ inits) last all is (suc h) = one_more inits last (λ k. all (suc k)) is h

-- nor if one parts with something
one_set : (inits : List Account) (home : ℕ) (a : Account) → ((h : ℕ) → IsUnused (get_or inits h no_account)) → IsUnused a → (h : ℕ) → IsUnused (get_or (set inits home a) h no_account)
one_set [] home a all is h = all h
one_set (init ∷ inits) zero a all is zero = is
one_set (init ∷ inits) zero a all is (suc h) = all (suc h)
one_set (init ∷ inits) (suc home) a all is zero = all zero
one_set (init ∷ inits) (suc home) a all is (suc h) = one_set inits home a (λ k. all (suc k)) is h

-- the last account is the new one
last_is : (inits : List Account) (last : Account) → get_or (inits ++ last ∷ []) (length inits) no_account ≡ last
last_is [] last = refl
last_is (init ∷ inits) last = last_is inits last

-- those before it stay
before_is : (inits : List Account) (last : Account) (h : ℕ) → h < length inits → get_or (inits ++ last ∷ []) h no_account ≡ get_or inits h no_account
before_is [] last h within = absurd (omega (arith, within))
before_is (init ∷ inits) last zero within = refl
before_is (init ∷ inits) last (suc h) within = before_is inits last h (omega (arith, within))

longer : (inits : List Account) (last : Account) → length (inits ++ last ∷ []) ≡ suc (length inits)
longer [] last = refl
longer (init ∷ inits) last = ap suc (longer inits last)

unused_parted : (a : Account) (ram caps : ℕ) → IsUnused a → IsUnused (parted_with a ram caps)
unused_parted a ram caps is = record { ram = is.ram; caps = is.caps }

-- an account of which nothing is used covers what its limits do
covered_by : (a : Account) (ram caps : ℕ) → IsUnused a → ram ≤ a.ram_limit → caps ≤ a.caps_limit → shortage a ram caps ≡ None
covered_by a ram caps is ram_fits caps_fit =
    let ram_used = is.ram in
    let caps_used = is.caps in
    let enough : a.ram_used + ram ≤ a.ram_limit = omega (arith, ram_used, ram_fits) in
    let enough_caps : a.caps_used + caps ≤ a.caps_limit = omega (arith, caps_used, caps_fit) in
    grind (arith, nat_tests, enough, enough_caps)

parted_none : (a : Account) → parted_with a 0 0 ≡ a
parted_none a =
    let ram : a.ram_limit - 0 ≡ a.ram_limit = omega arith in
    let caps : a.caps_limit - 0 ≡ a.caps_limit = omega arith in
    λ i. record { ram_limit = ram i; ram_used = a.ram_used; caps_limit = caps i; caps_used = a.caps_used }

-- ---- entries

no_reserve_by : (binary : Binary) → reserve_by binary None ≡ no_amounts
no_reserve_by Script = refl
no_reserve_by (Server service offer) = refl
no_reserve_by Init = refl

init_kind : (binary : Binary) → runs_init binary ≡ true → kind_of binary ≡ AnInit
init_kind Script is = absurd (cc)
init_kind (Server service offer) is = absurd (cc)
init_kind Init is = refl

module _ (most : Amounts) where
  -- an init of this number's list that has the most, and no reserve
  pub record IsInitWith (home : ℕ) (entry : ListedEntry) : Type 0 where
    pub its : entry.home ≡ home
    pub init : is_init entry ≡ true
    pub ram : entry.ram ≡ most.ram
    pub caps : entry.caps ≡ most.caps
    pub none : entry.reserve ≡ None

  -- an entry of this number's list that has no more than the most
  pub record IsEntryWithin (home : ℕ) (entry : ListedEntry) : Type 0 where
    pub its : entry.home ≡ home
    pub ram : entry.ram + (reserve_of entry).ram ≤ most.ram
    pub caps : entry.caps + (reserve_of entry).caps ≤ most.caps

  -- entries from a place on: nothing but a component and the inits above it have something, of which the next one is of this
  -- number's list
  abbrev pub AreLaid : ℕ → Option ℕ → List ListedEntry → Type 0
  AreLaid place next [] = ⊤
  AreLaid place None (entry ∷ entries) = (entry ≡ bare entry) × AreLaid (suc place) None entries
  AreLaid place (Some home) (entry ∷ entries) =
      ((entry ≡ bare entry) × AreLaid (suc place) (Some home) entries)
      ⊎ ((IsInitWith home entry × AreLaid (suc place) (Some (suc place)) entries) ⊎ (IsEntryWithin home entry × AreLaid (suc place) None entries))

module _ (list : Listed) (most : Amounts) where
  -- an entry without a budget and a reserve starts with nothing
  bare_budget : (entry : ListedEntry) → entry ≡ bare entry → budget (start_of list entry) ≡ no_amounts
  bare_budget entry is = ap (λ e. budget (start_of list e)) is ∙ (λ i. record { ram = 0 + (no_reserve_by entry.binary i).ram; caps = 0 + (no_reserve_by entry.binary i).caps })

  init_budget : (home : ℕ) (entry : ListedEntry) → IsInitWith most home entry → budget (start_of list entry) ≡ most
  init_budget home entry is =
      let none : reserve_of entry ≡ no_amounts = ap (reserve_by entry.binary) is.none ∙ no_reserve_by entry.binary in
      (λ i. record { ram = is.ram i + (none i).ram; caps = is.caps i + (none i).caps }) ∙ plain
    where
      plain : record { ram = most.ram + 0; caps = most.caps + 0 } ≡ most
      plain =
          let ram : most.ram + 0 ≡ most.ram = omega arith in
          let caps : most.caps + 0 ≡ most.caps = omega arith in
          λ i. record { ram = ram i; caps = caps i }

  -- nothing is used of inits' accounts, and the one of the next list has the most
  record AreReady (inits : List Account) (place : ℕ) (next : Option ℕ) : Type 0 where
    count : length inits ≡ suc place
    unused : (h : ℕ) → IsUnused (get_or inits h no_account)
    next_ram : IfSome next (λ h. most.ram ≤ (get_or inits h no_account).ram_limit)
    next_caps : IfSome next (λ h. most.caps ≤ (get_or inits h no_account).caps_limit)

  -- ---- one entry

  module _ (inits : List Account) (entry : ListedEntry) where
    abbrev start : StartEntry
    start = start_of list entry

    abbrev parted : Account
    parted = parted_with (init_at inits start.entry.home) (budget start).ram (budget start).caps

    unused_then : ((h : ℕ) → IsUnused (get_or inits h no_account)) → (h : ℕ) → IsUnused (get_or (with_started inits start) h no_account)
    unused_then unused =
        one_more (set inits start.entry.home parted) (init_account start)
        (one_set inits start.entry.home parted unused (unused_parted (init_at inits start.entry.home) (budget start).ram (budget start).caps (unused start.entry.home)))
        (record { ram = refl; caps = refl })

    count_then : length (with_started inits start) ≡ suc (length inits)
    count_then = longer (set inits start.entry.home parted) (init_account start) ∙ ap suc (length-set inits start.entry.home parted)

    -- one that starts with nothing leaves the accounts
    bare_then : budget start ≡ no_amounts → with_started inits start ≡ inits ++ init_account start ∷ []
    bare_then none =
        ap (λ (b : Amounts). set inits start.entry.home (parted_with (init_at inits start.entry.home) b.ram b.caps) ++ init_account start ∷ []) none
        ∙ ap (λ (a : Account). set inits start.entry.home a ++ init_account start ∷ []) (parted_none (init_at inits start.entry.home))
        ∙ ap (λ xs. xs ++ init_account start ∷ []) (set-get_or inits start.entry.home no_account)

    -- the account of a new init
    init_then : get_or (with_started inits start) (length inits) no_account ≡ init_account start
    init_then =
        ap (λ n. get_or (with_started inits start) n no_account) (sym (length-set inits start.entry.home parted))
        ∙ last_is (set inits start.entry.home parted) (init_account start)

  -- ---- all entries

  -- what is so of the next list's init stays
  next_stays : (next : Option ℕ) (P Q R : ℕ → Type 0) → ((h : ℕ) → R h → P h → Q h) → IfSome next R → IfSome next P → IfSome next Q
  next_stays None P Q R more there is = tt
  next_stays (Some h) P Q R more there is = more h there is

  -- after an entry that starts with nothing
  one_bare : (entry : ListedEntry) (entries : List ListedEntry) (place : ℕ) (next : Option ℕ) (inits : List Account) → AreReady inits place next → entry ≡ bare entry →
      IfSome next (λ h. h < length inits) →
      ((then_it : List Account) → AreReady then_it (suc place) next → IfSome next (λ h. h < length then_it) → first_uncovered then_it (map (start_of list) entries) ≡ None) →
      first_uncovered inits (map (start_of list) (entry ∷ entries)) ≡ None
  one_bare entry entries place next inits ready is there rest =
      let starting = start_of list entry in
      let last : Account = init_account starting in
      let none = bare_budget entry is in
      let short : shortage (init_at inits entry.home) (budget starting).ram (budget starting).caps ≡ None =
      ap (λ (b : Amounts). shortage (init_at inits entry.home) b.ram b.caps) none
      ∙ covered_by (init_at inits entry.home) 0 0 (ready.unused entry.home) (omega arith) (omega arith) in
      ap (λ s. first_or s starting (first_uncovered (with_started inits starting) (map (start_of list) entries))) short
      ∙ ap (λ xs. first_uncovered xs (map (start_of list) entries)) (bare_then inits entry none)
      ∙ rest (inits ++ last ∷ [])
      (record {
        count = longer inits last ∙ ap suc ready.count;
        unused = one_more inits last ready.unused (record { ram = refl; caps = refl });
        next_ram = next_stays next (λ h. most.ram ≤ (get_or inits h no_account).ram_limit) (λ h. most.ram ≤ (get_or (inits ++ last ∷ []) h no_account).ram_limit) (λ h. h < length inits)
            (λ h within fits. subst (λ (a : Account). most.ram ≤ a.ram_limit) (sym (before_is inits last h within)) fits) there ready.next_ram;
        next_caps = next_stays next (λ h. most.caps ≤ (get_or inits h no_account).caps_limit) (λ h. most.caps ≤ (get_or (inits ++ last ∷ []) h no_account).caps_limit) (λ h. h < length inits)
            (λ h within fits. subst (λ (a : Account). most.caps ≤ a.caps_limit) (sym (before_is inits last h within)) fits) there ready.next_caps;
      })
      (next_stays next (λ h. h < length inits) (λ h. h < length (inits ++ last ∷ [])) (λ h. h < length inits) (λ h within same. omega (arith, within, longer inits last)) there there)

  -- after an init of the next list
  one_init : (home : ℕ) (entry : ListedEntry) (entries : List ListedEntry) (place : ℕ) (inits : List Account) → AreReady inits place (Some home) → IsInitWith most home entry →
      ((then_it : List Account) → AreReady then_it (suc place) (Some (suc place)) → suc place < length then_it → first_uncovered then_it (map (start_of list) entries) ≡ None) →
      first_uncovered inits (map (start_of list) (entry ∷ entries)) ≡ None
  one_init home entry entries place inits ready is rest =
      let starting = start_of list entry in
      let whole = init_budget home entry is in
      let short : shortage (init_at inits entry.home) (budget starting).ram (budget starting).caps ≡ None =
      (λ i. shortage (init_at inits (is.its i)) (whole i).ram (whole i).caps)
      ∙ covered_by (init_at inits home) most.ram most.caps (ready.unused home) ready.next_ram ready.next_caps in
      let new : get_or (with_started inits starting) (suc place) no_account ≡ init_account starting =
      subst (λ n. get_or (with_started inits starting) n no_account ≡ init_account starting) ready.count (init_then inits entry) in
      let ram : (init_account starting).ram_limit ≡ most.ram =
      ap (λ (k : Kind). (of_init k (budget starting)).ram) (init_kind entry.binary is.init) ∙ ap (λ (b : Amounts). b.ram) whole in
      let caps : (init_account starting).caps_limit ≡ most.caps =
      ap (λ (k : Kind). (of_init k (budget starting)).caps) (init_kind entry.binary is.init) ∙ ap (λ (b : Amounts). b.caps) whole in
      let new_ram = ap (λ (a : Account). a.ram_limit) new in
      let new_caps = ap (λ (a : Account). a.caps_limit) new in
      let count = count_then inits entry ∙ ap suc ready.count in
      ap (λ s. first_or s starting (first_uncovered (with_started inits starting) (map (start_of list) entries))) short
      ∙ rest (with_started inits starting)
      (record {
        count = count;
        unused = unused_then inits entry ready.unused;
        next_ram = omega (arith, ram, new_ram);
        next_caps = omega (arith, caps, new_caps);
      })
      (omega (arith, count))

  -- after the component
  one_own : (home : ℕ) (entry : ListedEntry) (entries : List ListedEntry) (place : ℕ) (inits : List Account) → AreReady inits place (Some home) → IsEntryWithin most home entry →
      ((then_it : List Account) → AreReady then_it (suc place) None → first_uncovered then_it (map (start_of list) entries) ≡ None) →
      first_uncovered inits (map (start_of list) (entry ∷ entries)) ≡ None
  one_own home entry entries place inits ready is rest =
      let starting = start_of list entry in
      let its_ram : most.ram ≤ (init_at inits entry.home).ram_limit = subst (λ h. most.ram ≤ (init_at inits h).ram_limit) (sym is.its) ready.next_ram in
      let its_caps : most.caps ≤ (init_at inits entry.home).caps_limit = subst (λ h. most.caps ≤ (init_at inits h).caps_limit) (sym is.its) ready.next_caps in
      let ram = is.ram in
      let caps = is.caps in
      ap (λ s. first_or s starting (first_uncovered (with_started inits starting) (map (start_of list) entries)))
      (covered_by (init_at inits entry.home) (entry.ram + (reserve_of entry).ram) (entry.caps + (reserve_of entry).caps) (ready.unused entry.home) (omega (arith, its_ram, ram))
      (omega (arith, its_caps, caps)))
      ∙ rest (with_started inits starting)
      (record { count = count_then inits entry ∙ ap suc ready.count; unused = unused_then inits entry ready.unused; next_ram = tt; next_caps = tt })

  covered : (entries : List ListedEntry) (place : ℕ) (next : Option ℕ) (inits : List Account) → AreReady inits place next → AreLaid most place next entries →
      IfSome next (λ h. h < length inits) → first_uncovered inits (map (start_of list) entries) ≡ None
  covered [] place next inits ready laid there = refl
  covered (entry ∷ entries) place None inits ready laid there =
      one_bare entry entries place None inits ready laid.0 tt (λ then_it is in_it. covered entries (suc place) None then_it is laid.1 in_it)
  covered (entry ∷ entries) place (Some home) inits ready (inl (is, laid)) there =
      one_bare entry entries place (Some home) inits ready is there (λ then_it made in_it. covered entries (suc place) (Some home) then_it made laid in_it)
  covered (entry ∷ entries) place (Some home) inits ready (inr (inl (is, laid))) there =
      one_init home entry entries place inits ready is (λ then_it made in_it. covered entries (suc place) (Some (suc place)) then_it made laid in_it)
  covered (entry ∷ entries) place (Some home) inits ready (inr (inr (is, laid))) there =
      one_own home entry entries place inits ready is (λ then_it made. covered entries (suc place) None then_it made laid tt)

  -- so the list boots
  pub laid_boots : most.ram ≤ list.pages * 4096 → most.caps ≤ list.caps → AreLaid most 0 (Some 0) list.entries → quota_fault list ≡ None
  laid_boots ram caps laid =
      ap (option_map (λ (start : StartEntry). QuotaExceeded start.entry.name))
      (covered list.entries 0 (Some 0) (inits_at_first (start_list_of list))
      (record { count = refl; unused = alone; next_ram = ram; next_caps = caps }) laid (omega arith))
    where
      alone : (h : ℕ) → IsUnused (get_or (inits_at_first (start_list_of list)) h no_account)
      alone zero = record { ram = refl; caps = refl }
      alone (suc h) = record { ram = refl; caps = refl }

-- ---- entries that are given something, from the component outwards

drop_none : {X : Type 0} (n : ℕ) → drop {A = X} n [] ≡ []
drop_none zero = refl
drop_none (suc n) = refl

drop_drop : {X : Type 0} (xs : List X) (m n : ℕ) → drop n (drop m xs) ≡ drop (m + n) xs
drop_drop xs zero n = let same : n ≡ 0 + n = omega arith in ap (λ k. drop k xs) same
drop_drop [] (suc m) n = drop_none n ∙ sym (drop_none (suc m + n))
drop_drop (x ∷ xs) (suc m) n = let same : suc (m + n) ≡ suc m + n = omega arith in drop_drop xs m n ∙ ap (λ k. drop k (x ∷ xs)) same

pub slice_get_drop : {X : Type 0} (xs : List X) (n i : ℕ) → slice_get (drop n xs) i ≡ slice_get xs (n + i)
slice_get_drop xs zero i = let same : i ≡ 0 + i = omega arith in ap (slice_get xs) same
slice_get_drop [] (suc n) i = refl
slice_get_drop (x ∷ xs) (suc n) i =
    let same : suc (n + i) ≡ suc n + i = omega arith in slice_get_drop xs n i ∙ ap (slice_get (x ∷ xs)) same

pub drop_at : {X : Type 0} (xs : List X) (n : ℕ) (x : X) → slice_get xs n ≡ Some x → drop n xs ≡ x ∷ drop (suc n) xs
drop_at [] n x is = absurd (none-some x is)
drop_at (y ∷ xs) zero x is = ap (λ z. z ∷ xs) (same_Some y x is)
drop_at (y ∷ xs) (suc n) x is = drop_at xs n x is

drop_changed : {X : Type 0} (change : X → X) (xs : List X) (place n : ℕ) → place < n → drop n (changed_at change xs place) ≡ drop n xs
drop_changed change [] place n before = refl
drop_changed change (x ∷ xs) place zero before = absurd (omega (arith, before))
drop_changed change (x ∷ xs) zero (suc n) before = refl
drop_changed change (x ∷ xs) (suc place) (suc n) before = drop_changed change xs place n (omega (arith, before))

pub changed_other : {X : Type 0} (change : X → X) (xs : List X) (place other : ℕ) → other ≢ place → slice_get (changed_at change xs place) other ≡ slice_get xs other
changed_other change [] place other not = refl
changed_other change (x ∷ xs) zero zero not = absurd (not refl)
changed_other change (x ∷ xs) zero (suc other) not = refl
changed_other change (x ∷ xs) (suc place) zero not = refl
changed_other change (x ∷ xs) (suc place) (suc other) not = changed_other change xs place other (λ same. not (ap suc same))

module _ (most : Amounts) where
  bare_next : (next : Option ℕ) (place : ℕ) (entry : ListedEntry) (entries : List ListedEntry) → entry ≡ bare entry → AreLaid most (suc place) next entries →
      AreLaid most place next (entry ∷ entries)
  bare_next None place entry entries is laid = (is, laid)
  bare_next (Some home) place entry entries is laid = inl (is, laid)

  -- entries without anything come before
  bares_before : (entries : List ListedEntry) (count place end : ℕ) (next : Option ℕ) → count + place ≡ end →
      ((i : ℕ) (entry : ListedEntry) → i < count → slice_get entries i ≡ Some entry → entry ≡ bare entry) → AreLaid most end next (drop count entries) →
      AreLaid most place next entries
  bares_before entries zero place end next at bares laid = let same : end ≡ place = omega (arith, at) in subst (λ n. AreLaid most n next entries) same laid
  bares_before [] (suc count) place end next at bares laid = tt
  bares_before (entry ∷ entries) (suc count) place end next at bares laid =
      bare_next next place entry entries (bares 0 entry (omega arith) refl)
      (bares_before entries count (suc place) end next (omega (arith, at)) (λ i other within is. bares (suc i) other (omega (arith, within)) is) laid)

  -- or there are no others
  only_bares : (entries : List ListedEntry) (place : ℕ) → ((i : ℕ) (entry : ListedEntry) → slice_get entries i ≡ Some entry → entry ≡ bare entry) → AreLaid most place None entries
  only_bares [] place bares = tt
  only_bares (entry ∷ entries) place bares = (bares 0 entry refl, only_bares entries (suc place) (λ i other is. bares (suc i) other is))

  -- from the entry at a place on entries are laid, with the next one in the list of a number, and none before has anything
  pub record AreLaidFrom (entries : List ListedEntry) (component home : ℕ) : Type 0 where
    pub place : ℕ
    pub within : place ≤ component
    pub before : home ≤ place
    pub its_list : is_list entries home ≡ true
    pub bares : (i : ℕ) (entry : ListedEntry) → i < place → slice_get entries i ≡ Some entry → entry ≡ bare entry
    pub laid : AreLaid most place (Some home) (drop place entries)

  -- the component alone
  pub own_laid : (entries : List ListedEntry) (component : ℕ) (entry : ListedEntry) (home : ℕ) → slice_get entries component ≡ Some entry → entry.home ≡ home → home ≤ component →
      is_list entries home ≡ true → ((place : ℕ) (other : ListedEntry) → place ≢ component → slice_get entries place ≡ Some other → other ≡ bare other) →
      entry.ram + (reserve_of entry).ram ≤ most.ram → entry.caps + (reserve_of entry).caps ≤ most.caps → AreLaidFrom entries component home
  own_laid entries component entry home is its before its_list others ram caps = record {
    place = component;
    within = omega arith;
    before = before;
    its_list = its_list;
    bares = λ i other earlier there. others i other (λ same. omega (arith, earlier, same)) there;
    laid =
        subst (λ es. AreLaid most component (Some home) es) (sym (drop_at entries component entry is))
        (inr (inr (
          record { its = its; ram = ram; caps = caps },
          only_bares (drop (suc component) entries) (suc component)
              (λ i other there. others (suc component + i) other (λ same. omega (arith, same)) (sym (slice_get_drop entries (suc component) i) ∙ there)),
        )));
  }

  found : (entries : List ListedEntry) (place : ℕ) → is_list entries (suc place) ≡ true → (entry : ListedEntry) × ((slice_get entries place ≡ Some entry) × (is_init entry ≡ true))
  found entries place is = by (slice_get entries place) is
    where
      by : (o : Option ListedEntry) → unwrap_or (option_map is_init o) false ≡ true → (entry : ListedEntry) × ((o ≡ Some entry) × (is_init entry ≡ true))
      by (Some entry) init = (entry, (refl, init))
      by None init = absurd (false≢true init)

  -- and the init of its list
  pub init_laid : (entries : List ListedEntry) (component home init next : ℕ) → home ≡ suc init → AreLaidFrom entries component home →
      option_map (λ (entry : ListedEntry). entry.home) (slice_get (changed_at (entry_with_budget most) entries init) init) ≡ Some next →
      IsParentInit (changed_at (entry_with_budget most) entries init) init next →
      AreLaidFrom (changed_at (entry_with_budget most) entries init) component next
  init_laid entries component home init next at from home_is parent =
      let before = from.before in
      let within = from.within in
      let earlier : init < from.place = omega (arith, at, before) in
      let old = found entries init (subst (λ h. is_list entries h ≡ true) at from.its_list) in
      let entry = old.0 in
      let bare_entry = from.bares init entry earlier old.1.0 in
      let there : slice_get (changed_at (entry_with_budget most) entries init) init ≡ Some (entry_with_budget most entry) =
      changed_there (entry_with_budget most) entries init ∙ ap (option_map (entry_with_budget most)) old.1.0 in
      let between : ℕ = from.place - suc init in
      let back : from.place ≡ suc init + between = omega (arith, earlier) in
      record {
        place = init;
        within = omega (arith, earlier, within);
        before = parent.before;
        its_list = parent.list;
        bares = λ i other sooner is.
            from.bares i other (omega (arith, sooner, earlier)) (sym (changed_other (entry_with_budget most) entries init i (λ same. omega (arith, same, sooner))) ∙ is);
        laid =
            subst (λ es. AreLaid most init (Some next) es)
            (sym (drop_at (changed_at (entry_with_budget most) entries init) init (entry_with_budget most entry) there
            ∙ ap (λ es. entry_with_budget most entry ∷ es) (drop_changed (entry_with_budget most) entries init (suc init) (omega arith))))
            (inr (inl (
              record {
                its = same_Some entry.home next (sym (ap (option_map (λ (e : ListedEntry). e.home)) there) ∙ home_is);
                init = old.1.1;
                ram = refl;
                caps = refl;
                none = ap (λ (e : ListedEntry). e.reserve) bare_entry;
              },
              bares_before (drop (suc init) entries) between (suc init) from.place (Some (suc init)) (omega (arith, earlier))
                  (λ i other sooner is. from.bares (suc init + i) other (omega (arith, sooner, earlier)) (sym (slice_get_drop entries (suc init) i) ∙ is))
                  (subst (λ es. AreLaid most from.place (Some (suc init)) es)
                  (ap (λ n. drop n entries) (back) ∙ sym (drop_drop entries (suc init) between))
                  (subst (λ h. AreLaid most from.place (Some h) (drop from.place entries)) at from.laid)),
            )));
      }

  -- up to the machine's list
  pub all_laid : (entries : List ListedEntry) (component home : ℕ) → home ≡ 0 → AreLaidFrom entries component home → AreLaid most 0 (Some 0) entries
  all_laid entries component home at from =
      bares_before entries from.place 0 from.place (Some 0) (omega arith) from.bares
      (subst (λ h. AreLaid most from.place (Some h) (drop from.place entries)) at from.laid)

-- the entry whose home is found
pub entry_of_home : (o : Option ListedEntry) (home : ℕ) → option_map (λ (entry : ListedEntry). entry.home) o ≡ Some home →
    (entry : ListedEntry) × ((o ≡ Some entry) × (entry.home ≡ home))
entry_of_home (Some entry) home is = (entry, (refl, same_Some entry.home home is))
entry_of_home None home is = absurd (none-some home is)

-- ---- entries from which all is taken

-- the first so many entries have nothing
abbrev pub bared : ℕ → List ListedEntry → List ListedEntry
bared zero entries = entries
bared (suc count) [] = []
bared (suc count) (entry ∷ entries) = bare entry ∷ bared count entries

-- one more
pub bared_next : (count : ℕ) (entries : List ListedEntry) →
    changed_at (entry_with_reserve None) (changed_at (entry_with_budget no_amounts) (bared count entries) count) count ≡ bared (suc count) entries
bared_next zero [] = refl
bared_next zero (entry ∷ entries) = refl
bared_next (suc count) [] = refl
bared_next (suc count) (entry ∷ entries) = ap (λ es. bare entry ∷ es) (bared_next count entries)

-- and all
pub bared_all : (count : ℕ) (entries : List ListedEntry) → length entries ≤ count → bared count entries ≡ map bare entries
bared_all zero [] all = refl
bared_all zero (entry ∷ entries) all = absurd (omega (arith, all))
bared_all (suc count) [] all = refl
bared_all (suc count) (entry ∷ entries) all = ap (λ es. bare entry ∷ es) (bared_all count entries (omega (arith, all)))

pub length_bared : (count : ℕ) (entries : List ListedEntry) → length (bared count entries) ≡ length entries
length_bared zero entries = refl
length_bared (suc count) [] = refl
length_bared (suc count) (entry ∷ entries) = ap suc (length_bared count entries)

-- the list without budgets and reserves, on the largest machine
abbrev pub taken : Listed → Listed
taken list = with_size (but_budgets list) 4096 4096

pub taken_alike : (list : Listed) → but_budgets (taken list) ≡ but_budgets list
taken_alike list = ap (λ es. record (but_budgets list) { entries = es }) (twice list.entries)
  where
    twice : (entries : List ListedEntry) → map bare (map bare entries) ≡ map bare entries
    twice [] = refl
    twice (entry ∷ entries) = ap (λ es. bare entry ∷ es) (twice entries)

module _ (list : Listed) (component : ℕ) (entry : ListedEntry) (there : slice_get list.entries component ≡ Some entry) (budget : Amounts) where
  reserve_there : reserve_in list component ≡ reserve_of entry
  reserve_there = ap (λ o. unwrap_or (option_map reserve_of o) no_amounts) there

  -- the largest machine has the budget and the reserve
  pub room_fits : has_room list component budget ≡ true → (budget.ram + (reserve_of entry).ram ≤ 16777216) × (budget.caps + (reserve_of entry).caps ≤ 4096)
  room_fits room =
      let ram = ap (λ (a : Amounts). a.ram) reserve_there in
      let caps = ap (λ (a : Amounts). a.caps) reserve_there in
      let fits_ram : budget.ram + (reserve_in list component).ram ≤ 16777216 = grind (arith, nat_tests, room) in
      let fits_caps : budget.caps + (reserve_in list component).caps ≤ 4096 = grind (arith, nat_tests, room) in
      (omega (arith, ram, fits_ram), omega (arith, caps, fits_caps))

  -- it alone has something
  pub funded_alone : (most : Amounts) → budget.ram + (reserve_of entry).ram ≤ most.ram → budget.caps + (reserve_of entry).caps ≤ most.caps → most.ram ≤ 16777216 →
      most.caps ≤ 4096 → HasAlone (with_reserve (with_budget (taken list) component budget) component entry.reserve) component most
  funded_alone most ram caps machine_ram machine_caps = record {
    others = λ place other not is.
        bare_back place other
        (sym (slice_get-map bare list.entries place)
        ∙ sym (changed_other (entry_with_budget budget) (taken list).entries component place not)
        ∙ sym (changed_other (entry_with_reserve entry.reserve) (with_budget (taken list) component budget).entries component place not) ∙ is);
    own_ram = λ own is. subst (λ (e : ListedEntry). e.ram + (reserve_of e).ram ≤ most.ram) (own_is own is) ram;
    own_caps = λ own is. subst (λ (e : ListedEntry). e.caps + (reserve_of e).caps ≤ most.caps) (own_is own is) caps;
    ram = omega (arith, machine_ram);
    caps = machine_caps;
  }
    where
      bare_of : (o : Option ListedEntry) (other : ListedEntry) → option_map bare o ≡ Some other → other ≡ bare other
      bare_of (Some e) other is = sym (same_Some (bare e) other is) ∙ ap bare (same_Some (bare e) other is)
      bare_of None other is = absurd (none-some other is)

      bare_back : (place : ℕ) (other : ListedEntry) → option_map bare (slice_get list.entries place) ≡ Some other → other ≡ bare other
      bare_back place other is = bare_of (slice_get list.entries place) other is

      own_is : (own : ListedEntry) → slice_get (with_reserve (with_budget (taken list) component budget) component entry.reserve).entries component ≡ Some own →
          entry_with_budget budget entry ≡ own
      own_is own is =
          same_Some (entry_with_budget budget entry) own
          (sym (ap (option_map (entry_with_budget budget)) there) ∙ sym (changed_there (entry_with_budget budget) list.entries component)
          ∙ sym (is_funded (taken list) list component budget entry there (taken_alike list)).given ∙ is)
