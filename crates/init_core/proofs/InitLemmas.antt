-- Which accounts are inits', and what inits have, when one more component starts.
use Rattle.std.proofs.Common.{◌≡◌, ◌≢◌, ◌⊎◌, ℕ, zero, suc, ◌+◌, ◌<◌, ◌≤◌, ◌||◌, ◌==◌, Bool, true, false, inl, inr, List, [], ◌∷◌, ◌++◌, length, get_or, map, set, Some, subst, refl, sym, ap, ◌∙◌, arith}
use Rattle.std.specs.Prelude.{IfSome}
use Rattle.std.specs.List.{All, enumerate_from}
use Rattle.std.proofs.lemmas.Bool.{cases_eq, cases_lt, eqb-true, eq-eqb, false≢true, or_left, or_right, or_cases}
use Rattle.std.proofs.lemmas.List.{get_or-map, get_or_append_left, get_or_past, length-map, length_push, map_push}
use Rattle.std.proofs.lemmas.List.Elements.{All-head, All-tail}
use Rattle.std.proofs.Math.Seq.{get_or-append_seam}
use Rattle.own_model.specs.Account.{Account, opened, parted_with}
use Rattle.own_model.specs.Amounts.{Amounts, no_amounts}
use Rattle.own_model.specs.OwnHeap.{no_heap}
use Rattle.own_model.specs.OwnState.{OwnState}
use Rattle.std.specs.FinMap.{empty, get}
use Rattle.own_model.specs.StartList.{Kind, StartEntry, budget, init_account, init_at, no_account, of_component, of_init, start_state, with_started}
use Rattle.own_model.specs.StartList.Kind.{Script as AScript, Server as AServer, Init as AnInit}
use Rattle.dataspace_core.specs.Store.{Store, IsOpenIn, IsChildIn, account_in, parents_in, root_in}
use Rattle.pd_core.specs.Component.{Place, Pays, payer_in, payer_of, kind_of}
use Rattle.pd_core.specs.Core.{Heads, Places, IsInitOf, IsInits, init_in, inits_of, roles_of}
use Rattle.pd_core.specs.Fresh.{start_of, starts_of, AreFreshBelow, IsFresh, IsFreshReserve, Has, ShareNone}
use Rattle.pd_core.specs.SessionCalls.{IsBelowInit, IsBelowParentInit, AreBelowParents}
use Rattle.pd_core.specs.declared.component.Role.{Role}
use Rattle.pd_core.specs.declared.component.Role.TheVariants.{Script, Server, Init, Gone}
use Rattle.pd_core.specs.declared.component.Component.{Component}
use Rattle.pd_core.proofs.ComponentLemmas.{pays_is}
use Rattle.pd_core.proofs.CoreHeldLemmas.{init_below, init_pays}
use Rattle.pd_core.proofs.CoreWorldLemmas.{init_is}
use Rattle.init_core.specs.Boot.{IsInitAt}
use Rattle.init_core.proofs.StartLemmas.{Beside, account_stays, fresh_open, init_after, start_stays}

-- ---- lists

-- each with its index, and one more
enumerate_from-push : {X : Type 0} (n : ℕ) (xs : List X) (x : X) → enumerate_from n (xs ++ x ∷ []) ≡ enumerate_from n xs ++ (n + length xs, x) ∷ []
enumerate_from-push n [] x = ap (λ k. (k, x) ∷ []) (omega arith)
enumerate_from-push n (y ∷ ys) x =
    ap (λ zs. (n, y) ∷ zs) (enumerate_from-push (n + 1) ys x)
    ∙ ap (λ k. (n, y) ∷ (enumerate_from (n + 1) ys ++ (k, x) ∷ [])) (omega arith)

-- what comes of each with its index, and of one more
pub enumerated-push : {X Y : Type 0} (f : ℕ × X → Y) (xs : List X) (x : X) (n : ℕ) → length xs ≡ n → map f (enumerate_from 0 (xs ++ x ∷ [])) ≡ map f (enumerate_from 0 xs) ++ f (n, x) ∷ []
enumerated-push f xs x n count =
    ap (map f) (enumerate_from-push 0 xs x) ∙ map_push f (enumerate_from 0 xs) (0 + length xs, x) ∙ ap (λ k. map f (enumerate_from 0 xs) ++ f (k, x) ∷ []) (omega (arith, count))

-- what comes of each alone
pub enumerated_alone : {X Y : Type 0} (f : X → Y) (n : ℕ) (xs : List X) → map (λ c. f c.1) (enumerate_from n xs) ≡ map f xs
enumerated_alone f n [] = refl
enumerated_alone f n (x ∷ xs) = ap (λ ys. f x ∷ ys) (enumerated_alone f (n + 1) xs)

-- one after the other
pub map_twice : {X Y Z : Type 0} (f : X → Y) (g : Y → Z) (xs : List X) → map g (map f xs) ≡ map (λ x. g (f x)) xs
map_twice f g [] = refl
map_twice f g (x ∷ xs) = ap (λ ys. g (f x) ∷ ys) (map_twice f g xs)

module _ {X Y : Type 0} (f g : X → Y) where
  -- two that agree everywhere
  map_alike : (xs : List X) → ((i : ℕ) (d : X) → i < length xs → g (get_or xs i d) ≡ f (get_or xs i d)) → map g xs ≡ map f xs
  map_alike [] same = refl
  map_alike (x ∷ xs) same = λ j. same 0 x (omega arith) j ∷ map_alike xs (λ i d h. same (suc i) d (omega (arith, h))) j

  -- and but at one place
  map_but_one : (xs : List X) (k : ℕ) (v : Y) → k < length xs → ((i : ℕ) (d : X) → i < length xs → i ≢ k → g (get_or xs i d) ≡ f (get_or xs i d)) →
      ((d : X) → g (get_or xs k d) ≡ v) → map g xs ≡ set (map f xs) k v
  map_but_one [] k v within same here = absurd (omega (arith, within))
  map_but_one (x ∷ xs) zero v within same here = λ j. here x j ∷ map_alike xs (λ i d h. same (suc i) d (omega (arith, h)) (λ e. absurd (omega (arith, e)))) j
  map_but_one (x ∷ xs) (suc k) v within same here =
      λ j. same 0 x (omega arith) (λ e. absurd (omega (arith, e))) j
      ∷ map_but_one xs k v (omega (arith, within)) (λ i d h other. same (suc i) d (omega (arith, h)) (λ e. other (omega (arith, e)))) here j

-- what comes of the element at an index
value_at : {X Y : Type 0} (f : X → Y) (xs : List X) (k : ℕ) (e v : Y) → k < length xs → ((d : X) → f (get_or xs k d) ≡ v) → get_or (map f xs) k e ≡ v
value_at f [] k e v within here = absurd (omega (arith, within))
value_at f (x ∷ xs) zero e v within here = here x
value_at f (x ∷ xs) (suc k) e v within here = value_at f xs k e v (omega (arith, within)) here

-- ---- roles by their places

module _ (components : List Component) where
  -- past the components none has a role
  role_past : (place : ℕ) → length components ≤ place → roles_of components place ≡ Gone
  role_past place past = get_or_past (map (λ c. c.role) components) place Gone (omega (arith, past, length-map components (λ (c : Component). c.role)))

  -- so what has one is a component
  pub within : (P : Role → Type 0) → (P Gone → ⊥) → (place : ℕ) → P (roles_of components place) → place < length components
  within P nobody place holds = elim (cases_lt place (length components)) [
    | inl here ↦ here
    | inr past ↦ absurd (nobody (subst P (role_past place past) holds))
  ]

  pub role_at : (place : ℕ) (d : Component) → place < length components → roles_of components place ≡ (get_or components place d).role
  role_at place d here = get_or-map (λ (c : Component). c.role) components place d Gone here

module _ (components : List Component) (last : Component) where
  -- one more leaves the roles so far
  role_kept : (place : ℕ) → place < length components → roles_of (components ++ last ∷ []) place ≡ roles_of components place
  role_kept place here =
      ap (λ roles. get_or roles place Gone) (map_push (λ (c : Component). c.role) components last)
      ∙ get_or_append_left (map (λ c. c.role) components) (last.role ∷ []) Gone place (omega (arith, here, length-map components (λ (c : Component). c.role)))

  -- and comes last
  pub role_last : (place : ℕ) → length components ≡ place → roles_of (components ++ last ∷ []) place ≡ last.role
  role_last place count =
      ap (λ roles. get_or roles place Gone) (map_push (λ (c : Component). c.role) components last)
      ∙ ap (λ k. get_or (map (λ c. c.role) components ++ last.role ∷ []) k Gone) (sym count ∙ sym (length-map components (λ (c : Component). c.role)))
      ∙ get_or-append_seam (map (λ c. c.role) components) last.role [] Gone

  -- what held of a role so far still does
  pub still_role : (P : Role → Type 0) → (P Gone → ⊥) → (place : ℕ) → P (roles_of components place) → P (roles_of (components ++ last ∷ []) place)
  still_role P nobody place holds = subst P (sym (role_kept place (within components P nobody place holds))) holds

  -- and what holds of a role now did, or is of the last
  pub either_role : (P : Role → Type 0) → (P Gone → ⊥) → (place : ℕ) → P (roles_of (components ++ last ∷ []) place) → P (roles_of components place) ⊎ ((length components ≡ place) × P last.role)
  either_role P nobody place holds = elim (cases_lt place (length components)) [
    | inl before ↦ inl (subst P (role_kept place before) holds)
    | inr past ↦
        let more = within (components ++ last ∷ []) P nobody place holds in
        let count : length components ≡ place = omega (arith, past, more, length_push components last) in
        inr (count, subst P (role_last place count) holds)
  ]

-- ---- inits among roles

-- an init is charged on its account
pub charged_as_init : (role : Role) (account : ℕ) → IsInitOf role account → (payer_in role ≡ account) × (kind_of role ≡ AnInit)
charged_as_init (Script script) account is = absurd is
charged_as_init (Server key host) account is = absurd is
charged_as_init (Init key) account is = (is, refl)
charged_as_init Gone account is = absurd is

pub init_by_kind : (role : Role) → kind_of role ≡ AnInit → IsInitOf role (payer_in role)
init_by_kind (Script script) is = absurd cc
init_by_kind (Server key host) is = absurd cc
init_by_kind (Init key) is = refl
init_by_kind Gone is = absurd cc

-- what is below an init stays so, and what was opened below its account is
still_below : (old new : Store) (role : Role) (account : ℕ) → get (parents_in new) account ≡ get (parents_in old) account → IsBelowInit old role account → IsBelowInit new role account
still_below old new (Script script) account stays below = absurd below
still_below old new (Server key host) account stays below = absurd below
still_below old new (Init key) account stays below = stays ∙ below
still_below old new Gone account stays below = absurd below

-- a role is that of an init with this account
abbrev is_init_on : Role → ℕ → Bool
is_init_on (Script script) account = false
is_init_on (Server key host) account = false
is_init_on (Init key) account = key.0 == account
is_init_on Gone account = false

init_by_test : (role : Role) (account : ℕ) → is_init_on role account ≡ true → IsInitOf role account
init_by_test (Script script) account is = absurd (false≢true is)
init_by_test (Server key host) account is = absurd (false≢true is)
init_by_test (Init key) account is = eqb-true key.0 account is
init_by_test Gone account is = absurd (false≢true is)

tested_as_init : (role : Role) (account : ℕ) → IsInitOf role account → is_init_on role account ≡ true
tested_as_init (Script script) account is = absurd is
tested_as_init (Server key host) account is = absurd is
tested_as_init (Init key) account is = eq-eqb key.0 account is
tested_as_init Gone account is = absurd is

-- ---- heads

-- with the account of one more component, if that is an init
abbrev pub with_head : Heads → Role → Heads
with_head heads role account = heads account || is_init_on role account

-- what was a head still is
pub more_heads : (heads : Heads) (role : Role) (account : ℕ) → heads account ≡ true → with_head heads role account ≡ true
more_heads heads role account is_head = or_left (heads account) (is_init_on role account) is_head

module _ (heads : Heads) (old new : Store) (components : List Component) (last : Component) (root : root_in new ≡ root_in old) where
  -- heads are inits' accounts
  pub heads_after : ((account : ℕ) → heads account ≡ true → IsInits old (roles_of components) account) → (account : ℕ) → with_head heads last.role account ≡ true →
      IsInits new (roles_of (components ++ last ∷ [])) account
  heads_after inits account is_head = elim (or_cases (heads account) (is_init_on last.role account) is_head) [
    | inl before ↦ elim (inits account before) [
      | inl own ↦ inl (root ∙ own)
      | inr found ↦ inr (found.0, still_role components last (λ role. IsInitOf role account) (λ h. h) found.0 found.1)
    ]
    | inr here ↦ inr (length components, subst (λ role. IsInitOf role account) (sym (role_last components last (length components) refl)) (init_by_test last.role account here))
  ]

  -- and these are heads
  pub are_heads_after : ((account : ℕ) → IsInits old (roles_of components) account → heads account ≡ true) → (account : ℕ) → IsInits new (roles_of (components ++ last ∷ [])) account →
      with_head heads last.role account ≡ true
  are_heads_after are_heads account (inl own) = more_heads heads last.role account (are_heads account (inl (sym root ∙ own)))
  are_heads_after are_heads account (inr found) = elim (either_role components last (λ role. IsInitOf role account) (λ h. h) found.0 found.1) [
    | inl before ↦ more_heads heads last.role account (are_heads account (inr (found.0, before)))
    | inr here ↦ or_right (heads account) (is_init_on last.role account) (tested_as_init last.role account here.1)
  ]

-- ---- the init of a number

-- some component, where there is one
some_component : (components : List Component) (n : ℕ) → n < length components → Component
some_component [] n here = absurd (omega (arith, here))
some_component (c ∷ cs) n here = c

less_by_other : (i k : ℕ) → i ≢ k → k ≤ i → k < i
less_by_other i k other after = omega arith

module _ {heads : Heads} {store : Store} {components : List Component} (parts : AreFreshBelow heads store components) where
  -- who is charged on an account has it open
  pub pays_open : (place account : ℕ) → Pays (roles_of components place) account → IsOpenIn store account
  pays_open place account pays =
      let here = within components (λ role. Pays role account) (λ h. h) place pays in
      let d = some_component components place here in
      subst (IsOpenIn store) (ap payer_in (sym (role_at components place d here)) ∙ pays_is (roles_of components place) account pays)
      (fresh_open heads store (get_or components place d) (parts.each place d here))

  -- that of an init too
  pub init_open : (home init : ℕ) → IsInitAt store (roles_of components) home init → IsOpenIn store init
  init_open zero init is = subst (IsOpenIn store) is parts.init
  init_open (suc place) init is = pays_open place init (init_pays (roles_of components place) init is)

  -- two components at different places share no account
  share_none_at : (i k : ℕ) (d : Component) → i < length components → k < length components → i ≢ k → ShareNone (get_or components i d) (get_or components k d)
  share_none_at i k d i_in k_in other account has_i has_k = elim (cases_lt i k) [
    | inl before ↦ parts.apart i k d before k_in account has_i has_k
    | inr after ↦ parts.apart k i d (less_by_other i k other after) i_in account has_k has_i
  ]

  -- no account of a component is the root
  not_root : (c : Component) (account : ℕ) → IsFresh heads store c → Has c account → account ≢ root_in store
  not_root c account fresh (inl own) e = fresh.not_init (own ∙ e)
  not_root c account fresh (inr kept) e = (subst (λ reserve. IfSome reserve (IsFreshReserve store (payer_of c))) kept fresh.reserve).not_init e

  pub init_not_root : (k init : ℕ) → IsInitOf (roles_of components k) init → init ≢ root_in store
  init_not_root k init is =
      let k_in = within components (λ role. IsInitOf role init) (λ h. h) k is in
      let d = some_component components k k_in in
      not_root (get_or components k d) init (parts.each k d k_in) (inl (ap payer_in (sym (role_at components k d k_in)) ∙ (charged_as_init (roles_of components k) init is).0))

  -- nor is it that of an init at another place
  spares_at : (home init : ℕ) → IsInitAt store (roles_of components) home init → (i : ℕ) (d : Component) → i < length components → home ≢ i + 1 →
      (account : ℕ) → Has (get_or components i d) account → account ≢ init
  spares_at zero init is i d i_in other account has e = not_root (get_or components i d) account (parts.each i d i_in) has (e ∙ sym is)
  spares_at (suc k) init is i d i_in other account has e =
      let k_in = within components (λ role. IsInitOf role init) (λ h. h) k is in
      let payer : payer_of (get_or components k d) ≡ init = ap payer_in (sym (role_at components k d k_in)) ∙ (charged_as_init (roles_of components k) init is).0 in
      share_none_at i k d i_in k_in (λ same. other (omega (arith, same))) account has (inl (payer ∙ sym e))

  -- the number of an init is below their count
  pub home_within : (home init : ℕ) → IsInitAt store (roles_of components) home init → home < length (inits_of store components)
  home_within zero init is = omega arith
  home_within (suc k) init is =
      omega (arith, within components (λ role. IsInitOf role init) (λ h. h) k is, length-map components (λ (c : Component). init_in store c.role))

  -- what an init has is what its account has
  pub init_at_home : (home init : ℕ) → IsInitAt store (roles_of components) home init → init_at (inits_of store components) home ≡ account_in store init
  init_at_home zero init is = ap (account_in store) is
  init_at_home (suc k) init is =
      let k_in = within components (λ role. IsInitOf role init) (λ h. h) k is in
      value_at (λ (c : Component). init_in store c.role) components k no_account (account_in store init) k_in
      (λ d. ap (init_in store) (sym (role_at components k d k_in)) ∙ init_is store (roles_of components k) init is)

-- ---- what inits have once one has parted with something

module _ {heads : Heads} {old new : Store} {components : List Component} {init ram caps : ℕ} (parts : AreFreshBelow heads old components) (beside : Beside old new init ram caps) where
  -- another role has what it had
  init_stays : (role : Role) → IsOpenIn old (payer_in role) → ((account : ℕ) → IsInitOf role account → account ≢ init) → init_in new role ≡ init_in old role
  init_stays (Script script) is_open other = refl
  init_stays (Server key host) is_open other = refl
  init_stays (Init key) is_open other = account_stays beside key.0 is_open (other key.0 refl)
  init_stays Gone is_open other = refl

  others_stay : (home : ℕ) → IsInitAt old (roles_of components) home init → (i : ℕ) (d : Component) → i < length components → home ≢ i + 1 →
      init_in new (get_or components i d).role ≡ init_in old (get_or components i d).role
  others_stay home is i d i_in other =
      let c = get_or components i d in
      init_stays c.role (fresh_open heads old c (parts.each i d i_in))
      (λ account as_init. spares_at parts home init is i d i_in other account (inl (charged_as_init c.role account as_init).0))

  -- the one that parted keeps the rest
  pub inits_part : (home : ℕ) → IsInitAt old (roles_of components) home init →
      inits_of new components ≡ set (inits_of old components) home (parted_with (init_at (inits_of old components) home) ram caps)
  inits_part zero is =
      let own : account_in new (root_in new) ≡ parted_with (account_in old (root_in old)) ram caps =
      ap (account_in new) (beside.root ∙ is) ∙ init_after beside ∙ ap (λ key. parted_with (account_in old key) ram caps) (sym is) in
      let others = map_alike (λ (c : Component). init_in old c.role) (λ (c : Component). init_in new c.role) components (λ i d i_in. others_stay zero is i d i_in (λ e. absurd (omega (arith, e)))) in
      λ j. own j ∷ others j
  inits_part (suc k) is =
      let k_in = within components (λ role. IsInitOf role init) (λ h. h) k is in
      let left = parted_with (init_at (inits_of old components) (suc k)) ram caps in
      let differs : root_in old ≢ init = λ e. init_not_root parts k init is (sym e) in
      let own : account_in new (root_in new) ≡ account_in old (root_in old) = ap (account_in new) beside.root ∙ account_stays beside (root_in old) parts.init differs in
      let others = map_but_one (λ (c : Component). init_in old c.role) (λ (c : Component). init_in new c.role) components k left k_in
      (λ i d i_in other. others_stay (suc k) is i d i_in (λ e. other (omega (arith, e))))
      (λ d. ap (init_in new) (sym (role_at components k d k_in)) ∙ init_is new (roles_of components k) init is ∙ init_after beside
      ∙ ap (λ (a : Account). parted_with a ram caps) (sym (init_at_home parts (suc k) init is))) in
      λ j. own j ∷ others j

  -- with one more component that is made for an entry, that is how the model goes on
  pub inits_after : (home : ℕ) → IsInitAt old (roles_of components) home init → (last : Component) (start : StartEntry) → start.entry.home ≡ home → (budget start).ram ≡ ram → (budget start).caps ≡ caps →
      init_in new last.role ≡ init_account start → inits_of new (components ++ last ∷ []) ≡ with_started (inits_of old components) start
  inits_after home is last start home_is ram_is caps_is made =
      let was = inits_of old components in
      ap (λ more. account_in new (root_in new) ∷ more) (map_push (λ (c : Component). init_in new c.role) components last)
      ∙ (λ j. inits_part home is j ++ made j ∷ [])
      ∙ (λ j. set was (sym home_is j) (parted_with (init_at was (sym home_is j)) (sym ram_is j) (sym caps_is j)) ++ init_account start ∷ [])

-- what one has as an init that is made of a kind, with this budget
pub made_init : (store : Store) (role : Role) (kind : Kind) (whole : Amounts) → kind_of role ≡ kind → (kind ≡ AnInit → account_in store (payer_in role) ≡ opened whole.ram whole.caps) →
    init_in store role ≡ opened (of_init kind whole).ram (of_init kind whole).caps
made_init store (Script script) kind whole is has = ap (λ k. opened (of_init k whole).ram (of_init k whole).caps) is
made_init store (Server key host) kind whole is has = ap (λ k. opened (of_init k whole).ram (of_init k whole).caps) is
made_init store (Init key) kind whole is has = has (sym is) ∙ ap (λ k. opened (of_init k whole).ram (of_init k whole).caps) is
made_init store Gone kind whole is has = ap (λ k. opened (of_init k whole).ram (of_init k whole).caps) is

-- ---- what components start with

-- an init has nothing by itself, whatever its account has
abbrev nothing : Kind → OwnState
nothing kind = record {
  account = opened (of_component kind no_amounts).ram (of_component kind no_amounts).caps;
  reserve = of_component kind no_amounts;
  selectors = empty;
  regions = empty;
  heap = no_heap;
  sliced = empty;
  gone = false;
}

none_of_init : (kind : Kind) (amounts : Amounts) → kind ≡ AnInit → of_component kind amounts ≡ of_component kind no_amounts
none_of_init AScript amounts is = absurd cc
none_of_init AServer amounts is = absurd cc
none_of_init AnInit amounts is = refl

init_starts : (start : StartEntry) → start.entry.kind ≡ AnInit → start_state start ≡ nothing start.entry.kind
init_starts start is =
    let account = none_of_init start.entry.kind (record { ram = start.ram; caps = start.caps }) is in
    let reserve = none_of_init start.entry.kind start.reserve is in
    λ j. record { account = opened (account j).ram (account j).caps; reserve = reserve j; selectors = empty; regions = empty; heap = no_heap; sliced = empty; gone = false }

-- a component is an init, or none of its accounts is this one
abbrev Spares : ℕ → Component → Type 0
Spares init c = (kind_of c.role ≡ AnInit) ⊎ ((account : ℕ) → Has c account → account ≢ init)

state_stays : {heads : Heads} {old new : Store} {init ram caps : ℕ} → Beside old new init ram caps → (place : Place) (c : Component) → IsFresh heads old c → Spares init c →
    start_state (start_of place new c) ≡ start_state (start_of place old c)
state_stays {heads} {old} {new} beside place c fresh (inl is) = init_starts (start_of place new c) is ∙ sym (init_starts (start_of place old c) is)
state_stays {heads} {old} {new} beside place c fresh (inr spares) = ap start_state (start_stays beside heads place c fresh spares)

module _ {heads : Heads} {old new : Store} {components : List Component} {init ram caps : ℕ} (parts : AreFreshBelow heads old components) (beside : Beside old new init ram caps) where
  all_spare : (home : ℕ) → IsInitAt old (roles_of components) home init → All (Spares init) components
  all_spare zero is i d i_in = inr (spares_at parts zero init is i d i_in (λ e. absurd (omega (arith, e))))
  all_spare (suc k) is i d i_in = elim (cases_eq i k) [
    | inl same ↦ inl (ap kind_of (sym (role_at components i d i_in)) ∙ ap (λ p. kind_of (roles_of components p)) same ∙ (charged_as_init (roles_of components k) init is).1)
    | inr other ↦ inr (spares_at parts (suc k) init is i d i_in (λ e. other (omega (arith, e))))
  ]

  -- what each starts with by itself stays
  states_stay_from : (places : Places) (n : ℕ) (cs : List Component) → All (IsFresh heads old) cs → All (Spares init) cs →
      map start_state (map (λ c. start_of (places c.0) new c.1) (enumerate_from n cs)) ≡ map start_state (map (λ c. start_of (places c.0) old c.1) (enumerate_from n cs))
  states_stay_from places n [] fresh spares = refl
  states_stay_from places n (c ∷ cs) fresh spares =
      let own = state_stays beside (places n) c (All-head (IsFresh heads old) c cs fresh) (All-head (Spares init) c cs spares) in
      let others = states_stay_from places (n + 1) cs (All-tail (IsFresh heads old) c cs fresh) (All-tail (Spares init) c cs spares) in
      λ j. own j ∷ others j

  pub states_stay : (home : ℕ) → IsInitAt old (roles_of components) home init → (places : Places) → map start_state (starts_of places new components) ≡ map start_state (starts_of places old components)
  states_stay home is places = states_stay_from places 0 components parts.each (all_spare home is)

  -- ---- homes

  -- an account is still below its init
  still_home : (last : Component) (home account : ℕ) → IsOpenIn old account → IsBelowParentInit old (roles_of components) home account → IsBelowParentInit new (roles_of (components ++ last ∷ [])) home account
  still_home last zero account is_open below = beside.children account is_open ∙ below ∙ ap Some (sym beside.root)
  still_home last (suc k) account is_open below =
      still_role components last (λ role. IsBelowInit new role account) (λ h. h) k (still_below old new (roles_of components k) account (beside.children account is_open) below)

  -- and a new one is below the one that it was opened for
  new_home : (last : Component) (home account : ℕ) → IsInitAt old (roles_of components) home init → IsChildIn new account init → IsBelowParentInit new (roles_of (components ++ last ∷ [])) home account
  new_home last zero account is child = child ∙ ap Some (sym is ∙ sym beside.root)
  new_home last (suc k) account is child = still_role components last (λ role. IsBelowInit new role account) (λ h. h) k (init_below new (roles_of components k) account init is child)

  pub homes_after : (home : ℕ) → IsInitAt old (roles_of components) home init → (places : Places) (last : Component) → (places (length components)).home ≡ home →
      IsChildIn new (payer_of last) init → AreBelowParents places old components → AreBelowParents places new (components ++ last ∷ [])
  homes_after home is places last home_is child homes i account pays = elim (either_role components last (λ role. Pays role account) (λ h. h) i pays) [
    | inl before ↦ still_home last (places i).home account (pays_open parts i account before) (homes i account before)
    | inr here ↦
        let its = pays_is last.role account here.1 in
        subst (λ h. IsBelowParentInit new (roles_of (components ++ last ∷ [])) h account) (sym home_is ∙ ap (λ p. (places p).home) here.0)
        (new_home last home account is (subst (λ key. IsChildIn new key init) its child))
  ]
