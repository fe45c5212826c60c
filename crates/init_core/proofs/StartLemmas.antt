-- The parts of the machine when one more component starts.
use Rattle.std.proofs.Common.{◌≡◌, ◌≢◌, ℕ, ◌+◌, ◌-◌, ◌*◌, ◌≤◌, true, is_some, inl, inr, List, [], ◌∷◌, ◌++◌, get_or, Option, Some, None, IsSome, subst, refl, sym, ap, ◌∙◌, arith}
use Rattle.std.specs.Prelude.{IfSome}
use Rattle.std.specs.List.{All, AllPairs}
use Rattle.std.specs.FinMap.{get}
use Rattle.std.specs.Option.{option_map, unwrap_or}
use Rattle.std.proofs.lemmas.Bool.{cases_eq, false≢true}
use Rattle.std.proofs.lemmas.List.Quantifiers.{all_pairs_push}
use Rattle.own_model.specs.Account.{Account, opened, parted_with, shortage}
use Rattle.own_model.specs.Amounts.{Amounts}
use Rattle.own_model.specs.Reserve.{no_reserve}
use Rattle.own_model.specs.NatMap.{NatMap}
use Rattle.own_model.specs.StartList.{Entry, StartEntry}
use Rattle.own_model.proofs.NatMapLemmas.{apart_from_free, get-insert_same, get-insert_other, each_after_insert}
use Rattle.own_model.proofs.StepReserveLemmas.{parted_in_turn}
use Rattle.own_model.proofs.StepLemmas.{covers}
use Rattle.own_model.proofs.Totals.{total_at_le}
use Rattle.cap_space.specs.Space.{Space, fresh_space}
use Rattle.region_map.specs.Regions.{Regions, fresh_regions}
use Rattle.dataspace_core.specs.Room.{IsOuter}
use Rattle.dataspace_core.specs.Store.{Store, Part, part, parted_part, IsOpenIn, IsChildIn, accounts_in, account_in, account_of, root_in, parents_in, ram_limits_in, caps_limits_in, opened_part}
use Rattle.dataspace_core.proofs.PartLaws.{account_of-part, open_in_part, part_open}
use Rattle.pd_core.specs.Component.{Place, entry_of, payer_of, reserve_of, amounts_in, tables_of, HasNewHeap, IsUnused}
use Rattle.pd_core.specs.Core.{Heads, IsBelowHead}
use Rattle.pd_core.specs.Fresh.{start_of, account_at, AreEmpty, IsNewServer, IsFreshReserve, IsFresh, Has, ShareNone}
use Rattle.pd_core.specs.declared.component.Component.{Component}
use Rattle.pd_core.proofs.CoreFreshLemmas.{new_server_stays}
use Rattle.init_core.specs.Boot.{AreThere, Opens}

-- ---- tables that have just booted

-- those of a script are empty, and have room for its budget and for the machine's pages
pub script_empty : (store : Store) (pages caps budget : ℕ) (space : Space) (regions : Regions) → ram_limits_in store ≡ pages * 4096 → pages ≤ 4096 → budget ≤ caps →
    space ≡ fresh_space caps → regions ≡ fresh_regions 128 pages pages → AreEmpty store budget space regions
script_empty store pages caps budget space regions machine few covered caps_booted regions_booted = record {
  no_caps = ap (λ s. s.caps) caps_booted;
  places = omega (arith, covered, ap (λ s. s.places) caps_booted);
  no_regions = ap (λ r. r.user) regions_booted;
  most = ap (λ r. r.most) regions_booted;
  no_heap = ap (λ r. r.heap) regions_booted;
  heap_most = ap (λ r. r.heap_most) regions_booted ∙ sym (ap (λ r. r.pages) regions_booted);
  pages = ap (λ r. r.pages * 4096) regions_booted ∙ sym machine;
  few = omega (arith, few, ap (λ r. r.pages) regions_booted);
}

-- ---- accounts open

-- an account is read from its part
account_by_part : (store : Store) (key : ℕ) (p : Part) → part key store ≡ p → account_in store key ≡ account_of p
account_by_part store key p is = sym (account_of-part key store) ∙ ap account_of is

-- what has limits alone is open
pub open_by_part : (store : Store) (key ram caps : ℕ) → part key store ≡ opened_part ram caps → IsOpenIn store key
open_by_part store key ram caps is = open_in_part key store (subst (λ (p : Part). IsSome p.account) (sym is) refl)

-- and unused
unused_by_part : (store : Store) (key ram caps : ℕ) → part key store ≡ opened_part ram caps → IsUnused store key
unused_by_part store key ram caps is = is ∙ ap (λ (p : Part). opened_part (account_of p).ram_limit (account_of p).caps_limit) (sym is)

-- what is unused has the limits of its account
limits_alone : (store : Store) (key : ℕ) → IsUnused store key → part key store ≡ opened_part (account_in store key).ram_limit (account_in store key).caps_limit
limits_alone store key unused = unused ∙ ap (λ (a : Account). opened_part a.ram_limit a.caps_limit) (account_of-part key store)

-- a part that stays is that of an account that is still open
still_by_part : (old new : Store) (key : ℕ) → part key new ≡ part key old → IsOpenIn old key → IsOpenIn new key
still_by_part old new key stays was = open_in_part key new (ap (λ (p : Part). is_some p.account) stays ∙ part_open key old was)

-- an init parted with so much for accounts below it: each other that was open has what it had
pub record Beside (old new : Store) (init ram caps : ℕ) : Type 0 where
  pub root : root_in new ≡ root_in old
  pub parted : part init new ≡ parted_part (part init old) ram caps
  pub parts : (key : ℕ) → IsOpenIn old key → key ≢ init → part key new ≡ part key old
  pub children : (key : ℕ) → IsOpenIn old key → get (parents_in new) key ≡ get (parents_in old) key
  pub outer : (heads : Heads) → heads init ≡ true → ((account : ℕ) → IsOuter heads old account) → (account : ℕ) → IsOuter heads new account
  pub there : AreThere old → AreThere new
  pub machine : ram_limits_in new ≡ ram_limits_in old
  pub all_caps : caps_limits_in new ≡ caps_limits_in old

-- an init that has parted with something is open
parted_open : (new : Store) (init : ℕ) (was : Part) (ram caps : ℕ) → part init new ≡ parted_part was ram caps → IsOpenIn new init
parted_open new init was ram caps parted = open_in_part init new (ap (λ (p : Part). is_some p.account) parted)

-- what was open still is
pub still_open : {old new : Store} {init ram caps : ℕ} → Beside old new init ram caps → (key : ℕ) → IsOpenIn old key → IsOpenIn new key
still_open {old} {new} {init} {ram} {caps} beside key is_open = elim (cases_eq key init) [
  | inl own ↦ subst (IsOpenIn new) (sym own) (parted_open new init (part init old) ram caps beside.parted)
  | inr other ↦ still_by_part old new key (beside.parts key is_open other) is_open
]

-- one after the other
pub beside_then : {a b c : Store} {init ram caps more_ram more_caps : ℕ} → Beside a b init ram caps → Beside b c init more_ram more_caps →
    Beside a c init (ram + more_ram) (caps + more_caps)
beside_then {a} {b} {c} {init} {ram} {caps} {more_ram} {more_caps} first then = record {
  root = then.root ∙ first.root;
  parted =
      let was = part init a in
      then.parted ∙ ap (λ (p : Part). parted_part p more_ram more_caps) first.parted
      ∙ ap (λ (account : Account). record was { account = Some account }) (parted_in_turn (account_of was) ram caps more_ram more_caps);
  parts = λ key is_open other. then.parts key (still_open first key is_open) other ∙ first.parts key is_open other;
  children = λ key is_open. then.children key (still_open first key is_open) ∙ first.children key is_open;
  outer = λ heads is_head outer. then.outer heads is_head (first.outer heads is_head outer);
  there = λ there. then.there (first.there there);
  machine = then.machine ∙ first.machine;
  all_caps = then.all_caps ∙ first.all_caps;
}

-- the init keeps the rest
pub init_after : {old new : Store} {init ram caps : ℕ} → Beside old new init ram caps → account_in new init ≡ parted_with (account_in old init) ram caps
init_after {old} {new} {init} {ram} {caps} beside =
    account_by_part new init _ beside.parted ∙ ap (λ (a : Account). parted_with a ram caps) (account_of-part init old)

-- others keep all
pub account_stays : {old new : Store} {init ram caps : ℕ} → Beside old new init ram caps → (key : ℕ) → IsOpenIn old key → key ≢ init → account_in new key ≡ account_in old key
account_stays {old} {new} beside key is_open other = account_by_part new key _ (beside.parts key is_open other) ∙ account_of-part key old

-- an account that an init opened has these limits and nothing else
pub record IsOpened (store : Store) (init key ram caps : ℕ) : Type 0 where
  pub not_root : key ≢ root_in store
  pub not_init : key ≢ init
  pub unused : part key store ≡ opened_part ram caps
  pub child : IsChildIn store key init

-- it stays so while others are opened
pub opened_beside : {old new : Store} {init key ram caps more_ram more_caps : ℕ} → Beside old new init more_ram more_caps → IsOpened old init key ram caps → IsOpened new init key ram caps
opened_beside {old} {new} {init} {key} {ram} {caps} beside own =
    let is_open = open_by_part old key ram caps own.unused in
    record {
      not_root = λ e. own.not_root (e ∙ beside.root);
      not_init = own.not_init;
      unused = beside.parts key is_open own.not_init ∙ own.unused;
      child = beside.children key is_open ∙ own.child;
    }

-- no account that is open is this one
abbrev pub IsNewTo : Store → ℕ → Type 0
IsNewTo store key = (account : ℕ) → IsOpenIn store account → account ≢ key

-- one that is new to what follows is new to what was before
pub new_before : {old new : Store} {init ram caps key : ℕ} → Beside old new init ram caps → IsNewTo new key → IsNewTo old key
new_before beside unseen account is_open = unseen account (still_open beside account is_open)

-- an init opens one
module _ {store store' : Store} {init child ram caps : ℕ} (opens : Opens store init child ram caps store') where
  -- the account is a new one
  pub is_new : IsNewTo store child
  is_new key is_open = apart_from_free (accounts_in store) child key opens.free is_open

  pub opened_here : IsOpenIn store init → IsOpenIn store (root_in store) → IsOpened store' init child ram caps
  opened_here init_open root_open = record {
    not_root = λ e. is_new (root_in store) root_open (sym opens.part.root ∙ sym e);
    not_init = λ e. is_new init init_open (sym e);
    unused = opens.part.opened_one;
    child = ap (λ (m : NatMap ℕ). get m child) opens.part.parents ∙ get-insert_same (parents_in store) child init child refl;
  }

  -- what was open still is
  open_after : (key : ℕ) → IsOpenIn store key → IsOpenIn store' key
  open_after key is_open = elim (cases_eq key init) [
    | inl own ↦ subst (IsOpenIn store') (sym own) (parted_open store' init (part init store) ram caps opens.part.parted_one)
    | inr other ↦ still_by_part store store' key (opens.part.others key other (is_new key is_open)) is_open
  ]

  -- and the new one is there
  there_after : AreThere store → AreThere store'
  there_after there k p is = elim (cases_eq k child) [
    | inl here ↦ subst (IsOpenIn store') (sym here) (open_by_part store' child ram caps opens.part.opened_one)
    | inr other ↦
        let was = sym (get-insert_other (parents_in store) child init k other) ∙ ap (λ (m : NatMap ℕ). get m k) (sym opens.part.parents) ∙ is in
        open_after k (there k p was)
  ]

  -- all others stay
  pub opens_beside : Beside store store' init ram caps
  opens_beside = record {
    root = opens.part.root;
    parted = opens.part.parted_one;
    parts = λ key is_open other. opens.part.others key other (is_new key is_open);
    children = λ key is_open.
        ap (λ (m : NatMap ℕ). get m key) opens.part.parents ∙ get-insert_other (parents_in store) child init key (is_new key is_open);
    outer = λ heads is_head outer k p is.
        each_after_insert (parents_in store) child init (λ q w. heads w ≡ true) (λ q w there. outer q w there) is_head k p (ap (λ (m : NatMap ℕ). get m k) (sym opens.part.parents) ∙ is);
    there = there_after;
    machine = opens.ram_moved;
    all_caps = opens.caps_moved;
  }

-- what an account covers is no more than all capabilities
caps_in_total : (store : Store) (key : ℕ) (found : Option Account) → get (accounts_in store) key ≡ found → IsSome found → (unwrap_or found (opened 0 0)).caps_limit ≤ caps_limits_in store
caps_in_total store key None is some = absurd (false≢true some)
caps_in_total store key (Some a) is some = total_at_le (λ (a : Account). a.caps_limit) (accounts_in store) key a is

pub caps_few : (store : Store) (init ram caps : ℕ) → IsOpenIn store init → shortage (account_in store init) ram caps ≡ None → caps ≤ caps_limits_in store
caps_few store init ram caps is_open enough =
    let all = caps_in_total store init (get (accounts_in store) init) refl is_open in
    omega (arith, (covers (account_in store init) ram caps enough).caps_fit, all)

-- ---- the components so far

-- a fresh component's account is open, and so is that of its reserve
pub fresh_open : (heads : Heads) (store : Store) (component : Component) → IsFresh heads store component → IsOpenIn store (payer_of component)
fresh_open heads store component fresh = open_by_part store (payer_of component) _ _ fresh.unused

reserve_open : (store : Store) (payer reserve : ℕ) → IsFreshReserve store payer reserve → IsOpenIn store reserve
reserve_open store payer reserve fresh = open_by_part store reserve _ _ fresh.is_reserve.unused

-- each account that it has
pub has_open : (heads : Heads) (store : Store) (component : Component) (account : ℕ) → IsFresh heads store component → Has component account → IsOpenIn store account
has_open heads store component account fresh (inl own) = subst (IsOpenIn store) own (fresh_open heads store component fresh)
has_open heads store component account fresh (inr kept) =
    reserve_open store (payer_of component) account (subst (λ reserve. IfSome reserve (IsFreshReserve store (payer_of component))) kept fresh.reserve)

-- what a reserve has, if there is one
abbrev pub amounts_by : Store → Option ℕ → Amounts
amounts_by store reserve = unwrap_or (option_map (λ account. amounts_in (part account store)) reserve) no_reserve

-- what a component starts with, by its account and its reserve
abbrev pub started_with : Entry → Account → Amounts → StartEntry
started_with entry account reserve = record { entry = entry; ram = account.ram_limit; caps = account.caps_limit; reserve = reserve }

module _ {store store' : Store} {init ram caps : ℕ} (beside : Beside store store' init ram caps) where
  -- no limit grows
  limit_less : (key : ℕ) → IsOpenIn store key → (account_in store' key).caps_limit ≤ (account_in store key).caps_limit
  limit_less key is_open = elim (cases_eq key init) [
    | inl own ↦ subst (λ k. (account_in store' k).caps_limit ≤ (account_in store k).caps_limit) (sym own) (omega (arith, ap (λ (a : Account). a.caps_limit) (init_after beside)))
    | inr other ↦ omega (arith, ap (λ (a : Account). a.caps_limit) (account_stays beside key is_open other))
  ]

  -- what is unused stays so
  unused_stays : (key : ℕ) → IsUnused store key → IsUnused store' key
  unused_stays key unused = elim (cases_eq key init) [
    | inl own ↦
        let a = account_of (part init store) in
        subst (IsUnused store') (sym own)
        (unused_by_part store' init (a.ram_limit - ram) (a.caps_limit - caps) (beside.parted ∙ ap (λ (p : Part). parted_part p ram caps) (subst (IsUnused store) own unused)))
    | inr other ↦
        let stays = beside.parts key (open_by_part store key _ _ unused) other in
        stays ∙ unused ∙ ap (λ (p : Part). opened_part (account_of p).ram_limit (account_of p).caps_limit) (sym stays)
  ]

  -- a reserve is still one
  reserve_stays : (payer : ℕ) (reserve : Option ℕ) → IsOpenIn store payer → IfSome reserve (IsFreshReserve store payer) → IfSome reserve (IsFreshReserve store' payer)
  reserve_stays payer None is_open fresh = tt
  reserve_stays payer (Some reserve) is_open fresh = record {
    not_init = λ e. fresh.not_init (e ∙ beside.root);
    apart = fresh.apart;
    is_reserve = record {
      beside = beside.children reserve (reserve_open store payer reserve fresh) ∙ fresh.is_reserve.beside ∙ sym (beside.children payer is_open);
      unused = unused_stays reserve fresh.is_reserve.unused;
    };
  }

  amounts_less : (payer : ℕ) (reserve : Option ℕ) → IfSome reserve (IsFreshReserve store payer) → (amounts_by store' reserve).caps ≤ (amounts_by store reserve).caps
  amounts_less payer None fresh = omega arith
  amounts_less payer (Some reserve) fresh =
      omega (arith, limit_less reserve (reserve_open store payer reserve fresh), ap (λ (a : Account). a.caps_limit) (account_of-part reserve store'), ap (λ (a : Account). a.caps_limit) (account_of-part reserve store))

  -- empty tables stay so
  empty_stays : {most most' : ℕ} → most' ≤ most → (tables : Option (Space × Regions)) → IfSome tables (λ t. AreEmpty store most t.0 t.1) → IfSome tables (λ t. AreEmpty store' most' t.0 t.1)
  empty_stays less None fresh = tt
  empty_stays less (Some tables) fresh = record {
    no_caps = fresh.no_caps;
    places = omega (arith, less, fresh.places);
    no_regions = fresh.no_regions;
    most = fresh.most;
    no_heap = fresh.no_heap;
    heap_most = fresh.heap_most;
    pages = fresh.pages ∙ sym beside.machine;
    few = fresh.few;
  }

  -- it is below the same init
  child_stays : (heads heads' : Heads) → ((account : ℕ) → heads account ≡ true → heads' account ≡ true) → (key : ℕ) → IsOpenIn store key → IsBelowHead store heads key → IsBelowHead store' heads' key
  child_stays heads heads' more key is_open below = record {
    head = below.head;
    is_head = more below.head below.is_head;
    child = beside.children key is_open ∙ below.child;
  }

  -- so a fresh component is still fresh, with more inits too
  pub fresh_stays : (heads heads' : Heads) → ((account : ℕ) → heads account ≡ true → heads' account ≡ true) → (c : Component) → IsFresh heads store c → IsFresh heads' store' c
  fresh_stays heads heads' more c fresh =
      let is_open = fresh_open heads store c fresh in
      let less : (account_at store' c).caps_limit + (amounts_by store' (reserve_of c)).caps ≤ (account_at store c).caps_limit + (amounts_by store (reserve_of c)).caps =
      omega (arith, limit_less (payer_of c) is_open, amounts_less (payer_of c) (reserve_of c) fresh.reserve) in
      record {
        not_init = λ e. fresh.not_init (e ∙ beside.root);
        unused = limits_alone store' (payer_of c) (unused_stays (payer_of c) (unused_by_part store (payer_of c) _ _ fresh.unused));
        reserve = reserve_stays (payer_of c) (reserve_of c) is_open fresh.reserve;
        tables = empty_stays less (tables_of c) fresh.tables;
        heap = fresh.heap;
        child = child_stays heads heads' more (payer_of c) is_open fresh.child;
        server = new_server_stays store store' beside.machine beside.all_caps c.role fresh.server;
      }

  -- what one starts with stays where none of its accounts is the init's
  amounts_stay : (payer : ℕ) (reserve : Option ℕ) → IfSome reserve (IsFreshReserve store payer) → ((account : ℕ) → reserve ≡ Some account → account ≢ init) → amounts_by store' reserve ≡ amounts_by store reserve
  amounts_stay payer None fresh spares = refl
  amounts_stay payer (Some reserve) fresh spares = ap amounts_in (beside.parts reserve (reserve_open store payer reserve fresh) (spares reserve refl))

  pub start_stays : (heads : Heads) (place : Place) (c : Component) → IsFresh heads store c → ((account : ℕ) → Has c account → account ≢ init) → start_of place store' c ≡ start_of place store c
  start_stays heads place c fresh spares =
      let own = account_stays beside (payer_of c) (fresh_open heads store c fresh) (spares (payer_of c) (inl refl)) in
      let kept = amounts_stay (payer_of c) (reserve_of c) fresh.reserve (λ account is. spares account (inr is)) in
      λ j. started_with (entry_of place c) (own j) (kept j)

-- ---- the component that comes last

-- a script's reserve is an account that its init opened beside the script's own, with these limits; others have none
abbrev pub HasReserve : Store → ℕ → ℕ → Amounts → Option ℕ → Type 0
HasReserve store init payer amounts (Some reserve) = IsOpened store init reserve amounts.ram amounts.caps × (reserve ≢ payer)
HasReserve store init payer amounts None = amounts ≡ no_reserve

module _ {store : Store} (after : Component) {init payer ram caps : ℕ} (kept : Amounts) (reserve : Option ℕ) (payer_is : payer_of after ≡ payer) (reserve_is : reserve_of after ≡ reserve)
    (own : IsOpened store init payer ram caps) (held : HasReserve store init payer kept reserve) where
  -- it starts with what its accounts were opened with
  held_by : (reserve : Option ℕ) → HasReserve store init payer kept reserve → amounts_by store reserve ≡ kept
  held_by None held = sym held
  held_by (Some reserve) held = ap amounts_in held.0.unused

  part_after : part (payer_of after) store ≡ opened_part ram caps
  part_after = ap (λ key. part key store) payer_is ∙ own.unused

  pub account_after : account_in store (payer_of after) ≡ opened ram caps
  account_after = account_by_part store (payer_of after) _ part_after

  amounts_after : amounts_by store (reserve_of after) ≡ kept
  amounts_after = ap (amounts_by store) reserve_is ∙ held_by reserve held

  pub start_after : (place : Place) → start_of place store after ≡ record { entry = entry_of place after; ram = ram; caps = caps; reserve = kept }
  start_after place = λ j. started_with (entry_of place after) (account_after j) (amounts_after j)

  -- its accounts are unused
  reserve_by : (reserve : Option ℕ) → HasReserve store init payer kept reserve → IfSome reserve (IsFreshReserve store payer)
  reserve_by None held = tt
  reserve_by (Some reserve) held = record {
    not_init = held.0.not_root;
    apart = held.1;
    is_reserve = record {
      beside = held.0.child ∙ sym own.child;
      unused = unused_by_part store reserve kept.ram kept.caps held.0.unused;
    };
  }

  -- and its tables empty
  pub fresh_after : (heads : Heads) → heads init ≡ true → IfSome (tables_of after) (λ tables. AreEmpty store (caps + kept.caps) tables.0 tables.1) → HasNewHeap after.role →
      IsNewServer store after.role → IsFresh heads store after
  fresh_after heads is_head tables heap server =
      let budget : (account_at store after).caps_limit + (amounts_by store (reserve_of after)).caps ≡ caps + kept.caps = (λ j. (account_after j).caps_limit + (amounts_after j).caps) in
      record {
        not_init = λ e. own.not_root (sym payer_is ∙ e);
        unused = part_after ∙ ap (λ (a : Account). opened_part a.ram_limit a.caps_limit) (sym account_after);
        reserve = subst (λ key. IfSome (reserve_of after) (IsFreshReserve store key)) (sym payer_is)
            (subst (λ reserve. IfSome reserve (IsFreshReserve store payer)) (sym reserve_is) (reserve_by reserve held));
        tables = subst (λ most. IfSome (tables_of after) (λ tables. AreEmpty store most tables.0 tables.1)) (sym budget) tables;
        heap = heap;
        child = record { head = init; is_head = is_head; child = ap (get (parents_in store)) payer_is ∙ own.child };
        server = server;
      }

  module _ (heads : Heads) (old : Store) (own_new : IsNewTo old payer) (reserve_new : IfSome reserve (IsNewTo old)) where
    -- no component that was fresh before has one of its accounts
    apart_before : (c : Component) → IsFresh heads old c → ShareNone c after
    apart_before c fresh account has (inl mine) = own_new account (has_open heads old c account fresh has) (sym mine ∙ payer_is)
    apart_before c fresh account has (inr mine) =
        subst (λ reserve. IfSome reserve (IsNewTo old)) (sym reserve_is ∙ mine) reserve_new account (has_open heads old c account fresh has) refl

    pub apart_after : (components : List Component) → All (IsFresh heads old) components → AllPairs ShareNone components → AllPairs ShareNone (components ++ after ∷ [])
    apart_after components each apart = all_pairs_push ShareNone components after apart (λ k d h. let c = get_or components k d in apart_before c (each k d h))
