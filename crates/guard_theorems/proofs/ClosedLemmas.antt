-- An exit: all sessions of a client are closed, one after another.
use Rattle.std.proofs.Common.{◌≡◌, ℕ, ◌+◌, ◌≤◌, ◌==◌, cond, List, [], ◌∷◌, map, sum_by, Some, refl, sym, ap, subst, ◌∙◌, arith}
use Rattle.std.proofs.lemmas.Bool.{eq-eqb}
use Rattle.std.proofs.lemmas.List.Sums.{sum_by-cons}
use Rattle.std.specs.List.{AllByRecursion}
use Rattle.std.specs.FinMap.{entries, values, entries_sorted, get-entries}
use Rattle.own_model.proofs.EntryLemmas.{KeysDiffer-sorted, value_of_first, later_value}
use Rattle.own_model.specs.Account.{Account, WithinLimits, credited, parted_with}
use Rattle.own_model.specs.Amounts.{more_of}
use Rattle.own_model.specs.Entries.{value_of, KeysDiffer}
use Rattle.own_model.specs.Limits.{ram_with, caps_with}
use Rattle.own_model.specs.NatMap.{NatMap, total}
use Rattle.own_model.specs.OwnState.{Object}
use Rattle.own_model.specs.OwnState.Object.{Dataspace, RpcObject, OpenSession, Buffer}
use Rattle.own_model.specs.Session.{Session}
use Rattle.guard_theorems.specs.Guarded.{Closed, with_account, limits_of, session_ended, sessions_ended}
use Rattle.guard_theorems.proofs.AccountLemmas.{Backs, all_back}
use Rattle.guard_theorems.proofs.ShareLemmas.{Shares, Pays, AllWithin, AccountsWithin, Replaced, share, share_le, shares_in, has_moved, none_either}

-- ---- one session

-- what a close leaves of an account
abbrev pub account_left : Account → Account → Account
account_left account guard = parted_with (credited account guard.ram_used guard.caps_used) guard.ram_limit guard.caps_limit

-- a session that is backed is closed with all that was donated
pub ended_whole : (x : Session) (accounts : ℕ → Account) → WithinLimits x.account → Backs (accounts x.server) x.account →
    session_ended x accounts ≡ record { accounts = with_account x.server (account_left (accounts x.server) x.account) accounts; returned = limits_of x.account }
ended_whole x accounts within backs =
    let account = credited (accounts x.server) x.account.ram_used x.account.caps_used in
    let back = all_back (accounts x.server) x.account within backs in
    λ i. record { accounts = with_account x.server (parted_with account (back i).ram (back i).caps) accounts; returned = back i }

-- and takes its part from the sums
pub pays_ended : (base accounts : ℕ → Account) (before after : Shares) (x : Session) → Pays base accounts before → WithinLimits x.account → Backs (accounts x.server) x.account →
    ((f : Account → ℕ) → Replaced f x.server before after (f x.account) 0) → Pays base (with_account x.server (account_left (accounts x.server) x.account) accounts) after
pays_ended base accounts before after x pays within backs shares =
    let account = account_left (accounts x.server) x.account in
    record {
      ram_limit = has_moved (λ a. a.ram_limit) base accounts before after x.server account x.account.ram_limit 0 pays.ram_limit (shares (λ a. a.ram_limit)) (omega (arith, within.ram, backs.ram_used, backs.ram_left));
      ram_used = has_moved (λ a. a.ram_used) base accounts before after x.server account x.account.ram_used 0 pays.ram_used (shares (λ a. a.ram_used)) (omega (arith, backs.ram_used));
      caps_limit = has_moved (λ a. a.caps_limit) base accounts before after x.server account x.account.caps_limit 0 pays.caps_limit (shares (λ a. a.caps_limit)) (omega (arith, within.caps, backs.caps_used, backs.caps_left));
      caps_used = has_moved (λ a. a.caps_used) base accounts before after x.server account x.account.caps_used 0 pays.caps_used (shares (λ a. a.caps_used)) (omega (arith, backs.caps_used));
    }

-- ---- all of a list

-- the sums over a list of objects
abbrev pub shares_among : List Object → Shares
shares_among objects f server = sum_by (share f server) objects

-- an object is within its limits, if it is a session
abbrev pub ObjectWithin : Object → Type 0
ObjectWithin object = (session : Session) → object ≡ OpenSession session → WithinLimits session.account

-- the first takes its part from the sums
first_ended : (x : Session) (objects : List Object) (f : Account → ℕ) → Replaced f x.server (shares_among (OpenSession x ∷ objects)) (shares_among objects) (f x.account) 0
first_ended x objects f server =
    let all = sum_by-cons (share f server) (OpenSession x) objects in
    omega (arith, all, none_either (x.server == server))

-- what is no more for each is no more for all
among_le : (f g : Account → ℕ) (server : ℕ) (objects : List Object) → AllByRecursion ObjectWithin objects →
    ((a : Account) → WithinLimits a → f a ≤ g a) → shares_among objects f server ≤ shares_among objects g server
among_le f g server [] each less = omega arith
among_le f g server (object ∷ objects) each less =
    let here = share_le f g server object (λ session is. less session.account (each.0 session is)) in
    let rest = among_le f g server objects each.1 less in
    omega (arith, here, rest, sum_by-cons (share f server) object objects, sum_by-cons (share g server) object objects)

-- an account backs the first
first_backed : (base accounts : ℕ → Account) (x : Session) (objects : List Object) → Pays base accounts (shares_among (OpenSession x ∷ objects)) → AccountsWithin base →
    AllByRecursion ObjectWithin (OpenSession x ∷ objects) → Backs (accounts x.server) x.account
first_backed base accounts x objects pays spare each =
    let within = each.0 x refl in
    let rest = spare x.server in
    let own : (f : Account → ℕ) → shares_among (OpenSession x ∷ objects) f x.server ≡ f x.account + shares_among objects f x.server
    = λ f. subst (λ b. shares_among (OpenSession x ∷ objects) f x.server ≡ cond b (f x.account) 0 + shares_among objects f x.server) (eq-eqb x.server x.server refl) (sum_by-cons (share f x.server) (OpenSession x) objects) in
    let ram = among_le (λ a. a.ram_used) (λ a. a.ram_limit) x.server objects each.1 (λ a w. w.ram) in
    let caps = among_le (λ a. a.caps_used) (λ a. a.caps_limit) x.server objects each.1 (λ a w. w.caps) in
    let ru = own (λ a. a.ram_used) in
    let rl = own (λ a. a.ram_limit) in
    let cu = own (λ a. a.caps_used) in
    let cl = own (λ a. a.caps_limit) in
    record {
      ram_used = omega (arith, pays.ram_used x.server, ru);
      caps_used = omega (arith, pays.caps_used x.server, cu);
      ram_left = omega (arith, pays.ram_used x.server, pays.ram_limit x.server, ru, rl, ram, rest.ram, within.ram);
      caps_left = omega (arith, pays.caps_used x.server, pays.caps_limit x.server, cu, cl, caps, rest.caps, within.caps);
    }

-- what is left once all are closed, and what came back
pub record AllEnded (base : ℕ → Account) (objects : List Object) (closed : Closed) : Type 0 where
  pub pays : Pays base closed.accounts (shares_among [])
  pub ram : closed.returned.ram ≡ sum_by ram_with objects
  pub caps : closed.returned.caps ≡ sum_by caps_with objects

-- what is no session is passed
passed : (base : ℕ → Account) (object : Object) (objects : List Object) (closed : Closed) → ram_with object ≡ 0 → caps_with object ≡ 0 →
    AllEnded base objects closed → AllEnded base (object ∷ objects) closed
passed base object objects closed ram caps rest = record {
  pays = rest.pays;
  ram = omega (arith, rest.ram, ram, sum_by-cons ram_with object objects);
  caps = omega (arith, rest.caps, caps, sum_by-cons caps_with object objects);
}

-- and its accounts have what those after it have
passes : (base accounts : ℕ → Account) (object : Object) (objects : List Object) → ((f : Account → ℕ) (server : ℕ) → share f server object ≡ 0) →
    Pays base accounts (shares_among (object ∷ objects)) → Pays base accounts (shares_among objects)
passes base accounts object objects none pays =
    let same : (f : Account → ℕ) (server : ℕ) → shares_among (object ∷ objects) f server ≡ shares_among objects f server
    = λ f server. omega (arith, sum_by-cons (share f server) object objects, none f server) in
    record {
      ram_limit = λ server. omega (arith, pays.ram_limit server, same (λ a. a.ram_limit) server);
      ram_used = λ server. omega (arith, pays.ram_used server, same (λ a. a.ram_used) server);
      caps_limit = λ server. omega (arith, pays.caps_limit server, same (λ a. a.caps_limit) server);
      caps_used = λ server. omega (arith, pays.caps_used server, same (λ a. a.caps_used) server);
    }

-- all are closed with all that was donated
all_ended : (base accounts : ℕ → Account) (objects : List Object) → AccountsWithin base → AllByRecursion ObjectWithin objects → Pays base accounts (shares_among objects) →
    AllEnded base objects (sessions_ended objects accounts)
all_ended base accounts [] spare each pays = record { pays = pays; ram = refl; caps = refl }
all_ended base accounts (Dataspace bytes ∷ objects) spare each pays =
    passed base (Dataspace bytes) objects (sessions_ended objects accounts) refl refl
    (all_ended base accounts objects spare each.1 (passes base accounts (Dataspace bytes) objects (λ f server. refl) pays))
all_ended base accounts (RpcObject ∷ objects) spare each pays =
    passed base RpcObject objects (sessions_ended objects accounts) refl refl
    (all_ended base accounts objects spare each.1 (passes base accounts RpcObject objects (λ f server. refl) pays))
all_ended base accounts (Buffer session bytes ∷ objects) spare each pays =
    passed base (Buffer session bytes) objects (sessions_ended objects accounts) refl refl
    (all_ended base accounts objects spare each.1 (passes base accounts (Buffer session bytes) objects (λ f server. refl) pays))
all_ended base accounts (OpenSession x ∷ objects) spare each pays =
    let within = each.0 x refl in
    let backs = first_backed base accounts x objects pays spare each in
    let left : ℕ → Account = with_account x.server (account_left (accounts x.server) x.account) accounts in
    let after = pays_ended base accounts (shares_among (OpenSession x ∷ objects)) (shares_among objects) x pays within backs (first_ended x objects) in
    let rest = all_ended base left objects spare each.1 after in
    let joined : Closed → Closed = λ first. record {
      accounts = (sessions_ended objects first.accounts).accounts;
      returned = more_of first.returned (sessions_ended objects first.accounts).returned;
    } in
    subst (λ first. AllEnded base (OpenSession x ∷ objects) (joined first)) (sym (ended_whole x accounts within backs)) (record {
      pays = rest.pays;
      ram = omega (arith, rest.ram, sum_by-cons ram_with (OpenSession x) objects);
      caps = omega (arith, rest.caps, sum_by-cons caps_with (OpenSession x) objects);
    })

-- ---- all of a map

-- what holds of each value by its key holds of each of the list
each_value : {X : Type 0} (P : X → Type 0) (es : List (ℕ × X)) → KeysDiffer es → ((k : ℕ) (v : X) → value_of k es ≡ Some v → P v) → AllByRecursion P (map (λ (e : ℕ × X). e.1) es)
each_value P [] differ each = tt
each_value P (e ∷ es) differ each = (
  each e.0 e.1 (value_of_first e.0 e es (eq-eqb e.0 e.0 refl)),
  each_value P es differ.1 (λ k v there. each k v (later_value k v e es differ.0 there)),
)

values_within : (m : NatMap Object) → AllWithin m → AllByRecursion ObjectWithin (values m)
values_within m each = each_value ObjectWithin (entries m) (KeysDiffer-sorted (entries m) (entries_sorted m))
    (λ k v there session is. each k session (get-entries m k ∙ there ∙ ap Some is))

-- sums over a map are those over its values
among_values : (m : NatMap Object) (f : Account → ℕ) (server : ℕ) → shares_in m f server ≡ shares_among (values m) f server
unfolding total
among_values m f server = refl

ram_values : (m : NatMap Object) → total ram_with m ≡ sum_by ram_with (values m)
unfolding total
ram_values m = refl

caps_values : (m : NatMap Object) → total caps_with m ≡ sum_by caps_with (values m)
unfolding total
caps_values m = refl

-- what is left once all of a client's sessions are closed
pub record Emptied (base : ℕ → Account) (m : NatMap Object) (closed : Closed) : Type 0 where
  pub pays : Pays base closed.accounts (λ f server. 0)
  pub ram : closed.returned.ram ≡ total ram_with m
  pub caps : closed.returned.caps ≡ total caps_with m

pub map_emptied : (base accounts : ℕ → Account) (m : NatMap Object) → AccountsWithin base → AllWithin m → Pays base accounts (shares_in m) → Emptied base m (sessions_ended (values m) accounts)
map_emptied base accounts m spare within pays =
    let listed : Pays base accounts (shares_among (values m)) = record {
      ram_limit = λ server. pays.ram_limit server ∙ ap (λ n. (base server).ram_limit + n) (among_values m (λ a. a.ram_limit) server);
      ram_used = λ server. pays.ram_used server ∙ ap (λ n. (base server).ram_used + n) (among_values m (λ a. a.ram_used) server);
      caps_limit = λ server. pays.caps_limit server ∙ ap (λ n. (base server).caps_limit + n) (among_values m (λ a. a.caps_limit) server);
      caps_used = λ server. pays.caps_used server ∙ ap (λ n. (base server).caps_used + n) (among_values m (λ a. a.caps_used) server);
    } in
    let ended = all_ended base accounts (values m) spare (values_within m within) listed in
    record { pays = record { ram_limit = ended.pays.ram_limit; ram_used = ended.pays.ram_used; caps_limit = ended.pays.caps_limit; caps_used = ended.pays.caps_used }; ram = ended.ram ∙ sym (ram_values m); caps = ended.caps ∙ sym (caps_values m) }
