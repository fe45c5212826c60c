-- Laws for callers: what the part of an account tells of the memory, and what calls for one account leave.
use Rattle.std.proofs.Common.{◌≡◌, ◌≢◌, ℕ, Bool, true, false, cond, eqb, eqb-true, List, [], Some, IsSome, unwrap_or, refl, sym, ap, subst, ◌∙◌, rules}
use Rattle.std.specs.Prelude.{Option, None}
use Rattle.std.specs.Option.{option_and_then}
use Rattle.std.specs.FinMap.{get}
use Rattle.own_model.specs.Account.{Account, opened}
use Rattle.own_model.proofs.NatMapLemmas.{get-picked, value_at}
use Rattle.dataspace_core.specs.Store.{Store, Space, IsOpenIn, account_in, Exists, space_at, Part, part, bytes_paid_by, account_of, bytes_of, PartBecomes}
use Rattle.dataspace_core.proofs.PartLemmas.{part-payer}

-- ---- calls for one account

-- a call that changes nothing leaves the part
pub becomes_same : (account : ℕ) (store : Store) → PartBecomes account (part account store) store store
becomes_same account store = record { own = refl; others = λ other apart. refl; root = refl; parents = refl; room = refl }

-- a call after another: the part is what the last one left, and the others are still what they were
pub becomes_then : {account : ℕ} {p q : Part} {s t u : Store} → PartBecomes account p s t → PartBecomes account q t u → PartBecomes account q s u
becomes_then first next = search (rules)

-- ---- the account of a part

-- the account of a part is what a contract reads under its key
pub account_of-part : (account : ℕ) (store : Store) → account_of (part account store) ≡ account_in store account
unfolding part
account_of-part account store = refl

-- so what the part has is what is read
pub account_by : (account : ℕ) (store : Store) (x : Account) → (part account store).account ≡ Some x → account_in store account ≡ x
account_by account store x is = sym (account_of-part account store) ∙ ap (λ (o : Option Account). unwrap_or o (opened 0 0)) is

-- the part of an open account has it
pub part_open : (account : ℕ) (store : Store) → IsOpenIn store account → IsSome (part account store).account
unfolding part
part_open account store opens = opens

-- and an account that a part has is open
pub open_in_part : (account : ℕ) (store : Store) → IsSome (part account store).account → IsOpenIn store account
unfolding part
open_in_part account store there = there

-- so an account stays open that is open in what its part becomes
pub open_after : {account : ℕ} {p : Part} {s t : Store} → PartBecomes account p s t → IsSome p.account → IsOpenIn t account
open_after {account} {t = t} becomes there = open_in_part account t (subst (λ (q : Part). IsSome q.account) (sym becomes.own) there)

-- ---- the dataspaces of a part

-- the account pays for this dataspace, which has these bytes
pub record IsPaidBy (account ds : ℕ) (bytes : List ℕ) (store : Store) : Type 0 where
  pub exists : Exists store ds
  pub payer : (space_at store ds).payer ≡ account
  pub bytes_are : (space_at store ds).bytes ≡ bytes

-- bytes that only their payer is given are the payer's
paid_test : (test : Bool) (payer account : ℕ) (own bytes : List ℕ) → (test ≡ true → payer ≡ account) → cond test (Some own) None ≡ Some bytes → (payer ≡ account) × (own ≡ bytes)
paid_test true payer account own bytes pays h = (pays refl, cc)
paid_test false payer account own bytes pays h = cc

-- a dataspace that is there is the payer's
paid_space : (account : ℕ) (o : Option Space) (bytes : List ℕ) → option_and_then (bytes_paid_by account) o ≡ Some bytes →
    (IsSome o) × ((unwrap_or o (record { payer = 0; bytes = [] })).payer ≡ account) × ((unwrap_or o (record { payer = 0; bytes = [] })).bytes ≡ bytes)
paid_space account None bytes h = cc
paid_space account (Some space) bytes h =
    let pays = paid_test (eqb space.payer account) space.payer account space.bytes bytes (eqb-true space.payer account) h in
    (refl, pays.0, pays.1)

-- a dataspace in a part is there, its account pays for it, and it has these bytes
pub paid_in_part : (account ds : ℕ) (bytes : List ℕ) (store : Store) → get (part account store).spaces ds ≡ Some bytes → IsPaidBy account ds bytes store
unfolding part
paid_in_part account ds bytes store has =
    let paid = paid_space account (get store.spaces ds) bytes (sym (get-picked (bytes_paid_by account) store.spaces ds) ∙ has) in
    record { exists = paid.0; payer = paid.1; bytes_are = paid.2 }

-- a dataspace that exists is in its payer's part
pub part_of_payer : (store : Store) (ds : ℕ) → Exists store ds → get (part (space_at store ds).payer store).spaces ds ≡ Some (space_at store ds).bytes
part_of_payer store ds exists = let found = value_at store.spaces ds exists in part-payer store ds found.0 found.1

-- so what an account pays for is in its part
pub part_paid : {account ds : ℕ} {bytes : List ℕ} {store : Store} → IsPaidBy account ds bytes store → get (part account store).spaces ds ≡ Some bytes
part_paid {account} {ds} {bytes} {store} paid =
    ap (λ a. get (part a store).spaces ds) (sym paid.payer) ∙ part_of_payer store ds paid.exists ∙ ap Some paid.bytes_are

-- after calls for an account its part has what it became
pub paid_after : {account ds : ℕ} {bytes : List ℕ} {p : Part} {s t : Store} → PartBecomes account p s t → get p.spaces ds ≡ Some bytes → IsPaidBy account ds bytes t
paid_after {account} {ds} {bytes} {t = t} becomes has = paid_in_part account ds bytes t (ap (λ (q : Part). get q.spaces ds) becomes.own ∙ has)

-- and what another pays for is what it was
pub paid_by_other : {account ds other : ℕ} {bytes : List ℕ} {p : Part} {s t : Store} → PartBecomes account p s t → other ≢ account → IsPaidBy other ds bytes s → IsPaidBy other ds bytes t
paid_by_other {ds = ds} {other} {bytes} {t = t} becomes apart paid =
    paid_in_part other ds bytes t (ap (λ (q : Part). get q.spaces ds) (becomes.others other apart) ∙ part_paid paid)

-- its bytes are those of the part
pub bytes_of-paid : {account ds : ℕ} {bytes : List ℕ} {store : Store} → IsPaidBy account ds bytes store → bytes_of (part account store) ds ≡ bytes
bytes_of-paid paid = ap (λ o. unwrap_or o []) (part_paid paid)

-- a call that changes a dataspace's payer changes this account
pub becomes_paid : {account ds : ℕ} {bytes : List ℕ} {s t : Store} (change : Part → Part) → IsPaidBy account ds bytes s → PartBecomes (space_at s ds).payer (change (part (space_at s ds).payer s)) s t → PartBecomes account (change (part account s)) s t
becomes_paid {s = s} {t} change paid becomes = subst (λ a. PartBecomes a (change (part a s)) s t) paid.payer becomes
