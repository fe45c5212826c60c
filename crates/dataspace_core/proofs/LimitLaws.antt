-- Laws for callers: the limits of a memory after a call for one account, and the pages that a heap window shows of it.
use Rattle.std.proofs.Common.{◌≡◌, ◌≢◌, ◌≤◌, ◌+◌, ◌*◌, ℕ, Some, length, refl, sym, ap, ◌∙◌, arith, zero-add, rules}
use Rattle.std.proofs.lemmas.Bool.{cases_eq}
use Rattle.std.proofs.lemmas.Option.{none-some}
use Rattle.std.specs.Prelude.{Option, None, unwrap_or}
use Rattle.std.specs.FinMap.{get, insert, remove, len, empty}
use Rattle.own_model.specs.NatMap.{NatMap, total}
use Rattle.own_model.specs.Account.{Account, opened}
use Rattle.own_model.specs.Region.{Region}
use Rattle.own_model.specs.HeapWindow.{pages_of_all}
use Rattle.own_model.proofs.NatMapLemmas.{same, by_insertions, get-empty, get-insert_same, get-insert_other, get-remove_other, value_at}
use Rattle.own_model.proofs.Totals.{total-empty, total-insert_new, total-insert_same, total-remove, total_le, len-total}
use Rattle.dataspace_core.specs.Share.{IsShown}
use Rattle.dataspace_core.specs.Store.{Store, Space, Part, part, account_in, accounts_in, IsOpenIn, PartBecomes, fresh_store, ram_limits_in}

-- all limits of a memory that has just booted
pub fresh_limits : (root pages caps accounts places : ℕ) → ram_limits_in (fresh_store root pages caps accounts places) ≡ pages * 4096
fresh_limits root pages caps accounts places =
    total-insert_new (λ (a : Account). a.ram_limit) empty root (opened (pages * 4096) caps) (get-empty root) ∙ ap (λ n. n + pages * 4096) (total-empty (λ (a : Account). a.ram_limit)) ∙ zero-add (pages * 4096)

-- the accounts after a call are those before, with the one that it is for as its part has it
pub accounts_after : (account : ℕ) (after : Part) (old new : Store) (a : Account) → PartBecomes account after old new → after.account ≡ Some a → accounts_in new ≡ insert (accounts_in old) account a
unfolding part
accounts_after account after old new a becomes is = search (rules, same, get-insert_same, get-insert_other, cases_eq)

-- a call that leaves the limit of its account leaves the limits of all
pub limits_after : (account : ℕ) (after : Part) (old new : Store) (a : Account) → PartBecomes account after old new → after.account ≡ Some a → IsOpenIn old account → a.ram_limit ≡ (account_in old account).ram_limit → ram_limits_in new ≡ ram_limits_in old
limits_after account after old new a becomes is opens limit =
    let was = value_at (accounts_in old) account opens in
    let before : account_in old account ≡ was.0 = ap (λ (o : Option Account). unwrap_or o (opened 0 0)) was.1 in
    ap (total (λ (x : Account). x.ram_limit)) (accounts_after account after old new a becomes is)
    ∙ total-insert_same (λ x. x.ram_limit) (accounts_in old) account a was.0 was.1 (limit ∙ ap (λ (x : Account). x.ram_limit) before)

-- ---- a heap window shows no more than there is

-- regions that each show a dataspace of their own have no more pages than all dataspaces
Held : NatMap Region → Type 0
Held heap = (spaces : NatMap Space) → ((s : ℕ) (r : Region) → get heap s ≡ Some r → IsShown spaces r) → ((s t : ℕ) (r q : Region) → get heap s ≡ Some r → get heap t ≡ Some q → r.of ≡ q.of → s ≡ t) → pages_of_all heap * 4096 ≤ total (λ s. length s.bytes) spaces

held_none : Held empty
unfolding Held
held_none spaces shown once = let e = total-empty (λ (r : Region). r.pages) in omega (arith, e)

held_more : (heap : NatMap Region) (k : ℕ) (r : Region) → get heap k ≡ None → Held heap → Held (insert heap k r)
unfolding Held
held_more heap k r free rest spaces shown once =
    let mine = shown k r (get-insert_same heap k r k refl) in
    let apart : (s : ℕ) (q : Region) → get heap s ≡ Some q → (s ≢ k) × (get (insert heap k r) s ≡ Some q) = λ s q h. let e : s ≢ k = λ w. none-some q (sym free ∙ ap (get heap) (sym w) ∙ h) in (e, get-insert_other heap k r s e ∙ h) in
    let fewer = rest (remove spaces r.of)
    (λ s q h.
    let a = apart s q h in
    let its = shown s q a.1 in
    let other : q.of ≢ r.of = λ e. a.0 (once s k q r a.1 (get-insert_same heap k r k refl) e) in
    record { space = its.space; there = get-remove_other spaces r.of q.of other ∙ its.there; some = its.some; whole = its.whole })
    (λ s t q w h g e. once s t q w (apart s q h).1 (apart t w g).1 e) in
    let pages = total-insert_new (λ (x : Region). x.pages) heap k r free in
    let bytes = total-remove (λ (x : Space). length x.bytes) spaces r.of mine.space mine.there in
    let w = mine.whole in
    omega (arith, fewer, pages, bytes, w)

pub pages_held : (heap : NatMap Region) (spaces : NatMap Space) → ((s : ℕ) (r : Region) → get heap s ≡ Some r → IsShown spaces r) → ((s t : ℕ) (r q : Region) → get heap s ≡ Some r → get heap t ≡ Some q → r.of ≡ q.of → s ≡ t) → pages_of_all heap * 4096 ≤ total (λ s. length s.bytes) spaces
unfolding Held
pages_held heap = by_insertions Held held_none held_more heap

-- there are no more regions than they have pages
pub regions_within_pages : (heap : NatMap Region) → ((s : ℕ) (r : Region) → get heap s ≡ Some r → 1 ≤ r.pages) → len heap ≤ pages_of_all heap
regions_within_pages heap some = rw (len-total heap) (total_le (λ _. 1) (λ r. r.pages) heap some)
