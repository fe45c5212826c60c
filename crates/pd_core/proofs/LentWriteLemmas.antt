-- A write into what a session lends: what it leaves of the memory and of the accounts.
use Rattle.std.proofs.Common.{◌≡◌, ◌≢◌, ℕ, ◌+◌, ◌*◌, ◌≤◌, List, [], false, Some, unwrap_or, refl, sym, ap, subst, ◌∙◌, inl, inr}
use Rattle.std.proofs.lemmas.Bool.{cases_eq}
use Rattle.std.specs.Prelude.{Option}
use Rattle.std.specs.FinMap.{get}
use Rattle.trade_base.specs.Bytes.{with_bytes}
use Rattle.own_model.specs.NatMap.{total}
use Rattle.own_model.proofs.NatMapLemmas.{same, get-insert_same, get-insert_other}
use Rattle.quota_core.specs.Books.{Books, IsOpen, IsChildOf, account_at, caps_limits}
use Rattle.dataspace_core.specs.Room.{inner_weight, HasRoom}
use Rattle.dataspace_core.specs.Store.{Store, Part, part, part_with_bytes, accounts_in, space_at, Exists, PartBecomes}
use Rattle.dataspace_core.proofs.PartLaws.{IsPaidBy, paid_in_part, part_of_payer}
use Rattle.pd_core.specs.Core.{Heads}

module _ (store store' : Store) (key offset : ℕ) (put : List ℕ) (there : Exists store key)
    (becomes : PartBecomes (space_at store key).payer (part_with_bytes (part (space_at store key).payer store) key offset put) store store') where
  abbrev payer : ℕ
  payer = (space_at store key).payer

  -- each account stays
  account_stays : (k : ℕ) → (part k store').account ≡ (part k store).account
  account_stays k = elim (cases_eq k payer) [
    | inl at ↦ ap (λ n. (part n store').account) at ∙ ap (λ (p : Part). p.account) becomes.own ∙ ap (λ n. (part n store).account) (sym at)
    | inr other ↦ ap (λ (p : Part). p.account) (becomes.others k other)
  ]

  -- so the books do
  pub same_books : store'.books ≡ store.books
  unfolding part
  same_books = let accounts = same (accounts_in store') (accounts_in store) account_stays in
      λ i. record { accounts = accounts i; parents = becomes.parents i; root = becomes.root i; room = becomes.room i }

  -- another dataspace stays what it is
  pub other_stays : (other : ℕ) → other ≢ key → Exists store other → IsPaidBy (space_at store other).payer other (space_at store other).bytes store'
  other_stays other apart exists =
      let mine = (space_at store other).payer in
      paid_in_part mine other (space_at store other).bytes store' (elim (cases_eq mine payer) [
        | inl at ↦
            ap (λ k. get (part k store').spaces other) at ∙ ap (λ (p : Part). get p.spaces other) becomes.own
            ∙ get-insert_other (part payer store).spaces key _ other apart ∙ ap (λ k. get (part k store).spaces other) (sym at) ∙ part_of_payer store other exists
        | inr differs ↦ ap (λ (p : Part). get p.spaces other) (becomes.others mine differs) ∙ part_of_payer store other exists
      ])

  -- and this one has the bytes
  pub put_there : IsPaidBy payer key (with_bytes (space_at store key).bytes offset put) store'
  put_there = paid_in_part payer key _ store' (
      ap (λ (p : Part). get p.spaces key) becomes.own ∙ get-insert_same (part payer store).spaces key _ key refl
      ∙ ap (λ (o : Option (List ℕ)). Some (with_bytes (unwrap_or o []) offset put)) (part_of_payer store key there))

-- room for accounts goes by the books
pub room_by_books : (heads : Heads) {store store' : Store} → store'.books ≡ store.books → HasRoom heads store → HasRoom heads store'
room_by_books heads same room = record {
  counted = subst (λ (b : Books). caps_limits b ≤ (b.room + total (inner_weight heads) b.parents) * 2 + 1) (sym same) room.counted;
  there = subst (λ (b : Books). (account parent : ℕ) → IsChildOf b account parent → IsOpen b account) (sym same) room.there;
  paid = subst (λ (b : Books). (account parent : ℕ) → IsChildOf b account parent → heads parent ≡ false → 2 ≤ (account_at b account).caps_limit) (sym same) room.paid;
}
