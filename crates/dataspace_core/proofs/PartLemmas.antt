-- What a change of the memory does to the part of each account.
use Rattle.std.proofs.Common.{◌≡◌, ◌≢◌, ℕ, ◌<◌, List, [], Some, unwrap_or, refl, sym, ap, ◌∙◌, arith, rules}
use Rattle.std.proofs.lemmas.Bool.Decides.{nat_tests}
use Rattle.std.specs.Prelude.{Option, None}
use Rattle.std.specs.Option.{option_and_then}
use Rattle.std.specs.FinMap.{get}
use Rattle.own_model.specs.NatMap.{NatMap, picked}
use Rattle.own_model.specs.Account.{Account}
use Rattle.own_model.proofs.NatMapLemmas.{same, get-empty, get-insert_same, get-insert_other, get-remove_same, get-remove_other, get-picked, get-picked_none, get-picked_at, picked-insert_some, picked-insert_hidden, picked-insert_alike, picked-remove, picked-remove_hidden}
use Rattle.dataspace_core.specs.Store.{Store, Space, space_at, with_space, without_space, with_bytes_at, with_account_in, with_child_in, with_moved_in, without_account_in, parent_in, room_in}
use Rattle.dataspace_core.specs.Store.{Part, part, bytes_paid_by, bytes_of, part_with_space, part_without_space, part_with_bytes, PartBecomes, OpensPart, RaisesPart, ClosesPart}

-- its payer has the bytes of a dataspace in its part, and nobody else
paid_by : (account : ℕ) (space : Space) → space.payer ≡ account → bytes_paid_by account space ≡ Some space.bytes
paid_by account space e = grind (arith, nat_tests)

-- nobody else has
paid_by_another : (account : ℕ) (space : Space) → space.payer ≢ account → bytes_paid_by account space ≡ None
paid_by_another account space apart = grind (arith, nat_tests)

-- parts are equal where their fields are
same_part : (account other : Option Account) (spaces kept : NatMap (List ℕ)) → account ≡ other → spaces ≡ kept → ◌≡◌ {A = Part} (record { account = account; spaces = spaces }) (record { account = other; spaces = kept })
same_part account other spaces kept p q = λ i. record { account = p i; spaces = q i }

-- a dataspace that exists is what a contract reads under its key
pub space_at-some : (store : Store) (ds : ℕ) (space : Space) → get store.spaces ds ≡ Some space → space_at store ds ≡ space
space_at-some store ds space there = ap (λ (o : Option Space). unwrap_or o (record { payer = 0; bytes = [] })) there

-- a key that no dataspace has is in no part
pub part-fresh : (store : Store) (account ds : ℕ) → get store.spaces ds ≡ None → get (part account store).spaces ds ≡ None
unfolding part
part-fresh store account ds free = get-picked_none (bytes_paid_by account) store.spaces ds free

-- ---- a dataspace comes

module _ (store : Store) (ds payer n : ℕ) (free : get store.spaces ds ≡ None) where
  -- the payer is charged, and its part has a dataspace of zeros more
  pub becomes-with_space : PartBecomes payer (part_with_space (part payer store) ds n) store (with_space store ds payer n)
  unfolding part
  becomes-with_space = search (rules, same_part, get-insert_same, picked-insert_some, paid_by, get-insert_other, picked-insert_hidden, paid_by_another, get-picked_none)

-- ---- a dataspace goes, or is written

module _ (store : Store) (ds : ℕ) (space : Space) (there : get store.spaces ds ≡ Some space) where
  -- it is what a contract reads under its key
  at_key : space_at store ds ≡ space
  at_key = space_at-some store ds space there

  -- its payer's part has its bytes
  pub part-payer : get (part (space_at store ds).payer store).spaces ds ≡ Some (space_at store ds).bytes
  unfolding part
  part-payer = search (rules, get-picked_at, paid_by, at_key)

  -- so they are those that a contract reads there
  bytes_of-payer : bytes_of (part (space_at store ds).payer store) ds ≡ (space_at store ds).bytes
  bytes_of-payer = ap (λ o. unwrap_or o []) part-payer

  -- it is in no other part
  hidden : (other : ℕ) → other ≢ (space_at store ds).payer → get (picked (bytes_paid_by other) store.spaces) ds ≡ None
  hidden other apart =
      get-picked_at (bytes_paid_by other) store.spaces ds space there
      ∙ paid_by_another other space (λ e. apart (sym e ∙ ap (λ (s : Space). s.payer) (sym at_key)))

  -- the payer is credited, and its part has lost the dataspace
  pub becomes-without_space : PartBecomes (space_at store ds).payer (part_without_space (part (space_at store ds).payer store) ds) store (without_space store ds)
  unfolding part
  becomes-without_space = search (rules, same_part, get-insert_same, bytes_of-payer, picked-remove, get-insert_other, picked-remove_hidden, hidden)

  -- the payer's account stays, and its part has the dataspace with the new bytes
  pub becomes-with_bytes_at : (offset : ℕ) (bytes : List ℕ) → PartBecomes (space_at store ds).payer (part_with_bytes (part (space_at store ds).payer store) ds offset bytes) store (with_bytes_at store ds offset bytes)
  unfolding part
  becomes-with_bytes_at offset bytes = search (rules, same_part, picked-insert_some, paid_by, bytes_of-payer, picked-insert_alike, paid_by_another, hidden)

-- ---- an account is opened

-- nothing is picked where an account pays for nothing
nothing_picked : (account : ℕ) (o : Option Space) → ((space : Space) → o ≡ Some space → space.payer ≢ account) → option_and_then (bytes_paid_by account) o ≡ None
nothing_picked account None apart = refl
nothing_picked account (Some space) apart = paid_by_another account space (apart space refl)

module _ (store : Store) (parent child ram caps : ℕ) where
  -- the new account pays for nothing, and its parent has parted with its limits
  pub opens-with_child : parent ≢ child → 0 < room_in store → ((ds : ℕ) (space : Space) → get store.spaces ds ≡ Some space → space.payer ≢ child) → OpensPart parent child ram caps store (with_child_in store parent child ram caps)
  unfolding part
  opens-with_child apart place pays_for_none = search (rules, same_part, get-insert_same, same, get-picked, nothing_picked, get-empty, get-insert_other)

-- ---- an account is raised

-- the child has the limits that its parent has parted with
pub raises-with_moved : (store : Store) (parent child ram caps : ℕ) → parent ≢ child → RaisesPart parent child ram caps store (with_moved_in store parent child ram caps)
unfolding part
raises-with_moved store parent child ram caps apart = search (rules, same_part, get-insert_same, get-insert_other)

-- ---- an account goes

-- its parent has its limits, where it paid for nothing
pub closes-without_account : (store : Store) (account : ℕ) → parent_in store account ≢ account → ((ds : ℕ) (space : Space) → get store.spaces ds ≡ Some space → space.payer ≢ account) → ClosesPart account (parent_in store account) store (without_account_in store account)
unfolding part
closes-without_account store account apart pays_for_none = record {
  closed_one = same_part _ _ _ _
      (get-insert_other _ (parent_in store account) _ account (λ e. apart (sym e)) ∙ get-remove_same store.books.accounts account account refl)
      (same _ _ (λ q. get-picked (bytes_paid_by account) store.spaces q ∙ nothing_picked account (get store.spaces q) (pays_for_none q) ∙ sym (get-empty q)));
  raised_one = same_part _ _ _ _ (get-insert_same _ (parent_in store account) _ (parent_in store account) refl) refl;
  others = λ other apart_account apart_parent. same_part _ _ _ _
      (get-insert_other _ (parent_in store account) _ other apart_parent ∙ get-remove_other store.books.accounts account other apart_account)
      refl;
  root = refl;
  parents = refl;
  room = refl;
}

-- ---- an account is another

-- the part of an account that is another has that one, and the same dataspaces
pub becomes-with_account : (store : Store) (account : ℕ) (b : Account) → PartBecomes account (record (part account store) { account = Some b }) store (with_account_in store account b)
unfolding part
becomes-with_account store account b = search (rules, same_part, get-insert_same, get-insert_other)
