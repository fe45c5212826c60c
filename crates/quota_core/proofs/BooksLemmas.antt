-- What a change of the slab of entries does to the books.
use Rattle.std.proofs.Common.{◌≡◌, ◌≢◌, ℕ, ◌+◌, ◌-◌, ◌≤◌, [], Some, IsSome, is_some, true≢false, unwrap_or, refl, sym, ap, subst, ◌∙◌, arith}
use Rattle.std.specs.Prelude.{None, Result, Ok, Err, OnOk, OnErr}
use Rattle.std.specs.FinMap.{get, insert, remove, empty}
use Rattle.slab.specs.Slab.{Slab, Updates, slab_len, with_value, ContainsKey}
use Rattle.slab.specs.Slab as slab
use Rattle.own_model.specs.Account.{Account, opened}
use Rattle.own_model.specs.NatMap.{NatMap}
use Rattle.own_model.proofs.NatMapLemmas.{natmaps, same, insert_back, apart_from_free, get-remove_same, get-remove_other}
use Rattle.quota_core.specs.Books.{Books, IsOpen, account_at, fresh_books, with_account, HasNoChild, AreSound}
use Rattle.quota_core.specs.SlabBooks.{parents_of, books_of}
use Rattle.quota_core.specs.declared.books.AccountEntry.{AccountEntry}
use Rattle.quota_core.specs.SlabMap.{map_of}
use Rattle.quota_core.proofs.BooksLaws.{Leaves, leaves}
use Rattle.quota_core.proofs.SlabMap.{get-map_of_at, get-map_of_none, map_of-empty, map_of-insert, map_of-remove, map_of-with_value, slab_len-with_value, ContainsKey-map_of}

-- books that agree in each part are equal
same_books : {m n : NatMap Account} {p q : NatMap ℕ} {root key room left : ℕ} → m ≡ n → p ≡ q → root ≡ key → room ≡ left → ◌≡◌ {A = Books} (record { accounts = m; parents = p; root = root; room = room }) (record { accounts = n; parents = q; root = key; room = left })
same_books accounts parents root room i = record { accounts = accounts i; parents = parents i; root = root i; room = room i }

module _ (s : Slab AccountEntry) (root : ℕ) (books : Books) (keeps : books_of s root ≡ books) where
  -- the account that the books have
  pub account_at-slab : (key : ℕ) (entry : AccountEntry) → slab.get s key ≡ Some entry → account_at books key ≡ entry.account
  account_at-slab key entry found =
      ap (λ b. account_at b key) (sym keeps) ∙ ap (λ o. unwrap_or o (opened 0 0)) (get-map_of_at (λ e. e.account) s key entry found)

  -- the parent that the books have
  pub parent_at-slab : (key : ℕ) (entry : AccountEntry) → slab.get s key ≡ Some entry → IsSome (get books.parents key) → get books.parents key ≡ Some entry.parent.0
  parent_at-slab key entry found there =
      let kept : IsSome (get (parents_of s root) key) = ap (λ b. is_some (get b.parents key)) keeps ∙ there in
      let apart : key ≢ root = λ same. absurd (true≢false (sym kept ∙ ap is_some (get-remove_same _ root key same))) in
      ap (λ b. get b.parents key) (sym keeps) ∙ get-remove_other _ root key apart ∙ get-map_of_at (λ e. e.parent.0) s key entry found

  -- an account that is open has an entry
  pub entry_there : (key : ℕ) → IsOpen books key → ContainsKey s key
  entry_there key there = ContainsKey-map_of (λ e. e.account) s key (ap (λ b. is_some (get b.accounts key)) keeps ∙ there)

  -- the account of an entry is written
  account_written : (key : ℕ) (old new : AccountEntry) → slab.get s key ≡ Some old → new.parent ≡ old.parent → books_of (with_value s key new) root ≡ with_account books key new.account
  account_written key old new found kin =
      let present : ContainsKey s key = ap is_some found in
      let parents = map_of-with_value (λ (e : AccountEntry). e.parent.0) s key new present ∙ ap (λ a. insert (map_of (λ (e : AccountEntry). e.parent.0) s) key a.0) kin ∙ insert_back _ key old.parent.0 (get-map_of_at (λ e. e.parent.0) s key old found) in
      same_books (map_of-with_value (λ e. e.account) s key new present ∙ ap (λ b. insert b.accounts key new.account) keeps)
      (ap (λ m. remove m root) parents ∙ ap (λ b. b.parents) keeps)
      (ap (λ b. b.root) keeps)
      (ap (λ n. s.capacity - n) (slab_len-with_value s key new present) ∙ ap (λ b. b.room) keeps)

  -- it is changed
  pub account_changed : (change : Account → Account) (key : ℕ) (old new : AccountEntry) → slab.get s key ≡ Some old → new.parent ≡ old.parent → new.account ≡ change old.account → books_of (with_value s key new) root ≡ with_account books key (change (account_at books key))
  account_changed change key old new found kin changes =
      account_written key old new found kin ∙ ap (with_account books key) (changes ∙ ap change (sym (account_at-slab key old found)))

  -- it is written as it was
  pub account_kept : (key : ℕ) (old new : AccountEntry) → slab.get s key ≡ Some old → new.parent ≡ old.parent → new.account ≡ old.account → books_of (with_value s key new) root ≡ books
  account_kept key old new found kin stays =
      let there : get books.accounts key ≡ Some old.account = ap (λ b. get b.accounts key) (sym keeps) ∙ get-map_of_at (λ e. e.account) s key old found in
      account_written key old new found kin ∙ same_books (ap (insert books.accounts key) stays ∙ insert_back books.accounts key old.account there) refl refl refl

  -- it is changed, or kept
  pub changed_if : {X E : Type 0} (result : Result X E) (change : Account → Account) (key : ℕ) (old new : AccountEntry) → slab.get s key ≡ Some old → new.parent ≡ old.parent → OnOk result (new.account ≡ change old.account) → OnOk result (books_of (with_value s key new) root ≡ with_account books key (change (account_at books key)))
  changed_if (Ok x) change key old new found kin changes = account_changed change key old new found kin changes
  changed_if (Err e) change key old new found kin changes = tt

  pub kept_if : {X E : Type 0} (result : Result X E) (key : ℕ) (old new : AccountEntry) → slab.get s key ≡ Some old → new.parent ≡ old.parent → OnErr result (new.account ≡ old.account) → OnErr result (books_of (with_value s key new) root ≡ books)
  kept_if (Ok x) key old new found kin stays = tt
  kept_if (Err e) key old new found kin stays = account_kept key old new found kin stays

  -- a free key of the slab is one of the books
  pub free_key : (child : ℕ) → slab.get s child ≡ None → get books.accounts child ≡ None
  free_key child free = ap (λ b. get b.accounts child) (sym keeps) ∙ get-map_of_none (λ e. e.account) s child free

  -- an entry is inserted
  pub entry_inserted : (t : Slab AccountEntry) (child : ℕ) (entry : AccountEntry) → AreSound books → slab.get s child ≡ None → Updates s t child (Some entry) → slab_len t ≡ slab_len s + 1 → t.capacity ≡ s.capacity → books_of t root ≡ record books { accounts = insert books.accounts child entry.account; parents = insert books.parents child entry.parent.0; room = books.room - 1 }
  entry_inserted t child entry sound free updates more capacity =
      let is_root : books.root ≡ root = ap (λ b. b.root) (sym keeps) in
      let other : root ≢ child = apart_from_free books.accounts child root (free_key child free) (ap (λ k. is_some (get books.accounts k)) (sym is_root) ∙ sound.root) in
      let swapped : (m : NatMap ℕ) → remove (insert m child entry.parent.0) root ≡ insert (remove m root) child entry.parent.0 = λ m. same _ _ (λ q. grind (arith, natmaps)) in
      let less : t.capacity - slab_len t ≡ s.capacity - slab_len s - 1 = omega (arith, more, capacity) in
      same_books (map_of-insert (λ e. e.account) s t child entry updates ∙ ap (λ b. insert b.accounts child entry.account) keeps)
      (ap (λ m. remove m root) (map_of-insert (λ (e : AccountEntry). e.parent.0) s t child entry updates) ∙ swapped _ ∙ ap (λ b. insert b.parents child entry.parent.0) keeps)
      (ap (λ b. b.root) keeps) (less ∙ ap (λ b. b.room - 1) keeps)

  -- an entry is removed
  pub entry_removed : (t : Slab AccountEntry) (key : ℕ) → Updates s t key None → slab_len t + 1 ≡ slab_len s → slab_len t + 1 ≤ t.capacity → t.capacity ≡ s.capacity → books_of t root ≡ record books { accounts = remove books.accounts key; parents = remove books.parents key; room = books.room + 1 }
  entry_removed t key updates less within capacity =
      let swapped : (m : NatMap ℕ) → remove (remove m key) root ≡ remove (remove m root) key = λ m. same _ _ (λ q. grind (arith, natmaps)) in
      let more : t.capacity - slab_len t ≡ s.capacity - slab_len s + 1 = omega (arith, less, within, capacity) in
      same_books (map_of-remove (λ e. e.account) s t key updates ∙ ap (λ b. remove b.accounts key) keeps)
      (ap (λ m. remove m root) (map_of-remove (λ (e : AccountEntry). e.parent.0) s t key updates) ∙ swapped _ ∙ ap (λ b. remove b.parents key) keeps)
      (ap (λ b. b.root) keeps) (more ∙ ap (λ b. b.room + 1) keeps)

  -- an entry is removed that is no other's parent
  pub entry_leaves : (t : Slab AccountEntry) (key : ℕ) (entry : AccountEntry) → AreSound books → slab.get s key ≡ Some entry → IsSome (get books.parents key) → HasNoChild books key →
      Updates s t key None → slab_len t + 1 ≡ slab_len s → slab_len t + 1 ≤ t.capacity → t.capacity ≡ s.capacity → Leaves books (books_of t root) key entry.parent.0 entry.account
  entry_leaves t key entry sound found child leaf updates less within capacity =
      let is = parent_at-slab key entry found child in
      subst (λ b. Leaves books b key entry.parent.0 entry.account) (sym (entry_removed t key updates less within capacity))
      (subst (Leaves books _ key entry.parent.0) (account_at-slab key entry found) (leaves books sound key entry.parent.0 is leaf))

-- the first entry is the root's
pub booted : (s t : Slab AccountEntry) (root ram caps : ℕ) (entry : AccountEntry) → s.slots ≡ [] → entry.account ≡ opened ram caps → Updates s t root (Some entry) → books_of t root ≡ fresh_books root ram caps ((books_of t root).room + 1)
booted s t root ram caps entry none opens updates =
    let no_parents : remove (insert (empty {X = ℕ}) root entry.parent.0) root ≡ empty = same _ _ (λ q. grind (arith, natmaps)) in
    same_books (map_of-insert (λ e. e.account) s t root entry updates ∙ ap (λ m. insert m root entry.account) (map_of-empty (λ e. e.account) s none) ∙ ap (insert empty root) opens)
    (ap (λ m. remove m root) (map_of-insert (λ (e : AccountEntry). e.parent.0) s t root entry updates ∙ ap (λ m. insert m root entry.parent.0) (map_of-empty (λ e. e.parent.0) s none)) ∙ no_parents)
    refl (omega arith)
