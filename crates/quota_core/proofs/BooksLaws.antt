-- What keeps books sound, and that limits are moved and never made.
use Rattle.std.proofs.Common.{◌≡◌, ◌≢◌, ℕ, ◌+◌, ◌-◌, ◌^◌, ◌<◌, ◌≤◌, Some, IsSome, is_some, unwrap_or, refl, sym, ap, subst, ◌∙◌, arith, inl, inr}
use Rattle.std.proofs.lemmas.Option.{none-some}
use Rattle.std.specs.Prelude.{None, Result, Ok, Err, IfOk, OnOk, OnErr}
use Rattle.std.specs.Result.{result_err}
use Rattle.std.specs.FinMap.{get, insert, remove}
use Rattle.trade_base.specs.declared.refusal.Refusal.{Refusal}
use Rattle.own_model.specs.Account.{Account, shortage, opened, parted_with}
use Rattle.own_model.specs.Donation.{raised}
use Rattle.own_model.specs.NatMap.{total}
use Rattle.own_model.proofs.NatMapLemmas.{natmaps, value_at, apart_from_free, after_insert, before_remove, get-insert_other, get-remove_same, get-remove_other, get-empty, IsSome-insert, IsSome-insert_same}
use Rattle.own_model.proofs.StepLemmas.{covers}
use Rattle.own_model.proofs.Totals.{total-empty, total-insert_at, total-insert_new, total-remove}
use Rattle.quota_core.specs.Books.{Books, IsOpen, IsChildOf, HasNoChild, AreSound, account_at, fresh_books, with_account, with_child, with_moved, without_account, ram_limits, caps_limits}

-- an open account is what the map has
pub account_there : (books : Books) (account : ℕ) → IsOpen books account → get books.accounts account ≡ Some (account_at books account)
account_there books account there =
    let at = value_at books.accounts account there in
    at.1 ∙ ap (λ o. Some (unwrap_or o (opened 0 0))) (sym at.1)

-- another account isn't touched by a write
pub account_elsewhere : (books : Books) (key other : ℕ) (a : Account) → other ≢ key → account_at (with_account books key a) other ≡ account_at books other
account_elsewhere books key other a apart = ap (λ o. unwrap_or o (opened 0 0)) (get-insert_other books.accounts key a other apart)

-- a key that is free after a write was free before
pub free_before : (books : Books) (key other : ℕ) (a : Account) → get (with_account books key a).accounts other ≡ None → get books.accounts other ≡ None
free_before books key other a free = grind (arith, natmaps, IsSome-insert_same books.accounts key a)

-- books of one account are sound
pub sound_fresh : (root ram caps places : ℕ) → ram < 2 ^ 64 → caps < 2 ^ 32 → AreSound (fresh_books root ram caps places)
sound_fresh root ram caps places few_ram few_caps = record {
  root = IsSome-insert_same _ root (opened ram caps) root refl;
  first = get-empty root;
  related = λ child parent is. absurd (none-some parent (sym (get-empty child) ∙ is));
  ram = let none = total-empty (λ (a : Account). a.ram_limit) in let one = total-insert_new (λ (a : Account). a.ram_limit) _ root (opened ram caps) (get-empty root) in omega (arith, none, one, few_ram);
  caps = let none = total-empty (λ (a : Account). a.caps_limit) in let one = total-insert_new (λ (a : Account). a.caps_limit) _ root (opened ram caps) (get-empty root) in omega (arith, none, one, few_caps);
}

module _ (books : Books) (sound : AreSound books) where
  -- ---- an account is another

  -- with limits that fit, books stay sound
  pub sound_with_account : (key : ℕ) (a : Account) → ram_limits (with_account books key a) < 2 ^ 64 → caps_limits (with_account books key a) < 2 ^ 32 → AreSound (with_account books key a)
  sound_with_account key a few_ram few_caps = record {
    root = IsSome-insert books.accounts key a books.root sound.root;
    first = sound.first;
    related = λ child parent is.
        let related = sound.related child parent is in
        record {
          apart = related.apart;
          child_open = IsSome-insert books.accounts key a child related.child_open;
          parent_open = IsSome-insert books.accounts key a parent related.parent_open;
        };
    ram = few_ram;
    caps = few_caps;
  }

  -- as they do where its limits are no more than before
  pub sound_with_less : (key : ℕ) (a : Account) → IsOpen books key → a.ram_limit ≤ (account_at books key).ram_limit → a.caps_limit ≤ (account_at books key).caps_limit → AreSound (with_account books key a)
  sound_with_less key a there less_ram less_caps =
      let ram = total-insert_at (λ (a : Account). a.ram_limit) books.accounts key a _ (account_there books key there) in
      let caps = total-insert_at (λ (a : Account). a.caps_limit) books.accounts key a _ (account_there books key there) in
      sound_with_account key a (omega (arith, ram, less_ram, sound.ram)) (omega (arith, caps, less_caps, sound.caps))

  -- so a change that makes no limits leaves them sound, and so does one that is refused
  pub sound_if : {X E : Type 0} (result : Result X E) (change : Account → Account) (key : ℕ) (after : Books) → IsOpen books key →
      ((change (account_at books key)).ram_limit ≤ (account_at books key).ram_limit) → ((change (account_at books key)).caps_limit ≤ (account_at books key).caps_limit) →
      OnOk result (after ≡ with_account books key (change (account_at books key))) → OnErr result (after ≡ books) → AreSound after
  sound_if (Ok x) change key after there less_ram less_caps changed kept = subst AreSound (sym changed) (sound_with_less key _ there less_ram less_caps)
  sound_if (Err e) change key after there less_ram less_caps changed kept = subst AreSound (sym kept) sound

  -- ---- an account comes

  -- under a free key, with limits that fit
  pub sound_entered : (child parent : ℕ) (a : Account) (room : ℕ) → get books.accounts child ≡ None → IsOpen books parent → ram_limits books + a.ram_limit < 2 ^ 64 → caps_limits books + a.caps_limit < 2 ^ 32 →
      AreSound (record books { accounts = insert books.accounts child a; parents = insert books.parents child parent; room = room })
  sound_entered child parent a room free there few_ram few_caps = record {
    root = IsSome-insert books.accounts child a books.root sound.root;
    first = get-insert_other books.parents child parent books.root (apart_from_free books.accounts child books.root free sound.root) ∙ sound.first;
    related = λ c p is. elim (after_insert books.parents child parent c p is) [
      | inl new ↦ record {
        apart = λ same. apart_from_free books.accounts child parent free there (sym new.1 ∙ same ∙ new.0);
        child_open = IsSome-insert_same books.accounts child a c new.0;
        parent_open = IsSome-insert books.accounts child a p (ap (λ k. is_some (get books.accounts k)) new.1 ∙ there);
      }
      | inr old ↦
          let related = sound.related c p old.1 in
          record {
            apart = related.apart;
            child_open = IsSome-insert books.accounts child a c related.child_open;
            parent_open = IsSome-insert books.accounts child a p related.parent_open;
          }
    ];
    ram = let one = total-insert_new (λ (a : Account). a.ram_limit) books.accounts child a free in omega (arith, one, few_ram);
    caps = let one = total-insert_new (λ (a : Account). a.caps_limit) books.accounts child a free in omega (arith, one, few_caps);
  }

  -- it has no child
  pub leaf_entered : (child parent : ℕ) (a : Account) (room : ℕ) → get books.accounts child ≡ None → IsOpen books parent → HasNoChild (record books { accounts = insert books.accounts child a; parents = insert books.parents child parent; room = room }) child
  leaf_entered child parent a room free there other is = elim (after_insert books.parents child parent other child is) [
    | inl new ↦ apart_from_free books.accounts child parent free there (sym new.1)
    | inr old ↦ apart_from_free books.accounts child child free (sound.related other child old.1).parent_open refl
  ]

  -- ---- an account goes

  -- a child isn't the root
  child_not_root : (account parent : ℕ) → IsChildOf books account parent → books.root ≢ account
  child_not_root account parent is same = none-some parent (sym sound.first ∙ ap (get books.parents) same ∙ is)

  -- one that is no parent
  pub sound_left : (account parent room : ℕ) → IsChildOf books account parent → HasNoChild books account → AreSound (record books { accounts = remove books.accounts account; parents = remove books.parents account; room = room })
  sound_left account parent room is leaf =
      let stays : (k : ℕ) → k ≢ account → IsOpen books k → IsSome (get (remove books.accounts account) k) = λ k apart there. ap is_some (get-remove_other books.accounts account k apart) ∙ there in
      let there = account_there books account (sound.related account parent is).child_open in
      record {
        root = stays books.root (child_not_root account parent is) sound.root;
        first = get-remove_other books.parents account books.root (child_not_root account parent is) ∙ sound.first;
        related = λ c p has.
            let was = before_remove books.parents account c p has in
            let related = sound.related c p was in
            record {
              apart = related.apart;
              child_open = stays c (λ same. none-some p (sym (get-remove_same books.parents account c same) ∙ has)) related.child_open;
              parent_open = stays p (λ same. leaf c (was ∙ ap Some same)) related.parent_open;
            };
        ram = let less = total-remove (λ (a : Account). a.ram_limit) books.accounts account _ there in omega (arith, less, sound.ram);
        caps = let less = total-remove (λ (a : Account). a.caps_limit) books.accounts account _ there in omega (arith, less, sound.caps);
      }

-- ---- limits are moved, and never made

-- of an account, either kind of limit
module _ (limit : Account → ℕ) (books : Books) where
  -- what one account has more, all have more
  limit_changed : (key : ℕ) (a : Account) → IsOpen books key → total limit (insert books.accounts key a) + limit (account_at books key) ≡ total limit books.accounts + limit a
  limit_changed key a there = total-insert_at limit books.accounts key a _ (account_there books key there)

module _ (books : Books) (parent ram caps : ℕ) (there : IsOpen books parent) (enough : shortage (account_at books parent) ram caps ≡ None) where
  -- what an account parts with, all have less
  pub ram_parted : ram_limits (with_account books parent (parted_with (account_at books parent) ram caps)) + ram ≡ ram_limits books
  ram_parted =
      let fits = (covers (account_at books parent) ram caps enough).ram_fits in
      omega (arith, fits, limit_changed (λ a. a.ram_limit) books parent (parted_with (account_at books parent) ram caps) there)

  pub caps_parted : caps_limits (with_account books parent (parted_with (account_at books parent) ram caps)) + caps ≡ caps_limits books
  caps_parted =
      let fits = (covers (account_at books parent) ram caps enough).caps_fit in
      omega (arith, fits, limit_changed (λ a. a.caps_limit) books parent (parted_with (account_at books parent) ram caps) there)

-- so an answer's part and what all then have are what all had
module _ (books after : Books) (account ram caps : ℕ) (there : IsOpen books account) where
  pub ram_parted_if : (result : Result Account Refusal) → result_err result ≡ shortage (account_at books account) ram caps → OnOk result (after ≡ with_account books account (parted_with (account_at books account) ram caps)) → IfOk result (λ part. part ≡ opened ram caps) → IfOk result (λ part. ram_limits after + part.ram_limit ≡ ram_limits books)
  ram_parted_if (Ok part) refusal parted is = omega (arith, ap ram_limits parted, ap (λ (a : Account). a.ram_limit) is, ram_parted books account ram caps there (sym refusal))
  ram_parted_if (Err e) refusal parted is = tt

  pub caps_parted_if : (result : Result Account Refusal) → result_err result ≡ shortage (account_at books account) ram caps → OnOk result (after ≡ with_account books account (parted_with (account_at books account) ram caps)) → IfOk result (λ part. part ≡ opened ram caps) → IfOk result (λ part. caps_limits after + part.caps_limit ≡ caps_limits books)
  caps_parted_if (Ok part) refusal parted is = omega (arith, ap caps_limits parted, ap (λ (a : Account). a.caps_limit) is, caps_parted books account ram caps there (sym refusal))
  caps_parted_if (Err e) refusal parted is = tt

-- what an account is raised by, all have more
pub ram_raised : (books : Books) (key ram caps : ℕ) → IsOpen books key → ram_limits (with_account books key (raised (account_at books key) ram caps)) ≡ ram_limits books + ram
ram_raised books key ram caps there = omega (arith, limit_changed (λ a. a.ram_limit) books key (raised (account_at books key) ram caps) there)

pub caps_raised : (books : Books) (key ram caps : ℕ) → IsOpen books key → caps_limits (with_account books key (raised (account_at books key) ram caps)) ≡ caps_limits books + caps
caps_raised books key ram caps there = omega (arith, limit_changed (λ a. a.caps_limit) books key (raised (account_at books key) ram caps) there)

-- ---- an account is opened, raised or closed in two steps

-- limits come to another account than they left
pub moved_in_two : (books after : Books) (from to ram caps : ℕ) (part : Account) → from ≢ to → after ≡ with_account books from (parted_with (account_at books from) ram caps) → part ≡ opened ram caps →
    with_account after to (raised (account_at after to) part.ram_limit part.caps_limit) ≡ with_moved books from to ram caps
moved_in_two books after from to ram caps part apart parted is =
    ap (λ b. with_account b to (raised (account_at b to) part.ram_limit part.caps_limit)) parted
    ∙ ap (λ p. let b = with_account books from (parted_with (account_at books from) ram caps) in with_account b to (raised (account_at b to) p.ram_limit p.caps_limit)) is
    ∙ ap (λ a. with_account (with_account books from (parted_with (account_at books from) ram caps)) to (raised a ram caps)) (account_elsewhere books from to (parted_with (account_at books from) ram caps) (λ same. apart (sym same)))

-- they come with a new account
pub opened_in_two : (books after : Books) (parent child ram caps : ℕ) (part : Account) → after ≡ with_account books parent (parted_with (account_at books parent) ram caps) → part ≡ opened ram caps →
    record after { accounts = insert after.accounts child part; parents = insert after.parents child parent; room = after.room - 1 } ≡ with_child books parent child ram caps
opened_in_two books after parent child ram caps part parted is =
    ap {B = Books} (λ (b : Books). record b { accounts = insert b.accounts child part; parents = insert b.parents child parent; room = b.room - 1 }) parted
    ∙ ap {B = Books} (λ (p : Account). record (with_child books parent child ram caps) { accounts = insert (insert books.accounts parent (parted_with (account_at books parent) ram caps)) child p }) is

pub opened_ram : (books : Books) (child parent room : ℕ) (a : Account) → get books.accounts child ≡ None → ram_limits (record books { accounts = insert books.accounts child a; parents = insert books.parents child parent; room = room }) ≡ ram_limits books + a.ram_limit
opened_ram books child parent room a free = total-insert_new (λ a. a.ram_limit) books.accounts child a free

pub opened_caps : (books : Books) (child parent room : ℕ) (a : Account) → get books.accounts child ≡ None → caps_limits (record books { accounts = insert books.accounts child a; parents = insert books.parents child parent; room = room }) ≡ caps_limits books + a.caps_limit
opened_caps books child parent room a free = total-insert_new (λ a. a.caps_limit) books.accounts child a free

-- what books without an account, and without its limits, are to those with it
pub record Leaves (books left : Books) (account parent : ℕ) (limits : Account) : Type 0 where
  pub sound : AreSound left
  pub parent_open : IsOpen left parent
  pub ram : ram_limits left + limits.ram_limit ≡ ram_limits books
  pub caps : caps_limits left + limits.caps_limit ≡ caps_limits books
  pub closed : with_account left parent (raised (account_at left parent) limits.ram_limit limits.caps_limit) ≡ without_account books account

-- an account leaves that no other has as its parent
pub leaves : (books : Books) → AreSound books → (account parent : ℕ) → IsChildOf books account parent → HasNoChild books account →
    Leaves books (record books { accounts = remove books.accounts account; parents = remove books.parents account; room = books.room + 1 }) account parent (account_at books account)
leaves books sound account parent is leaf =
    let related = sound.related account parent is in
    let elsewhere = get-remove_other books.accounts account parent related.apart in
    let gone = account_there books account related.child_open in
    record {
      sound = sound_left books sound account parent _ is leaf;
      parent_open = ap is_some elsewhere ∙ related.parent_open;
      ram = total-remove (λ a. a.ram_limit) books.accounts account _ gone;
      caps = total-remove (λ a. a.caps_limit) books.accounts account _ gone;
      closed =
          let left : Books = record books { accounts = remove books.accounts account; parents = remove books.parents account; room = books.room + 1 } in
          let limits = account_at books account in
          ap (λ a. with_account left parent (raised a limits.ram_limit limits.caps_limit)) (ap (λ o. unwrap_or o (opened 0 0)) elsewhere)
          ∙ ap (λ p. with_account left p (raised (account_at books p) limits.ram_limit limits.caps_limit)) (sym (ap (λ o. unwrap_or o books.root) is));
    }
