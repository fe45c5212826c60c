-- An account's use of capabilities may change while it covers the account's dataspaces.
use Rattle.std.proofs.Common.{◌≡◌, ℕ, ◌<◌, ◌≤◌, List, length, Some, Ok, Err, unwrap_or, refl, sym, subst, arith, Bool, cond, true, false, rules}
use Rattle.std.specs.Prelude.{⊤, Option, None, Result, IfErr, OnOk, OnErr}
use Rattle.std.specs.Option.{option_map}
use Rattle.std.specs.Result.{result_err}
use Rattle.std.specs.FinMap.{get, len}
use Rattle.page_pool.specs.Pages.{free_count}
use Rattle.page_pool.specs.declared.pool.PageNo.{PageNo}
use Rattle.slab.specs.Slab.{Slab}
use Rattle.trade_base.specs.declared.refusal.Refusal.{Refusal}
use Rattle.trade_base.specs.declared.refusal.Refusal.TheVariants.{OutOfCaps}
use Rattle.own_model.specs.NatMap.{owed}
use Rattle.own_model.specs.Account.{Account, shortage, charged, credited, opened}
use Rattle.own_model.proofs.Totals.{len-total, total_same, total-picked, owed-total, owed_nothing}
use Rattle.own_model.proofs.StepLemmas.{covers, short_of_caps}
use Rattle.quota_core.specs.Books.{Books, IsOpen, account_at, with_account}
use Rattle.quota_core.proofs.BooksLaws.{account_there}
use Rattle.dataspace_core.specs.Store.{Store, part, PartBecomes, charged_part}
use Rattle.dataspace_core.specs.Layout.{store_of}
use Rattle.dataspace_core.specs.Paid.{IsPaid, IsSound, payer_of}
use Rattle.dataspace_core.specs.declared.dataspace.Dataspace.{Dataspace}
use Rattle.dataspace_core.proofs.PaidLemmas.{payer_apart, IsPaid-capped}
use Rattle.dataspace_core.proofs.PartLemmas.{becomes-with_account}
use Rattle.dataspace_core.proofs.MemoryLemmas.{same_store}

-- a dataspace counts for one in its payer's part, and for none in another
counts : (b : Bool) (bytes : List ℕ) → ◌≡◌ {A = ℕ} (unwrap_or (option_map (λ (_ : List ℕ). 1) (cond b (Some bytes) None)) 0) (cond b 1 0)
counts true bytes = refl
counts false bytes = refl

-- an account owes a capability for each dataspace of its part
pub caps_owed-len : (store : Store) (account : ℕ) → len (part account store).spaces ≡ owed (λ _. 1) payer_of store.spaces account
unfolding part
caps_owed-len store account = search (rules, len-total, total-picked, total_same, counts, owed-total)

module _ {books : Books} {pool : List (Option (List ℕ))} {table : List PageNo} {room : ℕ} {spaces : Slab Dataspace} (sound : IsSound books pool table room spaces) where
  -- what contracts see
  abbrev store : Store
  store = store_of books pool table spaces

  -- an account uses a capability at least for each dataspace of its part, and one that is not open has none
  paid_for : (account : ℕ) (o : Option Account) → get books.accounts account ≡ o → len (part account store).spaces ≤ (unwrap_or o (opened 0 0)).caps_used
  paid_for account None closed =
      let none = owed_nothing (λ _. 1) payer_of store.spaces account (payer_apart store (free_count pool) (length pool) sound.paid account closed) in
      omega (arith, caps_owed-len store account, none)
  paid_for account (Some a) there = omega (arith, caps_owed-len store account, (sound.paid.paying account a there).caps)

  -- so no account has more dataspaces than it uses capabilities
  pub spaces_paid : (account : ℕ) → len (part account store).spaces ≤ (account_at books account).caps_used
  spaces_paid account = paid_for account (get books.accounts account) refl

  module _ (account : ℕ) (opens : IsOpen books account) where
    module _ (new_books : Books) where
      -- the memory stays sound where the account has another use of capabilities
      IsSound-capped : (b : Account) → new_books ≡ with_account books account b → b.ram_used ≡ (account_at books account).ram_used → b.ram_limit ≡ (account_at books account).ram_limit → b.caps_limit ≡ (account_at books account).caps_limit → owed (λ _. 1) payer_of store.spaces account ≤ b.caps_used → b.caps_used ≤ b.caps_limit → IsSound new_books pool table room spaces
      IsSound-capped b is used limit caps_limit covers within = record {
        laid_out = sound.laid_out;
        paid = subst (λ (s : Store). IsPaid s (free_count pool) (length pool)) (sym (same_store new_books _ pool table spaces is))
            (IsPaid-capped store (free_count pool) (length pool) sound.paid account (account_at books account) b (account_there books account opens) used limit caps_limit covers within);
        counted = sound.counted;
        roomy = sound.roomy;
      }

      -- a charge of one capability
      pub IsSound-charge_cap : (r : Result ⊤ Refusal) → result_err r ≡ shortage (account_at books account) 0 1 → OnOk r (new_books ≡ with_account books account (charged (account_at books account) 0 1)) → OnErr r (new_books ≡ books) → IsSound new_books pool table room spaces
      IsSound-charge_cap (Ok done) refusal ok err =
          let covered = covers (account_at books account) 0 1 (sym refusal) in
          let owes = (sound.paid.paying account (account_at books account) (account_there books account opens)).caps in
          IsSound-capped (charged (account_at books account) 0 1) ok (omega arith) refl refl (omega (arith, owes)) covered.caps_fit
      IsSound-charge_cap (Err e) refusal ok err = subst (λ b. IsSound b pool table room spaces) (sym err) sound

      -- it is refused for want of a capability alone
      pub only-charge_cap : (r : Result ⊤ Refusal) → result_err r ≡ shortage (account_at books account) 0 1 → IfErr r (λ refusal. refusal ≡ OutOfCaps)
      only-charge_cap (Ok done) refusal = tt
      only-charge_cap (Err e) refusal = short_of_caps (account_at books account) 1 e (sound.paid.paying account (account_at books account) (account_there books account opens)).within refusal

      -- a credit of one that pays for no dataspace
      pub IsSound-credit_cap : len (part account store).spaces < (account_at books account).caps_used → new_books ≡ with_account books account (credited (account_at books account) 0 1) → IsSound new_books pool table room spaces
      IsSound-credit_cap spare is = search (rules, account_there, IsSound-capped, caps_owed-len)

      -- its part is charged
      pub becomes-charge_cap : (r : Result ⊤ Refusal) → OnOk r (new_books ≡ with_account books account (charged (account_at books account) 0 1)) → OnOk r (PartBecomes account (charged_part (part account store) 1) store (store_of new_books pool table spaces))
      unfolding part
      becomes-charge_cap (Ok done) ok =
          rw ok (becomes-with_account store account (charged (account_at books account) 0 1))
      becomes-charge_cap (Err e) ok = tt
