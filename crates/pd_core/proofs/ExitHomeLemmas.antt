-- What an exit leaves of inits' accounts: its caller's init has more, by its number, and the others have what they had.
use Rattle.std.proofs.Common.{◌≡◌, ◌≢◌, ℕ, zero, suc, ◌<◌, List, ◌∷◌, length, map, get_or, set, refl, sym, ap, subst, ◌∙◌, inl, inr, arith, length-set, get_or-set_other}
use Rattle.std.proofs.lemmas.Bool.{cases_eq}
use Rattle.std.proofs.lemmas.Grind.{get_or-set_at}
use Rattle.std.proofs.lemmas.List.{get_or-map, ext_get_or, length-map}
use Rattle.std.proofs.lemmas.Option.{same_Some}
use Rattle.own_model.specs.Account.{Account}
use Rattle.own_model.specs.Donation.{raised}
use Rattle.own_model.specs.StartList.{init_at, no_account}
use Rattle.dataspace_core.specs.Store.{Store, part, account_in, root_in, IsChildIn}
use Rattle.pd_core.specs.Core.{roles_of, IsInitOf, IsInits, init_in, inits_of, IsCore}
use Rattle.pd_core.specs.Core.Owner.{Init, Place}
use Rattle.pd_core.specs.SessionCalls.{IsBelowParentInit}
use Rattle.pd_core.specs.declared.component.Component.{Component}
use Rattle.pd_core.proofs.CoreChangeLemmas.{ChangesCore, init_follows}
use Rattle.pd_core.proofs.CoreHeldLemmas.{same_place, not_place, init_pays, below_init}
use Rattle.pd_core.proofs.CoreWorldLemmas.{SameFaces, as_many, init_is, init_seen, account_kept, place_of, role_at}

module _ {i s key : ℕ} {store store' : Store} (before after : List Component) (core : IsCore store before) (changes : ChangesCore core.heads i s key store (roles_of before) store' (roles_of after))
    (faces : SameFaces before after) (here : i < length before) (d : Component) (head payer more extra : ℕ)
    (rest : (account : ℕ) → IsInits store (roles_of before) account → account ≢ head → part account store' ≡ part account store)
    (gains : account_in store' head ≡ raised (account_in store head) more extra) (child : IsChildIn store payer head) where
  abbrev was : Component → Account
  was c = init_in store c.role

  abbrev is : Component → Account
  is c = init_in store' c.role

  -- another init has what it had
  other_init : (k : ℕ) → k < length before → (IsInitOf (roles_of before k) head → ⊥) → init_in store' (get_or after k d).role ≡ init_in store (get_or before k d).role
  other_init k within other =
      init_seen before after core changes faces here d k within (λ account its. rest account (inr (k, its)) (λ e. other (subst (IsInitOf (roles_of before k)) e its)))

  many : length (map is after) ≡ length before
  many = length-map after is ∙ as_many before after faces

  read_after : (k : ℕ) → k < length before → get_or (map is after) k no_account ≡ init_in store' (get_or after k d).role
  read_after k within = get_or-map is after k d no_account (omega (arith, within, as_many before after faces))

  -- where the head is the root, all components have what they had
  all_others : root_in store ≡ head → map is after ≡ map was before
  all_others root = ext_get_or no_account _ _ (many ∙ sym (length-map before was)) (λ k h.
      let within : k < length before = omega (arith, h, many) in
      read_after k within
      ∙ other_init k within (λ its. not_place k (core.apart Init (Place k) head root (init_pays (roles_of before k) head its)))
      ∙ sym (get_or-map was before k d no_account within))

  -- where it is an init's, that one has more
  module _ (n : ℕ) (its : IsInitOf (roles_of before n) head) where
    within_all : n < length before
    within_all = place_of before n (λ gone. subst (λ r. IsInitOf r head) gone its)

    was_at : get_or (map was before) n no_account ≡ account_in store head
    was_at = get_or-map was before n d no_account within_all ∙ init_is store (get_or before n d).role head (subst (λ r. IsInitOf r head) (role_at before n d within_all) its)

    is_at : init_in store' (get_or after n d).role ≡ account_in store' head
    is_at =
        init_is store' (get_or after n d).role head
        (subst (λ r. IsInitOf r head) (role_at after n d (omega (arith, within_all, as_many before after faces))) (init_follows core changes n head its))

    one_gains : map is after ≡ set (map was before) n (raised (get_or (map was before) n no_account) more extra)
    one_gains =
        let now : Account = raised (get_or (map was before) n no_account) more extra in
        ext_get_or no_account _ _ (many ∙ sym (length-set (map was before) n now ∙ length-map before was)) (λ k h.
        let within : k < length before = omega (arith, h, many) in
        read_after k within ∙ elim (cases_eq k n) [
          | inl at ↦
              ap (λ (m : ℕ). init_in store' (get_or after m d).role) at ∙ is_at ∙ gains ∙ ap (λ (a : Account). raised a more extra) (sym was_at)
              ∙ sym (get_or-set_at (map was before) n k now no_account at (omega (arith, within_all, length-map before was)))
          | inr other ↦
              other_init k within (λ one. other (same_place k n (core.apart (Place k) (Place n) head (init_pays (roles_of before k) head one) (init_pays (roles_of before n) head its))))
              ∙ sym (get_or-map was before k d no_account within) ∙ sym (get_or-set_other (map was before) n k now no_account other)
        ])

  -- the init of the number that the account is below has more
  pub inits_gain : (number : ℕ) → IsBelowParentInit store (roles_of before) number payer →
      inits_of store' after ≡ set (inits_of store before) number (raised (init_at (inits_of store before) number) more extra)
  inits_gain zero at =
      let root : root_in store ≡ head = same_Some _ _ (sym at ∙ child) in
      let own : account_in store' (root_in store') ≡ raised (account_in store (root_in store)) more extra
      = ap (account_in store') (changes.root ∙ root) ∙ gains ∙ ap (λ (a : ℕ). raised (account_in store a) more extra) (sym root) in
      let others = all_others root in
      λ j. own j ∷ others j
  inits_gain (suc n) at =
      let below = below_init store (roles_of before n) payer at in
      let its : IsInitOf (roles_of before n) head = subst (IsInitOf (roles_of before n)) (same_Some _ _ (sym below.1.1 ∙ child)) below.1.0 in
      let apart : root_in store ≢ head = λ root. not_place n (core.apart Init (Place n) head root (init_pays (roles_of before n) head its)) in
      let own : account_in store' (root_in store') ≡ account_in store (root_in store) = ap (account_in store') changes.root ∙ account_kept store store' (root_in store) (rest (root_in store) (inl refl) apart) in
      let others = one_gains n its in
      λ j. own j ∷ others j
