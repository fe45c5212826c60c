-- Places for accounts that are still to be opened stay as many as their capabilities need.
use Rattle.std.proofs.Common.{◌≡◌, ◌≢◌, ℕ, ◌+◌, ◌*◌, ◌≤◌, Bool, true, false, if◌then◌else◌, Some, is_some, unwrap_or, refl, sym, ap, subst, ◌∙◌, arith, inl, inr}
use Rattle.std.proofs.lemmas.Bool.{cases_eq, cases_Bool, true≢false}
use Rattle.std.proofs.lemmas.Bool.Decides.{nat_tests}
use Rattle.std.proofs.lemmas.Option.{none-some, same_Some}
use Rattle.std.specs.Prelude.{Option, None}
use Rattle.std.specs.FinMap.{get, insert, remove}
use Rattle.own_model.specs.Account.{Account, Fits, opened, parted_with}
use Rattle.own_model.specs.Donation.{raised}
use Rattle.own_model.specs.NatMap.{NatMap, total}
use Rattle.own_model.proofs.NatMapLemmas.{same, value_at, apart_from_free, before_remove, get-insert_same, get-insert_other, get-remove_same, get-remove_other}
use Rattle.own_model.proofs.Totals.{total-insert_new, total-insert_at, total-insert_same, total-remove, total-zero, total_same, total_parted}
use Rattle.own_model.proofs.NatMapSums.{measured, measured_or, total-taken, total_keys_le}
use Rattle.dataspace_core.specs.Store.{Store, Part, part, parted_part, raised_part, closed_part, accounts_in, parents_in, room_in, account_in, IsOpenIn, IsChildIn, caps_limits_in, ClosesPart, OtherPartsStay}
use Rattle.dataspace_core.specs.Room.{inner_weight, inner_accounts, IsOuter, HasRoom, RoomAtFirst, RoomForOneMore, RoomStays, OpensBelow, RoomIsTaken, RoomUnderHead, RoomIsRaised, RoomIsShifted, RoomIsGivenBack, RoomAfterExit}
use Rattle.dataspace_core.proofs.PartLaws.{account_of-part}
use Rattle.dataspace_core.proofs.LimitLaws.{accounts_after}
use Rattle.dataspace_core.proofs.WindowLaws.{own_account}

-- ---- accounts and their parts

-- an account that its part has is the one under the key
pub account_in_part : (account : ℕ) (store : Store) (a : Account) → (part account store).account ≡ Some a → get (accounts_in store) account ≡ Some a
unfolding part
account_in_part account store a is = is

-- it stays where its part stays
pub same_account : (account : ℕ) (old new : Store) → part account new ≡ part account old → get (accounts_in new) account ≡ get (accounts_in old) account
unfolding part
same_account account old new own = ap (λ (p : Part). p.account) own

-- what stands under an open key is what is read there
account_there : (account : ℕ) (store : Store) → IsOpenIn store account → get (accounts_in store) account ≡ Some (account_in store account)
account_there account store opens =
    let has = value_at (accounts_in store) account opens in
    has.1 ∙ ap Some (sym (ap (λ (o : Option Account). unwrap_or o (opened 0 0)) has.1))

-- a closed part has none
closed_account : (account : ℕ) (store : Store) → part account store ≡ closed_part → get (accounts_in store) account ≡ None
unfolding part
closed_account account store is = ap (λ (p : Part). p.account) is

-- two accounts change and the others stay
accounts_moved : (from to : ℕ) (x y : Account) (old new : Store) → (part from new).account ≡ Some x → (part to new).account ≡ Some y → OtherPartsStay from to old new → from ≢ to →
    accounts_in new ≡ insert (insert (accounts_in old) from x) to y
accounts_moved from to x y old new first second others apart = same _ _ (λ k. elim (cases_eq k to) [
  | inl here ↦ ap (get (accounts_in new)) here ∙ account_in_part to new y second ∙ sym (get-insert_same (insert (accounts_in old) from x) to y k here)
  | inr not_to ↦ elim (cases_eq k from) [
    | inl here ↦
        ap (get (accounts_in new)) here ∙ account_in_part from new x first
        ∙ sym (get-insert_other (insert (accounts_in old) from x) to y k not_to ∙ get-insert_same (accounts_in old) from x k here)
    | inr not_from ↦
        same_account k old new (others k not_from not_to)
        ∙ sym (get-insert_other (insert (accounts_in old) from x) to y k not_to ∙ get-insert_other (accounts_in old) from x k not_from)
  ]
])

-- the account of a part that parted with limits, or was raised
account_parted : (account ram caps : ℕ) (old new : Store) → part account new ≡ parted_part (part account old) ram caps → (part account new).account ≡ Some (parted_with (account_in old account) ram caps)
account_parted account ram caps old new is = ap (λ (p : Part). p.account) is ∙ ap (λ a. Some (parted_with a ram caps)) (account_of-part account old)

account_raised : (account ram caps : ℕ) (old new : Store) → part account new ≡ raised_part (part account old) ram caps → (part account new).account ≡ Some (raised (account_in old account) ram caps)
account_raised account ram caps old new is = ap (λ (p : Part). p.account) is ∙ ap (λ a. Some (raised a ram caps)) (account_of-part account old)

-- ---- all limits of one kind

-- of an account, either kind of limit
module _ (limit : Account → ℕ) where
  -- an account is opened with what its parent parts with
  pub limits_opened : (parent child : ℕ) (x y : Account) (old new : Store) → (part parent new).account ≡ Some x → (part child new).account ≡ Some y → ((other : ℕ) → other ≢ parent → other ≢ child → part other new ≡ part other old) →
      get (accounts_in old) child ≡ None → IsOpenIn old parent → limit x + limit y ≡ limit (account_in old parent) → total limit (accounts_in new) ≡ total limit (accounts_in old)
  limits_opened parent child x y old new first second others free opens adds =
      ap (total limit) (accounts_moved parent child x y old new first second others (apart_from_free (accounts_in old) child parent free opens))
      ∙ total_parted limit (accounts_in old) parent child x (account_in old parent) y (account_there parent old opens) free adds

  -- limits move between two that are open
  pub limits_moved : (parent child : ℕ) (x y : Account) (old new : Store) → (part parent new).account ≡ Some x → (part child new).account ≡ Some y → ((other : ℕ) → other ≢ parent → other ≢ child → part other new ≡ part other old) →
      parent ≢ child → IsOpenIn old parent → IsOpenIn old child → limit x + limit y ≡ limit (account_in old parent) + limit (account_in old child) → total limit (accounts_in new) ≡ total limit (accounts_in old)
  limits_moved parent child x y old new first second others apart opens child_opens adds =
      let moved = ap (total limit) (accounts_moved parent child x y old new first second others apart) in
      let one = total-insert_at limit (accounts_in old) parent x (account_in old parent) (account_there parent old opens) in
      let there = get-insert_other (accounts_in old) parent x child (λ e. apart (sym e)) ∙ account_there child old child_opens in
      let two = total-insert_at limit (insert (accounts_in old) parent x) child y (account_in old child) there in
      omega (arith, moved, one, two, adds)

-- ---- inner accounts

-- one counts below an account that is no head, and none below a head
weighs_one : (heads : ℕ → Bool) (parent : ℕ) → heads parent ≡ false → inner_weight heads parent ≡ 1
weighs_one heads parent is = ap (λ (b : Bool). if b then 0 else 1) is

weighs_none : (heads : ℕ → Bool) (parent : ℕ) → heads parent ≡ true → inner_weight heads parent ≡ 0
weighs_none heads parent is = ap (λ (b : Bool). if b then 0 else 1) is

-- what is counted depends on the parents alone
inner_same : (heads : ℕ → Bool) (old new : Store) → parents_in new ≡ parents_in old → inner_accounts heads new ≡ inner_accounts heads old
inner_same heads old new parents = ap (total (inner_weight heads)) parents

-- an account under heads alone isn't one under another
not_inner : (heads : ℕ → Bool) (store : Store) (account parent : ℕ) → IsOuter heads store account → IsChildIn store account parent → heads parent ≢ false
not_inner heads store account parent outer is no_head = true≢false (sym (outer parent is) ∙ no_head)

-- ---- places

-- without inner accounts
pub room_at_first : RoomAtFirst
room_at_first heads store outer there enough = grind (arith, nat_tests, total_same, weighs_none, total-zero)

-- an inner account has its two capabilities beside one that is none
inner_paid : (heads : ℕ → Bool) (store : Store) (account : ℕ) → HasRoom heads store → IsOuter heads store account → (k p : ℕ) → IsChildIn store k p → inner_weight heads p * 2 ≤ measured (λ (a : Account). a.caps_limit) (get (remove (accounts_in store) account) k)
inner_paid heads store account room outer k p is = elim (cases_Bool (heads p)) [
  | inl head ↦ omega (arith, weighs_none heads p head)
  | inr no_head ↦ elim (cases_eq k account) [
    | inl own ↦ absurd (not_inner heads store account p outer (subst (λ q. IsChildIn store q p) own is) no_head)
    | inr apart ↦
        let beside = ap (measured (λ (a : Account). a.caps_limit)) (get-remove_other (accounts_in store) account k apart) in
        let has = measured_or (λ (a : Account). a.caps_limit) (get (accounts_in store) k) (opened 0 0) refl in
        omega (arith, weighs_one heads p no_head, room.paid k p is no_head, beside, has)
  ]
]

-- so these share what there is
others_paid : (heads : ℕ → Bool) (store : Store) (account : ℕ) → HasRoom heads store → IsOuter heads store account → inner_accounts heads store * 2 ≤ total (λ (a : Account). a.caps_limit) (remove (accounts_in store) account)
others_paid heads store account room outer =
    total_keys_le (inner_weight heads) (λ (a : Account). a.caps_limit) 2 (parents_in store) (remove (accounts_in store) account) (inner_paid heads store account room outer)

pub room_for_one_more : RoomForOneMore
room_for_one_more heads store account ram caps room outer fits least =
    let others = others_paid heads store account room outer in
    let all = total-taken (λ (a : Account). a.caps_limit) (accounts_in store) account in
    let own = measured_or (λ (a : Account). a.caps_limit) (get (accounts_in store) account) (opened 0 0) refl in
    omega (arith, others, all, own, fits.caps_fit, room.counted, least)

-- what an inner account has it keeps where its part stays, and where it is raised
paid_on : (old new : Store) (account : ℕ) (a : Account) → (part account new).account ≡ Some a → 2 ≤ a.caps_limit → 2 ≤ (account_in new account).caps_limit
paid_on old new account a is enough =
    subst (λ o. 2 ≤ (unwrap_or o (opened 0 0)).caps_limit) (sym (account_in_part account new a is)) enough

paid_still : (old new : Store) (account : ℕ) → part account new ≡ part account old → 2 ≤ (account_in old account).caps_limit → 2 ≤ (account_in new account).caps_limit
paid_still old new account own enough = subst (λ o. 2 ≤ (unwrap_or o (opened 0 0)).caps_limit) (sym (same_account account old new own)) enough

-- an account stays open, likewise
open_on : (new : Store) (account : ℕ) (a : Account) → (part account new).account ≡ Some a → IsOpenIn new account
open_on new account a is = ap is_some (account_in_part account new a is)

open_still : (old new : Store) (account : ℕ) → part account new ≡ part account old → IsOpenIn old account → IsOpenIn new account
open_still old new account own opens = ap is_some (same_account account old new own) ∙ opens

-- a call for one account
pub room_stays : RoomStays
room_stays heads account after old new a becomes is opens limit room =
    let has : (part account new).account ≡ Some a = ap (λ (p : Part). p.account) becomes.own ∙ is in
    let was : (k p : ℕ) → IsChildIn new k p → IsChildIn old k p = λ k p child. ap (λ (m : NatMap ℕ). get m k) (sym becomes.parents) ∙ child in
    record {
      counted =
          let inner = inner_same heads old new becomes.parents in
          let limits = ap (total (λ (x : Account). x.caps_limit)) (accounts_after account after old new a becomes is) ∙ total-insert_same (λ x. x.caps_limit) (accounts_in old) account a (account_in old account) (account_there account old opens) limit in
          omega (arith, inner, limits, becomes.room, room.counted);
      there = λ k p child. elim (cases_eq k account) [
        | inl own ↦ subst (IsOpenIn new) (sym own) (open_on new account a has)
        | inr other ↦ open_still old new k (becomes.others k other) (room.there k p (was k p child))
      ];
      paid = λ k p child inner.
          let before = room.paid k p (was k p child) inner in
          elim (cases_eq k account) [
            | inl own ↦ subst (λ q. 2 ≤ (account_in new q).caps_limit) (sym own) (paid_on old new account a has (omega (arith, limit, subst (λ q. 2 ≤ (account_in old q).caps_limit) own before)))
            | inr other ↦ paid_still old new k (becomes.others k other) before
          ];
    }

-- an account that isn't open is nobody's child
no_child : (heads : ℕ → Bool) (store : Store) (account : ℕ) → HasRoom heads store → get (accounts_in store) account ≡ None → (o : Option ℕ) → get (parents_in store) account ≡ o → o ≡ None
no_child heads store account room free None is = refl
no_child heads store account room free (Some p) is = absurd (apart_from_free (accounts_in store) account account free (room.there account p is) refl)

-- ---- an account is opened

module _ (heads : ℕ → Bool) (parent child ram caps : ℕ) (a : Account) (old new : Store) (opening : OpensBelow parent child ram caps a old new) (opens : IsOpenIn old parent) (outer : IsOuter heads old parent) (fits : Fits (account_in old parent) ram caps) (room : HasRoom heads old) where
  -- it counts by what its parent is
  inner_opened : inner_accounts heads new ≡ inner_accounts heads old + inner_weight heads parent
  inner_opened =
      let free = no_child heads old child room opening.fresh (get (parents_in old) child) refl in
      ap (total (inner_weight heads)) opening.parents ∙ total-insert_new (inner_weight heads) (parents_in old) child parent free

  -- all limits together stay
  caps_opened : caps_limits_in new ≡ caps_limits_in old
  caps_opened =
      limits_opened (λ x. x.caps_limit) parent child (parted_with (account_in old parent) ram caps) a old new (account_parted parent ram caps old new opening.parted) opening.own opening.others opening.fresh opens
      (let fit = fits.caps_fit in let is = opening.limit in omega arith)

  -- so it leaves the room where the places are enough, and an inner one has two capabilities
  room_opened : caps_limits_in new ≤ (room_in new + inner_accounts heads new) * 2 + 1 → (heads parent ≡ false → 2 ≤ caps) → HasRoom heads new
  room_opened enough least =
      let parted = account_parted parent ram caps old new opening.parted in
      let was : (k p : ℕ) → k ≢ child → IsChildIn new k p → IsChildIn old k p = λ k p other is.
      sym (get-insert_other (parents_in old) child parent k other) ∙ ap (λ (m : NatMap ℕ). get m k) (sym opening.parents) ∙ is in
      let own_parent : (k p : ℕ) → k ≡ child → IsChildIn new k p → p ≡ parent = λ k p own is.
      same_Some _ _ (sym is ∙ ap (λ (m : NatMap ℕ). get m k) opening.parents ∙ get-insert_same (parents_in old) child parent k own) in
      record {
        counted = enough;
        there = λ k p is. elim (cases_eq k child) [
          | inl own ↦ subst (IsOpenIn new) (sym own) (open_on new child a opening.own)
          | inr other ↦ elim (cases_eq k parent) [
            | inl its ↦ subst (IsOpenIn new) (sym its) (open_on new parent _ parted)
            | inr both ↦ open_still old new k (opening.others k both other) (room.there k p (was k p other is))
          ]
        ];
        paid = λ k p is inner. elim (cases_eq k child) [
          | inl own ↦
              let two = least (subst (λ q. heads q ≡ false) (own_parent k p own is) inner) in
              subst (λ q. 2 ≤ (account_in new q).caps_limit) (sym own) (paid_on old new child a opening.own (omega (arith, opening.limit, two)))
          | inr other ↦ elim (cases_eq k parent) [
            | inl its ↦ absurd (not_inner heads old parent p outer (subst (λ q. IsChildIn old q p) its (was k p other is)) inner)
            | inr both ↦ paid_still old new k (opening.others k both other) (room.paid k p (was k p other is) inner)
          ]
        ];
      }

-- below one that is no head
pub room_is_taken : RoomIsTaken
room_is_taken heads parent child ram caps a old new opening opens outer no_head fits least room =
    let inner = inner_opened heads parent child ram caps a old new opening opens outer fits room in
    let limits = caps_opened heads parent child ram caps a old new opening opens outer fits room in
    room_opened heads parent child ram caps a old new opening opens outer fits room (omega (arith, inner, weighs_one heads parent no_head, limits, opening.room, room.counted)) (λ _. least)

-- below a head
pub room_under_head : RoomUnderHead
room_under_head heads head child ram caps a old new opening opens outer is_head fits enough room =
    let inner = inner_opened heads head child ram caps a old new opening opens outer fits room in
    let limits = caps_opened heads head child ram caps a old new opening opens outer fits room in
    room_opened heads head child ram caps a old new opening opens outer fits room (omega (arith, inner, weighs_none heads head is_head, limits, enough)) (λ no_head. absurd (true≢false (sym is_head ∙ no_head)))

-- ---- limits move

-- limits come to an account
pub room_is_shifted : RoomIsShifted
room_is_shifted heads from to ram caps old new moves opens to_opens outer apart fits room =
    let parted = account_parted from ram caps old new moves.parted_one in
    let more = account_raised to ram caps old new moves.raised_one in
    let was : (k p : ℕ) → IsChildIn new k p → IsChildIn old k p = λ k p is. ap (λ (m : NatMap ℕ). get m k) (sym moves.parents) ∙ is in
    record {
      counted =
          let inner = inner_same heads old new moves.parents in
          let limits = limits_moved (λ x. x.caps_limit) from to (parted_with (account_in old from) ram caps) (raised (account_in old to) ram caps) old new parted more moves.others apart opens to_opens
          (let fit = fits.caps_fit in omega arith) in
          omega (arith, inner, limits, moves.room, room.counted);
      there = λ k p is. elim (cases_eq k to) [
        | inl own ↦ subst (IsOpenIn new) (sym own) (open_on new to _ more)
        | inr other ↦ elim (cases_eq k from) [
          | inl its ↦ subst (IsOpenIn new) (sym its) (open_on new from _ parted)
          | inr both ↦ open_still old new k (moves.others k both other) (room.there k p (was k p is))
        ]
      ];
      paid = λ k p is inner.
          let before = room.paid k p (was k p is) inner in
          elim (cases_eq k to) [
            | inl own ↦ subst (λ q. 2 ≤ (account_in new q).caps_limit) (sym own) (paid_on old new to _ more (let at = subst (λ q. 2 ≤ (account_in old q).caps_limit) own before in omega arith))
            | inr other ↦ elim (cases_eq k from) [
              | inl its ↦ absurd (not_inner heads old from p outer (subst (λ q. IsChildIn old q p) its (was k p is)) inner)
              | inr both ↦ paid_still old new k (moves.others k both other) before
            ]
          ];
    }

-- so do limits that come to a child
pub room_is_raised : RoomIsRaised
room_is_raised heads parent child ram caps old new raises opens outer kin apart fits room =
    room_is_shifted heads parent child ram caps old new raises opens (room.there child parent kin) outer apart fits room

-- ---- an account goes

-- who is a child once an account has gone was one before, and is another
module _ {account parent : ℕ} {old new : Store} (closes : ClosesPart account parent old new) (k p : ℕ) (is : IsChildIn new k p) where
  child_was : IsChildIn old k p
  child_was = before_remove (parents_in old) account k p (ap (λ (m : NatMap ℕ). get m k) (sym closes.parents) ∙ is)

  child_left : k ≢ account
  child_left e = none-some p (sym (ap (λ (m : NatMap ℕ). get m k) closes.parents ∙ get-remove_same (parents_in old) account k e) ∙ is)

-- it leaves the room where the places are enough, whoever was its parent
room_closed : (heads : ℕ → Bool) {account parent : ℕ} {old new : Store} → ClosesPart account parent old new → HasRoom heads old → caps_limits_in new ≤ (room_in new + inner_accounts heads new) * 2 + 1 → HasRoom heads new
room_closed heads {account} {parent} {old} {new} closes room enough =
    let more = account_raised parent _ _ old new closes.raised_one in
    record {
      counted = enough;
      there = λ k p is. elim (cases_eq k parent) [
        | inl its ↦ subst (IsOpenIn new) (sym its) (open_on new parent _ more)
        | inr other ↦ open_still old new k (closes.others k (child_left closes k p is) other) (room.there k p (child_was closes k p is))
      ];
      paid = λ k p is inner.
          let before = room.paid k p (child_was closes k p is) inner in
          elim (cases_eq k parent) [
            | inl its ↦ subst (λ q. 2 ≤ (account_in new q).caps_limit) (sym its) (paid_on old new parent _ more (let at = subst (λ q. 2 ≤ (account_in old q).caps_limit) its before in omega arith))
            | inr other ↦ paid_still old new k (closes.others k (child_left closes k p is) other) before
          ];
    }

-- it counted by what its parent is
inner_closed : (heads : ℕ → Bool) {account parent : ℕ} {old new : Store} → ClosesPart account parent old new → IsChildIn old account parent → inner_accounts heads new + inner_weight heads parent ≡ inner_accounts heads old
inner_closed heads {account} {parent} {old} closes kin =
    ap (λ m. total (inner_weight heads) m + inner_weight heads parent) closes.parents ∙ total-remove (inner_weight heads) (parents_in old) account parent kin

-- one that was opened under an account that is no head
pub room_is_given_back : RoomIsGivenBack
room_is_given_back heads account parent old new closes opens outer kin apart no_head room =
    let gone : get (accounts_in new) account ≡ None = closed_account account new closes.closed_one in
    let limits_of = account_of-part account old in
    let more : (part parent new).account ≡ Some (raised (account_in old parent) (account_in old account).ram_limit (account_in old account).caps_limit) =
    account_raised parent _ _ old new closes.raised_one ∙ ap (λ (a : Account). Some (raised (account_in old parent) a.ram_limit a.caps_limit)) limits_of in
    let less = inner_closed heads closes kin in
    let limits = limits_opened (λ x. x.caps_limit) parent account (account_in old parent) (account_in old account) new old (own_account parent old opens) (own_account account old (room.there account parent kin))
    (λ other not_parent not_account. sym (closes.others other not_account not_parent)) gone (open_on new parent _ more)
    (sym (ap (λ (o : Option Account). (unwrap_or o (opened 0 0)).caps_limit) (account_in_part parent new _ more))) in
    room_closed heads closes room (omega (arith, less, weighs_one heads parent no_head, limits, closes.room, room.counted))

-- one that was opened under a head
pub room_after_exit : RoomAfterExit
room_after_exit heads account head old new closes is_head caps kin room =
    let less = inner_closed heads closes kin in
    room_closed heads closes room (omega (arith, less, weighs_none heads head is_head, caps, closes.room, room.counted))
