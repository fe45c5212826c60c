-- The lines of a component: its account's, its reserve's where that is told, and those of its sessions.
use Rattle.std.proofs.Common.{◌≡◌, ℕ, ◌<◌, ◌≤◌, Bool, true, false, List, [], ◌++◌, length, Option, Some, None, refl, sym, ap, ◌∙◌, arith, append-nil}
use Rattle.std.proofs.lemmas.Bool.Decides.{nat_tests}
use Rattle.std.proofs.lemmas.Option.{none-some, slice_get-get_or}
use Rattle.std.specs.FinMap.{get}
use Rattle.std.specs.List.{slice_get}
use Rattle.std.specs.Option.{option_map, option_map_or}
use Rattle.std.specs.Prelude.{◌||◌, ◌⊎◌, is_some, nat_lt, if◌then◌else◌}
use Rattle.own_model.specs.Account.{Account}
use Rattle.own_model.specs.AccountList.{account_line, component_lines, is_told, object_line, reserve_line, session_line}
use Rattle.own_model.specs.Amounts.{Amounts}
use Rattle.own_model.specs.Listed.{Listed, ListedEntry}
use Rattle.own_model.specs.OwnState.{Object, OwnState, session_named}
use Rattle.own_model.specs.OwnState.Object.{Dataspace, RpcObject, OpenSession, Buffer}
use Rattle.own_model.specs.Session.{Session}
use Rattle.run_lines.specs.Accounts.{listed_at, selected_line, unlisted}

-- the entry at a place of a list has the path that is told of it, and is given a reserve where that is told
module _ (list : Listed) (place : ℕ) (within : place < length list.entries) where
  found : slice_get list.entries place ≡ Some (listed_at list place)
  found = slice_get-get_or list.entries place unlisted within

  pub listed_name : {name : List ℕ} → option_map (λ (e : ListedEntry). e.path) (slice_get list.entries place) ≡ Some name → name ≡ (listed_at list place).path
  listed_name {name} told =
      let same : Some name ≡ Some (listed_at list place).path = sym told ∙ ap (option_map (λ (e : ListedEntry). e.path)) found in
      cc

  pub listed_gives : {given : Bool} → option_map (λ (e : ListedEntry). is_some e.reserve) (slice_get list.entries place) ≡ Some given → given ≡ is_some (listed_at list place).reserve
  listed_gives {given} told =
      let same : Some given ≡ Some (is_some (listed_at list place).reserve) = sym told ∙ ap (option_map (λ (e : ListedEntry). is_some e.reserve)) found in
      cc

-- a reserve is printed if it is given, or has RAM or capabilities
abbrev pub IsPrinted : Bool → Amounts → Type 0
IsPrinted given reserve = (given ≡ true) ⊎ ((given ≡ false × 0 < reserve.ram) ⊎ (given ≡ false × reserve.ram ≤ 0 × 0 < reserve.caps))

-- and isn't if there is nothing of it
abbrev pub IsUnprinted : Bool → Amounts → Type 0
IsUnprinted given reserve = given ≡ false × reserve.ram ≤ 0 × reserve.caps ≤ 0

pub printed_if_any : (given : Bool) (reserve : Amounts) → IsPrinted given reserve → (given || nat_lt 0 reserve.ram || nat_lt 0 reserve.caps) ≡ true
printed_if_any given reserve some = grind (arith, nat_tests)

pub unprinted_if_none : (given : Bool) (reserve : Amounts) → IsUnprinted given reserve → (given || nat_lt 0 reserve.ram || nat_lt 0 reserve.caps) ≡ false
unprinted_if_none given reserve none = grind (arith, nat_tests)

module _ (entry : ListedEntry) (own : Account) (kept : Amounts) where
  -- first the account's line
  pub account_first : {name : List ℕ} {account : Account} → name ≡ entry.path → account ≡ own →
      component_lines entry own kept ≡ account_line name account ++ (if is_told entry.reserve kept then reserve_line entry.path kept else [])
  account_first name_is account_is = λ j. account_line (sym name_is j) (sym account_is j) ++ (if is_told entry.reserve kept then reserve_line entry.path kept else [])

  told_is : {given : Bool} {reserve : Amounts} → given ≡ is_some entry.reserve → reserve ≡ kept → is_told entry.reserve kept ≡ (given || nat_lt 0 reserve.ram || nat_lt 0 reserve.caps)
  told_is given_is reserve_is = λ j. sym given_is j || nat_lt 0 (sym reserve_is j).ram || nat_lt 0 (sym reserve_is j).caps

  -- then the reserve's
  pub reserve_then : {name : List ℕ} {account : Account} {given : Bool} (reserve : Amounts) → name ≡ entry.path → account ≡ own → given ≡ is_some entry.reserve → reserve ≡ kept →
      IsPrinted given reserve → component_lines entry own kept ≡ account_line name account ++ reserve_line name reserve
  reserve_then {name} {account} {given} reserve name_is account_is given_is reserve_is some =
      account_first name_is account_is
      ∙ ap (λ b. account_line name account ++ (if b then reserve_line entry.path kept else [])) (told_is given_is reserve_is ∙ printed_if_any given reserve some)
      ∙ (λ j. account_line name account ++ reserve_line (sym name_is j) (sym reserve_is j))

  -- or nothing
  pub reserve_untold : {name : List ℕ} {account : Account} {given : Bool} (reserve : Amounts) → name ≡ entry.path → account ≡ own → given ≡ is_some entry.reserve → reserve ≡ kept →
      IsUnprinted given reserve → component_lines entry own kept ≡ account_line name account
  reserve_untold {name} {account} {given} reserve name_is account_is given_is reserve_is none =
      account_first name_is account_is
      ∙ ap (λ b. account_line name account ++ (if b then reserve_line entry.path kept else [])) (told_is given_is reserve_is ∙ unprinted_if_none given reserve none)
      ∙ append-nil (account_line name account)

-- ---- what a selector names

module _ (name : List ℕ) (selector : ℕ) where
  named_line : (account : Account) (o : Option Object) → Some account ≡ option_map (λ (x : Session). x.account) (session_named o) →
      option_map_or (λ object. object_line name selector object) o [] ≡ session_line name selector account
  named_line account (Some (OpenSession session)) is = let same : session.account ≡ account = cc in ap (session_line name selector) same
  named_line account (Some (Dataspace bytes)) is = absurd (none-some account (sym is))
  named_line account (Some RpcObject) is = absurd (none-some account (sym is))
  named_line account (Some (Buffer session bytes)) is = absurd (none-some account (sym is))
  named_line account None is = absurd (none-some account (sym is))

  no_line : (o : Option Object) → None ≡ option_map (λ (x : Session). x.account) (session_named o) → option_map_or (λ object. object_line name selector object) o [] ≡ []
  no_line (Some (OpenSession session)) is = absurd (none-some session.account is)
  no_line (Some (Dataspace bytes)) is = refl
  no_line (Some RpcObject) is = refl
  no_line (Some (Buffer session bytes)) is = refl
  no_line None is = refl

  -- is told where it is a session
  pub selected_some : (s : OwnState) {own : List ℕ} {account : Account} → own ≡ name → Some account ≡ option_map (λ (x : Session). x.account) (session_named (get s.selectors selector)) →
      selected_line name s selector ≡ session_line own selector account
  selected_some s {own} {account} same is = named_line account (get s.selectors selector) is ∙ ap (λ n. session_line n selector account) (sym same)

  -- and nothing where it is none
  pub selected_none : (s : OwnState) → None ≡ option_map (λ (x : Session). x.account) (session_named (get s.selectors selector)) → selected_line name s selector ≡ []
  selected_none s is = no_line (get s.selectors selector) is
