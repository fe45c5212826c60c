-- Places for accounts that are still to be opened: bounded by the limits of those that are open. A head is an account under which
-- components are opened: an init's. Which accounts are heads is a function that never changes.
use Rattle.std.specs.Prelude.{◌≡◌, ◌≢◌, ℕ, ◌+◌, ◌*◌, ◌<◌, ◌≤◌, if◌then◌else◌, Bool, true, false, Some, None}
use Rattle.std.specs.FinMap.{get, insert}
use Rattle.own_model.specs.Account.{Account, Fits}
use Rattle.own_model.specs.NatMap.{total}
use Rattle.dataspace_core.specs.Store.{Store, Part, part, parted_part, accounts_in, parents_in, root_in, room_in, caps_limits_in, account_in, IsOpenIn, IsChildIn, PartBecomes, RaisesPart, ShiftsPart, ClosesPart, OtherPartsStay}

-- an account counts that was opened under one that is no head
abbrev pub inner_weight : (ℕ → Bool) → ℕ → ℕ
inner_weight heads parent = if heads parent then 0 else 1

-- how many accounts were opened under one that is no head
abbrev pub inner_accounts : (ℕ → Bool) → Store → ℕ
inner_accounts heads store = total (inner_weight heads) (parents_in store)

-- an account was opened under none but a head
abbrev pub IsOuter : (ℕ → Bool) → Store → ℕ → Type 0
IsOuter heads store account = (parent : ℕ) → IsChildIn store account parent → heads parent ≡ true

-- places for inner accounts, those that are open and those to come, are half as many as there are capabilities at least, and
-- each that is open has two of these
pub record HasRoom (heads : ℕ → Bool) (store : Store) : Type 0 where
  pub counted : caps_limits_in store ≤ (room_in store + inner_accounts heads store) * 2 + 1
  pub there : (account parent : ℕ) → IsChildIn store account parent → IsOpenIn store account
  pub paid : (account parent : ℕ) → IsChildIn store account parent → heads parent ≡ false → 2 ≤ (account_in store account).caps_limit

-- ---- theorems

-- a memory without inner accounts has room where its places are as many
abbrev pub RoomAtFirst : Type 0
RoomAtFirst =
    (heads : ℕ → Bool) (store : Store) → ((account : ℕ) → IsOuter heads store account) →
    ((account parent : ℕ) → IsChildIn store account parent → IsOpenIn store account) →
    caps_limits_in store ≤ room_in store * 2 + 1 → HasRoom heads store

-- an account that is no inner one and that covers two capabilities finds a place for one more
abbrev pub RoomForOneMore : Type 0
RoomForOneMore =
    (heads : ℕ → Bool) (store : Store) (account ram caps : ℕ) → HasRoom heads store → IsOuter heads store account →
    Fits (account_in store account) ram caps → 2 ≤ caps → 0 < room_in store

-- a call for one account that leaves its limit leaves the room
abbrev pub RoomStays : Type 0
RoomStays =
    (heads : ℕ → Bool) (account : ℕ) (after : Part) (old new : Store) (a : Account) → PartBecomes account after old new →
    after.account ≡ Some a → IsOpenIn old account → a.caps_limit ≡ (account_in old account).caps_limit → HasRoom heads old → HasRoom heads new

-- an account is opened below one that parts with limits for it, and may be charged at once; every other account's part stays
pub record OpensBelow (parent child ram caps : ℕ) (a : Account) (old new : Store) : Type 0 where
  pub fresh : get (accounts_in old) child ≡ None
  pub own : (part child new).account ≡ Some a
  pub limit : a.caps_limit ≡ caps
  pub parted : part parent new ≡ parted_part (part parent old) ram caps
  pub others : OtherPartsStay parent child old new
  pub root : root_in new ≡ root_in old
  pub parents : parents_in new ≡ insert (parents_in old) child parent
  pub room : room_in new + 1 ≡ room_in old

-- where the one that it is opened below is no head, and parts with two capabilities at least, the room is one place less
abbrev pub RoomIsTaken : Type 0
RoomIsTaken =
    (heads : ℕ → Bool) (parent child ram caps : ℕ) (a : Account) (old new : Store) → OpensBelow parent child ram caps a old new →
    IsOpenIn old parent → IsOuter heads old parent → heads parent ≡ false → Fits (account_in old parent) ram caps → 2 ≤ caps →
    HasRoom heads old → HasRoom heads new

-- one that is opened below a head takes a place that no inner account needs
abbrev pub RoomUnderHead : Type 0
RoomUnderHead =
    (heads : ℕ → Bool) (head child ram caps : ℕ) (a : Account) (old new : Store) → OpensBelow head child ram caps a old new →
    IsOpenIn old head → IsOuter heads old head → heads head ≡ true → Fits (account_in old head) ram caps →
    caps_limits_in old ≤ (room_in new + inner_accounts heads old) * 2 + 1 → HasRoom heads old → HasRoom heads new

-- limits that come to an account leave the room
abbrev pub RoomIsRaised : Type 0
RoomIsRaised =
    (heads : ℕ → Bool) (parent child ram caps : ℕ) (old new : Store) → RaisesPart parent child ram caps old new → IsOpenIn old parent →
    IsOuter heads old parent → IsChildIn old child parent → parent ≢ child → Fits (account_in old parent) ram caps →
    HasRoom heads old → HasRoom heads new

-- limits that move between two accounts leave the room, where the one that parts with them is no inner one
abbrev pub RoomIsShifted : Type 0
RoomIsShifted =
    (heads : ℕ → Bool) (from to ram caps : ℕ) (old new : Store) → ShiftsPart from to ram caps old new → IsOpenIn old from →
    IsOpenIn old to → IsOuter heads old from → from ≢ to → Fits (account_in old from) ram caps → HasRoom heads old → HasRoom heads new

-- an account that closes gives its place back
abbrev pub RoomIsGivenBack : Type 0
RoomIsGivenBack =
    (heads : ℕ → Bool) (account parent : ℕ) (old new : Store) → ClosesPart account parent old new → IsOpenIn old parent →
    IsOuter heads old parent → IsChildIn old account parent → parent ≢ account → heads parent ≡ false → HasRoom heads old → HasRoom heads new

-- so does one that goes and was opened under a head, where all limits together stay. The head may itself be opened under another
abbrev pub RoomAfterExit : Type 0
RoomAfterExit =
    (heads : ℕ → Bool) (account head : ℕ) (old new : Store) → ClosesPart account head old new → heads head ≡ true →
    caps_limits_in new ≡ caps_limits_in old → IsChildIn old account head → HasRoom heads old → HasRoom heads new
