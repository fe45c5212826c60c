-- What an account still has after all that a script holds is freed.
use Rattle.std.specs.Prelude.{◌≡◌, ℕ}
use Rattle.dataspace_core.specs.Store.{Store, part, account_of, root_in, parents_in, room_in, ram_limits_in}
use Rattle.pd_core.specs.Sound.{OthersStay}

-- an account uses no capability any more, and its limits are unchanged. So are the parts of all other accounts, the root's
-- key, each account's parent, the places for accounts and the sum of all limits of RAM
pub record IsCleared (account : ℕ) (old new : Store) : Type 0 where
  pub unused : (account_of (part account new)).caps_used ≡ 0
  pub ram_limit : (account_of (part account new)).ram_limit ≡ (account_of (part account old)).ram_limit
  pub caps_limit : (account_of (part account new)).caps_limit ≡ (account_of (part account old)).caps_limit
  pub others : OthersStay account old new
  pub root : root_in new ≡ root_in old
  pub parents : parents_in new ≡ parents_in old
  pub room : room_in new ≡ room_in old
  pub limits : ram_limits_in new ≡ ram_limits_in old
