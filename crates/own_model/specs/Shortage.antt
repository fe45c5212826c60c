-- What a call asks of its caller's account or reserve, and that nothing else is short.
use Rattle.std.specs.Prelude.{◌≡◌, ℕ, ◌+◌, ◌*◌, ◌<◌, ◌≤◌, if◌then◌else◌, List, Option, Some, None}
use Rattle.trade_base.specs.Page.{page_of}
use Rattle.trade_base.specs.declared.refusal.Refusal.TheVariants.{OutOfRam, OutOfCaps}
use Rattle.own_model.specs.Account.{Account, WithinLimits}
use Rattle.own_model.specs.Amounts.{Amounts, no_amounts}
use Rattle.own_model.specs.BestFit.{Spot, block_size}
use Rattle.own_model.specs.Call.{Call}
use Rattle.own_model.specs.Call.Call.{Alloc, Capalloc, New, Snew, Open, Upgrade, Request, Yield}
use Rattle.own_model.specs.Donated.{donation_in}
use Rattle.own_model.specs.Growth.{is_large, hole_for}
use Rattle.own_model.specs.HeapWindow.{largest_machine}
use Rattle.own_model.specs.OwnState.{OwnState}
use Rattle.own_model.specs.OwnStep.{own_step}
use Rattle.own_model.specs.Reply.{Reply}
use Rattle.own_model.specs.Reply.Reply.{Refused}
use Rattle.own_model.specs.Reserve.{reserve_account}
use Rattle.own_model.specs.Sliced.{sliced_size}
use Rattle.own_model.specs.Sound.{IsSound}
use Rattle.own_model.specs.StartList.{Entry, StartList, Boots}
use Rattle.own_model.specs.Transcript.{state_at}
use Rattle.own_model.specs.Use.{UsesWhatItHolds}
use Rattle.own_model.specs.World.{outcome_at, start_world, world_running}

-- so many bytes, and a capability
abbrev pub bytes_and_cap : ℕ → Amounts
bytes_and_cap bytes = record { ram = bytes; caps = 1 }

-- what a block of the heap requests, with the best hole for it, if there is one: without one, a chunk of the block's own pages
abbrev pub asked_with : ℕ → Option Spot → Amounts
asked_with n (Some hole) = no_amounts
asked_with n None = bytes_and_cap (page_of (block_size n))

-- what a call requests: a charge, a donation, or what is to be moved between the caller's account and its reserve
abbrev pub asked : Call → OwnState → Amounts
asked (Alloc n) s = bytes_and_cap (page_of n)
asked Capalloc s = bytes_and_cap 0
asked (New n) s = if is_large n then bytes_and_cap (page_of n) else asked_with n (hole_for n s.heap.shape)
asked (Snew n) s = bytes_and_cap (sliced_size n)
asked (Open service text) s = donation_in text
asked (Upgrade selector text) s = donation_in text
asked (Request text) s = donation_in text
asked (Yield text) s = donation_in text
asked call s = no_amounts

-- and of whom: a request asks the caller's reserve, and each other call its account
abbrev pub asked_of : Call → OwnState → Account
asked_of (Request text) s = reserve_account s.reserve
asked_of call s = s.account

-- a reply states a lack of RAM or of capabilities only if an account doesn't cover what is asked
pub record ShowsOwnShortage (a : Account) (more : Amounts) (reply : Reply) : Type 0 where
  pub ram : reply ≡ Refused OutOfRam → a.ram_limit < a.ram_used + more.ram
  pub caps : reply ≡ Refused OutOfCaps → a.caps_limit < a.caps_used + more.caps

-- a call is refused for lack of RAM or of capabilities only if what it asks, its caller's account or its reserve, doesn't
-- cover what it requests: never for lack of a page, a place in a table or a gap. The account has no more RAM than the
-- largest machine
abbrev pub NoHiddenShortage : Type 0
NoHiddenShortage =
    (entry : Entry) (call : Call) (s : OwnState) → WithinLimits s.account → IsSound s → UsesWhatItHolds s →
    s.account.ram_limit ≤ largest_machine * 4096 → ShowsOwnShortage (asked_of call s) (asked call s) (own_step entry call s).reply

-- this holds on any machine that has booted, after any lines
abbrev pub NoHiddenShortageAfterLines : Type 0
NoHiddenShortageAfterLines =
    (list : StartList) (lines : List (List ℕ)) (component : ℕ) (call : Call) → Boots list → list.pages ≤ largest_machine →
    ShowsOwnShortage (asked_of call (state_at (world_running (start_world list) lines).states component))
    (asked call (state_at (world_running (start_world list) lines).states component))
    (outcome_at (world_running (start_world list) lines) component call).reply
