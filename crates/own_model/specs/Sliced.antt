-- Sliced blocks: how large they are, why they are refused, and which one holds a range of addresses.
use Rattle.std.specs.Prelude.{ℕ, ◌+◌, ◌-◌, ◌/◌, ◌&&◌, Bool, List, length, nat_lt, nat_le, if◌then◌else◌, Option, Some}
use Rattle.std.specs.List.{find}
use Rattle.std.specs.Option.{option_map}
use Rattle.std.specs.FinMap.{entries}
use Rattle.trade_base.specs.Page.{page_of, is_valid_size}
use Rattle.trade_base.specs.declared.refusal.Refusal.{Refusal}
use Rattle.trade_base.specs.declared.refusal.Refusal.TheVariants.{InvalidSize}
use Rattle.own_model.specs.Account.{Account, shortage}
use Rattle.own_model.specs.NatMap.{NatMap, picked, moved_down}
use Rattle.own_model.specs.Region.{Region}

-- the bytes of a sliced block's header, which is before its payload
abbrev pub sliced_header : ℕ
sliced_header = 32

-- the bytes that a sliced block of n bytes takes: whole pages, its header among them
abbrev pub sliced_size : ℕ → ℕ
sliced_size n = page_of (sliced_header + n)

-- why a sliced block of n bytes is refused
abbrev pub sliced_refusal : ℕ → Account → Option Refusal
sliced_refusal n account =
    if nat_lt 0 n && is_valid_size (sliced_header + n) then shortage account (sliced_size n) 1 else Some InvalidSize

-- the bytes of a block with this payload
abbrev pub block_size : List ℕ → ℕ
block_size payload = sliced_header + length payload

-- the pages of a block with this payload
abbrev pub block_pages : List ℕ → ℕ
block_pages payload = page_of (block_size payload) / 4096

-- where blocks stand, each by its payload's address: a range of whole pages from its header on
abbrev pub ranges_of_blocks : NatMap (List ℕ) → NatMap Region
ranges_of_blocks blocks = moved_down sliced_header (picked (λ payload. Some (record { of = 0; pages = block_pages payload })) blocks)

-- a payload holds the whole range
abbrev pub holds_in_payload : ℕ → ℕ → ℕ × List ℕ → Bool
holds_in_payload address count block = nat_le block.0 address && nat_le (address + count) (block.0 + length block.1)

-- the address of the payload that holds the whole range, and how far into it the range starts, in bytes
abbrev pub block_found : NatMap (List ℕ) → ℕ → ℕ → Option (ℕ × ℕ)
block_found blocks address count =
    option_map (λ block. (block.0, address - block.0)) (find (holds_in_payload address count) (entries blocks))
