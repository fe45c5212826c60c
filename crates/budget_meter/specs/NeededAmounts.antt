-- The amounts that calls need of an account, as the program finds them by their replies.
use Rattle.std.specs.Prelude.{◌≡◌, ℕ, ◌<◌, ◌^◌, ◌||◌, Bool, true, false, not, List, [], ◌∷◌, nat_lt, codes, Option, Some, None}
use Rattle.std.specs.Str.{bytes_eq}
use Rattle.own_model.specs.Account.{Account}
use Rattle.own_model.specs.Amounts.{Amounts}
use Rattle.own_model.specs.BufferService.{SessionRequest}
use Rattle.own_model.specs.BufferService.SessionRequest.{OfFiles}
use Rattle.own_model.specs.Call.{Call}
use Rattle.own_model.specs.Call.Call.{New}
use Rattle.own_model.specs.FileText.FileRequest.{Create}
use Rattle.own_model.specs.Growth.{is_large}
use Rattle.budget_theorems.specs.Test.{Test, test_of}
use Rattle.budget_meter.specs.Needs.{shown_of}
use Rattle.budget_meter.specs.declared.budget.Budget.{Budget}

-- the one test of these amounts, or none
abbrev pub amount_tests : Option Budget → List Test
amount_tests None = []
amount_tests (Some asked) = test_of asked.ram asked.caps ∷ []

-- a call is for a block of the heap that may be in a chunk
abbrev pub is_of_chunk : Call → Bool
is_of_chunk (New n) = not (is_large n)
is_of_chunk call = false

-- an account refuses, or one capability more is used: the heap had to grow for a block of a chunk
abbrev pub shows_growth : List ℕ → Account → Account → Bool
shows_growth reply before after =
    bytes_eq reply (codes "Out_of_ram") || bytes_eq reply (codes "Out_of_caps") || nat_lt before.caps_used after.caps_used

-- the amounts of these tests, for any account of 64 bits: no account covers larger amounts
abbrev pub AsksAs : Option Budget → List Test → Type 0
AsksAs asked tests =
    (budget : Amounts) (a : Account) → a.ram_limit < 2 ^ 64 → shown_of budget a (amount_tests asked) ≡ shown_of budget a tests

-- a request makes a file
abbrev pub is_create : SessionRequest → Bool
is_create (OfFiles (Create name)) = true
is_create request = false
