-- The tests of a session's request, and its effect on the session's files, by the reply.
use Rattle.std.specs.Prelude.{◌≡◌, ◌+◌, ◌&&◌, ◌||◌, ◌<◌, ◌^◌, ℕ, Bool, true, false, List, [], ◌∷◌, ◌++◌, length, codes, find, max, nat_eq, nat_lt, nat_le, if◌then◌else◌, Option, Some, None}
use Rattle.std.specs.List.{starts_with}
use Rattle.std.specs.Str.{bytes_eq}
use Rattle.trade_base.specs.Page.{page_of, is_valid_size}
use Rattle.own_model.specs.Account.{Account}
use Rattle.own_model.specs.BufferService.{SessionRequest}
use Rattle.own_model.specs.BufferService.BufferRequest.{Make, Put}
use Rattle.own_model.specs.BufferService.SessionRequest.{OfFiles, OfBuffer}
use Rattle.own_model.specs.FileService.{Files, File, file_named, is_named, no_files, node_size, rewritten, without}
use Rattle.own_model.specs.FileText.FileRequest.{Create, Write, Clear, Drop}
use Rattle.own_model.specs.Growth.{larger_growth}
use Rattle.own_model.specs.Services.{ServiceState}
use Rattle.own_model.specs.Services.ServiceState.{Filing, Holding, Logging}
use Rattle.budget_theorems.specs.Request.{shows_session_short, write_tests}
use Rattle.budget_theorems.specs.Test.{Test, test_of, tested_where, growth_tests}
use Rattle.budget_meter.specs.Sizes.{new_file}

-- the files that a server stores for a session: only a file server stores some
abbrev pub files_in : ServiceState → Files
files_in (Filing files) = files
files_in (Logging partial) = no_files
files_in (Holding kinds objects) = no_files

-- a request was done
abbrev pub is_granted : List ℕ → Bool
is_granted reply = starts_with nat_eq reply (codes "OK")

-- a request tried to charge a capability: the account refuses, or uses one more
abbrev pub shows_charge : List ℕ → Account → Account → Bool
shows_charge reply before after = shows_session_short reply || nat_lt before.caps_used after.caps_used

-- ---- tests

-- by the reply, the account before and after, and the files before
abbrev pub tests_by_reply : Option SessionRequest → List ℕ → Account → Account → Files → List Test
tests_by_reply (Some (OfFiles (Create name))) reply before after files =
    if shows_charge reply before after then growth_tests node_size files.shape before else []
tests_by_reply (Some (OfFiles (Write name offset bytes))) reply before after files = write_tests offset (length bytes) (file_named name files)
tests_by_reply (Some (OfBuffer (Make n))) reply before after files =
    if shows_charge reply before after then tested_where (is_valid_size n) (test_of (page_of n) 1) else []
tests_by_reply (Some (OfBuffer (Put name offset place count))) reply before after files =
    if is_granted reply || shows_session_short reply then write_tests offset count (file_named name files) else []
tests_by_reply request reply before after files = []

-- the growth number of the files' heap after it
abbrev pub growth_by_reply : Option SessionRequest → List ℕ → Account → Account → Files → ℕ
growth_by_reply (Some (OfFiles (Create name))) reply before after files =
    if shows_charge reply before after
    then (if nat_lt before.caps_used after.caps_used && nat_le (before.ram_used + (larger_growth node_size files.shape).bytes) before.ram_limit
    then (larger_growth node_size files.shape).next else files.shape.growth)
    else files.shape.growth
growth_by_reply request reply before after files = files.shape.growth

-- ---- files

-- the last one is new if the request was done
pub record IsCreated (name reply : List ℕ) (old new : List File) : Type 0 where
  pub made : bytes_eq reply (codes "OK") ≡ true → (chunk : ℕ) × ((offset : ℕ) × (new ≡ old ++ new_file name chunk offset ∷ []))
  pub left : bytes_eq reply (codes "OK") ≡ false → new ≡ old

-- one file has other bytes, of this number
pub record IsRewritten (name : List ℕ) (size : ℕ) (old new : List File) : Type 0 where
  pub bytes : List ℕ
  pub long : length bytes ≡ size
  pub is : new ≡ rewritten name bytes old

-- one file, if one has the name, holds this number of bytes from an offset on, if the request was done
pub record IsWritten (name : List ℕ) (offset count : ℕ) (reply : List ℕ) (old new : List File) : Type 0 where
  pub left : is_granted reply ≡ false → new ≡ old
  pub none : find (is_named name) old ≡ None → new ≡ old
  pub some : (file : File) → find (is_named name) old ≡ Some file → is_granted reply ≡ true →
      (length file.bytes < offset + count → offset + count < 2 ^ 64) × IsRewritten name (max (length file.bytes) (offset + count)) old new

-- the files are others if the request was done
pub record IsDone (reply : List ℕ) (then_it old new : List File) : Type 0 where
  pub done : is_granted reply ≡ true → new ≡ then_it
  pub left : is_granted reply ≡ false → new ≡ old

-- of files before and after a request
abbrev pub Changes : Option SessionRequest → List ℕ → List File → List File → Type 0
Changes (Some (OfFiles (Create name))) reply old new = IsCreated name reply old new
Changes (Some (OfFiles (Write name offset bytes))) reply old new = IsWritten name offset (length bytes) reply old new
Changes (Some (OfFiles (Clear name))) reply old new = IsDone reply (rewritten name [] old) old new
Changes (Some (OfFiles (Drop name))) reply old new = IsDone reply (without name old) old new
Changes (Some (OfBuffer (Put name offset place count))) reply old new = IsWritten name offset count reply old new
Changes request reply old new = new ≡ old
