-- What a session of the log service keeps.
use Rattle.std.specs.Prelude.{◌≡◌, ℕ, ◌+◌, ◌*◌, ◌≤◌, List, ◌++◌, length}
use Rattle.std.specs.List.{flat_map}
use Rattle.own_model.specs.LogService.{labelled, written}
use Rattle.own_model.specs.Reply.{log_text}
use Rattle.own_model.specs.Session.{Labelled}
use Rattle.own_model.specs.Services.ServiceState.{Logging}
use Rattle.server_frame.specs.Memory.{Share, payer_of, IsLinked, SlicedHeap}
use Rattle.server_frame.specs.Session.{HasBlocksAlone}
use Rattle.core_calls.specs.ReplyText.{Told}

-- its label, its line that isn't finished yet, and the sliced heap of its account, as it came
pub record LabelledLine : Type 0 where
  pub label : List ℕ
  pub partial : List ℕ
  pub heap : SlicedHeap

-- what is true of it between requests: the heap is the account's, and all that the account has is the heap's blocks
pub record IsSession (line : LabelledLine) (account : ℕ) (share : Share) : Type 0 where
  pub payer : payer_of line.heap ≡ account
  pub linked : IsLinked share line.heap.first
  pub alone : HasBlocksAlone share

-- the text of finished lines of a session with this label
abbrev pub lines_text : List ℕ → List (List ℕ) → List ℕ
lines_text label lines = flat_map log_text (labelled label lines)

-- what that is to its client
abbrev pub as_kept : LabelledLine → Labelled
as_kept line = record { label = line.label; state = Logging line.partial }

-- bytes are written after a partial line: the lines that they finish are appended to the reply's lines. Each byte lengthens
-- these and the rest of the line by at most 213 bytes
pub record Writes (before : LabelledLine) (told : Told) (bytes : List ℕ) (after : LabelledLine) (next : Told) : Type 0 where
  pub session : after ≡ record before { partial = (written before.partial bytes).partial }
  pub reply : next ≡ record told { lines = told.lines ++ lines_text before.label (written before.partial bytes).lines }
  pub added : length next.lines + length after.partial ≤ length told.lines + length before.partial + 213 * length bytes
