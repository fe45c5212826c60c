-- Computed examples of the buffer that a client shares with its session, and their output.
use Rattle.std.specs.Prelude.{ℕ, ◌+◌, Bool, List, [], ◌∷◌, ◌++◌, slice_range, Option, Some, None, is_none}
use Rattle.std.specs.List.{list_all}
use Rattle.std.specs.Option.{option_map, unwrap_or}
use Rattle.own_model.specs.Account.{Account}
use Rattle.own_model.specs.BufferService.{SessionRequest, session_request, session_request_served}
use Rattle.own_model.specs.FileService.{Files, no_files}
use Rattle.own_model.specs.OwnState.{with_part}
use Rattle.own_model.specs.Reply.{hex_text}
use Rattle.own_model.specs.Session.{session_account}
use Rattle.own_model.specs.Text.{lines_of}

-- what a client does with its session and the buffer: it makes a request, puts bytes over some of the buffer, or reads some
pub data Turn : Type 0 where
  Asks : SessionRequest → Turn
  Pokes : ℕ → List ℕ → Turn
  Peeks : ℕ → ℕ → Turn

-- a line of each reply and of the bytes that are read, one after another
abbrev pub turns : Option (List ℕ) → Files → Account → List Turn → List ℕ
turns buffer files account [] = []
turns buffer files account (Asks request ∷ rest) =
    let o = session_request_served (Some request) buffer files account in o.reply ++ 10 ∷ turns o.buffer o.files o.account rest
turns buffer files account (Pokes offset bytes ∷ rest) = turns (option_map (λ old. with_part old offset bytes) buffer) files account rest
turns buffer files account (Peeks offset count ∷ rest) =
    hex_text (slice_range (unwrap_or buffer []) offset (offset + count)) ++ 10 ∷ turns buffer files account rest

-- those of a new session with this donation
abbrev pub turns_of : ℕ → ℕ → List Turn → List ℕ
turns_of ram caps list = turns None no_files (session_account ram caps) list

-- no line of a text is a request
abbrev pub none_read : List ℕ → Bool
none_read text = list_all (λ line. is_none (session_request line)) (lines_of text)
