-- Computed examples of the file service, and their output.
use Rattle.std.specs.Prelude.{ℕ, List, [], ◌∷◌, ◌++◌}
use Rattle.own_model.specs.Account.{Account}
use Rattle.own_model.specs.FileService.{Files, no_files, file_served}
use Rattle.own_model.specs.Session.{session_account}
use Rattle.own_model.specs.Text.{lines_of}

-- the replies to requests, one after another
abbrev pub replies : Files → Account → List (List ℕ) → List ℕ
replies files account [] = []
replies files account (request ∷ requests) =
    let o = file_served files account request in o.reply ++ 10 ∷ replies o.files o.account requests

-- the replies of a new session with this donation to the requests that are the lines of a text
abbrev pub replies_of : ℕ → ℕ → List ℕ → List ℕ
replies_of ram caps input = replies no_files (session_account ram caps) (lines_of input)
