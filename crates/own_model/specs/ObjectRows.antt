-- Computed examples of a declared server, and their output.
use Rattle.std.specs.Prelude.{ℕ, List, [], ◌∷◌, ◌++◌, codes, Option, None}
use Rattle.own_model.specs.Account.{Account}
use Rattle.own_model.specs.ObjectKinds.{ObjectKind}
use Rattle.own_model.specs.ObjectService.{Objects, no_objects}
use Rattle.own_model.specs.ObjectSession.{holding_served}
use Rattle.own_model.specs.Session.{session_account}
use Rattle.own_model.specs.Text.{lines_of}

-- the kinds of a window server: a view is a node alone, a surface has four bytes of contents a unit
abbrev pub view : ObjectKind
view = record { name = codes "view"; block = 160; bytes = 0 }

abbrev pub surface : ObjectKind
surface = record { name = codes "surface"; block = 112; bytes = 4 }

abbrev pub window_kinds : List ObjectKind
window_kinds = view ∷ surface ∷ []

-- the replies to requests, one after another
abbrev pub window_replies : Option (List ℕ) → Objects → Account → List (List ℕ) → List ℕ
window_replies buffer objects account [] = []
window_replies buffer objects account (request ∷ requests) =
    let o = holding_served window_kinds buffer objects account request in
    o.reply ++ 10 ∷ window_replies o.buffer o.objects o.account requests

-- the replies of a new session with this donation to the requests that are the lines of a text
abbrev pub window_replies_of : ℕ → ℕ → List ℕ → List ℕ
window_replies_of ram caps input = window_replies None no_objects (session_account ram caps) (lines_of input)
