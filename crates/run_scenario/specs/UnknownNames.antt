-- Calls with an unknown name: a service that no entry of a list provides, or a key of session arguments that isn't read.
use Rattle.std.specs.Prelude.{ℕ, ◌&&◌, ◌||◌, not, Bool, false, is_some, List, [], ◌∷◌, codes}
use Rattle.std.specs.List.{before_first, list_all, list_any}
use Rattle.std.specs.Option.{option_map_or}
use Rattle.std.specs.Str.{bytes_eq}
use Rattle.line_friendly.specs.Words.{skip_blanks}
use Rattle.own_model.specs.Call.{Call}
use Rattle.own_model.specs.Call.Call.{Open, Upgrade, Request, Yield}
use Rattle.own_model.specs.Listed.{Listed, offers}
use Rattle.own_model.specs.SessionArgs.{arguments_of, is_equals, is_space, pieces_of}
use Rattle.run_scenario.specs.Said.{said_in}

-- an entry provides a service
abbrev pub is_provided : Listed → List ℕ → Bool
is_provided list service = list_any (λ entry. offers entry.home service entry) list.entries

-- the keys that are read
abbrev pub keys : List (List ℕ)
keys = codes "ram_quota" ∷ codes "cap_quota" ∷ codes "label" ∷ []

-- a part of session arguments is a pair: it isn't blank, and alone it is session arguments
abbrev pub is_pair : List ℕ → Bool
is_pair part = not (list_all is_space part) && is_some (arguments_of part)

-- the text before the equals sign of a part
abbrev pub key_of : List ℕ → List ℕ
key_of part = before_first is_equals (skip_blanks part)

-- a pair's key is none of those
abbrev pub has_unread_key : List ℕ → Bool
has_unread_key part = not (list_any (bytes_eq (key_of part)) keys) && is_pair part

abbrev pub have_unread_key : List ℕ → Bool
have_unread_key args = list_any has_unread_key (pieces_of false args)

-- a call names a service that no entry provides, or has a key that isn't read
abbrev pub has_unknown_name : Listed → Call → Bool
has_unknown_name list (Open service args) = not (is_provided list service) || have_unread_key args
has_unknown_name list (Upgrade selector args) = have_unread_key args
has_unknown_name list (Request args) = have_unread_key args
has_unknown_name list (Yield args) = have_unread_key args
has_unknown_name list call = false

-- the call of an engine's line does, if the line is one
abbrev pub names_unknown : Listed → List ℕ → Bool
names_unknown list line = option_map_or (λ said. has_unknown_name list said.call) (said_in line) false
