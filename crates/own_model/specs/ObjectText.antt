-- The requests of a declared server and its replies, as texts. What is the same as of files is taken from there.
use Rattle.std.specs.Prelude.{ℕ, ◌&&◌, List, ◌++◌, length, codes, decimal, nat_le, is_none, if◌then◌else◌, Option, Some, None}
use Rattle.std.specs.Option.{option_map, option_and_then}
use Rattle.std.specs.Str.{bytes_eq}
use Rattle.trade_base.specs.Amount.{number_of}
use Rattle.own_model.specs.Account.{Account}
use Rattle.own_model.specs.FileText as files
use Rattle.own_model.specs.FileText.{FileError, file_word, of_file, file_reply, error_name}
use Rattle.own_model.specs.LogText.{longest_request}
use Rattle.own_model.specs.Text.{first_word}

-- a request: a new object of a kind and its name, other units of an object, its end, how many objects there are, of all kinds
-- or of one, the object at a place, and what the session's account has
pub data ObjectRequest : Type 0 where
  Make : List ℕ → List ℕ → ObjectRequest
  Resize : List ℕ → ℕ → ObjectRequest
  Drop : List ℕ → ObjectRequest
  Count : ObjectRequest
  CountKind : List ℕ → ObjectRequest
  Name : ℕ → ObjectRequest
  Stat : ObjectRequest

-- an object's name
abbrev pub make_of : List ℕ → List ℕ → Option ObjectRequest
make_of kind name = option_map (Make kind) (file_word name)

-- a number of units
abbrev pub resize_of : List ℕ → List ℕ → Option ObjectRequest
resize_of name units = option_map (Resize name) (number_of units)

-- nothing, or a kind
abbrev pub count_of : Option (List ℕ) → Option ObjectRequest
count_of None = Some Count
count_of (Some kind) = option_map CountKind (file_word kind)

-- the request of a form and its arguments, which are what stands after the form and a space
abbrev pub object_request_of : List ℕ → Option (List ℕ) → Option ObjectRequest
object_request_of form arguments =
    if bytes_eq form (codes "MAKE") then option_and_then (of_file make_of) arguments
    else (if bytes_eq form (codes "RESIZE") then option_and_then (of_file resize_of) arguments
    else (if bytes_eq form (codes "DROP") then option_map Drop (option_and_then file_word arguments)
    else (if bytes_eq form (codes "COUNT") then count_of arguments
    else (if bytes_eq form (codes "NAME") then option_map Name (option_and_then number_of arguments)
    else (if bytes_eq form (codes "STAT") && is_none arguments then Some Stat
    else None)))))

-- the request that a text is
abbrev pub object_request : List ℕ → Option ObjectRequest
object_request text =
    if nat_le (length text) longest_request then object_request_of (first_word text).word (first_word text).rest
    else None

-- why a request is refused: for a kind that the server doesn't offer, or as requests of files are
pub data ObjectError : Type 0 where
  BadKind : ObjectError
  Shared : FileError → ObjectError

abbrev pub object_error_name : ObjectError → List ℕ
object_error_name BadKind = codes "BAD_KIND"
object_error_name (Shared e) = error_name e

-- a reply: done, a count, an object's kind, name and units, use and limits, a buffer that was made, whose selector is still to
-- follow, or a refusal
pub data ObjectReply : Type 0 where
  Done : ObjectReply
  Counted : ℕ → ObjectReply
  Named : List ℕ → List ℕ → ℕ → ObjectReply
  Quotas : Account → ObjectReply
  Lent : ObjectReply
  Refused : ObjectError → ObjectReply

-- the text of a reply
abbrev pub object_reply : ObjectReply → List ℕ
object_reply Done = file_reply files.FileReply.Done
object_reply (Counted n) = file_reply (files.FileReply.Count n)
object_reply (Named kind name units) = codes "OK " ++ kind ++ codes " " ++ name ++ codes " " ++ decimal units
object_reply (Quotas account) = file_reply (files.FileReply.Quotas account)
object_reply Lent = file_reply files.FileReply.Lent
object_reply (Refused e) = codes "ERR " ++ object_error_name e
