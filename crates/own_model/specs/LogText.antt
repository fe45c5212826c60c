-- The requests of the log service and its replies, as texts.
use Rattle.std.specs.Prelude.{ℕ, ◌&&◌, List, [], ◌++◌, length, codes, decimal, nat_le, if◌then◌else◌, Option, Some, None}
use Rattle.std.specs.Str.{bytes_eq}
use Rattle.own_model.specs.Text.{first_word}
use Rattle.own_model.specs.Call.{some_bytes_of_hex}

-- the longest request, in bytes
abbrev pub longest_request : ℕ
longest_request = 8192

-- the bytes that hex digits denote, or none if there is no hex
abbrev pub hex_or_nothing : Option (List ℕ) → Option (List ℕ)
hex_or_nothing None = Some []
hex_or_nothing (Some hex) = some_bytes_of_hex hex

-- the bytes that a request writes: `WRITE`, or `WRITE`, a space and hex
abbrev pub log_request : List ℕ → Option (List ℕ)
log_request text =
    if nat_le (length text) longest_request && bytes_eq (first_word text).word (codes "WRITE")
    then hex_or_nothing (first_word text).rest
    else None

-- the reply to a request that isn't one
abbrev pub bad_request : List ℕ
bad_request = codes "ERR BAD_REQUEST"

-- the reply to a request that wrote so many bytes
abbrev pub log_reply : ℕ → List ℕ
log_reply count = codes "OK " ++ decimal count
