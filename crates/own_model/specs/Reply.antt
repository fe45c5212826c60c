-- Replies, and their texts.
use Rattle.std.specs.Prelude.{ℕ, false, List, ◌∷◌, [], ◌++◌, ◌/◌, ◌%◌, ◌&&◌, nat_le, slice_index, map, codes, decimal, if◌then◌else◌}
use Rattle.std.specs.Fmt.{digits}
use Rattle.trade_base.specs.declared.refusal.Refusal.{Refusal}
use Rattle.trade_base.specs.Refusal.{refusal_name}
use Rattle.own_model.specs.Account.{Account}
use Rattle.own_model.specs.Amounts.{Amounts}

-- what a call is answered. A service's reply is printed unchanged
pub data Reply : Type 0 where
  Selected : ℕ → Reply
  Attached : ℕ → Reply
  Bytes : List ℕ → Reply
  Done : Reply
  Quotas : Account → Reply
  Reserved : Amounts → Reply
  Told : List ℕ → Reply
  Refused : Refusal → Reply

-- an address in hex, with small letters and without leading zeros
abbrev pub address_text : ℕ → List ℕ
address_text address = codes "0x" ++ digits 16 false address

-- bytes in hex, with small letters
unfoldable pub hex_text : List ℕ → List ℕ
hex_text [] = []
hex_text (b ∷ bs) =
    slice_index (codes "0123456789abcdef") (b / 16) ∷ slice_index (codes "0123456789abcdef") (b % 16) ∷ hex_text bs

-- use and limit
abbrev pub share_text : ℕ → ℕ → List ℕ
share_text used limit = decimal used ++ codes "/" ++ decimal limit

-- use and limit of RAM and of capabilities
abbrev pub quota_text : Account → List ℕ
quota_text a = codes "ram " ++ share_text a.ram_used a.ram_limit ++ codes " caps " ++ share_text a.caps_used a.caps_limit

-- amounts of RAM and of capabilities
abbrev pub amounts_text : Amounts → List ℕ
amounts_text amounts = codes "ram " ++ decimal amounts.ram ++ codes " caps " ++ decimal amounts.caps

-- the text of a reply
abbrev pub reply_text : Reply → List ℕ
reply_text (Selected selector) = codes "cap " ++ decimal selector
reply_text (Attached address) = codes "at " ++ address_text address
reply_text (Bytes bytes) = codes "data " ++ hex_text bytes
reply_text Done = codes "ok"
reply_text (Quotas account) = quota_text account
reply_text (Reserved reserve) = amounts_text reserve
reply_text (Told text) = text
reply_text (Refused refusal) = refusal_name refusal

-- a line that a log server finished: the label of the session, and the bytes
pub record LogLine : Type 0 where
  pub label : List ℕ
  pub text : List ℕ

-- a byte as the log prints it
abbrev pub printed : ℕ → ℕ
printed b = if nat_le 32 b && nat_le b 126 then b else 46

-- a finished line as the log prints it
abbrev pub log_text : LogLine → List ℕ
log_text line = codes "[" ++ line.label ++ codes "] " ++ map printed line.text ++ 10 ∷ []
