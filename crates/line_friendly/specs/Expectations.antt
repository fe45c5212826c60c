-- What holds of what is expected of a reply.
use Rattle.std.specs.Prelude.{◌≡◌, ◌==◌, ◌&&◌, ◌||◌, Bool, true, false, not, List, ℕ, codes}
use Rattle.std.specs.List.{list_all}
use Rattle.std.specs.Str.{bytes_eq}
use Rattle.own_model.specs.FileText.{FileReply, file_reply}
use Rattle.own_model.specs.LogText.{bad_request, log_reply}
use Rattle.own_model.specs.Reply.{Reply, reply_text}
use Rattle.own_model.specs.Reply.Reply.{Selected, Attached, Bytes, Done, Quotas, Reserved, Told, Refused}
use Rattle.line_friendly.specs.Expected.{is_refusal, meets}

-- it has no star and no quote, and is neither `granted` nor `refused`
pub record IsExact (expected : List ℕ) : Type 0 where
  pub no_sign : list_all (λ b. not (b == 42) && not (b == 34)) expected ≡ true
  pub not_granted : bytes_eq expected (codes "granted") ≡ false
  pub not_refused : bytes_eq expected (codes "refused") ≡ false

-- then the same bytes meet it, and no others
abbrev pub ExactRepliesAreEqual : Type 0
ExactRepliesAreEqual = (reply expected : List ℕ) → IsExact expected → meets reply expected ≡ bytes_eq reply expected

-- a reply refuses, by what it is
abbrev pub refuses : Reply → Bool
refuses (Told text) = is_refusal text
refuses (Refused refusal) = true
refuses reply = false

abbrev pub denies : FileReply → Bool
denies (FileReply.Refused e) = true
denies reply = false

-- its text shows whether it refuses: of the core's replies
abbrev pub CoreShowsRefusals : Type 0
CoreShowsRefusals = (reply : Reply) → is_refusal (reply_text reply) ≡ refuses reply

-- and of a file service's
abbrev pub FilesShowRefusals : Type 0
FilesShowRefusals = (reply : FileReply) → is_refusal (file_reply reply) ≡ denies reply

-- of the core's replies, and of those of the two services
pub record RefusalsAreTold : Type 0 where
  pub core : CoreShowsRefusals
  pub files : FilesShowRefusals
  pub log : (count : ℕ) → is_refusal (log_reply count) ≡ false
  pub bad : is_refusal bad_request ≡ true
