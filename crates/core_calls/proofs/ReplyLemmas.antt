-- Bytes and their hexadecimal digits in what a service replies.
use Rattle.std.proofs.Common.{◌≡◌, ℕ, ◌<◌, List, [], ◌∷◌, ◌++◌, length, codes, refl, arith}
use Rattle.own_model.specs.Reply.{hex_text}
use Rattle.own_model.specs.FileText.{bytes_reply}

-- no bytes are told without a space, and some after one
pub reply_of_none : (bytes : List ℕ) → length bytes ≡ 0 → bytes_reply bytes ≡ codes "OK"
reply_of_none [] none = refl
reply_of_none (b ∷ bytes) none = absurd (omega arith)

pub reply_of_some : (bytes : List ℕ) → 0 < length bytes → bytes_reply bytes ≡ codes "OK " ++ hex_text bytes
reply_of_some [] some = absurd (omega arith)
reply_of_some (b ∷ bytes) some = refl
