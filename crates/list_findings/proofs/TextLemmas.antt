-- What is read of bytes that are UTF-8, or aren't.
use Rattle.std.proofs.Common.{◌≡◌, ℕ, true, false, cond, List, Some, None, refl}
use Rattle.std.specs.Str.{IsUtf8, is_utf8}
use Rattle.std.proofs.lemmas.Str.{IsUtf8-from_is_utf8, is_utf8-from_IsUtf8}
use Rattle.json.specs.Json.{Json, document}
use Rattle.list_findings.specs.Repeated.{value_in}

-- the value of a text
pub value_in-text : (bytes : List ℕ) (j : Json) → IsUtf8 bytes → document bytes ≡ Some j → Some j ≡ value_in bytes
value_in-text bytes j is reads = rw (is_utf8-from_IsUtf8 bytes is, reads) refl

-- no value
pub value_in-none : (bytes : List ℕ) → (IsUtf8 bytes → document bytes ≡ None) → None ≡ value_in bytes
value_in-none bytes none =
    elim (is_utf8 bytes) as (λ b. is_utf8 bytes ≡ b → None ≡ cond b (document bytes) None)
    [ true ↦ λ is. rw (none (IsUtf8-from_is_utf8 bytes is)) refl | false ↦ λ is. refl ] refl
