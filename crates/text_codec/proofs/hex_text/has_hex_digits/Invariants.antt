-- All bytes so far are digits, or one is past them.
use Rattle.std.proofs.Common.{◌≡◌, take, nat_eq}
use Rattle.std.specs.List.{list_all}
use Rattle.hex.specs.Hex.{is_hex_digit}
use Rattle.text_codec.proofs.hex_text.has_hex_digits.Given as goal

abbrev pub invariant-loop-byte : goal.invariant-loop-byte
invariant-loop-byte l = nat_eq l.most 0 ≡ list_all is_hex_digit (take l.byte-index l.text)
