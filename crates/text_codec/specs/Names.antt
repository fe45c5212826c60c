-- The front of a text that may be a name.
use Rattle.std.specs.Prelude.{ℕ, List, not}
use Rattle.std.specs.List.{position_or_len}
use Rattle.own_model.specs.Text.{is_name_byte}

-- how many bytes at the front may be in a name
abbrev pub name_len : List ℕ → ℕ
name_len text = position_or_len (λ b. not (is_name_byte b)) text
