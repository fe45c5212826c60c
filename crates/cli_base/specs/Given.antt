-- The values that arguments of `--set` give to names.
use Rattle.std.specs.Prelude.{◌≡◌, ℕ, ◌+◌, ◌==◌, ◌&&◌, ◌||◌, not, nat_eq, nat_le, nat_lt, All, Any, Bool, false, true, List, [], ◌∷◌, codes, filter, length, take, drop, position, IfSome, Option, Some, None}
use Rattle.std.specs.Str.{bytes_eq}
use Rattle.std.specs.Borrow.{Bor}
use Rattle.std.specs.List.{list_all, slice_get, starts_with}
use Rattle.std.specs.Option.{option_copied, option_map, option_map_or, unwrap_or}
use Rattle.line_friendly.specs.Words.{skip_blanks}
use Rattle.line_names.specs.Names.{is_name, is_name_byte}
use Rattle.line_names.specs.NameTable.{NameTable, nothing, with_given}
use Rattle.cli_base.specs.declared.settings.Settings.{Settings}

-- the place of an argument's first `=`
abbrev pub equals_in : List ℕ → Option ℕ
equals_in argument = position (λ b. b == 61) argument

-- the name is before it, and the value after it; an argument without it has no value
abbrev pub name_in : List ℕ → List ℕ
name_in argument = option_map_or (λ n. take n argument) (equals_in argument) argument

abbrev pub value_in : List ℕ → Option (List ℕ)
value_in argument = option_map (λ n. drop (n + 1) argument) (equals_in argument)

-- a byte may be in a value: no quote, backslash or control character
abbrev pub is_value_byte : ℕ → Bool
is_value_byte b = not (b == 34) && (not (b == 92) && (nat_le 32 b && not (b == 127)))

-- a name and its value
abbrev pub are_set : List ℕ → Option (List ℕ) → Bool
are_set name None = false
are_set name (Some value) = is_name name && list_all is_value_byte value

-- an argument gives a name a value, and no other one of these does
abbrev pub is_setting : List (Bor (List ℕ)) → List ℕ → Bool
is_setting arguments argument =
    are_set (name_in argument) (value_in argument)
    && not (nat_lt 1 (length (filter (λ (other : Bor (List ℕ)). bytes_eq (name_in other.now) (name_in argument)) arguments)))

-- one of these arguments gives no name a value, or a name that another one gives
abbrev pub HasNoSetting : List (Bor (List ℕ)) → Type 0
HasNoSetting arguments = list_all (λ argument. is_setting arguments argument.now) arguments ≡ false

-- ---- names that nothing reads

-- a text begins with a name, and the name ends there
abbrev pub has_name_first : List ℕ → List ℕ → Bool
has_name_first name text =
    starts_with nat_eq text name && option_map_or (λ byte. not (is_name_byte byte)) (slice_get text (length name)) true

-- a text begins with `$NAME`, `${NAME` or `@set NAME`
abbrev pub has_use_first : List ℕ → List ℕ → Bool
has_use_first name text =
    starts_with nat_eq text (codes "$") && has_name_first name (drop 1 text)
    || (starts_with nat_eq text (codes "${") && has_name_first name (drop 2 text)
    || starts_with nat_eq text (codes "@set") && has_name_first name (skip_blanks (drop 4 text)))

-- a text reads a name: it has that somewhere
abbrev pub has_use : List ℕ → List ℕ → Bool
has_use name [] = false
has_use name (byte ∷ text) = has_use_first name (byte ∷ text) || has_use name text

-- the file at a path doesn't read a name, as far as it is known
abbrev pub LacksName : (List ℕ → Option (List ℕ)) → List ℕ → List ℕ → Type 0
LacksName texts name path = IfSome (texts path) (λ text. has_use name text ≡ false)

-- one of these arguments gives a value to a name that no file of these paths reads
abbrev pub HasUnread : (List ℕ → Option (List ℕ)) → List (List ℕ) → List (Bor (List ℕ)) → Type 0
HasUnread texts paths arguments = Any (λ (argument : Bor (List ℕ)). All (LacksName texts (name_in argument.now)) paths) arguments

-- names after an argument, and after these arguments in order
abbrev pub given_by : NameTable → List ℕ → NameTable
given_by known argument = option_map_or (λ value. with_given known (name_in argument) value) (value_in argument) known

abbrev pub given_by_all : NameTable → List (Bor (List ℕ)) → NameTable
given_by_all known [] = known
given_by_all known (argument ∷ arguments) = given_by_all (given_by known argument.now) arguments

-- the values that a command line gives to names
abbrev pub names_of : Settings → NameTable
names_of settings = unwrap_or (option_copied settings.known) nothing
