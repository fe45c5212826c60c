-- The texts of files, as far as they are known.
use Rattle.std.specs.Prelude.{◌≡◌, ◌<◌, ℕ, List, length, take, true, is_err, is_some, Option, Some, None, IfSome, Result, Ok, Err, ⊤}
use Rattle.line_names.specs.Lists.{filled}
use Rattle.line_names.specs.declared.list_filling.UnknownName.{UnknownName}
use Rattle.list_faults.specs.Places.{fault_of}
use Rattle.list_parser.specs.StartText.{list_in}
use Rattle.cli_base.specs.Given.{names_of}
use Rattle.cli_base.specs.declared.settings.Settings.{Settings}

-- so many bytes from the front, or all
abbrev pub front_of : Option ℕ → List ℕ → List ℕ
front_of None bytes = bytes
front_of (Some most) bytes = take most bytes

-- a text is that of the file at a path
abbrev pub IsTextAt : (List ℕ → Option (List ℕ)) → List ℕ → List ℕ → Type 0
IsTextAt texts path text = IfSome (texts path) (λ bytes. text ≡ bytes)

-- the bytes that are read of a list or a policy: one more than it may have
abbrev pub front : List ℕ → List ℕ
front bytes = take 65537 bytes

-- a text is the front of the file at a path
abbrev pub IsFrontAt : (List ℕ → Option (List ℕ)) → List ℕ → List ℕ → Type 0
IsFrontAt texts path text = IfSome (texts path) (λ bytes. text ≡ front bytes)

-- no text of a file is known
abbrev pub IsUnknown : (List ℕ → Option (List ℕ)) → List ℕ → Type 0
IsUnknown texts path = texts path ≡ None

-- a file has more bytes than a scenario that is read whole, as far as it is known
abbrev pub IsTooLong : (List ℕ → Option (List ℕ)) → List ℕ → Type 0
IsTooLong texts path = IfSome (texts path) (λ bytes. 67108864 < length bytes)

-- ---- start lists

-- the text of a list with the values of names, or the first name that has none
abbrev pub list_filled : Settings → List ℕ → Result (List ℕ) UnknownName
list_filled settings text = filled (names_of settings) text

-- a name has no value, or a text is no start list
abbrev pub IsNoList : Result (List ℕ) UnknownName → Type 0
IsNoList (Err name) = ⊤
IsNoList (Ok text) = is_err (list_in text) ≡ true

-- a name has no value, or a text is no start list that boots
abbrev pub IsNoBoot : Result (List ℕ) UnknownName → Type 0
IsNoBoot (Err name) = ⊤
IsNoBoot (Ok text) = is_some (fault_of text) ≡ true

-- the file at a path is no start list, as far as it is known
abbrev pub HasNoList : (List ℕ → Option (List ℕ)) → Settings → List ℕ → Type 0
HasNoList texts settings path = IfSome (texts path) (λ bytes. IsNoList (list_filled settings (front bytes)))

-- the file at a path is no start list that boots, as far as it is known
abbrev pub HasNoBoot : (List ℕ → Option (List ℕ)) → Settings → List ℕ → Type 0
HasNoBoot texts settings path = IfSome (texts path) (λ bytes. IsNoBoot (list_filled settings (front bytes)))
