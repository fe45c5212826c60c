-- The text of a machine's start list.
use Rattle.std.specs.Prelude.{◌≡◌, ℕ, List, Option, Some, None, Ok}
use Rattle.std.specs.Option.{option_copied}
use Rattle.own_model.specs.MachineA.{machine_a}
use Rattle.list_parser.specs.StartText.{list_in}
use Rattle.cli_base.specs.Files.{HasNoList, IsFrontAt, list_filled}
use Rattle.cli_base.specs.Texts.{bytes_of}
use Rattle.cli_base.specs.declared.machine.Machine.{Machine}
use Rattle.cli_base.specs.declared.settings.Settings.{Settings}

-- a text is that of the file at a path, with the values of names
abbrev pub IsFilled : (List ℕ → Option (List ℕ)) → Settings → List ℕ → List ℕ → Type 0
IsFilled texts settings path text = (file : List ℕ) × IsFrontAt texts path file × (list_filled settings file ≡ Ok text)

-- the text of a list is that of its file; without a path it is that of machine A
abbrev pub IsTextFor : (List ℕ → Option (List ℕ)) → Settings → Option (List ℕ) → List ℕ → Type 0
IsTextFor texts settings None text = list_in text ≡ Ok machine_a
IsTextFor texts settings (Some path) text = IsFilled texts settings path text

-- a machine is that of the list of a path
abbrev pub IsMachineOf : (List ℕ → Option (List ℕ)) → Settings → Option (List ℕ) → Machine → Type 0
IsMachineOf texts settings path machine =
    (option_copied machine.path ≡ path) × IsTextFor texts settings path (bytes_of machine.text)

-- a path is that of no start list; without a path there is one
abbrev pub LacksList : (List ℕ → Option (List ℕ)) → Settings → Option (List ℕ) → Type 0
LacksList texts settings None = ⊥
LacksList texts settings (Some path) = HasNoList texts settings path
