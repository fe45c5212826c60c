-- The start list that is chosen for a scenario.
use Rattle.std.specs.Prelude.{◌≡◌, ℕ, List, ◌++◌, Option, Some, None, MatchOption, codes, string_bytes, true, ⊤}
use Rattle.std.specs.Borrow.{Bor}
use Rattle.cli_base.specs.Files.{IsUnknown}
use Rattle.cli_base.specs.MachineTexts.{IsMachineOf, LacksList}
use Rattle.cli_base.specs.Paths.{is_scenario, stem_of}
use Rattle.cli_base.specs.declared.machine.Machine.{Machine}
use Rattle.cli_base.specs.declared.machine_choice.MachineChoice.{MachineChoice}
use Rattle.cli_base.specs.declared.machine_choice.MachineChoice.TheVariants.{Named, NextTo, BuiltIn}
use Rattle.cli_base.specs.declared.settings.Settings.{Settings}

-- the path of the list next to a scenario
abbrev pub list_beside : List ℕ → List ℕ
list_beside scenario = stem_of scenario ++ codes ".json"

-- without a name the list next to the scenario, or the built-in one if no list is known to be there
abbrev pub IsUnnamed : (List ℕ → Option (List ℕ)) → List ℕ → MachineChoice → Type 0
IsUnnamed texts scenario (Named list) = ⊥
IsUnnamed texts scenario (NextTo list) = (is_scenario scenario ≡ true) × (string_bytes list ≡ list_beside scenario)
IsUnnamed texts scenario BuiltIn = is_scenario scenario ≡ true → IsUnknown texts (list_beside scenario)

-- the path of a list; the built-in one has none
abbrev pub list_path : MachineChoice → Option (List ℕ)
list_path (Named list) = Some list.now
list_path (NextTo list) = Some (string_bytes list)
list_path BuiltIn = None

-- the list that a command names, or without a name that of the scenario
abbrev pub IsChosen : (List ℕ → Option (List ℕ)) → Option (Bor (List ℕ)) → List ℕ → MachineChoice → Type 0
IsChosen texts named scenario choice = MatchOption named (IsUnnamed texts scenario choice) (λ list. choice ≡ Named list)

-- a machine is that of the list that is chosen
abbrev pub IsMachineFor : (List ℕ → Option (List ℕ)) → Settings → Option (Bor (List ℕ)) → List ℕ → Machine → Type 0
IsMachineFor texts settings named scenario machine =
    (choice : MachineChoice) × IsChosen texts named scenario choice × IsMachineOf texts settings (list_path choice) machine

-- the path that is chosen is that of no start list
abbrev pub LacksMachine : (List ℕ → Option (List ℕ)) → Settings → Option (Bor (List ℕ)) → List ℕ → Type 0
LacksMachine texts settings named scenario =
    (choice : MachineChoice) × IsChosen texts named scenario choice × LacksList texts settings (list_path choice)
