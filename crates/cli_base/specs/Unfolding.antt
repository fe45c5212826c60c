-- A scenario's text with its rounds unfolded, and the exit status by it.
use Rattle.std.specs.Prelude.{◌≡◌, ◌⊎◌, ℕ, List, Option, Result, Ok, Err}
use Rattle.std.specs.Borrow.{Bor}
use Rattle.line_rounds.specs.Unfolding.{UnfoldedText, unfolded}
use Rattle.line_rounds.specs.declared.fault.RoundsFault.{RoundsFault}
use Rattle.cli_base.specs.Files.{IsTextAt, IsUnknown}
use Rattle.cli_base.specs.Given.{names_of}
use Rattle.cli_base.specs.MachineChoice.{IsMachineFor, LacksMachine}
use Rattle.cli_base.specs.Statuses.{EndsAs}
use Rattle.cli_base.specs.declared.machine.Machine.{Machine}
use Rattle.cli_base.specs.declared.settings.Settings.{Settings}

-- a text with its rounds unfolded, or their fault
unfoldable pub rounds_of : Settings → List ℕ → Result UnfoldedText RoundsFault
rounds_of settings text = unfolded (names_of settings) text

-- the rounds of a text have a fault
abbrev pub HasRoundsFault : Settings → List ℕ → Type 0
HasRoundsFault settings text = (fault : RoundsFault) × (rounds_of settings text ≡ Err fault)

-- by the text of a scenario: 3 if its rounds have a fault, and else the status of the lines that are run
abbrev pub EndsUnfolded : Settings → List ℕ → (UnfoldedText → ℕ → Type 0) → ℕ → Type 0
EndsUnfolded settings text Ends status =
    (HasRoundsFault settings text × (status ≡ 3))
    ⊎ ((lines : UnfoldedText) × (rounds_of settings text ≡ Ok lines) × Ends lines status)

-- a command ends by the text of a scenario and by the machine that is chosen for it; it refuses a list or a scenario that isn't read,
-- and such a machine
abbrev pub IsRefusedFor : (List ℕ → Option (List ℕ)) → Settings → Option (Bor (List ℕ)) → List ℕ → (Machine → Type 0) → Type 0
IsRefusedFor texts settings named scenario Refuses =
    LacksMachine texts settings named scenario
    ⊎ (IsUnknown texts scenario ⊎ ((machine : Machine) × IsMachineFor texts settings named scenario machine × Refuses machine))

abbrev pub EndsOnText : (List ℕ → Option (List ℕ)) → Settings → Option (Bor (List ℕ)) → List ℕ → (Machine → Type 0)
    → (Machine → List ℕ → UnfoldedText → ℕ → Type 0) → ℕ → Type 0
EndsOnText texts settings named scenario Refuses Ends status =
    EndsAs (IsRefusedFor texts settings named scenario Refuses)
    (λ ended. (text : List ℕ) × IsTextAt texts scenario text × EndsUnfolded settings text
    (λ lines end. (machine : Machine) × IsMachineFor texts settings named scenario machine × Ends machine text lines end) ended) status
