-- What a status states of a scenario's text and its machine.
use Rattle.std.proofs.Common.{◌≡◌, ℕ, List, Option, Ok, subst, inl, inr}
use Rattle.std.specs.Prelude.{◌⊎◌}
use Rattle.std.specs.Borrow.{Bor}
use Rattle.std.specs.Option.{option_copied}
use Rattle.line_rounds.specs.Unfolding.{UnfoldedText}
use Rattle.cli_base.specs.Files.{IsTextAt, IsUnknown}
use Rattle.cli_base.specs.MachineChoice.{IsChosen, IsMachineFor, LacksMachine, list_path}
use Rattle.cli_base.specs.MachineTexts.{IsMachineOf, LacksList}
use Rattle.cli_base.specs.Statuses.{EndsAs}
use Rattle.cli_base.specs.Unfolding.{EndsOnText, EndsUnfolded, HasRoundsFault, IsRefusedFor, rounds_of}
use Rattle.cli_base.specs.declared.machine.Machine.{Machine}
use Rattle.cli_base.specs.declared.machine_choice.MachineChoice.{MachineChoice}
use Rattle.cli_base.specs.declared.settings.Settings.{Settings}

module _ (texts : List ℕ → Option (List ℕ)) (settings : Settings) (named : Option (Bor (List ℕ))) (scenario : List ℕ) where
  -- a machine of the path of the list that is chosen
  pub machine_for : (choice : MachineChoice) (path : Option (Bor (List ℕ))) (machine : Machine) → IsChosen texts named scenario choice
      → option_copied path ≡ list_path choice → IsMachineOf texts settings (option_copied path) machine
      → IsMachineFor texts settings named scenario machine
  machine_for choice path machine chosen is found = (choice, chosen, subst (λ p. IsMachineOf texts settings p machine) is found)

  -- a path that is chosen, and is that of no list
  pub lacks_machine : (choice : MachineChoice) (path : Option (Bor (List ℕ))) → IsChosen texts named scenario choice
      → option_copied path ≡ list_path choice → LacksList texts settings (option_copied path)
      → LacksMachine texts settings named scenario
  lacks_machine choice path chosen is lacks = (choice, chosen, subst (λ p. LacksList texts settings p) is lacks)

  module _ (Refuses : Machine → Type 0) (Ends : Machine → List ℕ → UnfoldedText → ℕ → Type 0) where
    -- the host is out of memory
    pub on_lack : (status : ℕ) → status ≡ 1 → EndsOnText texts settings named scenario Refuses Ends status
    on_lack status one = inl (inl (inl one))

    -- the list isn't read
    pub on_no_machine : (status : ℕ) → (status ≡ 1) ⊎ (status ≡ 2) × LacksMachine texts settings named scenario
        → EndsOnText texts settings named scenario Refuses Ends status
    on_no_machine status (inl one) = inl (inl (inl one))
    on_no_machine status (inr (two, lacks)) = inl (inr (two, inl lacks))

    -- the scenario isn't read
    pub on_no_text : (status : ℕ) → (status ≡ 1) ⊎ (status ≡ 2) × IsUnknown texts scenario
        → EndsOnText texts settings named scenario Refuses Ends status
    on_no_text status (inl one) = inl (inl (inl one))
    on_no_text status (inr (two, unknown)) = inl (inr (two, inr (inl unknown)))

    -- a text on a machine
    pub on_text : (machine : Machine) (text : List ℕ) (status : ℕ) → IsMachineFor texts settings named scenario machine
        → IsTextAt texts scenario text → EndsAs (Refuses machine) (EndsUnfolded settings text (Ends machine text)) status
        → EndsOnText texts settings named scenario Refuses Ends status
    on_text machine text status for at (inl (inl failed)) = inl (inl failed)
    on_text machine text status for at (inl (inr (two, refused))) = inl (inr (two, inr (inr (machine, for, refused))))
    on_text machine text status for at (inr (inl fault)) = inr (text, at, inl fault)
    on_text machine text status for at (inr (inr (lines, is, ends))) = inr (text, at, inr (lines, is, (machine, for, ends)))

-- a text that isn't unfolded
pub ends_folded : (R : Type 0) (settings : Settings) (text : List ℕ) (Ends : UnfoldedText → ℕ → Type 0) (status : ℕ)
    → (status ≡ 1) ⊎ (status ≡ 3) → (status ≡ 3 → HasRoundsFault settings text) → EndsAs R (EndsUnfolded settings text Ends) status
ends_folded R settings text Ends status (inl one) fault = inl (inl (inl one))
ends_folded R settings text Ends status (inr three) fault = inr (inl (fault three, three))

-- the lines of a text that is unfolded
pub ends_lines : (R : Type 0) (settings : Settings) (text : List ℕ) (Ends : UnfoldedText → ℕ → Type 0) (lines : UnfoldedText) (status : ℕ)
    → rounds_of settings text ≡ Ok lines → EndsAs R (Ends lines) status → EndsAs R (EndsUnfolded settings text Ends) status
ends_lines R settings text Ends lines status is (inl failed) = inl failed
ends_lines R settings text Ends lines status is (inr ends) = inr (inr (lines, is, ends))
