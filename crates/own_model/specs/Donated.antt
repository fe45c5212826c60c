-- What a client donates for a session, read off its own calls and their answers.
use Rattle.std.specs.Prelude.{ℕ, ◌==◌, List, [], ◌∷◌, if◌then◌else◌}
use Rattle.own_model.specs.Amounts.{Amounts, no_amounts, more_of}
use Rattle.own_model.specs.Call.{Call}
use Rattle.own_model.specs.Call.Call.{Open, Upgrade}
use Rattle.own_model.specs.OwnState.{OwnState}
use Rattle.own_model.specs.OwnStep.{own_step}
use Rattle.own_model.specs.Reply.{Reply}
use Rattle.own_model.specs.Reply.Reply.{Selected, Done}
use Rattle.own_model.specs.Session.{given}
use Rattle.own_model.specs.StartList.{Entry}

-- what the text of arguments names
abbrev pub donation_in : List ℕ → Amounts
donation_in text = record { ram = (given text).ram; caps = (given text).caps }

-- the donation for the session under a selector after one call more and what that is answered: an open that is answered this
-- selector begins it, and an upgrade of the selector that is done adds to it
abbrev pub counted : ℕ → Call → Reply → Amounts → Amounts
counted selector (Open service text) (Selected new) sum = if new == selector then donation_in text else sum
counted selector (Upgrade of text) Done sum = if of == selector then more_of sum (donation_in text) else sum
counted selector call reply sum = sum

-- the donation after calls
abbrev pub donated_after : Entry → ℕ → List Call → OwnState → Amounts → Amounts
donated_after entry selector [] s sum = sum
donated_after entry selector (call ∷ calls) s sum =
    donated_after entry selector calls (own_step entry call s).next (counted selector call (own_step entry call s).reply sum)

abbrev pub donated : Entry → ℕ → List Call → OwnState → Amounts
donated entry selector calls s = donated_after entry selector calls s no_amounts
