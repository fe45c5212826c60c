-- Donations as the arguments of sessions.
use Rattle.std.specs.Prelude.{ℕ, List}
use Rattle.own_model.specs.Amounts.{Amounts}
use Rattle.own_model.specs.Session.{given}
use Rattle.own_model.specs.SessionArgs.{arguments_text}

-- the canonical writing of a donation with the label of other arguments
abbrev pub donated_text : Amounts → List ℕ → List ℕ
donated_text donation args = arguments_text (record { ram = donation.ram; caps = donation.caps; label = (given args).label })
