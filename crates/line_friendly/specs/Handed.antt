-- What is handed on of a call, and the lines that are the engine's at first sight.
use Rattle.std.specs.Prelude.{ℕ, ◌==◌, ◌||◌, not, Bool, true, false, List, ⊤, Result, Ok, Err}
use Rattle.std.specs.List.{list_all}
use Rattle.own_model.specs.Call.{Call as Modelled}
use Rattle.own_model.specs.Call.Call.{CallSession, Poke}
use Rattle.line_grammar.specs.Read.{IsReadAs}
use Rattle.line_friendly.specs.declared.fault.FriendlyFault.{FriendlyFault}
use Rattle.line_friendly.specs.declared.reading.FriendlyLine.{FriendlyLine}
use Rattle.line_friendly.specs.declared.reading.FriendlyLine.TheVariants.{Nothing, Log, Call}

-- of a call what the engine reads of its line
abbrev pub HandsOn : Result FriendlyLine FriendlyFault → Type 0
HandsOn (Ok Nothing) = ⊤
HandsOn (Ok (Log text)) = ⊤
HandsOn (Ok (Call line call reply)) = IsReadAs line.now call
HandsOn (Err fault) = ⊤

-- a byte that only lines have in which something may be translated or filled: a quote, a comment's `#`, the tip of an arrow, a
-- carriage return, and the `$` of a name
abbrev pub is_sign : ℕ → Bool
is_sign b = b == 34 || (b == 35 || (b == 62 || (b == 13 || b == 36)))

abbrev pub has_no_sign : List ℕ → Bool
has_no_sign text = list_all (λ b. not (is_sign b)) text

-- a call whose line may have a text in quotes, or a size with a suffix after the first tokens
abbrev pub has_text : Modelled → Bool
has_text (Poke address bytes) = true
has_text (CallSession selector request) = true
has_text call = false
