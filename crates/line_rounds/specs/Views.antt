-- What contracts see of what is made, and of why nothing is.
use Rattle.std.specs.Prelude.{◌≡◌, ℕ, List, [], ⊤, Option, Some, None, Result, Ok, Err, map}
use Rattle.std.specs.Option.{option_copied}
use Rattle.std.specs.Borrow.{Bor}
use Rattle.line_rounds.specs.Unfolding.{RoundHead, Made, UnfoldedText}
use Rattle.line_rounds.specs.declared.fault.RoundsFault.{RoundsFault}
use Rattle.line_rounds.specs.declared.fault.UnfoldError.{UnfoldError}
use Rattle.line_rounds.specs.declared.fault.UnfoldError.TheVariants.{Fault, NoMemory}
use Rattle.line_rounds.specs.declared.round_head.RoundHead.{RoundHead as Line}
use Rattle.line_rounds.specs.declared.unfolded_text.UnfoldedText.{UnfoldedText as Whole}
use Rattle.line_rounds.specs.declared.unfolded_text.UnfoldedText.TheVariants.{Same, New}
use Rattle.line_rounds.specs.declared.unfolding.Unfolding.{Unfolding}

-- the bytes of lines
abbrev pub texts : List (Bor (List ℕ)) → List (List ℕ)
texts lines = map (λ line. line.now) lines

abbrev pub made_of : Unfolding → Made
made_of made = record { text = made.text.items; count = made.count; marks = made.marks.items; known = made.known }

-- the program's result is the model's, and makes this; or it has the model's fault, or the host is out of memory
abbrev pub Makes : {A B : Type 0} → Result A UnfoldError → Result B RoundsFault → B → Type 0
Makes (Ok done) told made = told ≡ Ok made
Makes (Err (Fault fault)) told made = told ≡ Err fault
Makes (Err NoMemory) told made = ⊤

abbrev pub head_view : Line → RoundHead
head_view head = record { count = head.count; counter = option_copied head.counter }

abbrev pub head_seen : Option Line → Option RoundHead
head_seen None = None
head_seen (Some head) = Some (head_view head)

abbrev pub head_told : Result Line RoundsFault → Result RoundHead RoundsFault
head_told (Ok head) = Ok (head_view head)
head_told (Err fault) = Err fault

abbrev pub whole_view : Whole → UnfoldedText
whole_view (Same text) = record { text = text.now; marks = [] }
whole_view (New text marks) = record { text = text.items; marks = marks.items }

-- a text is unfolded as in the model, or has the model's fault, or the host is out of memory
abbrev pub Unfolds : Result Whole UnfoldError → Result UnfoldedText RoundsFault → Type 0
Unfolds (Ok made) told = told ≡ Ok (whole_view made)
Unfolds (Err (Fault fault)) told = told ≡ Err fault
Unfolds (Err NoMemory) told = ⊤
