-- Lines with their colours.
use Rattle.std.specs.Prelude.{◌≡◌, ℕ, ◌==◌, Bool, List, [], ◌∷◌, ◌++◌, codes, nat_eq, if◌then◌else◌, Option, Some, None}
use Rattle.std.specs.Io.KnownBytes.{Appends}
use Rattle.std.specs.List.{starts_with, ends_with}
use Rattle.std.specs.Option.{unwrap_or}
use Rattle.own_model.specs.Text.{first_word}
use Rattle.line_friendly.specs.Expected.{meets}
use Rattle.view_colors.specs.declared.shade.Shade.{Shade}
use Rattle.view_colors.specs.declared.shade.Shade.TheVariants.{Plain, Red, Bold}
use Rattle.view_colors.specs.declared.shade.Lines.{Lines}
use Rattle.view_colors.specs.declared.shade.Lines.TheVariants.{Replies, Complaints, Tests}

-- the bytes by which a terminal shows red, shows bold, and ends both
abbrev pub code_of : Shade → List ℕ
code_of Plain = []
code_of Red = 27 ∷ codes "[31m"
code_of Bold = 27 ∷ codes "[1m"

abbrev pub end_of : Shade → List ℕ
end_of Plain = []
end_of Red = 27 ∷ codes "[0m"
end_of Bold = 27 ∷ codes "[0m"

-- the text after the name and a colon of a transcript's line: no log line has a name
abbrev pub reply_in : List ℕ → List ℕ
reply_in line = if ends_with nat_eq (first_word line).word (codes ":") then unwrap_or (first_word line).rest [] else []

abbrev pub refuses : List ℕ → Bool
refuses line = meets (reply_in line) (codes "refused")

abbrev pub shade_of : Lines → List ℕ → Shade
shade_of Replies line = if refuses line then Red else Plain
shade_of Complaints line = Bold
shade_of Tests line =
    if starts_with nat_eq line (codes "not ok") then Red
    else (if starts_with nat_eq line (codes "# ") then Bold else Plain)

-- a line without its newline, between its colours
abbrev pub painted : Shade → List ℕ → List ℕ
painted shade line = code_of shade ++ line ++ end_of shade

-- the lines that bytes complete, after the kept bytes of the first of them
abbrev pub painted_lines : Lines → List ℕ → List ℕ → List ℕ
painted_lines lines line [] = []
painted_lines lines line (b ∷ bs) =
    if b == 10 then painted (shade_of lines line) line ++ 10 ∷ painted_lines lines [] bs else painted_lines lines (line ++ b ∷ []) bs

-- the bytes of the line that they don't complete
abbrev pub left_of : List ℕ → List ℕ → List ℕ
left_of line [] = line
left_of line (b ∷ bs) = if b == 10 then left_of [] bs else left_of (line ++ b ∷ []) bs

-- the bytes that a sink took, if it passes them on unchanged
abbrev pub contents_of : Option Lines → Option (List ℕ) → Option (List ℕ)
contents_of None known = known
contents_of (Some lines) known = None

-- a sink takes bytes: without colours the sink below has them; with colours it has the lines that they complete, each between
-- its colours, and the bytes of the next line are kept
abbrev pub Shows : Option Lines → List ℕ → Option (List ℕ) → List ℕ → Option (List ℕ) → List ℕ → Type 0
Shows None line below now_line now_below bytes = Appends below now_below bytes
Shows (Some lines) line below now_line now_below bytes =
    Appends below now_below (painted_lines lines line bytes) × (now_line ≡ left_of line bytes)
