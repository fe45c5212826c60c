-- Cells of comma-separated values.
use Rattle.std.specs.Prelude.{ℕ, List, [], ◌∷◌, decimal}
use Rattle.csv.specs.Writing.{comma, default_writer, field_text}
use Rattle.own_model.specs.Account.{Account}

-- a cell after another
abbrev pub cell_text : List ℕ → List ℕ
cell_text text = comma ∷ field_text default_writer text

-- use and limit of RAM and of capabilities
abbrev pub account_cells : Account → List (List ℕ)
account_cells a = decimal a.ram_used ∷ decimal a.ram_limit ∷ decimal a.caps_used ∷ decimal a.caps_limit ∷ []
