-- How many files are standard input.
use Rattle.std.proofs.Common.{◌≡◌, ◌+◌, ◌∙◌, ℕ, List, ◌++◌, ap, filter, length, length-append}
use Rattle.std.proofs.lemmas.List.Elements.{filter-append}
use Rattle.cli_options.specs.Inputs.{inputs, is_input}

-- files before others
pub counted : (paths more : List (List ℕ)) → inputs (paths ++ more) ≡ inputs paths + inputs more
counted paths more = ap length (filter-append is_input paths more) ∙ length-append (filter is_input paths) (filter is_input more)
