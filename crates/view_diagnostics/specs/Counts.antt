-- The numbers of errors and warnings as text.
use Rattle.std.specs.Prelude.{ℕ, ◌==◌, ◌&&◌, nat_lt, List, [], ◌++◌, codes, decimal, if◌then◌else◌}
use Rattle.view_diagnostics.specs.declared.counts.Counts.{Counts}

-- a number of things of one kind
abbrev pub number_text : ℕ → List ℕ → List ℕ
number_text number kind = decimal number ++ (codes " " ++ (kind ++ (if number == 1 then [] else codes "s")))

-- and none of 0
abbrev pub some_text : ℕ → List ℕ → List ℕ
some_text number kind = if nat_lt 0 number then number_text number kind else []

abbrev pub counts_text : Counts → List ℕ
counts_text counts =
    some_text counts.errors (codes "error")
    ++ ((if nat_lt 0 counts.errors && nat_lt 0 counts.warnings then codes ", " else []) ++ some_text counts.warnings (codes "warning"))
