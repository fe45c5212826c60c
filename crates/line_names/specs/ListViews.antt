-- The faults of a list whose names aren't replaced, as contracts see them.
use Rattle.std.specs.Prelude.{◌≡◌, ℕ, List, ⊤, Result, Err}
use Rattle.line_names.specs.declared.list_filling.Unfilled.{Unfilled}
use Rattle.line_names.specs.declared.list_filling.Unfilled.TheVariants.{Unknown, NoMemory}
use Rattle.line_names.specs.declared.list_filling.UnknownName.{UnknownName}

-- the fault is the stated one, or the host is out of memory
abbrev pub FailsAs : Result (List ℕ) UnknownName → Unfilled → Type 0
FailsAs told (Unknown name) = told ≡ Err name
FailsAs told NoMemory = ⊤
