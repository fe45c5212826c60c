-- The beginning and the ending of a class.
use Rattle.std.specs.Prelude.{ℕ, Bool, false, nat_eq, Option, Some, None}
use Rattle.list_classes.specs.declared.label_class.LabelClass.{LabelClass}

-- a class has this beginning
abbrev pub has_front : Option LabelClass → ℕ → Bool
has_front None front = false
has_front (Some class) front = nat_eq class.front front

-- a class has this ending
abbrev pub has_end : Option LabelClass → ℕ → Bool
has_end None end = false
has_end (Some class) end = nat_eq class.end end
