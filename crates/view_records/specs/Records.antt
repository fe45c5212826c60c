-- Records: cells with names.
use Rattle.std.specs.Prelude.{ℕ, List, Option, None, Some}
use Rattle.serde_json.specs.Data.{Data}

pub data CellData : Type 0 where
  absent : CellData
  null : CellData
  text : List ℕ → CellData
  number : ℕ → CellData
  list : Data → CellData

abbrev pub Record : Type 0
Record = List (List ℕ × CellData)

-- a text, if there is one
abbrev pub if_text : Option (List ℕ) → CellData
if_text None = absent
if_text (Some t) = text t

-- a number, if there is one
abbrev pub if_number : Option ℕ → CellData
if_number None = absent
if_number (Some n) = number n

-- a list, if there is one
abbrev pub if_list : Option Data → CellData
if_list None = absent
if_list (Some d) = list d

-- a cell, or null if it is absent
abbrev pub null_if_absent : CellData → CellData
null_if_absent absent = null
null_if_absent null = null
null_if_absent (text t) = text t
null_if_absent (number n) = number n
null_if_absent (list d) = list d
