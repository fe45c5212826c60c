-- The files of a session, by their names and sizes.
use Rattle.std.specs.Prelude.{◌≡◌, ℕ, List, [], length, map}
use Rattle.own_model.specs.FileService as model
use Rattle.budget_meter.specs.declared.file_sizes.File.{File}
use Rattle.budget_meter.specs.declared.file_sizes.FileSizes.{FileSizes}

pub record Size : Type 0 where
  pub name : List ℕ
  pub size : ℕ

abbrev pub kept_size : File → Size
kept_size file = record { name = file.name.items; size = file.size }

abbrev pub size_of : model.File → Size
size_of file = record { name = file.name; size = length file.bytes }

-- these files are kept, in this order
abbrev pub Keeps : FileSizes → List model.File → Type 0
Keeps sizes files = map kept_size sizes.files.items ≡ map size_of files

-- an empty file, with its node at a place
abbrev pub new_file : List ℕ → ℕ → ℕ → model.File
new_file name chunk offset = record { name = name; bytes = []; chunk = chunk; offset = offset }
