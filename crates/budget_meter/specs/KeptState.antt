-- What a meter knows of the files or the objects of a session.
use Rattle.std.specs.Prelude.{◌≡◌, Option, Some, None}
use Rattle.own_model.specs.FileService.{no_files}
use Rattle.own_model.specs.Growth.{Shape}
use Rattle.own_model.specs.Services.{ServiceState}
use Rattle.own_model.specs.Services.ServiceState.{Filing, Holding, Logging}
use Rattle.budget_meter.specs.ObjectSizes.{KnownObjects, known_of}
use Rattle.budget_meter.specs.RequestTests.{files_in}
use Rattle.budget_meter.specs.Sizes.{Keeps}
use Rattle.budget_meter.specs.declared.file_sizes.FileSizes.{FileSizes}

-- the heap of a session's nodes
abbrev pub heap_shape : ServiceState → Shape
heap_shape (Logging partial) = no_files.shape
heap_shape (Filing files) = files.shape
heap_shape (Holding kinds objects) = objects.shape

-- a server of objects stores these, and any other server these files
abbrev pub KeepsState : FileSizes → Option KnownObjects → ServiceState → Type 0
KeepsState sizes (Some known) (Holding kinds objects) = known ≡ known_of kinds objects
KeepsState sizes (Some known) state = ⊥
KeepsState sizes None (Holding kinds objects) = ⊥
KeepsState sizes None state = Keeps sizes (files_in state).files

-- a server stores no objects
abbrev pub HasNoObjects : ServiceState → Type 0
HasNoObjects (Holding kinds objects) = ⊥
HasNoObjects state = Unit {0}
