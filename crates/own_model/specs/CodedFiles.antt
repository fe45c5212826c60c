-- How files are stored as parts of a model's value.
use Rattle.std.specs.Prelude.{ℕ, List}
use Rattle.std.proofs.Common.{refl}
use Rattle.std.specs.Coded.{Coded, code_by, coded×, coded_ℕ, coded_list}
use Rattle.own_model.specs.FileService.{File, Files}
use Rattle.own_model.specs.Growth.{Shape}
use Rattle.own_model.specs.OwnHeap.{coded_shape}

-- a file, and files with the heap of their nodes, are stored as the tuples of their fields
abbrev pub coded_file : Coded File
coded_file =
    code_by
    (List ℕ × (List ℕ × (ℕ × ℕ)))
    (coded× (coded_list coded_ℕ) (coded× (coded_list coded_ℕ) (coded× coded_ℕ coded_ℕ)))
    (λ f. (f.name, (f.bytes, (f.chunk, f.offset))))
    (λ p. record { name = p.0; bytes = p.1.0; chunk = p.1.1.0; offset = p.1.1.1 })
    (λ _. refl)

abbrev pub coded_files : Coded Files
coded_files =
    code_by
    (List File × Shape)
    (coded× (coded_list coded_file) coded_shape)
    (λ f. (f.files, f.shape))
    (λ p. record { files = p.0; shape = p.1 })
    (λ _. refl)
