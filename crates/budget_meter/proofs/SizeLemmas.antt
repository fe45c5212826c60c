-- Kept sizes are those of the model's files.
use Rattle.std.proofs.lemmas.Bool.Decides.{nat_tests}
use Rattle.std.proofs.Common.{arith, ◌≡◌, ℕ, suc, ◌+◌, ◌<◌, ◌≤◌, Bool, true, false, cond, List, [], ◌∷◌, map, find, length, set, get_or, refl, sym, ap, ◌∙◌}
use Rattle.std.specs.Prelude.{Option, Some, None, position, not}
use Rattle.std.specs.List.{remove, position_or_len}
use Rattle.std.specs.Option.{option_map}
use Rattle.std.specs.Str.{bytes_eq}
use Rattle.own_model.specs.FileService as model
use Rattle.own_model.specs.FileService.{is_named, rewritten, without}
use Rattle.budget_meter.specs.Sizes.{Size, kept_size, size_of}
use Rattle.budget_meter.specs.declared.file_sizes.File.{File}

module _ (name : List ℕ) where
  abbrev has : Size → Bool
  has size = bytes_eq size.name name

  abbrev pub has_kept : File → Bool
  has_kept file = bytes_eq file.name.items name

  -- the first of a name with another size, and without it
  abbrev resized : ℕ → List Size → List Size
  resized n [] = []
  resized n (x ∷ xs) = cond (has x) (record x { size = n } ∷ xs) (x ∷ resized n xs)

  abbrev lessened : List Size → List Size
  lessened [] = []
  lessened (x ∷ xs) = cond (has x) xs (x ∷ lessened xs)

  abbrev found : List Size → Option ℕ
  found xs = option_map (λ x. x.size) (find has xs)

  -- ---- of the model's files

  found_model : (files : List model.File) → found (map size_of files) ≡ option_map (λ file. length file.bytes) (find (is_named name) files)
  found_model [] = refl
  found_model (file ∷ files) =
      elim (bytes_eq file.name name) as
      (λ b. option_map (λ x. x.size) (cond b (Some (size_of file)) (find has (map size_of files)))
      ≡ option_map (λ (f : model.File). length f.bytes) (cond b (Some file) (find (is_named name) files))) [
        | true ↦ refl
        | false ↦ found_model files
      ]

  resized_model : (bytes : List ℕ) (files : List model.File) → resized (length bytes) (map size_of files) ≡ map size_of (rewritten name bytes files)
  resized_model bytes [] = refl
  resized_model bytes (file ∷ files) =
      elim (bytes_eq file.name name) as
      (λ b. cond b (record { name = file.name; size = length bytes } ∷ map size_of files) (size_of file ∷ resized (length bytes) (map size_of files))
      ≡ map size_of (cond b (record file { bytes = bytes } ∷ files) (file ∷ rewritten name bytes files))) [
        | true ↦ refl
        | false ↦ ap (λ rest. size_of file ∷ rest) (resized_model bytes files)
      ]

  lessened_model : (files : List model.File) → lessened (map size_of files) ≡ map size_of (without name files)
  lessened_model [] = refl
  lessened_model (file ∷ files) =
      elim (bytes_eq file.name name) as
      (λ b. cond b (map size_of files) (size_of file ∷ lessened (map size_of files)) ≡ map size_of (cond b files (file ∷ without name files))) [
        | true ↦ refl
        | false ↦ ap (λ rest. size_of file ∷ rest) (lessened_model files)
      ]

  -- ---- of the kept ones, at the first place of the name
  abbrev at : List File → ℕ
  at xs = position_or_len has_kept xs

  behind : (xs : List File) → suc (at xs) ≡ 1 + at xs
  behind xs = omega arith

  found_kept : (xs : List File) (d : File) → at xs < length xs → found (map kept_size xs) ≡ Some (get_or xs (at xs) d).size
  found_kept [] d there = absurd (omega (arith, there))
  found_kept (x ∷ xs) d there =
      elim (has_kept x) as
      (λ b. cond (not b) (1 + at xs) 0 < suc (length xs) →
      option_map (λ (s : Size). s.size) (cond b (Some (kept_size x)) (find has (map kept_size xs))) ≡ Some (get_or (x ∷ xs) (cond (not b) (1 + at xs) 0) d).size) [
        | true ↦ λ _. refl
        | false ↦ λ less. found_kept xs d (omega (arith, less)) ∙ ap (λ j. Some (get_or (x ∷ xs) j d).size) (behind xs)
      ] there

  resized_kept : (n : ℕ) (xs : List File) (d : File) → at xs < length xs →
      resized n (map kept_size xs) ≡ map kept_size (set xs (at xs) (record (get_or xs (at xs) d) { size = n }))
  resized_kept n [] d there = absurd (omega (arith, there))
  resized_kept n (x ∷ xs) d there =
      elim (has_kept x) as
      (λ b. cond (not b) (1 + at xs) 0 < suc (length xs) →
      cond b (record { name = x.name.items; size = n } ∷ map kept_size xs) (kept_size x ∷ resized n (map kept_size xs))
      ≡ map kept_size (set (x ∷ xs) (cond (not b) (1 + at xs) 0) (record (get_or (x ∷ xs) (cond (not b) (1 + at xs) 0) d) { size = n }))) [
        | true ↦ λ _. refl
        | false ↦ λ less.
            ap (λ rest. kept_size x ∷ rest) (resized_kept n xs d (omega (arith, less)))
            ∙ ap (λ j. map kept_size (set (x ∷ xs) j (record (get_or (x ∷ xs) j d) { size = n }))) (behind xs)
      ] there

  lessened_kept : (xs : List File) → at xs < length xs → lessened (map kept_size xs) ≡ map kept_size (remove xs (at xs))
  lessened_kept [] there = absurd (omega (arith, there))
  lessened_kept (x ∷ xs) there =
      elim (has_kept x) as
      (λ b. cond (not b) (1 + at xs) 0 < suc (length xs) →
      cond b (map kept_size xs) (kept_size x ∷ lessened (map kept_size xs)) ≡ map kept_size (remove (x ∷ xs) (cond (not b) (1 + at xs) 0))) [
        | true ↦ λ _. refl
        | false ↦ λ less.
            ap (λ rest. kept_size x ∷ rest) (lessened_kept xs (omega (arith, less))) ∙ ap (λ j. map kept_size (remove (x ∷ xs) j)) (behind xs)
      ] there

  -- and where the name has none
  record Lacks (xs : List File) : Type 0 where
    finds : found (map kept_size xs) ≡ None
    resizes : (n : ℕ) → resized n (map kept_size xs) ≡ map kept_size xs
    lessens : lessened (map kept_size xs) ≡ map kept_size xs

  lacks : (xs : List File) → length xs ≤ at xs → Lacks xs
  lacks [] out = record { finds = refl; resizes = λ n. refl; lessens = refl }
  lacks (x ∷ xs) out =
      elim (has_kept x) as
      (λ b. has_kept x ≡ b → suc (length xs) ≤ cond (not b) (1 + at xs) 0 → Lacks (x ∷ xs)) [
        | true ↦ λ is more. absurd (omega (arith, more))
        | false ↦ λ is more.
            let rest = lacks xs (omega (arith, more)) in
            record {
              finds = rw is rest.finds;
              resizes = λ n. rw is (ap (λ ys. kept_size x ∷ ys) (rest.resizes n));
              lessens = rw is (ap (λ ys. kept_size x ∷ ys) rest.lessens);
            }
      ] refl out

  -- ---- by the place that is found
  is_at : (xs : List File) (i : ℕ) → position has_kept xs ≡ Some i → (at xs ≡ i) × (at xs < length xs)
  is_at xs i is = (grind (arith, nat_tests, is), grind (arith, nat_tests, is))

  is_nowhere : (xs : List File) → position has_kept xs ≡ None → length xs ≤ at xs
  is_nowhere xs is = grind (arith, nat_tests, is)

  module _ (xs : List File) (files : List model.File) (keeps : map kept_size xs ≡ map size_of files) where
    pub size_there : (i : ℕ) (x : File) → x ≡ get_or xs i x → position has_kept xs ≡ Some i → Some x.size ≡ option_map (λ file. length file.bytes) (find (is_named name) files)
    size_there i x here is =
        let d = x in
        let there = is_at xs i is in
        ap (λ (y : File). Some y.size) here ∙ ap (λ j. Some (get_or xs j d).size) (sym there.0) ∙ sym (found_kept xs d there.1) ∙ ap found keeps ∙ found_model files

    pub size_nowhere : position has_kept xs ≡ None → None ≡ option_map (λ (file : model.File). length file.bytes) (find (is_named name) files)
    size_nowhere is = sym (lacks xs (is_nowhere xs is)).finds ∙ ap found keeps ∙ found_model files

    pub resize_there : (i n : ℕ) (x : File) (bytes : List ℕ) → x ≡ get_or xs i x → length bytes ≡ n → position has_kept xs ≡ Some i →
        map kept_size (set xs i (record x { size = n })) ≡ map size_of (rewritten name bytes files)
    resize_there i n x bytes here long is =
        let d = x in
        let there = is_at xs i is in
        ap (λ (y : File). map kept_size (set xs i (record y { size = n }))) here
        ∙ ap (λ j. map kept_size (set xs j (record (get_or xs j d) { size = n }))) (sym there.0) ∙ sym (resized_kept n xs d there.1)
        ∙ ap (λ m. resized m (map kept_size xs)) (sym long) ∙ ap (resized (length bytes)) keeps ∙ resized_model bytes files

    pub resize_nowhere : (n : ℕ) (bytes : List ℕ) → length bytes ≡ n → position has_kept xs ≡ None → map kept_size xs ≡ map size_of (rewritten name bytes files)
    resize_nowhere n bytes long is = sym ((lacks xs (is_nowhere xs is)).resizes (length bytes)) ∙ ap (resized (length bytes)) keeps ∙ resized_model bytes files

    pub remove_there : (i : ℕ) → position has_kept xs ≡ Some i → map kept_size (remove xs i) ≡ map size_of (without name files)
    remove_there i is =
        let there = is_at xs i is in
        ap (λ j. map kept_size (remove xs j)) (sym there.0) ∙ sym (lessened_kept xs there.1) ∙ ap lessened keeps ∙ lessened_model files

    pub remove_nowhere : position has_kept xs ≡ None → map kept_size xs ≡ map size_of (without name files)
    remove_nowhere is = sym (lacks xs (is_nowhere xs is)).lessens ∙ ap lessened keeps ∙ lessened_model files
