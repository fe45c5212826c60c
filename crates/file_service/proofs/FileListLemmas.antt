-- Lists of files that are read of blocks, after one of them is another, after one goes, and after one is put last.
use Rattle.std.proofs.Common.{arith, rules, ◌≡◌, ℕ, true, false, cond, List, [], ◌∷◌, ◌++◌, map, Some, None, refl, sym, ap, ◌∙◌}
use Rattle.std.proofs.lemmas.Bool.Decides.{nat_tests}
use Rattle.std.proofs.lemmas.Option.{none-some, same_Some}
use Rattle.std.specs.Prelude.{find}
use Rattle.own_model.specs.FileService.{File, is_named, rewritten, without}

-- no file has the name
abbrev pub NoneNamed : List ℕ → List File → Type 0
NoneNamed name files = find (is_named name) files ≡ None

module _ (name : List ℕ) where
  -- then the first hasn't
  none_first : (file : File) (rest : List File) → NoneNamed name (file ∷ rest) → is_named name file ≡ false
  none_first file rest none = search (rules, none-some)

  -- nor has one of the others
  none_rest : (file : File) (rest : List File) → NoneNamed name (file ∷ rest) → NoneNamed name rest
  none_rest file rest none = let first = none_first file rest none in sym (rw first refl) ∙ none

  -- the first of the name is found behind files without it
  pub find_behind : (files : List File) (file : File) (rest : List File) → NoneNamed name files → is_named name file ≡ true → find (is_named name) (files ++ file ∷ rest) ≡ Some file
  find_behind [] file rest none is = rw is refl
  find_behind (x ∷ files) file rest none is = rw (none_first x files none) (find_behind files file rest (none_rest x files none) is)

  -- it is rewritten there
  pub rewritten_behind : (bytes : List ℕ) (files : List File) (file : File) (rest : List File) → NoneNamed name files → is_named name file ≡ true →
      rewritten name bytes (files ++ file ∷ rest) ≡ files ++ record file { bytes = bytes } ∷ rest
  rewritten_behind bytes [] file rest none is = rw is refl
  rewritten_behind bytes (x ∷ files) file rest none is = grind (arith, nat_tests, none_first, none_rest, rewritten_behind bytes files file rest (none_rest x files none) is)

  -- and goes there
  pub without_behind : (files : List File) (file : File) (rest : List File) → NoneNamed name files → is_named name file ≡ true →
      without name (files ++ file ∷ rest) ≡ files ++ rest
  without_behind [] file rest none is = rw is refl
  without_behind (x ∷ files) file rest none is = grind (arith, nat_tests, none_first, none_rest, without_behind files file rest (none_rest x files none) is)

  -- a file that keeps its bytes stays as it is
  pub rewritten_same : (files : List File) (file : File) → find (is_named name) files ≡ Some file → rewritten name file.bytes files ≡ files
  rewritten_same [] file is = refl
  rewritten_same (x ∷ files) file is = elim (is_named name x) as (λ b. cond b (Some x) (find (is_named name) files) ≡ Some file →
      cond b (record x { bytes = file.bytes } ∷ files) (x ∷ rewritten name file.bytes files) ≡ x ∷ files) [
        | true ↦ λ here. ap (λ (f : File). record x { bytes = f.bytes } ∷ files) (sym (same_Some x file here))
        | false ↦ λ later. ap (λ (more : List File). x ∷ more) (rewritten_same files file later)
      ] is

  -- one more without the name
  pub none_appended : (files : List File) (file : File) → NoneNamed name files → is_named name file ≡ false → NoneNamed name (files ++ file ∷ [])
  none_appended [] file none is = rw is refl
  none_appended (x ∷ files) file none is = rw (none_first x files none) (none_appended files file (none_rest x files none) is)

module _ (f g : ℕ → File) where
  pub append_map : (xs ys : List ℕ) → map f (xs ++ ys) ≡ map f xs ++ map f ys
  append_map [] ys = refl
  append_map (x ∷ xs) ys = ap (λ (rest : List File). f x ∷ rest) (append_map xs ys)
