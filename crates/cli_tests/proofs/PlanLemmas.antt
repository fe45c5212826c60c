-- Files and filters.
use Rattle.std.proofs.Common.{◌≡◌, inl, inr, ◌||◌, ◌∙◌, ◌<◌, ◌≤◌, ◌+◌, ◌++◌, refl, sym, ap, append_assoc, append-nil, map, ℕ, Bool, false, true, true≢false, get_or, Global, List, [], ◌∷◌, length, nat_eq, Option, Some, Result, Ok, Err, IfErr, IfOk, IfSome, String, subst, take}
use Rattle.std.specs.Borrow.{Bor}
use Rattle.std.specs.Global.{Vec}
use Rattle.std.specs.List.{list_any}
use Rattle.std.specs.Prelude.{string_bytes}
use Rattle.std.specs.Result.{IsErrAnd}
use Rattle.std.proofs.lemmas.List.{get_or_default, length-map, map-append, take_all, take_more}
use Rattle.cli_options.specs.declared.command_options.TestOptions.{TestOptions}
use Rattle.cli_base.specs.Files.{IsUnknown}
use Rattle.cli_base.specs.MachineChoice.{list_beside}
use Rattle.cli_base.specs.Paths.{is_policy}
use Rattle.cli_base.specs.declared.host.FileKind.TheVariants.{Folder, Other, Regular}
use Rattle.cli_tests.specs.Outcome.{IsNoInput, IsNoTest, LacksInput, LacksPath, given_paths, search_lacks_memory}
use Rattle.cli_tests.specs.Plan.{AreAdded, AreFiles, AreFilesAt, IsCheckedFor, IsPolicyBeside, has_text, is_selected, path_of, with_file}
use Rattle.cli_tests.specs.declared.file_search.SearchFailure.{SearchFailure}
use Rattle.cli_tests.specs.declared.file_search.SearchFailure.TheVariants.{NoMemory}
use Rattle.cli_tests.specs.declared.planned_test.PlannedTest.{PlannedTest}
use Rattle.cli_tests.specs.declared.planned_test.PlannedTest.TheVariants.{List as ListAlone}

-- a mapped element passes a test if the element passes the mapped test
pub any_of_map : {X Y : Type 0} (p : X → Bool) (h : Y → X) (ys : List Y) → list_any p (map h ys) ≡ list_any (λ y. p (h y)) ys
any_of_map p h [] = refl
any_of_map p h (y ∷ ys) = ap (λ b. p (h y) || b) (any_of_map p h ys)

-- some texts select a test whose path has one of them
pub selected_by : (texts : List (Bor (List ℕ))) (test : PlannedTest) (is_empty found : Bool) → is_empty ≡ nat_eq (length texts) 0
    → is_empty ≡ false → found ≡ list_any (λ (text : Bor (List ℕ)). has_text (path_of test) text.now) texts
    → found ≡ is_selected (map (λ (text : Bor (List ℕ)). text.now) texts) test
selected_by texts test is_empty found length_is some found_is =
    let some_mapped : nat_eq (length (map (λ (text : Bor (List ℕ)). text.now) texts)) 0 ≡ false =
    ap (λ n. nat_eq n 0) (length-map texts (λ (text : Bor (List ℕ)). text.now)) ∙ sym length_is ∙ some in
    found_is ∙ sym (any_of_map (has_text (path_of test)) (λ (text : Bor (List ℕ)). text.now) texts)
    ∙ sym (ap (λ b. b || list_any (has_text (path_of test)) (map (λ (text : Bor (List ℕ)). text.now) texts)) some_mapped)

-- the path of one test more
pub path_more : (machine : Option (Bor (List ℕ))) (tests : List PlannedTest) (place : ℕ) (other : PlannedTest)
    (paths all : List (Bor (List ℕ))) (path : Bor (List ℕ)) → place < length tests → all ≡ paths ++ path ∷ []
    → path.now ≡ path_of (get_or tests place other)
    → map (λ (p : Bor (List ℕ)). p.now) paths ≡ given_paths machine ++ map path_of (take place tests)
    → map (λ (p : Bor (List ℕ)). p.now) all ≡ given_paths machine ++ map path_of (take (place + 1) tests)
path_more machine tests place other paths all path within is same before =
    ap (map (λ (p : Bor (List ℕ)). p.now)) is ∙ map-append (λ (p : Bor (List ℕ)). p.now) paths (path ∷ [])
    ∙ ap (λ those. those ++ path.now ∷ []) before ∙ append_assoc (given_paths machine) (map path_of (take place tests)) (path.now ∷ [])
    ∙ ap (λ those. given_paths machine ++ those)
    (ap (λ p. map path_of (take place tests) ++ p ∷ []) same
    ∙ sym (map-append path_of (take place tests) (get_or tests place other ∷ []))
    ∙ ap (map path_of) (sym (take_more tests place other within)))

-- what is no regular file
pub no_folder : Folder ≡ Regular → ⊥
no_folder is = cc

pub no_other : Other ≡ Regular → ⊥
no_other is = cc

-- ---- a search that fails

-- where the host is out of memory a search states nothing of its paths
pub no_room : {T : Type 0} (P : Type 0) (result : Result T SearchFailure) → IsErrAnd result (λ failure. failure ≡ NoMemory)
    → IfErr result (λ failure. search_lacks_memory failure ≡ false → P)
no_room P (Ok found) is = tt
no_room P (Err failure) is = λ room. absurd (true≢false (sym (ap search_lacks_memory is) ∙ room))

-- ---- the files of paths

module _ (texts : List ℕ → Option (List ℕ)) where
  -- a path that isn't known may have any files
  pub unknown_files : {E : Type 0} (path : List ℕ) (result : Result (Vec (String Global)) E) → IsUnknown texts path
      → IfOk result (λ files. AreFilesAt texts path files.items)
  unknown_files path (Ok files) unknown =
      subst (λ (known : Option (List ℕ)). IfSome known (λ text. map (λ file. string_bytes file) files.items ≡ path ∷ [])) (sym unknown) tt
  unknown_files path (Err failure) unknown = tt

  -- and may not be found
  pub unknown_fails : {T : Type 0} (path : List ℕ) (result : Result T SearchFailure) → IsUnknown texts path
      → IfErr result (λ failure. search_lacks_memory failure ≡ false → IsNoTest texts path)
  unknown_fails path (Ok found) unknown = tt
  unknown_fails path (Err failure) unknown = λ room. inl unknown

  -- the files of one path more
  files_more : (paths : List (Bor (List ℕ))) (path : Bor (List ℕ)) (files found : List (String Global))
      → AreFiles texts paths files → AreFilesAt texts path.now found → AreFiles texts (paths ++ path ∷ []) (files ++ found)
  files_more [] path files found none are = (found, [], ap (λ f. f ++ found) none ∙ sym (append-nil found), are, refl)
  files_more (first ∷ paths) path files found (these, others, parts, are_these, are_others) are = (
    these,
    others ++ found,
    ap (λ f. f ++ found) parts ∙ append_assoc these others found,
    are_these,
    files_more paths path others found are_others are,
  )

  -- the same of the paths so far
  pub files_next : (paths : List (Bor (List ℕ))) (place : ℕ) (other : Bor (List ℕ)) (files found all : List (String Global)) → place < length paths
      → all ≡ files ++ found → AreFiles texts (take place paths) files → AreFilesAt texts (get_or paths place other).now found
      → AreFiles texts (take (place + 1) paths) all
  files_next paths place other files found all within is before are =
      subst (λ those. AreFiles texts (take (place + 1) paths) those) (sym is)
      (subst (λ those. AreFiles texts those (files ++ found)) (sym (take_more paths place other within))
      (files_more (take place paths) (get_or paths place other) files found before are))

  -- the files of all paths
  pub files_all : (paths : List (Bor (List ℕ))) (place : ℕ) (files : List (String Global)) → length paths ≤ place
      → AreFiles texts (take place paths) files → AreFiles texts paths files
  files_all paths place files end are = subst (λ those. AreFiles texts those files) (take_all place paths end) are

  -- one of the paths has no test
  pub lacks_path : (paths : List (Bor (List ℕ))) (place : ℕ) (other : Bor (List ℕ)) → place < length paths
      → IsNoTest texts (get_or paths place other).now → LacksPath texts paths
  lacks_path paths place other within none =
      (place, get_or paths place other, within, get_or_default paths place (get_or paths place other) other within, none)

  -- one of the tests has an input that is refused
  pub lacks_input : (machine junit : Option (Bor (List ℕ))) (tests : List PlannedTest) (place : ℕ) (other : PlannedTest) → place < length tests
      → IsNoInput texts junit (get_or tests place other) → LacksInput texts machine junit tests
  lacks_input machine junit tests place other within none =
      inr (place, get_or tests place other, within, get_or_default tests place (get_or tests place other) other within, none)

  -- ---- the tests of files

  -- the list that the command line names is that of a scenario without one
  pub named_list : (asked : TestOptions) (file : List ℕ) (machine : Bor (List ℕ)) (path : String Global) → asked.strict ≡ true
      → IsUnknown texts (list_beside file) → is_policy file ≡ false → asked.machine ≡ Some machine → string_bytes path ≡ machine.now
      → IsCheckedFor texts asked file (Some (ListAlone path))
  named_list asked file machine path strict unknown other is bytes = rw strict (inr (unknown, rw (other, is) (path, refl, bytes)))

  -- the tests of a file, and those of the files after it
  pub added_more : (asked : TestOptions) (before after tests : List PlannedTest) (files rest : List (String Global)) (file : String Global)
      (list beside : Option PlannedTest) → files ≡ file ∷ rest → IsCheckedFor texts asked (string_bytes file) list
      → IsPolicyBeside texts (string_bytes file) beside → after ≡ with_file before file list beside
      → AreAdded texts asked after rest tests → AreAdded texts asked before files tests
  added_more asked before after tests files rest file list beside is listed next with added =
      subst (λ those. AreAdded texts asked before those tests) (sym is)
      (list, listed, (beside, next, subst (λ those. AreAdded texts asked those rest tests) with added))

  -- no file is left
  pub added_none : (asked : TestOptions) (tests : List PlannedTest) (files : List (String Global)) → files ≡ []
      → AreAdded texts asked tests files tests
  added_none asked tests files is = subst (λ those. AreAdded texts asked tests those tests) (sym is) refl
