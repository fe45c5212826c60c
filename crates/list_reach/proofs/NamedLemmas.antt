-- The components that several texts denote, text by text; paths as text, and paths that may have been meant.
use Rattle.std.proofs.Common.{Bor, ◌≡◌, ◌≤◌, ℕ, ◌<◌, ◌+◌, suc, Bool, true, false, List, [], ◌∷◌, ◌++◌, length, drop, map, get_or, Option, Some, None, Result, Ok, Err, refl, sym, subst, ap, ◌∙◌, arith}
use Rattle.std.specs.Prelude.{IfSome, find, if◌then◌else◌}
use Rattle.std.specs.Str.{IsUtf8, is_utf8}
use Rattle.std.proofs.lemmas.List.{append-nil, append_assoc, drop_all, drop_more}
use Rattle.std.proofs.lemmas.Str.{IsUtf8-from_is_utf8, is_utf8-from_IsUtf8}
use Rattle.own_model.specs.Listed.{ListedEntry}
use Rattle.list_reach.specs.Paths.{PathFault, as_text, is_sought, joined, joined_all, numbers_below, paths_of}
use Rattle.list_reach.specs.declared.component_numbers.ComponentKind.{ComponentKind}

next : (n : ℕ) → suc n ≡ n + 1
next n = omega arith

-- one number more
pub numbers_more : (passes : ℕ → Bool) (n : ℕ) → numbers_below passes (n + 1) ≡ numbers_below passes n ++ (if passes n then n ∷ [] else [])
numbers_more passes n =
    subst (λ (m : ℕ). numbers_below passes m ≡ numbers_below passes n ++ (if passes n then n ∷ [] else [])) (next n) refl

-- what is joined to nothing
pub joined_none : (more : Result (List ℕ) PathFault) → joined (Ok []) more ≡ more
joined_none (Ok more) = refl
joined_none (Err why) = refl

joined_joined : (one two : List ℕ) (more : Result (List ℕ) PathFault) → joined (Ok one) (joined (Ok two) more) ≡ joined (Ok (one ++ two)) more
joined_joined one two (Ok more) = ap Ok (sym (append_assoc one two more))
joined_joined one two (Err why) = refl

-- what the texts that are left denote
abbrev pub left_of : (List ℕ → Result (List ℕ) PathFault) → List (Bor (List ℕ)) → Result (List ℕ) PathFault
left_of numbers texts = joined_all numbers (map (λ text. text.now) texts)

module _ (numbers : List ℕ → Result (List ℕ) PathFault) (whole : Result (List ℕ) PathFault) (found : List ℕ) (texts : List (Bor (List ℕ))) (place : ℕ) (text : Bor (List ℕ))
    (less : place < length texts) (so : whole ≡ joined (Ok found) (left_of numbers (drop place texts))) (at : text ≡ get_or texts place text) where
  next_text : whole ≡ joined (Ok found) (joined (numbers text.now) (left_of numbers (drop (place + 1) texts)))
  next_text =
      so ∙ ap (λ xs. joined (Ok found) (left_of numbers xs))
      (drop_more texts place text less ∙ ap (λ (p : Bor (List ℕ)). p ∷ drop (place + 1) texts) (sym at))

  -- the next text denotes some
  pub text_found : (more all : List ℕ) → numbers text.now ≡ Ok more → all ≡ found ++ more
      → whole ≡ joined (Ok all) (left_of numbers (drop (place + 1) texts))
  text_found more all is add =
      next_text ∙ ap (λ r. joined (Ok found) (joined r (left_of numbers (drop (place + 1) texts)))) is
      ∙ joined_joined found more (left_of numbers (drop (place + 1) texts))
      ∙ ap (λ (ns : List ℕ). joined (Ok ns) (left_of numbers (drop (place + 1) texts))) (sym add)

  -- the next text denotes nobody
  pub text_lost : (fault : Option PathFault) → IfSome fault (λ why. numbers text.now ≡ Err why)
      → IfSome fault (λ why. whole ≡ Err why)
  text_lost None is = is
  text_lost (Some why) is = next_text ∙ ap (λ r. joined (Ok found) (joined r (left_of numbers (drop (place + 1) texts)))) is

-- no text is left
pub texts_end : (numbers : List ℕ → Result (List ℕ) PathFault) (whole : Result (List ℕ) PathFault) (found : List ℕ) (texts : List (Bor (List ℕ))) (place : ℕ)
    → length texts ≤ place → whole ≡ joined (Ok found) (left_of numbers (drop place texts)) → whole ≡ Ok found
texts_end numbers whole found texts place end so =
    so ∙ ap (λ xs. joined (Ok found) (left_of numbers xs)) (drop_all place texts end) ∙ ap Ok (append-nil found)

-- either of two faults, the first one first
pub joined_faults : (one two : Result (List ℕ) PathFault) (numbers : List ℕ) (fault : Option PathFault) → one ≡ Ok numbers
    → IfSome fault (λ why. two ≡ Err why) → IfSome fault (λ why. joined one two ≡ Err why)
joined_faults one two numbers None is why = why
joined_faults one two numbers (Some fault) is why = ap (λ r. joined r two) is ∙ ap (λ r. joined (Ok numbers) r) why

pub first_fault : (one two : Result (List ℕ) PathFault) (fault : Option PathFault) → IfSome fault (λ why. one ≡ Err why)
    → IfSome fault (λ why. joined one two ≡ Err why)
first_fault one two None why = why
first_fault one two (Some fault) why = ap (λ r. joined r two) why

-- a path that is UTF-8, and one that isn't
pub is_text : (path : List ℕ) → IsUtf8 path → path ≡ as_text path
is_text path valid = rw (is_utf8-from_IsUtf8 path valid) refl

pub is_no_text : (path : List ℕ) → ¬ (IsUtf8 path) → [] ≡ as_text path
is_no_text path never = elim (is_utf8 path) as (λ b. is_utf8 path ≡ b → [] ≡ (if b then path else [])) [
  | true ↦ λ is. absurd (never (IsUtf8-from_is_utf8 path is))
  | false ↦ λ is. refl
] refl

-- the first path that is meant is that of the entry at a place, if this is of the kind and none before it is meant
pub path_found : (meant : List ℕ → Bool) (sought : ComponentKind) (entries : List ListedEntry) (i : ℕ) (entry : ListedEntry) → i < length entries
    → entry ≡ get_or entries i entry → is_sought entry sought ≡ true → meant entry.path ≡ true
    → Some entry.path ≡ find meant (paths_of sought (drop i entries))
path_found meant sought entries i entry within at kind is =
    sym (ap (λ (es : List ListedEntry). find meant (paths_of sought es))
    (drop_more entries i entry within ∙ ap (λ (e : ListedEntry). e ∷ drop (i + 1) entries) (sym at))
    ∙ rw (kind, is) refl)
