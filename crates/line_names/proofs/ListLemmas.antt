-- A text that is filled, byte by byte and name by name.
use Rattle.std.proofs.Common.{◌≡◌, ◌+◌, ◌-◌, ◌≤◌, ◌∷◌, ◌++◌, ◌∙◌, ℕ, zero, suc, List, [], length, take, drop, Some, None, Err, refl, sym, ap, subst, arith, append_assoc, append-nil}
use Rattle.std.proofs.lemmas.List.{drop-drop, take_rest}
use Rattle.std.proofs.Math.Seq.{take-add}
use Rattle.line_names.specs.NameTable.{NameTable, value_of}
use Rattle.line_names.specs.Lists.{filled_from, name_at, place_of}

-- of a text whose first bytes belong to a name before
pub passed : (known : NameTable) (before : List ℕ) (skip : ℕ) (made text : List ℕ) → skip ≤ length text
    → filled_from known before skip made text ≡ filled_from known (before ++ take skip text) 0 made (drop skip text)
passed known before zero made text le = ap (λ front. filled_from known front 0 made text) (sym (append-nil before))
passed known before (suc skip) made [] le = absurd (omega arith)
passed known before (suc skip) made (b ∷ bs) le =
    passed known (before ++ b ∷ []) skip made bs (omega arith)
    ∙ ap (λ front. filled_from known front 0 made (drop skip bs)) (append_assoc before (b ∷ []) (take skip bs))

-- a byte that begins no name
pub byte_step : (known : NameTable) (before made : List ℕ) (b : ℕ) (bs : List ℕ) → name_at (b ∷ bs) ≡ None
    → filled_from known before 0 made (b ∷ bs) ≡ filled_from known (before ++ b ∷ []) 0 (made ++ b ∷ []) bs
byte_step known before made b bs none = rw none refl

-- a name with its value
pub name_step : (known : NameTable) (before made : List ℕ) (b : ℕ) (bs name value : List ℕ) → name_at (b ∷ bs) ≡ Some name
    → value_of known name ≡ Some value
    → filled_from known before 0 made (b ∷ bs) ≡ filled_from known (before ++ b ∷ []) (length name + 2) (made ++ value) bs
name_step known before made b bs name value named is = rw (named, is) refl

-- a name that nothing is given for
pub name_stops : (known : NameTable) (before made : List ℕ) (b : ℕ) (bs name : List ℕ) → name_at (b ∷ bs) ≡ Some name
    → value_of known name ≡ None → filled_from known before 0 made (b ∷ bs) ≡ Err (place_of before)
name_stops known before made b bs name named none = rw (named, none) refl

-- a name with its braces and its value
pub name_whole : (known : NameTable) (before made rest name value : List ℕ) → name_at rest ≡ Some name → value_of known name ≡ Some value
    → length name + 3 ≤ length rest
    → filled_from known before 0 made rest
    ≡ filled_from known (before ++ take (length name + 3) rest) 0 (made ++ value) (drop (length name + 3) rest)
name_whole known before made [] name value named is long = absurd (omega (arith, long))
name_whole known before made (b ∷ bs) name value named is long =
    let n = length name + 2 in
    let size : suc n ≡ length name + 3 = omega arith in
    name_step known before made b bs name value named is
    ∙ passed known (before ++ b ∷ []) n (made ++ value) bs (omega (arith, long))
    ∙ ap (λ front. filled_from known front 0 (made ++ value) (drop n bs)) (append_assoc before (b ∷ []) (take n bs))
    ∙ ap (λ k. filled_from known (before ++ take k (b ∷ bs)) 0 (made ++ value) (drop k (b ∷ bs))) size

-- the text goes on behind them
pub name_next : (known : NameTable) (text made name value : List ℕ) (at : ℕ) → name_at (take (length text - at) (drop at text)) ≡ Some name
    → value_of known name ≡ Some value → length name + 3 ≤ length (take (length text - at) (drop at text))
    → filled_from known (take (at + (length name + 3)) text) 0 (made ++ value) (drop (at + (length name + 3)) text)
    ≡ filled_from known (take at text) 0 made (drop at text)
name_next known text made name value at named is long =
    let all = take_rest text at in
    let n = length name + 3 in
    sym (name_whole known (take at text) made (drop at text) name value (subst (λ rest. name_at rest ≡ Some name) all named) is
    (subst (λ rest. n ≤ length rest) all long)
    ∙ ap (λ front. filled_from known front 0 (made ++ value) (drop n (drop at text))) (sym (take-add at n text))
    ∙ ap (λ rest. filled_from known (take (at + n) text) 0 (made ++ value) rest) (drop-drop n at text))
