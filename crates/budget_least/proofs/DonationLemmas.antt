-- The pairs of arguments, byte by byte.
use Rattle.std.proofs.Common.{arith, ◌≡◌, ℕ, ◌+◌, ◌-◌, ◌<◌, ◌≤◌, Bool, true, false, List, [], ◌∷◌, ◌++◌, length, take, drop, get_or, append_assoc, ap, sym, ◌∙◌}
use Rattle.std.specs.Prelude.{if◌then◌else◌}
use Rattle.std.specs.List.{between, flat_map}
use Rattle.std.proofs.lemmas.List.{drop_more}
use Rattle.std.proofs.lemmas.List.Edits.{between_more}
use Rattle.budget_least.specs.WrittenDonation.{ends_pair, kept_pair, pairs_from, quoted_after}

-- a byte of a pair
pub pair_more : (args : List ℕ) (quoted : Bool) (start place : ℕ) → start ≤ place → place < length args → ends_pair quoted (get_or args place 0) ≡ false →
    pairs_from (quoted_after quoted (get_or args place 0)) (between start (place + 1) args) (drop (place + 1) args) ≡ pairs_from quoted (between start place args) (drop place args)
pair_more args quoted start place order within test =
    let b : ℕ = get_or args place 0 in
    let rest : List ℕ = drop (place + 1) args in
    let pair : List ℕ = between start place args in
    sym (ap (pairs_from quoted pair) (drop_more args place 0 within)
    ∙ ap (λ t. if t then pair ∷ pairs_from quoted [] rest else pairs_from (quoted_after quoted b) (pair ++ b ∷ []) rest) test
    ∙ ap (λ p. pairs_from (quoted_after quoted b) p rest) (sym (between_more args start place 0 order within)))

-- the comma after one
pub pair_ends : (args : List ℕ) (quoted : Bool) (start place : ℕ) → place < length args → ends_pair quoted (get_or args place 0) ≡ true →
    pairs_from quoted (between start place args) (drop place args) ≡ between start place args ∷ pairs_from quoted (between (place + 1) (place + 1) args) (drop (place + 1) args)
pair_ends args quoted start place within test =
    let b : ℕ = get_or args place 0 in
    let rest : List ℕ = drop (place + 1) args in
    let pair : List ℕ = between start place args in
    let none : (place + 1) - (place + 1) ≡ 0 = omega arith in
    ap (pairs_from quoted pair) (drop_more args place 0 within)
    ∙ ap (λ t. if t then pair ∷ pairs_from quoted [] rest else pairs_from (quoted_after quoted b) (pair ++ b ∷ []) rest) test
    ∙ ap (λ n. pair ∷ pairs_from quoted (take n rest) rest) (sym none)

pub told_more : (told new whole pair : List ℕ) (pairs : List (List ℕ)) → new ≡ told ++ kept_pair pair → told ++ flat_map kept_pair (pair ∷ pairs) ≡ whole →
    new ++ flat_map kept_pair pairs ≡ whole
told_more told new whole pair pairs is all = ap (λ t. t ++ flat_map kept_pair pairs) is ∙ append_assoc told (kept_pair pair) (flat_map kept_pair pairs) ∙ all

-- the text so far and that of the rest, after one byte
abbrev pub Tells : List ℕ → Bool → ℕ → ℕ → List ℕ → List ℕ → Type 0
Tells args quoted start place told whole = told ++ flat_map kept_pair (pairs_from quoted (between start place args) (drop place args)) ≡ whole

pub tells_end : (args : List ℕ) (quoted next : Bool) (start from place : ℕ) (told new whole : List ℕ) → place < length args → ends_pair quoted (get_or args place 0) ≡ true →
    next ≡ quoted → from ≡ place + 1 → new ≡ told ++ kept_pair (between start place args) → Tells args quoted start place told whole → Tells args next from (place + 1) new whole
tells_end args quoted next start from place told new whole within test same past is all =
    rw (same, past) (told_more told new whole (between start place args) (pairs_from quoted (between (place + 1) (place + 1) args) (drop (place + 1) args)) is
    (ap (λ pairs. told ++ flat_map kept_pair pairs) (sym (pair_ends args quoted start place within test)) ∙ all))

pub tells_more : (args : List ℕ) (quoted next : Bool) (start from place : ℕ) (told new whole : List ℕ) → start ≤ place → place < length args → ends_pair quoted (get_or args place 0) ≡ false →
    next ≡ quoted_after quoted (get_or args place 0) → from ≡ start → new ≡ told → Tells args quoted start place told whole → Tells args next from (place + 1) new whole
tells_more args quoted next start from place told new whole order within test is same kept all =
    rw (is, same, kept) (ap (λ pairs. told ++ flat_map kept_pair pairs) (pair_more args quoted start place order within test) ∙ all)
