-- Counters of objects after one more and after one less.
use Rattle.std.proofs.Common.{◌≡◌, ◌≢◌, ℕ, ◌+◌, ◌<◌, ◌==◌, cond, true, false, List, [], ◌∷◌, ◌++◌, count_by, get_or, length, set, sym, ap, ◌∙◌, inl, inr, arith}
use Rattle.std.proofs.lemmas.Bool.{cases_eq}
use Rattle.std.proofs.lemmas.Bool.Decides.{nat_tests}
use Rattle.std.proofs.lemmas.List.{get_or-set_same, get_or-set_other}
use Rattle.std.proofs.lemmas.List.Sums.{sum_by-append, sum_by-cons}
use Rattle.std.specs.List.{AllByRecursion}

-- how many of these numbers are k
abbrev pub many : ℕ → List ℕ → ℕ
many k numbers = count_by (λ n. n == k) numbers

many-append : (k : ℕ) (xs ys : List ℕ) → many k (xs ++ ys) ≡ many k xs + many k ys
many-append k xs ys = sum_by-append (λ n. cond (n == k) 1 0) xs ys

pub all_append : (xs ys : List ℕ) → AllByRecursion (λ n. n < 16) xs → AllByRecursion (λ n. n < 16) ys → AllByRecursion (λ n. n < 16) (xs ++ ys)
all_append [] ys some more = more
all_append (x ∷ xs) ys some more = (some.0, all_append xs ys some.1 more)

pub all_front : (xs ys : List ℕ) → AllByRecursion (λ n. n < 16) (xs ++ ys) → AllByRecursion (λ n. n < 16) xs
all_front [] ys all = tt
all_front (x ∷ xs) ys all = (all.0, all_front xs ys all.1)

pub all_back : (xs ys : List ℕ) → AllByRecursion (λ n. n < 16) (xs ++ ys) → AllByRecursion (λ n. n < 16) ys
all_back [] ys all = all
all_back (x ∷ xs) ys all = all_back xs ys all.1

-- a counter of one number is set
pub set_at : (each : List ℕ) (number k value : ℕ) (ys : List ℕ) → number < length each → (k ≢ number → get_or each k 0 ≡ many k ys) → value ≡ many number ys →
    get_or (set each number value) k 0 ≡ many k ys
set_at each number k value ys low others is = elim (cases_eq k number) [
  | inl same ↦ ap (λ j. get_or (set each number value) j 0) same ∙ get_or-set_same each number value 0 low ∙ is ∙ sym (ap (λ j. many j ys) same)
  | inr other ↦ get_or-set_other each number k value 0 other ∙ others other
]

-- the first number, and then the others
many-cons : (k number : ℕ) (numbers : List ℕ) → many k (number ∷ numbers) ≡ cond (number == k) 1 0 + many k numbers
many-cons k number numbers = sum_by-cons (λ n. cond (n == k) 1 0) number numbers

-- one less
one_less : (k number : ℕ) (before behind : List ℕ) → many k (before ++ number ∷ behind) ≡ many k (before ++ behind) + cond (number == k) 1 0
one_less k number before behind = omega (arith, many-append k before (number ∷ behind), many-append k before behind, many-cons k number behind)

pub less_other : (k number : ℕ) (before behind : List ℕ) → k ≢ number → many k (before ++ number ∷ behind) ≡ many k (before ++ behind)
less_other k number before behind other =
    let no : (number == k) ≡ false = grind (arith, nat_tests) in
    let less = one_less k number before behind in
    let none : ◌≡◌ {A = ℕ} (cond (number == k) 1 0) 0 = ap (λ t. cond t 1 0) no in
    omega (arith, less, none)

pub less_same : (number : ℕ) (before behind : List ℕ) → many number (before ++ number ∷ behind) ≡ many number (before ++ behind) + 1
less_same number before behind =
    let yes : (number == number) ≡ true = grind (arith, nat_tests) in
    let less = one_less number number before behind in
    let one : ◌≡◌ {A = ℕ} (cond (number == number) 1 0) 1 = ap (λ t. cond t 1 0) yes in
    omega (arith, less, one)
