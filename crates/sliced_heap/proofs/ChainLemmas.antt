-- A chain after a block is put before it, and after one is taken out.
use Rattle.std.proofs.Common.{◌≡◌, ◌≢◌, ℕ, true, false, cond, eqb, List, [], ◌∷◌, not, ◌&&◌, refl, sym, ap, ◌∙◌, ⊎_elim, true≢false, arith, rules}
use Rattle.std.proofs.lemmas.Bool.{cases_eq}
use Rattle.std.proofs.lemmas.Bool.Decides.{nat_tests}
use Rattle.sliced_heap.specs.Chain.{link_to, is_listed, has_no_repeat, Linked, IsChain}

-- a block that isn't listed is none of those listed
pub unlisted : (xs : List ℕ) (a b : ℕ) → is_listed xs a ≡ false → is_listed xs b ≡ true → b ≢ a
unlisted xs a b none there e = true≢false (sym there ∙ ap (is_listed xs) e ∙ none)

-- the first of a list is listed, and what is listed after it
pub listed_first : (x : ℕ) (xs : List ℕ) → is_listed (x ∷ xs) x ≡ true
listed_first x xs = grind (arith, nat_tests)

pub listed_later : (x b : ℕ) (xs : List ℕ) → is_listed xs b ≡ true → is_listed (x ∷ xs) b ≡ true
listed_later x b xs there = grind (arith, nat_tests)

-- where the first comes once, it isn't listed after itself, and nothing after it comes twice
pub once_first : (x : ℕ) (xs : List ℕ) → has_no_repeat (x ∷ xs) ≡ true → is_listed xs x ≡ false
once_first x xs once = grind (arith, nat_tests)

pub once_later : (x : ℕ) (xs : List ℕ) → has_no_repeat (x ∷ xs) ≡ true → has_no_repeat xs ≡ true
once_later x xs once = grind (arith, nat_tests)

-- the list without a block
abbrev pub taken_out : ℕ → List ℕ → List ℕ
taken_out block [] = []
taken_out block (x ∷ xs) = cond (eqb x block) (taken_out block xs) (x ∷ taken_out block xs)

-- it lists the others that were listed
pub listed_without : (block b : ℕ) (xs : List ℕ) → is_listed (taken_out block xs) b ≡ (is_listed xs b && not (eqb b block))
listed_without block b [] = refl
listed_without block b (x ∷ xs) = let rest = listed_without block b xs in ⊎_elim
    (λ (same : x ≡ block). grind (arith, nat_tests))
    (λ (other : x ≢ block). grind (arith, nat_tests))
    (cases_eq x block)

pub left_listed : (block b : ℕ) (xs : List ℕ) → is_listed (taken_out block xs) b ≡ true → (is_listed xs b ≡ true) × (b ≢ block)
left_listed block b xs t = let l = listed_without block b xs in (grind (arith, nat_tests), λ e. true≢false (sym t ∙ grind (arith, nat_tests)))

-- where the block isn't listed it is the same
without_none : (block : ℕ) (xs : List ℕ) → is_listed xs block ≡ false → taken_out block xs ≡ xs
without_none block [] none = refl
without_none block (x ∷ xs) none = let rest = without_none block xs (grind (arith, nat_tests)) in grind (arith, nat_tests)

-- nothing comes twice that didn't before
pub once_without : (block : ℕ) (xs : List ℕ) → has_no_repeat xs ≡ true → has_no_repeat (taken_out block xs) ≡ true
once_without block [] once = once
once_without block (x ∷ xs) once = let rest = once_without block xs (once_later x xs once) in let l = listed_without block x xs in grind (arith, nat_tests)

module _ (next previous new_next new_previous : ℕ → ℕ) where
  -- the links of a chain stay where those of its blocks do
  pub linked_kept : (xs : List ℕ) (before link : ℕ) → ((b : ℕ) → is_listed xs b ≡ true → new_next b ≡ next b) → ((b : ℕ) → is_listed xs b ≡ true → new_previous b ≡ previous b) → Linked next previous before link xs → Linked new_next new_previous before link xs
  linked_kept [] before link ahead back h = h
  linked_kept (x ∷ xs) before link ahead back h =
      let rest = linked_kept xs (link_to x) (next x) (λ b t. ahead b (listed_later x b xs t)) (λ b t. back b (listed_later x b xs t)) h.1.1 in
      (h.0, (back x (listed_first x xs) ∙ h.1.0, rw (ahead x (listed_first x xs)) rest))

  -- a chain whose first block is linked back to another
  pub linked_behind : (xs : List ℕ) (before new_before link : ℕ) → has_no_repeat xs ≡ true → ((b : ℕ) → is_listed xs b ≡ true → new_next b ≡ next b) → ((b : ℕ) → is_listed xs b ≡ true → new_previous b ≡ cond (eqb (link_to b) link) new_before (previous b)) → Linked next previous before link xs → Linked new_next new_previous new_before link xs
  linked_behind [] before new_before link once ahead back h = h
  linked_behind (x ∷ xs) before new_before link once ahead back h =
      let first : new_previous x ≡ new_before = let e = back x (listed_first x xs) in let l = h.0 in grind (arith, nat_tests) in
      let kept : (b : ℕ) → is_listed xs b ≡ true → new_previous b ≡ previous b =
      λ b t. let e = back b (listed_later x b xs t) in let apart = unlisted xs x b (once_first x xs once) t in let l = h.0 in grind (arith, nat_tests) in
      let rest = linked_kept xs (link_to x) (next x) (λ b t. ahead b (listed_later x b xs t)) kept h.1.1 in
      (h.0, (first, rw (ahead x (listed_first x xs)) rest))

  -- a block put before a chain
  pub chain_pushed : (first block : ℕ) (xs : List ℕ) → is_listed xs block ≡ false → new_next block ≡ first → new_previous block ≡ 0 → ((b : ℕ) → is_listed xs b ≡ true → new_next b ≡ next b) → ((b : ℕ) → is_listed xs b ≡ true → new_previous b ≡ cond (eqb (link_to b) first) (link_to block) (previous b)) → IsChain next previous first xs → IsChain new_next new_previous (link_to block) (block ∷ xs)
  chain_pushed first block xs fresh leads begins ahead back h = search (rules, linked_behind, nat_tests)

-- what follows a block that another block isn't linked to
module _ (next previous : ℕ → ℕ) (block : ℕ) where
  -- a block is linked back to what is before the chain, or to one of its blocks
  pub back_apart : (xs : List ℕ) (before link target : ℕ) → is_listed xs block ≡ true → before ≢ target → ((b : ℕ) → is_listed xs b ≡ true → link_to b ≢ target) → Linked next previous before link xs → previous block ≢ target
  back_apart [] before link target there apart apart_all h = λ e. true≢false (sym there)
  back_apart (x ∷ xs) before link target there apart apart_all h = ⊎_elim
      (λ (same : block ≡ x). λ e. apart (sym h.1.0 ∙ sym (ap previous same) ∙ e))
      (λ (other : block ≢ x). back_apart xs (link_to x) (next x) target (grind (arith, nat_tests)) (apart_all x (listed_first x xs)) (λ b t. apart_all b (listed_later x b xs t)) h.1.1)
      (cases_eq block x)

  -- the link of a block leads to a block after it
  pub ahead_apart : (xs : List ℕ) (before link x : ℕ) → is_listed xs block ≡ true → is_listed xs x ≡ false → Linked next previous before link xs → link_to x ≢ next block
  ahead_apart [] before link x there none h = λ e. true≢false (sym there)
  ahead_apart (y ∷ []) before link x there none h = λ e. let same : block ≡ y = grind (arith, nat_tests) in let z = h.1.1 in let w = ap next same in omega (arith, e, z, w)
  ahead_apart (y ∷ (z ∷ zs)) before link x there none h = ⊎_elim
      (λ (same : block ≡ y). λ e. let w = ap next same in let l = h.1.1.0 in let apart : x ≢ z = λ q. true≢false (sym (listed_later y x (z ∷ zs) (rw q (listed_first z zs))) ∙ none) in grind (arith, nat_tests))
      (λ (other : block ≢ y). ahead_apart (z ∷ zs) (link_to y) (next y) x (grind (arith, nat_tests)) (grind (arith, nat_tests)) h.1.1)
      (cases_eq block y)

-- a chain from which a block is taken out: its neighbours are linked to each other in its place
module _ (next previous new_next new_previous : ℕ → ℕ) (block : ℕ) where
  pub linked_without : (xs : List ℕ) (before link : ℕ) → is_listed xs block ≡ true → has_no_repeat xs ≡ true → ((b : ℕ) → is_listed xs b ≡ true → link_to b ≢ before) →
      ((b : ℕ) → is_listed xs b ≡ true → b ≢ block → new_next b ≡ cond (eqb (link_to b) (previous block)) (next block) (next b)) → ((b : ℕ) → is_listed xs b ≡ true → b ≢ block → new_previous b ≡ cond (eqb (link_to b) (next block)) (previous block) (previous b)) →
      Linked next previous before link xs → Linked new_next new_previous before (cond (eqb before (previous block)) (next block) link) (taken_out block xs)
  linked_without [] before link there once apart ahead back h = absurd (true≢false (sym there))
  linked_without (x ∷ xs) before link there once apart ahead back h =
      let none = once_first x xs once in ⊎_elim
      (λ (same : x ≡ block).
      let out : taken_out block (x ∷ xs) ≡ xs = let w = without_none block xs (rw (← same) none) in grind (arith, nat_tests) in
      let t : eqb before (previous block) ≡ true = let p = ap previous (sym same) ∙ h.1.0 in grind (arith, nat_tests) in
      let beside : (b : ℕ) → is_listed xs b ≡ true → b ≢ block = λ b l e. unlisted xs x b none l (e ∙ sym same) in
      rw (t, out) (linked_behind next previous new_next new_previous xs (link_to x) before (next block) (once_later x xs once)
      (λ b l. let a = ahead b (listed_later x b xs l) (beside b l) in let q = apart b (listed_later x b xs l) in grind (arith, nat_tests))
      (λ b l. let a = back b (listed_later x b xs l) (beside b l) in grind (arith, nat_tests))
      (rw (ap next (sym same)) h.1.1)))
      (λ (other : x ≢ block).
      let out : taken_out block (x ∷ xs) ≡ x ∷ taken_out block xs = grind (arith, nat_tests) in
      let later : is_listed xs block ≡ true = grind (arith, nat_tests) in
      let not_first : previous block ≢ before = back_apart next previous block xs (link_to x) (next x) before later (apart x (listed_first x xs)) (λ b t. apart b (listed_later x b xs t)) h.1.1 in
      let not_next : link_to x ≢ next block = ahead_apart next previous block xs (link_to x) (next x) x later none h.1.1 in
      let rest = linked_without xs (link_to x) (next x) later (once_later x xs once) (λ b t l. unlisted xs x b none t (omega (arith, l)))
      (λ b t. ahead b (listed_later x b xs t)) (λ b t. back b (listed_later x b xs t)) h.1.1 in
      let u : eqb before (previous block) ≡ false = grind (arith, nat_tests) in
      let begins : new_previous x ≡ before = let b = back x (listed_first x xs) other in let l = h.1.0 in grind (arith, nat_tests) in
      rw (u, out) (h.0, (begins, rw (ahead x (listed_first x xs) other) rest)))
      (cases_eq x block)
