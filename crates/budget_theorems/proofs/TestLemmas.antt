-- What a test says of an account under other limits.
use Rattle.std.proofs.lemmas.Bool.Decides.{nat_tests}
use Rattle.std.proofs.Common.{arith, ◌≡◌, ℕ, ◌+◌, ◌-◌, ◌≤◌, ◌⊎◌, inl, inr, Bool, true, false, cond, [], ◌∷◌, nat_lt, nat_le, refl, sym, ap, ◌∙◌, true≢false}
use Rattle.std.specs.List.{AllByRecursion}
use Rattle.std.specs.Prelude.{Option, Some, None, is_none}
use Rattle.trade_base.specs.declared.refusal.Refusal.{Refusal}
use Rattle.trade_base.specs.declared.refusal.Refusal.TheVariants.{OutOfRam, OutOfCaps}
use Rattle.own_model.specs.Account.{Account, shortage}
use Rattle.own_model.specs.Amounts.{Amounts}
use Rattle.own_model.specs.Growth.{Shape, least_growth, larger_growth, growth_of}
use Rattle.budget_theorems.proofs.CellLemmas.{Leads}
use Rattle.budget_theorems.specs.Need.{limited, need_of, covers_ram, covers_caps, ComesOutAlike}
use Rattle.budget_theorems.specs.Test.{Test, test_of, tested_where, larger_test, growth_tests}

-- a refusal for want of RAM or of capabilities
abbrev pub lacks : Option Refusal → Bool
lacks (Some OutOfRam) = true
lacks (Some OutOfCaps) = true
lacks why = false

-- what holds of a test holds of the list of it
pub alone : {A B : Type 0} → A ⊎ B → (A × Unit {0}) ⊎ B
alone (inl a) = inl (a, tt)
alone (inr b) = inr b

-- two sums stay equal where both have the same amount less, which both cover
pub less_alike : (x u a b c d : ℕ) → a + b ≡ c + d → u + x ≤ a → u + x ≤ c → a - x + b ≡ c - x + d
less_alike x u a b c d same left right = omega (arith, same, left, right)

module _ (m : Amounts) (a : Account) where
  -- a test comes out alike under the limits m
  pub record IsAlike (test : Test) : Type 0 where
    pub ram : nat_lt m.ram (a.ram_used + test.ram) ≡ nat_lt a.ram_limit (a.ram_used + test.ram)
    pub caps : nat_lt a.ram_limit (a.ram_used + test.ram) ≡ false → nat_lt m.caps (a.caps_used + test.caps) ≡ nat_lt a.caps_limit (a.caps_used + test.caps)

  -- or it is to do so, or to bring its call in want
  pub record IsLed (test : Test) : Type 0 where
    pub fails : nat_lt a.ram_limit (a.ram_used + test.ram) ≡ true → nat_lt m.ram (a.ram_used + test.ram) ≡ true
    pub chosen : test.choice ≡ true → nat_lt a.ram_limit (a.ram_used + test.ram) ≡ false → nat_lt m.ram (a.ram_used + test.ram) ≡ false
    pub caps : nat_lt a.ram_limit (a.ram_used + test.ram) ≡ false → nat_lt a.caps_limit (a.caps_used + test.caps) ≡ true → nat_lt m.caps (a.caps_used + test.caps) ≡ true

  -- then the account lacks the same
  by_tests : (u v x y : Bool) → u ≡ x → (x ≡ false → v ≡ y) → cond u (Some OutOfRam) (cond v (Some OutOfCaps) None) ≡ cond x (Some OutOfRam) (cond y (Some OutOfCaps) None)
  by_tests u v true y same implied = ap (λ b. cond b (Some OutOfRam) (cond v (Some OutOfCaps) None)) same
  by_tests u v false y same implied =
      ap (λ b. cond b (Some OutOfRam) (cond v (Some OutOfCaps) None)) same ∙ ap (λ b. cond b (Some OutOfCaps) None) (implied refl)

  pub short_alike : (test : Test) → IsAlike test → shortage (limited m a) test.ram test.caps ≡ shortage a test.ram test.caps
  short_alike test alike =
      by_tests (nat_lt m.ram (a.ram_used + test.ram)) (nat_lt m.caps (a.caps_used + test.caps))
      (nat_lt a.ram_limit (a.ram_used + test.ram)) (nat_lt a.caps_limit (a.caps_used + test.caps)) alike.ram alike.caps

  -- so does a test of a size
  pub sized_alike : (valid : Bool) (test : Test) (x : Refusal) → AllByRecursion IsAlike (tested_where valid test) →
      cond valid (shortage (limited m a) test.ram test.caps) (Some x) ≡ cond valid (shortage a test.ram test.caps) (Some x)
  sized_alike true test x each = short_alike test each.0
  sized_alike false test x each = refl

  -- a test that is no choice comes out alike, or the account lacks under the other limits
  by_cases : (u v x y : Bool) → (x ≡ true → u ≡ true) → (x ≡ false → y ≡ true → v ≡ true) →
      ((u ≡ x) × (x ≡ false → v ≡ y)) ⊎ (lacks (cond u (Some OutOfRam) (cond v (Some OutOfCaps) None)) ≡ true)
  by_cases true v true y fails caps = inl (refl, λ e. absurd (true≢false e))
  by_cases false v true y fails caps = absurd (true≢false (sym (fails refl)))
  by_cases true v false y fails caps = inr refl
  by_cases false true false y fails caps = inr refl
  by_cases false false false true fails caps = absurd (true≢false (sym (caps refl refl)))
  by_cases false false false false fails caps = inl (refl, λ _. refl)

  pub decided : (test : Test) → IsLed test → IsAlike test ⊎ (lacks (shortage (limited m a) test.ram test.caps) ≡ true)
  decided test led =
      elim (by_cases (nat_lt m.ram (a.ram_used + test.ram)) (nat_lt m.caps (a.caps_used + test.caps))
      (nat_lt a.ram_limit (a.ram_used + test.ram)) (nat_lt a.caps_limit (a.caps_used + test.caps)) led.fails led.caps) [
        | inl both ↦ inl (record { ram = both.0; caps = both.1 })
        | inr short ↦ inr short
      ]

  pub sized_decided : (valid : Bool) (test : Test) (x : Refusal) → AllByRecursion IsLed (tested_where valid test) →
      AllByRecursion IsAlike (tested_where valid test) ⊎ (lacks (cond valid (shortage (limited m a) test.ram test.caps) (Some x)) ≡ true)
  sized_decided true test x each = elim (decided test each.0) [ inl alike ↦ inl (alike, tt) | inr short ↦ inr short ]
  sized_decided false test x each = inl tt

  -- ---- growth

  module _ (n : ℕ) (shape : Shape) where
    abbrev large : ℕ
    large = (larger_growth n shape).bytes

    abbrev least : ℕ
    least = (least_growth n shape).bytes

    least_within : least ≤ large
    least_within = grind arith

    abbrev fails_large : Bool
    fails_large = nat_lt a.ram_limit (a.ram_used + large)

    -- the account lacks the same for the least chunk, and grows by the same
    least_alike_by : (v : Bool) → fails_large ≡ v → IsAlike (larger_test n shape) → AllByRecursion IsAlike (tested_where v (test_of least 1)) →
        shortage (limited m a) least 1 ≡ shortage a least 1
    least_alike_by true is alike each = short_alike (test_of least 1) each.0
    least_alike_by false is alike each =
        let within = least_within in
        let fits = alike.ram in
        let same = alike.caps is in
        by_tests (nat_lt m.ram (a.ram_used + least)) (nat_lt m.caps (a.caps_used + 1)) (nat_lt a.ram_limit (a.ram_used + least)) (nat_lt a.caps_limit (a.caps_used + 1))
        (grind (arith, nat_tests, within, is, fits)) (λ _. same)

    pub least_alike : AllByRecursion IsAlike (growth_tests n shape a) → shortage (limited m a) least 1 ≡ shortage a least 1
    least_alike each = least_alike_by fails_large refl each.0 each.1

    pub growth_alike : AllByRecursion IsAlike (growth_tests n shape a) → growth_of n shape (limited m a) ≡ growth_of n shape a
    growth_alike each = ap (λ why. cond (is_none why) (larger_growth n shape) (least_growth n shape)) (short_alike (larger_test n shape) each.0)

    -- where the bytes fail under the other limits alone the larger is no choice
    no_choice : fails_large ≡ false → IsLed (larger_test n shape) → nat_lt m.ram (a.ram_used + large) ≡ true → nat_lt least large ≡ false
    no_choice is led fails =
        elim (nat_lt least large) as (λ b. (b ≡ true → nat_lt m.ram (a.ram_used + large) ≡ false) → b ≡ false) [
          | true ↦ λ chosen. absurd (true≢false (sym fails ∙ chosen refl))
          | false ↦ λ _. refl
        ] (λ c. led.chosen c is)

    lacks_ram : (u v : Bool) → u ≡ true → lacks (cond u (Some OutOfRam) (cond v (Some OutOfCaps) None)) ≡ true
    lacks_ram u v is = ap (λ b. lacks (cond b (Some OutOfRam) (cond v (Some OutOfCaps) None))) is

    lacks_caps : (u v : Bool) → v ≡ true → lacks (cond u (Some OutOfRam) (cond v (Some OutOfCaps) None)) ≡ true
    lacks_caps true v is = refl
    lacks_caps false v is = ap (λ b. lacks (cond b (Some OutOfCaps) None)) is

    -- capabilities that pass there pass here
    caps_pass : fails_large ≡ false → IsLed (larger_test n shape) → nat_lt m.caps (a.caps_used + 1) ≡ false → nat_lt a.caps_limit (a.caps_used + 1) ≡ false
    caps_pass is led passes =
        elim (nat_lt a.caps_limit (a.caps_used + 1)) as (λ b. (b ≡ true → nat_lt m.caps (a.caps_used + 1) ≡ true) → b ≡ false) [
          | true ↦ λ fails. absurd (true≢false (sym (fails refl) ∙ passes))
          | false ↦ λ _. refl
        ] (led.caps is)

    passes_decided : (u v : Bool) → nat_lt m.ram (a.ram_used + large) ≡ u → nat_lt m.caps (a.caps_used + 1) ≡ v → fails_large ≡ false → IsLed (larger_test n shape) →
        AllByRecursion IsAlike (larger_test n shape ∷ []) ⊎ (lacks (shortage (limited m a) least 1) ≡ true)
    passes_decided true v fails w is led =
        let same = no_choice is led fails in
        let within = least_within in
        inr (lacks_ram (nat_lt m.ram (a.ram_used + least)) (nat_lt m.caps (a.caps_used + 1)) (grind (arith, nat_tests, same, within, fails)))
    passes_decided false true u w is led = inr (lacks_caps (nat_lt m.ram (a.ram_used + least)) (nat_lt m.caps (a.caps_used + 1)) w)
    passes_decided false false u w is led = inl (record { ram = u ∙ sym is; caps = λ _. w ∙ sym (caps_pass is led w) }, tt)

    -- growth comes out alike, or the account lacks the least chunk under the other limits
    growth_decided_by : (v : Bool) → fails_large ≡ v → IsLed (larger_test n shape) → AllByRecursion IsLed (tested_where v (test_of least 1)) →
        AllByRecursion IsAlike (larger_test n shape ∷ tested_where v (test_of least 1)) ⊎ (lacks (shortage (limited m a) least 1) ≡ true)
    growth_decided_by true is led each =
        let fails = led.fails is in
        elim (decided (test_of least 1) each.0) [
          | inl alike ↦ inl (record { ram = fails ∙ sym is; caps = λ e. absurd (true≢false (sym is ∙ e)) }, (alike, tt))
          | inr short ↦ inr short
        ]
    growth_decided_by false is led each = passes_decided (nat_lt m.ram (a.ram_used + large)) (nat_lt m.caps (a.caps_used + 1)) refl refl is led

    pub growth_decided : AllByRecursion IsLed (growth_tests n shape a) →
        AllByRecursion IsAlike (growth_tests n shape a) ⊎ (lacks (shortage (limited m a) least 1) ≡ true)
    growth_decided each = growth_decided_by fails_large refl each.0 each.1

-- ---- needs

module _ (one other m : Amounts) (a : Account) (ram : m.ram + one.ram ≡ a.ram_limit + other.ram) (caps : m.caps + one.caps ≡ a.caps_limit + other.caps) where
  -- a need is covered by the budget that a run began with exactly where the test passes
  passes_ram : (test : Test) → covers_ram one (need_of one a test) ≡ nat_le (a.ram_used + test.ram) a.ram_limit
  passes_ram test = grind (arith, nat_tests)

  passes_caps : (test : Test) → covers_caps one (need_of one a test) ≡ nat_le (a.caps_used + test.caps) a.caps_limit
  passes_caps test = grind (arith, nat_tests)

  -- and by another exactly where it passes under the limits that come of that
  passes_other_ram : (test : Test) → covers_ram other (need_of one a test) ≡ nat_le (a.ram_used + test.ram) m.ram
  passes_other_ram test = grind (arith, nat_tests, ram)

  passes_other_caps : (test : Test) → covers_caps other (need_of one a test) ≡ nat_le (a.caps_used + test.caps) m.caps
  passes_other_caps test = grind (arith, nat_tests, caps)

  pub alike_of : (test : Test) → ComesOutAlike one other (need_of one a test) → IsAlike m a test
  alike_of test alike =
      let p = passes_ram test in
      let q = passes_other_ram test in
      let u = passes_caps test in
      let v = passes_other_caps test in
      let r = alike.ram in
      record { ram = grind (arith, nat_tests, p, q, r); caps = λ passes. let c = alike.caps (grind (arith, nat_tests, passes, p)) in grind (arith, nat_tests, u, v, c) }

  pub alike_to : (test : Test) → IsAlike m a test → ComesOutAlike one other (need_of one a test)
  alike_to test alike =
      let p = passes_ram test in
      let q = passes_other_ram test in
      let u = passes_caps test in
      let v = passes_other_caps test in
      let r = alike.ram in
      record { ram = grind (arith, nat_tests, p, q, r); caps = λ passes. let c = alike.caps (grind (arith, nat_tests, passes, p)) in grind (arith, nat_tests, u, v, c) }

  pub led_of : (test : Test) → Leads one other (need_of one a test) → IsLed m a test
  led_of test led =
      let p = passes_ram test in
      let q = passes_other_ram test in
      let u = passes_caps test in
      let v = passes_other_caps test in
      record {
        fails = λ e. let f = led.fails (grind (arith, nat_tests, e, p)) in grind (arith, nat_tests, q, f);
        chosen = λ is e. let f = led.chosen is (grind (arith, nat_tests, e, p)) in grind (arith, nat_tests, q, f);
        caps = λ e fails. let f = led.caps (grind (arith, nat_tests, e, p)) (grind (arith, nat_tests, fails, u)) in grind (arith, nat_tests, v, f);
      }
