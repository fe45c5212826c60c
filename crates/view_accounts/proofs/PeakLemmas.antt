-- Peaks over the worlds so far, once there is one more.
use Rattle.std.proofs.Common.{◌≡◌, ℕ, ◌+◌, ◌≤◌, ◌&&◌, Bool, true, false, List, [], ◌∷◌, ◌++◌, length, max, refl, sym, ◌∙◌, ap, arith}
use Rattle.std.specs.List.{list_all}
use Rattle.std.proofs.lemmas.Bool.Decides.{nat_tests}
use Rattle.own_model.specs.Account.{Account}
use Rattle.own_model.specs.World.{World, world_running}
use Rattle.own_model.specs.Amounts.{Amounts}
use Rattle.view_accounts.specs.Kept.{grown, in_use}
use Rattle.view_accounts.specs.Peaks.{lasting, most, peak_of, worlds}

-- the worlds after a call more
pub worlds-more : (start : World) (calls : List (List ℕ)) (call : List ℕ) → worlds start (calls ++ call ∷ []) ≡ worlds start calls ++ world_running start (calls ++ call ∷ []) ∷ []
worlds-more start [] call = refl
worlds-more start (first ∷ calls) call = ap (λ ws. start ∷ ws) (worlds-more (world_running start (first ∷ [])) calls call)

-- the last of them is the world now
pub worlds-last : (start : World) (calls : List (List ℕ)) → (before : List World) × (worlds start calls ≡ before ++ world_running start calls ∷ [])
worlds-last start [] = ([], refl)
worlds-last start (call ∷ calls) =
    let later = worlds-last (world_running start (call ∷ [])) calls in
    (start ∷ later.0, ap (λ ws. start ∷ ws) later.1)

-- there is one more of them than calls
pub length-worlds : (start : World) (calls : List (List ℕ)) → length (worlds start calls) ≡ length calls + 1
length-worlds start [] = refl
length-worlds start (call ∷ calls) = omega (arith, length-worlds (world_running start (call ∷ [])) calls)

max_of_three : (a b c : ℕ) → max a (max b c) ≡ max (max a b) c
max_of_three a b c = omega arith

most-one : (n : ℕ) → max n 0 ≡ max 0 n
most-one n = omega arith

-- the most of one world more
pub most-more : (use_in : World → ℕ) (ws : List World) (world : World) → most use_in (ws ++ world ∷ []) ≡ max (most use_in ws) (use_in world)
most-more use_in [] world = most-one (use_in world)
most-more use_in (w ∷ ws) world = ap (λ n. max (use_in w) n) (most-more use_in ws world) ∙ max_of_three (use_in w) (most use_in ws) (use_in world)

pub peak-more : (account_in : World → Account) (ws : List World) (world : World) → peak_of account_in (ws ++ world ∷ []) ≡ grown (peak_of account_in ws) (account_in world)
peak-more account_in ws world = λ i. record {
  ram = most-more (λ w. (account_in w).ram_used) ws world i;
  caps = most-more (λ w. (account_in w).caps_used) ws world i;
}

max_twice : (m n : ℕ) → max (max m n) n ≡ max m n
max_twice m n = omega arith

-- the same use twice is no more than once
pub grown_twice : (peak : Amounts) (account : Account) → grown (grown peak account) account ≡ grown peak account
grown_twice peak account = λ i. record { ram = max_twice peak.ram account.ram_used i; caps = max_twice peak.caps account.caps_used i }

-- where the last world uses what the one before it does the peak stays
pub peak-same : (account_in : World → Account) (start : World) (calls : List (List ℕ)) (call : List ℕ) →
    in_use (account_in (world_running start (calls ++ call ∷ []))) ≡ in_use (account_in (world_running start calls)) →
    peak_of account_in (worlds start calls) ≡ peak_of account_in (worlds start (calls ++ call ∷ []))
peak-same account_in start calls call same =
    let last = worlds-last start calls in
    let before = account_in (world_running start calls) in
    let peak = peak_of account_in (worlds start calls) in
    let is : peak ≡ grown (peak_of account_in last.0) before = ap (peak_of account_in) last.1 ∙ peak-more account_in last.0 (world_running start calls) in
    is ∙ sym (grown_twice (peak_of account_in last.0) before) ∙ ap (λ p. grown p before) (sym is)
    ∙ (λ i. record { ram = max peak.ram ((sym same i).ram); caps = max peak.caps ((sym same i).caps) })
    ∙ sym (peak-more account_in (worlds start calls) (world_running start (calls ++ call ∷ [])))
    ∙ ap (peak_of account_in) (sym (worlds-more start calls call))

-- ---- the last worlds in which something holds

all-more : (holds : World → Bool) (ws : List World) (world : World) → list_all holds (ws ++ world ∷ []) ≡ list_all holds ws && holds world
all-more holds [] world = elim (holds world) as (λ b. (b && true) ≡ (true && b)) [ true ↦ refl | false ↦ refl ]
all-more holds (w ∷ ws) world = grind (arith, nat_tests, all-more holds ws world)

module _ (holds : World → Bool) where
  pub lasting-more : (ws : List World) (world : World) → holds world ≡ true → lasting holds (ws ++ world ∷ []) ≡ lasting holds ws ++ world ∷ []
  lasting-more [] world is = rw is refl
  lasting-more (w ∷ ws) world is = grind (arith, nat_tests, all-more holds (w ∷ ws) world, lasting-more ws world is)

  pub lasting-none : (ws : List World) (world : World) → holds world ≡ false → lasting holds (ws ++ world ∷ []) ≡ []
  lasting-none [] world is = rw is refl
  lasting-none (w ∷ ws) world is = grind (arith, nat_tests, all-more holds (w ∷ ws) world, lasting-none ws world is)

  -- they are no more than there are
  pub length-lasting : (ws : List World) → length (lasting holds ws) ≤ length ws
  length-lasting [] = omega arith
  length-lasting (w ∷ ws) = grind (arith, nat_tests, length-lasting ws)

  -- and fewer where it doesn't hold of the first
  pub lasting-later : (w : World) (ws : List World) → holds w ≡ false → length (lasting holds (w ∷ ws)) ≤ length ws
  lasting-later w ws none = grind (arith, nat_tests, length-lasting ws)
