-- The shortest of those that pass a test, one after another.
use Rattle.std.proofs.Common.{◌≡◌, ◌<◌, ◌≤◌, ℕ, Bool, true, false, List, [], ◌∷◌, ◌++◌, nat_lt, refl, Option, Some, None, arith}
use Rattle.std.specs.Prelude.{All}
use Rattle.std.proofs.lemmas.Bool.Decides.{nat_tests}
use Rattle.std.proofs.lemmas.List.Elements.{All-push, All-weaker, Contains-append_left, Contains-push}
use Rattle.list_reach.specs.Shortest.{IsShortest, is_shorter}

less_of : (m n : ℕ) → nat_lt m n ≡ true → m < n
less_of m n is = grind (arith, nat_tests)

most_of : (m n : ℕ) → nat_lt m n ≡ false → n ≤ m
most_of m n is = grind (arith, nat_tests)

module _ {X : Type 0} (size : X → ℕ) (test : X → Bool) (seen : List X) where
  taken : (best : Option X) (one : X) → IsShortest size test seen best → is_shorter size one best ≡ true
      → All (λ other. test other ≡ true → size one ≤ size other) seen
  taken None one none shorter =
      All-weaker (λ other. test other ≡ false) (λ other. test other ≡ true → size one ≤ size other) (λ other lost is. cc) seen none
  taken (Some best) one least shorter =
      All-weaker (λ other. test other ≡ true → size best ≤ size other) (λ other. test other ≡ true → size one ≤ size other)
      (λ other less is. let less_best : size one < size best = less_of _ _ shorter in
      let most : size best ≤ size other = less is in omega arith)
      seen least.least

  -- one that passes and is shorter than the best so far is the best
  pub best_taken : (best : Option X) (one : X) → IsShortest size test seen best → test one ≡ true → is_shorter size one best ≡ true
      → IsShortest size test (seen ++ one ∷ []) (Some one)
  best_taken best one so_far passes shorter =
      record {
        there = Contains-push seen one;
        passes = passes;
        least = All-push (λ other. test other ≡ true → size one ≤ size other) seen one (taken best one so_far shorter) (λ is. omega arith);
      }

  -- else the best so far stays: the next one is no shorter, or doesn't pass
  pub best_shorter : (best : Option X) (one : X) → IsShortest size test seen best → is_shorter size one best ≡ false
      → IsShortest size test (seen ++ one ∷ []) best
  best_shorter None one none longer = cc
  best_shorter (Some best) one least longer =
      record {
        there = Contains-append_left seen (one ∷ []) best least.there;
        passes = least.passes;
        least = All-push (λ other. test other ≡ true → size best ≤ size other) seen one least.least (λ is. most_of _ _ longer);
      }

  pub best_alone : (best : Option X) (one : X) → IsShortest size test seen best → test one ≡ false → IsShortest size test (seen ++ one ∷ []) best
  best_alone None one none lost = All-push (λ other. test other ≡ false) seen one none lost
  best_alone (Some best) one least lost =
      record {
        there = Contains-append_left seen (one ∷ []) best least.there;
        passes = least.passes;
        least = All-push (λ other. test other ≡ true → size best ≤ size other) seen one least.least (λ is. cc);
      }
