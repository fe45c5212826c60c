-- Texts that are read of a file.
use Rattle.std.proofs.Common.{◌≡◌, ℕ, ◌<◌, ◌≤◌, zero, suc, List, [], ◌∷◌, length, take, Option, Some, None, refl, sym, subst, ap, ◌∙◌, arith}
use Rattle.std.specs.Prelude.{true, false, IfOk, IfSome, Result, Ok, Err}
use Rattle.cli_base.specs.Files.{IsFrontAt, IsTextAt, IsTooLong, front}
use Rattle.cli_base.specs.ListFailures.{read_lacks_memory}
use Rattle.cli_base.specs.PolicyVerdict.{HasNoPolicy, IsNoPolicy}
use Rattle.cli_base.specs.declared.host.ReadFailure.{ReadFailure}
use Rattle.cli_base.specs.declared.host.ReadFailure.TheVariants.{NoMemory}

-- all of a list, if fewer items are taken than could be
take_short : (n : ℕ) (xs : List ℕ) → length (take n xs) < n → take n xs ≡ xs
take_short zero xs few = absurd (omega (arith, few))
take_short (suc n) [] few = refl
take_short (suc n) (x ∷ xs) few = ap (λ ys. x ∷ ys) (take_short n xs (omega (arith, few)))

take_few : (n : ℕ) (xs : List ℕ) → length (take n xs) ≤ length xs
take_few zero xs = omega arith
take_few (suc n) [] = omega arith
take_few (suc n) (x ∷ xs) = let few = take_few n xs in omega (arith, few)

true_no_false : true ≡ false → ⊥
true_no_false is = cc

module _ (texts : List ℕ → Option (List ℕ)) (path : List ℕ) where
  -- a text that is shorter than what could be read is all of the file
  whole : (known : Option (List ℕ)) (most : ℕ) (text : List ℕ) → length text < most → IfSome known (λ bytes. text ≡ take most bytes)
      → IfSome known (λ bytes. text ≡ bytes)
  whole None most text few is = tt
  whole (Some bytes) most text few is = is ∙ take_short most bytes (subst (λ t. length t < most) is few)

  pub whole_text : (most : ℕ) (text : List ℕ) → length text < most → IfSome (texts path) (λ bytes. text ≡ take most bytes)
      → IsTextAt texts path text
  whole_text most text few is = whole (texts path) most text few is

  -- a text that is longer than a scenario that is read whole
  long : (known : Option (List ℕ)) (most : ℕ) (text : List ℕ) → 67108864 < length text → IfSome known (λ bytes. text ≡ take most bytes)
      → IfSome known (λ bytes. 67108864 < length bytes)
  long None most text longer is = tt
  long (Some bytes) most text longer is =
      let few = take_few most bytes in
      let cut = subst (λ t. 67108864 < length t) is longer in omega (arith, few, cut)

  pub long_text : (most : ℕ) (text : List ℕ) → 67108864 < length text → IfSome (texts path) (λ bytes. text ≡ take most bytes)
      → IsTooLong texts path
  long_text most text longer is = long (texts path) most text longer is

  -- a policy that is read
  pub policy_read : {V E : Type 0} (items : V → List ℕ) (bytes : List ℕ) (r : Result V E) → IsFrontAt texts path bytes
      → IfOk r (λ text. items text ≡ bytes) → IfOk r (λ text. length (items text) ≤ 65536) → IfOk r (λ text. IsTextAt texts path (items text))
  policy_read items bytes (Err failure) at same few = tt
  policy_read items bytes (Ok text) at same few =
      whole_text 65537 (items text) (omega (arith, few)) (subst (λ t. IfSome (texts path) (λ b. t ≡ take 65537 b)) (sym same) at)

  -- a policy that isn't read, though the host isn't out of memory
  lacks : (known : Option (List ℕ)) (why : ReadFailure) → IfSome known (λ _. why ≡ NoMemory) → read_lacks_memory why ≡ false
      → IfSome known (λ bytes. IsNoPolicy (front bytes))
  lacks None why no_room room = tt
  lacks (Some bytes) why no_room room = absurd (true_no_false (sym (ap read_lacks_memory no_room) ∙ room))

  pub policy_unread : (why told : ReadFailure) → told ≡ why → IfSome (texts path) (λ _. why ≡ NoMemory) → read_lacks_memory told ≡ false
      → HasNoPolicy texts path
  policy_unread why told is no_room room = lacks (texts path) why no_room (ap read_lacks_memory (sym is) ∙ room)
