-- A request that is made again after each upgrade.
use Rattle.std.proofs.Common.{◌≡◌, ℕ, zero, suc, ◌*◌, List, refl, ap, ◌∙◌, subst, sym}
use Rattle.std.specs.Prelude.{Option, Some, None, OnOk, Result}
use Rattle.std.specs.Option.{option_map, option_map_or}
use Rattle.own_model.specs.Call.{Call}
use Rattle.budget_search.specs.AmpleCalls.{asked_again, asked_up, made_with_enough, of_word, upgrade_args, Client}

-- an upgrade, and none
pub asked_some : {X : Type 0} (f : X → List ℕ) (o : Option X) (x : X) (args : List ℕ) (found : Option (List ℕ)) → option_map f o ≡ found → o ≡ Some x → args ≡ f x → found ≡ Some args
asked_some f o x args found told is same = sym told ∙ ap (option_map f) is ∙ ap Some (sym same)

pub asked_none : {X : Type 0} (f : X → List ℕ) (o : Option X) (found : Option (List ℕ)) → option_map f o ≡ found → o ≡ None → found ≡ None
asked_none f o found told is = sym told ∙ ap (option_map f) is

module _ (selector : ℕ) (request : Call) (times : ℕ) (client : Client) where
  -- one upgrade more
  pub asked_more : (n left twice : ℕ) (args : List ℕ) (next : Client) → n ≡ suc left → twice ≡ of_word (times * 2) → upgrade_args times client.text ≡ Some args →
      next ≡ asked_again selector request args client → asked_up selector request left twice next ≡ asked_up selector request n times client
  asked_more n left twice args next is doubled short again =
      (λ i. asked_up selector request left (doubled i) (again i))
      ∙ sym (ap (λ o. option_map_or (λ a. asked_up selector request left (of_word (times * 2)) (asked_again selector request a client)) o client) short)
      ∙ sym (ap (λ m. asked_up selector request m times client) is)

  -- the account has enough
  pub asked_enough : (n : ℕ) → upgrade_args times client.text ≡ None → client ≡ asked_up selector request n times client
  asked_enough zero enough = refl
  asked_enough (suc left) enough =
      sym (ap (λ o. option_map_or (λ a. asked_up selector request left (of_word (times * 2)) (asked_again selector request a client)) o client) enough)

  -- all upgrades were tried
  pub asked_most : (n : ℕ) → n ≡ 0 → client ≡ asked_up selector request n times client
  asked_most n is = sym (ap (λ m. asked_up selector request m times client) is)

-- a call that is a request
pub request_made : {T E : Type 0} (r : Result T E) (call request : Call) (old new : Client) → call ≡ request → OnOk r (new ≡ made_with_enough request old) →
    OnOk r (new ≡ made_with_enough call old)
request_made r call request old new is made = subst (λ c. OnOk r (new ≡ made_with_enough c old)) (sym is) made
