-- Names of services.
use Rattle.std.proofs.Common.{◌≡◌, ℕ, ◌+◌, Bool, true, false, cond, List, drop, Some, None, ap, ◌∙◌, ◌||◌}
use Rattle.std.specs.Prelude.{find}
use Rattle.std.specs.List.{list_any, slice_get}
use Rattle.trade_base.specs.Service.{service_name}
use Rattle.trade_base.specs.declared.service.BuiltInService.{BuiltInService}
use Rattle.own_model.proofs.ServiceLemmas.{is_named}
use Rattle.list_parser.specs.Members.{name_in}
use Rattle.list_reach.proofs.ServiceLemmas.{left_from_got}

-- each is read as a name
pub service_is_named : (service : BuiltInService) → name_in (service_name service) ≡ Some (service_name service)
service_is_named service = ap (λ b. cond b (Some (service_name service)) None) (is_named service)

-- the first that passes is here, or later
module _ {X : Type 0} (p : X → Bool) (xs : List X) (n : ℕ) (x : X) (got : slice_get xs n ≡ Some x) where
  any_from : list_any p (drop n xs) ≡ (p x || list_any p (drop (n + 1) xs))
  any_from = ap (list_any p) (left_from_got xs n x got)

  pub any_here : p x ≡ true → list_any p (drop n xs) ≡ true
  any_here passes = any_from ∙ ap (λ b. b || list_any p (drop (n + 1) xs)) passes

  pub any_later : p x ≡ false → list_any p (drop n xs) ≡ list_any p (drop (n + 1) xs)
  any_later fails = any_from ∙ ap (λ b. b || list_any p (drop (n + 1) xs)) fails

  find_from : find p (drop n xs) ≡ cond (p x) (Some x) (find p (drop (n + 1) xs))
  find_from = ap (find p) (left_from_got xs n x got)

  pub find_here : p x ≡ true → find p (drop n xs) ≡ Some x
  find_here passes = find_from ∙ ap (λ b. cond b (Some x) (find p (drop (n + 1) xs))) passes

  pub find_later : p x ≡ false → find p (drop n xs) ≡ find p (drop (n + 1) xs)
  find_later fails = find_from ∙ ap (λ b. cond b (Some x) (find p (drop (n + 1) xs))) fails
