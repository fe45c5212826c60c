-- Why there are no paths: of a request, and of scripts and servers that are named.
use Rattle.std.proofs.Common.{◌≡◌, ℕ, true, false, List, ap, inl, inr, refl, subst, sym}
use Rattle.std.specs.Prelude.{◌⊎◌, is_err, is_some, if◌then◌else◌, IfSome, Option, Some, None, Result, Ok, Err}
use Rattle.list_reach.specs.Paths.{GivesReason, PathFault, fault_of, joined}
use Rattle.list_reach.specs.RouteQuery.{IsWhy}
use Rattle.list_reach.specs.declared.component_numbers.Unnamed.{Unnamed}
use Rattle.list_reach.specs.declared.route_path.RoutePathFault.{RoutePathFault}
use Rattle.list_reach.specs.declared.route_path.RoutePathFault.TheVariants.{Nobody, BadArgs, NoMemory}
use Rattle.own_model.specs.Listed.{Listed}
use Rattle.cli_base.specs.Statuses.{EndsAs}
use Rattle.cli_lists.specs.ListStatus.{fault_status, unnamed_status}

-- a request without a route path
pub no_path : (list : Listed) (client args : List ℕ) (P : ℕ → Type 0) (fault : RoutePathFault) (status : ℕ) → IsWhy list client args fault
    → status ≡ fault_status fault → EndsAs (IsWhy list client args Nobody ⊎ IsWhy list client args BadArgs) P status
no_path list client args P Nobody status why is = inl (inr (is, inl why))
no_path list client args P BadArgs status why is = inl (inr (is, inr why))
no_path list client args P NoMemory status why is = inl (inl (inl is))

-- both kinds of paths denote components
pub all_named : (from to : Result (List ℕ) PathFault) (scripts servers : List ℕ) → from ≡ Ok scripts → to ≡ Ok servers
    → is_err (joined from to) ≡ false
all_named from to scripts servers from_is to_is =
    subst (λ (r : Result (List ℕ) PathFault). is_err (joined r to) ≡ false) (sym from_is)
    (subst (λ (r : Result (List ℕ) PathFault). is_err (joined (Ok scripts) r) ≡ false) (sym to_is) refl)

-- a path denotes none
pub none_named : (numbers : Result (List ℕ) PathFault) (fault : Unnamed) (status : ℕ) → GivesReason numbers fault
    → status ≡ unnamed_status fault → (status ≡ 1) ⊎ (status ≡ 2) × (is_err numbers ≡ true)
none_named numbers fault status reason is = by (fault_of fault) reason is
  where
    by : (o : Option PathFault) → IfSome o (λ why. numbers ≡ Err why) → status ≡ (if is_some o then 2 else 1)
        → (status ≡ 1) ⊎ (status ≡ 2) × (is_err numbers ≡ true)
    by None _ one = inl one
    by (Some why) why_is two = inr (two, ap (λ (r : Result (List ℕ) PathFault). is_err r) why_is)
