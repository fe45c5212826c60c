-- What the reach of a server says of a demand.
use Rattle.std.proofs.Common.{◌≡◌, ℕ, ◌+◌, suc, List, [], ◌++◌, Option, refl, sym, subst, arith}
use Rattle.own_model.specs.Listed.{Listed}
use Rattle.list_reach.specs.Reach.{AllRouted, IsShortest}
use Rattle.list_labels.specs.GivenLabels.{IsGiven}
use Rattle.std.specs.Option.{option_to_list}
use Rattle.list_policy.specs.Demand.{FindsAt, FindsBelow, FindsFor, FindsOne, IsRoutedThere}
use Rattle.list_policy.specs.Line.{LineAt}
use Rattle.list_policy.specs.declared.breach.Breach.{Breach}

given_nothing : IsGiven []
given_nothing = record { short = omega arith; plain = refl }

-- where all labels lead there the empty one does
pub always_there : (list : Listed) (client : ℕ) (service : List ℕ) (server : ℕ) → AllRouted list client service server
    → IsRoutedThere list client service server []
always_there list client service server all = record { given = given_nothing; leads = all [] given_nothing }

pub some_there : (list : Listed) (client : ℕ) (service : List ℕ) (server : ℕ) (label : List ℕ)
    → IsShortest list client service server label → IsRoutedThere list client service server label
some_there list client service server label is = record { given = is.given; leads = is.leads }

next : (n : ℕ) → suc n ≡ n + 1
next n = omega arith

-- what is found at one number more comes after what was found
pub below_more : (finds : ℕ → List Breach → Type 0) (n : ℕ) (front last : List Breach) → FindsBelow finds n front → finds n last
    → FindsBelow finds (n + 1) (front ++ last)
below_more finds n front last before here =
    subst (λ (m : ℕ). FindsBelow finds m (front ++ last)) (next n) (front, last, refl, before, here)

-- the same of a client and a server
pub pair_more : (list : Listed) (line : LineAt) (client n : ℕ) (front found : List Breach) (one : Option Breach)
    → FindsBelow (FindsOne list line client) n front → FindsAt list line client n one → found ≡ front ++ option_to_list one
    → FindsBelow (FindsOne list line client) (n + 1) found
pair_more list line client n front found one before here is =
    subst (λ (all : List Breach). FindsBelow (FindsOne list line client) (n + 1) all) (sym is)
    (below_more (FindsOne list line client) n front (option_to_list one) before (one, refl, here))

-- the same of a client and each server
pub client_more : (list : Listed) (line : LineAt) (n : ℕ) (front last found : List Breach)
    → FindsBelow (FindsFor list line) n front → FindsFor list line n last → found ≡ front ++ last
    → FindsBelow (FindsFor list line) (n + 1) found
client_more list line n front last found before here is =
    subst (λ (all : List Breach). FindsBelow (FindsFor list line) (n + 1) all) (sym is)
    (below_more (FindsFor list line) n front last before here)
