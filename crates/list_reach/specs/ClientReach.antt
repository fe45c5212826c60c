-- To which entries a client's requests for a service are routed, for every given label.
use Rattle.std.specs.Prelude.{ℕ, ◌==◌, Bool, false, List, Option, Some, None}
use Rattle.own_model.specs.Listed.{Listed}
use Rattle.list_reach.specs.Reach.{IsShortest, AllRouted, NoneRouted, SomeNotRouted}
use Rattle.list_reach.specs.declared.client_reach.Reach.{Reach}
use Rattle.list_reach.specs.declared.client_reach.Reach.TheVariants.{Always, By, Never}

-- the reach of a server: all given labels are routed there, or a shortest one is and some aren't, or none is
abbrev pub DescribesReach : Listed → ℕ → List ℕ → ℕ → Reach → Type 0
DescribesReach list client service server Always = AllRouted list client service server
DescribesReach list client service server (By label) =
    IsShortest list client service server label × SomeNotRouted list client service server
DescribesReach list client service server Never = NoneRouted list client service server

abbrev pub is_child : ℕ → Option ℕ → Bool
is_child server None = false
is_child server (Some child) = child == server
