-- Elements that are added to a list, by what is shown of each.
use Rattle.std.specs.Prelude.{◌≡◌, List, ◌++◌, map, All}

-- elements of which this is shown are added, and each element of the list is sound
pub record AddsBy {X Y : Type 0} (shown : X → Y) (IsSound : X → Type 0) (old : List X) (more : List Y) (new : List X) : Type 0 where
  pub added : map shown new ≡ map shown old ++ more
  pub sound : All IsSound new
