-- What a tree finds, as a hole of a heap.
use Rattle.std.specs.Prelude.{◌≡◌, ℕ, ◌^◌, ◌<◌, List, [], ◌∷◌, Option, Some, None}
use Rattle.own_model.specs.BestFit.{Spot}
use Rattle.avl_alloc.specs.Words.{place_at}

-- holes whose places differ from one another: their offsets are below the distance of two chunks
abbrev pub AreShort : List Spot → Type 0
AreShort [] = Unit {0}
AreShort (x ∷ rest) = (x.offset < 2 ^ 32) × (x.chunk < 2 ^ 31) × AreShort rest

-- a place is that of a hole, or 0 if there is none
abbrev pub IsPlaceOf : ℕ → Option Spot → Type 0
IsPlaceOf place None = place ≡ 0
IsPlaceOf place (Some x) = place ≡ place_at x.chunk x.offset
