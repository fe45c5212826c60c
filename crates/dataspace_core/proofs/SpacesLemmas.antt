-- Dataspaces and their starts, read as one slab.
use Rattle.std.proofs.Common.{◌≡◌, ◌≢◌, ◌⊎◌, inl, inr, ℕ, zero, suc, ◌+◌, ◌-◌, ◌<◌, ◌≤◌, true, false, cond, max, min, nat_le, List, [], ◌∷◌, drop, length, get_or, set, Some, is_some, count_by, refl, sym, ap, subst, ◌∙◌, arith, get_or-set_other, true≢false, rules}
use Rattle.std.specs.Prelude.{Option, None}
use Rattle.std.specs.Option.{option_map, IsSome}
use Rattle.std.proofs.lemmas.Option.{none-some, same_Some}
use Rattle.std.proofs.lemmas.Bool.{cases_eq, le-leb, leb-true}
use Rattle.std.proofs.lemmas.Grind.{get_or_after_one}
use Rattle.std.proofs.lemmas.List.Sums.{sum_by-cons}
use Rattle.slab.specs.Slab.{Slab, ContainsKey, Updates, HasRoomFor, slab_len}
use Rattle.slab.specs.Slab as slab
use Rattle.dataspace_core.specs.Layout.{moved_down, HasMovedDown, NoneLiesIn}
use Rattle.dataspace_core.specs.Spaces.{placed_at, placed_slots, placed, IsPlaced, start_after, HaveMoved}
use Rattle.dataspace_core.specs.declared.dataspace.Dataspace.{Dataspace}
use Rattle.dataspace_core.specs.declared.page_runs.PageRun.{PageRun}
use Rattle.dataspace_core.specs.declared.spaces.DataspaceEntry.{DataspaceEntry}

-- ---- slots and starts

-- a slot, with the start at its place
get_or-placed : (slots : List (Option DataspaceEntry)) (starts : List ℕ) (key : ℕ) → get_or (placed_slots slots starts) key None ≡ option_map (placed_at (get_or starts key 0)) (get_or slots key None)
get_or-placed [] starts key = refl
get_or-placed (slot ∷ slots) starts zero = refl
get_or-placed (slot ∷ slots) starts (suc key) =
    get_or-placed slots (drop 1 starts) key
    ∙ ap (λ start. option_map (placed_at start) (get_or slots key None)) (get_or_after_one starts key 0 ∙ ap (λ k. get_or starts k 0) (omega arith))

-- whether there is a dataspace hangs on no start
is_some-placed : (start : ℕ) (slot : Option DataspaceEntry) → is_some (option_map (placed_at start) slot) ≡ is_some slot
is_some-placed start None = refl
is_some-placed start (Some kept) = refl

-- where something is kept there is its start
start_some : (start : ℕ) (slot : Option DataspaceEntry) → IsSome slot → option_map (λ (d : Dataspace). d.run.start) (option_map (placed_at start) slot) ≡ Some start
start_some start None there = absurd (true≢false (sym there))
start_some start (Some kept) there = refl

-- a dataspace of a known start
pub record StartsAt (o : Option Dataspace) (start : ℕ) : Type 0 where
  pub space : Dataspace
  pub there : o ≡ Some space
  pub same : space.run.start ≡ start

pub starts_at : (o : Option Dataspace) (start : ℕ) → option_map (λ (d : Dataspace). d.run.start) o ≡ Some start → StartsAt o start
starts_at None start is = absurd (none-some start is)
starts_at (Some space) start is = record { space = space; there = refl; same = same_Some space.run.start start is }

-- so there are as many
count-placed : (slots : List (Option DataspaceEntry)) (starts : List ℕ) → count_by is_some (placed_slots slots starts) ≡ count_by is_some slots
count-placed [] starts = refl
count-placed (slot ∷ slots) starts =
    let here = ap {B = ℕ} (λ b. cond b 1 0) (is_some-placed (get_or starts 0 0) slot) in
    let rest = count-placed slots (drop 1 starts) in
    sum_by-cons (λ o. cond (is_some o) 1 0) (option_map (placed_at (get_or starts 0 0)) slot) (placed_slots slots (drop 1 starts))
    ∙ ap {B = ℕ} (λ n. n + count_by is_some (placed_slots slots (drop 1 starts))) here
    ∙ ap {B = ℕ} (λ n. cond (is_some slot) 1 0 + n) rest
    ∙ sym (sum_by-cons (λ o. cond (is_some o) 1 0) slot slots)

-- ---- starts that move

module _ (from by key : ℕ) (old starts : List ℕ) (so_far : HaveMoved from by key old starts) (rest : (k : ℕ) → key ≤ k → get_or starts k 0 ≡ get_or old k 0) (within : key < length starts) (start : ℕ) (is : start ≡ start_after from by (get_or starts key 0)) where
  -- one more has moved
  pub HaveMoved-more : HaveMoved from by (key + 1) old (set starts key start)
  HaveMoved-more = search (rules, cases_eq)

  -- and those behind it have not
  pub rest-more : (k : ℕ) → key + 1 ≤ k → get_or (set starts key start) k 0 ≡ get_or old k 0
  rest-more k past = let differs : k ≢ key = omega arith in get_or-set_other starts key k start 0 differs ∙ rest k (omega arith)

-- those before an earlier key have moved too
pub HaveMoved-fewer : (from by fewer used : ℕ) (old starts : List ℕ) → fewer ≤ used → HaveMoved from by used old starts → HaveMoved from by fewer old starts
HaveMoved-fewer from by fewer used old starts less moved = record { size = moved.size; each = λ key below. moved.each key (omega (arith, below, less)) }

-- a start outside of the gap stays, or moves by the whole gap
start_closed : (from by start : ℕ) → (start ≤ from) ⊎ (from + by ≤ start) → start_after from by start ≡ cond (nat_le start from) start (start - by)
start_closed from by start (inl front) =
    let stays : start - min (start - from) by ≡ start = omega arith in
    stays ∙ sym (ap (λ b. cond b start (start - by)) (le-leb start from front))
start_closed from by start (inr behind) =
    elim (nat_le start from) as (λ b. nat_le start from ≡ b → start - min (start - from) by ≡ cond b start (start - by)) [
      | true ↦ λ e. let front = leb-true _ _ e in let stays : start - min (start - from) by ≡ start = omega arith in stays
      | false ↦ λ e. let moves : start - min (start - from) by ≡ start - by = omega arith in moves
    ] refl

-- ---- the slab

module _ (kept : Slab DataspaceEntry) (starts : List ℕ) where
  -- what stands under a key
  pub get-placed : (key : ℕ) → slab.get (placed kept starts) key ≡ option_map (placed_at (get_or starts key 0)) (slab.get kept key)
  get-placed key = get_or-placed kept.slots starts key

  -- and the start of what is kept
  pub start-placed : (key : ℕ) → ContainsKey kept key → option_map (λ (d : Dataspace). d.run.start) (slab.get (placed kept starts) key) ≡ Some (get_or starts key 0)
  start-placed key there = ap (option_map (λ (d : Dataspace). d.run.start)) (get-placed key) ∙ start_some (get_or starts key 0) (slab.get kept key) there

  -- where nothing is kept there is no dataspace
  pub get-placed_none : (key : ℕ) → slab.get kept key ≡ None → slab.get (placed kept starts) key ≡ None
  get-placed_none key none = get-placed key ∙ ap (option_map (placed_at (get_or starts key 0))) none

  -- where something is, there is one
  pub get-placed_some : (key : ℕ) (k : DataspaceEntry) → slab.get kept key ≡ Some k → slab.get (placed kept starts) key ≡ Some (placed_at (get_or starts key 0) k)
  get-placed_some key k there = get-placed key ∙ ap (option_map (placed_at (get_or starts key 0))) there

  -- a key that has a dataspace is kept
  pub kept_there : {value : Slab Dataspace} (key : ℕ) → placed kept starts ≡ value → ContainsKey value key → ContainsKey kept key
  kept_there key view there = sym (is_some-placed (get_or starts key 0) (slab.get kept key)) ∙ sym (ap is_some (get-placed key)) ∙ subst (λ (s : Slab Dataspace). ContainsKey s key) (sym view) there

  -- there is room for one more
  pub room_there : {value : Slab Dataspace} → placed kept starts ≡ value → HasRoomFor value 1 → HasRoomFor kept 1
  room_there view room = search (rules, count-placed)

  module _ (new : Slab DataspaceEntry) (used : ℕ) (is : IsPlaced kept starts used) (same : new.capacity ≡ kept.capacity) where
    -- a dataspace comes
    pub placed-inserted : (key start : ℕ) (k : DataspaceEntry) → Updates kept new key (Some k) → key < kept.capacity → Updates (placed kept starts) (placed new (set starts key start)) key (Some (placed_at start k))
    placed-inserted key start k updates within = search (rules, get_or-placed, get-placed)

    -- its start is kept too
    pub IsPlaced-inserted : (key start : ℕ) (k : DataspaceEntry) → Updates kept new key (Some k) → key < kept.capacity → (more : ℕ) → more ≡ max used (key + 1) → IsPlaced new (set starts key start) more
    IsPlaced-inserted key start k updates within more most = search (rules, cases_eq)

    -- a dataspace goes
    pub placed-removed : (key : ℕ) → Updates kept new key None → Updates (placed kept starts) (placed new starts) key None
    placed-removed key updates = search (rules, get_or-placed, get-placed)

    -- the others' starts stay
    pub IsPlaced-removed : (key : ℕ) → Updates kept new key None → IsPlaced new starts used
    IsPlaced-removed key updates = search (rules, cases_eq)

  -- the starts move
  module _ (used from by : ℕ) (is : IsPlaced kept starts used) (new_starts : List ℕ) (moved : HaveMoved from by used starts new_starts) where
    -- what stands under a key that is kept
    moved_at : (key : ℕ) (slot : Option DataspaceEntry) → slab.get kept key ≡ slot → (gap : PageRun) → NoneLiesIn gap (placed kept starts) → from ≡ gap.start → by ≡ gap.count → option_map (placed_at (get_or new_starts key 0)) slot ≡ option_map (moved_down gap) (option_map (placed_at (get_or starts key 0)) slot)
    moved_at key None there gap clear start count = refl
    moved_at key (Some k) there gap clear start count =
        ap (λ s. Some (placed_at s k))
        (moved.each key (is.below key (ap is_some there))
        ∙ ap (λ f. start_after f by (get_or starts key 0)) start
        ∙ ap (λ b. start_after gap.start b (get_or starts key 0)) count
        ∙ start_closed gap.start gap.count (get_or starts key 0) (clear key (placed_at (get_or starts key 0) k) (get-placed_some key k there)))

    pub placed-moved : (gap : PageRun) → NoneLiesIn gap (placed kept starts) → from ≡ gap.start → by ≡ gap.count → HasMovedDown gap (placed kept starts) (placed kept new_starts)
    placed-moved gap clear start count = record {
      each = λ key. get_or-placed kept.slots new_starts key ∙ moved_at key (slab.get kept key) refl gap clear start count ∙ ap (option_map (moved_down gap)) (sym (get-placed key));
    }

    pub IsPlaced-moved : IsPlaced kept new_starts used
    IsPlaced-moved = record { roomy = moved.size ∙ is.roomy; within = omega (arith, is.within, moved.size); below = is.below }
