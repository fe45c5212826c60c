-- Rows, their places and their slots.
use Rattle.std.proofs.Common.{◌≡◌, ◌≢◌, ℕ, suc, zero, ◌+◌, ◌*◌, ◌%◌, ◌^◌, ◌<◌, ◌≤◌, Bool, true, false, cond, List, [], ◌∷◌, ◌++◌, length, get_or, set, drop, refl, sym, ap, subst, ◌∙◌, arith, get_or-set_same, get_or-set_other, drop-cons, add-one, nat_le, inl, inr}
use Rattle.std.proofs.Math.Path.{PathP, to_path_p}
use Rattle.std.proofs.Props.{props}
use Rattle.std.proofs.lemmas.Bool.Decides.{nat_tests}
use Rattle.std.proofs.lemmas.Bool.{cases_lt}
use Rattle.std.proofs.lemmas.List.{length-map, length_push, get_or-map, get_or_read, drop_all}
use Rattle.std.proofs.lemmas.List.Sums.{sum_by_push, sum_by-cons}
use Rattle.std.specs.List.{filter, insert as insert_at, remove as remove_at}
use Rattle.std.specs.List.Sorted.{IsNonDecreasingBy, IsPartitionPoint}
use Rattle.region_map.specs.declared.region_span.RegionSpan.{RegionSpan}
use Rattle.region_map.specs.declared.row.RegionRow.{RegionRow}
use Rattle.region_map.specs.declared.rows.SlotData.{SlotData}
use Rattle.region_map.specs.RegionRows.{count_to}
use Rattle.region_map.specs.Places.{start_in, no_row, kept_in, row_at, rows_of, is_slot, times, named, IsSlot, AreStored}

-- proofs of one fact of two equal things are the same, where the fact has one proof at most
same_proof : (A : 𝕀 → Type 0) → ((x y : A 1) → x ≡ y) → (a : A 0) (b : A 1) → PathP A a b
same_proof A one a b = to_path_p A (one (coe 0 1 (k. A k) a) b)

-- rows with the same fields are the same
pub same_row : (a b : RegionRow) → a.start ≡ b.start → a.pages ≡ b.pages → a.ds ≡ b.ds → a.tag ≡ b.tag → a ≡ b
same_row a b start pages ds tag = λ i. record {
  start = start i;
  pages = pages i;
  ds = ds i;
  tag = tag i;
  aligned = same_proof (λ j. start j % 4096 ≡ 0) (hlevel props) a.aligned b.aligned i;
  some = same_proof (λ j. 1 ≤ pages j) (hlevel props) a.some b.some i;
  fits = same_proof (λ j. start j + pages j * 4096 < 2 ^ 63) (hlevel props) a.fits b.fits i;
}

-- ---- the rows of places

-- the row at an index is that of the place there
pub get_or-rows : (kept : List SlotData) (places : List RegionSpan) (at : ℕ) (d : RegionRow) (e : RegionSpan) → at < length places → get_or (rows_of kept places) at d ≡ row_at kept (get_or places at e)
get_or-rows kept [] at d e h = absurd (omega arith)
get_or-rows kept (place ∷ places) zero d e h = refl
get_or-rows kept (place ∷ places) (suc at) d e h = get_or-rows kept places at d e (omega arith)

pub drop-rows : (kept : List SlotData) (places : List RegionSpan) (at : ℕ) → rows_of kept (drop at places) ≡ drop at (rows_of kept places)
drop-rows kept places zero = refl
drop-rows kept [] (suc at) = refl
drop-rows kept (place ∷ places) (suc at) = drop-rows kept places at

pub insert-rows : (kept : List SlotData) (places : List RegionSpan) (at : ℕ) (place : RegionSpan) → rows_of kept (insert_at places at place) ≡ insert_at (rows_of kept places) at (row_at kept place)
insert-rows kept places zero place = refl
insert-rows kept [] (suc at) place = refl
insert-rows kept (p ∷ places) (suc at) place = ap (λ rows. row_at kept p ∷ rows) (insert-rows kept places at place)

pub remove-rows : (kept : List SlotData) (places : List RegionSpan) (at : ℕ) → rows_of kept (remove_at places at) ≡ remove_at (rows_of kept places) at
remove-rows kept [] zero = refl
remove-rows kept [] (suc at) = refl
remove-rows kept (p ∷ places) zero = refl
remove-rows kept (p ∷ places) (suc at) = ap (λ rows. row_at kept p ∷ rows) (remove-rows kept places at)

-- there are as many
pub length-rows : (kept : List SlotData) (places : List RegionSpan) → length (rows_of kept places) ≡ length places
length-rows kept places = length-map places (row_at kept)

-- the next of them
pub rows-next : (kept : List SlotData) (places : List RegionSpan) (at : ℕ) (place : RegionSpan) → at < length places → place ≡ get_or places at place → rows_of kept (drop at places) ≡ row_at kept place ∷ rows_of kept (drop (at + 1) places)
rows-next kept places at place h is =
    let next : drop at places ≡ get_or places at place ∷ drop (at + 1) places = rw add-one (drop-cons places at place h) in
    ap (rows_of kept) next ∙ ap (λ p. row_at kept p ∷ rows_of kept (drop (at + 1) places)) (sym is)

-- past the last there is none
pub rows-end : (kept : List SlotData) (places : List RegionSpan) (at : ℕ) → length places ≤ at → rows_of kept (drop at places) ≡ []
rows-end kept places at h = drop-rows kept places at ∙ drop_all at (rows_of kept places) (rw (length-rows kept places) h)

-- what parts the places by where they start is the count of the rows
pub count_is : (kept : List SlotData) (address i : ℕ) (places : List RegionSpan) → i ≤ length places → IsPartitionPoint (λ place. nat_le (start_in place) address ≡ true) (λ place. nat_le (start_in place) address ≡ false) places i → i ≡ count_to address (rows_of kept places)
unfolding count_to
count_is kept address i [] small at = omega arith
count_is kept address zero (place ∷ places) small at = ap (λ b. cond b (suc (count_to address (rows_of kept places))) 0) (sym (at.1 0 place (omega arith) (omega arith)))
count_is kept address (suc i) (place ∷ places) small at =
    let rest = count_is kept address i places (omega arith) (λ k d low high. at.0 (suc k) d (omega arith) (omega arith), λ k d low high. at.1 (suc k) d (omega arith) (omega arith)) in
    ap suc rest ∙ ap (λ b. cond b (suc (count_to address (rows_of kept places))) 0) (sym (at.0 0 place (omega arith) (omega arith)))

-- their starts rise where those of the places do
pub starts_rise : (kept : List SlotData) (places : List RegionSpan) → IsNonDecreasingBy (λ (row : RegionRow). row.start) (rows_of kept places) → IsNonDecreasingBy start_in places
starts_rise kept places rise i j d le h =
    let h' : j < length (rows_of kept places) = subst (λ n. j < n) (sym (length-map places (row_at kept))) h in
    let up = rise i j (row_at kept d) le h' in
    let low : i < length places = omega arith in
    subst (λ (r : RegionRow). r.start ≤ start_in (get_or places j d)) (get_or-map (row_at kept) places i d (row_at kept d) low)
    (subst (λ (r : RegionRow). (get_or (rows_of kept places) i (row_at kept d)).start ≤ r.start) (get_or-map (row_at kept) places j d (row_at kept d) h) up)

-- ---- slots

-- places that don't name a slot have the rows that they had before it was written
pub rows_of-set : (kept : List SlotData) (slot : ℕ) (k : SlotData) (places : List RegionSpan) → named slot places ≡ 0 → rows_of (set kept slot k) places ≡ rows_of kept places
rows_of-set kept slot k [] none = refl
rows_of-set kept slot k (place ∷ places) none =
    let more = sum_by-cons (λ p. is_slot slot p.slot) place places in
    let other : place.slot ≢ slot = λ same. let one : is_slot slot place.slot ≡ 1 = grind (arith, nat_tests) in absurd (omega arith) in
    let here : row_at (set kept slot k) place ≡ row_at kept place =
    let read = get_or-set_other kept slot place.slot k no_row other in
    same_row _ _ refl refl (ap (λ (x : SlotData). x.ds) read) (ap (λ (x : SlotData). x.tag) read) in
    λ i. here i ∷ rows_of-set kept slot k places (omega arith) i

-- a place names its slot
named_at : (places : List RegionSpan) (at : ℕ) (place : RegionSpan) → at < length places → place ≡ get_or places at place → 1 ≤ named place.slot places
named_at [] at place h is = absurd (omega arith)
named_at (p ∷ places) zero place h is =
    let more = sum_by-cons (λ (q : RegionSpan). is_slot place.slot q.slot) p places in
    let same : place.slot ≡ p.slot = ap (λ (q : RegionSpan). q.slot) is in
    let one : is_slot place.slot p.slot ≡ 1 = grind (arith, nat_tests) in
    omega arith
named_at (p ∷ places) (suc at) place h is =
    let more = sum_by-cons (λ (q : RegionSpan). is_slot place.slot q.slot) p places in
    let rest = named_at places at place (omega arith) is in
    omega arith

module _ (places : List RegionSpan) (kept : List SlotData) (free : List ℕ) (capacity kept_room free_room at : ℕ) (place : RegionSpan) (is : AreStored places kept free capacity kept_room free_room) (among : at < length (rows_of kept places)) (at_place : place ≡ get_or places at place) where
  below : at < length places
  below = subst (λ n. at < n) (length-rows kept places) among

  -- the slot of a place is there
  pub slot_there : place.slot < length kept
  slot_there =
      let once = named_at places at place below at_place in
      is.there place.slot (omega arith)

  -- a row of what is read at the place and in its slot is the row
  pub read_row : (k : SlotData) (row : RegionRow) → k ≡ get_or kept place.slot k → row.start ≡ start_in place → row.pages ≡ place.pages → row.ds ≡ k.ds → row.tag ≡ k.tag → (d : RegionRow) → row ≡ get_or (rows_of kept places) at d
  read_row k row at_slot start pages ds tag d =
      let read : k ≡ kept_in kept place.slot = get_or_read kept place.slot k slot_there at_slot no_row in
      same_row row (row_at kept place) start pages (ds ∙ ap (λ (x : SlotData). x.ds) read) (tag ∙ ap (λ (x : SlotData). x.tag) read)
      ∙ ap (row_at kept) at_place ∙ sym (get_or-rows kept places at d place below)

-- what a slot keeps stays when another is made
kept_in-more : (kept : List SlotData) (slot : ℕ) → slot ≢ length kept → kept_in (kept ++ no_row ∷ []) slot ≡ kept_in kept slot
kept_in-more [] zero other = absurd (other refl)
kept_in-more [] (suc slot) other = refl
kept_in-more (k ∷ kept) zero other = refl
kept_in-more (k ∷ kept) (suc slot) other = kept_in-more kept slot (λ same. other (ap suc same))

-- so do the rows of places that don't name it
rows_of-more : (kept : List SlotData) (places : List RegionSpan) → named (length kept) places ≡ 0 → rows_of (kept ++ no_row ∷ []) places ≡ rows_of kept places
rows_of-more kept [] none = refl
rows_of-more kept (place ∷ places) none =
    let more = sum_by-cons (λ (p : RegionSpan). is_slot (length kept) p.slot) place places in
    let other : place.slot ≢ length kept = λ same. let one : is_slot (length kept) place.slot ≡ 1 = grind (arith, nat_tests) in absurd (omega arith) in
    let read = kept_in-more kept place.slot other in
    let here : row_at (kept ++ no_row ∷ []) place ≡ row_at kept place = same_row _ _ refl refl (ap (λ (x : SlotData). x.ds) read) (ap (λ (x : SlotData). x.tag) read) in
    λ i. here i ∷ rows_of-more kept places (omega arith) i

-- a slot that is taken is there, no place names it, and the rows are as they were
pub record IsTaken (places : List RegionSpan) (kept : List SlotData) (slot : ℕ) (kept' : List SlotData) : Type 0 where
  pub there : slot < length kept'
  pub none : named slot places ≡ 0
  pub rows : rows_of kept' places ≡ rows_of kept places

-- whether it was free or is new
pub taken : (places : List RegionSpan) (kept : List SlotData) (free : List ℕ) (capacity kept_room free_room slot : ℕ) (kept' : List SlotData) (free' : List ℕ) → AreStored places kept free capacity kept_room free_room → IsSlot kept free slot kept' free' → IsTaken places kept slot kept'
taken places kept free capacity kept_room free_room slot kept' free' is slot_is =
    elim slot_is [
      | inl was ↦
          let one : is_slot slot slot ≡ 1 = grind (arith, nat_tests) in
          let times_is : times slot free ≡ times slot free' + is_slot slot slot = ap (times slot) was.0 ∙ sum_by_push (is_slot slot) free' slot in
          let once = is.once slot in
          let there = is.there slot (omega arith) in
          let long = ap length was.1 in
          record { there = omega arith; none = omega arith; rows = ap (λ k. rows_of k places) was.1 }
      | inr new ↦
          let more = new.3 in
          let long : length kept' ≡ length kept + 1 = ap length more ∙ length_push kept no_row in
          let here = new.2 in
          let none : named slot places ≡ 0 =
          elim (cases_lt 0 (named slot places)) [
            | inl some ↦ let there = is.there slot (omega arith) in absurd (omega arith)
            | inr few ↦ omega arith
          ] in
          record { there = omega arith; none = none; rows = ap (λ k. rows_of k places) more ∙ rows_of-more kept places (subst (λ n. named n places ≡ 0) here none) }
    ]

-- with the rest of a row in a free slot, and its place among the others, the row is among theirs
pub inserted : (kept : List SlotData) (places : List RegionSpan) (at slot : ℕ) (place : RegionSpan) (row : RegionRow) → start_in place ≡ row.start → place.pages ≡ row.pages → place.slot ≡ slot → slot < length kept → named slot places ≡ 0 → rows_of (set kept slot (record { ds = row.ds; tag = row.tag })) (insert_at places at place) ≡ insert_at (rows_of kept places) at row
inserted kept places at slot place row start pages slot_is within none =
    let k : SlotData = record { ds = row.ds; tag = row.tag } in
    let read : kept_in (set kept slot k) place.slot ≡ k = ap (kept_in (set kept slot k)) slot_is ∙ get_or-set_same kept slot k no_row within in
    let here : row_at (set kept slot k) place ≡ row = same_row _ _ start pages (ap (λ (x : SlotData). x.ds) read) (ap (λ (x : SlotData). x.tag) read) in
    insert-rows (set kept slot k) places at place
    ∙ ap (λ rows. insert_at rows at (row_at (set kept slot k) place)) (rows_of-set kept slot k places none)
    ∙ ap (insert_at (rows_of kept places) at) here

-- ---- all but some

-- what fails the test goes, and the others stay
pub filter-without : (keep : RegionRow → Bool) (at : ℕ) (rows : List RegionRow) (row : RegionRow) → at < length rows → row ≡ get_or rows at row → keep row ≡ false → filter keep (remove_at rows at) ≡ filter keep rows
filter-without keep at [] row h is fails = absurd (omega arith)
filter-without keep zero (r ∷ rows) row h is fails = sym (ap (λ b. cond b (r ∷ filter keep rows) (filter keep rows)) (ap keep (sym is) ∙ fails))
filter-without keep (suc at) (r ∷ rows) row h is fails = ap (λ rest. cond (keep r) (r ∷ rest) rest) (filter-without keep at rows row (omega arith) is fails)

-- what was behind it is there
pub drop-without : (at : ℕ) (rows : List RegionRow) → at < length rows → drop at (remove_at rows at) ≡ drop (suc at) rows
drop-without at [] h = absurd (omega arith)
drop-without zero (r ∷ rows) h = refl
drop-without (suc at) (r ∷ rows) h = drop-without at rows (omega arith)

-- one more in front that passes
pub filter-kept : (keep : RegionRow → Bool) (row : RegionRow) (rows : List RegionRow) → keep row ≡ true → filter keep rows ≡ rows → filter keep (row ∷ rows) ≡ row ∷ rows
filter-kept keep row rows passes is = ap (λ b. cond b (row ∷ filter keep rows) (filter keep rows)) passes ∙ ap (λ rest. row ∷ rest) is
