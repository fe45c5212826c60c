-- What the slots hold, and what a change of one slot does to it.
use Rattle.std.proofs.Common.{◌≡◌, ℕ, zero, suc, ◌+◌, ◌-◌, ◌<◌, ◌≤◌, ◌^◌, true, true≢false, cond, eqb, List, [], ◌∷◌, length, replicate, get_or, ◌⊎◌, set, Some, is_some, IsSome, count_by, subst, refl, sym, ap, ◌∙◌, arith, inl, inr}
use Rattle.std.proofs.lemmas.Bool.{cases_eq, cases_lt}
use Rattle.std.proofs.lemmas.Bool.Decides.{nat_tests}
use Rattle.std.proofs.lemmas.List.{get_or-set_same, get_or-set_other, get_or-replicate, get_or_past, length-replicate, length-set}
use Rattle.std.proofs.lemmas.Option.{none-some}
use Rattle.std.proofs.lemmas.List.Folds.{sum_by-replicate}
use Rattle.std.proofs.lemmas.List.Sums.{sum_by-cons, sum_by-set, get_or-le-sum_by, count_by-le-length}
use Rattle.std.specs.Prelude.{Option, None}
use Rattle.std.specs.Ordering.{nat_cmp}
use Rattle.std.specs.FinMap.{get, insert, remove, empty, len}
use Rattle.own_model.specs.NatMap.{NatMap}
use Rattle.own_model.specs.OwnState.{new_selector}
use Rattle.own_model.proofs.NatMapLemmas.{same, get-insert, get-remove, get-empty}
use Rattle.own_model.proofs.NewSelector.{new_selector_is}
use Rattle.own_model.proofs.SlotLemmas.{get-held_from, get-held_from_below, len-held_from}
use Rattle.cap_space.specs.Slots.{padded, held, space_of, IsTakenBefore, IsKept}
use Rattle.cap_space.specs.PlaceBitmap.{mark_at, AreSummed, IsMarked}
use Rattle.cap_space.proofs.PaddedLemmas.{get_or-padded, length-padded}
use Rattle.cap_space.proofs.PlacesLemmas.{taken-full, IsLeast}
use Rattle.cap_space.specs.Space.{Space, fresh_space, with_cap, without_cap}
use Rattle.cap_space.specs.declared.cap.Cap.{Cap}

module _ {X : Type 0} where
  -- nothing has the selector 0
  pub get-held_zero : (slots : List (Option X)) (selector : ℕ) → selector ≡ 0 → get (held slots) selector ≡ None
  get-held_zero slots selector e = get-held_from_below 1 slots selector (omega arith)

  -- a positive selector has what its slot holds
  pub get-held : (slots : List (Option X)) (selector : ℕ) → 0 < selector → get (held slots) selector ≡ get_or slots (selector - 1) None
  get-held slots selector positive = get-held_from 1 slots (selector - 1) selector (omega arith)

  -- as much is held as slots are taken
  pub len-held : (slots : List (Option X)) → len (held slots) ≡ count_by is_some slots
  len-held slots = len-held_from 1 slots

  -- where none of so many places is free, at least so many are taken
  pub taken_le : (slots : List (Option X)) (end : ℕ) → IsTakenBefore slots end → end ≤ count_by is_some slots
  taken_le slots zero before = omega arith
  taken_le [] (suc end) before = absurd (true≢false (sym (before 0 (omega arith))))
  taken_le (slot ∷ rest) (suc end) before =
      let here : is_some slot ≡ true = before 0 (omega arith) in
      let later = taken_le rest end (λ place below. before (suc place) (omega arith)) in
      let one : cond (is_some slot) 1 0 ≡ 1 = ap {B = ℕ} (λ b. cond b 1 0) here in
      omega (arith, later, one, sum_by-cons (λ o. cond (is_some o) 1 0) slot rest)

  -- with the first free place the new selector is given
  pub new_selector-held : (slots : List (Option X)) (place : ℕ) → get_or slots place None ≡ None → IsTakenBefore slots place → new_selector (held slots) ≡ place + 1
  new_selector-held slots place free before =
      let at : place + 1 - 1 ≡ place = omega arith in
      new_selector_is (held slots) (place + 1) (omega arith) (rw at at (get-held slots (place + 1) (omega arith)) ∙ free) (λ t positive below.
      ap is_some (get-held slots t positive) ∙ before (t - 1) (omega arith))

  -- what a selector has once a slot was written
  pub get-held_set : (slots : List (Option X)) (place : ℕ) (slot : Option X) (q : ℕ) → place < length slots → get (held (set slots place slot)) q ≡ cond (eqb q (place + 1)) slot (get (held slots) q)
  get-held_set slots place slot q within = elim (cases_eq q 0) as (λ _. get (held (set slots place slot)) q ≡ cond (eqb q (place + 1)) slot (get (held slots) q)) [
    | inl none ↦ grind (arith, nat_tests, get-held_zero)
    | inr some ↦ elim (cases_eq (q - 1) place) as (λ _. get (held (set slots place slot)) q ≡ cond (eqb q (place + 1)) slot (get (held slots) q)) [
      | inl here ↦ grind (arith, nat_tests, get-held, get_or-set_same)
      | inr there ↦ grind (arith, nat_tests, get-held, get_or-set_other)
    ]
  ]

  -- to fill a slot is to insert
  pub held-set_some : (slots : List (Option X)) (place : ℕ) (x : X) → place < length slots → held (set slots place (Some x)) ≡ insert (held slots) (place + 1) x
  held-set_some slots place x within = same _ _ (λ q. get-held_set slots place (Some x) q within ∙ sym (get-insert (held slots) (place + 1) x q))

  -- to empty a slot is to remove
  pub held-set_none : (slots : List (Option X)) (place : ℕ) → place < length slots → held (set slots place None) ≡ remove (held slots) (place + 1)
  held-set_none slots place within = same _ _ (λ q. get-held_set slots place None q within ∙ sym (get-remove (held slots) (place + 1) q))

  -- free slots hold nothing
  pub held-replicate : (places : ℕ) → held {X = X} (replicate places None) ≡ empty
  held-replicate places = same _ _ (λ q. elim (cases_eq q 0) as (λ _. get (held {X = X} (replicate places None)) q ≡ get (empty {R = nat_cmp}) q) [
    | inl none ↦ grind (arith, get-held_zero, get-empty)
    | inr some ↦ grind (arith, get-held, get-empty, get_or-replicate, get_or_past, length-replicate, cases_lt (q - 1) places)
  ])

  -- a slot that is taken is within, and counts
  taken_within : (slots : List (Option X)) (place : ℕ) (x : X) → get_or slots place None ≡ Some x → (place < length slots) × (1 ≤ count_by is_some slots)
  taken_within slots place x there = elim (cases_lt place (length slots)) as (λ _. (place < length slots) × (1 ≤ count_by is_some slots)) [
    | inl below ↦
        let one : cond (is_some (get_or slots place None)) 1 0 ≡ 1 = ap {B = ℕ} (λ o. cond (is_some o) 1 0) there in
        (below, omega (arith, one, get_or-le-sum_by (λ o. cond (is_some o) 1 0) slots place None below))
    | inr past ↦ absurd (none-some x (sym (get_or_past slots place None past) ∙ there))
  ]

  -- to empty the slot of a selector in use is to count one less
  pub count-vacated : (slots : List (Option X)) (selector : ℕ) → IsSome (get (held slots) selector) → 0 < selector → selector - 1 < length slots → count_by is_some (set slots (selector - 1) None) + 1 ≡ count_by is_some slots
  count-vacated slots selector taken positive within =
      let one : cond (is_some (get_or slots (selector - 1) None)) 1 0 ≡ 1 = ap {B = ℕ} (λ b. cond b 1 0) (ap is_some (sym (get-held slots selector positive)) ∙ taken) in
      omega (arith, one, sum_by-set (λ o. cond (is_some o) 1 0) slots (selector - 1) None None within)

  -- to fill a free slot is to count one more
  pub count-filled : (slots : List (Option X)) (place : ℕ) (x : X) → place < length slots → get_or slots place None ≡ None → count_by is_some (set slots place (Some x)) ≡ count_by is_some slots + 1
  count-filled slots place x within free =
      let none : cond (is_some (get_or slots place None)) 1 0 ≡ 0 = ap {B = ℕ} (λ o. cond (is_some o) 1 0) free in
      omega (arith, none, sum_by-set (λ o. cond (is_some o) 1 0) slots place (Some x) None within)

  -- a selector has nothing, or a place that is taken. The first part gives `grind` the term to match
  pub held_cases : (slots : List (Option X)) (selector : ℕ) → (get (held slots) selector ≡ get (held slots) selector) × ((get (held slots) selector ≡ None) ⊎ ((1 ≤ selector) × (selector - 1 < length slots) × (1 ≤ count_by is_some slots)))
  held_cases slots selector = (
    refl,
    elim (cases_lt 0 selector) [
      | inl positive ↦ elim (get_or slots (selector - 1) None) as (λ o. get_or slots (selector - 1) None ≡ o → (get (held slots) selector ≡ None) ⊎ ((1 ≤ selector) × (selector - 1 < length slots) × (1 ≤ count_by is_some slots))) [
        | None ↦ λ free. inl (get-held slots selector positive ∙ free)
        | Some x ↦ λ there. let within = taken_within slots (selector - 1) x there in inr (omega arith, within.0, within.1)
      ] refl
      | inr low ↦ inl (get-held_zero slots selector (omega arith))
    ],
  )

  -- a selector in use has a place
  pub in_use : (slots : List (Option X)) (selector : ℕ) → IsSome (get (held slots) selector) → (0 < selector) × (selector - 1 < length slots)
  in_use slots selector taken = elim ((held_cases slots selector).1) [
    | inl free ↦ absurd (true≢false (sym taken ∙ ap is_some free))
    | inr at ↦ (omega (arith, at.0), at.1)
  ]

  -- no more are taken than there are
  pub held_le : (slots : List (Option X)) → count_by is_some slots ≤ length slots
  held_le slots = count_by-le-length is_some slots

-- the equations by which `grind` reads slots
pub ruleset slots = (nat_tests, get-held_zero, get-held, get_or-padded, len-held, new_selector-held, held-replicate, held_cases, held_le)

-- ---- the space that the slots keep

-- a place has the mark and the slot that were written, or is another, with the mark and the slot that it had
marks-set : (slots : List (Option Cap)) (place : ℕ) (slot : Option Cap) → place < length slots → (capacity used : ℕ) (words new_words : List ℕ) (mark : ℕ) → IsKept slots capacity words used → IsMarked words new_words place mark → (other : ℕ) → ((mark_at new_words other ≡ mark) × (get_or (set slots place slot) other None ≡ slot)) ⊎ ((mark_at new_words other ≡ mark_at words other) × (get_or (set slots place slot) other None ≡ get_or slots other None))
marks-set slots place slot within capacity used words new_words mark kept marked other = elim (cases_eq other place) [
  | inl same ↦ inl (ap (mark_at new_words) same ∙ marked.here, ap (λ p. get_or (set slots place slot) p None) same ∙ get_or-set_same slots place slot None within)
  | inr differs ↦ inr (marked.others other differs, get_or-set_other slots place other slot None differs)
]

-- spaces that agree in each part are equal
same_space : {m n : NatMap Cap} {places more : ℕ} → m ≡ n → places ≡ more → ◌≡◌ {A = Space} (record { caps = m; places = places }) (record { caps = n; places = more })
same_space caps places i = record { caps = caps i; places = places i }

-- free slots are an empty space
pub space_fresh : (slots : List (Option Cap)) (places : ℕ) → slots ≡ replicate places None → space_of slots ≡ fresh_space places
space_fresh slots places free = same_space (ap held free ∙ held-replicate places) (ap length free ∙ length-replicate places None)

-- so no slot is taken
pub kept_fresh : (slots : List (Option Cap)) (capacity : ℕ) (words : List ℕ) → slots ≡ replicate capacity None → capacity ≤ 4096 → ((place : ℕ) → mark_at words place ≡ 0) → IsKept slots capacity words 0
kept_fresh slots capacity words fresh few free =
    let long : length slots ≡ capacity = ap length fresh ∙ length-replicate capacity None in
    record {
      reserved = sym long;
      few = omega (arith, few, long);
      taken = λ place bit. absurd (omega (arith, bit, free place));
      free = λ place bit. ap (λ s. get_or s place None) fresh ∙ grind (arith, get_or-replicate, get_or_past, length-replicate, cases_lt place capacity);
      counted = ap (count_by is_some) fresh ∙ omega (arith, sum_by-replicate (λ (o : Option Cap). cond (is_some o) 1 0) capacity None);
    }

module _ (slots : List (Option Cap)) (space : Space) (keeps : space_of slots ≡ space) where
  -- a place is free where the space has room
  pub has_room : len space.caps < space.places → count_by is_some slots < length slots
  has_room room = rw (len-held slots) at (subst (λ (s : Space). len s.caps < s.places) (sym keeps) room)

  -- a slot that is filled
  pub space_filled : (place : ℕ) (cap : Cap) → place < length slots → space_of (set slots place (Some cap)) ≡ with_cap space (place + 1) cap
  space_filled place cap within =
      same_space (held-set_some slots place cap within ∙ ap (λ s. insert s.caps (place + 1) cap) keeps) (length-set slots place (Some cap) ∙ ap (λ s. s.places) keeps)

  module _ (selector : ℕ) (taken : IsSome (get space.caps selector)) where
    -- the selector has a slot, which is taken
    here : IsSome (get (held slots) selector)
    here = subst (λ (s : Space). IsSome (get s.caps selector)) (sym keeps) taken

    -- where it is emptied
    pub space_emptied : space_of (set slots (selector - 1) None) ≡ without_cap space selector
    space_emptied =
        let at = in_use slots selector here in
        let number : selector - 1 + 1 ≡ selector = omega (arith, at.0) in
        same_space (held-set_none slots (selector - 1) at.1 ∙ ap (remove (held slots)) number ∙ ap (λ s. remove s.caps selector) keeps)
        (length-set slots (selector - 1) None ∙ ap (λ s. s.places) keeps)

    -- the slots are kept so
    pub kept_emptied : (capacity used : ℕ) (words new_words : List ℕ) → IsKept slots capacity words used → IsMarked words new_words (selector - 1) 0 → IsKept (set slots (selector - 1) None) capacity new_words (used - 1)
    kept_emptied capacity used words new_words kept marked =
        let at = in_use slots selector here in
        let same = length-set slots (selector - 1) None in
        let marks = marks-set slots (selector - 1) None at.1 capacity used words new_words 0 kept marked in
        record {
          reserved = kept.reserved ∙ sym same;
          few = omega (arith, same, kept.few);
          taken = λ place bit. elim (marks place) [
            | inl there ↦ absurd (omega (arith, there.0, bit))
            | inr other ↦ ap is_some other.1 ∙ kept.taken place (sym other.0 ∙ bit)
          ];
          free = λ place bit. elim (marks place) [
            | inl there ↦ there.1
            | inr other ↦ other.1 ∙ kept.free place (sym other.0 ∙ bit)
          ];
          counted = omega (arith, count-vacated slots selector here at.0 at.1, kept.counted);
        }

-- the slot of a selector in use has been in use
pub vacated_within : (slots : List (Option Cap)) (places : ℕ) (space : Space) → space_of (padded slots places) ≡ space → (selector : ℕ) → IsSome (get space.caps selector) → selector - 1 < length slots
vacated_within slots places space keeps selector taken =
    let held_there : IsSome (get (held (padded slots places)) selector) = subst (λ (s : Space). IsSome (get s.caps selector)) (sym keeps) taken in
    let at = in_use (padded slots places) selector held_there in
    let some : is_some (get_or slots (selector - 1) None) ≡ true = ap is_some (sym (get-held (padded slots places) selector at.0 ∙ get_or-padded slots places (selector - 1))) ∙ held_there in
    elim (cases_lt (selector - 1) (length slots)) as (λ _. selector - 1 < length slots) [
      | inl below ↦ below
      | inr past ↦ absurd (true≢false (sym some ∙ ap is_some (get_or_past slots (selector - 1) None past)))
    ]

-- ---- the least free place

module _ (slots : List (Option Cap)) (capacity used : ℕ) (words : List ℕ) (full : ℕ) (kept : IsKept slots capacity words used) (summed : AreSummed words full) (room : count_by is_some slots < length slots) where
  -- some word isn't full
  pub room_above : full < 2 ^ 64 → full + 1 < 2 ^ 64
  room_above fits = elim (cases_eq (full + 1) (2 ^ 64)) as (λ _. full + 1 < 2 ^ 64) [
    | inl all ↦ absurd (omega (arith, kept.few, room, taken_le slots (length slots) (λ place below. kept.taken place (taken-full words full summed all place (omega (arith, kept.few))))))
    | inr some ↦ omega arith
  ]

  module _ (place : ℕ) (least : IsLeast words full summed place) where
    -- none before it is free
    pub taken_before : IsTakenBefore slots place
    taken_before other before = kept.taken other (least.first other before)

    -- it is one of the places
    pub least_within : place < length slots
    least_within = elim (cases_lt place (length slots)) as (λ _. place < length slots) [
      | inl below ↦ below
      | inr past ↦ absurd (omega (arith, room, taken_le slots (length slots) (λ other before. taken_before other (omega arith))))
    ]

    -- and when it is filled the slots are kept so
    pub kept_filled : (cap : Cap) (new_words : List ℕ) → IsMarked words new_words place 1 → IsKept (set slots place (Some cap)) capacity new_words (used + 1)
    kept_filled cap new_words marked =
        let same = length-set slots place (Some cap) in
        let marks = marks-set slots place (Some cap) least_within capacity used words new_words 1 kept marked in
        record {
          reserved = kept.reserved ∙ sym same;
          few = omega (arith, same, kept.few);
          taken = λ other bit. elim (marks other) [
            | inl there ↦ ap is_some there.1
            | inr apart ↦ ap is_some apart.1 ∙ kept.taken other (sym apart.0 ∙ bit)
          ];
          free = λ other bit. elim (marks other) [
            | inl there ↦ absurd (omega (arith, there.0, bit))
            | inr apart ↦ apart.1 ∙ kept.free other (sym apart.0 ∙ bit)
          ];
          counted = omega (arith, count-filled slots place cap least_within (kept.free place least.free), kept.counted);
        }
