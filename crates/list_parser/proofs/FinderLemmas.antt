-- The first place at which a test passes, by what is known of the places before.
use Rattle.std.proofs.Common.{◌≡◌, ℕ, zero, suc, ◌+◌, ◌<◌, ◌≤◌, Bool, true, false, not, ◌⊎◌, List, [], ◌∷◌, length, get_or, replicate, slice_index_or, slice_set, inl, inr, Some, None, ap, subst, refl, sym, ◌∙◌, arith}
use Rattle.std.specs.List.{position, prefix_len, slice_get}
use Rattle.std.specs.Str.{bytes_eq}
use Rattle.std.proofs.lemmas.Bool.{false_from_ne_true, cases_eq, cases_lt}
use Rattle.std.proofs.lemmas.Grind.{elements}
use Rattle.std.proofs.lemmas.List.{get_or-replicate, get_or-set_other, get_or-set_same, get_or_past, length-replicate}
use Rattle.std.specs.Option.{option_map}
use Rattle.std.proofs.lemmas.Option.{same_Some}
use Rattle.std.proofs.lemmas.Slice.Eq.{bytes_eq-Decides}
use Rattle.own_model.specs.Listed.{ListedEntry}
use Rattle.list_parser.specs.PathIndex.{AreFirst, StandThere, kind_of}

-- no place before one passes
abbrev pub NoneBefore : {X : Type 0} → (X → Bool) → List X → ℕ → Type 0
NoneBefore {X} p xs n = (k : ℕ) (x : X) → k < n → slice_get xs k ≡ Some x → p x ≡ false

-- so many places stand before the first
places_before : {X : Type 0} (p : X → Bool) (xs : List X) (n : ℕ) (x : X) → NoneBefore p xs n →
    slice_get xs n ≡ Some x → p x ≡ true → (prefix_len (λ y. not (p y)) xs ≡ n) × (n < length xs)
places_before p [] n x none there passes = cc there
places_before p (y ∷ xs) zero x none there passes =
    let here : p y ≡ true = cc (there, passes) in
    (rw here refl, omega arith)
places_before p (y ∷ xs) (suc n) x none there passes =
    let first : p y ≡ false = none 0 y (omega arith) refl in
    let rest = places_before p xs n x (λ k z less at. none (suc k) z (omega (arith, less)) at) there passes in
    (rw first (omega (arith, rest.0)), omega (arith, rest.1))

-- it is found
pub found_at : {X : Type 0} (p : X → Bool) (xs : List X) (n : ℕ) (x : X) → NoneBefore p xs n →
    slice_get xs n ≡ Some x → p x ≡ true → position p xs ≡ Some n
found_at p xs n x none there passes =
    let before = places_before p xs n x none there passes in
    grind (arith, before.0, before.1)

-- where no place passes, none is found
all_before : {X : Type 0} (p : X → Bool) (xs : List X) → NoneBefore p xs (length xs) → prefix_len (λ y. not (p y)) xs ≡ length xs
all_before p [] none = refl
all_before p (y ∷ xs) none =
    let first : p y ≡ false = none 0 y (omega arith) refl in
    rw first (omega (arith, all_before p xs (λ k z less at. none (suc k) z (omega (arith, less)) at)))

pub found_nowhere : {X : Type 0} (p : X → Bool) (xs : List X) → NoneBefore p xs (length xs) → position p xs ≡ None
found_nowhere p xs none = grind (arith, all_before p xs none)

-- ---- paths

-- no entry before the first place of a path's kind has the path
pub none_of_kind : (firsts : List ℕ) (entries : List ListedEntry) (path : List ℕ) → AreFirst firsts entries →
    NoneBefore (λ entry. bytes_eq entry.path path) entries (get_or firsts (kind_of path) 0)
none_of_kind firsts entries path first k entry less there =
    false_from_ne_true _ (λ same. let is : entry.path ≡ path = (bytes_eq-Decides entry.path path).0 same in
    let behind : get_or firsts (kind_of entry.path) 0 ≤ k = first.sooner k entry there in
    let same_kind : kind_of entry.path ≡ kind_of path = ap kind_of is in
    absurd (omega (arith, less, subst (λ kind. get_or firsts kind 0 ≤ k) same_kind behind)))

-- none of the entries so far stands before the first place of its kind
abbrev pub AreFirstOf : List ℕ → List ListedEntry → ℕ → Type 0
AreFirstOf firsts entries n = (place : ℕ) (entry : ListedEntry) → place < n → slice_get entries place ≡ Some entry →
    slice_index_or firsts (kind_of entry.path) 0 ≤ place

-- so it is with one entry more, once no place behind it is the first of its kind
pub first_next : (firsts : List ℕ) (entries : List ListedEntry) (n : ℕ) (entry : ListedEntry) (least : ℕ) →
    slice_get entries n ≡ Some entry → kind_of entry.path < length firsts →
    least ≤ slice_index_or firsts (kind_of entry.path) 0 → least ≤ n →
    AreFirstOf firsts entries n → AreFirstOf (slice_set firsts (kind_of entry.path) least) entries (n + 1)
first_next firsts entries n entry least there within kept now before place other less at =
    elim (cases_eq (kind_of other.path) (kind_of entry.path)) [
      | inl same ↦
          let kind = kind_of entry.path in
          let now_kept : least ≤ slice_index_or firsts (kind_of other.path) 0
          = subst (λ k. least ≤ slice_index_or firsts k 0) (sym same) kept in
          let bound : least ≤ place = elim (cases_lt place n) [
            | inl sooner ↦ omega (arith, now_kept, before place other sooner at)
            | inr later ↦ omega (arith, now, later)
          ] in
          let here : slice_index_or (slice_set firsts kind least) kind 0 ≡ least = grind (arith, elements, within) in
          subst (λ k. slice_index_or (slice_set firsts kind least) k 0 ≤ place) (sym same) (omega (arith, here, bound))
      | inr apart ↦
          let kept_there : slice_index_or (slice_set firsts (kind_of entry.path) least) (kind_of other.path) 0
          ≡ slice_index_or firsts (kind_of other.path) 0 = grind (arith, elements, apart) in
          elim (cases_lt place n) [
            | inl sooner ↦ omega (arith, kept_there, before place other sooner at)
            | inr later ↦
                let is : place ≡ n = omega (arith, less, later) in
                let one : Some other ≡ Some entry = sym at ∙ ap (slice_get entries) is ∙ there in
                absurd (apart (ap (λ e. kind_of e.path) (same_Some _ _ one)))
          ]
    ]

-- before the first entry no place is one
pub none_there : (entries : List ListedEntry) → StandThere (replicate 1024 32) entries
none_there entries kind small = elim (cases_lt kind 1024) [
  | inl below ↦ absurd (omega (arith, small, get_or-replicate {A = ℕ} 1024 kind 32 32 below))
  | inr past ↦ absurd (omega (arith, small, get_or_past {X = ℕ} (replicate 1024 32) kind 32 (omega (arith, past, length-replicate {A = ℕ} 1024 32))))
]

-- an entry of its kind stands at each place that is one
pub there_next : (firsts : List ℕ) (entries : List ListedEntry) (n : ℕ) (entry : ListedEntry) (least : ℕ) →
    slice_get entries n ≡ Some entry → kind_of entry.path < length firsts →
    (least ≡ get_or firsts (kind_of entry.path) 32) ⊎ (least ≡ n) →
    StandThere firsts entries → StandThere (slice_set firsts (kind_of entry.path) least) entries
there_next firsts entries n entry least there within is before kind small =
    let set = slice_set firsts (kind_of entry.path) least in
    elim (cases_eq kind (kind_of entry.path)) [
      | inl same ↦
          let here : get_or set kind 32 ≡ least = subst (λ k. get_or set k 32 ≡ least) (sym same) (get_or-set_same firsts (kind_of entry.path) least 32 within) in
          let stands : option_map (λ e. kind_of e.path) (slice_get entries least) ≡ Some kind = elim is [
            | inl kept ↦
                let old : get_or firsts kind 32 ≡ least = ap (λ k. get_or firsts k 32) same ∙ sym kept in
                subst (λ at. option_map (λ e. kind_of e.path) (slice_get entries at) ≡ Some kind) old
                (before kind (subst (λ at. at < 32) (here ∙ sym old) small))
            | inr now ↦ ap (λ at. option_map (λ e. kind_of e.path) (slice_get entries at)) now ∙ ap (option_map (λ e. kind_of e.path)) there ∙ ap Some (sym same)
          ] in
          ap (λ at. option_map (λ e. kind_of e.path) (slice_get entries at)) here ∙ stands
      | inr apart ↦
          let kept : get_or set kind 32 ≡ get_or firsts kind 32 = get_or-set_other firsts (kind_of entry.path) kind least 32 apart in
          ap (λ at. option_map (λ e. kind_of e.path) (slice_get entries at)) kept ∙ before kind (subst (λ at. at < 32) kept small)
    ]

-- with one place more, which doesn't pass
pub none_next : {X : Type 0} (p : X → Bool) (xs : List X) (n : ℕ) (x : X) → slice_get xs n ≡ Some x → p x ≡ false →
    NoneBefore p xs n → NoneBefore p xs (n + 1)
none_next p xs n x there fails before k y less at =
    elim (cases_lt k n) [
      | inl sooner ↦ before k y sooner at
      | inr later ↦
          let is : k ≡ n = omega (arith, less, later) in
          let one : Some y ≡ Some x = sym at ∙ ap (slice_get xs) is ∙ there in
          ap p (same_Some _ _ one) ∙ fails
    ]
