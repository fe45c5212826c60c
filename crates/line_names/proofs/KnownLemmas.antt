-- What is known, binding by binding.
use Rattle.std.proofs.Common.{◌≡◌, ℕ, ◌+◌, ◌-◌, ◌<◌, ◌≤◌, ◌||◌, Bool, true, false, cond, nat_eq, slice_index, List, [], ◌∷◌, ◌++◌, length, take, drop, map, get_or, Option, Some, None, refl, sym, ap, ◌∙◌, subst, arith, add-one, length-append, suc}
use Rattle.std.proofs.Math.Seq.{drop-cons, take-suc}
use Rattle.std.proofs.lemmas.Bool.Decides.{nat_tests}
use Rattle.std.proofs.lemmas.List.{drop_all, map-append}
use Rattle.std.specs.List.{take-map}
use Rattle.std.specs.Option.{option_or}
use Rattle.std.specs.Str.{bytes_eq}
use Rattle.line_friendly.specs.Expected.{meets, matched_by}
use Rattle.line_names.specs.Bindings.{binding_of, known_in}
use Rattle.line_names.specs.Filling.{BoundName, is_among}
use Rattle.line_names.specs.NameTable.{Binding, NameTable, left, newest, with_bound}
use Rattle.line_names.specs.Learning.{learnt, learnt_of}
use Rattle.line_names.specs.Views.{filled_view, hole_view}
use Rattle.line_names.specs.declared.filling.FilledLine.{FilledLine as Line}
use Rattle.line_names.specs.declared.bound_names.BoundName.{BoundName as Star}
use Rattle.line_names.specs.declared.name_table.Binding.{Binding as Bound}

-- ---- the newest of a name

or_none : (x : Option (List ℕ)) → option_or None x ≡ option_or x None
or_none None = refl
or_none (Some v) = refl

or_both : (x y z : Option (List ℕ)) → option_or (option_or x y) z ≡ option_or x (option_or y z)
or_both None y z = refl
or_both (Some v) y z = refl

-- what one binding tells of a name
abbrev pub told : List ℕ → Binding → Option (List ℕ)
told name b = cond (bytes_eq b.name name) (Some b.value) None

pub newest_last : (name : List ℕ) (bs : List Binding) (b : Binding) → newest name (bs ++ b ∷ []) ≡ option_or (told name b) (newest name bs)
newest_last name [] b = or_none (told name b)
newest_last name (x ∷ xs) b = ap (λ o. option_or o (told name x)) (newest_last name xs b) ∙ or_both (told name b) (newest name xs) (told name x)

newest_at : (name : List ℕ) (bs : List Bound) (at : ℕ) (b : Bound) → at < length bs → get_or bs at b ≡ b →
    newest name (map binding_of (take (at + 1) bs)) ≡ option_or (told name (binding_of b)) (newest name (map binding_of (take at bs)))
newest_at name bs at b within is =
    let more : take (at + 1) bs ≡ take at bs ++ b ∷ [] = rw (add-one, take-suc bs at b within, is) refl in
    ap (λ l. newest name (map binding_of l)) more
    ∙ ap (newest name) (map-append binding_of (take at bs) (b ∷ []))
    ∙ newest_last name (map binding_of (take at bs)) (binding_of b)

pub newest_here : (name : List ℕ) (bs : List Bound) (before at : ℕ) (b : Bound) → before ≡ at + 1 → at < length bs → get_or bs at b ≡ b →
    bytes_eq b.name.items name ≡ true → newest name (map binding_of (take before bs)) ≡ Some b.value.items
newest_here name bs before at b one within is same =
    ap (λ n. newest name (map binding_of (take n bs))) one ∙ newest_at name bs at b within is
    ∙ ap (λ (t : Bool). option_or (cond t (Some b.value.items) None) (newest name (map binding_of (take at bs)))) same

pub newest_before : (name : List ℕ) (bs : List Bound) (before at : ℕ) (b : Bound) → before ≡ at + 1 → at < length bs → get_or bs at b ≡ b →
    bytes_eq b.name.items name ≡ false → newest name (map binding_of (take before bs)) ≡ newest name (map binding_of (take at bs))
newest_before name bs before at b one within is other =
    ap (λ n. newest name (map binding_of (take n bs))) one ∙ newest_at name bs at b within is
    ∙ ap (λ (t : Bool). option_or (cond t (Some b.value.items) None) (newest name (map binding_of (take at bs)))) other

pub ruleset newests = (newest_here, newest_before)

-- ---- rounds

-- what is last of a list, and what stands before it
last_at : (ns : List ℕ) (n : ℕ) → slice_index (ns ++ n ∷ []) (length ns) ≡ n
last_at [] n = refl
last_at (x ∷ ns) n = last_at ns n

front_at : (ns : List ℕ) (n : ℕ) → take (length ns) (ns ++ n ∷ []) ≡ ns
front_at [] n = refl
front_at (x ∷ ns) n = ap (λ l. x ∷ l) (front_at ns n)

one_less : (ns : List ℕ) (n : ℕ) → length (ns ++ n ∷ []) - 1 ≡ length ns
one_less ns n = simp length-append (omega arith)

some_left : (ns : List ℕ) (n : ℕ) → nat_eq (length (ns ++ n ∷ [])) 0 ≡ false
some_left ns n = simp length-append (grind (arith, nat_tests))

pub left_at : (given bound : List Binding) (ns : List ℕ) (n : ℕ) →
    left (record { given = given; bound = bound; rounds = ns ++ n ∷ [] }) ≡ record { given = given; bound = take n bound; rounds = ns }
left_at given bound ns n =
    let forgotten : NameTable = record {
      given = given;
      bound = take (slice_index (ns ++ n ∷ []) (length (ns ++ n ∷ []) - 1)) bound;
      rounds = take (length (ns ++ n ∷ []) - 1) (ns ++ n ∷ []);
    } in
    ap (λ (t : Bool). cond {A = NameTable} t (record { given = given; bound = bound; rounds = ns ++ n ∷ [] }) forgotten) (some_left ns n)
    ∙ ap (λ (k : ℕ). record { given = given; bound = take (slice_index (ns ++ n ∷ []) k) bound; rounds = take k (ns ++ n ∷ []) }) (one_less ns n)
    ∙ ap (λ (k : ℕ). record { given = given; bound = take k bound; rounds = take (length ns) (ns ++ n ∷ []) }) (last_at ns n)
    ∙ ap (λ (l : List ℕ). record { given = given; bound = take n bound; rounds = l }) (front_at ns n)

pub left_behind : (given bound kept : List Bound) (rounds ns : List ℕ) (n : ℕ) → rounds ≡ ns ++ n ∷ [] → kept ≡ take n bound →
    known_in given kept ns ≡ left (known_in given bound rounds)
left_behind given bound kept rounds ns n is keeps =
    ap (λ l. known_in given l ns) keeps
    ∙ ap (λ (l : List Binding). record { given = map binding_of given; bound = l; rounds = ns }) (sym (take-map binding_of n bound))
    ∙ sym (left_at (map binding_of given) (map binding_of bound) ns n)
    ∙ ap (λ l. left (known_in given bound l)) (sym is)

-- ---- holes

cut_at : (holes : List Star) (i : ℕ) (h : Star) → i < length holes → get_or holes i h ≡ h → drop i holes ≡ h ∷ drop (i + 1) holes
cut_at holes i h within is = rw add-one (drop-cons holes i h within ∙ ap (λ (x : Star). x ∷ drop (suc i) holes) is)

pub among_here : (name : List ℕ) (holes : List Star) (i : ℕ) (h : Star) → i < length holes → get_or holes i h ≡ h → bytes_eq h.name.now name ≡ true →
    is_among name (map hole_view (drop i holes)) ≡ true
among_here name holes i h within is same =
    ap (λ l. is_among name (map hole_view l)) (cut_at holes i h within is)
    ∙ ap (λ (t : Bool). t || is_among name (map hole_view (drop (i + 1) holes))) same

pub among_step : (name : List ℕ) (holes : List Star) (i : ℕ) (h : Star) → i < length holes → get_or holes i h ≡ h → bytes_eq h.name.now name ≡ false →
    is_among name (map hole_view (drop i holes)) ≡ is_among name (map hole_view (drop (i + 1) holes))
among_step name holes i h within is other =
    ap (λ l. is_among name (map hole_view l)) (cut_at holes i h within is)
    ∙ ap (λ (t : Bool). t || is_among name (map hole_view (drop (i + 1) holes))) other

pub among_end : (name : List ℕ) (holes : List Star) (i : ℕ) → length holes ≤ i → is_among name (map hole_view (drop i holes)) ≡ false
among_end name holes i past = rw (drop_all i holes past) refl

pub ruleset among = (among_here, among_step, among_end)

-- nothing is bound where there is no hole
both_ways : (t : Bool) (known : NameTable) → known ≡ cond t known known
both_ways true known = refl
both_ways false known = refl

none_learnt : (known : NameTable) (reply expected : List ℕ) (holes : List Star) → length holes ≡ 0 → learnt_of known reply expected (map hole_view holes) ≡ known
none_learnt known reply expected [] none = refl
none_learnt known reply expected (h ∷ hs) none = absurd (omega (arith, none))

pub nothing_learnt : (known : NameTable) (filled : Line) (reply : List ℕ) → length filled.holes.items ≡ 0 → known ≡ learnt known (filled_view filled) reply
nothing_learnt known filled reply none =
    both_ways (meets reply filled.expected.now) known
    ∙ ap (λ (k : NameTable). cond (meets reply filled.expected.now) k known) (sym (none_learnt known reply filled.expected.now filled.holes.items none))

pub learnt_step : (known next : NameTable) (reply expected value : List ℕ) (holes : List Star) (i : ℕ) (h : Star) → i < length holes → get_or holes i h ≡ h →
    value ≡ matched_by reply expected h.place → next ≡ with_bound known h.name.now value →
    learnt_of known reply expected (map hole_view (drop i holes)) ≡ learnt_of next reply expected (map hole_view (drop (i + 1) holes))
learnt_step known next reply expected value holes i h within is values nexts =
    let cut : drop i holes ≡ h ∷ drop (i + 1) holes = cut_at holes i h within is in
    let made : with_bound known h.name.now (matched_by reply expected h.place) ≡ next =
    ap (with_bound known h.name.now) (sym values) ∙ sym nexts in
    ap (λ l. learnt_of known reply expected (map hole_view l)) cut
    ∙ ap (λ k. learnt_of k reply expected (map hole_view (drop (i + 1) holes))) made

pub learnt_end : (known : NameTable) (reply expected : List ℕ) (holes : List Star) (i : ℕ) → length holes ≤ i →
    learnt_of known reply expected (map hole_view (drop i holes)) ≡ known
learnt_end known reply expected holes i past = rw (drop_all i holes past) refl

pub ruleset learns = (learnt_step, learnt_end)
