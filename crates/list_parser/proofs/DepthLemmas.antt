-- Of which lists entries are, as more of them come.
use Rattle.std.proofs.Common.{◌≡◌, ℕ, zero, suc, ◌+◌, ◌<◌, ◌≤◌, inl, inr, true, false, List, [], ◌∷◌, ◌++◌, length, get_or, Option, Some, None, subst, refl, sym, ◌∙◌, arith}
use Rattle.std.specs.List.{slice_get}
use Rattle.std.specs.Option.{option_map, unwrap_or}
use Rattle.std.proofs.lemmas.Bool.{cases_eq, false≢true}
use Rattle.std.proofs.lemmas.List.{get_or_append_left, get_or_push, length_push}
use Rattle.std.proofs.lemmas.Option.{get_or_from_slice_get, slice_get_read, slice_get_within}
use Rattle.own_model.specs.Listed.{ListedEntry}
use Rattle.list_parser.specs.Depth.{Grow, HaveParentInits, IsParentInit, is_init, is_list}

-- the home of the entry at a place
pub home_at : (entries : List ListedEntry) (place : ℕ) (entry : ListedEntry) → HaveParentInits entries → place < length entries → entry ≡ get_or entries place entry → IsParentInit entries place entry.home
home_at entries place entry homes inside is = homes place entry (slice_get_read entries (length entries) place entry refl inside is)

-- no entry has another home
pub no_homes : HaveParentInits []
no_homes place entry is = absurd (omega (arith, slice_get_within [] place entry is))

-- ---- one entry more

-- each is still there
still_there : (entries : List ListedEntry) (e entry : ListedEntry) (place : ℕ) → slice_get entries place ≡ Some entry → slice_get (entries ++ e ∷ []) place ≡ Some entry
still_there entries e entry place is =
    let inside = slice_get_within entries place entry is in
    slice_get_read (entries ++ e ∷ []) (length entries + 1) place entry (sym (length_push entries e)) (omega (arith, inside))
    (sym (get_or_append_left entries (e ∷ []) entry place inside ∙ get_or_from_slice_get entries place entry entry is))

-- and the last one is new
pub last_there : (entries : List ListedEntry) (e : ListedEntry) → slice_get (entries ++ e ∷ []) (length entries) ≡ Some e
last_there entries e =
    slice_get_read (entries ++ e ∷ []) (length entries + 1) (length entries) e (sym (length_push entries e)) (omega arith)
    (sym (get_or_push entries e e (length entries) refl))

-- what is found to be an init is one
found : (o : Option ListedEntry) → unwrap_or (option_map is_init o) false ≡ true → (e : ListedEntry) × (o ≡ Some e) × (is_init e ≡ true)
found None is = absurd (false≢true is)
found (Some e) is = (e, refl, is)

list_stays : (entries : List ListedEntry) (e : ListedEntry) (home : ℕ) → is_list entries home ≡ true → is_list (entries ++ e ∷ []) home ≡ true
list_stays entries e zero is = refl
list_stays entries e (suc place) is =
    let init = found (slice_get entries place) is in
    rw (still_there entries e init.0 place init.1) init.2

-- the list of the last one, if it is an init
pub last_list : (entries : List ListedEntry) (e : ListedEntry) → is_init e ≡ true → is_list (entries ++ e ∷ []) (length entries + 1) ≡ true
last_list entries e is =
    let next : suc (length entries) ≡ length entries + 1 = omega arith in
    subst (λ home. is_list (entries ++ e ∷ []) home ≡ true) next (rw (last_there entries e) is)

-- a list's init comes before what follows
list_before : (entries : List ListedEntry) (home : ℕ) → is_list entries home ≡ true → home ≤ length entries
list_before entries zero is = omega arith
list_before entries (suc place) is =
    let init = found (slice_get entries place) is in
    omega (arith, slice_get_within entries place init.0 init.1)

-- a list has room for one more that is of a list that is there
pub grow_by : (entries : List ListedEntry) (e : ListedEntry) → HaveParentInits entries → is_list entries e.home ≡ true → Grow entries (entries ++ e ∷ [])
grow_by entries e homes is = record {
  homes = λ place entry there. elim (cases_eq place (length entries)) [
    | inl here ↦
        let same : e ≡ entry = grind (arith, here, there, last_there entries e) in
        record { before = grind (arith, list_before entries e.home is, here, same); list = grind (arith, list_stays entries e e.home is, same) }
    | inr other ↦
        let inside = slice_get_within (entries ++ e ∷ []) place entry there in
        let before : place < length entries = omega (arith, inside, length_push entries e, other) in
        let was : entry ≡ get_or entries place entry = sym (sym (get_or_append_left entries (e ∷ []) entry place before) ∙ get_or_from_slice_get (entries ++ e ∷ []) place entry entry there) in
        let home = home_at entries place entry homes before was in
        record { before = home.before; list = list_stays entries e entry.home home.list }
  ];
  lists = list_stays entries e;
}

pub grow_none : (entries : List ListedEntry) → HaveParentInits entries → Grow entries entries
grow_none entries homes = record { homes = homes; lists = λ home is. is }

-- one after the other
pub grow_then : {a b c : List ListedEntry} → Grow a b → Grow b c → Grow a c
grow_then first then = record { homes = then.homes; lists = λ home is. then.lists home (first.lists home is) }
