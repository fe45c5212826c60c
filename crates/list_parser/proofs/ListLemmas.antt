-- What the model's entries of a list are by the list's own.
use Rattle.std.proofs.Common.{◌≡◌, ℕ, ◌<◌, Bool, List, [], ◌∷◌, length, map, get_or, not, ap, refl, sym, ◌∙◌, arith}
use Rattle.std.specs.List.{position, prefix_len}
use Rattle.std.specs.Str.{bytes_eq}
use Rattle.std.proofs.lemmas.List.{length-map, get_or-map}
use Rattle.own_model.specs.Listed.{Listed, ListedEntry, start_of, start_list_of}
use Rattle.own_model.specs.StartList.{entries_of}
use Rattle.own_model.specs.Transcript.{entry_at, nobody}

-- how many pass from the front on, of those that a function makes
prefix_len-map : {X Y : Type 0} (p : Y → Bool) (f : X → Y) (xs : List X) → prefix_len p (map f xs) ≡ prefix_len (λ x. p (f x)) xs
prefix_len-map p f [] = refl
prefix_len-map p f (x ∷ xs) = rw (prefix_len-map p f xs) refl

-- the first that passes
pub position-map : {X Y : Type 0} (p : Y → Bool) (f : X → Y) (xs : List X) → position (λ x. p (f x)) xs ≡ position p (map f xs)
position-map p f xs = sym (rw (prefix_len-map (λ y. not (p y)) f xs, length-map xs f) refl)

-- an entry of a path is found at one place in both
pub same_place : (list : Listed) (path : List ℕ) →
    position (λ entry. bytes_eq entry.path path) list.entries ≡ position (λ entry. bytes_eq entry.name path) (entries_of (start_list_of list))
same_place list path = position-map (λ start. bytes_eq start.entry.name path) (start_of list) list.entries ∙ position-map (λ entry. bytes_eq entry.name path) (λ start. start.entry) (start_list_of list).starts

-- the model's entry at a place is what the list's comes to
pub same_entry : (list : Listed) (component : ℕ) (entry : ListedEntry) → component < length list.entries →
    (start_of list (get_or list.entries component entry)).entry ≡ entry_at (entries_of (start_list_of list)) component
same_entry list component entry inside =
    let starts = map (start_of list) list.entries in
    let within : component < length starts = omega (arith, inside, length-map list.entries (start_of list)) in
    sym (get_or-map (λ start. start.entry) starts component (start_of list entry) nobody within
    ∙ ap (λ start. start.entry) (get_or-map (start_of list) list.entries component entry (start_of list entry) inside))
