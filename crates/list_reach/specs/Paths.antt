-- Which components a path denotes: a `*` is 42, a `,` is 44 and a `/` is 47.
use Rattle.std.specs.Prelude.{◌≡◌, ℕ, ◌-◌, ◌&&◌, ◌||◌, ◌==◌, zero, suc, not, Bool, false, List, [], ◌∷◌, ◌++◌, length, map, position, take, drop, nat_eq, if◌then◌else◌, Option, Some, None, is_some, IfSome, Result, Ok, Err}
use Rattle.std.specs.Borrow.{Bor}
use Rattle.std.specs.Char.{is_ascii_whitespace}
use Rattle.std.specs.List.{list_any, prefix_len, suffix_len, slice_get, slice_split, starts_with, ends_with}
use Rattle.std.specs.Option.{option_map, unwrap_or}
use Rattle.std.specs.Str.{bytes_eq, is_utf8}
use Rattle.own_model.specs.Listed.{Listed, ListedEntry}
use Rattle.text_near_words.specs.Near.{nearest}
use Rattle.list_parser.specs.Depth.{runs_script, runs_server}
use Rattle.list_reach.specs.declared.component_numbers.ComponentKind.{ComponentKind}
use Rattle.list_reach.specs.declared.component_numbers.ComponentKind.TheVariants.{Script as Scripts, Server as Servers}
use Rattle.list_reach.specs.declared.component_numbers.Unnamed.{Unnamed}
use Rattle.list_reach.specs.declared.component_numbers.Unnamed.TheVariants.{Nobody, NoScript, NoServer, NoMemory}

abbrev pub is_slash : ℕ → Bool
is_slash b = b == 47

-- its last name is `*`
abbrev pub stands_for_all : List ℕ → Bool
stands_for_all asked = bytes_eq asked (42 ∷ []) || ends_with nat_eq asked (47 ∷ 42 ∷ [])

-- its last name is `**`
abbrev pub denotes_tree : List ℕ → Bool
denotes_tree asked = bytes_eq asked (42 ∷ 42 ∷ []) || ends_with nat_eq asked (47 ∷ 42 ∷ 42 ∷ [])

-- it begins so, and no list lies within
abbrev pub is_within : List ℕ → List ℕ → Bool
is_within front path = starts_with nat_eq path front && not (list_any is_slash (drop (length front) path))

-- the path of a component, or one whose last name is `*`, which denotes all of that list, or `**`, which denotes all of that list
-- and of the lists within it
abbrev pub selects : List ℕ → List ℕ → Bool
selects asked path =
    if denotes_tree asked then starts_with nat_eq path (take (length asked - 2) asked)
    else if stands_for_all asked then is_within (take (length asked - 1) asked) path else bytes_eq asked path

-- ---- the components that paths denote

-- an entry is a script, or a server that provides its service
abbrev pub is_sought : ListedEntry → ComponentKind → Bool
is_sought entry Scripts = runs_script entry.binary
is_sought entry Servers = runs_server entry.binary && entry.provides

-- a path denotes an entry, and that is of the kind
abbrev pub denotes : ComponentKind → List ℕ → ListedEntry → Bool
denotes sought path entry = selects path entry.path && is_sought entry sought

-- the component of a number is one that a path denotes
abbrev pub denotes_at : Listed → ComponentKind → List ℕ → ℕ → Bool
denotes_at list sought path number =
    unwrap_or (option_map (λ entry. denotes sought path entry) (slice_get list.entries number)) false

-- the numbers below a bound that pass a test, in order
abbrev pub numbers_below : (ℕ → Bool) → ℕ → List ℕ
numbers_below passes zero = []
numbers_below passes (suc n) = numbers_below passes n ++ (if passes n then n ∷ [] else [])

-- the numbers of all components that a path denotes
abbrev pub numbers_for : Listed → ComponentKind → List ℕ → List ℕ
numbers_for list sought path = numbers_below (denotes_at list sought path) (length list.entries)

-- a path as text, which is empty if it isn't UTF-8
abbrev pub as_text : List ℕ → List ℕ
as_text path = if is_utf8 path then path else []

-- the paths of the entries that are of a kind
abbrev pub paths_of : ComponentKind → List ListedEntry → List (List ℕ)
paths_of sought [] = []
paths_of sought (entry ∷ entries) = if is_sought entry sought then entry.path ∷ paths_of sought entries else paths_of sought entries

-- why a path denotes no entry of the kind: no entry has it, and perhaps another path was meant; or its entry is no script or no server
pub data PathFault : Type 0 where
  NobodyHas : List ℕ → Option (List ℕ) → PathFault
  IsNoScript : List ℕ → PathFault
  IsNoServer : List ℕ → PathFault

abbrev pub other_than : ComponentKind → List ℕ → PathFault
other_than Scripts path = IsNoScript path
other_than Servers path = IsNoServer path

abbrev pub why_unnamed : Listed → ComponentKind → List ℕ → PathFault
why_unnamed list sought path =
    if is_some (position (λ entry. bytes_eq entry.path path) list.entries) then other_than sought path
    else NobodyHas path (nearest (paths_of sought list.entries) (as_text path))

-- some numbers, or why there are none
abbrev pub some_of : List ℕ → PathFault → Result (List ℕ) PathFault
some_of numbers why = if length numbers == 0 then Err why else Ok numbers

-- the numbers of all that a path denotes, or why it denotes none
abbrev pub numbers_of_path : Listed → ComponentKind → List ℕ → Result (List ℕ) PathFault
numbers_of_path list sought path = some_of (numbers_for list sought path) (why_unnamed list sought path)

-- one after the other, or the first fault
abbrev pub joined : Result (List ℕ) PathFault → Result (List ℕ) PathFault → Result (List ℕ) PathFault
joined (Ok one) (Ok more) = Ok (one ++ more)
joined (Ok one) (Err why) = Err why
joined (Err why) more = Err why

-- a text without the blanks at its front and at its end
abbrev pub trimmed_end : List ℕ → List ℕ
trimmed_end text = take (length text - suffix_len is_ascii_whitespace text) text

abbrev pub trimmed : List ℕ → List ℕ
trimmed text = trimmed_end (drop (prefix_len is_ascii_whitespace text) text)

-- the parts of a text between bytes of one value
abbrev pub pieces : ℕ → List ℕ → List (List ℕ)
pieces byte text = slice_split (λ b. b == byte) text

-- what each of some texts denotes, one after the other, or the first fault
abbrev pub joined_all : (List ℕ → Result (List ℕ) PathFault) → List (List ℕ) → Result (List ℕ) PathFault
joined_all numbers [] = Ok []
joined_all numbers (text ∷ texts) = joined (numbers text) (joined_all numbers texts)

-- the numbers of all that paths denote, which commas separate, or why the first that denotes none does so
abbrev pub numbers_of : Listed → ComponentKind → List ℕ → Result (List ℕ) PathFault
numbers_of list sought text = joined_all (λ path. numbers_of_path list sought (trimmed path)) (pieces 44 text)

-- and those of several texts
abbrev pub numbers_of_all : Listed → ComponentKind → List (Bor (List ℕ)) → Result (List ℕ) PathFault
numbers_of_all list sought texts = joined_all (numbers_of list sought) (map (λ text. text.now) texts)

-- the fault of a path; none if the host is out of memory
abbrev pub fault_of : Unnamed → Option PathFault
fault_of (Nobody path near) = Some (NobodyHas path.now near)
fault_of (NoScript path) = Some (IsNoScript path.now)
fault_of (NoServer path) = Some (IsNoServer path.now)
fault_of NoMemory = None

-- a fault states why there are no numbers, unless the host is out of memory
abbrev pub GivesReason : Result (List ℕ) PathFault → Unnamed → Type 0
GivesReason numbers fault = IfSome (fault_of fault) (λ why. numbers ≡ Err why)

-- ---- the components that a command selects

abbrev pub same_number : ℕ → ℕ → Bool
same_number one other = nat_eq one other

-- one of these numbers
abbrev pub names : List ℕ → ℕ → Bool
names numbers number = list_any (same_number number) numbers

-- one of these numbers, or any if there are none
abbrev pub is_chosen : List ℕ → ℕ → Bool
is_chosen numbers number = length numbers == 0 || names numbers number
