-- The texts with which a session is requested, and is given more.
use Rattle.std.specs.Prelude.{◌≡◌, ℕ, ◌^◌, ◌-◌, ◌<◌, ◌≤◌, ◌==◌, ◌&&◌, ◌||◌, not, Bool, false, IsTrue, List, [], ◌∷◌, ◌++◌, length, take, drop, reverse, slice_index, codes, decimal, nat_lt, nat_le, if◌then◌else◌, find, Option, Some, None}
use Rattle.std.specs.List.{list_all, before_first, after_first}
use Rattle.std.specs.Option.{option_map, option_and_then}
use Rattle.std.specs.Char.{is_ascii_alphabetic, is_ascii_alphanumeric}
use Rattle.std.specs.Str.{bytes_eq}
use Rattle.trade_base.specs.Amount.{number_of, amount_of}
use Rattle.own_model.specs.Text.{is_name_byte}

-- ---- bytes: a space is 32, a quote 34, a comma 44, an equals sign 61, a backslash 92 and `_` 95

abbrev pub is_space : ℕ → Bool
is_space b = b == 32

abbrev pub is_quote : ℕ → Bool
is_quote b = b == 34

abbrev pub is_equals : ℕ → Bool
is_equals b = b == 61

-- a letter or `_`, with which a key begins
abbrev pub is_key_start : ℕ → Bool
is_key_start b = is_ascii_alphabetic b || b == 95

-- a letter, a digit or `_`
abbrev pub is_key_byte : ℕ → Bool
is_key_byte b = is_ascii_alphanumeric b || b == 95

-- what may be between quotes: a printable byte except a quote and a backslash
abbrev pub is_quotable : ℕ → Bool
is_quotable b = (nat_le 32 b && nat_le b 126) && not (b == 34 || b == 92)

-- ---- pieces

-- a byte more at the front of the first piece
abbrev pub onto_first : ℕ → List (List ℕ) → List (List ℕ)
onto_first b [] = (b ∷ []) ∷ []
onto_first b (piece ∷ pieces) = (b ∷ piece) ∷ pieces

-- a text cut at each comma that doesn't stand within quotes, where the text begins within quotes or not
abbrev pub pieces_of : Bool → List ℕ → List (List ℕ)
pieces_of quoted [] = [] ∷ []
pieces_of quoted (b ∷ bs) =
    if b == 44 && not quoted then [] ∷ pieces_of quoted bs
    else onto_first b (pieces_of (if is_quote b then not quoted else quoted) bs)

-- a text without the spaces at its front
abbrev pub skip_spaces : List ℕ → List ℕ
skip_spaces [] = []
skip_spaces (b ∷ bs) = if is_space b then skip_spaces bs else b ∷ bs

-- a text without the spaces at its front and at its end
abbrev pub trimmed : List ℕ → List ℕ
trimmed text = reverse (skip_spaces (reverse (skip_spaces text)))

-- ---- pairs

-- a value: without quotes, or the text between quotes
pub data Value : Type 0 where
  Bare : List ℕ → Value
  Quoted : List ℕ → Value

pub record Pair : Type 0 where
  pub key : List ℕ
  pub value : Value

-- a letter or `_`, and then letters, digits and `_`
abbrev pub is_key : List ℕ → Bool
is_key [] = false
is_key (b ∷ bs) = is_key_start b && list_all is_key_byte bs

-- what stands between the first byte and the last
abbrev pub inner : List ℕ → List ℕ
inner text = take (length text - 2) (drop 1 text)

-- one or more letters, digits, `_`, `-` and `.`
abbrev pub is_bare : List ℕ → Bool
is_bare text = nat_lt 0 (length text) && list_all is_name_byte text

-- a quote, bytes that may be between quotes, and a quote
abbrev pub is_quoted : List ℕ → Bool
is_quoted text =
    (nat_le 2 (length text) && (is_quote (slice_index text 0) && is_quote (slice_index text (length text - 1))))
    && list_all is_quotable (inner text)

abbrev pub value_of : List ℕ → Option Value
value_of text =
    if is_quoted text then Some (Quoted (inner text))
    else (if is_bare text then Some (Bare text) else None)

-- the pair of a piece: a key, an equals sign and a value, with spaces before and after them
abbrev pub pair_of : List ℕ → Option Pair
pair_of piece =
    let text = trimmed piece in
    let key = before_first is_equals text in
    if is_key key then option_map (λ value. record { key = key; value = value }) (value_of (after_first is_equals text))
    else None

-- what f answers of each, if it answers all
abbrev pub each : {X Y : Type 0} → (X → Option Y) → List X → Option (List Y)
each f [] = Some []
each f (x ∷ xs) = option_and_then (λ y. option_map (λ ys. y ∷ ys) (each f xs)) (f x)

-- the pairs of a text; spaces alone have none
abbrev pub pairs_of : List ℕ → Option (List Pair)
pairs_of text = if list_all is_space text then Some [] else each pair_of (pieces_of false text)

-- ---- arguments

-- what a session is given of RAM (in bytes) and capabilities, and its label
pub record Arguments : Type 0 where
  pub ram : ℕ
  pub caps : ℕ
  pub label : List ℕ

-- the value of the first pair with a key
abbrev pub value_under : List ℕ → List Pair → Option Value
value_under key pairs = option_map (λ pair. pair.value) (find (λ pair. bytes_eq pair.key key) pairs)

-- RAM is an amount, without quotes
abbrev pub ram_of : Option Value → Option ℕ
ram_of None = Some 0
ram_of (Some (Bare text)) = amount_of text
ram_of (Some (Quoted text)) = None

-- capabilities are a number below 2^32, without quotes
abbrev pub caps_of : Option Value → Option ℕ
caps_of None = Some 0
caps_of (Some (Bare text)) = option_and_then (λ n. if nat_lt n (2 ^ 32) then Some n else None) (number_of text)
caps_of (Some (Quoted text)) = None

-- a label is quoted, and has at most 64 bytes
abbrev pub label_of : Option Value → Option (List ℕ)
label_of None = Some []
label_of (Some (Bare text)) = None
label_of (Some (Quoted text)) = if nat_le (length text) 64 then Some text else None

-- the arguments of pairs
abbrev pub arguments_in : List Pair → Option Arguments
arguments_in pairs =
    option_and_then (λ ram. option_and_then (λ caps. option_map (λ label. record { ram = ram; caps = caps; label = label })
    (label_of (value_under (codes "label") pairs)))
    (caps_of (value_under (codes "cap_quota") pairs)))
    (ram_of (value_under (codes "ram_quota") pairs))

-- the arguments of a text, or none if it isn't in the grammar
abbrev pub arguments_of : List ℕ → Option Arguments
arguments_of text = option_and_then arguments_in (pairs_of text)

-- ---- the canonical writing

abbrev pub arguments_text : Arguments → List ℕ
arguments_text arguments =
    codes "ram_quota=" ++ decimal arguments.ram ++ codes ", cap_quota=" ++ decimal arguments.caps
    ++ codes ", label=\"" ++ arguments.label ++ codes "\""

-- arguments that have a text: RAM within 64 bits, capabilities within 32, and at most 64 bytes that may be between quotes
pub record HasText (arguments : Arguments) : Type 0 where
  pub ram : arguments.ram < 2 ^ 64
  pub caps : arguments.caps < 2 ^ 32
  pub short : length arguments.label ≤ 64
  pub label : IsTrue (list_all is_quotable arguments.label)

-- the canonical writing gives the arguments back
abbrev pub ArgumentsAreReadBack : Type 0
ArgumentsAreReadBack = (arguments : Arguments) → HasText arguments → arguments_of (arguments_text arguments) ≡ Some arguments
