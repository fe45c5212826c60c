-- The values of the pairs parsed so far: for each key the value of its first pair.
use Rattle.std.specs.Prelude.{◌≡◌, ℕ, Bool, false, List, [], ◌∷◌, codes, true, Option, Some, None}
use Rattle.std.specs.Option.{option_map, option_and_then, option_copied, unwrap_or}
use Rattle.std.specs.Str.{bytes_eq}
use Rattle.own_model.specs.SessionArgs.{Arguments, Pair, Value, pieces_of, pair_of, each, ram_of, caps_of, label_of}
use Rattle.trade_base.specs.declared.id.Ram.{Ram}
use Rattle.trade_base.specs.declared.id.Caps.{Caps}
use Rattle.session_proto.specs.declared.args.Pairs.{Pairs}
use Rattle.session_proto.specs.Pieces.{pieces_after}

-- RAM, capabilities and label, as far as they are known
pub record Known : Type 0 where
  pub ram : Option ℕ
  pub caps : Option ℕ
  pub label : Option (List ℕ)

-- an amount as a number
abbrev pub ram_in : Option Ram → Option ℕ
ram_in ram = option_map (λ r. r.0) ram

abbrev pub caps_in : Option Caps → Option ℕ
caps_in caps = option_map (λ c. c.0) caps

-- the same of what the reader holds
abbrev pub known : Pairs → Known
known found = record { ram = ram_in found.ram; caps = caps_in found.caps; label = option_copied found.label }

-- what is known under a key after a pair that has it or not: the first that has it counts
abbrev pub known_with : {X : Type 0} → Option X → Bool → (Option Value → Option X) → Value → Option (Option X)
known_with None true read value = option_map Some (read (Some value))
known_with x has read value = Some x

-- the same of a pair
abbrev pub known_after : {X : Type 0} → Option X → List ℕ → (Option Value → Option X) → Pair → Option (Option X)
known_after k key read pair = known_with k (bytes_eq pair.key key) read pair.value

-- three parts that are known, if all of them can be
abbrev pub all_known : Option (Option ℕ) → Option (Option ℕ) → Option (Option (List ℕ)) → Option Known
all_known ram caps label =
    option_and_then (λ r. option_and_then (λ c. option_map (λ l. record { ram = r; caps = c; label = l }) label) caps) ram

-- what is known after one pair more, unless that is the first with its key and has no value for it
abbrev pub with_pair : Known → Pair → Option Known
with_pair k pair =
    all_known (known_after k.ram (codes "ram_quota") ram_of pair) (known_after k.caps (codes "cap_quota") caps_of pair)
    (known_after k.label (codes "label") label_of pair)

-- the arguments of what is known, where what isn't known is nothing
abbrev pub told : Known → Arguments
told k = record { ram = unwrap_or k.ram 0; caps = unwrap_or k.caps 0; label = unwrap_or k.label [] }

-- the first pair of a text, and the text after its comma, if there is one
abbrev pub BeginsWith : List ℕ → Pair → Option (List ℕ) → Type 0
BeginsWith text pair rest = each pair_of (pieces_of false text) ≡ option_map (λ pairs. pair ∷ pairs) (each pair_of (pieces_after rest))
