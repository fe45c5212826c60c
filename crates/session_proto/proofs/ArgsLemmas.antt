-- What is known after pairs, and the arguments that they make.
use Rattle.std.proofs.Common.{◌≡◌, ℕ, Bool, true, false, cond, List, ◌∷◌, Option, Some, None, refl, sym, ap, ◌∙◌, codes}
use Rattle.std.specs.Prelude.{find}
use Rattle.std.specs.Option.{option_map, option_and_then}
use Rattle.std.specs.Str.{bytes_eq}
use Rattle.std.proofs.lemmas.Slice.Eq.{bytes_eq-Decides}
use Rattle.own_model.specs.SessionArgs.{Arguments, Pair, Value, pair_of, pieces_of, each, value_under, ram_of, caps_of, label_of}
use Rattle.own_model.proofs.SessionArgsLemmas.{made}
use Rattle.session_proto.specs.Pairs.{Known, known_with, all_known, with_pair, BeginsWith}
use Rattle.session_proto.specs.Pieces.{pieces_after}

-- ---- one key

-- what comes of a key whose value is known, or will be of the pairs to come
abbrev pub resolved : {X : Type 0} → (Option Value → Option X) → Option X → Option Value → Option X
resolved read (Some x) under = Some x
resolved read None under = read under

-- a pair more, with the key or not
resolved-next : {X : Type 0} (read : Option Value → Option X) (k : Option X) (has : Bool) (value : Value) (under : Option Value) →
    resolved read k (cond has (Some value) under) ≡ option_and_then (λ x. resolved read x under) (known_with k has read value)
resolved-next read (Some x) has value under = refl
resolved-next read None false value under = refl
resolved-next read None true value under =
    elim (read (Some value)) as (λ o. o ≡ option_and_then (λ x. resolved read x under) (option_map Some o)) [ None ↦ refl | Some x ↦ refl ]

-- the value under a key, of a pair and those after it
under-cons : (key : List ℕ) (pair : Pair) (pairs : List Pair) → value_under key (pair ∷ pairs) ≡ cond (bytes_eq pair.key key) (Some pair.value) (value_under key pairs)
under-cons key pair pairs =
    elim (bytes_eq pair.key key) as (λ b. option_map {U = Value} (λ p. p.value) (cond b (Some pair) (find (λ p. bytes_eq p.key key) pairs)) ≡ cond b (Some pair.value) (value_under key pairs)) [ true ↦ refl | false ↦ refl ]

resolved-cons : {X : Type 0} (read : Option Value → Option X) (k : Option X) (key : List ℕ) (pair : Pair) (pairs : List Pair) →
    resolved read k (value_under key (pair ∷ pairs)) ≡ option_and_then (λ x. resolved read x (value_under key pairs)) (known_with k (bytes_eq pair.key key) read pair.value)
resolved-cons read k key pair pairs = ap (resolved read k) (under-cons key pair pairs) ∙ resolved-next read k (bytes_eq pair.key key) pair.value (value_under key pairs)

-- ---- three keys

-- the arguments of what is known, and of the pairs to come
abbrev pub arguments_after : Known → List Pair → Option Arguments
arguments_after k pairs =
    made (resolved ram_of k.ram (value_under (codes "ram_quota") pairs))
    (resolved caps_of k.caps (value_under (codes "cap_quota") pairs))
    (resolved label_of k.label (value_under (codes "label") pairs))

-- nothing follows
nowhere : {X Y : Type 0} (o : Option X) → option_and_then {U = Y} (λ _. None) o ≡ None
nowhere None = refl
nowhere (Some x) = refl

-- three steps, each in two parts, are three first parts and then three second ones
in_turn : (r c : Option (Option ℕ)) (l : Option (Option (List ℕ))) (f g : Option ℕ → Option ℕ) (h : Option (List ℕ) → Option (List ℕ)) →
    made (option_and_then f r) (option_and_then g c) (option_and_then h l)
    ≡ option_and_then (λ (k : Known). made (f k.ram) (g k.caps) (h k.label)) (all_known r c l)
in_turn None c l f g h = refl
in_turn (Some r) None l f g h = nowhere (f r)
in_turn (Some r) (Some c) None f g h = elim (f r) as (λ o. made o (g c) None ≡ None) [ None ↦ refl | Some ram ↦ nowhere (g c) ]
in_turn (Some r) (Some c) (Some l) f g h = refl

-- a pair more is known at once, or makes no arguments
after_pair : (k : Known) (pair : Pair) (pairs : List Pair) → arguments_after k (pair ∷ pairs) ≡ option_and_then (λ next. arguments_after next pairs) (with_pair k pair)
after_pair k pair pairs =
    (λ i. made (resolved-cons ram_of k.ram (codes "ram_quota") pair pairs i) (resolved-cons caps_of k.caps (codes "cap_quota") pair pairs i) (resolved-cons label_of k.label (codes "label") pair pairs i))
    ∙ in_turn _ _ _ (λ x. resolved ram_of x (value_under (codes "ram_quota") pairs)) (λ x. resolved caps_of x (value_under (codes "cap_quota") pairs)) (λ x. resolved label_of x (value_under (codes "label") pairs))

-- ---- the key of a pair

-- a key that isn't the pair's leaves what is known
known_same : {X : Type 0} (k : Option X) (read : Option Value → Option X) (value : Value) → known_with k false read value ≡ Some k
known_same None read value = refl
known_same (Some x) read value = refl

known_left : {X : Type 0} (k : Option X) (has : Bool) (read : Option Value → Option X) (value : Value) → has ≡ false → known_with k has read value ≡ Some k
known_left k has read value left = ap (λ b. known_with k b read value) left ∙ known_same k read value

module _ (k : Known) (value : Value) where
  abbrev with_key : List ℕ → Option Known
  with_key key = with_pair k (record { key = key; value = value })

  ram_known : option_map (λ ram. record k { ram = ram }) (known_with k.ram true ram_of value) ≡ with_key (codes "ram_quota")
  ram_known =
      elim (known_with k.ram true ram_of value) as (λ o. option_map (λ ram. record k { ram = ram }) o ≡ all_known o (Some k.caps) (Some k.label)) [ None ↦ refl | Some x ↦ refl ]
      ∙ sym (λ i. all_known (known_with k.ram true ram_of value) (known_same k.caps caps_of value i) (known_same k.label label_of value i))

  caps_known : option_map (λ caps. record k { caps = caps }) (known_with k.caps true caps_of value) ≡ with_key (codes "cap_quota")
  caps_known =
      elim (known_with k.caps true caps_of value) as (λ o. option_map (λ caps. record k { caps = caps }) o ≡ all_known (Some k.ram) o (Some k.label)) [ None ↦ refl | Some x ↦ refl ]
      ∙ sym (λ i. all_known (known_same k.ram ram_of value i) (known_with k.caps true caps_of value) (known_same k.label label_of value i))

  label_known : option_map (λ label. record k { label = label }) (known_with k.label true label_of value) ≡ with_key (codes "label")
  label_known =
      elim (known_with k.label true label_of value) as (λ o. option_map (λ label. record k { label = label }) o ≡ all_known (Some k.ram) (Some k.caps) o) [ None ↦ refl | Some x ↦ refl ]
      ∙ sym (λ i. all_known (known_same k.ram ram_of value i) (known_same k.caps caps_of value i) (known_with k.label true label_of value))

  module _ (key said : List ℕ) where
    has : (text : List ℕ) → said ≡ text → true ≡ bytes_eq key said → text ≡ key
    has text is same = sym ((bytes_eq-Decides key said).0 (sym same) ∙ is)

    -- the key of the pair is one of the three
    pub ram_taken : said ≡ codes "ram_quota" → true ≡ bytes_eq key said → option_map (λ ram. record k { ram = ram }) (known_with k.ram true ram_of value) ≡ with_key key
    ram_taken is same = ram_known ∙ ap with_key (has (codes "ram_quota") is same)

    pub caps_taken : said ≡ codes "cap_quota" → true ≡ bytes_eq key said → option_map (λ caps. record k { caps = caps }) (known_with k.caps true caps_of value) ≡ with_key key
    caps_taken is same = caps_known ∙ ap with_key (has (codes "cap_quota") is same)

    pub label_taken : said ≡ codes "label" → true ≡ bytes_eq key said → option_map (λ label. record k { label = label }) (known_with k.label true label_of value) ≡ with_key key
    label_taken is same = label_known ∙ ap with_key (has (codes "label") is same)

  -- or none of them, and nothing more is known
  pub none_taken : (key : List ℕ) → bytes_eq key (codes "ram_quota") ≡ false → bytes_eq key (codes "cap_quota") ≡ false → bytes_eq key (codes "label") ≡ false → Some k ≡ with_key key
  none_taken key ram caps label =
      sym (λ i. all_known (known_left k.ram _ ram_of value ram i) (known_left k.caps _ caps_of value caps i) (known_left k.label _ label_of value label i))

-- ---- a text

-- the arguments of what is known, and of the rest of a text
abbrev pub arguments_from : Known → Option (List ℕ) → Option Arguments
arguments_from k rest = option_and_then (arguments_after k) (each pair_of (pieces_after rest))

-- a pair and those of the pieces after it
from_pair : (k : Known) (pair : Pair) (later : Option (List Pair)) → option_and_then (arguments_after k) (option_map (λ pairs. pair ∷ pairs) later) ≡ option_and_then (λ next. option_and_then (arguments_after next) later) (with_pair k pair)
from_pair k pair None = sym (nowhere (with_pair k pair))
from_pair k pair (Some pairs) = after_pair k pair pairs

-- a piece, if it is a pair, and the pieces after it
from_piece : (k : Known) (found : Option Pair) (later : Option (List Pair)) → option_and_then (arguments_after k) (option_and_then (λ pair. option_map (λ pairs. pair ∷ pairs) later) found) ≡ option_and_then (λ pair. option_and_then (λ next. option_and_then (arguments_after next) later) (with_pair k pair)) found
from_piece k None later = refl
from_piece k (Some pair) later = from_pair k pair later

module _ (k : Known) (text piece : List ℕ) (rest : Option (List ℕ)) (cut : pieces_of false text ≡ piece ∷ pieces_after rest) where
  -- a text, by its first piece
  from_text : arguments_from k (Some text) ≡ option_and_then (λ pair. option_and_then (λ next. arguments_from next rest) (with_pair k pair)) (pair_of piece)
  from_text = ap (λ pieces. option_and_then (arguments_after k) (each pair_of pieces)) cut ∙ from_piece k (pair_of piece) (each pair_of (pieces_after rest))

  -- a pair that is taken in leads on to the rest, and one that isn't makes no arguments
  pub pair_taken : (pair : Pair) → Some pair ≡ pair_of piece → arguments_from k (Some text) ≡ option_and_then (λ next. arguments_from next rest) (with_pair k pair)
  pair_taken pair is = from_text ∙ ap (option_and_then (λ pair. option_and_then (λ next. arguments_from next rest) (with_pair k pair))) (sym is)

-- the same of a pair with which a text begins
pub plain_taken : (k : Known) (text : List ℕ) (pair : Pair) (rest : Option (List ℕ)) → BeginsWith text pair rest → arguments_from k (Some text) ≡ option_and_then (λ next. arguments_from next rest) (with_pair k pair)
plain_taken k text pair rest begins = ap (option_and_then (arguments_after k)) begins ∙ from_pair k pair (each pair_of (pieces_after rest))
