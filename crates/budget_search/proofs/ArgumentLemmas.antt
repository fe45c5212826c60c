-- The label of arguments that are in the grammar can be written.
use Rattle.std.proofs.lemmas.Bool.{and_parts}
use Rattle.std.proofs.lemmas.Bool.Decides.{nat_tests}
use Rattle.std.proofs.lemmas.Option.{cond_some, none-some, option_and_then_some, same_Some}
use Rattle.std.proofs.Common.{arith, cond, ◌≡◌, ◌&&◌, ◌-◌, ◌*◌, ◌<◌, ◌≤◌, ◌^◌, ℕ, ltb-true, take, Bool, true, false, List, [], ◌∷◌, length, lit≤, refl, ap, ◌∙◌, subst}
use Rattle.std.specs.Prelude.{Option, Some, None, codes, find, nat_le, nat_lt, slice_index}
use Rattle.std.specs.List.{AllByRecursion, list_all, after_first, before_first}
use Rattle.std.specs.Option.{option_and_then, option_map}
use Rattle.std.specs.Str.{all_ascii_digits, bytes_eq}
use Rattle.std.specs.Str.Parse.{digits_value}
use Rattle.trade_base.specs.Amount.{amount_in, number_of, times, unit_of}
use Rattle.own_model.proofs.SessionArgsLemmas.{made, arguments_of-text}
use Rattle.own_model.specs.Amounts.{Amounts}
use Rattle.own_model.specs.Session.{given_by}
use Rattle.own_model.specs.SessionArgs.{is_bare, is_equals, is_key, is_quotable, is_quoted, is_space, inner, trimmed, value_of, pair_of, pieces_of, each, pairs_of, value_under, ram_of, caps_of, label_of, arguments_in, arguments_of, arguments_text, Arguments, Pair, Value}
use Rattle.own_model.specs.SessionArgs.Value.{Bare, Quoted}
use Rattle.budget_search.specs.Donations.{donated_text}

-- what is between quotes may be
abbrev IsQuotable : Value → Type 0
IsQuotable (Bare text) = Unit {0}
IsQuotable (Quoted text) = list_all is_quotable text ≡ true

-- ---- values

value_by : (text : List ℕ) (quoted bare : Bool) → is_quoted text ≡ quoted → (v : Value) → cond quoted (Some (Quoted (inner text))) (cond bare (Some (Bare text)) None) ≡ Some v → IsQuotable v
value_by text true bare is v e = subst IsQuotable (same_Some (Quoted (inner text)) v e) (and_parts _ _ is).1
value_by text false true is v e = subst IsQuotable (same_Some (Bare text) v e) tt
value_by text false false is v e = absurd (none-some v e)

value_quotable : (text : List ℕ) (v : Value) → value_of text ≡ Some v → IsQuotable v
value_quotable text v e = value_by text (is_quoted text) (is_bare text) refl v e

-- ---- pairs

keyed : (key : List ℕ) (o : Option Value) → ((v : Value) → o ≡ Some v → IsQuotable v) → (pair : Pair) → option_map (λ value. record { key = key; value = value }) o ≡ Some pair →
    IsQuotable pair.value
keyed key None each pair e = absurd (none-some pair e)
keyed key (Some v) each pair e = subst (λ (p : Pair). IsQuotable p.value) (same_Some (record { key = key; value = v }) pair e) (each v refl)

pair_by : (key : List ℕ) (o : Option Value) (b : Bool) → ((v : Value) → o ≡ Some v → IsQuotable v) → (pair : Pair) →
    cond b (option_map (λ value. record { key = key; value = value }) o) None ≡ Some pair → IsQuotable pair.value
pair_by key o true each pair e = keyed key o each pair e
pair_by key o false each pair e = absurd (none-some pair e)

pair_quotable : (piece : List ℕ) (pair : Pair) → pair_of piece ≡ Some pair → IsQuotable pair.value
pair_quotable piece pair e =
    let text = trimmed piece in
    let key = before_first is_equals text in
    pair_by key (value_of (after_first is_equals text)) (is_key key) (value_quotable (after_first is_equals text)) pair e

abbrev AreQuotable : List Pair → Type 0
AreQuotable pairs = AllByRecursion (λ pair. IsQuotable pair.value) pairs

one_more : (o : Option Pair) (os : Option (List Pair)) → ((pair : Pair) → o ≡ Some pair → IsQuotable pair.value) → ((pairs : List Pair) → os ≡ Some pairs → AreQuotable pairs) →
    (pairs : List Pair) → option_and_then (λ y. option_map (λ ys. y ∷ ys) os) o ≡ Some pairs → AreQuotable pairs
one_more None os first rest pairs e = absurd (none-some pairs e)
one_more (Some pair) None first rest pairs e = absurd (none-some pairs e)
one_more (Some pair) (Some others) first rest pairs e = subst AreQuotable (same_Some (pair ∷ others) pairs e) (first pair refl, rest others refl)

each_quotable : (pieces : List (List ℕ)) (pairs : List Pair) → each pair_of pieces ≡ Some pairs → AreQuotable pairs
each_quotable [] pairs e = subst AreQuotable (same_Some [] pairs e) tt
each_quotable (piece ∷ pieces) pairs e = one_more (pair_of piece) (each pair_of pieces) (pair_quotable piece) (each_quotable pieces) pairs e

pairs_by : (b : Bool) (o : Option (List Pair)) → ((pairs : List Pair) → o ≡ Some pairs → AreQuotable pairs) → (pairs : List Pair) → cond b (Some []) o ≡ Some pairs → AreQuotable pairs
pairs_by true o all pairs e = subst AreQuotable (same_Some [] pairs e) tt
pairs_by false o all pairs e = all pairs e

pairs_quotable : (text : List ℕ) (pairs : List Pair) → pairs_of text ≡ Some pairs → AreQuotable pairs
pairs_quotable text pairs e = pairs_by (list_all is_space text) (each pair_of (pieces_of false text)) (each_quotable (pieces_of false text)) pairs e

-- ---- the value of a key

under_by : (b : Bool) (pair : Pair) (o : Option Pair) → IsQuotable pair.value → ((v : Value) → option_map (λ p. p.value) o ≡ Some v → IsQuotable v) →
    (v : Value) → option_map (λ p. p.value) (cond b (Some pair) o) ≡ Some v → IsQuotable v
under_by true pair o this rest v e = subst IsQuotable (same_Some pair.value v e) this
under_by false pair o this rest v e = rest v e

under_quotable : (key : List ℕ) (pairs : List Pair) → AreQuotable pairs → (v : Value) → value_under key pairs ≡ Some v → IsQuotable v
under_quotable key [] all v e = absurd (none-some v e)
under_quotable key (pair ∷ pairs) all v e =
    under_by (bytes_eq pair.key key) pair (find (λ pair. bytes_eq pair.key key) pairs) all.0 (under_quotable key pairs all.1) v e

-- ---- the label

pub record IsLabel (label : List ℕ) : Type 0 where
  pub short : length label ≤ 64
  pub quotable : list_all is_quotable label ≡ true

label_short : (text label : List ℕ) (b : Bool) → nat_le (length text) 64 ≡ b → list_all is_quotable text ≡ true → cond b (Some text) None ≡ Some label → IsLabel label
label_short text label true is quotable e =
    subst IsLabel (same_Some text label e) (record { short = grind (arith, nat_tests, is); quotable = quotable })
label_short text label false is quotable e = absurd (none-some label e)

label_by : (o : Option Value) → ((v : Value) → o ≡ Some v → IsQuotable v) → (label : List ℕ) → label_of o ≡ Some label → IsLabel label
label_by None each label e = subst IsLabel (same_Some [] label e) (record { short = lit≤ tt; quotable = refl })
label_by (Some (Bare text)) each label e = absurd (none-some label e)
label_by (Some (Quoted text)) each label e = label_short text label (nat_le (length text) 64) refl (each (Quoted text) refl) e

made_label : (r c : Option ℕ) (l : Option (List ℕ)) (a : Arguments) → made r c l ≡ Some a → l ≡ Some a.label
made_label None c l a e = absurd (none-some a e)
made_label (Some ram) None l a e = absurd (none-some a e)
made_label (Some ram) (Some caps) None a e = absurd (none-some a e)
made_label (Some ram) (Some caps) (Some label) a e = ap (λ (x : Arguments). Some x.label) (same_Some (record { ram = ram; caps = caps; label = label }) a e)

read_by : (o : Option (List Pair)) → ((pairs : List Pair) → o ≡ Some pairs → AreQuotable pairs) → (a : Arguments) → option_and_then arguments_in o ≡ Some a → IsLabel a.label
read_by None all a e = absurd (none-some a e)
read_by (Some pairs) all a e =
    label_by (value_under (codes "label") pairs) (under_quotable (codes "label") pairs (all pairs refl)) a.label
    (made_label (ram_of (value_under (codes "ram_quota") pairs)) (caps_of (value_under (codes "cap_quota") pairs)) (label_of (value_under (codes "label") pairs)) a e)

-- the label of arguments that are read
pub label_read : (text : List ℕ) (a : Arguments) → arguments_of text ≡ Some a → IsLabel a.label
label_read text a e = read_by (pairs_of text) (pairs_quotable text) a e

-- ---- the donation

number_small : (text : List ℕ) (n : ℕ) → number_of text ≡ Some n → n < 2 ^ 64
number_small text n e =
    let parts = cond_some ((nat_lt 0 (length text) && all_ascii_digits text) && nat_lt (digits_value 10 text) (2 ^ 64)) (digits_value 10 text) n e in
    subst (λ m. m < 2 ^ 64) parts.1 (ltb-true (digits_value 10 text) (2 ^ 64) (and_parts _ _ parts.0).1)

amount_small : (unit : Option ℕ) (text : List ℕ) (n : ℕ) → amount_in unit text ≡ Some n → n < 2 ^ 64
amount_small None text n e = number_small text n e
amount_small (Some unit) text n e =
    option_and_then_some (times unit) (number_of (take (length text - 1) text)) n e
    (λ m _ is.
    let parts = cond_some (nat_lt (m * unit) (2 ^ 64)) (m * unit) n is in
    subst (λ k. k < 2 ^ 64) parts.1 (ltb-true (m * unit) (2 ^ 64) parts.0))

ram_small : (o : Option Value) (n : ℕ) → ram_of o ≡ Some n → n < 2 ^ 64
ram_small None n e = subst (λ m. m < 2 ^ 64) (same_Some 0 n e) (omega arith)
ram_small (Some (Bare text)) n e = amount_small (unit_of (slice_index text (length text - 1))) text n e
ram_small (Some (Quoted text)) n e = absurd (none-some n e)

caps_small : (o : Option Value) (n : ℕ) → caps_of o ≡ Some n → n < 2 ^ 32
caps_small None n e = subst (λ m. m < 2 ^ 32) (same_Some 0 n e) (omega arith)
caps_small (Some (Bare text)) n e =
    option_and_then_some (λ n. cond (nat_lt n (2 ^ 32)) (Some n) None) (number_of text) n e
    (λ m _ is.
    let parts = cond_some (nat_lt m (2 ^ 32)) m n is in
    subst (λ k. k < 2 ^ 32) parts.1 (ltb-true m (2 ^ 32) parts.0))
caps_small (Some (Quoted text)) n e = absurd (none-some n e)

made_ram : (r c : Option ℕ) (l : Option (List ℕ)) (a : Arguments) → made r c l ≡ Some a → r ≡ Some a.ram
made_ram None c l a e = absurd (none-some a e)
made_ram (Some ram) None l a e = absurd (none-some a e)
made_ram (Some ram) (Some caps) None a e = absurd (none-some a e)
made_ram (Some ram) (Some caps) (Some label) a e = ap (λ (x : Arguments). Some x.ram) (same_Some (record { ram = ram; caps = caps; label = label }) a e)

made_caps : (r c : Option ℕ) (l : Option (List ℕ)) (a : Arguments) → made r c l ≡ Some a → c ≡ Some a.caps
made_caps None c l a e = absurd (none-some a e)
made_caps (Some ram) None l a e = absurd (none-some a e)
made_caps (Some ram) (Some caps) None a e = absurd (none-some a e)
made_caps (Some ram) (Some caps) (Some label) a e = ap (λ (x : Arguments). Some x.caps) (same_Some (record { ram = ram; caps = caps; label = label }) a e)

pub record IsSmall (a : Arguments) : Type 0 where
  pub ram : a.ram < 2 ^ 64
  pub caps : a.caps < 2 ^ 32

small_by : (o : Option (List Pair)) (a : Arguments) → option_and_then arguments_in o ≡ Some a → IsSmall a
small_by None a e = absurd (none-some a e)
small_by (Some pairs) a e =
    let r = ram_of (value_under (codes "ram_quota") pairs) in
    let c = caps_of (value_under (codes "cap_quota") pairs) in
    let l = label_of (value_under (codes "label") pairs) in
    record {
      ram = ram_small (value_under (codes "ram_quota") pairs) a.ram (made_ram r c l a e);
      caps = caps_small (value_under (codes "cap_quota") pairs) a.caps (made_caps r c l a e);
    }

-- what arguments that are read donate is within the bounds of the grammar
pub small_read : (text : List ℕ) (a : Arguments) → arguments_of text ≡ Some a → IsSmall a
small_read text a e = small_by (pairs_of text) a e

-- ---- another donation

abbrev donated : Amounts → List ℕ → List ℕ
donated donation label = arguments_text (record { ram = donation.ram; caps = donation.caps; label = label })

-- what is written with another donation is read again
pub donation_read : (given args : List ℕ) (a : Arguments) (donation : Amounts) → arguments_of given ≡ Some a → donation.ram < 2 ^ 64 → donation.caps < 2 ^ 32 →
    args ≡ donated_text donation given → arguments_of args ≡ Some (record { ram = donation.ram; caps = donation.caps; label = a.label })
donation_read given args a donation is ram caps written =
    let label = label_read given a is in
    ap arguments_of (written ∙ ap (λ o. donated donation (given_by o).label) is)
    ∙ arguments_of-text (record { ram = donation.ram; caps = donation.caps; label = a.label })
    (record { ram = ram; caps = caps; short = label.short; label = label.quotable })
