-- A call of the engine that has none of the forms that are translated passes as it stands.
use Rattle.std.proofs.Common.{◌≡◌, ◌≢◌, ℕ, ◌+◌, ◌-◌, ◌*◌, ◌^◌, ◌<◌, ◌≤◌, ◌&&◌, ◌||◌, Bool, true, false, true≢false, cond, not, nat_eq, nat_lt, nat_le, List, [], ◌∷◌, ◌++◌, length, drop, take, slice_index, is_none, is_some, decimal, codes, append-nil, Option, Some, None, Ok, refl, sym, ap, ◌∙◌, subst, arith}
use Rattle.std.specs.Char.{is_ascii_digit}
use Rattle.std.specs.List.{list_all, onto_first, slice_split, starts_with}
use Rattle.std.proofs.lemmas.List.Splits.{length-slice_split}
use Rattle.std.specs.Option.{option_and_then, option_map, option_map_or, unwrap_or}
use Rattle.std.specs.Str.{all_ascii_digits, bytes_eq}
use Rattle.std.specs.Str.Parse.{digits_value}
use Rattle.std.proofs.lemmas.Bool.Decides.{nat_tests}
use Rattle.std.proofs.lemmas.Option.{none-some}
use Rattle.std.proofs.lemmas.Slice.Eq.{bytes_eq-Decides}
use Rattle.std.proofs.Math.Bool.{and-false}
use Rattle.std.proofs.lemmas.Bool.{and_parts, and_from, not-true, or_parts}
use Rattle.trade_base.specs.Amount.{amount_of, number_of}
use Rattle.own_model.specs.Call.{Call, Form, Spoken, call_in, form_of, forms, name_of, of_none, of_one, of_rest, of_text, of_two, some_bytes_of_hex, parsed_call}
use Rattle.own_model.specs.Text.{FirstWord, address_of, bytes_of_hex, first_word, hex_digit_of, hex_number_after, is_name, is_name_byte, is_path}
use Rattle.own_model.specs.Transcript.{longest_line}
use Rattle.line_friendly.specs.Friendly.{FriendlyLine, arrow_of, begins_as_call, fault_in, is_meant, is_passed, said_of_both, said_of_call, said_of_signs, said_of_text, trimmed_line, without_comment, without_mark, without_meant, without_return}
use Rattle.line_friendly.specs.Theorems.{ArrowsFollowSpaces, IsPlain, LaterFormsAreMarked, PlainLinesPass, has_suffix, is_suffixed, is_translated}
use Rattle.line_friendly.specs.CallParts.{CallTail, parts_of, quoted_or, request_tail, request_text, size_text, sizes_behind, sizes_in, spelled, tail_of, tail_text, takes_text, text_written, word_behind, word_text}
use Rattle.line_friendly.specs.CallParts.CallTail.{Words, Kept, Sized, Request, Quoted}
use Rattle.line_friendly.specs.Quotes.{inside_quotes}
use Rattle.line_friendly.specs.Words.{Word, is_blank, next_word, skip_blanks, spaced, up_to_blank, words_spaced}
use Rattle.line_friendly.specs.LineText.{added}
use Rattle.line_friendly.proofs.ExpectedLemmas.{exact_meets}
use Rattle.line_friendly.proofs.WordLemmas.{words_next}

-- a text without a blank, and a word: one that isn't empty
abbrev pub is_unbroken : List ℕ → Bool
is_unbroken text = list_all (λ b. not (is_blank b)) text

abbrev pub is_word : List ℕ → Bool
is_word [] = false
is_word (b ∷ bs) = is_unbroken (b ∷ bs)

-- what follows a word: nothing, or a space and more
abbrev pub behind_word : Option (List ℕ) → List ℕ
behind_word None = []
behind_word (Some rest) = 32 ∷ rest

-- ---- tests

some_if : {X : Type 0} (test : Bool) (found : Option X) (x : X) → cond test found None ≡ Some x → test ≡ true
some_if true found x is = refl
some_if false found x is = absurd (none-some x is)

some_then : {X : Type 0} (test : Bool) (found : Option X) (x : X) → cond test found None ≡ Some x → found ≡ Some x
some_then true found x is = is
some_then false found x is = absurd (none-some x is)

-- ---- words that are parted by one space

-- the first byte of an unbroken text is no blank, and neither is one behind it
first_sign : (b : ℕ) (bs : List ℕ) → is_unbroken (b ∷ bs) ≡ true → is_blank b ≡ false
first_sign b bs whole = not-true (is_blank b) (and_parts (not (is_blank b)) (is_unbroken bs) whole).0

more_signs : (b : ℕ) (bs : List ℕ) → is_unbroken (b ∷ bs) ≡ true → is_unbroken bs ≡ true
more_signs b bs whole = (and_parts (not (is_blank b)) (is_unbroken bs) whole).1

-- a text is its first word, and what follows it
pub word_and_behind : (text : List ℕ) → text ≡ (first_word text).word ++ behind_word (first_word text).rest
word_and_behind [] = refl
word_and_behind (b ∷ bs) =
    let here : FirstWord = record { word = []; rest = Some bs } in
    let later : FirstWord = record { word = b ∷ (first_word bs).word; rest = (first_word bs).rest } in
    elim (nat_eq b 32) as (λ t. nat_eq b 32 ≡ t → b ∷ bs ≡ (cond t here later).word ++ behind_word (cond t here later).rest) [
      | true ↦ λ space. let first : b ≡ 32 = grind (arith, nat_tests) in ap (λ x. x ∷ bs) first
      | false ↦ λ other. ap (λ l. b ∷ l) (word_and_behind bs)
    ] refl

-- no blank is a space
no_space : (b : ℕ) → is_blank b ≡ false → nat_eq b 32 ≡ false
no_space b sign = grind (arith, nat_tests)

-- an unbroken text is its first word
first_unbroken : (text : List ℕ) → is_unbroken text ≡ true → first_word text ≡ record { word = text; rest = None }
first_unbroken [] whole = refl
first_unbroken (b ∷ bs) whole =
    rw (no_space b (first_sign b bs whole)) (ap (λ (w : FirstWord). record { word = b ∷ w.word; rest = w.rest }) (first_unbroken bs (more_signs b bs whole)))

-- an unbroken text and what follows it are parted
parted_word : (word : List ℕ) (rest : Option (List ℕ)) → is_unbroken word ≡ true →
    up_to_blank (word ++ behind_word rest) ≡ record { word = word; rest = behind_word rest }
parted_word [] None whole = refl
parted_word [] (Some rest) whole = refl
parted_word (b ∷ bs) rest whole =
    rw (first_sign b bs whole) (ap (λ (w : Word). record { word = b ∷ w.word; rest = w.rest }) (parted_word bs rest (more_signs b bs whole)))

-- no blank stands before a word
at_word : (word : List ℕ) (rest : Option (List ℕ)) → is_word word ≡ true → skip_blanks (word ++ behind_word rest) ≡ word ++ behind_word rest
at_word [] rest is = absurd (true≢false (sym is))
at_word (b ∷ bs) rest is = rw (first_sign b bs is) refl

unbroken_word : (word : List ℕ) → is_word word ≡ true → is_unbroken word ≡ true
unbroken_word [] is = refl
unbroken_word (b ∷ bs) is = is

pub next_is : (word : List ℕ) (rest : Option (List ℕ)) → is_word word ≡ true → next_word (word ++ behind_word rest) ≡ record { word = word; rest = behind_word rest }
next_is word rest is = ap up_to_blank (at_word word rest is) ∙ parted_word word rest (unbroken_word word is)

-- words of one word
words_within : (word : List ℕ) → is_unbroken word ≡ true → words_spaced true word ≡ word
words_within [] whole = refl
words_within (b ∷ bs) whole = rw (first_sign b bs whole) (ap (λ l. b ∷ l) (words_within bs (more_signs b bs whole)))

words_of_one : (word : List ℕ) → is_word word ≡ true → words_spaced false word ≡ 32 ∷ word
words_of_one [] is = absurd (true≢false (sym is))
words_of_one (b ∷ bs) is = rw (first_sign b bs is) (ap (λ l. 32 ∷ b ∷ l) (words_within bs (more_signs b bs is)))

spaced_word : (word : List ℕ) → is_word word ≡ true → spaced word ≡ 32 ∷ word
spaced_word [] is = absurd (true≢false (sym is))
spaced_word (b ∷ bs) is = refl

-- ---- arguments that are words

-- no byte that passes a test is a blank
abbrev KeepsBlanksOut : (ℕ → Bool) → Type 0
KeepsBlanksOut test = (b : ℕ) → test b ≡ true → not (is_blank b) ≡ true

all_unbroken : (test : ℕ → Bool) → KeepsBlanksOut test → (text : List ℕ) → list_all test text ≡ true → is_unbroken text ≡ true
all_unbroken test keeps [] all = refl
all_unbroken test keeps (b ∷ bs) all =
    and_from (not (is_blank b)) (is_unbroken bs) (keeps b (and_parts (test b) (list_all test bs) all).0) (all_unbroken test keeps bs (and_parts (test b) (list_all test bs) all).1)

-- an unbroken text that isn't empty
some_word : (text : List ℕ) → nat_lt 0 (length text) ≡ true → is_unbroken text ≡ true → is_word text ≡ true
some_word [] some whole = absurd (true≢false (sym some))
some_word (b ∷ bs) some whole = whole

digit_sign : KeepsBlanksOut is_ascii_digit
digit_sign b digit = grind (arith, nat_tests)

digits_unbroken : (ds : List ℕ) → all_ascii_digits ds ≡ true → is_unbroken ds ≡ true
digits_unbroken [] all = refl
digits_unbroken (d ∷ ds) all =
    and_from (not (is_blank d)) (is_unbroken ds) (digit_sign d (and_parts (is_ascii_digit d) (all_ascii_digits ds) all).0) (digits_unbroken ds (and_parts (is_ascii_digit d) (all_ascii_digits ds) all).1)

-- what is read of a text is read of words alone
abbrev ReadsWords : {X : Type 0} → (List ℕ → Option X) → Type 0
ReadsWords {X = X} read = (text : List ℕ) (x : X) → read text ≡ Some x → is_word text ≡ true

number_is_word : ReadsWords number_of
number_is_word text n is =
    let tests : ((nat_lt 0 (length text) && all_ascii_digits text) && nat_lt (digits_value 10 text) (2 ^ 64)) ≡ true = some_if _ (Some (digits_value 10 text)) n is in
    let digits : (nat_lt 0 (length text) && all_ascii_digits text) ≡ true = (and_parts _ _ tests).0 in
    let more : nat_lt 0 (length text) ≡ true = (and_parts _ _ digits).0 in
    some_word text more (digits_unbroken text (and_parts _ _ digits).1)

hex_blank : (b : ℕ) → is_blank b ≡ true → hex_digit_of b ≡ None
hex_blank b blank = grind (arith, nat_tests)

hex_sign : (b d : ℕ) → hex_digit_of b ≡ Some d → not (is_blank b) ≡ true
hex_sign b d is = elim (is_blank b) as (λ t. is_blank b ≡ t → not t ≡ true) [
  | true ↦ λ blank. absurd (none-some d (sym (hex_blank b blank) ∙ is))
  | false ↦ λ other. refl
] refl

hex_unbroken : (n : ℕ) (ds : List ℕ) (v : ℕ) → hex_number_after n ds ≡ Some v → is_unbroken ds ≡ true
hex_unbroken n [] v is = refl
hex_unbroken n (b ∷ bs) v is =
    elim (hex_digit_of b) as (λ found. hex_digit_of b ≡ found → option_and_then (λ digit. hex_number_after (n * 16 + digit) bs) found ≡ Some v → is_unbroken (b ∷ bs) ≡ true) [
      | None ↦ λ found none. absurd (none-some v none)
      | Some digit ↦ λ found some. and_from (not (is_blank b)) (is_unbroken bs) (hex_sign b digit found) (hex_unbroken (n * 16 + digit) bs v some)
    ] refl is

address_is_word : ReadsWords address_of
address_is_word text a is =
    let tests : (bytes_eq (take 2 text) (codes "0x") && (nat_le 3 (length text) && nat_le (length text) 18)) ≡ true = some_if _ (hex_number_after 0 (drop 2 text)) a is in
    let front : take 2 text ≡ codes "0x" = (bytes_eq-Decides (take 2 text) (codes "0x")).0 (and_parts _ _ tests).0 in
    address_word text a front (some_then _ (hex_number_after 0 (drop 2 text)) a is)
  where
    address_word : (text : List ℕ) (a : ℕ) → take 2 text ≡ codes "0x" → hex_number_after 0 (drop 2 text) ≡ Some a → is_word text ≡ true
    address_word [] a front digits = cc
    address_word (x ∷ []) a front digits = cc
    address_word (x ∷ y ∷ rest) a front digits =
        let first : x ≡ 48 = cc in
        let second : y ≡ 120 = cc in
        rw (first, second) (hex_unbroken 0 rest a digits)

bytes_unbroken : (text bytes : List ℕ) → bytes_of_hex text ≡ Some bytes → is_unbroken text ≡ true
bytes_unbroken [] bytes is = refl
bytes_unbroken (digit ∷ []) bytes is = absurd (none-some bytes is)
bytes_unbroken (high ∷ low ∷ rest) bytes is =
    elim (hex_digit_of high) as (λ h. hex_digit_of high ≡ h →
    option_and_then (λ byte. option_map (λ bytes. byte ∷ bytes) (bytes_of_hex rest)) (option_and_then (λ h. option_map (λ l. h * 16 + l) (hex_digit_of low)) h) ≡ Some bytes → is_unbroken (high ∷ low ∷ rest) ≡ true) [
      | None ↦ λ at none. absurd (none-some bytes none)
      | Some h ↦ λ at.
          elim (hex_digit_of low) as (λ l. hex_digit_of low ≡ l →
          option_and_then (λ byte. option_map (λ bytes. byte ∷ bytes) (bytes_of_hex rest)) (option_map (λ l. h * 16 + l) l) ≡ Some bytes → is_unbroken (high ∷ low ∷ rest) ≡ true) [
            | None ↦ λ too none. absurd (none-some bytes none)
            | Some l ↦ λ too.
                elim (bytes_of_hex rest) as (λ left. bytes_of_hex rest ≡ left →
                option_map (λ bytes. (h * 16 + l) ∷ bytes) left ≡ Some bytes → is_unbroken (high ∷ low ∷ rest) ≡ true) [
                  | None ↦ λ there none. absurd (none-some bytes none)
                  | Some left ↦ λ there some. and_from (not (is_blank high)) (is_unbroken (low ∷ rest)) (hex_sign high h at) (and_from (not (is_blank low)) (is_unbroken rest) (hex_sign low l too) (bytes_unbroken rest left there))
                ] refl
          ] refl
    ] refl is

bytes_are_word : ReadsWords some_bytes_of_hex
bytes_are_word text bytes is =
    let more : nat_lt 0 (length text) ≡ true = some_if _ (bytes_of_hex text) bytes is in
    some_word text more (bytes_unbroken text bytes (some_then (nat_lt 0 (length text)) (bytes_of_hex text) bytes is))

name_sign : KeepsBlanksOut is_name_byte
name_sign b byte = grind (arith, nat_tests)

is_name_word : (text : List ℕ) → is_name text ≡ true → is_word text ≡ true
is_name_word text is =
    let some : nat_le 1 (length text) ≡ true = (and_parts _ _ (and_parts _ _ is).0).0 in
    let more : nat_lt 0 (length text) ≡ true = grind (arith, nat_tests) in
    some_word text more (all_unbroken is_name_byte name_sign text (and_parts _ _ is).1)

-- a byte of a path
abbrev is_path_byte : ℕ → Bool
is_path_byte b = is_name_byte b || nat_eq b 47

path_sign : KeepsBlanksOut is_path_byte
path_sign b byte = grind (arith, nat_tests)

-- names have the bytes of names
bytes_of_names : (parts : List (List ℕ)) → list_all is_name parts ≡ true → list_all (list_all is_name_byte) parts ≡ true
bytes_of_names [] all = refl
bytes_of_names (part ∷ parts) all =
    and_from (list_all is_name_byte part) (list_all (list_all is_name_byte) parts)
    (and_parts _ (list_all is_name_byte part) (and_parts (is_name part) (list_all is_name parts) all).0).1 (bytes_of_names parts (and_parts (is_name part) (list_all is_name parts) all).1)

-- parts of such bytes, parted by `/`, are a text of bytes of a path
one_more_byte : (b : ℕ) (bs : List ℕ) (parts : List (List ℕ)) → (list_all (list_all is_name_byte) parts ≡ true → list_all is_path_byte bs ≡ true) → (slash : Bool) → nat_eq b 47 ≡ slash →
    length parts ≢ 0 → list_all (list_all is_name_byte) (cond slash ([] ∷ parts) (onto_first b parts)) ≡ true → list_all is_path_byte (b ∷ bs) ≡ true
one_more_byte b bs parts rest true is some all =
    let here : is_path_byte b ≡ true = grind (arith, nat_tests) in
    and_from (is_path_byte b) (list_all is_path_byte bs) here (rest all)
one_more_byte b bs [] rest false is some all = absurd (some refl)
one_more_byte b bs (part ∷ parts) rest false is some all =
    let first : (is_name_byte b && list_all is_name_byte part) ≡ true = (and_parts (is_name_byte b && list_all is_name_byte part) (list_all (list_all is_name_byte) parts) all).0 in
    let byte : is_name_byte b ≡ true = (and_parts (is_name_byte b) (list_all is_name_byte part) first).0 in
    let here : is_path_byte b ≡ true = grind (arith, nat_tests) in
    and_from (is_path_byte b) (list_all is_path_byte bs) here
    (rest (and_from (list_all is_name_byte part) (list_all (list_all is_name_byte) parts) (and_parts (is_name_byte b) (list_all is_name_byte part) first).1
    (and_parts (is_name_byte b && list_all is_name_byte part) (list_all (list_all is_name_byte) parts) all).1))

bytes_of_parts : (bs : List ℕ) → list_all (list_all is_name_byte) (slice_split (λ b. nat_eq b 47) bs) ≡ true → list_all is_path_byte bs ≡ true
bytes_of_parts [] all = refl
bytes_of_parts (b ∷ bs) all =
    one_more_byte b bs (slice_split (λ b. nat_eq b 47) bs) (bytes_of_parts bs) (nat_eq b 47) refl (λ none. omega (arith, none, length-slice_split (λ b. nat_eq b 47) bs)) all

-- the first byte of a path is one of a name
first_of_path : (b : ℕ) (parts : List (List ℕ)) → (slash : Bool) → length parts ≢ 0 → list_all is_name (cond slash ([] ∷ parts) (onto_first b parts)) ≡ true → is_name_byte b ≡ true
first_of_path b parts true some all = absurd (true≢false (sym all))
first_of_path b [] false some all = absurd (some refl)
first_of_path b (part ∷ parts) false some all =
    (and_parts (is_name_byte b) (list_all is_name_byte part) (and_parts _ (list_all is_name_byte (b ∷ part)) (and_parts (is_name (b ∷ part)) (list_all is_name parts) all).0).1).0

parts_of_path : (bs : List ℕ) → is_path bs ≡ true → list_all is_name (slice_split (λ b. nat_eq b 47) bs) ≡ true
parts_of_path bs is = (and_parts (nat_le (length (slice_split (λ b. nat_eq b 47) bs)) 4) (list_all is_name (slice_split (λ b. nat_eq b 47) bs)) is).1

path_begins : (b : ℕ) (bs : List ℕ) → is_path (b ∷ bs) ≡ true → is_name_byte b ≡ true
path_begins b bs is =
    first_of_path b (slice_split (λ b. nat_eq b 47) bs) (nat_eq b 47) (λ none. omega (arith, none, length-slice_split (λ b. nat_eq b 47) bs)) (parts_of_path (b ∷ bs) is)

pub is_path_word : (text : List ℕ) → is_path text ≡ true → is_word text ≡ true
is_path_word [] is = absurd (true≢false (sym is))
is_path_word (b ∷ bs) is =
    all_unbroken is_path_byte path_sign (b ∷ bs) (bytes_of_parts (b ∷ bs) (bytes_of_names (slice_split (λ b. nat_eq b 47) (b ∷ bs)) (parts_of_path (b ∷ bs) is)))

name_is_word : ReadsWords name_of
name_is_word text name is = is_name_word text (some_if _ (Some text) name is)

-- ---- forms whose arguments pass as they stand

-- of what stands behind a form's word the first word passes, and so does what follows it, where that is no text in quotes
record Passes (form arguments : List ℕ) : Type 0 where
  word : is_word (first_word arguments).word ≡ true
  sized : word_text form (first_word arguments).word ≡ (first_word arguments).word
  tail : is_translated (tail_of form (behind_word (first_word arguments).rest)) ≡ false →
      tail_text (tail_of form (behind_word (first_word arguments).rest)) ≡ behind_word (first_word arguments).rest

-- where there is nothing, nothing comes of it
record PassesNone (form : List ℕ) : Type 0 where
  sized : word_text form [] ≡ []
  tail : tail_text (tail_of form []) ≡ []

abbrev PassesBehind : List ℕ → Option (List ℕ) → Type 0
PassesBehind form None = PassesNone form
PassesBehind form (Some arguments) = Passes form arguments

-- all that stands behind a form's word passes, where that is no text in quotes
record PassesAll (form : List ℕ) (arguments : Option (List ℕ)) : Type 0 where
  whole : is_translated (tail_of form (word_behind form (behind_word arguments)).rest) ≡ false →
      spaced (word_text form (word_behind form (behind_word arguments)).word) ++ tail_text (tail_of form (word_behind form (behind_word arguments)).rest)
      ≡ behind_word arguments

-- what follows a form of words begins with a word
words_behind : (form : List ℕ) → takes_text form ≡ false → (rest : List ℕ) → word_behind form rest ≡ next_word rest
words_behind form words rest = rw words refl

-- a word and what follows it do
all_pass : (form : List ℕ) → takes_text form ≡ false → (arguments : Option (List ℕ)) → PassesBehind form arguments → PassesAll form arguments
all_pass form words None nothing = record { whole = rw (words_behind form words []) (λ untranslated. rw (nothing.sized, nothing.tail) refl) }
all_pass form words (Some arguments) passes =
    let word : List ℕ = (first_word arguments).word in
    let rest : Option (List ℕ) = (first_word arguments).rest in
    let whole : arguments ≡ word ++ behind_word rest = word_and_behind arguments in
    let next : next_word (32 ∷ arguments) ≡ record { word = word; rest = behind_word rest } = ap next_word whole ∙ next_is word rest passes.word in
    record {
      whole = rw (words_behind form words (32 ∷ arguments), next) (λ untranslated. rw (passes.sized, passes.tail untranslated, spaced_word word passes.word) (ap (λ a. 32 ∷ a) (sym whole)));
    }

-- and so does a text alone
text_passes : (form : List ℕ) → takes_text form ≡ true → word_text form [] ≡ [] → (arguments : Option (List ℕ)) → PassesAll form arguments
text_passes form text sized None = record { whole = rw text (λ untranslated. rw sized refl) }
text_passes form text sized (Some arguments) = record { whole = rw text (λ untranslated. rw sized refl) }

-- a form lets through what it reads
pub record Lets (form : Form) : Type 0 where
  word : is_word form.word ≡ true
  passes : (arguments : Option (List ℕ)) (call : Call) → form.call arguments ≡ Some call → PassesAll form.word arguments

-- a form of a text alone
rest_lets : (form : List ℕ) (call : List ℕ → Call) → is_word form ≡ true → takes_text form ≡ true → word_text form [] ≡ [] → Lets (record { word = form; call = of_rest call })
rest_lets form call word text sized = record { word = word; passes = λ arguments made is. text_passes form text sized arguments }

none_lets : (form : List ℕ) (call : Call) → is_word form ≡ true → takes_text form ≡ false → PassesNone form → Lets (record { word = form; call = of_none call })
none_lets form call word words nothing = record { word = word; passes = λ arguments made is. all_pass form words arguments (go arguments made is) }
  where
    go : (arguments : Option (List ℕ)) (made : Call) → of_none call arguments ≡ Some made → PassesBehind form arguments
    go None made is = nothing
    go (Some arguments) made is = absurd (none-some made is)

one_lets : {X : Type 0} (form : List ℕ) (call : X → Call) (read : List ℕ → Option X) → is_word form ≡ true → takes_text form ≡ false → ReadsWords read
    → ((text : List ℕ) (x : X) → read text ≡ Some x → word_text form text ≡ text) → tail_text (tail_of form []) ≡ []
    → Lets (record { word = form; call = of_one call read })
one_lets {X = X} form call read word words reads sized none = record { word = word; passes = λ arguments made is. all_pass form words arguments (go arguments made is) }
  where
    passes : (arguments : List ℕ) (x : X) → read arguments ≡ Some x → Passes form arguments
    passes arguments x is =
        let only : first_word arguments ≡ record { word = arguments; rest = None } = first_unbroken arguments (unbroken_word arguments (reads arguments x is)) in
        record { word = rw only (reads arguments x is); sized = rw only (sized arguments x is); tail = rw only (λ untranslated. none) }

    go : (arguments : Option (List ℕ)) (made : Call) → of_one call read arguments ≡ Some made → PassesBehind form arguments
    go None made is = absurd (none-some made is)
    go (Some arguments) made is =
        elim (read arguments) as (λ found. read arguments ≡ found → option_map call found ≡ Some made → Passes form arguments) [
          | None ↦ λ found none. absurd (none-some made none)
          | Some x ↦ λ found some. passes arguments x found
        ] refl is

-- words behind a form that has no text in quotes
abbrev HasWords : List ℕ → Type 0
HasWords form = (rest : List ℕ) → is_translated (tail_of form rest) ≡ false → tail_of form rest ≡ Words rest

abbrev Keeps : List ℕ → Type 0
Keeps form = (rest : Option (List ℕ)) → is_translated (tail_of form (behind_word rest)) ≡ false → tail_text (tail_of form (behind_word rest)) ≡ behind_word rest

-- what is kept passes
kept_passes : (rest : Option (List ℕ)) → tail_text (Kept (behind_word rest)) ≡ behind_word rest
kept_passes None = refl
kept_passes (Some rest) = refl

-- a second argument passes
abbrev TailPasses : {Y : Type 0} → List ℕ → (List ℕ → Option Y) → Type 0
TailPasses {Y = Y} form second = (rest : List ℕ) (y : Y) → second rest ≡ Some y → is_translated (tail_of form (32 ∷ rest)) ≡ false → tail_text (tail_of form (32 ∷ rest)) ≡ 32 ∷ rest

words_pass : {Y : Type 0} (form : List ℕ) (second : List ℕ → Option Y) → ReadsWords second → HasWords form → TailPasses form second
words_pass form second reads words rest y two untranslated = rw (words (32 ∷ rest) untranslated) (words_of_one rest (reads rest y two))

-- a size that is a number passes
size_is : (text : List ℕ) (n : ℕ) → number_of text ≡ Some n → size_text text ≡ text
size_is text n is = rw is refl

size_passes : (rest : List ℕ) (n : ℕ) → number_of rest ≡ Some n → tail_text (Sized (32 ∷ rest)) ≡ 32 ∷ rest
size_passes rest n is =
    let whole : is_word rest ≡ true = number_is_word rest n is in
    let next : next_word (rest ++ behind_word None) ≡ record { word = rest; rest = [] } = next_is rest None whole in
    let only : next_word (32 ∷ rest) ≡ record { word = rest; rest = [] } = ap next_word (sym (append-nil rest)) ∙ next in
    rw (only, size_is rest n is) (ap (λ l. l ++ []) (spaced_word rest whole) ∙ append-nil (32 ∷ rest))

two_lets : {X Y : Type 0} (form : List ℕ) (call : X → Y → Call) (first : List ℕ → Option X) (second : List ℕ → Option Y) → is_word form ≡ true → takes_text form ≡ false
    → ReadsWords first → ((text : List ℕ) → word_text form text ≡ text) → TailPasses form second
    → Lets (record { word = form; call = of_two call first second })
two_lets {X = X} {Y = Y} form call first second word no_text reads_first sized tails = record { word = word; passes = λ arguments made is. all_pass form no_text arguments (go arguments made is) }
  where
    passes : (arguments rest : List ℕ) (x : X) (y : Y) → (first_word arguments).rest ≡ Some rest → first (first_word arguments).word ≡ Some x → second rest ≡ Some y → Passes form arguments
    passes arguments rest x y more one two = record {
      word = reads_first (first_word arguments).word x one;
      sized = sized (first_word arguments).word;
      tail = rw more (λ untranslated. tails rest y two untranslated);
    }

    go : (arguments : Option (List ℕ)) (made : Call) → of_two call first second arguments ≡ Some made → PassesBehind form arguments
    go None made is = absurd (none-some made is)
    go (Some arguments) made is =
        elim (first (first_word arguments).word) as (λ one. first (first_word arguments).word ≡ one →
        option_and_then (λ x. option_map (call x) (option_and_then second (first_word arguments).rest)) one ≡ Some made → Passes form arguments) [
          | None ↦ λ at none. absurd (none-some made none)
          | Some x ↦ λ at.
              elim ((first_word arguments).rest) as (λ rest. (first_word arguments).rest ≡ rest → option_map (call x) (option_and_then second rest) ≡ Some made → Passes form arguments) [
                | None ↦ λ there none. absurd (none-some made none)
                | Some rest ↦ λ there.
                    elim (second rest) as (λ two. second rest ≡ two → option_map (call x) two ≡ Some made → Passes form arguments) [
                      | None ↦ λ too none. absurd (none-some made none)
                      | Some y ↦ λ too some. passes arguments rest x y there at too
                    ] refl
              ] refl
        ] refl is

text_lets : {X : Type 0} (form : List ℕ) (call : X → List ℕ → Call) (first : List ℕ → Option X) → is_word form ≡ true → takes_text form ≡ false
    → ReadsWords first → ((text : List ℕ) → word_text form text ≡ text) → Keeps form
    → Lets (record { word = form; call = of_text call first })
text_lets {X = X} form call first word no_text reads sized keeps = record { word = word; passes = λ arguments made is. all_pass form no_text arguments (go arguments made is) }
  where
    go : (arguments : Option (List ℕ)) (made : Call) → of_text call first arguments ≡ Some made → PassesBehind form arguments
    go None made is = absurd (none-some made is)
    go (Some arguments) made is =
        elim (first (first_word arguments).word) as (λ one. first (first_word arguments).word ≡ one →
        option_map (λ x. call x (unwrap_or (first_word arguments).rest [])) one ≡ Some made → Passes form arguments) [
          | None ↦ λ at none. absurd (none-some made none)
          | Some x ↦ λ at some. record {
            word = reads (first_word arguments).word x at;
            sized = sized (first_word arguments).word;
            tail = keeps (first_word arguments).rest;
          }
        ] refl is

-- where no text in quotes is found there is what stands for it
untranslated_other : (other : CallTail) (front text : List ℕ) → is_translated (quoted_or other front text) ≡ false → quoted_or other front text ≡ other
untranslated_other other front text =
    elim (inside_quotes text) as (λ inside. is_translated (option_map_or (λ i. Quoted front i (length text - 1)) inside other) ≡ false → option_map_or (λ i. Quoted front i (length text - 1)) inside other ≡ other) [
      | None ↦ λ untranslated. refl
      | Some inside ↦ λ untranslated. absurd (true≢false untranslated)
    ]

-- a size without a suffix passes
plain_size : (word : List ℕ) → is_suffixed word ≡ false → size_text word ≡ word
plain_size word =
    elim (number_of word) as (λ n. (is_none n && is_some (amount_of word)) ≡ false → cond (is_some n) word (option_map_or decimal (amount_of word) word) ≡ word) [
      | Some n ↦ λ plain. refl
      | None ↦ elim (amount_of word) as (λ a. is_some a ≡ false → option_map_or decimal a word ≡ word) [
        | Some a ↦ λ plain. absurd (true≢false plain)
        | None ↦ λ plain. refl
      ]
    ]

-- a request without a suffix passes
sizes_pass : (sizes : List Bool) (rest : Option (List ℕ)) → has_suffix sizes rest ≡ false → sizes_behind sizes rest ≡ behind_word rest
sizes_pass sizes None plain = refl
sizes_pass [] (Some text) plain = refl
sizes_pass (false ∷ more) (Some text) plain =
    ap (λ l. 32 ∷ ((first_word text).word ++ l)) (sizes_pass more (first_word text).rest plain) ∙ ap (λ l. 32 ∷ l) (sym (word_and_behind text))
sizes_pass (true ∷ more) (Some text) plain =
    let here : is_suffixed (first_word text).word ≡ false = (or_parts (is_suffixed (first_word text).word) _ plain).0 in
    let later : has_suffix more (first_word text).rest ≡ false = (or_parts (is_suffixed (first_word text).word) _ plain).1 in
    rw (plain_size (first_word text).word here)
    (ap (λ l. 32 ∷ ((first_word text).word ++ l)) (sizes_pass more (first_word text).rest later) ∙ ap (λ l. 32 ∷ l) (sym (word_and_behind text)))

request_passes : (request : List ℕ) → has_suffix (sizes_in (first_word request).word) (first_word request).rest ≡ false → request_text request ≡ request
request_passes request plain =
    ap (λ l. (first_word request).word ++ l) (sizes_pass (sizes_in (first_word request).word) (first_word request).rest plain) ∙ sym (word_and_behind request)

keeps_request : Keeps (codes "call")
keeps_request rest =
    let whole : List ℕ = behind_word rest in
    let front : List ℕ → List ℕ = λ (text : List ℕ). take (length (drop 1 whole) - (length text + 1)) (drop 1 whole) in
    let tail : Option (List ℕ) → CallTail = λ (found : Option (List ℕ)). option_map_or (λ text. quoted_or (Request whole) (front text) text) found (Request whole) in
    elim (text_written (drop 1 whole)) as (λ found. is_translated (tail found) ≡ false → tail_text (tail found) ≡ whole) [
      | None ↦ λ plain. passes rest plain
      | Some text ↦ λ plain.
          let other : quoted_or (Request whole) (front text) text ≡ Request whole = untranslated_other (Request whole) (front text) text plain in
          ap tail_text other ∙ passes rest (ap is_translated (sym other) ∙ plain)
    ]
  where
    passes : (rest : Option (List ℕ)) → is_translated (Request (behind_word rest)) ≡ false → tail_text (Request (behind_word rest)) ≡ behind_word rest
    passes None plain = refl
    passes (Some request) plain = ap (λ l. 32 ∷ l) (request_passes request plain)

abbrev pub AllLet : List Form → Type 0
AllLet [] = Unit {0}
AllLet (form ∷ rest) = Lets form × AllLet rest

pub forms_let : AllLet forms
forms_let = (
  one_lets (codes "alloc") _ number_of refl refl number_is_word size_is refl,
  (
    one_lets (codes "free") _ number_of refl refl number_is_word (λ text n is. refl) refl,
    (
      one_lets (codes "attach") _ number_of refl refl number_is_word (λ text n is. refl) refl,
      (
        two_lets (codes "attach_at") _ number_of address_of refl refl number_is_word (λ text. refl) (words_pass (codes "attach_at") address_of address_is_word (λ rest untranslated. refl)),
        (
          one_lets (codes "detach") _ address_of refl refl address_is_word (λ text a is. refl) refl,
          (
            two_lets (codes "peek") _ address_of number_of refl refl address_is_word (λ text. refl) (λ rest n is untranslated. size_passes rest n is),
            (
              two_lets (codes "poke") _ address_of some_bytes_of_hex refl refl address_is_word (λ text. refl) (words_pass (codes "poke") some_bytes_of_hex bytes_are_word (λ rest. untranslated_other (Words rest) [] (skip_blanks rest))),
              (
                none_lets (codes "capalloc") _ refl refl (record { sized = refl; tail = refl }),
                (
                  one_lets (codes "capfree") _ number_of refl refl number_is_word (λ text n is. refl) refl,
                  (
                    one_lets (codes "new") _ number_of refl refl number_is_word size_is refl,
                    (
                      one_lets (codes "del") _ address_of refl refl address_is_word (λ text a is. refl) refl,
                      (
                        one_lets (codes "snew") _ number_of refl refl number_is_word size_is refl,
                        (
                          one_lets (codes "sdel") _ address_of refl refl address_is_word (λ text a is. refl) refl,
                          (
                            text_lets (codes "open") Call.Open name_of refl refl name_is_word (λ text. refl) (λ rest untranslated. kept_passes rest),
                            (
                              text_lets (codes "upgrade") Call.Upgrade number_of refl refl number_is_word (λ text. refl) (λ rest untranslated. kept_passes rest),
                              (
                                text_lets (codes "call") Call.CallSession number_of refl refl number_is_word (λ text. refl) keeps_request,
                                (
                                  one_lets (codes "close") _ number_of refl refl number_is_word (λ text n is. refl) refl,
                                  (
                                    none_lets (codes "exit") _ refl refl (record { sized = refl; tail = refl }),
                                    (
                                      none_lets (codes "quota") _ refl refl (record { sized = refl; tail = refl }),
                                      (
                                        none_lets (codes "reserve") _ refl refl (record { sized = refl; tail = refl }),
                                        (rest_lets (codes "request") Call.Request refl refl refl, (rest_lets (codes "yield") Call.Yield refl refl refl, tt)),
                                      ),
                                    ),
                                  ),
                                ),
                              ),
                            ),
                          ),
                        ),
                      ),
                    ),
                  ),
                ),
              ),
            ),
          ),
        ),
      ),
    ),
  ),
)

-- the form of a call, and what stands behind it
pub record IsForm (word : List ℕ) (arguments : Option (List ℕ)) : Type 0 where
  pub word_is : is_word word ≡ true
  passes : PassesAll word arguments

pub form_in : (list : List Form) → AllLet list → (word : List ℕ) (arguments : Option (List ℕ)) (call : Call) → call_in list word arguments ≡ Some call → IsForm word arguments
form_in [] all word arguments call is = absurd (none-some call is)
form_in (form ∷ rest) all word arguments call is =
    elim (bytes_eq word form.word) as (λ t. bytes_eq word form.word ≡ t → cond t (form.call arguments) (call_in rest word arguments) ≡ Some call → IsForm word arguments) [
      | true ↦ λ same found.
          let e : word ≡ form.word = (bytes_eq-Decides word form.word).0 same in
          subst (λ w. IsForm w arguments) (sym e) (record { word_is = all.0.word; passes = all.0.passes arguments call found })
      | false ↦ λ other found. form_in rest all.1 word arguments call found
    ] refl is

-- ---- whole calls

-- the parts of a call spell it
spells : (name form : List ℕ) (arguments : Option (List ℕ)) → is_word name ≡ true → IsForm form arguments
    → is_translated (parts_of (name ++ behind_word (Some (form ++ behind_word arguments)))).tail ≡ false
    → spelled (parts_of (name ++ behind_word (Some (form ++ behind_word arguments)))) ≡ name ++ behind_word (Some (form ++ behind_word arguments))
spells name form arguments is call =
    rw (next_is name (Some (form ++ behind_word arguments)) is, next_is form arguments call.word_is)
    (λ untranslated. rw (call.passes.whole untranslated, spaced_word form call.word_is) refl)

-- what a call of the grammar says
pub record SaysCall (line : List ℕ) : Type 0 where
  pub named : is_path (first_word line).word ≡ true
  pub text : List ℕ
  pub behind : (first_word line).rest ≡ Some text
  pub call : Call
  pub says : form_of text ≡ Some call

pub says_call : (line : List ℕ) → is_some (parsed_call line) ≡ true → SaysCall line
says_call line is =
    let tells : Call → Spoken = λ (call : Call). record { name = (first_word line).word; call = call } in
    elim (is_path (first_word line).word) as (λ t. is_path (first_word line).word ≡ t → is_some (cond t (option_map tells (option_and_then form_of (first_word line).rest)) None) ≡ true → SaysCall line) [
      | false ↦ λ other none. absurd (true≢false (sym none))
      | true ↦ λ named some.
          elim ((first_word line).rest) as (λ rest. (first_word line).rest ≡ rest → is_some (option_map tells (option_and_then form_of rest)) ≡ true → SaysCall line) [
            | None ↦ λ at none. absurd (true≢false (sym none))
            | Some text ↦ λ at some.
                elim (form_of text) as (λ found. form_of text ≡ found → is_some (option_map tells found) ≡ true → SaysCall line) [
                  | None ↦ λ there none. absurd (true≢false (sym none))
                  | Some call ↦ λ there some. record { named = named; text = text; behind = at; call = call; says = there }
                ] refl some
          ] refl some
    ] refl is

-- how a line begins that begins with a path
record BeginsCall (line : List ℕ) : Type 0 where
  unmarked : nat_eq (slice_index line 0) 33 ≡ false
  undirected : nat_eq (slice_index line 0) 64 ≡ false
  text : (nat_eq (length line) 0 || nat_eq (slice_index line 0) 35) ≡ false
  no_log : starts_with nat_eq line (codes "=> ") ≡ false
  skipped : trimmed_line line ≡ line

no_mark : (b : ℕ) (bs : List ℕ) → is_name_byte b ≡ true → without_mark (b ∷ bs) ≡ b ∷ bs
no_mark b bs sign = let other : nat_eq 239 b ≡ false = grind (arith, nat_tests) in rw other refl

begins : (name more : List ℕ) → is_path name ≡ true → BeginsCall (name ++ more)
begins [] more is = absurd (true≢false (sym is))
begins (b ∷ bs) more is =
    let sign : is_name_byte b ≡ true = path_begins b bs is in
    let one : nat_eq b 33 ≡ false = grind (arith, nat_tests) in
    let two : nat_eq b 35 ≡ false = grind (arith, nat_tests) in
    let four : nat_eq b 64 ≡ false = grind (arith, nat_tests) in
    let three : nat_eq 61 b ≡ false = grind (arith, nat_tests) in
    let some : nat_eq (length ((b ∷ bs) ++ more)) 0 ≡ false = grind (arith, nat_tests) in
    let blank : is_blank b ≡ false = not-true (is_blank b) (name_sign b sign) in
    record { unmarked = one; undirected = four; text = rw (some, two) refl; no_log = rw three refl; skipped = ap skip_blanks (no_mark b (bs ++ more) sign) ∙ rw blank refl }

-- a call that isn't quoted has no escape
no_fault : (count : ℕ) (tail : CallTail) → is_translated tail ≡ false → fault_in count tail ≡ None
no_fault count (Words rest) untranslated = refl
no_fault count (Kept rest) untranslated = refl
no_fault count (Sized rest) untranslated = refl
no_fault count (Request rest) untranslated = refl
no_fault count (Quoted front inside left) untranslated = absurd (true≢false untranslated)

added_short : (line : List ℕ) → length line ≤ longest_line → added (Some []) line ≡ Some line
unfolding added
added_short line short = let fits : nat_le (length line) (longest_line - length {A = ℕ} []) ≡ true = grind (arith, nat_tests) in rw fits refl

-- the line that a call is, where it spells itself
call_said : (column : ℕ) (line : List ℕ) → IsPlain line → spelled (parts_of line) ≡ line → said_of_call column line None ≡ Ok (FriendlyLine.Call line None)
call_said column line plain spelt =
    rw (plain.straight, no_fault (length line) (parts_of line).tail plain.untranslated, spelt, added_short line plain.short, plain.call) refl

both_said : (column : ℕ) (line : List ℕ) → IsPlain line → said_of_both column line ≡ said_of_call column line None
both_said column line plain = rw (plain.closed, plain.arrow) refl

-- ---- lines without the later forms

arrow_is : ArrowsFollowSpaces
arrow_is [] no_tab = refl
arrow_is (b ∷ bs) no_tab =
    let same : is_blank b ≡ nat_eq 32 b = grind (arith, nat_tests) in
    ap (λ t. t && starts_with nat_eq bs (codes "=> ")) same

pub later_forms_are_marked : LaterFormsAreMarked
later_forms_are_marked = record {
  mark = λ line none. rw none refl;
  comment = λ text none. rw none refl;
  meant = λ text none. rw none refl;
  arrow = arrow_is;
  request = λ blank text plain. ap (λ l. 32 ∷ l) (request_passes text plain);
  peek = λ rest plain.
      ap (λ w. spaced w ++ words_spaced false (next_word rest).rest) (plain_size (next_word rest).word plain) ∙ sym (words_next rest);
  reply = exact_meets;
}

-- ---- a plain line

-- without an arrow no reply is meant
no_arrow_stays : (text : List ℕ) → arrow_of text ≡ None → without_meant text ≡ text
no_arrow_stays text none =
    let ends : Bool = nat_eq (slice_index text (length text - 1)) 33 in
    let unmeant : is_meant text ≡ false =
    ap (λ found. ends && (begins_as_call text && is_some found)) none
    ∙ ap (λ b. ends && b) (and-false (begins_as_call text)) ∙ and-false ends in
    rw unmeant refl

plain_content : (line : List ℕ) → IsPlain line → without_meant (without_comment line) ≡ line
plain_content line plain = ap without_meant (later_forms_are_marked.comment line plain.comment) ∙ no_arrow_stays line plain.arrow

text_said : (column : ℕ) (line : List ℕ) → IsPlain line → BeginsCall line → said_of_text column line ≡ said_of_both column line
text_said column line plain front = rw (front.text, front.no_log) (ap (said_of_both column) (plain_content line plain))

signs_said : (column : ℕ) (line : List ℕ) → BeginsCall line → without_return line ≡ line → said_of_signs column line ≡ said_of_text column line
signs_said column line front ending = rw front.unmarked (ap (said_of_text column) ending)

-- a call begins with its name
begins_call : (line : List ℕ) → SaysCall line → BeginsCall line
begins_call line says =
    subst BeginsCall (sym (word_and_behind line)) (begins (first_word line).word (behind_word (first_word line).rest) says.named)

-- and so is no directive
pub no_directive : (line : List ℕ) → is_some (parsed_call line) ≡ true → nat_eq (slice_index (trimmed_line line) 0) 64 ≡ false
no_directive line is =
    let front : BeginsCall line = begins_call line (says_call line is) in
    ap (λ (signs : List ℕ). nat_eq (slice_index signs 0) 64) front.skipped ∙ front.undirected

pub not_passed : (line : List ℕ) → is_some (parsed_call line) ≡ true → is_passed line ≡ false
not_passed line is =
    let front : BeginsCall line = begins_call line (says_call line is) in
    ap (λ (signs : List ℕ). nat_eq (slice_index signs 0) 33) front.skipped ∙ front.unmarked

pub plain_lines_pass : PlainLinesPass
plain_lines_pass line plain =
    let says : SaysCall line = says_call line plain.call in
    let name : List ℕ = (first_word line).word in
    let form : List ℕ = (first_word says.text).word in
    let arguments : Option (List ℕ) = (first_word says.text).rest in
    let whole : line ≡ name ++ behind_word (Some (form ++ behind_word arguments)) =
    word_and_behind line ∙ ap (λ r. name ++ behind_word r) says.behind ∙ ap (λ t. name ++ 32 ∷ t) (word_and_behind says.text) in
    let spelt : spelled (parts_of line) ≡ line =
    subst (λ l. is_translated (parts_of l).tail ≡ false → spelled (parts_of l) ≡ l) (sym whole)
    (spells name form arguments (is_path_word name says.named) (form_in forms forms_let form arguments says.call says.says)) plain.untranslated in
    let front : BeginsCall line = begins_call line says in
    let column : ℕ = length line - length line + 1 in
    ap (λ s. said_of_signs (length line - length s + 1) s) front.skipped
    ∙ signs_said column line front plain.ending ∙ text_said column line plain front ∙ both_said column line plain ∙ call_said column line plain spelt
