-- What is expected of a reply, byte by byte.
use Rattle.std.proofs.Common.{◌≡◌, ℕ, ◌+◌, ◌<◌, ◌≤◌, ◌&&◌, ◌||◌, Bool, true, false, true≢false, cond, not, nat_eq, nat_lt, zero, suc, ◌-◌, List, [], ◌∷◌, length, drop, take, get_or, position, Option, Some, None, refl, sym, ap, ◌∙◌, subst, arith, codes}
use Rattle.std.specs.List.{list_all, position_or_len}
use Rattle.std.specs.Option.{option_map_or}
use Rattle.std.specs.Str.{bytes_eq}
use Rattle.std.proofs.lemmas.Bool.Decides.{nat_tests}
use Rattle.std.proofs.lemmas.List.{drop_all}
use Rattle.own_model.specs.FileText.{FileReply}
use Rattle.own_model.specs.Reply.Reply.{Selected, Attached, Bytes, Done, Quotas, Reserved, Told, Refused}
use Rattle.trade_base.specs.Refusal.{refusal_name}
use Rattle.trade_base.specs.declared.refusal.Refusal.{Refusal}
use Rattle.trade_base.specs.declared.refusal.Refusal.TheVariants.{BadLine, UnknownComponent, NotAScript, Gone, BadArgs, InvalidSize, InvalidCap, OutOfRam, OutOfCaps, RegionConflict, TooManyRegions, PageFault, TooManyChunks, ServiceDenied, InsufficientRamQuota, InsufficientCapQuota, InvalidSession}
use Rattle.line_friendly.specs.Expectations.{CoreShowsRefusals, ExactRepliesAreEqual, FilesShowRefusals, RefusalsAreTold}
use Rattle.line_friendly.specs.Expected.{bytes_for, is_refusal, meets_both, meets_words, reply_behind, matched_from, written_in}
use Rattle.line_friendly.specs.Words.{is_blank}
use Rattle.line_friendly.proofs.QuoteLemmas.{byte_at}
use Rattle.line_friendly.proofs.WordLemmas.{place_none}

pub nothing_is_capital : (reply : List ℕ) → length reply ≡ 0 → is_refusal reply ≡ false
nothing_is_capital [] none = refl
nothing_is_capital (b ∷ bs) none = absurd (omega (arith, none))

-- ---- byte by byte

pub behind_step : (expected left : List ℕ) (begins : Bool) (i b count : ℕ) → i < length expected → get_or expected i 0 ≡ b →
    count ≡ bytes_for begins b (drop (i + 1) expected) left → 0 < count →
    reply_behind begins (drop i expected) left ≡ reply_behind (is_blank b) (drop (i + 1) expected) (drop count left)
behind_step expected left begins i b count within is counts some =
    let more : nat_lt 0 (bytes_for begins b (drop (i + 1) expected) left) ≡ true = subst (λ n. nat_lt 0 n ≡ true) counts (grind (arith, nat_tests)) in
    rw (byte_at expected i b within is, more) (ap (λ n. reply_behind (is_blank b) (drop (i + 1) expected) (drop n left)) (sym counts))

pub behind_none : (expected left : List ℕ) (begins : Bool) (i b count : ℕ) → i < length expected → get_or expected i 0 ≡ b →
    count ≡ bytes_for begins b (drop (i + 1) expected) left → count ≡ 0 → reply_behind begins (drop i expected) left ≡ None
behind_none expected left begins i b count within is counts none =
    let zero : nat_lt 0 (bytes_for begins b (drop (i + 1) expected) left) ≡ false = subst (λ n. nat_lt 0 n ≡ false) counts (grind (arith, nat_tests)) in
    rw (byte_at expected i b within is, zero) refl

-- ---- what stands at a place

pub stands_step : (expected left : List ℕ) (begins : Bool) (place i b count : ℕ) → i < length expected → get_or expected i 0 ≡ b →
    count ≡ bytes_for begins b (drop (i + 1) expected) left → i < place →
    matched_from (place - i) begins (drop i expected) left ≡ matched_from (place - (i + 1)) (is_blank b) (drop (i + 1) expected) (drop count left)
stands_step expected left begins place i b count within is counts before =
    let less : place - i ≡ suc (place - (i + 1)) = omega arith in
    rw (byte_at expected i b within is, less) (ap (λ n. matched_from (place - (i + 1)) (is_blank b) (drop (i + 1) expected) (drop n left)) (sym counts))

pub stands_here : (expected left : List ℕ) (begins : Bool) (place i b count : ℕ) → i < length expected → get_or expected i 0 ≡ b →
    count ≡ bytes_for begins b (drop (i + 1) expected) left → i ≡ place → matched_from (place - i) begins (drop i expected) left ≡ take count left
stands_here expected left begins place i b count within is counts here =
    let none : place - i ≡ 0 = omega arith in
    rw (byte_at expected i b within is, none) (ap (λ n. take n left) (sym counts))

pub stands_end : (expected left : List ℕ) (begins : Bool) (place i : ℕ) → length expected ≤ i → matched_from place begins (drop i expected) left ≡ []
stands_end expected left begins place i past = rw (drop_all i expected past) refl

pub ruleset places_stand = (stands_step, stands_here, stands_end)

-- ---- what is behind it

pub behind_end : (expected left : List ℕ) (begins : Bool) (i : ℕ) → length expected ≤ i → reply_behind begins (drop i expected) left ≡ Some left
behind_end expected left begins i past = rw (drop_all i expected past) refl

pub ruleset passes = (behind_end)

-- ---- without a sign it is met by the same reply

abbrev is_plain : ℕ → Bool
is_plain b = not (nat_eq b 42) && not (nat_eq b 34)

plain_front : (b : ℕ) (bs : List ℕ) → list_all is_plain (b ∷ bs) ≡ true → (nat_eq b 42 ≡ false) × (nat_eq b 34 ≡ false) × (list_all is_plain bs ≡ true)
plain_front b bs all = (grind (arith, nat_tests), grind (arith, nat_tests), grind (arith, nat_tests))

no_quote : (text : List ℕ) → list_all is_plain text ≡ true → position_or_len (λ b. nat_eq b 34) text ≡ length text
no_quote [] all = refl
no_quote (b ∷ bs) all =
    let front = plain_front b bs all in
    rw front.1 (omega (arith, no_quote bs front.2))

not_written : (text : List ℕ) → list_all is_plain text ≡ true → written_in text ≡ None
not_written text all = rw (no_quote text all) (grind (arith, nat_tests))

-- such a byte stands for itself
stands : (begins : Bool) (b r : ℕ) (more rs : List ℕ) → nat_eq b 42 ≡ false → bytes_for begins b more (r ∷ rs) ≡ cond (nat_eq r b) 1 0
stands begins b r more rs other =
    let some : nat_lt 0 (length (r ∷ rs)) ≡ true = grind (arith, nat_tests) in
    rw (other, some) refl

stands_none : (begins : Bool) (b : ℕ) (more : List ℕ) → nat_eq b 42 ≡ false → bytes_for begins b more [] ≡ 0
stands_none begins b more other = rw other refl

same_behind : (begins : Bool) (expected reply : List ℕ) → list_all is_plain expected ≡ true →
    option_map_or (λ left. bytes_eq left []) (reply_behind begins expected reply) false ≡ bytes_eq reply expected
same_behind begins [] reply all = refl
same_behind begins (b ∷ more) [] all =
    let front = plain_front b more all in
    rw (stands_none begins b more front.0) refl
same_behind begins (b ∷ more) (r ∷ rs) all =
    let front = plain_front b more all in
    rw (stands begins b r more rs front.0) (elim (nat_eq r b) as (λ t. option_map_or (λ left. bytes_eq left [])
    (cond (nat_lt 0 (cond t 1 0)) (reply_behind (is_blank b) more (drop (cond t 1 0) (r ∷ rs))) None) false ≡ (t && bytes_eq rs more)) [
      | true ↦ same_behind (is_blank b) more rs front.2
      | false ↦ refl
    ])

-- a text that has none of both signs
all_plain : (text : List ℕ) → position_or_len (λ b. nat_eq b 42 || nat_eq b 34) text ≡ length text → list_all is_plain text ≡ true
all_plain [] is = refl
all_plain (b ∷ bs) is =
    elim (nat_eq b 42) as (λ s. cond (not (s || nat_eq b 34)) (1 + position_or_len (λ b. nat_eq b 42 || nat_eq b 34) bs) 0 ≡ length (b ∷ bs) → ((not s && not (nat_eq b 34)) && list_all is_plain bs) ≡ true) [
      | true ↦ λ star. absurd (omega (arith, star))
      | false ↦ elim (nat_eq b 34) as (λ q. cond (not q) (1 + position_or_len (λ b. nat_eq b 42 || nat_eq b 34) bs) 0 ≡ length (b ∷ bs) → (not q && list_all is_plain bs) ≡ true) [
        | true ↦ λ quote. absurd (omega (arith, quote))
        | false ↦ λ more. all_plain bs (omega (arith, more))
      ]
    ] is

pub same_words : (reply expected : List ℕ) → position (λ b. nat_eq b 42 || nat_eq b 34) expected ≡ None → meets_words reply expected ≡ bytes_eq reply expected
same_words reply expected none =
    let all : list_all is_plain expected ≡ true = all_plain expected (place_none (λ b. nat_eq b 42 || nat_eq b 34) expected none) in
    rw (not_written expected all) (same_behind true expected reply all)

no_star : (expected : List ℕ) → list_all is_plain expected ≡ true → bytes_eq expected (codes "*") ≡ false
no_star [] all = refl
no_star (b ∷ bs) all = let front = plain_front b bs all in rw front.0 refl

pub exact_meets : ExactRepliesAreEqual
exact_meets reply expected exact =
    rw (exact.not_granted, exact.not_refused, no_star expected exact.no_sign, not_written expected exact.no_sign) (same_behind true expected reply exact.no_sign)

-- ---- refusals

core_told : CoreShowsRefusals
core_told (Selected s) = refl
core_told (Attached a) = refl
core_told (Bytes bytes) = refl
core_told Done = refl
core_told (Quotas account) = refl
core_told (Reserved amounts) = refl
core_told (Told text) = refl
core_told (Refused refusal) = names refusal
  where
    names : (refusal : Refusal) → is_refusal (refusal_name refusal) ≡ true
    names BadLine = refl
    names UnknownComponent = refl
    names NotAScript = refl
    names Gone = refl
    names BadArgs = refl
    names InvalidSize = refl
    names InvalidCap = refl
    names OutOfRam = refl
    names OutOfCaps = refl
    names RegionConflict = refl
    names TooManyRegions = refl
    names PageFault = refl
    names TooManyChunks = refl
    names ServiceDenied = refl
    names InsufficientRamQuota = refl
    names InsufficientCapQuota = refl
    names InvalidSession = refl

files_told : FilesShowRefusals
files_told FileReply.Done = refl
files_told (FileReply.Count n) = refl
files_told (FileReply.Bytes []) = refl
files_told (FileReply.Bytes (b ∷ bytes)) = refl
files_told (FileReply.Named name) = refl
files_told (FileReply.Quotas account) = refl
files_told FileReply.Lent = refl
files_told (FileReply.Refused e) = refl

pub refusals_are_told : RefusalsAreTold
refusals_are_told = record { core = core_told; files = files_told; log = λ count. refl; bad = refl }

pub ruleset laws = (exact_meets, refusals_are_told)
