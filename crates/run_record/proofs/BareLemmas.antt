-- A bare line is a call with a bare reply as its expectation, if it is a call.
use Rattle.std.proofs.Common.{◌≡◌, ℕ, ◌+◌, ◌-◌, ◌<◌, ◌&&◌, ◌||◌, Bool, true, false, true≢false, cond, not, nat_eq, nat_lt, is_some, List, [], ◌∷◌, ◌++◌, length, take, drop, get_or, position, slice_index, codes, Option, Some, None, Result, Ok, Err, refl, sym, ap, ◌∙◌, arith}
use Rattle.std.specs.List.{list_all, position_or_len, starts_with}
use Rattle.std.specs.Option.{option_map, option_map_or, option_or}
use Rattle.std.proofs.lemmas.Bool.Decides.{nat_tests}
use Rattle.std.proofs.lemmas.Bool.{and_parts, and_from, and_right, not-true}
use Rattle.std.proofs.lemmas.List.Folds.{list_all-append, list_all_at}
use Rattle.std.proofs.Math.Seq.{drop-append-add, take-append_seam}
use Rattle.own_model.specs.Call.{parsed_call}
use Rattle.line_friendly.specs.CallParts.{parts_of, spelled}
use Rattle.line_friendly.specs.Expected.{written_fault}
use Rattle.line_friendly.specs.Friendly.{FriendlyLine, arrow_of, call_part, fault_in, no_call, reply_part, said_escaped, said_of, said_of_both, said_of_call, said_of_line, said_of_signs, said_of_text, trimmed_line, without_comment, without_mark, without_meant, without_return}
use Rattle.line_friendly.specs.Friendly.FriendlyLine.{Call as CallContent}
use Rattle.line_friendly.specs.LineText.{added}
use Rattle.line_friendly.specs.Quotes.{after_byte, after_text, first_stray, is_arrow, is_outside, is_stray}
use Rattle.line_friendly.specs.Words.{is_blank, skip_blanks}
use Rattle.line_friendly.specs.declared.fault.FriendlyFault.{FriendlyFault}
use Rattle.line_friendly.specs.declared.fault.LineReason.TheVariants.{BadEscape, StrayArrow}
use Rattle.line_friendly.proofs.QuoteLemmas.{no_first}
use Rattle.run_record.specs.Bare.{is_bare, is_bare_byte, is_bare_line}

-- ---- bytes that bare texts don't have

abbrev pub is_without : ℕ → List ℕ → Bool
is_without c text = list_all (λ b. not (nat_eq b c)) text

abbrev KeepsOut : ℕ → Type 0
KeepsOut c = (b : ℕ) → is_bare_byte b ≡ true → not (nat_eq b c) ≡ true

no_return : KeepsOut 13
no_return b bare = grind (arith, nat_tests)

no_mark : KeepsOut 33
no_mark b bare = grind (arith, nat_tests)

no_quote : KeepsOut 34
no_quote b bare = grind (arith, nat_tests)

no_comment_sign : KeepsOut 35
no_comment_sign b bare = grind (arith, nat_tests)

no_dollar : KeepsOut 36
no_dollar b bare = grind (arith, nat_tests)

no_equals : KeepsOut 61
no_equals b bare = grind (arith, nat_tests)

kept_out : (c : ℕ) → KeepsOut c → (text : List ℕ) → is_bare text ≡ true → is_without c text ≡ true
kept_out c keeps [] bare = refl
kept_out c keeps (b ∷ bs) bare =
    and_from (not (nat_eq b c)) (is_without c bs) (keeps b (and_parts (is_bare_byte b) (is_bare bs) bare).0)
    (kept_out c keeps bs (and_parts (is_bare_byte b) (is_bare bs) bare).1)

-- a line with an expected reply
abbrev pub expected_line : List ℕ → List ℕ → List ℕ
expected_line line reply = line ++ 32 ∷ 61 ∷ 62 ∷ 32 ∷ reply

whole_without : (c : ℕ) → KeepsOut c → is_without c (codes " => ") ≡ true → (line reply : List ℕ) → is_bare line ≡ true → is_bare reply ≡ true →
    is_without c (expected_line line reply) ≡ true
whole_without c keeps arrow line reply bare expected =
    list_all-append (λ b. not (nat_eq b c)) line (32 ∷ 61 ∷ 62 ∷ 32 ∷ reply)
    ∙ and_from (is_without c line) (is_without c (32 ∷ 61 ∷ 62 ∷ 32 ∷ reply)) (kept_out c keeps line bare)
    (list_all-append (λ b. not (nat_eq b c)) (codes " => ") reply
    ∙ and_from (is_without c (codes " => ")) (is_without c reply) arrow (kept_out c keeps reply expected))

without_first : (c b : ℕ) (bs : List ℕ) → is_without c (b ∷ bs) ≡ true → nat_eq b c ≡ false
without_first c b bs free = not-true (nat_eq b c) (and_parts (not (nat_eq b c)) (is_without c bs) free).0

without_more : (c b : ℕ) (bs : List ℕ) → is_without c (b ∷ bs) ≡ true → is_without c bs ≡ true
without_more c b bs free = (and_parts (not (nat_eq b c)) (is_without c bs) free).1

-- no byte at any place is such a byte
at_other : (c : ℕ) (text : List ℕ) (i : ℕ) → i < length text → is_without c text ≡ true → nat_eq (get_or text i 0) c ≡ false
at_other c text i within free =
    elim (nat_eq (get_or text i 0) c) as (λ t. nat_eq (get_or text i 0) c ≡ t → t ≡ false) [
      | true ↦ λ is. absurd (true≢false (sym free ∙ list_all_at (λ b. not (nat_eq b c)) text i 0 within (ap not is)))
      | false ↦ λ other. refl
    ] refl

nowhere_else : (c : ℕ) (text : List ℕ) → is_without c text ≡ true → position_or_len (λ b. nat_eq b c) text ≡ length text
nowhere_else c [] free = refl
nowhere_else c (b ∷ bs) free =
    let rest : position_or_len (λ b. nat_eq b c) bs ≡ length bs = nowhere_else c bs (without_more c b bs free) in
    let one : 1 + position_or_len (λ b. nat_eq b c) bs ≡ length (b ∷ bs) = omega (arith, rest) in
    rw (without_first c b bs free) one

no_less : (n : ℕ) → nat_lt n n ≡ false
no_less n = grind (arith, nat_tests)

pub nowhere : (c : ℕ) (text : List ℕ) → is_without c text ≡ true → position (λ b. nat_eq b c) text ≡ None
nowhere c text free =
    ap (λ n. cond (nat_lt n (length text)) (Some n) None) (nowhere_else c text free) ∙ ap (λ t. cond t (Some (length text)) None) (no_less (length text))

-- ---- quotes and arrows

-- what no byte of a text changes stays after the text
stays_by : {S : Type 0} (at : S) (step : S → ℕ → S) (after : S → List ℕ → S) → after at [] ≡ at → ((b : ℕ) (bs : List ℕ) → after at (b ∷ bs) ≡ after (step at b) bs) →
    ((b : ℕ) → nat_eq b 34 ≡ false → step at b ≡ at) → (text : List ℕ) → is_without 34 text ≡ true → after at text ≡ at
stays_by at step after none more same [] free = none
stays_by at step after none more same (b ∷ bs) free =
    more b bs ∙ ap (λ s. after s bs) (same b (without_first 34 b bs free)) ∙ stays_by at step after none more same bs (without_more 34 b bs free)

cond_true : {X : Type 0} (test : Bool) (x y : X) → test ≡ true → cond test x y ≡ x
cond_true test x y is = rw is refl

no_arrow_here : (b : ℕ) (bs : List ℕ) → is_without 61 bs ≡ true → is_arrow (b ∷ bs) ≡ false
no_arrow_here b [] free = and_right (is_blank b) false refl
no_arrow_here b (c ∷ cs) free =
    let unequal : nat_eq c 61 ≡ false = without_first 61 c cs free in
    let other : nat_eq 61 c ≡ false = grind (arith, nat_tests) in
    and_right (is_blank b) (starts_with nat_eq (c ∷ cs) (codes "=> ")) (rw other refl)

no_arrow : (text : List ℕ) → is_without 34 text ≡ true → is_without 61 text ≡ true → arrow_of text ≡ None
no_arrow [] plain free = refl
no_arrow (b ∷ bs) plain free =
    let later : arrow_of bs ≡ None = no_arrow bs (without_more 34 b bs plain) (without_more 61 b bs free) in
    rw (without_first 34 b bs plain, later, no_arrow_here b bs (without_more 61 b bs free)) refl

-- nor is there another `=>`
no_stray_here : (b : ℕ) (bs : List ℕ) → is_without 61 bs ≡ true → is_stray (b ∷ bs) ≡ false
no_stray_here b [] free = refl
no_stray_here b (c ∷ cs) free =
    let unequal : nat_eq c 61 ≡ false = without_first 61 c cs free in
    let other : nat_eq 61 c ≡ false = grind (arith, nat_tests) in
    let tip : starts_with nat_eq (c ∷ cs) (codes "=>") ≡ false = rw other refl in
    ap (λ t. t && not (is_arrow (b ∷ c ∷ cs) && not (list_all is_blank (drop 4 (b ∷ c ∷ cs))))) tip

no_stray : {S : Type 0} (at : S) (outside : S → Bool) (step : S → ℕ → S) (first : S → List ℕ → Option ℕ) → first at [] ≡ None →
    ((b : ℕ) (bs : List ℕ) → first at (b ∷ bs) ≡ cond (outside (step at b) && is_stray (b ∷ bs)) (Some 0) (option_map (λ n. 1 + n) (first (step at b) bs))) →
    ((b : ℕ) → nat_eq b 34 ≡ false → step at b ≡ at) → (text : List ℕ) → is_without 34 text ≡ true → is_without 61 text ≡ true → first at text ≡ None
no_stray at outside step first none more same [] plain free = none
no_stray at outside step first none more same (b ∷ bs) plain free =
    more b bs
    ∙ ap (λ t. cond t (Some 0) (option_map (λ n. 1 + n) (first (step at b) bs))) (and_right (outside (step at b)) (is_stray (b ∷ bs)) (no_stray_here b bs (without_more 61 b bs free)))
    ∙ ap (λ s. option_map (λ n. 1 + n) (first s bs)) (same b (without_first 34 b bs plain))
    ∙ ap (option_map (λ n. 1 + n)) (no_stray at outside step first none more same bs (without_more 34 b bs plain) (without_more 61 b bs free))

-- the arrow after a line
arrow_first : (reply : List ℕ) → is_without 34 reply ≡ true → is_without 61 reply ≡ true → arrow_of (32 ∷ 61 ∷ 62 ∷ 32 ∷ reply) ≡ Some 0
arrow_first reply plain free = rw (no_arrow (32 ∷ reply) plain free) refl

found_behind : (front more : List ℕ) (n : ℕ) → is_without 34 front ≡ true → arrow_of more ≡ Some n → arrow_of (front ++ more) ≡ Some (length front + n)
found_behind [] more n plain found = found ∙ ap Some (none_before n)
  where
    none_before : (n : ℕ) → n ≡ 0 + n
    none_before n = omega arith
found_behind (b ∷ bs) more n plain found =
    rw (without_first 34 b bs plain, found_behind bs more n (without_more 34 b bs plain) found) (ap Some (one_before bs n))
  where
    one_before : (bs : List ℕ) (n : ℕ) → 1 + (length bs + n) ≡ length (b ∷ bs) + n
    one_before bs n = omega arith

-- ---- what a line says

-- a text that begins with a token, and has none of these signs
pub record HasNoSigns (text : List ℕ) : Type 0 where
  pub begins : nat_lt 36 (slice_index text 0) ≡ true
  pub plain : nat_lt (slice_index text 0) 128 ≡ true
  pub undirected : nat_eq (slice_index text 0) 64 ≡ false
  pub no_log : nat_eq 61 (slice_index text 0) ≡ false
  pub no_return : is_without 13 text ≡ true
  pub no_mark : is_without 33 text ≡ true
  pub no_quote : is_without 34 text ≡ true
  pub no_comment : is_without 35 text ≡ true
  pub no_dollar : is_without 36 text ≡ true

last_within : (text : List ℕ) → nat_lt 36 (slice_index text 0) ≡ true → length text - 1 < length text
last_within [] begins = absurd (true≢false (sym begins))
last_within (b ∷ bs) begins = omega arith

pub trimmed_is : (text : List ℕ) → HasNoSigns text → trimmed_line text ≡ text
trimmed_is [] signs = absurd (true≢false (sym signs.begins))
trimmed_is (b ∷ bs) signs =
    let begins : nat_lt 36 b ≡ true = signs.begins in
    let plain : nat_lt b 128 ≡ true = signs.plain in
    let one : nat_eq 239 b ≡ false = grind (arith, nat_tests) in
    let blank : is_blank b ≡ false = grind (arith, nat_tests) in
    ap skip_blanks (the_mark b bs one) ∙ rw blank refl
  where
    the_mark : (b : ℕ) (bs : List ℕ) → nat_eq 239 b ≡ false → without_mark (b ∷ bs) ≡ b ∷ bs
    the_mark b bs other = rw other refl

unmarked : (text : List ℕ) → HasNoSigns text → nat_eq (slice_index text 0) 33 ≡ false
unmarked text signs = let begins : nat_lt 36 (slice_index text 0) ≡ true = signs.begins in grind (arith, nat_tests)

is_text : (text : List ℕ) → HasNoSigns text → (nat_eq (length text) 0 || nat_eq (slice_index text 0) 35) ≡ false
is_text [] signs = absurd (true≢false (sym signs.begins))
is_text (b ∷ bs) signs = let begins : nat_lt 36 b ≡ true = signs.begins in grind (arith, nat_tests)

is_no_log : (text : List ℕ) → HasNoSigns text → starts_with nat_eq text (codes "=> ") ≡ false
is_no_log [] signs = refl
is_no_log (b ∷ bs) signs = rw signs.no_log refl

pub ending : (text : List ℕ) → HasNoSigns text → without_return text ≡ text
ending text signs = rw (at_other 13 text (length text - 1) (last_within text signs.begins) signs.no_return) refl

pub content : (text : List ℕ) → HasNoSigns text → without_meant (without_comment text) ≡ text
content text signs =
    ap without_meant (ap (λ found. option_map_or (λ n. take n text) found text) (no_first _ text signs.no_comment))
    ∙ rw (at_other 33 text (length text - 1) (last_within text signs.begins) signs.no_mark) refl

both_parts : (text : List ℕ) → HasNoSigns text → said_of_both 1 text ≡ said_of_call 1 (call_part text) (reply_part text)
both_parts text signs = cond_true _ _ _ (ap is_outside (stays_by _ after_byte after_text refl (λ b bs. refl) (λ b other. rw other refl) text signs.no_quote))

-- it is a call, and the expected reply after its arrow
column_is : (n : ℕ) → n - n + 1 ≡ 1
column_is n = omega arith

says_parts : (text : List ℕ) → HasNoSigns text → said_of text ≡ said_of_call 1 (call_part text) (reply_part text)
says_parts text signs =
    let from_signs : said_of text ≡ said_of_signs 1 text =
    ap (λ s. said_of_signs (length text - length s + 1) s) (trimmed_is text signs) ∙ ap (λ n. said_of_signs n text) (column_is (length text)) in
    let from_text : said_of_signs 1 text ≡ said_of_text 1 text = rw (unmarked text signs) (ap (said_of_text 1) (ending text signs)) in
    let from_both : said_of_text 1 text ≡ said_of_both 1 text = rw (is_text text signs, is_no_log text signs) (ap (said_of_both 1) (content text signs)) in
    from_signs ∙ from_text ∙ from_both ∙ both_parts text signs

-- ---- bare lines

bare_first : (b : ℕ) (bs : List ℕ) → is_bare_line (b ∷ bs) ≡ true → is_bare_byte b ≡ true
bare_first b bs line = (and_parts (is_bare_byte b) (is_bare bs) (and_parts (nat_lt 36 b) (is_bare (b ∷ bs)) line).1).0

line_is_bare : (line : List ℕ) → is_bare_line line ≡ true → is_bare line ≡ true
line_is_bare line is = (and_parts (nat_lt 36 (slice_index line 0)) (is_bare line) is).1

pub has_none : (line : List ℕ) → is_bare_line line ≡ true → HasNoSigns line
has_none [] line = absurd (true≢false (sym line))
has_none (b ∷ bs) line =
    let first : is_bare_byte b ≡ true = bare_first b bs line in
    let bare : is_bare (b ∷ bs) ≡ true = line_is_bare (b ∷ bs) line in
    let begins : nat_lt 36 b ≡ true = (and_parts (nat_lt 36 b) (is_bare (b ∷ bs)) line).0 in
    record {
      begins = begins;
      plain = grind (arith, nat_tests);
      undirected = grind (arith, nat_tests);
      no_log = grind (arith, nat_tests);
      no_return = kept_out 13 no_return (b ∷ bs) bare;
      no_mark = kept_out 33 no_mark (b ∷ bs) bare;
      no_quote = kept_out 34 no_quote (b ∷ bs) bare;
      no_comment = kept_out 35 no_comment_sign (b ∷ bs) bare;
      no_dollar = kept_out 36 no_dollar (b ∷ bs) bare;
    }

pub whole_has_none : (line reply : List ℕ) → is_bare_line line ≡ true → is_bare reply ≡ true → HasNoSigns (expected_line line reply)
whole_has_none [] reply line expected = absurd (true≢false (sym line))
whole_has_none (b ∷ bs) reply line expected =
    let signs : HasNoSigns (b ∷ bs) = has_none (b ∷ bs) line in
    let bare : is_bare (b ∷ bs) ≡ true = line_is_bare (b ∷ bs) line in
    record {
      begins = signs.begins;
      plain = signs.plain;
      undirected = signs.undirected;
      no_log = signs.no_log;
      no_return = whole_without 13 no_return refl (b ∷ bs) reply bare expected;
      no_mark = whole_without 33 no_mark refl (b ∷ bs) reply bare expected;
      no_quote = whole_without 34 no_quote refl (b ∷ bs) reply bare expected;
      no_comment = whole_without 35 no_comment_sign refl (b ∷ bs) reply bare expected;
      no_dollar = whole_without 36 no_dollar refl (b ∷ bs) reply bare expected;
    }

-- ---- the same call with an expected reply

arrow_behind : (line reply : List ℕ) → is_bare line ≡ true → is_bare reply ≡ true → arrow_of (expected_line line reply) ≡ Some (length line)
arrow_behind line reply bare expected =
    found_behind line (32 ∷ 61 ∷ 62 ∷ 32 ∷ reply) 0 (kept_out 34 no_quote line bare)
    (arrow_first reply (kept_out 34 no_quote reply expected) (kept_out 61 no_equals reply expected))
    ∙ ap Some (plus_none (length line))
  where
    plus_none : (n : ℕ) → n + 0 ≡ n
    plus_none n = omega arith

call_is : (line reply : List ℕ) → arrow_of (expected_line line reply) ≡ Some (length line) → call_part (expected_line line reply) ≡ line
call_is line reply arrow =
    ap (λ found. option_map_or (λ n. take n (expected_line line reply)) found (expected_line line reply)) arrow
    ∙ take-append_seam line (32 ∷ 61 ∷ 62 ∷ 32 ∷ reply)

reply_is : (line reply : List ℕ) → arrow_of (expected_line line reply) ≡ Some (length line) → reply_part (expected_line line reply) ≡ Some reply
reply_is line reply arrow =
    ap (λ found. option_map (λ n. drop (n + 4) (expected_line line reply)) found) arrow
    ∙ ap Some (drop-append-add line (32 ∷ 61 ∷ 62 ∷ 32 ∷ reply) 4)

pub arrow_none : (line : List ℕ) → is_bare_line line ≡ true → arrow_of line ≡ None
arrow_none line is =
    no_arrow line (kept_out 34 no_quote line (line_is_bare line is)) (kept_out 61 no_equals line (line_is_bare line is))

says_line : (line : List ℕ) → is_bare_line line ≡ true → said_of line ≡ said_of_call 1 line None
says_line line is =
    says_parts line (has_none line is)
    ∙ ap (λ found. said_of_call 1 (option_map_or (λ n. take n line) found line) (option_map (λ n. drop (n + 4) line) found)) (arrow_none line is)

says_whole : (line reply : List ℕ) → is_bare_line line ≡ true → is_bare reply ≡ true → said_of (expected_line line reply) ≡ said_of_call 1 line (Some reply)
says_whole line reply is expected =
    let arrow : arrow_of (expected_line line reply) ≡ Some (length line) = arrow_behind line reply (line_is_bare line is) expected in
    says_parts (expected_line line reply) (whole_has_none line reply is expected)
    ∙ ap (λ call. said_of_call 1 call (reply_part (expected_line line reply))) (call_is line reply arrow)
    ∙ ap (said_of_call 1 line) (reply_is line reply arrow)

-- a call that is said without an expected reply is said with one too that has no text in quotes
abbrev said : FriendlyLine → Result FriendlyLine FriendlyFault
said line = Ok line

unwritten : (reply : List ℕ) → position (λ b. nat_eq b 34) reply ≡ None → written_fault reply ≡ None
unwritten reply none = rw none refl

same_call : (made spoken reply : List ℕ) → said (CallContent made None) ≡ said (CallContent spoken None) →
    said (CallContent made (Some reply)) ≡ said (CallContent spoken (Some reply))
same_call made spoken reply is = cc

line_said : (call reply : List ℕ) (made : Option (List ℕ)) (spoken : List ℕ) → said_of_line 1 call made None ≡ said (CallContent spoken None) →
    said_of_line 1 call made (Some reply) ≡ said (CallContent spoken (Some reply))
line_said call reply None spoken is = cc
line_said call reply (Some made) spoken is = by_test (is_some (parsed_call made)) refl
  where
    by_test : (t : Bool) → is_some (parsed_call made) ≡ t → said_of_line 1 call (Some made) (Some reply) ≡ said (CallContent spoken (Some reply))
    by_test true parsed =
        let so : said (CallContent made None) ≡ said (CallContent spoken None) = rw parsed at is in
        rw parsed (same_call made spoken reply so)
    by_test false other =
        let so : Err (no_call 1 call) ≡ said (CallContent spoken None) = rw other at is in
        cc

call_said : (call reply spoken : List ℕ) (fault : Option ℕ) (made : Option (List ℕ)) →
    option_map_or (λ n. Err (record { reason = BadEscape; column = 1 + n })) fault (said_of_line 1 call made None) ≡ said (CallContent spoken None) →
    option_map_or (λ n. Err (record { reason = BadEscape; column = 1 + n })) fault (said_of_line 1 call made (Some reply)) ≡ said (CallContent spoken (Some reply))
call_said call reply spoken None made is = line_said call reply made spoken is
call_said call reply spoken (Some n) made is = cc

no_more : (fault : Option ℕ) → option_or fault None ≡ fault
no_more None = refl
no_more (Some n) = refl

says_with : (call reply spoken : List ℕ) → is_bare reply ≡ true → said_escaped 1 call None ≡ said (CallContent spoken None) →
    said_escaped 1 call (Some reply) ≡ said (CallContent spoken (Some reply))
says_with call reply spoken expected is =
    let fault : Option ℕ = fault_in (length call) (parts_of call).tail in
    let made : Option (List ℕ) = added (Some []) (spelled (parts_of call)) in
    let none : written_fault reply ≡ None = unwritten reply (nowhere 34 reply (kept_out 34 no_quote reply expected)) in
    let by_fault : Option ℕ → Option (List ℕ) → Result FriendlyLine FriendlyFault =
    λ (found : Option ℕ) (expects : Option (List ℕ)). option_map_or (λ n. Err (record { reason = BadEscape; column = 1 + n })) found (said_of_line 1 call made expects) in
    ap (λ w. by_fault (option_or fault (option_map (λ n. length call + 4 + n) w)) (Some reply)) none
    ∙ ap (λ f. by_fault f (Some reply)) (no_more fault)
    ∙ call_said call reply spoken fault made (sym (ap (λ f. by_fault f None) (no_more fault)) ∙ is)

escaped : (line : List ℕ) (reply : Option (List ℕ)) → is_bare_line line ≡ true → said_of_call 1 line reply ≡ said_escaped 1 line reply
escaped line reply is =
    let bare : is_bare line ≡ true = line_is_bare line is in
    ap (λ found. option_map_or (λ n. Err (record { reason = StrayArrow; column = 1 + n + 1 })) found (said_escaped 1 line reply))
    (no_stray _ is_outside after_byte first_stray refl (λ b bs. refl) (λ b other. rw other refl) line (kept_out 34 no_quote line bare) (kept_out 61 no_equals line bare))

pub bare_said : (line reply spoken : List ℕ) → is_bare_line line ≡ true → is_bare reply ≡ true → said_of line ≡ said (CallContent spoken None) →
    said_of (expected_line line reply) ≡ said (CallContent spoken (Some reply))
bare_said line reply spoken is expected says =
    says_whole line reply is expected ∙ escaped line (Some reply) is
    ∙ says_with line reply spoken expected (sym (escaped line None is) ∙ sym (says_line line is) ∙ says)
