-- When a reply is one that is expected.
use Rattle.std.specs.Prelude.{ℕ, ◌+◌, ◌==◌, ◌&&◌, ◌||◌, not, Bool, true, false, List, [], ◌∷◌, length, take, drop, codes, zero, suc, nat_eq, nat_lt, position, slice_index, if◌then◌else◌, Option, Some, None}
use Rattle.std.specs.Char.{is_ascii_digit, is_ascii_uppercase}
use Rattle.std.specs.List.{position_or_len, starts_with}
use Rattle.std.specs.Option.{option_and_then, option_map, option_map_or}
use Rattle.std.specs.Str.{bytes_eq}
use Rattle.own_model.specs.Reply.{hex_text}
use Rattle.own_model.specs.Text.{first_word}
use Rattle.line_friendly.specs.Quotes.{inside_quotes}
use Rattle.line_friendly.specs.QuotedBytes.{bytes_of, fault_of}
use Rattle.line_friendly.specs.Words.{is_blank}

-- a refusal begins with a capital letter, and so does the `ERR` of a service; its other replies begin with `OK`
abbrev pub is_refusal : List ℕ → Bool
is_refusal reply = is_ascii_uppercase (slice_index reply 0) && not (bytes_eq (first_word reply).word (codes "OK"))

-- a text in quotes at the end of an expectation, and the text before it
pub record Written : Type 0 where
  pub front : List ℕ
  pub inside : List ℕ

abbrev pub written_in : List ℕ → Option Written
written_in expected =
    option_and_then (λ n. option_map (λ inside. record { front = take n expected; inside = inside }) (inside_quotes (drop n expected)))
    (position (λ b. b == 34) expected)

-- the place of its first invalid escape
abbrev pub written_fault : List ℕ → Option ℕ
written_fault expected =
    option_and_then (λ (w : Written). option_map (λ n. length w.front + 1 + n) (fault_of w.inside)) (written_in expected)

-- a token ends here
abbrev pub is_word_end : List ℕ → Bool
is_word_end text = nat_eq (length text) 0 || is_blank (slice_index text 0)

-- how many bytes of a reply the first byte of an expectation matches: a star that is a token matches a token, another star a
-- number, and each other byte itself
abbrev pub bytes_for : Bool → ℕ → List ℕ → List ℕ → ℕ
bytes_for begins b more reply =
    if b == 42 then (if begins && is_word_end more then position_or_len is_blank reply
    else position_or_len (λ d. not (is_ascii_digit d)) reply)
    else (if nat_lt 0 (length reply) && slice_index reply 0 == b then 1 else 0)

-- the rest of a reply after an expectation each byte of which matches some; a token begins here, or not
abbrev pub reply_behind : Bool → List ℕ → List ℕ → Option (List ℕ)
reply_behind begins [] reply = Some reply
reply_behind begins (b ∷ more) reply =
    if nat_lt 0 (bytes_for begins b more reply)
    then reply_behind (is_blank b) more (drop (bytes_for begins b more reply) reply) else None

-- the part of a reply that the byte at a place of an expectation matches
abbrev pub matched_from : ℕ → Bool → List ℕ → List ℕ → List ℕ
matched_from place begins [] reply = []
matched_from zero begins (b ∷ more) reply = take (bytes_for begins b more reply) reply
matched_from (suc place) begins (b ∷ more) reply =
    matched_from place (is_blank b) more (drop (bytes_for begins b more reply) reply)

-- and the whole reply for a star alone
abbrev pub matched_by : List ℕ → List ℕ → ℕ → List ℕ
matched_by reply expected place = if bytes_eq expected (codes "*") then reply else matched_from place true expected reply

-- a reply begins so and ends so
abbrev pub meets_both : List ℕ → List ℕ → List ℕ → Bool
meets_both reply front end = option_map_or (λ left. bytes_eq left end) (reply_behind true front reply) false

-- byte by byte, or the same and then text in quotes, which denotes its digits
abbrev pub meets_words : List ℕ → List ℕ → Bool
meets_words reply expected =
    option_map_or (λ (w : Written). meets_both reply w.front (hex_text (bytes_of w.inside))) (written_in expected)
    (meets_both reply expected [])

-- a reply matches its expectation: any that is granted, any that is refused, any at all, or a pattern
abbrev pub meets : List ℕ → List ℕ → Bool
meets reply expected =
    if bytes_eq expected (codes "granted") then not (is_refusal reply)
    else (if bytes_eq expected (codes "refused") then is_refusal reply
    else bytes_eq expected (codes "*") || meets_words reply expected)

-- a reply says that its line wasn't understood
abbrev pub is_misread : List ℕ → Bool
is_misread reply =
    bytes_eq reply (codes "Bad_line") || (bytes_eq reply (codes "Unknown_component") || (bytes_eq reply (codes "Not_a_script")
    || (bytes_eq reply (codes "Bad_args") || (bytes_eq reply (codes "ERR BAD_REQUEST") || bytes_eq reply (codes "ERR BAD_KIND")))))

-- a line may pass with a reply: with one that says that the line wasn't understood only if the whole reply is expected. Nor does a line
-- that expects `refused` pass if its caller has exited
abbrev pub can_pass : Option (List ℕ) → List ℕ → Bool
can_pass None reply = not (is_misread reply)
can_pass (Some expected) reply =
    bytes_eq reply expected || not (is_misread reply || (bytes_eq reply (codes "Gone") && bytes_eq expected (codes "refused")))
