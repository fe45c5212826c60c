-- A line that is put together piece by piece.
use Rattle.std.proofs.Common.{◌≡◌, ℕ, ◌+◌, ◌<◌, ◌≤◌, Bool, true, false, cond, List, [], ◌∷◌, ◌++◌, length, drop, nat_eq, nat_le, ◌-◌, Option, Some, None, refl, sym, ap, ◌∙◌, arith, append_assoc, append-nil, length-append}
use Rattle.std.proofs.lemmas.Bool.Decides.{nat_tests}
use Rattle.own_model.specs.Transcript.{longest_line}
use Rattle.own_model.specs.Text.{FirstWord, first_word}
use Rattle.line_friendly.specs.CallParts.{kept_text, request_text, sizes_behind, sizes_in, tail_text}
use Rattle.line_friendly.specs.CallParts.CallTail.{Request}
use Rattle.line_friendly.specs.Words.{next_word, spaced, words_spaced}
use Rattle.line_friendly.specs.LineText.{added}
use Rattle.line_friendly.proofs.WordLemmas.{less_is_left, words_next}

-- one piece behind another is both
pub added_both : (line : Option (List ℕ)) (xs ys : List ℕ) → added (added line xs) ys ≡ added line (xs ++ ys)
unfolding added
added_both None xs ys = refl
added_both (Some text) xs ys =
    elim (nat_le (length xs) (longest_line - length text)) as (λ b. nat_le (length xs) (longest_line - length text) ≡ b →
    added (cond b (Some (text ++ xs)) None) ys ≡ cond (nat_le (length (xs ++ ys)) (longest_line - length text)) (Some (text ++ (xs ++ ys))) None) [
      | true ↦ λ fits.
          let same : nat_le (length ys) (longest_line - length (text ++ xs)) ≡ nat_le (length (xs ++ ys)) (longest_line - length text) =
          simp length-append (grind (arith, nat_tests)) in
          ap (λ b. cond b (Some ((text ++ xs) ++ ys)) None) same
          ∙ ap (λ l. cond (nat_le (length (xs ++ ys)) (longest_line - length text)) (Some l) None) (append_assoc text xs ys)
      | false ↦ λ over.
          let more : nat_le (length (xs ++ ys)) (longest_line - length text) ≡ false = simp length-append (grind (arith, nat_tests)) in
          ap (λ b. cond b (Some (text ++ (xs ++ ys))) None) (sym more)
    ] refl

-- nothing is put in
pub added_none : (line : Option (List ℕ)) → line ≡ added line []
unfolding added
added_none None = refl
added_none (Some text) =
    let fits : nat_le 0 (longest_line - length text) ≡ true = grind (arith, nat_tests) in
    ap Some (sym (append-nil text)) ∙ ap (λ b. cond b (Some (text ++ [])) None) (sym fits)

-- a word, and what is kept, by the space before it
spaced_some : (word : List ℕ) → 0 < length word → spaced word ≡ 32 ∷ word
spaced_some [] some = absurd (omega (arith, some))
spaced_some (b ∷ bs) some = refl

kept_some : (rest : List ℕ) → 0 < length rest → kept_text rest ≡ 32 ∷ drop 1 rest
kept_some [] some = absurd (omega (arith, some))
kept_some (b ∷ bs) some = refl

-- a space, and then bytes
pub put_behind : (line : Option (List ℕ)) (word : List ℕ) → 0 < length word → added (added line (32 ∷ [])) word ≡ added line (spaced word)
put_behind line word some = added_both line (32 ∷ []) word ∙ ap (added line) (sym (spaced_some word some))

pub put_kept_behind : (line : Option (List ℕ)) (rest : List ℕ) → 0 < length rest → added (added line (32 ∷ [])) (drop 1 rest) ≡ added line (kept_text rest)
put_kept_behind line rest some = added_both line (32 ∷ []) (drop 1 rest) ∙ ap (added line) (sym (kept_some rest some))

-- nothing of nothing
pub put_no_word : (line : Option (List ℕ)) (word : List ℕ) → length word ≡ 0 → line ≡ added line (spaced word)
put_no_word line [] none = added_none line
put_no_word line (b ∷ bs) none = absurd (omega (arith, none))

pub put_no_rest : (line : Option (List ℕ)) (rest : List ℕ) → length rest ≡ 0 → line ≡ added line (kept_text rest)
put_no_rest line [] none = added_none line
put_no_rest line (b ∷ bs) none = absurd (omega (arith, none))

-- a word is put, and then those behind it
pub put_word_step : (line : Option (List ℕ)) (text : List ℕ) →
    added line (words_spaced false text) ≡ added (added line (spaced (next_word text).word)) (words_spaced false (next_word text).rest)
put_word_step line text = ap (added line) (words_next text) ∙ sym (added_both line (spaced (next_word text).word) (words_spaced false (next_word text).rest))

-- and nothing behind the last
pub put_word_end : (line : Option (List ℕ)) (text : List ℕ) → length text ≡ 0 → added line (words_spaced false text) ≡ line
put_word_end line [] none = sym (added_none line)
put_word_end line (b ∷ bs) none = absurd (omega (arith, none))

pub ruleset puts = (put_behind, put_kept_behind, put_no_word, put_no_rest)

pub ruleset word_steps = (put_word_step, put_word_end, less_is_left)

-- ---- requests

-- a request that isn't empty has a text that isn't
request_some : (request : List ℕ) → 0 < length request → 0 < length (request_text request)
request_some [] some = absurd (omega (arith, some))
request_some (b ∷ bs) some =
    let here : FirstWord = record { word = []; rest = Some bs } in
    let later : FirstWord = record { word = b ∷ (first_word bs).word; rest = (first_word bs).rest } in
    elim (nat_eq b 32) as (λ t. 0 < length ((cond t here later).word ++ sizes_behind (sizes_in (cond t here later).word) (cond t here later).rest)) [
      | true ↦ omega arith
      | false ↦ omega arith
    ]

pub put_request_some : (line : Option (List ℕ)) (request : List ℕ) → 0 < length request →
    added (added line (32 ∷ [])) (request_text request) ≡ added line (spaced (request_text request))
put_request_some line request some =
    added_both line (32 ∷ []) (request_text request) ∙ ap (added line) (sym (spaced_some (request_text request) (request_some request some)))

pub put_request_none : (line : Option (List ℕ)) (request : List ℕ) → length request ≡ 0 → line ≡ added line (spaced (request_text request))
put_request_none line [] none = added_none line
put_request_none line (b ∷ bs) none = absurd (omega (arith, none))

-- the same of one that stands behind one blank
pub put_behind_blank : (line : Option (List ℕ)) (rest : List ℕ) → 0 < length rest →
    added (added line (32 ∷ [])) (request_text (drop 1 rest)) ≡ added line (tail_text (Request rest))
put_behind_blank line [] some = absurd (omega (arith, some))
put_behind_blank line (blank ∷ request) some = added_both line (32 ∷ []) (request_text request)

pub put_behind_none : (line : Option (List ℕ)) (rest : List ℕ) → length rest ≡ 0 → line ≡ added line (tail_text (Request rest))
put_behind_none line [] none = added_none line
put_behind_none line (b ∷ bs) none = absurd (omega (arith, none))

pub ruleset requests = (put_request_some, put_request_none, put_behind_blank, put_behind_none, added_both, added_none)
