-- Lines that were passed, and what is left of a text behind them.
use Rattle.std.proofs.Common.{◌≡◌, ℕ, zero, suc, ◌+◌, ◌<◌, ◌≤◌, ◌⊎◌, cond, List, [], ◌∷◌, ◌++◌, length, take, drop, Option, Some, None, IfSome, inl, inr, ⊎_elim, arith, refl, sym, ◌∙◌, ap, subst, append_assoc, append-nil, length-append}
use Rattle.std.specs.List.{count_by}
use Rattle.std.proofs.lemmas.Bool.{cases_lt}
use Rattle.std.proofs.lemmas.Bool.Decides.{nat_tests}
use Rattle.std.proofs.lemmas.List.{drop_all, take-append-drop}
use Rattle.std.proofs.lemmas.List.Sums.{sum_by-cons, sum_by-append, count_by_more_yes, passes_at_first}
use Rattle.own_model.specs.Text.{lines_of}
use Rattle.run_devices.specs.Lines.{is_newline, line_length, line_of, after_line, HasRead, PassesSome, PassesLines, IsReadTo, to_come}
use Rattle.run_devices.proofs.LineLemmas.{lines_of-cons}

-- no newline stands within a line
no_newlines : (n : ℕ) (xs : List ℕ) → n ≤ line_length xs → count_by is_newline (take n xs) ≡ 0
no_newlines zero xs le = refl
no_newlines (suc n) [] le = refl
no_newlines (suc n) (x ∷ xs) le =
    let ih : n ≤ line_length xs → count_by is_newline (take n xs) ≡ 0 = no_newlines n xs in grind (arith, nat_tests, sum_by-cons)

-- a line ends at its newline, or at the end of the text
line_ended : (text : List ℕ) → (count_by is_newline (take (line_length text + 1) text) ≡ 1) ⊎ (after_line text ≡ [])
line_ended text =
    ⊎_elim (λ within. inl (count_by_more_yes is_newline text (line_length text) 0 within (passes_at_first is_newline text 0 within)
    ∙ ap (λ n. n + 1) (no_newlines (line_length text) text (omega arith))))
    (λ past. inr (drop_all (line_length text + 1) text (omega arith)))
    (cases_lt (line_length text) (length text))

-- the first line is passed with its newline
pub passes_line : (text : List ℕ) (come : Option (List ℕ)) → 0 < length text → come ≡ Some (after_line text) → PassesLines text come (line_of text ∷ [])
passes_line text come some is = record {
  passed = take (line_length text + 1) text;
  rest = after_line text;
  is_rest = is;
  parts = sym (take-append-drop (line_length text + 1) text);
  first = lines_of-cons text some;
  ended = line_ended text;
}

-- no line is passed at first
pub passes_none : (text : List ℕ) → PassesLines text (Some text) []
passes_none text = record { passed = []; rest = text; is_rest = refl; parts = refl; first = refl; ended = inl refl }

-- nothing is left of nothing
nothing_left : (xs ys : List ℕ) → xs ++ ys ≡ [] → ys ≡ []
nothing_left [] ys e = e
nothing_left (x ∷ xs) ys e = absurd (cc)

-- what ends in one part and in the next ends in both
newlines-append : (xs ys : List ℕ) (m n : ℕ) → count_by is_newline xs ≡ m → count_by is_newline ys ≡ n → count_by is_newline (xs ++ ys) ≡ m + n
newlines-append xs ys m n ex ey = sum_by-append (λ x. cond (is_newline x) 1 0) xs ys ∙ omega arith

-- lines are passed after lines
passes_on : (text : List ℕ) (mid come : Option (List ℕ)) (xs ys : List (List ℕ)) → (p : PassesLines text mid xs) → PassesLines p.rest come ys → PassesLines text come (xs ++ ys)
passes_on text mid come xs ys p q = record {
  passed = p.passed ++ q.passed;
  rest = q.rest;
  is_rest = q.is_rest;
  parts = p.parts ∙ ap (λ back. p.passed ++ back) q.parts ∙ sym (append_assoc p.passed q.passed q.rest);
  first = p.first ∙ ap (λ lines. xs ++ lines) q.first ∙ sym (append_assoc xs ys (lines_of q.rest));
  ended =
      ⊎_elim
      (λ e. ⊎_elim (λ f. inl (newlines-append p.passed q.passed _ _ e f ∙ sym (length-append xs ys))) inr q.ended)
      (λ none. inr (nothing_left q.passed q.rest (sym q.parts ∙ none)))
      p.ended;
}

-- the same, where the bytes to come are known
pub passes_more : (old mid come : Option (List ℕ)) (xs ys : List (List ℕ)) → IfSome old (λ text. PassesLines text mid xs) → IfSome mid (λ text. PassesLines text come ys)
    → IfSome old (λ text. PassesLines text come (xs ++ ys))
passes_more None mid come xs ys first then = tt
passes_more (Some text) mid come xs ys first then =
    passes_on text mid come xs ys first (subst (λ (m : Option (List ℕ)). IfSome m (λ t. PassesLines t come ys)) first.is_rest then)

-- a read that fails within the line after those passed leaves just these ended
pub read_to : (text : List ℕ) (mid rest : Option (List ℕ)) (xs : List (List ℕ)) (n : ℕ) → (p : PassesLines text mid xs) → PassesSome p.rest rest n → IsReadTo (length xs) text rest
read_to text mid rest xs n p cut = record {
  read = p.passed ++ take n p.rest;
  left = drop n p.rest;
  is_left = cut.left;
  parts = p.parts ∙ ap (λ back. p.passed ++ back) (sym (take-append-drop n p.rest)) ∙ sym (append_assoc p.passed (take n p.rest) (drop n p.rest));
  ended =
      ⊎_elim (λ e. inl (newlines-append p.passed (take n p.rest) _ _ e (no_newlines n p.rest cut.of_line) ∙ omega arith))
      (λ none. inr (ap (drop n) none ∙ drop_all n [] (omega arith), ap length (p.first ∙ ap (λ rest. xs ++ lines_of rest) none ∙ append-nil xs)))
      p.ended;
}

-- of lines that were passed each was read whole
pub has_passed : (text ahead : List ℕ) (rest : Option (List ℕ)) (xs : List (List ℕ)) → PassesLines text (to_come ahead rest) xs → HasRead (length xs) text rest
has_passed text ahead None xs p = absurd (let e : None ≡ Some p.rest = p.is_rest in cc)
has_passed text ahead (Some ys) xs p =
    let behind : ahead ++ ys ≡ p.rest = let e : Some (ahead ++ ys) ≡ Some p.rest = p.is_rest in cc in
    record {
      read = p.passed ++ ahead;
      left = ys;
      is_left = refl;
      parts = p.parts ∙ ap (λ back. p.passed ++ back) (sym behind) ∙ sym (append_assoc p.passed ahead ys);
      whole =
          ⊎_elim (λ e. inl (omega (arith, e, newlines-append p.passed ahead _ _ refl refl)))
          (λ none. inr (nothing_left ahead ys (behind ∙ none)))
          p.ended;
    }

-- and behind them others
pub has_read_more : (text : List ℕ) (mid rest : Option (List ℕ)) (xs : List (List ℕ)) (n : ℕ) → (p : PassesLines text mid xs) → HasRead n p.rest rest → HasRead (length xs + n) text rest
has_read_more text mid rest xs n p r = record {
  read = p.passed ++ r.read;
  left = r.left;
  is_left = r.is_left;
  parts = p.parts ∙ ap (λ back. p.passed ++ back) r.parts ∙ sym (append_assoc p.passed r.read r.left);
  whole =
      ⊎_elim
      (λ e. ⊎_elim (λ f. inl (omega (arith, e, f, newlines-append p.passed r.read _ _ refl refl))) inr r.whole)
      (λ none. inr (nothing_left r.read r.left (sym r.parts ∙ none)))
      p.ended;
}
