-- Donations line by line, and the text of lines with them.
use Rattle.std.proofs.Common.{◌≡◌, ℕ, zero, suc, ◌+◌, ◌<◌, List, [], ◌∷◌, ◌++◌, length, map, drop, get_or, append_assoc, append-nil, add-one, refl, sym, ap, ◌∙◌}
use Rattle.std.specs.Prelude.{Option, Some, None}
use Rattle.std.specs.Borrow.{Bor}
use Rattle.std.specs.List.{flat_map, join_with_byte}
use Rattle.std.specs.Option.{option_or}
use Rattle.std.proofs.lemmas.List.{drop_more}
use Rattle.budget_least.specs.WrittenScenario.{donation_for, donation_of, line_of, lines_from, separator, text_from}
use Rattle.budget_meter.specs.declared.budget.Budget.{Budget}
use Rattle.budget_search.specs.declared.component_line.ComponentLine.{ComponentLine}

-- ---- options

or_none : (o : Option Budget) → option_or o None ≡ o
or_none None = refl
or_none (Some x) = refl

or_assoc : (a b c : Option Budget) → option_or (option_or a b) c ≡ option_or a (option_or b c)
or_assoc None b c = refl
or_assoc (Some x) b c = refl

-- ---- donations, component by component

donation_append : (first others : List ComponentLine) (number : ℕ) → donation_of (first ++ others) number ≡ option_or (donation_of others number) (donation_of first number)
donation_append [] others number = sym (or_none (donation_of others number))
donation_append (line ∷ first) others number =
    ap (λ o. option_or o (donation_for line number)) (donation_append first others number)
    ∙ or_assoc (donation_of others number) (donation_of first number) (donation_for line number)

module _ {A : Type 0} (lines_in : A → List ComponentLine) where
  pub donation_more : (steps : List A) (i : ℕ) (item : A) (number : ℕ) (old new : Option Budget) → i < length steps → item ≡ get_or steps i item →
      new ≡ option_or (donation_of (lines_in item) number) old →
      option_or (donation_of (flat_map lines_in (drop (i + 1) steps)) number) new ≡ option_or (donation_of (flat_map lines_in (drop i steps)) number) old
  donation_more steps i item number old new within is set =
      let rest : List ComponentLine = flat_map lines_in (drop (i + 1) steps) in
      ap (option_or (donation_of rest number)) set
      ∙ sym (or_assoc (donation_of rest number) (donation_of (lines_in item) number) old)
      ∙ ap (λ o. option_or o old) (sym (donation_append (lines_in item) rest number))
      ∙ sym (ap (λ l. option_or (donation_of (flat_map lines_in l) number) old) (drop_more steps i item within ∙ ap (λ l. l ∷ drop (i + 1) steps) (sym is)))

-- ---- the text of lines

join_first : (first : List ℕ) (lines : List (List ℕ)) → join_with_byte 10 (first ∷ lines) ≡ first ++ flat_map (λ line. 10 ∷ line) lines
join_first first [] = sym (append-nil first)
join_first first (line ∷ lines) = ap (λ l. first ++ 10 ∷ l) (join_first line lines)

text_first : (donations : ℕ → Option Budget) (place : ℕ) (line : List ℕ) (lines : List (List ℕ)) →
    text_from donations place (line ∷ lines) ≡ separator place ++ (line_of (donations (suc place)) line ++ text_from donations (suc place) lines)
text_first donations zero line lines = join_first (line_of (donations 1) line) (lines_from donations 2 lines)
text_first donations (suc place) line lines = refl

pub text_more : (donations : ℕ → Option Budget) (lines : List (Bor (List ℕ))) (place : ℕ) (line : Bor (List ℕ)) (told new whole : List ℕ) (donation : Option Budget) →
    place < length lines → line ≡ get_or lines place line → donation ≡ donations (place + 1) → new ≡ (told ++ separator place) ++ line_of donation line.now →
    told ++ text_from donations place (map (λ (l : Bor (List ℕ)). l.now) (drop place lines)) ≡ whole →
    new ++ text_from donations (place + 1) (map (λ (l : Bor (List ℕ)). l.now) (drop (place + 1) lines)) ≡ whole
text_more donations lines place line told new whole donation within item set is all =
    let rest : List (List ℕ) = map (λ (l : Bor (List ℕ)). l.now) (drop (place + 1) lines) in
    ap (λ t. t ++ text_from donations (place + 1) rest) (is ∙ ap (λ d. (told ++ separator place) ++ line_of d line.now) set)
    ∙ append_assoc (told ++ separator place) (line_of (donations (place + 1)) line.now) (text_from donations (place + 1) rest)
    ∙ append_assoc told (separator place) (line_of (donations (place + 1)) line.now ++ text_from donations (place + 1) rest)
    ∙ ap (λ n. told ++ (separator place ++ (line_of (donations n) line.now ++ text_from donations n rest))) (add-one place)
    ∙ sym (ap (λ l. told ++ text_from donations place (map (λ (b : Bor (List ℕ)). b.now) l)) (drop_more lines place line within ∙ ap (λ b. b ∷ drop (place + 1) lines) (sym item))
    ∙ ap (λ t. told ++ t) (text_first donations place line.now rest))
    ∙ all
