-- Records that are added one after another.
use Rattle.std.proofs.Common.{◌≡◌, ◌∙◌, ◌+◌, ◌<◌, ℕ, List, [], ◌∷◌, ◌++◌, ap, append_assoc, drop, get_or, length, map, sym}
use Rattle.std.proofs.lemmas.List.{at_drop_more}
use Rattle.view_records.specs.Records.{Record}

-- one element more, and those of the others and what is to come after them
pub records_next : {X : Type 0} (f : X → Record) (xs : List X) (i : ℕ) (x : X) (old new rest whole : List Record) → i < length xs → x ≡ get_or xs i x
    → new ≡ old ++ f x ∷ [] → old ++ (map f (drop i xs) ++ rest) ≡ whole → new ++ (map f (drop (i + 1) xs) ++ rest) ≡ whole
records_next f xs i x old new rest whole within is more before =
    let others = map f (drop (i + 1) xs) ++ rest in
    ap (λ l. l ++ others) more
    ∙ append_assoc old (f x ∷ []) others
    ∙ ap (λ y. old ++ (f y ∷ others)) is
    ∙ ap (λ l. old ++ l) (sym (at_drop_more (λ ys. map f ys ++ rest) xs i x within))
    ∙ before
