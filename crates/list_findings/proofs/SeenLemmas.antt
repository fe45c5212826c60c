-- Lists that are gone through place by place, as they are seen.
use Rattle.std.proofs.Common.{◌≡◌, ℕ, ◌+◌, ◌<◌, List, ◌++◌, drop, flat_map, get_or, length, map, sym, ap, ◌∙◌}
use Rattle.std.specs.List.{enumerate_from}
use Rattle.std.proofs.lemmas.List.{append_assoc, drop_more}

-- one more of what is told
pub place_more : {X A B : Type 0} (v : X → A) (f : ℕ × A → List B) (told now : List B) (xs : List X) (i : ℕ) (x : X) → i < length xs
    → now ≡ told ++ f (i, v (get_or xs i x))
    → now ++ flat_map f (enumerate_from (i + 1) (map v (drop (i + 1) xs))) ≡ told ++ flat_map f (enumerate_from i (map v (drop i xs)))
place_more v f told now xs i x inside more =
    ap (λ n. n ++ flat_map f (enumerate_from (i + 1) (map v (drop (i + 1) xs)))) more
    ∙ append_assoc told (f (i, v (get_or xs i x))) (flat_map f (enumerate_from (i + 1) (map v (drop (i + 1) xs))))
    ∙ ap (λ left. told ++ flat_map f (enumerate_from i (map v left))) (sym (drop_more xs i x inside))
