-- Bytes as the log prints them, one after another.
use Rattle.std.proofs.Common.{◌≡◌, ℕ, ◌+◌, ◌<◌, List, [], ◌∷◌, ◌++◌, length, map, take, drop, get_or, sym, ◌∙◌, ap}
use Rattle.std.proofs.lemmas.List.{map-append, map_more, take-append-drop}
use Rattle.own_model.specs.Reply.{printed}

module _ (bytes : List ℕ) (place other shown : ℕ) (within : place < length bytes) (shows : shown ≡ printed (get_or bytes place other)) where
  -- one byte more
  pub printed_more : map printed (take (place + 1) bytes) ≡ map printed (take place bytes) ++ shown ∷ []
  printed_more = map_more printed bytes place other within ∙ ap (λ b. map printed (take place bytes) ++ b ∷ []) (sym shows)

  -- and the bytes after it
  pub printed_cut : map printed bytes ≡ (map printed (take place bytes) ++ shown ∷ []) ++ map printed (drop (place + 1) bytes)
  printed_cut =
      ap (map printed) (sym (take-append-drop (place + 1) bytes)) ∙ map-append printed (take (place + 1) bytes) (drop (place + 1) bytes)
      ∙ ap (λ l. l ++ map printed (drop (place + 1) bytes)) printed_more
