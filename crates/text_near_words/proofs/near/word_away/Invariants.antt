use Rattle.std.proofs.Common.{◌≡◌, drop, map}
use Rattle.std.specs.List.{find}
use Rattle.text_near_words.specs.Near.{is_away}
use Rattle.text_near_words.proofs.near.word_away.Given as goal

abbrev pub invariant-loop-word : goal.invariant-loop-word
invariant-loop-word l =
    find (is_away l.count l.written) (map (λ word. word.now) (drop l.word-index l.words))
    ≡ find (is_away l.count l.written) (map (λ word. word.now) l.words)
