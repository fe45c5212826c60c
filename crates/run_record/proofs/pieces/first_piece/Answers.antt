-- The text is cut at its first newline.
use Rattle.std.proofs.Common.{◌≡◌, ◌+◌, ◌-◌, ◌∷◌, length, take, drop, ap, sym, ◌∙◌}
use Rattle.std.proofs.lemmas.List.{take_rest}
use Rattle.run_record.specs.Recorded.{pieces_of}
use Rattle.run_record.proofs.PieceLemmas.{cut_at}
use Rattle.run_record.proofs.pieces.first_piece.Goals as goal

pub returns-in-Some-clause-pieces : goal.returns-in-Some-clause-pieces
returns-in-Some-clause-pieces c =
    let text = c.args.text.now in
    let behind = c.in-Some.end + 1 in
    let whole : take (length text - behind) (drop behind text) ≡ drop behind text = take_rest text behind in
    cut_at text c.in-Some.end (sym c.find_byte.ensures.place ∙ c.in-Some.is)
    ∙ ap (λ rest. take c.in-Some.end text ∷ pieces_of rest) (sym whole)
