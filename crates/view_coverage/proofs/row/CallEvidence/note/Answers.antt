-- A row more is noted.
use Rattle.std.proofs.Common.{sym, subst, arith, ◌≡◌, ◌<◌, length, set, map, take, drop, ◌++◌, ◌+◌}
use Rattle.std.proofs.lemmas.List.{get_or_default}
use Rattle.std.proofs.lemmas.List.Edits.{map_over_more}
use Rattle.view_coverage.specs.Covered.{evidence_in, row_with}
use Rattle.view_coverage.proofs.row.CallEvidence.note.Goals as goal

pub loop-row-preserved : goal.loop-row-preserved
loop-row-preserved c =
    let noted = row_with (evidence_in c.args.self) in
    let rows = c.loop-row.rows in
    let i = c.loop-row.row-index in
    let there : i < length rows = omega (arith, c.loop-row-test.true, c.loop-row.auto.rows) in
    let within : i < length c.args.rows.now = omega (arith, c.loop-row-test.true) in
    subst (λ row. set rows i row ≡ map noted (take (i + 1) c.args.rows.now) ++ drop (i + 1) c.args.rows.now) (sym c.noted_in.ensures)
    (map_over_more noted c.args.rows.now rows i _ within c.loop-row.invariant (get_or_default rows i _ _ there))
