-- All pieces before the next are output, and no write failed yet.
use Rattle.std.proofs.Common.{◌≡◌, ℕ, List, Bor, false, map, drop}
use Rattle.std.specs.List.{flat_map}
use Rattle.view_diagnostics.specs.Diagnostics.{shown}
use Rattle.view_diagnostics.proofs.FrontLemmas.{OutputsFront}
use Rattle.run_scenario.proofs.complaint.put_all.Given as goal

abbrev pub invariant-loop-piece : goal.invariant-loop-piece
invariant-loop-piece g l = record {
  front : OutputsFront (flat_map (shown l.fn.diagnostics.subject.form) (map (λ (piece : Bor (List ℕ)). piece.now) l.pieces))
      (flat_map (shown l.fn.diagnostics.subject.form) (map (λ (piece : Bor (List ℕ)). piece.now) (drop l.piece-index l.pieces)))
      (g.E.Sink.contents l.fn.sink) l.fn.diagnostics.gathered (g.E.Sink.contents l.sink) l.diagnostics.gathered;
  subject : l.diagnostics.subject ≡ l.fn.diagnostics.subject;
  works : g.E.Sink.has_failed l.sink ≡ false;
}
