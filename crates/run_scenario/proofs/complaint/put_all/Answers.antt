-- One piece more is output, or a write fails there.
use Rattle.std.proofs.Common.{[], refl, ◌∙◌}
use Rattle.run_devices.proofs.GatheredLemmas.{Tells-none, told_err}
use Rattle.view_diagnostics.proofs.FrontLemmas.{front_all, front_failed, front_more}
use Rattle.run_scenario.proofs.ComplaintLemmas.{piece_next, pieces_over}
use Rattle.run_scenario.proofs.complaint.put_all.Goals as goal

pub loop-piece-init : goal.loop-piece-init
loop-piece-init g c = record { front = record { done = []; parts = refl; tells = Tells-none _ _ }; subject = refl; works = c.requires }

pub loop-piece-preserved : goal.loop-piece-preserved
loop-piece-preserved g c =
    let is = c.loop-piece.invariant.subject in
    record {
      front = front_more _ _ _ _ c.loop-piece.invariant.front (piece_next _ c.args.pieces.now c.loop-piece.piece-index _ c.loop-piece-test.true) (rw is at c.in_ok-put.ensures.output);
      subject = c.in_ok-put.ensures.subject ∙ is;
      works = c.in_ok-put.ensures.failing;
    }

pub returns-in_err-put-clause-output : goal.returns-in_err-put-clause-output
returns-in_err-put-clause-output g c =
    told_err _ _ _ c.from_residual.ensures.1
    (front_failed _ _ _ _ c.loop-piece.invariant.front (piece_next _ c.args.pieces.now c.loop-piece.piece-index _ c.loop-piece-test.true) (rw c.loop-piece.invariant.subject at c.in_err-put.ensures.output))

pub returns-clause-output : goal.returns-clause-output
returns-clause-output g c = front_all _ _ c.loop-piece.invariant.front (pieces_over _ c.args.pieces.now c.loop-piece.piece-index c.loop-piece-test.false)
