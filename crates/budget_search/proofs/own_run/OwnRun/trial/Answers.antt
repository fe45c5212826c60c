-- Before the first line none is left out.
use Rattle.std.proofs.Common.{ap, sym, subst, []}
use Rattle.own_model.specs.Transcript.{entry_at}
use Rattle.budget_meter.specs.Needs.{amounts_of}
use Rattle.budget_search.specs.Run.{HasLinesLeft}
use Rattle.budget_search.specs.OwnLines.{own_lines}
use Rattle.budget_search.proofs.own_run.OwnRun.trial.Goals as goal

pub returns-clause-lines : goal.returns-clause-lines
returns-clause-lines g c = λ whole before.
    let core = c.args.core.now in
    let component = c.args.component in
    let entry = entry_at core.entries component in
    let steps = c.args.steps.now in
    c.in_ok-go_through.ensures.lines whole
    (subst (λ so_far. HasLinesLeft core component c.args.heard so_far (own_lines entry (amounts_of c.new.result.meter.start) steps) whole)
    (sym (ap (λ lines. lines.left_out) c.new.ensures.lines))
    (subst (λ start. HasLinesLeft core component c.args.heard [] (own_lines entry (amounts_of start) steps) whole) (sym c.new.ensures.start) before))
