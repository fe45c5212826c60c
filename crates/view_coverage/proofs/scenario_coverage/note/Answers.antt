-- What the line says is noted, be it a call or none.
use Rattle.view_coverage.proofs.scenario_coverage.note.Goals as goal

pub returns-in-Ok : goal.returns-in-Ok
returns-in-Ok c = rw (← c.line.ensures, c.in-Ok.ensures.value, ← c.answer.ensures) c.note_call.ensures

pub returns-in-Err : goal.returns-in-Err
returns-in-Err c = rw (← c.line.ensures, c.in-Err.ensures.none) c.note.ensures
