-- The mark of the line, if there is such a line.
use Rattle.std.proofs.Common.{arith, refl}
use Rattle.run_record.specs.RecordedCalls.Meeting.{Logs}
use Rattle.run_record.proofs.MarkLemmas.{marked_at, marked_before, marked_behind}
use Rattle.run_record.proofs.line_marks.LineMarks.log.Goals as goal

pub returns-in_default : goal.returns-in_default
returns-in_default c = marked_before c.args.number Logs c.args.self.now.marks.items (omega (arith, c.in_default.ensures))

pub returns-in-Some-get_mut : goal.returns-in-Some-get_mut
returns-in-Some-get_mut c =
    marked_at c.args.number c.in-Some.place Logs c.args.self.now.marks.items c.in-Some-get_mut.mark.now _
    (omega (arith, c.in-Some.ensures)) c.in-Some-get_mut.ensures.item.3.0 c.in-Some-get_mut.ensures.value refl

pub returns-in_default-get_mut : goal.returns-in_default-get_mut
returns-in_default-get_mut c =
    marked_behind c.args.number c.in-Some.place Logs c.args.self.now.marks.items
    (omega (arith, c.in-Some.ensures)) c.in_default-get_mut.ensures.item.3
