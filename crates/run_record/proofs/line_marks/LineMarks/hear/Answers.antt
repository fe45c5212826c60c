-- The mark of the line, if there is such a line.
use Rattle.std.proofs.Common.{arith}
use Rattle.std.proofs.lemmas.Result.{on_ok_weaker}
use Rattle.run_record.specs.RecordedCalls.Meeting.{Hears}
use Rattle.run_record.specs.Views.{recorded_call_view}
use Rattle.run_record.proofs.MarkLemmas.{marked_at, marked_before, marked_behind}
use Rattle.run_record.proofs.line_marks.LineMarks.hear.Goals as goal

pub returns-in_default : goal.returns-in_default
returns-in_default c =
    marked_before c.args.number (Hears (recorded_call_view c.args.hearing.now)) c.args.self.now.marks.items (omega (arith, c.in_default.ensures))

pub returns-in-Some-get_mut : goal.returns-in-Some-get_mut
returns-in-Some-get_mut c =
    on_ok_weaker c.hear.result
    (marked_at c.args.number c.in-Some.place (Hears (recorded_call_view c.args.hearing.now)) c.args.self.now.marks.items c.in-Some-get_mut.mark.now
    c.hear.new.self (omega (arith, c.in-Some.ensures)) c.in-Some-get_mut.ensures.item.3.0 c.in-Some-get_mut.ensures.value)
    c.hear.ensures

pub returns-in-None : goal.returns-in-None
returns-in-None c =
    marked_behind c.args.number c.in-Some.place (Hears (recorded_call_view c.args.hearing.now)) c.args.self.now.marks.items
    (omega (arith, c.in-Some.ensures)) c.in-None.ensures.item.3
