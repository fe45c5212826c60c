-- A run is put to the line, fills it, or ends it with a newline.
use Rattle.std.proofs.Common.{◌≡◌, ◌+◌, ◌<◌, ◌≤◌, ◌++◌, ◌∷◌, [], length, take, get_or, rules, arith, ◌∙◌, sym, ap, length-append, length-take-le}
use Rattle.std.proofs.lemmas.List.{take-take}
use Rattle.std.proofs.lemmas.Bool.Decides.{nat_tests}
use Rattle.std.proofs.lemmas.List.Elements.{All-append}
use Rattle.own_model.specs.LogService.{IsUnbroken}
use Rattle.log_service.proofs.SessionLemmas.{unbroken, broken, run_added, run_fills, run_ended, adds, finishes, taken_whole}
use Rattle.log_service.proofs.session.LogSession.write_some.Goals as goal

pub invariant_of-self-else-is_full : goal.invariant_of-self-else-is_full
invariant_of-self-else-is_full c =
    let run = take c.min.result c.args.bytes.now in
    let whole = unbroken run (sym c.in-None.ensures.place) in
    record {
      short = grind (arith, nat_tests, length-append, length-take-le c.min.result c.args.bytes.now);
      whole = rw c.add_run-in-None.ensures (All-append IsUnbroken _ run c.self.invariant.whole whole);
    }

pub returns-in-Some-clause-writes : goal.returns-in-Some-clause-writes
returns-in-Some-clause-writes c =
    let n = c.min.result in
    let bytes = c.args.bytes.now in
    let end = c.in-Some.end in
    let line = c.self.inside.line.items in
    let b = broken (take n bytes) end (sym c.in-Some.ensures.place) in
    let before = take end (take n bytes) in
    let near : end + 1 ≤ n = omega (arith, b.within, length-take-le n bytes) in
    let few : length before ≡ end = length-take-le end (take n bytes) (omega (arith, b.within)) in
    let room : length line + length before < 200 = omega (arith, few, near, c.min.ensures, c.len-room.ensures.value, c.self.invariant.short) in
    let all : take (end + 1) bytes ≡ before ++ get_or (take n bytes) end 0 ∷ [] = sym (take-take (end + 1) n bytes near) ∙ b.up_to in
    let size : length (take (end + 1) bytes) ≡ length before + 1 = ap length all ∙ length-append before (get_or (take n bytes) end 0 ∷ []) in
    let written = run_ended line before _ c.self.invariant b.before room b.at in
    rw (← c.self.view_is, c.finish.ensures.line, all)
    (finishes c.self.inside.heap c.self.inside.label.items line before _ c.add_run.new.line.items c.args.reply.now c.finish.new.reply written c.add_run.ensures
    (rw c.deref.ensures.0 at c.finish.ensures.reply) (rw c.deref.ensures.0 at c.finish.ensures.len) (search rules) (omega (arith, size, ap length all)) (omega (arith, size, ap length all)))

pub returns-then-is_full-clause-writes : goal.returns-then-is_full-clause-writes
returns-then-is_full-clause-writes c =
    let n = c.min.result in
    let bytes = c.args.bytes.now in
    let line = c.self.inside.line.items in
    let run = take n bytes in
    let whole = unbroken run (sym c.in-None.ensures.place) in
    let full : length line + length run ≡ 200 = grind (arith, nat_tests, length-append) in
    let some : 0 < length run = omega (arith, full, c.self.invariant.short) in
    let written = run_fills line run c.self.invariant whole full in
    rw (← c.self.view_is, c.finish-then-is_full.ensures.line, taken_whole n bytes)
    (finishes c.self.inside.heap c.self.inside.label.items line run run c.add_run-in-None.new.line.items c.args.reply.now c.finish-then-is_full.new.reply written c.add_run-in-None.ensures
    (rw c.deref-then-is_full.ensures.0 at c.finish-then-is_full.ensures.reply) (rw c.deref-then-is_full.ensures.0 at c.finish-then-is_full.ensures.len) (search rules) (omega arith) some)

pub returns-else-is_full-clause-writes : goal.returns-else-is_full-clause-writes
returns-else-is_full-clause-writes c =
    let n = c.min.result in
    let bytes = c.args.bytes.now in
    let line = c.self.inside.line.items in
    let run = take n bytes in
    let whole = unbroken run (sym c.in-None.ensures.place) in
    let short : length line + length run < 200 = grind (arith, nat_tests, length-append, length-take-le n bytes) in
    rw (← c.self.view_is, taken_whole n bytes)
    (adds c.self.inside.heap c.self.inside.label.items line run run c.add_run-in-None.new.line.items c.args.reply.now (run_added line run c.self.invariant whole short) c.add_run-in-None.ensures (omega arith))
