-- Each call takes what is written some bytes on.
use Rattle.std.proofs.Common.{length, ap, subst, arith, length-drop}
use Rattle.std.proofs.lemmas.List.{take_rest}
use Rattle.own_model.specs.LogService.{IsPartial}
use Rattle.log_service.proofs.SessionLemmas.{writes_none, writes_then, partial_after, take_then}
use Rattle.log_service.proofs.session.LogSession.write_bytes.Goals as goal

pub loop-done-init : goal.loop-done-init
loop-done-init c =
    let is = subst (λ session. IsPartial session.partial) c.self.view_is c.self.invariant in
    record { partial = is; within = omega arith; written = writes_none c.args.self.now c.args.reply.now is }

pub loop-done-preserved : goal.loop-done-preserved
loop-done-preserved c =
    let is = subst (λ session. IsPartial session.partial) c.self.view_is c.self.invariant in
    let l = c.loop-done.invariant in
    let bytes = c.args.bytes.now in
    let count = c.write_some-done.result in
    let rest = take_rest bytes c.loop-done.done in
    let writes = rw rest at c.write_some-done.ensures.writes in
    record {
      partial = partial_after _ l.partial writes;
      within = omega (arith, c.write_some-done.ensures.within, length-drop c.loop-done.done bytes, ap length rest);
      written = rw (take_then c.loop-done.done count bytes) (writes_then _ _ _ _ _ _ _ _ is l.written writes);
    }
