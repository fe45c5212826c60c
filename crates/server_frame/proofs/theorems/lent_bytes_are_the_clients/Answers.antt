-- Each law is a lemma that callers cite as well, of a service whose sessions lend what stands aside.
use Rattle.server_frame.proofs.LentLaws.{lent_are_paid, writes_leave_sessions}
use Rattle.server_frame.proofs.theorems.lent_bytes_are_the_clients.Goals as goal

pub returns-clause-paid : goal.returns-clause-paid
returns-clause-paid g c = λ service. lent_are_paid g.S.Service.IsKept (g.S.Service.value service) g.S.Service.buffer (g.met.S.Service.lends_aside service)

pub returns-clause-writes : goal.returns-clause-writes
returns-clause-writes g c = λ service. writes_leave_sessions g.S.Service.IsKept (g.S.Service.value service) g.S.Service.buffer (g.met.S.Service.lends_aside service)
