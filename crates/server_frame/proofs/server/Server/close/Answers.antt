-- The session goes, its client has its limits, and the others stay.
use Rattle.std.proofs.Common.{is_some, ap}
use Rattle.server_frame.proofs.ServerLemmas.{paid}
use Rattle.server_frame.proofs.CloseLemmas.{gone, payer_is, child_there, leaf, server_closes, session_closes}
use Rattle.server_frame.proofs.server.Server.close.Goals as goal

pub end-heap-requires-clause-account : goal.end-heap-requires-clause-account
end-heap-requires-clause-account g c = (paid g.S.Service.IsKept g.S.Service.payer g.met.S.Service.pays c.index_mut-closed.result.now c.args.memory.now c.args.self.now.map (c.requires.server.each c.args.id.0 c.index_mut-closed.result.now c.index_mut-closed.ensures.value)).0

pub end-heap-requires-clause-kept : goal.end-heap-requires-clause-kept
end-heap-requires-clause-kept g c = (paid g.S.Service.IsKept g.S.Service.payer g.met.S.Service.pays c.index_mut-closed.result.now c.args.memory.now c.args.self.now.map (c.requires.server.each c.args.id.0 c.index_mut-closed.result.now c.index_mut-closed.ensures.value)).1

pub close_session_account-requires-clause-payer : goal.close_session_account-requires-clause-payer
close_session_account-requires-clause-payer g c =
    payer_is g.S.Service.IsKept (g.S.Service.value c.args.self.now.service) g.S.Service.buffer g.S.Service.payer c.args.self.now.sessions c.remove-gone.new.self c.args.memory.now c.end-heap.new.memory c.args.self.now.map c.end-heap.new.map c.requires.server c.args.id.0 c.index_mut-closed.result.now c.index_mut-closed.ensures.value
    (gone _ _ _ _ (ap is_some c.index_mut-closed.ensures.value) c.remove-gone.ensures.updates) g.met.S.Service.pays c.end-heap.result c.end-heap.ensures.payer c.end-heap.ensures.others c.end-heap.ensures.ram c.end-heap.ensures.caps

pub close_session_account-requires-clause-child : goal.close_session_account-requires-clause-child
close_session_account-requires-clause-child g c =
    child_there g.S.Service.IsKept (g.S.Service.value c.args.self.now.service) g.S.Service.buffer g.S.Service.payer c.args.self.now.sessions c.remove-gone.new.self c.args.memory.now c.end-heap.new.memory c.args.self.now.map c.end-heap.new.map c.requires.server c.args.id.0 c.index_mut-closed.result.now c.index_mut-closed.ensures.value
    (gone _ _ _ _ (ap is_some c.index_mut-closed.ensures.value) c.remove-gone.ensures.updates) g.met.S.Service.pays c.end-heap.result c.end-heap.ensures.payer c.end-heap.ensures.others c.end-heap.ensures.ram c.end-heap.ensures.caps

pub close_session_account-requires-clause-leaf : goal.close_session_account-requires-clause-leaf
close_session_account-requires-clause-leaf g c =
    leaf g.S.Service.IsKept (g.S.Service.value c.args.self.now.service) g.S.Service.buffer g.S.Service.payer c.args.self.now.sessions c.remove-gone.new.self c.args.memory.now c.end-heap.new.memory c.args.self.now.map c.end-heap.new.map c.requires.server c.args.id.0 c.index_mut-closed.result.now c.index_mut-closed.ensures.value
    (gone _ _ _ _ (ap is_some c.index_mut-closed.ensures.value) c.remove-gone.ensures.updates) g.met.S.Service.pays c.end-heap.result c.end-heap.ensures.payer c.end-heap.ensures.others c.end-heap.ensures.ram c.end-heap.ensures.caps

pub returns-clause-server : goal.returns-clause-server
returns-clause-server g c =
    server_closes g.S.Service.IsKept (g.S.Service.value c.args.self.now.service) g.S.Service.buffer g.S.Service.payer c.args.self.now.sessions c.remove-gone.new.self c.args.memory.now c.end-heap.new.memory c.args.self.now.map c.end-heap.new.map c.requires.server c.args.id.0 c.index_mut-closed.result.now c.index_mut-closed.ensures.value
    (gone _ _ _ _ (ap is_some c.index_mut-closed.ensures.value) c.remove-gone.ensures.updates) g.met.S.Service.pays c.end-heap.result c.end-heap.ensures.payer c.end-heap.ensures.others c.end-heap.ensures.ram c.end-heap.ensures.caps
    c.close_session_account.new.memory c.close_session_account.new.map c.close_session_account.ensures.closes c.close_session_account.ensures.maps c.close_session_account.ensures.holdings

pub returns-clause-closes : goal.returns-clause-closes
returns-clause-closes g c =
    session_closes g.S.Service.IsKept (g.S.Service.value c.args.self.now.service) g.S.Service.buffer g.S.Service.payer c.args.self.now.sessions c.remove-gone.new.self c.args.memory.now c.end-heap.new.memory c.args.self.now.map c.end-heap.new.map c.requires.server c.args.id.0 c.index_mut-closed.result.now c.index_mut-closed.ensures.value
    (gone _ _ _ _ (ap is_some c.index_mut-closed.ensures.value) c.remove-gone.ensures.updates) g.met.S.Service.pays c.end-heap.result c.end-heap.ensures.payer c.end-heap.ensures.others c.end-heap.ensures.ram c.end-heap.ensures.caps
    c.close_session_account.new.memory c.close_session_account.new.map c.close_session_account.ensures.closes c.close_session_account.ensures.maps c.close_session_account.ensures.holdings
