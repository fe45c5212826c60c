-- The session is what the service leaves of it, and the others stay.
use Rattle.server_frame.proofs.ServerLemmas.{paid, row_there, server_serves, text_served, lines_served, serves}
use Rattle.server_frame.proofs.server.Server.serve.Goals as goal

pub serve-requires-clause-account : goal.serve-requires-clause-account
serve-requires-clause-account g c = (paid g.S.Service.IsKept g.S.Service.payer g.met.S.Service.pays c.index_mut-session.result.now c.args.memory.now c.args.self.now.map (c.requires.server.each c.args.id.0 c.index_mut-session.result.now c.index_mut-session.ensures.value)).0

pub serve-requires-clause-kept : goal.serve-requires-clause-kept
serve-requires-clause-kept g c = (paid g.S.Service.IsKept g.S.Service.payer g.met.S.Service.pays c.index_mut-session.result.now c.args.memory.now c.args.self.now.map (c.requires.server.each c.args.id.0 c.index_mut-session.result.now c.index_mut-session.ensures.value)).1

pub returns-clause-server : goal.returns-clause-server
returns-clause-server g c =
    server_serves g.S.Service.IsKept (g.S.Service.value c.args.self.now.service) g.S.Service.buffer c.args.self.now.sessions c.args.memory.now c.args.self.now.map c.requires.server c.args.id.0 c.index_mut-session.result.now c.index_mut-session.ensures.value
    g.S.Service.payer g.met.S.Service.pays c.serve.new.memory c.serve.new.map c.serve.new.state c.serve.ensures.account c.serve.ensures.kept c.serve.ensures.payer c.serve.ensures.others

pub returns-clause-text : goal.returns-clause-text
returns-clause-text g c = λ row is.
    text_served g.S.Service.IsKept (g.S.Service.value c.args.self.now.service) g.S.Service.buffer c.args.self.now.sessions c.args.memory.now c.args.self.now.map c.requires.server c.args.id.0 c.index_mut-session.result.now c.index_mut-session.ensures.value
    g.S.Service.payer g.met.S.Service.pays c.serve.new.memory c.serve.new.map c.serve.new.state c.serve.ensures.account c.serve.ensures.kept c.serve.ensures.payer c.serve.ensures.others
    (g.S.Service.step c.args.self.now.service) c.args.request.now c.serve.new.reply.text c.serve.new.reply.lines c.serve.result c.serve.ensures.effect c.serve.ensures.served row
    (row_there g.S.Service.IsKept (g.S.Service.value c.args.self.now.service) g.S.Service.buffer c.args.self.now.sessions c.args.memory.now c.args.self.now.map c.requires.server c.args.id.0 c.index_mut-session.result.now c.index_mut-session.ensures.value row is)

pub returns-clause-lines : goal.returns-clause-lines
returns-clause-lines g c = λ row is.
    lines_served g.S.Service.IsKept (g.S.Service.value c.args.self.now.service) g.S.Service.buffer c.args.self.now.sessions c.args.memory.now c.args.self.now.map c.requires.server c.args.id.0 c.index_mut-session.result.now c.index_mut-session.ensures.value
    g.S.Service.payer g.met.S.Service.pays c.serve.new.memory c.serve.new.map c.serve.new.state c.serve.ensures.account c.serve.ensures.kept c.serve.ensures.payer c.serve.ensures.others
    (g.S.Service.step c.args.self.now.service) c.args.request.now c.serve.new.reply.text c.serve.new.reply.lines c.serve.result c.serve.ensures.effect c.serve.ensures.served row
    (row_there g.S.Service.IsKept (g.S.Service.value c.args.self.now.service) g.S.Service.buffer c.args.self.now.sessions c.args.memory.now c.args.self.now.map c.requires.server c.args.id.0 c.index_mut-session.result.now c.index_mut-session.ensures.value row is)

pub returns-clause-serves : goal.returns-clause-serves
returns-clause-serves g c = λ row is.
    serves g.S.Service.IsKept (g.S.Service.value c.args.self.now.service) g.S.Service.buffer c.args.self.now.sessions c.args.memory.now c.args.self.now.map c.requires.server c.args.id.0 c.index_mut-session.result.now c.index_mut-session.ensures.value
    g.S.Service.payer g.met.S.Service.pays c.serve.new.memory c.serve.new.map c.serve.new.state c.serve.ensures.account c.serve.ensures.kept c.serve.ensures.payer c.serve.ensures.others
    (g.S.Service.step c.args.self.now.service) c.args.request.now c.serve.new.reply.text c.serve.new.reply.lines c.serve.result c.serve.ensures.effect c.serve.ensures.served row
    (row_there g.S.Service.IsKept (g.S.Service.value c.args.self.now.service) g.S.Service.buffer c.args.self.now.sessions c.args.memory.now c.args.self.now.map c.requires.server c.args.id.0 c.index_mut-session.result.now c.index_mut-session.ensures.value row is)
