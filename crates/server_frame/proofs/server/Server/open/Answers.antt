-- The new session is entered, and the others stay.
use Rattle.server_frame.proofs.OpenLemmas.{server_opens, opens}
use Rattle.server_frame.proofs.server.Server.open.Goals as goal

pub returns-clause-server : goal.returns-clause-server
returns-clause-server g c =
    server_opens g.S.Service.IsKept (g.S.Service.value c.args.self.now.service) g.S.Service.buffer c.args.self.now.sessions c.insert_reserved-id.new.self c.args.memory.now c.open_session_account.new.memory c.args.self.now.map c.open_session_account.new.map c.requires.server c.insert_reserved-id.result c.insert_reserved-id.ensures.was_vacant
    (record { account = c.in_ok-account.account; client = c.args.client; state = c.open-state.result }) c.in_ok-account.heap c.args.ram.0 c.args.caps.0 c.requires.client c.requires.no_session c.in_ok-account.ensures.furnished
    c.insert_reserved-id.ensures.updates (g.S.Service.first c.args.self.now.service c.args.label.now) c.open-state.ensures.first c.open-state.ensures.kept c.open-state.ensures.buffer

pub returns-clause-opens : goal.returns-clause-opens
returns-clause-opens g c =
    opens g.S.Service.IsKept (g.S.Service.value c.args.self.now.service) g.S.Service.buffer c.args.self.now.sessions c.insert_reserved-id.new.self c.args.memory.now c.open_session_account.new.memory c.args.self.now.map c.open_session_account.new.map c.requires.server c.insert_reserved-id.result c.insert_reserved-id.ensures.was_vacant
    (record { account = c.in_ok-account.account; client = c.args.client; state = c.open-state.result }) c.in_ok-account.heap c.args.ram.0 c.args.caps.0 c.requires.client c.requires.no_session c.in_ok-account.ensures.furnished
    c.insert_reserved-id.ensures.updates (g.S.Service.first c.args.self.now.service c.args.label.now) c.open-state.ensures.first c.open-state.ensures.kept c.open-state.ensures.buffer
