-- Where it has a row.
use Rattle.std.proofs.Common.{◌≡◌, ◌∙◌, is_some, rules}
use Rattle.slab.specs.Slab as slab
use Rattle.server_frame.proofs.RowLaws.{open_row}
use Rattle.server_frame.proofs.server.Server.is_open.Goals as goal

pub returns-clause-row : goal.returns-clause-row
returns-clause-row g c = λ store.
    let sessions = c.args.self.now.sessions in
    let stands : c.contains.result ≡ is_some (slab.get sessions c.args.id.0) = search rules in
    stands ∙ open_row (g.S.Service.value c.args.self.now.service) g.S.Service.buffer sessions store c.args.self.now.map c.args.id.0
