-- It is what its row lends.
use Rattle.std.proofs.Common.{ap, ◌∙◌}
use Rattle.server_frame.specs.Frame.{Row}
use Rattle.server_frame.proofs.RowLaws.{row_is}
use Rattle.server_frame.proofs.server.Server.buffer.Goals as goal

pub returns-clause-row : goal.returns-clause-row
returns-clause-row g c = λ store row there.
    c.buffer.ensures ∙ ap (λ (r : Row g.S.Service.Value). r.buffer) (row_is (g.S.Service.value c.args.self.now.service) g.S.Service.buffer c.args.self.now.sessions store c.args.self.now.map c.args.id.0 c.index.result.now c.index.ensures row there)
