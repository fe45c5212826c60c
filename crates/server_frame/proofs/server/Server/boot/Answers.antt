-- There is no session, and no region.
use Rattle.std.proofs.Common.{◌≡◌, ◌*◌, [], sym, ap, ◌∙◌, rules}
use Rattle.region_map.specs.Regions.{Regions}
use Rattle.server_frame.proofs.FrameLaws.{server_at_first}
use Rattle.server_frame.proofs.server.Server.boot.Goals as goal

pub returns-clause-server : goal.returns-clause-server
returns-clause-server g c = λ store limits.
    let none : c.in_ok-table.table.slots ≡ [] = search rules in
    server_at_first g.S.Service.IsKept c.in_ok-table.table store c.in_ok-map.map none (ap (λ (m : Regions). m.heap) c.in_ok-map.ensures)
    (ap (λ (m : Regions). m.pages * 4096) c.in_ok-map.ensures ∙ sym limits)
    (ap (λ (m : Regions). m.heap_most) c.in_ok-map.ensures ∙ sym (ap (λ (m : Regions). m.pages) c.in_ok-map.ensures))
