-- The heap window starts empty.
use Rattle.std.proofs.Common.{◌≡◌, nat_cmp, ap, ◌∙◌}
use Rattle.std.proofs.lemmas.Result.{IfOk-at_ok}
use Rattle.std.specs.FinMap.{len, len-empty}
use Rattle.own_model.specs.HeapWindow.{pages_of_all}
use Rattle.own_model.specs.Region.{Region}
use Rattle.own_model.proofs.Totals.{total-empty}
use Rattle.region_map.specs.Regions.{Regions, fresh_regions}
use Rattle.layer_tests.proofs.regions.booted.Goals as goal

pub returns-clause-count : goal.returns-clause-count
returns-clause-count g c =
    let fresh : c.expect.result ≡ fresh_regions 128 64 64 = IfOk-at_ok (λ (map : Regions). map ≡ fresh_regions 128 64 64) c.expect.ensures c.boot.ensures in
    ap (λ (r : Regions). len r.heap) fresh ∙ len-empty nat_cmp Region

pub returns-clause-used : goal.returns-clause-used
returns-clause-used g c =
    let fresh : c.expect.result ≡ fresh_regions 128 64 64 = IfOk-at_ok (λ (map : Regions). map ≡ fresh_regions 128 64 64) c.expect.ensures c.boot.ensures in
    ap (λ (r : Regions). pages_of_all r.heap) fresh ∙ total-empty (λ r. r.pages)
