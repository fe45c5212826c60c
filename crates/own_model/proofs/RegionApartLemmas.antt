-- Regions that lie apart in a window still do with one more at a place, and with fewer.
use Rattle.std.proofs.Common.{◌≡◌, ◌≢◌, ℕ, ◌≤◌, false, Some, refl, ◌∙◌, nat_cmp, arith}
use Rattle.std.proofs.lemmas.Option.{none-some}
use Rattle.std.specs.FinMap.{get, insert, empty}
use Rattle.own_model.proofs.NatMapLemmas.{get-empty, each_after_insert}
use Rattle.own_model.proofs.RegionLemmas.{overlap_sym}
use Rattle.own_model.specs.NatMap.{NatMap}
use Rattle.own_model.specs.Region.{Region, overlap, IsPlace}
use Rattle.own_model.specs.Sound.{IsInWindow, LieApart}
use Rattle.std.proofs.lemmas.Bool.Decides.{nat_tests}

module _ (low high : ℕ) where
  -- no regions lie apart
  pub LieApart-empty : (regions : NatMap Region) → ((start : ℕ) → get regions start ≡ get (empty {R = nat_cmp}) start) → LieApart low high regions
  LieApart-empty regions none = grind (arith, nat_tests, none-some, get-empty)

  -- some of the regions lie apart where all do
  pub LieApart-fewer : (all some : NatMap Region) → ((start : ℕ) (r : Region) → get some start ≡ Some r → get all start ≡ Some r) → LieApart low high all → LieApart low high some
  LieApart-fewer all some left h = grind (arith, nat_tests)

  -- and with one more at a place
  pub LieApart-insert : (regions : NatMap Region) (address : ℕ) (region : Region) → 1 ≤ region.pages → IsPlace low high regions region.pages address → LieApart low high regions → LieApart low high (insert regions address region)
  LieApart-insert regions address region more at h = record {
    some = each_after_insert regions address region (λ start r. 1 ≤ r.pages) h.some more;
    within = each_after_insert regions address region (λ start r. IsInWindow low high start r.pages) h.within
        (record { aligned = at.aligned; from_low = at.from_low; to_high = at.to_high });
    apart = λ a b r q x y.
        each_after_insert regions address region (λ a r. (b : ℕ) (q : Region) → get (insert regions address region) b ≡ Some q → a ≢ b → overlap a r.pages b q.pages ≡ false)
        (λ a r x. each_after_insert regions address region (λ b q. a ≢ b → overlap a r.pages b q.pages ≡ false) (λ b q y. h.apart a b r q x y) (λ _. at.free a r x))
        (each_after_insert regions address region (λ b q. address ≢ b → overlap address region.pages b q.pages ≡ false)
        (λ b q y _. overlap_sym address region.pages b q.pages ∙ at.free b q y) (λ same. absurd (same refl)))
        a r x b q y;
  }
