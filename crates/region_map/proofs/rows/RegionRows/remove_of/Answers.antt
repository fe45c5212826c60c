-- From the last row down each is of another dataspace, or goes.
use Rattle.std.proofs.Common.{◌≡◌, ◌+◌, ◌-◌, ◌<◌, ◌==◌, not, suc, true, false, ◌∷◌, drop, length, sym, ap, ◌∙◌, arith}
use Rattle.std.proofs.lemmas.Bool.Decides.{nat_tests}
use Rattle.std.proofs.lemmas.List.Edits.{length-remove}
use Rattle.std.specs.List.{filter}
use Rattle.region_map.specs.declared.row.RegionRow.{RegionRow}
use Rattle.region_map.proofs.GapLemmas.{drop-row}
use Rattle.region_map.proofs.PlaceLemmas.{filter-without, drop-without, filter-kept}
use Rattle.region_map.proofs.rows.RegionRows.remove_of.Goals as goal

pub loop-at-preserved-then-row-ds : goal.loop-at-preserved-then-row-ds
loop-at-preserved-then-row-ds c =
    let keep = λ (row : RegionRow). not (row.ds.0 == c.args.ds.0) in
    let rows = c.loop-at.self.items in
    let some = c.loop-at-test.true in
    let at = c.loop-at.at - 1 in
    let there : at < length rows = let w = c.loop-at.invariant.within in omega arith in
    let next : suc at ≡ c.loop-at.at = omega arith in
    let no : keep c.row.result ≡ false = let same = c.if-row-ds.true in grind (arith, nat_tests) in
    let behind : drop at c.remove.new.self.items ≡ drop c.loop-at.at rows = ap (drop at) c.remove.ensures.items ∙ drop-without at rows there ∙ ap (λ n. drop n rows) next in
    record {
      within = let shorter = length-remove rows at there in let w = c.loop-at.invariant.within in rw c.remove.ensures.items (omega arith);
      behind = ap (filter keep) behind ∙ c.loop-at.invariant.behind ∙ sym behind;
      others = ap (filter keep) c.remove.ensures.items ∙ filter-without keep at rows c.row.result there c.row.ensures no ∙ c.loop-at.invariant.others;
      capacity = c.remove.ensures.capacity ∙ c.loop-at.invariant.capacity;
    }

pub loop-at-preserved : goal.loop-at-preserved
loop-at-preserved c =
    let keep = λ (row : RegionRow). not (row.ds.0 == c.args.ds.0) in
    let rows = c.loop-at.self.items in
    let some = c.loop-at-test.true in
    let at = c.loop-at.at - 1 in
    let there : at < length rows = let w = c.loop-at.invariant.within in omega arith in
    let next : at + 1 ≡ c.loop-at.at = omega arith in
    let yes : keep c.row.result ≡ true = let other = c.if-row-ds.false in grind (arith, nat_tests) in
    let front = drop-row at rows c.row.result there c.row.ensures ∙ ap (λ n. c.row.result ∷ drop n rows) next in
    record {
      within = let w = c.loop-at.invariant.within in omega arith;
      behind = ap (filter keep) front ∙ filter-kept keep c.row.result (drop c.loop-at.at rows) yes c.loop-at.invariant.behind ∙ sym front;
      others = c.loop-at.invariant.others;
      capacity = c.loop-at.invariant.capacity;
    }
