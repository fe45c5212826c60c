-- A sum more, or none.
use Rattle.std.proofs.Common.{◌≡◌, ◌+◌, ◌≤◌, ◌<◌, ◌∙◌, true, ap, drop, length, refl, sym, take, arith}
use Rattle.std.proofs.lemmas.List.{length-drop}
use Rattle.line_names.specs.Sums.{begins_sum, count_of}
use Rattle.line_names.proofs.SumLemmas.{sums_step, total_step, total_stop}
use Rattle.line_names.proofs.sums.total_of.Goals as goal

pub returns-in-Err-clause-count : goal.returns-in-Err-clause-count
returns-in-Err-clause-count c =
    let text = c.args.text.now in
    let at = c.sums.at in
    let some : 2 ≤ length c.behind.result.now = c.begins_sum.ensures.some c.sums-test.true in
    let within : at < length text = omega (arith, some, ap length c.behind.ensures, length-drop at text) in
    let begins : begins_sum (drop at text) ≡ true = ap begins_sum (sym c.behind.ensures) ∙ sym c.begins_sum.ensures.value ∙ c.sums-test.true in
    sym (c.sums.invariant.total
    ∙ total_stop text c.behind-rest.result.now c.sums.total at c.next_count-next.result.1 c.next_count-next.result.0 within begins c.behind-rest.ensures c.next_count-next.ensures.size
    (c.next_count-next.ensures.count ∙ ap (λ n. count_of (take n c.behind-rest.result.now)) (sym c.next_count-next.ensures.size)) c.in-Err.reason (sym c.in-Err.is ∙ c.sum_of.ensures))

pub sums-preserved : goal.sums-preserved
sums-preserved c =
    let text = c.args.text.now in
    let at = c.sums.at in
    let some : 2 ≤ length c.behind.result.now = c.begins_sum.ensures.some c.sums-test.true in
    let within : at < length text = omega (arith, some, ap length c.behind.ensures, length-drop at text) in
    let begins : begins_sum (drop at text) ≡ true = ap begins_sum (sym c.behind.ensures) ∙ sym c.begins_sum.ensures.value ∙ c.sums-test.true in
    let size = c.next_count-next.ensures.size in
    let count = c.next_count-next.ensures.count ∙ ap (λ n. count_of (take n c.behind-rest.result.now)) (sym c.next_count-next.ensures.size) in
    record {
      within = omega (arith, within, c.next_count-next.ensures.within, ap length c.behind-rest.ensures, length-drop (at + 1) text);
      total =
          c.sums.invariant.total
          ∙ total_step text c.behind-rest.result.now c.sums.total at c.next_count-next.result.1 c.next_count-next.result.0 within begins c.behind-rest.ensures size count c.in-Ok.sum (sym c.in-Ok.is ∙ c.sum_of.ensures);
      size =
          c.sums.invariant.size
          ∙ sums_step text c.behind-rest.result.now c.sums.total at c.next_count-next.result.1 c.next_count-next.result.0 within begins c.behind-rest.ensures size count c.next_count-next.ensures.within;
    }
