-- The link of a block that lies in the page is in it.
use Rattle.std.proofs.Common.{◌≡◌, ◌≢◌, ℕ, suc, ◌+◌, ◌-◌, ◌<◌, ◌≤◌, sym, ap, subst, ◌∙◌, arith}
use Rattle.session_nodes.specs.Links.{followed}
use Rattle.session_nodes.specs.Node.{word_from}
use Rattle.session_nodes.proofs.FollowLemmas.{led_some}
use Rattle.session_nodes.proofs.links.follow_links.Goals as goal

pub links-preserved : goal.links-preserved
links-preserved c =
    let i = c.links.invariant in
    record {
      fewer = omega (arith, i.fewer);
      address = λ link shows.
          let at = i.address link shows in
          let n : ℕ = c.args.count - c.links.left in
          let block : ℕ = followed link n c.args.from in
          let less : n < c.args.count = omega (arith, i.fewer) in
          let low : c.args.front ≤ block = subst (λ a. c.args.front ≤ a) at (omega arith) in
          let high : block ≤ c.args.front + 4088 = subst (λ a. a ≤ c.args.front + 4088) at (omega arith) in
          let some : block ≢ 0 = λ (e : block ≡ 0). absurd (omega (arith, low, e, c.requires.above)) in
          let more : suc n ≡ c.args.count - (c.links.left - 1) = omega (arith, i.fewer) in
          c.word_in-address-in-links.ensures ∙ ap (λ a. word_from c.args.page.now (a - c.args.front)) at ∙ shows n less low high ∙ sym (led_some link block some)
          ∙ ap (λ m. followed link m c.args.from) more;
    }
