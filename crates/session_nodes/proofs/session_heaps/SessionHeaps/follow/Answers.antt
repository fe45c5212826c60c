-- Links are followed page by page.
use Rattle.std.proofs.Common.{◌≡◌, ℕ, ◌+◌, ◌-◌, ◌<◌, sym, ap, subst, ◌∙◌, arith, inl, inr}
use Rattle.std.proofs.lemmas.Bool.{cases_eq}
use Rattle.session_nodes.specs.Calls.{HasBytes}
use Rattle.session_nodes.specs.Index.{word_at}
use Rattle.session_nodes.specs.Links.{followed}
use Rattle.session_nodes.specs.SessionHeaps.{stock_of}
use Rattle.session_nodes.proofs.FollowLemmas.{followed_end, followed_then}
use Rattle.session_nodes.proofs.session_heaps.SessionHeaps.follow.Goals as goal

pub pages-init : goal.pages-init
pages-init c =
    let link : ℕ → ℕ = word_at (stock_of c.args.self.now c.args.memory.now c.args.map.now).nodes c.args.link in
    let none : 0 ≡ c.args.count - c.args.count = omega arith in
    record { fewer = omega arith; address = ap (λ n. followed link n c.args.from) none }

pub follow_in_page-next-requires-clause-there : goal.follow_in_page-next-requires-clause-there
follow_in_page-next-requires-clause-there c k less some =
    let i = c.pages.invariant in
    let nodes = (stock_of c.args.self.now c.args.memory.now c.args.map.now).nodes in
    let link : ℕ → ℕ = word_at nodes c.args.link in
    let to : followed link k c.pages.address ≡ followed link (k + (c.args.count - c.pages.left)) c.args.from =
    ap (followed link k) i.address ∙ followed_then link (c.args.count - c.pages.left) k c.args.from in
    subst (λ b. HasBytes nodes.payloads b 0 96) (sym to) (c.requires.there (k + (c.args.count - c.pages.left)) (omega (arith, less, i.fewer)) (λ e. some (to ∙ e)))

pub pages-preserved : goal.pages-preserved
pages-preserved c =
    let i = c.pages.invariant in
    let link : ℕ → ℕ = word_at (stock_of c.args.self.now c.args.memory.now c.args.map.now).nodes c.args.link in
    let left = c.follow_in_page-next.result.1 in
    let less : left < c.pages.left = c.follow_in_page-next.ensures.fewer in
    let whole : c.pages.left - left + (c.args.count - c.pages.left) ≡ c.args.count - left = omega (arith, i.fewer, less) in
    record {
      fewer = omega (arith, i.fewer, less);
      address = c.follow_in_page-next.ensures.address ∙ ap (followed link (c.pages.left - left)) i.address
          ∙ followed_then link (c.args.count - c.pages.left) (c.pages.left - left) c.args.from ∙ ap (λ n. followed link n c.args.from) whole;
    }

pub returns-else-address-ne0 : goal.returns-else-address-ne0
returns-else-address-ne0 c =
    let i = c.pages.invariant in
    let link : ℕ → ℕ = word_at (stock_of c.args.self.now c.args.memory.now c.args.map.now).nodes c.args.link in
    let done : ℕ = c.args.count - c.pages.left in
    elim (cases_eq c.pages.left 0) [
      | inl none ↦
          let all : done ≡ c.args.count = omega (arith, none) in
          i.address ∙ ap (λ n. followed link n c.args.from) all
      | inr more ↦
          let end : c.pages.address ≡ 0 = omega (arith, more) in
          let whole : c.pages.left + done ≡ c.args.count = omega (arith, i.fewer) in
          end ∙ sym (followed_end link c.pages.left) ∙ ap (followed link c.pages.left) (sym end ∙ i.address) ∙ followed_then link done c.pages.left c.args.from
          ∙ ap (λ n. followed link n c.args.from) whole
    ]
