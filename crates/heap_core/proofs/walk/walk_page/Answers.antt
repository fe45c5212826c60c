-- Each step of the loop goes over three headers, or ends at one of them.
use Rattle.std.proofs.Common.{refl, sym, ap, subst, arith}
use Rattle.avl_alloc.specs.declared.chunk.Step.{Step}
use Rattle.avl_alloc.specs.Walk.{IsWalking}
use Rattle.heap_core.proofs.WalkLemmas.{before_end, first_next, first_on, page_next, page_on}
use Rattle.avl_alloc.proofs.WalkLemmas.{step_there}
use Rattle.heap_core.proofs.walk.walk_page.Goals as goal

-- the first header of the page
pub next_offset-next-requires : goal.next_offset-next-requires
next_offset-next-requires g c =
    let q = c.requires.walking in
    let it = first_next c.args.page.now q.0 q.1 c.args.target q.3 c.args.step.next q.4 c.args.step _ q.2 refl c.requires.ahead q.5 in
    record { within = omega (arith, it.within, c.requires.size); short = omega (arith, it.end, q.6) }

pub headers-init : goal.headers-init
headers-init g c = record {
  on = omega arith;
  order = omega arith;
  walking = λ w start k blocks is was.
      first_on c.args.page.now w start c.args.target blocks c.args.step.next is c.args.step _ k refl c.requires.ahead was _ _ c.next_offset-next.ensures.next c.next_offset-next.ensures.loads;
}

-- the three headers of a step of the loop

pub next_offset-second-requires : goal.next_offset-second-requires
next_offset-second-requires g c =
    let q = c.requires.walking in
    let ahead0 = before_end c.args.step.next c.args.target _ c.headers.next c.min-end.ensures c.requires.ahead c.headers-test.true in
    let walk0 = c.headers.invariant.walking q.0 q.1 q.2 q.3 q.4 q.5 in
    let it = page_next c.args.page.now q.0 q.1 c.args.target q.3 c.args.step.next q.4 c.args.step.offset c.headers.before c.headers.offset c.headers.next _ q.2 ahead0 walk0 in
    record { within = omega (arith, it.within, c.requires.size); short = omega (arith, it.end, q.6) }

pub next_offset-third-requires : goal.next_offset-third-requires
next_offset-third-requires g c =
    let q = c.requires.walking in
    let ahead0 = before_end c.args.step.next c.args.target _ c.headers.next c.min-end.ensures c.requires.ahead c.headers-test.true in
    let ahead1 = before_end c.args.step.next c.args.target _ c.next_offset-second.result c.min-end.ensures c.requires.ahead c.if-second-end.false in
    let walk0 = c.headers.invariant.walking q.0 q.1 q.2 q.3 q.4 q.5 in
    let walk1 = page_on c.args.page.now q.0 q.1 c.args.target q.3 c.args.step.next q.4 c.args.step.offset c.headers.before c.headers.offset c.headers.next _ q.2 ahead0 walk0 _ _ c.next_offset-second.ensures.next c.next_offset-second.ensures.loads in
    let it = page_next c.args.page.now q.0 q.1 c.args.target q.3 c.args.step.next q.4 c.args.step.offset c.headers.offset c.headers.next c.next_offset-second.result _ q.2 ahead1 walk1 in
    record { within = omega (arith, it.within, c.requires.size); short = omega (arith, it.end, q.6) }

pub next_offset-next-requires-in-headers : goal.next_offset-next-requires-in-headers
next_offset-next-requires-in-headers g c =
    let q = c.requires.walking in
    let ahead0 = before_end c.args.step.next c.args.target _ c.headers.next c.min-end.ensures c.requires.ahead c.headers-test.true in
    let ahead1 = before_end c.args.step.next c.args.target _ c.next_offset-second.result c.min-end.ensures c.requires.ahead c.if-second-end.false in
    let ahead2 = before_end c.args.step.next c.args.target _ c.next_offset-third.result c.min-end.ensures c.requires.ahead c.if-third-end.false in
    let walk0 = c.headers.invariant.walking q.0 q.1 q.2 q.3 q.4 q.5 in
    let walk1 = page_on c.args.page.now q.0 q.1 c.args.target q.3 c.args.step.next q.4 c.args.step.offset c.headers.before c.headers.offset c.headers.next _ q.2 ahead0 walk0 _ _ c.next_offset-second.ensures.next c.next_offset-second.ensures.loads in
    let walk2 = page_on c.args.page.now q.0 q.1 c.args.target q.3 c.args.step.next q.4 c.args.step.offset c.headers.offset c.headers.next c.next_offset-second.result _ q.2 ahead1 walk1 _ _ c.next_offset-third.ensures.next c.next_offset-third.ensures.loads in
    let it = page_next c.args.page.now q.0 q.1 c.args.target q.3 c.args.step.next q.4 c.args.step.offset c.headers.next c.next_offset-second.result c.next_offset-third.result _ q.2 ahead2 walk2 in
    record { within = omega (arith, it.within, c.requires.size); short = omega (arith, it.end, q.6) }

pub headers-preserved : goal.headers-preserved
headers-preserved g c =
    let q = c.requires.walking in
    let ahead0 = before_end c.args.step.next c.args.target _ c.headers.next c.min-end.ensures c.requires.ahead c.headers-test.true in
    let ahead1 = before_end c.args.step.next c.args.target _ c.next_offset-second.result c.min-end.ensures c.requires.ahead c.if-second-end.false in
    let ahead2 = before_end c.args.step.next c.args.target _ c.next_offset-third.result c.min-end.ensures c.requires.ahead c.if-third-end.false in
    let walk0 = c.headers.invariant.walking q.0 q.1 q.2 q.3 q.4 q.5 in
    let walk1 = page_on c.args.page.now q.0 q.1 c.args.target q.3 c.args.step.next q.4 c.args.step.offset c.headers.before c.headers.offset c.headers.next _ q.2 ahead0 walk0 _ _ c.next_offset-second.ensures.next c.next_offset-second.ensures.loads in
    let walk2 = page_on c.args.page.now q.0 q.1 c.args.target q.3 c.args.step.next q.4 c.args.step.offset c.headers.offset c.headers.next c.next_offset-second.result _ q.2 ahead1 walk1 _ _ c.next_offset-third.ensures.next c.next_offset-third.ensures.loads in
    let there0 = step_there q.0 q.1 c.args.target q.3 _ _ q.2 walk0 in let least0 = there0.least in let end0 = there0.end in
    let there1 = step_there q.0 q.1 c.args.target q.3 _ _ q.2 walk1 in let least1 = there1.least in let end1 = there1.end in
    let there2 = step_there q.0 q.1 c.args.target q.3 _ _ q.2 walk2 in let least2 = there2.least in let end2 = there2.end in
    let on = c.headers.invariant.on in
    record {
      on = omega (arith, on, least0, least1, least2);
      order = omega (arith, least2);
      walking = λ w start k blocks is was.
          let walk0 = c.headers.invariant.walking w start k blocks is was in
          let walk1 = page_on c.args.page.now w start c.args.target blocks c.args.step.next is c.args.step.offset c.headers.before c.headers.offset c.headers.next _ k ahead0 walk0 _ _ c.next_offset-second.ensures.next c.next_offset-second.ensures.loads in
          let walk2 = page_on c.args.page.now w start c.args.target blocks c.args.step.next is c.args.step.offset c.headers.offset c.headers.next c.next_offset-second.result _ k ahead1 walk1 _ _ c.next_offset-third.ensures.next c.next_offset-third.ensures.loads in
          let walk3 = page_on c.args.page.now w start c.args.target blocks c.args.step.next is c.args.step.offset c.headers.next c.next_offset-second.result c.next_offset-third.result _ k ahead2 walk2 _ _ c.next_offset-next-in-headers.ensures.next c.next_offset-next-in-headers.ensures.loads in
          walk3;
    }

pub headers-smaller : goal.headers-smaller
headers-smaller g c =
    let q = c.requires.walking in
    let ahead0 = before_end c.args.step.next c.args.target _ c.headers.next c.min-end.ensures c.requires.ahead c.headers-test.true in
    let ahead1 = before_end c.args.step.next c.args.target _ c.next_offset-second.result c.min-end.ensures c.requires.ahead c.if-second-end.false in
    let ahead2 = before_end c.args.step.next c.args.target _ c.next_offset-third.result c.min-end.ensures c.requires.ahead c.if-third-end.false in
    let walk0 = c.headers.invariant.walking q.0 q.1 q.2 q.3 q.4 q.5 in
    let walk1 = page_on c.args.page.now q.0 q.1 c.args.target q.3 c.args.step.next q.4 c.args.step.offset c.headers.before c.headers.offset c.headers.next _ q.2 ahead0 walk0 _ _ c.next_offset-second.ensures.next c.next_offset-second.ensures.loads in
    let walk2 = page_on c.args.page.now q.0 q.1 c.args.target q.3 c.args.step.next q.4 c.args.step.offset c.headers.offset c.headers.next c.next_offset-second.result _ q.2 ahead1 walk1 _ _ c.next_offset-third.ensures.next c.next_offset-third.ensures.loads in
    let walk3 = page_on c.args.page.now q.0 q.1 c.args.target q.3 c.args.step.next q.4 c.args.step.offset c.headers.next c.next_offset-second.result c.next_offset-third.result _ q.2 ahead2 walk2 _ _ c.next_offset-next-in-headers.ensures.next c.next_offset-next-in-headers.ensures.loads in
    let there0 = step_there q.0 q.1 c.args.target q.3 _ _ q.2 walk0 in let least0 = there0.least in let end0 = there0.end in
    let there1 = step_there q.0 q.1 c.args.target q.3 _ _ q.2 walk1 in let least1 = there1.least in let end1 = there1.end in
    let there2 = step_there q.0 q.1 c.args.target q.3 _ _ q.2 walk2 in let least2 = there2.least in let end2 = there2.end in
    let there3 = step_there q.0 q.1 c.args.target q.3 _ _ q.2 walk3 in let least3 = there3.least in let end3 = there3.end in
    omega (arith, least0, least1, least2, least3, c.headers-test.true)

-- the walk ends in the page at the first of them

pub step_in_page-requires : goal.step_in_page-requires
step_in_page-requires g c =
    let q = c.requires.walking in
    let ahead0 = before_end c.args.step.next c.args.target _ c.headers.next c.min-end.ensures c.requires.ahead c.headers-test.true in
    let walk0 = c.headers.invariant.walking q.0 q.1 q.2 q.3 q.4 q.5 in
    let walk1 = page_on c.args.page.now q.0 q.1 c.args.target q.3 c.args.step.next q.4 c.args.step.offset c.headers.before c.headers.offset c.headers.next _ q.2 ahead0 walk0 _ _ c.next_offset-second.ensures.next c.next_offset-second.ensures.loads in
    let there0 = step_there q.0 q.1 c.args.target q.3 _ _ q.2 walk0 in let least0 = there0.least in let end0 = there0.end in
    let there1 = step_there q.0 q.1 c.args.target q.3 _ _ q.2 walk1 in let least1 = there1.least in let end1 = there1.end in
    let on = c.headers.invariant.on in let order = c.headers.invariant.order in
    record { before = omega (arith, q.6, on, order, least0, end0, least1, end1); offset = omega (arith, q.6, on, order, least0, end0, least1, end1); next = omega (arith, q.6, on, order, least0, end0, least1, end1) }

pub returns-then-second-end-clause-on : goal.returns-then-second-end-clause-on
returns-then-second-end-clause-on g c =
    let q = c.requires.walking in
    let ahead0 = before_end c.args.step.next c.args.target _ c.headers.next c.min-end.ensures c.requires.ahead c.headers-test.true in
    let walk0 = c.headers.invariant.walking q.0 q.1 q.2 q.3 q.4 q.5 in
    let walk1 = page_on c.args.page.now q.0 q.1 c.args.target q.3 c.args.step.next q.4 c.args.step.offset c.headers.before c.headers.offset c.headers.next _ q.2 ahead0 walk0 _ _ c.next_offset-second.ensures.next c.next_offset-second.ensures.loads in
    let there0 = step_there q.0 q.1 c.args.target q.3 _ _ q.2 walk0 in let least0 = there0.least in let end0 = there0.end in
    let there1 = step_there q.0 q.1 c.args.target q.3 _ _ q.2 walk1 in let least1 = there1.least in let end1 = there1.end in
    let on = c.headers.invariant.on in let order = c.headers.invariant.order in
    let at = ap (λ (s : Step). s.offset) c.step_in_page.ensures in omega (arith, at, on, least0, least1)

pub returns-then-second-end-clause-walking : goal.returns-then-second-end-clause-walking
returns-then-second-end-clause-walking g c w start k blocks is was =
    let ahead0 = before_end c.args.step.next c.args.target _ c.headers.next c.min-end.ensures c.requires.ahead c.headers-test.true in
    let walk0 = c.headers.invariant.walking w start k blocks is was in
    let walk1 = page_on c.args.page.now w start c.args.target blocks c.args.step.next is c.args.step.offset c.headers.before c.headers.offset c.headers.next _ k ahead0 walk0 _ _ c.next_offset-second.ensures.next c.next_offset-second.ensures.loads in
    subst (λ s. IsWalking w start c.args.target blocks s c.next_offset-second.new.loads k) (sym c.step_in_page.ensures) walk1

-- at the second one

pub step_in_page-requires-then-third-end-clause-next : goal.step_in_page-requires-then-third-end-clause-next
step_in_page-requires-then-third-end-clause-next g c =
    let q = c.requires.walking in
    let ahead0 = before_end c.args.step.next c.args.target _ c.headers.next c.min-end.ensures c.requires.ahead c.headers-test.true in
    let ahead1 = before_end c.args.step.next c.args.target _ c.next_offset-second.result c.min-end.ensures c.requires.ahead c.if-second-end.false in
    let walk0 = c.headers.invariant.walking q.0 q.1 q.2 q.3 q.4 q.5 in
    let walk1 = page_on c.args.page.now q.0 q.1 c.args.target q.3 c.args.step.next q.4 c.args.step.offset c.headers.before c.headers.offset c.headers.next _ q.2 ahead0 walk0 _ _ c.next_offset-second.ensures.next c.next_offset-second.ensures.loads in
    let walk2 = page_on c.args.page.now q.0 q.1 c.args.target q.3 c.args.step.next q.4 c.args.step.offset c.headers.offset c.headers.next c.next_offset-second.result _ q.2 ahead1 walk1 _ _ c.next_offset-third.ensures.next c.next_offset-third.ensures.loads in
    let there0 = step_there q.0 q.1 c.args.target q.3 _ _ q.2 walk0 in let least0 = there0.least in let end0 = there0.end in
    let there1 = step_there q.0 q.1 c.args.target q.3 _ _ q.2 walk1 in let least1 = there1.least in let end1 = there1.end in
    let there2 = step_there q.0 q.1 c.args.target q.3 _ _ q.2 walk2 in let least2 = there2.least in let end2 = there2.end in
    let on = c.headers.invariant.on in let order = c.headers.invariant.order in
    omega (arith, q.6, on, order, least0, end0, least1, end1, least2, end2)

pub returns-then-third-end-clause-on : goal.returns-then-third-end-clause-on
returns-then-third-end-clause-on g c =
    let q = c.requires.walking in
    let ahead0 = before_end c.args.step.next c.args.target _ c.headers.next c.min-end.ensures c.requires.ahead c.headers-test.true in
    let ahead1 = before_end c.args.step.next c.args.target _ c.next_offset-second.result c.min-end.ensures c.requires.ahead c.if-second-end.false in
    let walk0 = c.headers.invariant.walking q.0 q.1 q.2 q.3 q.4 q.5 in
    let walk1 = page_on c.args.page.now q.0 q.1 c.args.target q.3 c.args.step.next q.4 c.args.step.offset c.headers.before c.headers.offset c.headers.next _ q.2 ahead0 walk0 _ _ c.next_offset-second.ensures.next c.next_offset-second.ensures.loads in
    let walk2 = page_on c.args.page.now q.0 q.1 c.args.target q.3 c.args.step.next q.4 c.args.step.offset c.headers.offset c.headers.next c.next_offset-second.result _ q.2 ahead1 walk1 _ _ c.next_offset-third.ensures.next c.next_offset-third.ensures.loads in
    let there0 = step_there q.0 q.1 c.args.target q.3 _ _ q.2 walk0 in let least0 = there0.least in let end0 = there0.end in
    let there1 = step_there q.0 q.1 c.args.target q.3 _ _ q.2 walk1 in let least1 = there1.least in let end1 = there1.end in
    let there2 = step_there q.0 q.1 c.args.target q.3 _ _ q.2 walk2 in let least2 = there2.least in let end2 = there2.end in
    let on = c.headers.invariant.on in let order = c.headers.invariant.order in
    let at = ap (λ (s : Step). s.offset) c.step_in_page-then-third-end.ensures in omega (arith, at, on, least0, least1, least2)

pub returns-then-third-end-clause-walking : goal.returns-then-third-end-clause-walking
returns-then-third-end-clause-walking g c w start k blocks is was =
    let ahead0 = before_end c.args.step.next c.args.target _ c.headers.next c.min-end.ensures c.requires.ahead c.headers-test.true in
    let ahead1 = before_end c.args.step.next c.args.target _ c.next_offset-second.result c.min-end.ensures c.requires.ahead c.if-second-end.false in
    let walk0 = c.headers.invariant.walking w start k blocks is was in
    let walk1 = page_on c.args.page.now w start c.args.target blocks c.args.step.next is c.args.step.offset c.headers.before c.headers.offset c.headers.next _ k ahead0 walk0 _ _ c.next_offset-second.ensures.next c.next_offset-second.ensures.loads in
    let walk2 = page_on c.args.page.now w start c.args.target blocks c.args.step.next is c.args.step.offset c.headers.offset c.headers.next c.next_offset-second.result _ k ahead1 walk1 _ _ c.next_offset-third.ensures.next c.next_offset-third.ensures.loads in
    subst (λ s. IsWalking w start c.args.target blocks s c.next_offset-third.new.loads k) (sym c.step_in_page-then-third-end.ensures) walk2

-- or at the third one

pub step_in_page-requires-2 : goal.step_in_page-requires-2
step_in_page-requires-2 g c =
    let q = c.requires.walking in
    let walk0 = c.headers.invariant.walking q.0 q.1 q.2 q.3 q.4 q.5 in
    let there0 = step_there q.0 q.1 c.args.target q.3 _ _ q.2 walk0 in let least0 = there0.least in let end0 = there0.end in
    let on = c.headers.invariant.on in let order = c.headers.invariant.order in
    record { before = omega (arith, q.6, on, order, least0, end0); offset = omega (arith, q.6, on, order, least0, end0); next = omega (arith, q.6, on, order, least0, end0) }

pub returns-clause-walking : goal.returns-clause-walking
returns-clause-walking g c w start k blocks is was =
    let walk0 = c.headers.invariant.walking w start k blocks is was in
    subst (λ s. IsWalking w start c.args.target blocks s c.headers.loads k) (sym c.step_in_page-2.ensures) walk0
