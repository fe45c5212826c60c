-- The walk goes from page to page, and then loads two states.
use Rattle.std.proofs.Common.{◌+◌, ◌^◌, ◌<◌, ◌≤◌, length, refl, sym, subst, ◌∙◌, arith}
use Rattle.dataspace_core.specs.Store.{space_at}
use Rattle.avl_alloc.specs.Walk.{IsWalking}
use Rattle.avl_alloc.proofs.WalkLemmas.{step_there, walk_start, walk_counted}
use Rattle.heap_core.proofs.WordsLemmas.{word_there}
use Rattle.heap_core.proofs.WalkLemmas.{page_words, walk_inside, walk_result}
use Rattle.heap_core.proofs.walk.walk.Goals as goal

pub load_word-requires-clause-range : goal.load_word-requires-clause-range
load_word-requires-clause-range g c =
    let q = c.requires.headers in
    let inside = walk_inside q.0 q.1 c.args.target _ q.2 _ _ 0 q.5 (walk_start q.0 q.1 c.args.target _ q.2 0 q.4.laid q.4.inside refl) in
    omega (arith, inside.least, inside.within)

pub pages-init : goal.pages-init
pages-init g c w start blocks words headers =
    let q = c.requires.headers in
    let inside = walk_inside q.0 q.1 c.args.target _ q.2 _ _ 0 q.5 (walk_start q.0 q.1 c.args.target _ q.2 0 q.4.laid q.4.inside refl) in
    let bytes = (space_at c.args.memory.now c.args.ds.0).bytes in
    let long : 0 + 8 ≤ length bytes = omega (arith, inside.least, inside.within) in
    let read = c.load_word.ensures ∙ sym (word_there bytes 0 refl long) ∙ sym (words 0 refl long (omega arith)) in
    subst (λ n. IsWalking w start c.args.target blocks (record { before = 0; offset = 0; next = c.load_word.result }) n c.args.loads.now) (sym c.tick.ensures)
    (walk_start w start c.args.target c.load_word.result blocks c.args.loads.now headers.laid headers.inside read)

pub walk_page-step-requires-clause-walking : goal.walk_page-step-requires-clause-walking
walk_page-step-requires-clause-walking g c =
    let q = c.requires.headers in
    let bytes = (space_at c.args.memory.now c.args.ds.0).bytes in
    let inside = q.4.inside in let short = q.5.short in
    let low : c.pages.step.next < 2 ^ 32 = omega (arith, c.pages-test.true, inside, short) in
    (q.0, q.1, c.args.loads.now, q.2, page_words c.page.result.now bytes q.0 q.1 c.pages.step.next q.3 low c.page.ensures.bytes c.page.ensures.size, c.pages.invariant q.0 q.1 q.2 q.3 q.4, q.5.short)

pub pages-preserved : goal.pages-preserved
pages-preserved g c w start blocks words headers =
    let q = c.requires.headers in
    let bytes = (space_at c.args.memory.now c.args.ds.0).bytes in
    let inside = q.4.inside in let short = q.5.short in
    let low : c.pages.step.next < 2 ^ 32 = omega (arith, c.pages-test.true, inside, short) in
    c.walk_page-step.ensures.walking w start c.args.loads.now blocks (page_words c.page.result.now bytes w start c.pages.step.next words low c.page.ensures.bytes c.page.ensures.size) (c.pages.invariant w start blocks words headers)

pub pages-smaller : goal.pages-smaller
pages-smaller g c =
    let q = c.requires.headers in
    let bytes = (space_at c.args.memory.now c.args.ds.0).bytes in
    let inside = q.4.inside in let short = q.5.short in
    let low : c.pages.step.next < 2 ^ 32 = omega (arith, c.pages-test.true, inside, short) in
    let walking = c.walk_page-step.ensures.walking q.0 q.1 c.args.loads.now q.2 (page_words c.page.result.now bytes q.0 q.1 c.pages.step.next q.3 low c.page.ensures.bytes c.page.ensures.size) (c.pages.invariant q.0 q.1 q.2 q.3 q.4) in
    let there = (step_there q.0 q.1 c.args.target q.2 c.walk_page-step.result _ c.args.loads.now walking).least in
    omega (arith, there, c.walk_page-step.ensures.on, c.pages-test.true)

pub load_word-used-requires-clause-range : goal.load_word-used-requires-clause-range
load_word-used-requires-clause-range g c =
    let q = c.requires.headers in
    let inside = walk_inside q.0 q.1 c.args.target _ q.2 c.pages.step _ c.args.loads.now q.5 (c.pages.invariant q.0 q.1 q.2 q.3 q.4) in
    omega (arith, inside.least, inside.within)

pub hole_before-requires-clause-header : goal.hole_before-requires-clause-header
hole_before-requires-clause-header g c =
    let q = c.requires.headers in
    (walk_inside q.0 q.1 c.args.target _ q.2 c.pages.step _ c.args.loads.now q.5 (c.pages.invariant q.0 q.1 q.2 q.3 q.4)).earlier

pub returns-clause-found : goal.returns-clause-found
returns-clause-found g c w start blocks words headers =
    let q = c.requires.headers in
    let bytes = (space_at c.args.memory.now c.args.ds.0).bytes in
    let inside = walk_inside q.0 q.1 c.args.target _ q.2 c.pages.step _ c.args.loads.now q.5 (c.pages.invariant q.0 q.1 q.2 q.3 q.4) in
    walk_result bytes w start c.args.target blocks c.pages.step _ c.args.loads.now c.load_word-used.result c.hole_before.result words inside (c.pages.invariant w start blocks words headers) c.pages-test.false c.load_word-used.ensures c.hole_before.ensures.size

pub returns-clause-loads : goal.returns-clause-loads
returns-clause-loads g c w start blocks words headers =
    let counted = walk_counted w start c.args.target blocks c.pages.step _ c.args.loads.now (c.pages.invariant w start blocks words headers) c.pages-test.false in
    omega (arith, counted, c.tick-2.ensures, c.hole_before.ensures.loads)
