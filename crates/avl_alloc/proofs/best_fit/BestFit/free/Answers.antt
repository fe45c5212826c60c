use Rattle.std.proofs.Common.{rules, ◌∙◌, sym, arith}
use Rattle.std.proofs.lemmas.Bool.{not-false}
use Rattle.avl_alloc.proofs.FreedLemmas.{used_none, used_some}
use Rattle.avl_alloc.proofs.GivenLemmas.{not_used, not_start, used_start, sound_long, used_is, next_stand, next_end, IsGiven, back_stand, back_few, block_given}
use Rattle.avl_alloc.proofs.best_fit.BestFit.free.Given as given
use Rattle.avl_alloc.proofs.best_fit.BestFit.free.Goals as goal
use Rattle.avl_alloc.proofs.best_fit.BestFit.free.Goals.{then-not-block-via-then-not-block, then-not-block-via-else-not-block+then-block-addr}

-- the address lies in no chunk
pub returns-in_err-block-clause-block : goal.returns-in_err-block-clause-block
returns-in_err-block-clause-block g c =
    c.from_residual.ensures ∙ used_none c.args.addr.offset _ (sound_long _ _ c.requires.sound c.args.addr.chunk) (sym c.in_err-block.was ∙ c.reach.ensures.found)

-- no used block starts there
pub returns-then-not-block-clause-block : goal.returns-then-not-block-clause-block
returns-then-not-block-clause-block g c =
    let there = sym c.in_ok-block.was ∙ c.reach.ensures.found in
    let long = sound_long _ _ c.requires.sound c.args.addr.chunk in
    elim c.then-not-block.branch [
      | then-not-block-via-then-not-block w ↦ not_used c.args.addr.offset c.in_ok-block.block w.if-not-block.true ∙ used_some c.args.addr.offset _ c.in_ok-block.block long there
      | then-not-block-via-else-not-block+then-block-addr w ↦ not_start c.args.addr.offset c.in_ok-block.block w.if-block-addr.true ∙ used_some c.args.addr.offset _ c.in_ok-block.block long there
    ]

-- or one does
pub place_of-start-requires : goal.place_of-start-requires
place_of-start-requires g c =
    let is = used_is _ _ _ _ c.in_ok-block.block c.requires.sound (sym c.in_ok-block.was ∙ c.reach.ensures.found) (not-false _ c.if-not-block.false) c.if-block-addr.false in
    is.low

pub overflow_add-place : goal.overflow_add-place
overflow_add-place g c =
    let is = used_is _ _ _ _ c.in_ok-block.block c.requires.sound (sym c.in_ok-block.was ∙ c.reach.ensures.found) (not-false _ c.if-not-block.false) c.if-block-addr.false in
    omega (arith, is.end, is.last, c.place_of-start.ensures)

pub overflow_add-place-2 : goal.overflow_add-place-2
overflow_add-place-2 g c =
    let is = used_is _ _ _ _ c.in_ok-block.block c.requires.sound (sym c.in_ok-block.was ∙ c.reach.ensures.found) (not-false _ c.if-not-block.false) c.if-block-addr.false in
    omega (arith, is.end, is.last, c.place_of-start.ensures)

pub bounds-self-addr : goal.bounds-self-addr
bounds-self-addr g c =
    let is = used_is _ _ _ _ c.in_ok-block.block c.requires.sound (sym c.in_ok-block.was ∙ c.reach.ensures.found) (not-false _ c.if-not-block.false) c.if-block-addr.false in
    is.low

pub overflow_add-start : goal.overflow_add-start
overflow_add-start g c =
    let is = used_is _ _ _ _ c.in_ok-block.block c.requires.sound (sym c.in_ok-block.was ∙ c.reach.ensures.found) (not-false _ c.if-not-block.false) c.if-block-addr.false in
    omega (arith, is.last, c.place_of-start.ensures)

pub hole_behind-behind-requires-clause-stand : goal.hole_behind-behind-requires-clause-stand
hole_behind-behind-requires-clause-stand g c =
    let is = used_is _ _ _ _ c.in_ok-block.block c.requires.sound (sym c.in_ok-block.was ∙ c.reach.ensures.found) (not-false _ c.if-not-block.false) c.if-block-addr.false in
    (is.next, is.rest, next_stand _ _ _ _ _ _ _ is c.reach.ensures.words c.place_of-start.ensures, next_end _ _ _ _ _ _ _ is c.reach.ensures.words c.place_of-start.ensures)

pub overflow_sub-place : goal.overflow_sub-place
overflow_sub-place g c =
    let is = used_is _ _ _ _ c.in_ok-block.block c.requires.sound (sym c.in_ok-block.was ∙ c.reach.ensures.found) (not-false _ c.if-not-block.false) c.if-block-addr.false in
    omega (arith, is.back)

pub give_back-requires-clause-stand : goal.give_back-requires-clause-stand
give_back-requires-clause-stand g c =
    let is = used_is _ _ _ _ c.in_ok-block.block c.requires.sound (sym c.in_ok-block.was ∙ c.reach.ensures.found) (not-false _ c.if-not-block.false) c.if-block-addr.false in
    let next = next_stand _ _ _ _ _ _ _ is c.reach.ensures.words c.place_of-start.ensures in
    let hole = c.hole_behind-behind.ensures.hole is.next is.rest next (next_end _ _ _ _ _ _ _ is c.reach.ensures.words c.place_of-start.ensures) in
    (is.site, back_stand _ _ _ _ _ _ _ is (c.hole_behind-behind.ensures.words ∙ c.reach.ensures.words) c.place_of-start.ensures _ hole)

done : (g : given.Over) (c : goal.After-give_back g) → IsGiven c.args.self.now c.give_back.new.self (g.M.WordMemory.word c.args.memory.now) (g.M.WordMemory.word c.give_back.new.memory) c.args.addr.chunk c.args.addr.offset
done g c =
    let is = used_is _ _ _ _ c.in_ok-block.block c.requires.sound (sym c.in_ok-block.was ∙ c.reach.ensures.found) (not-false _ c.if-not-block.false) c.if-block-addr.false in
    let next = next_stand _ _ _ _ _ _ _ is c.reach.ensures.words c.place_of-start.ensures in
    let hole = c.hole_behind-behind.ensures.hole is.next is.rest next (next_end _ _ _ _ _ _ _ is c.reach.ensures.words c.place_of-start.ensures) in
    let words = c.hole_behind-behind.ensures.words ∙ c.reach.ensures.words in
    block_given _ _ _ _ _ _ _ is words c.place_of-start.ensures _ hole _ _ (c.give_back.ensures.turn is.site (back_stand _ _ _ _ _ _ _ is words c.place_of-start.ensures _ hole))

pub returns : goal.returns
returns g c =
    let done = done g c in
    let is = used_is _ _ _ _ c.in_ok-block.block c.requires.sound (sym c.in_ok-block.was ∙ c.reach.ensures.found) (not-false _ c.if-not-block.false) c.if-block-addr.false in
    let next = next_stand _ _ _ _ _ _ _ is c.reach.ensures.words c.place_of-start.ensures in
    let hole = c.hole_behind-behind.ensures.hole is.next is.rest next (next_end _ _ _ _ _ _ _ is c.reach.ensures.words c.place_of-start.ensures) in
    let words = c.hole_behind-behind.ensures.words ∙ c.reach.ensures.words in
    record {
      block =
          used_start c.args.addr.offset c.in_ok-block.block (not-false _ c.if-not-block.false) c.if-block-addr.false
          ∙ used_some c.args.addr.offset _ c.in_ok-block.block (sound_long _ _ c.requires.sound c.args.addr.chunk) (sym c.in_ok-block.was ∙ c.reach.ensures.found);
      heap = done.heap;
      sound = done.sound;
      sizes = done.sizes;
      others = done.others;
      refused = search rules;
      unchanged = search rules;
      rest = search rules;
      loads = omega (
        arith,
        c.reach.ensures.loads,
        c.hole_behind-behind.ensures.loads,
        c.give_back.ensures.loads is.site _ (back_stand _ _ _ _ _ _ _ is words c.place_of-start.ensures _ hole) (back_few _ _ _ _ _ _ _ is words c.place_of-start.ensures _ hole),
      );
    }
