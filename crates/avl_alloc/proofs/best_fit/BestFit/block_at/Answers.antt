use Rattle.std.proofs.Common.{◌∙◌, ap, sym, arith}
use Rattle.std.specs.Option.{option_map}
use Rattle.avl_alloc.specs.Found.{used_block}
use Rattle.avl_alloc.proofs.LayoutLemmas.{payload_yes, payload_hole, payload_header}
use Rattle.avl_alloc.proofs.FreedLemmas.{payload_none, payload_some}
use Rattle.avl_alloc.proofs.best_fit.BestFit.block_at.Goals as goal
use Rattle.avl_alloc.proofs.best_fit.BestFit.block_at.Goals.{else-block-via-then-block+else-addr-block-ge-BLOCK_HEADER, else-block-via-else-block}

-- the address lies in no chunk
pub returns-in_err-block-clause-block : goal.returns-in_err-block-clause-block
returns-in_err-block-clause-block g c =
    c.from_residual.ensures ∙ ap (option_map (used_block c.args.addr.chunk)) (payload_none c.args.addr.offset _ (sym c.in_err-block.was ∙ c.reach.ensures.found))

-- a payload has it
pub returns-then-addr-block-ge-BLOCK_HEADER-clause-block : goal.returns-then-addr-block-ge-BLOCK_HEADER-clause-block
returns-then-addr-block-ge-BLOCK_HEADER-clause-block g c =
    ap (option_map (used_block c.args.addr.chunk))
    (sym (payload_yes c.args.addr.offset c.in_ok-block.block c.if-block.true (omega arith))
    ∙ payload_some c.args.addr.offset _ c.in_ok-block.block (sym c.in_ok-block.was ∙ c.reach.ensures.found))

-- a header or a hole has it
pub returns-else-block-clause-block : goal.returns-else-block-clause-block
returns-else-block-clause-block g c =
    let told = payload_some c.args.addr.offset _ c.in_ok-block.block (sym c.in_ok-block.was ∙ c.reach.ensures.found) in
    elim c.else-block.branch [
      | else-block-via-then-block+else-addr-block-ge-BLOCK_HEADER w ↦
          ap (option_map (used_block c.args.addr.chunk)) (sym (payload_header c.args.addr.offset c.in_ok-block.block w.if-block.true (omega (arith, w.if-addr-block-ge-BLOCK_HEADER.false))) ∙ told)
      | else-block-via-else-block w ↦
          ap (option_map (used_block c.args.addr.chunk)) (sym (payload_hole c.args.addr.offset c.in_ok-block.block w.if-block.false) ∙ told)
    ]
