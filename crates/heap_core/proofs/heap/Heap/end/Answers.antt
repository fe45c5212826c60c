-- All large blocks go, then all chunks.
use Rattle.std.proofs.Common.{◌∙◌}
use Rattle.heap_core.proofs.EndChunkLemmas.{ends_all, end_sound}
use Rattle.heap_core.proofs.EndLargeLemmas.{ends_both}
use Rattle.heap_core.proofs.heap.Heap.end.Goals as goal

pub returns-clause-given : goal.returns-clause-given
returns-clause-given c =
    c.end_large.ensures.ends.rest _ _ _ (c.forget.ensures.payer ∙ c.end_large.ensures.ends.payer)
    (ends_all _ c.forget.new.self _ _ _ _ c.end_large.ensures.ends.sound c.end_large.ensures.none c.end_chunks.ensures.ends c.forget.ensures.payer c.forget.ensures.empty)

pub returns-clause-sound : goal.returns-clause-sound
returns-clause-sound c =
    end_sound _ c.forget.new.self _ _ _ _ c.end_large.ensures.ends.sound c.end_large.ensures.none c.end_chunks.ensures.ends c.forget.ensures.payer c.forget.ensures.sound

pub returns-clause-others : goal.returns-clause-others
returns-clause-others c = ends_both _ _ _ _ _ _ _ _ c.end_large.ensures.ends c.end_chunks.ensures.ends
