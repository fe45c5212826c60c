-- All before what is left is output, and no write failed yet.
use Rattle.std.proofs.Common.{◌≡◌, false}
use Rattle.std.specs.Str.Chunks.{utf8_chunks_rest}
use Rattle.view_diagnostics.specs.Diagnostics.{shown}
use Rattle.view_diagnostics.proofs.FrontLemmas.{OutputsFront}
use Rattle.view_diagnostics.proofs.escape.put_text.Given as goal

abbrev pub invariant-loop-chunk : goal.invariant-loop-chunk
invariant-loop-chunk g l = record {
  front : OutputsFront (shown l.form l.text) (shown l.form (utf8_chunks_rest l.chunk-iterator))
      (g.K.Sink.contents l.fn.sink) l.fn.gathered (g.K.Sink.contents l.sink) l.gathered;
  works : g.K.Sink.has_failed l.sink ≡ false;
}
