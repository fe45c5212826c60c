-- The name is as long as its word says, and no longer than a name can be.
use Rattle.std.proofs.Common.{refl}
use Rattle.session_nodes.specs.Node.{node_of}
use Rattle.session_nodes.proofs.node.Node.from_bytes.Goals as goal

pub returns-clause-value : goal.returns-clause-value
unfolding node_of
returns-clause-value c =
    rw (c.word_in-2.ensures, c.word_in-3.ensures, c.word_in-4.ensures, c.copied-name.ensures, c.min-length.ensures, c.word_in.ensures) refl
