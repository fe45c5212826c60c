-- What is found holds the content's bytes.
use Rattle.std.proofs.Common.{◌≤◌, length, ◌∙◌, arith}
use Rattle.std.proofs.lemmas.Bool.Decides.{nat_tests}
use Rattle.session_nodes.proofs.FoundLemmas.{content_read}
use Rattle.session_nodes.proofs.session_heaps.SessionHeaps.read_content.Goals as goal

pub returns : goal.returns
returns c =
    let test = c.is_empty.ensures in
    let none = c.if-is_empty.false in
    let some : 1 ≤ length c.args.buffer.now = grind (arith, nat_tests) in
    c.read.ensures
    ∙ content_read c.requires.furnished c.args.address c.args.offset (length c.args.buffer.now) c.find_content-at.result.0.0 c.find_content-at.result.1 c.requires.there some c.find_content-at.ensures
