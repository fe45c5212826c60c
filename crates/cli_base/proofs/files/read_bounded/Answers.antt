-- A text is all of the file unless it is longer than a scenario that is read whole.
use Rattle.std.proofs.Common.{arith}
use Rattle.cli_base.proofs.FileLemmas.{long_text, whole_text}
use Rattle.cli_base.proofs.files.read_bounded.Goals as goal

pub returns-in-Ok-clause-long : goal.returns-in-Ok-clause-long
returns-in-Ok-clause-long g c =
    let longer = c.if-len-gt-LONGEST_WHOLE.true in
    let long = c.len.ensures in
    long_text (g.H.Host.text_at c.args.host.now) c.args.path.now 67108865 c.in-Ok.text.items (omega (arith, longer, long)) c.in-Ok.ensures.text

pub returns-in-Ok-2-clause-text : goal.returns-in-Ok-2-clause-text
returns-in-Ok-2-clause-text g c =
    let shorter = c.if-len-gt-LONGEST_WHOLE.false in
    let long = c.len.ensures in
    whole_text (g.H.Host.text_at c.args.host.now) c.args.path.now 67108865 c.in-Ok.text.items (omega (arith, shorter, long)) c.in-Ok.ensures.text
