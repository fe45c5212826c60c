-- The line stands behind what was gathered.
use Rattle.std.proofs.Common.{◌≡◌, ◌+◌, ◌++◌, ◌∙◌, ap, take, length, length-append, arith}
use Rattle.std.proofs.lemmas.List.{take_all}
use Rattle.run_devices.specs.RunOutput.{line_with}
use Rattle.run_devices.proofs.BlockLemmas.{slice_range-grown}
use Rattle.run_devices.proofs.GatheredLemmas.{Tells-gathered}
use Rattle.run_devices.proofs.write_buffer.WriteBuffer.put_reply.Goals as goal

pub returns-clause-told : goal.returns-clause-told
returns-clause-told g c =
    let s = c.self.inside in
    let n = length c.args.name.now + (length c.args.reply.now + 3) in
    let line = c.write_line.new.line in
    let size : length line ≡ n = ap length c.write_line.ensures ∙ simp length-append (omega arith) in
    let copied : take n line ≡ line_with c.args.name.now c.args.reply.now = take_all n line (omega (arith, size)) ∙ c.write_line.ensures in
    Tells-gathered _ _ _ _ (
    slice_range-grown s.bytes line _ s.start s.end n (omega arith) (omega arith) (omega (arith, size))
    ∙ ap (λ ahead. ahead ++ take n line) c.self.view_is
    ∙ ap (λ more. c.args.self.now ++ more) copied)
