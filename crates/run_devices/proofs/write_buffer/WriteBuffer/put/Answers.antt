-- What was put stands behind what was gathered.
use Rattle.std.proofs.Common.{◌≡◌, ◌++◌, ◌∙◌, ap, take, length, arith}
use Rattle.std.proofs.lemmas.List.{take_all}
use Rattle.run_devices.proofs.BlockLemmas.{slice_range-grown}
use Rattle.run_devices.proofs.GatheredLemmas.{Tells-gathered}
use Rattle.run_devices.proofs.write_buffer.WriteBuffer.put.Goals as goal

pub returns-clause-told : goal.returns-clause-told
returns-clause-told g c =
    let copied : take (length c.args.bytes.now) c.copy_from_slice.new.self ≡ c.args.bytes.now =
    ap (take (length c.args.bytes.now)) c.copy_from_slice.ensures.after ∙ take_all (length c.args.bytes.now) c.args.bytes.now (omega arith) in
    Tells-gathered _ _ _ _ (
    slice_range-grown c.self.inside.bytes c.copy_from_slice.new.self _ c.self.inside.start c.self.inside.end (length c.args.bytes.now)
    (omega arith) (omega arith) (omega (arith, ap length c.copy_from_slice.ensures.after))
    ∙ ap (λ ahead. ahead ++ take (length c.args.bytes.now) c.copy_from_slice.new.self) c.self.view_is
    ∙ ap (λ more. c.args.self.now ++ more) copied)
