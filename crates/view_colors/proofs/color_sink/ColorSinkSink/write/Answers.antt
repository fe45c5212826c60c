-- Neither this sink nor the one below has failed.
use Rattle.std.proofs.Common.{◌∙◌, ◌||◌, ap}
use Rattle.std.proofs.lemmas.Bool.{or_parts}
use Rattle.view_colors.proofs.color_sink.ColorSinkSink.write.Goals as goal

pub write_painted-requires-clause-works : goal.write_painted-requires-clause-works
write_painted-requires-clause-works g c = (or_parts _ _ c.requires).1

pub write_painted-requires-clause-unfailed : goal.write_painted-requires-clause-unfailed
write_painted-requires-clause-unfailed g c = (or_parts _ _ c.requires).0

pub write-requires : goal.write-requires
write-requires g c = (or_parts _ _ c.requires).1

pub returns-in-None-clause-failing : goal.returns-in-None-clause-failing
returns-in-None-clause-failing g c =
    ap (λ failed. failed || g.S.Sink.has_failed c.write.new.self) (or_parts _ _ c.requires).0 ∙ c.write.ensures.failing
