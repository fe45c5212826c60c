-- The start is kept for each key in use.
use Rattle.std.proofs.Common.{◌≡◌, get_or, Some, sym, ap, ◌∙◌, arith}
use Rattle.std.proofs.lemmas.List.{get_or_read}
use Rattle.dataspace_core.proofs.SpacesLemmas.{kept_there, start-placed}
use Rattle.dataspace_core.proofs.spaces.Spaces.start.Goals as goal

pub index-requires : goal.index-requires
index-requires c = omega (arith, c.self.invariant.below c.args.key (kept_there _ _ c.args.key c.self.view_is c.requires), c.self.invariant.within, c.self.inside.starts.ok)

pub returns : goal.returns
returns c =
    let kept = kept_there _ _ c.args.key c.self.view_is c.requires in
    let within = c.self.invariant.below c.args.key kept in
    let start : c.index.result.now ≡ get_or c.self.inside.starts.items c.args.key 0 = get_or_read c.self.inside.starts.items c.args.key c.index.result.now (omega (arith, within, c.self.invariant.within)) c.index.ensures 0 in
    rw (← c.self.view_is) (start-placed c.self.inside.kept c.self.inside.starts.items c.args.key kept ∙ ap Some (sym start))
