-- What is kept, with its start.
use Rattle.std.proofs.Common.{◌≡◌, get_or, Some, sym, ap, ◌∙◌, arith}
use Rattle.std.proofs.lemmas.List.{get_or_read}
use Rattle.dataspace_core.specs.Spaces.{placed_at}
use Rattle.dataspace_core.proofs.SpacesLemmas.{kept_there, get-placed_some}
use Rattle.dataspace_core.proofs.spaces.Spaces.under.Goals as goal

pub kept_under-kept-requires : goal.kept_under-kept-requires
kept_under-kept-requires c = kept_there _ _ c.args.key c.self.view_is c.requires

pub index-requires : goal.index-requires
index-requires c = omega (arith, c.self.invariant.below c.args.key (kept_there _ _ c.args.key c.self.view_is c.requires), c.self.invariant.within, c.self.inside.starts.ok)

pub returns : goal.returns
returns c =
    let within = c.self.invariant.below c.args.key (kept_there _ _ c.args.key c.self.view_is c.requires) in
    let start : c.index.result.now ≡ get_or c.self.inside.starts.items c.args.key 0 = get_or_read c.self.inside.starts.items c.args.key c.index.result.now (omega (arith, within, c.self.invariant.within)) c.index.ensures 0 in
    rw (← c.self.view_is)
    (get-placed_some c.self.inside.kept c.self.inside.starts.items c.args.key c.kept_under-kept.result c.kept_under-kept.ensures
    ∙ ap (λ s. Some (placed_at s c.kept_under-kept.result)) (sym start))
