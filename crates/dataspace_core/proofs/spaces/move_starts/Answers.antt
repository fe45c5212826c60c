-- One start after the other moves.
use Rattle.std.proofs.Common.{◌≡◌, ◌<◌, length, refl, subst, arith}
use Rattle.dataspace_core.specs.Spaces.{HaveMoved}
use Rattle.dataspace_core.proofs.SpacesLemmas.{HaveMoved-more, rest-more}
use Rattle.dataspace_core.proofs.spaces.move_starts.Goals as goal

pub loop-key-init : goal.loop-key-init
loop-key-init c = record { moved = record { size = refl; each = λ key below. absurd (omega (arith, below)) }; rest = λ key past. refl }

pub loop-key-preserved : goal.loop-key-preserved
loop-key-preserved c =
    let within : c.loop-key.key < length c.loop-key.starts = omega (arith, c.loop-key.invariant.moved.size, c.requires) in
    record {
      moved = HaveMoved-more _ _ _ _ _ c.loop-key.invariant.moved c.loop-key.invariant.rest within _ c.start_after.ensures;
      rest = rest-more c.args.from c.args.by _ _ _ c.loop-key.invariant.moved c.loop-key.invariant.rest within _ c.start_after.ensures;
    }

pub returns : goal.returns
returns c =
    let all : c.loop-key.key ≡ c.args.used = omega arith in
    subst (λ n. HaveMoved c.args.from c.args.by n c.args.starts.now c.loop-key.starts) all c.loop-key.invariant.moved
