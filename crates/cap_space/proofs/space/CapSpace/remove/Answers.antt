-- The slot of the selector is emptied.
use Rattle.std.proofs.Common.{◌-◌, ap, sym, ◌∙◌, arith}
use Rattle.std.specs.Prelude.{vec_capacity, None, is_some}
use Rattle.cap_space.proofs.PaddedLemmas.{set-padded}
use Rattle.cap_space.proofs.SlotsLemmas.{kept_emptied, space_emptied, vacated_within}
use Rattle.cap_space.proofs.space.CapSpace.remove.Goals as goal

pub index_mut-requires : goal.index_mut-requires
index_mut-requires c =
    let within = vacated_within _ (vec_capacity c.self.inside.slots) _ c.self.view_is _ (ap is_some (sym c.get.ensures.found ∙ c.in_ok-cap.was)) in
    omega (arith, within, c.self.inside.slots.ok)

pub invariant_of-self : goal.invariant_of-self
invariant_of-self c =
    let used = ap is_some (sym c.get.ensures.found ∙ c.in_ok-cap.was) in
    let within = vacated_within _ _ _ c.self.view_is _ used in
    rw (set-padded c.self.inside.slots.items (vec_capacity c.self.inside.slots) (c.args.selector - 1) None within) (kept_emptied _ _ c.self.view_is _ used _ _ _ _ c.self.invariant c.free.ensures.freed)

pub returns-clause-gone : goal.returns-clause-gone
returns-clause-gone c =
    let used = ap is_some (sym c.get.ensures.found ∙ c.in_ok-cap.was) in
    let within = vacated_within _ _ _ c.self.view_is _ used in
    rw (set-padded c.self.inside.slots.items (vec_capacity c.self.inside.slots) (c.args.selector - 1) None within) (space_emptied _ _ c.self.view_is _ used)
