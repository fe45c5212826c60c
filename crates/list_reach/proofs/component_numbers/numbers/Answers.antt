-- The first path that denotes nobody says why.
use Rattle.std.proofs.Common.{ℕ, List, subst, arith, rules}
use Rattle.list_reach.specs.Paths.{GivesReason, fault_of, numbers_of, numbers_of_path, trimmed}
use Rattle.list_reach.proofs.NamedLemmas.{text_lost}
use Rattle.list_reach.proofs.component_numbers.numbers.Goals as goal

pub returns-in_err-more-clause-fault : goal.returns-in_err-more-clause-fault
returns-in_err-more-clause-fault c =
    let lost : GivesReason (numbers_of c.args.list.now c.args.sought c.args.paths.now) c.in_err-more.field-0.0 =
    text_lost (λ path. numbers_of_path c.args.list.now c.args.sought (trimmed path)) (numbers_of c.args.list.now c.args.sought c.args.paths.now)
    c.loop-place.found.items c.in_ok-pieces.pieces.items c.loop-place.place c.index.result.now (omega arith) c.loop-place.invariant c.index.ensures
    (fault_of c.in_err-more.field-0.0)
    (subst (λ (t : List ℕ). GivesReason (numbers_of_path c.args.list.now c.args.sought t) c.in_err-more.field-0.0) c.trimmed.ensures
    c.in_err-more.ensures.fault) in
    search rules
