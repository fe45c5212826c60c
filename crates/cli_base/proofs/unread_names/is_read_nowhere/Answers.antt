-- One file more, and all files.
use Rattle.std.proofs.Common.{ℕ, List, subst}
use Rattle.std.specs.Prelude.{All}
use Rattle.std.specs.Borrow.{Bor}
use Rattle.std.proofs.lemmas.List.{take_all}
use Rattle.std.proofs.lemmas.List.Elements.{All-more}
use Rattle.cli_base.specs.Given.{LacksName}
use Rattle.cli_base.proofs.unread_names.is_read_nowhere.Goals as goal

pub loop-path-preserved : goal.loop-path-preserved
loop-path-preserved g c =
    All-more (λ (path : Bor (List ℕ)). LacksName (g.H.Host.text_at c.args.host.now) c.args.name.now path.now) c.args.paths.now
    c.loop-path.path-index _ c.loop-path-test.true c.loop-path.invariant (c.may_read.ensures c.if-may_read.false)

pub returns : goal.returns
returns g c = λ yes.
    subst (λ (ps : List (Bor (List ℕ))). All (λ (path : Bor (List ℕ)). LacksName (g.H.Host.text_at c.args.host.now) c.args.name.now path.now) ps)
    (take_all c.loop-path.path-index c.args.paths.now c.loop-path-test.false) c.loop-path.invariant
