-- Word for word is the same where no sign stands.
use Rattle.std.proofs.Common.{◌≡◌, ◌∙◌, arith}
use Rattle.std.proofs.lemmas.Grind.{common_steps}
use Rattle.line_friendly.specs.Expected.{meets}
use Rattle.line_friendly.proofs.ExpectedLemmas.{exact_meets}
use Rattle.line_friendly.proofs.expected.meets.Goals as goal

pub returns-else-eq-3-clause-exact : goal.returns-else-eq-3-clause-exact
returns-else-eq-3-clause-exact c =
    let value : c.meets_text.result ≡ meets c.args.reply.now c.args.expected.now = grind (arith, common_steps) in
    λ exact. value ∙ exact_meets c.args.reply.now c.args.expected.now exact
