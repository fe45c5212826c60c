-- One more session of a line that has a donation for each of the others.
use Rattle.std.proofs.Common.{false, true, sym, ◌∙◌}
use Rattle.budget_least.proofs.LineDonationLemmas.{alike_more, still_unlike}
use Rattle.budget_least.proofs.line_donations.LineDonation.with.Goals as goal

pub returns-then-eq : goal.returns-then-eq
returns-then-eq c = λ sessions before.
    alike_more sessions c.args.account.now c.in-Some-Some.least c.in-Some-Some.safe c.in-Alike.more c.larger-safe.result c.in-Some-Some.ensures.value c.in-Some-Some.ensures'.value
    c.larger-safe.ensures c.in-Alike.other true c.if-eq.ensures (sym c.in-Alike.is ∙ before)

pub returns-else-eq : goal.returns-else-eq
returns-else-eq c = λ sessions before.
    alike_more sessions c.args.account.now c.in-Some-Some.least c.in-Some-Some.safe c.in-Alike.more c.larger-safe.result c.in-Some-Some.ensures.value c.in-Some-Some.ensures'.value
    c.larger-safe.ensures c.in-Alike.other false c.if-eq.ensures (sym c.in-Alike.is ∙ before)

pub returns-in-Unlike : goal.returns-in-Unlike
returns-in-Unlike c = λ sessions before.
    still_unlike sessions c.args.account.now c.in-Some-Some.least c.in-Some-Some.safe c.in-Unlike.more c.larger.result c.in-Some-Some.ensures.value c.in-Some-Some.ensures'.value
    c.larger.ensures (sym c.in-Unlike.is ∙ before)
