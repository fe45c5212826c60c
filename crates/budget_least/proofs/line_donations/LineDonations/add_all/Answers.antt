-- One account more.
use Rattle.std.proofs.Common.{◌++◌, ap, take, ◌∙◌}
use Rattle.budget_least.proofs.LineDonationLemmas.{taken_more}
use Rattle.budget_least.specs.LineDonations.{kept_for, sessions_at}
use Rattle.budget_least.proofs.line_donations.LineDonations.add_all.Goals as goal

pub loop-account-preserved : goal.loop-account-preserved
loop-account-preserved c =
    let index = c.loop-account.account-index in
    let accounts = c.args.accounts.now in
    record {
      choice = c.add.ensures.choice ∙ c.loop-account.invariant.choice;
      holds = λ before holds number.
          c.in_ok-add.ensures.holds (before ++ take index accounts) (c.loop-account.invariant.holds before holds) number
          ∙ ap (λ these. kept_for (sessions_at number these)) (taken_more before accounts index c.account-item.result c.loop-account-test.true c.account-item.is);
    }
