-- Each call counts what it adds to the limits of the session that a selector names.
use Rattle.own_model.proofs.SessionDonationLemmas.{limits_donated, closes_returned}
use Rattle.own_model.proofs.sessions.closes_return_donations.Goals as goal

pub returns-clause-limits : goal.returns-clause-limits
returns-clause-limits c = limits_donated

pub returns-clause-closes : goal.returns-clause-closes
returns-clause-closes c = closes_returned
