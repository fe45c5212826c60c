-- The session that the selector names has more, or there is none.
use Rattle.std.proofs.Common.{◌≡◌, ◌+◌, ap, arith, sym, ◌∙◌}
use Rattle.own_model.specs.Amounts.{Amounts}
use Rattle.own_model.specs.SessionArgs.{arguments_of}
use Rattle.budget_meter.specs.NeededAmounts.{amount_tests}
use Rattle.budget_meter.specs.Needs.{amounts_of}
use Rattle.budget_search.specs.AmpleCalls.{of_word}
use Rattle.budget_search.proofs.ReachLemmas.{one_of, upgrades_at, upgrades_past}
use Rattle.budget_search.proofs.SessionLemmas.{arguments_named}
use Rattle.budget_search.proofs.opened_sessions.OpenedSessions.raise.Goals as goal

pub returns-then-owner-len : goal.returns-then-owner-len
returns-then-owner-len c =
    upgrades_past c.args.self.now.opened.items c.args.self.now.owners.items c.args.selector c.in-Some.owner (arguments_of c.args.args.now)
    (sym c.in-Some.is ∙ c.owner.ensures) (omega (arith, c.if-owner-len.true, c.len.ensures, c.args.self.now.opened.ok.0))

pub returns : goal.returns
returns c =
    let old = c.index_mut-opened.result.now in
    let more = c.in-Some-named_by.more in
    let ram : c.saturating_add-opened.result ≡ of_word (old.raised.ram + more.ram) = omega (arith, c.saturating_add-opened.ensures) in
    let caps : c.saturating_add-opened-2.result ≡ of_word (old.raised.caps + more.caps) = omega (arith, c.saturating_add-opened-2.ensures) in
    let named = arguments_named more _ (sym (ap amount_tests c.in-Some-named_by.is) ∙ c.named_by.ensures) in
    upgrades_at c.args.self.now.opened.items c.args.self.now.owners.items c.args.selector c.in-Some.owner old _ (arguments_of c.args.args.now) named.0
    (sym c.in-Some.is ∙ c.owner.ensures) (omega (arith, c.if-owner-len.false, c.len.ensures, c.args.self.now.opened.ok.0)) c.index_mut-opened.ensures.value named.1.0
    (λ i. one_of old.step old.selector (amounts_of old.donation)
    (record {
      ram = (ram ∙ ap (λ (a : Amounts). of_word (old.raised.ram + a.ram)) named.1.1) i;
      caps = (caps ∙ ap (λ (a : Amounts). of_word (old.raised.caps + a.caps)) named.1.1) i;
    }) old.steps.items)
