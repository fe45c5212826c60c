-- What is written with a donation is read again.
use Rattle.std.proofs.lemmas.Bool.Decides.{nat_tests, Decides-eqb}
use Rattle.std.proofs.lemmas.Option.{none-some, same_Some}
use Rattle.std.proofs.lemmas.Slice.Eq.{slice_eq-Decides}
use Rattle.std.proofs.Common.{arith, ◌≡◌, ◌<◌, ◌^◌, ap, sym, ◌∙◌}
use Rattle.own_model.specs.SessionArgs.{Arguments}
use Rattle.budget_meter.specs.Needs.{amounts_of}
use Rattle.budget_search.proofs.ArgumentLemmas.{donation_read}
use Rattle.budget_search.proofs.donation.donates.Goals as goal
use Rattle.budget_search.proofs.donation.donates.Goals.{then-ram-donation, else-ram-donation}

pub returns-in-Err-clause-written : goal.returns-in-Err-clause-written
returns-in-Err-clause-written c = λ few some written.
    let small : c.args.donation.ram < 2 ^ 64 = omega arith in
    absurd (none-some _ (sym c.in-Err.ensures.none ∙ donation_read c.args.given.now c.args.args.now c.in-Ok.given (amounts_of c.args.donation) c.in-Ok.ensures.value small few written))

pub returns-then-from-donation-clause-written : goal.returns-then-from-donation-clause-written
returns-then-from-donation-clause-written c = λ few some written.
    let small : c.args.donation.ram < 2 ^ 64 = omega arith in
    let read =
    same_Some _ _ (sym c.in-Ok-read.ensures.value ∙ donation_read c.args.given.now c.args.args.now c.in-Ok.given (amounts_of c.args.donation) c.in-Ok.ensures.value small few written) in
    let label : c.in-Ok-read.args.label ≡ c.in-Ok.given.label = ap (λ (a : Arguments). a.label) read in
    (slice_eq-Decides Decides-eqb _ _ _ c.eq.ensures).1 (c.label.ensures ∙ label ∙ sym c.label-then-from-donation.ensures)

pub returns-else-from-donation-clause-written : goal.returns-else-from-donation-clause-written
returns-else-from-donation-clause-written c = λ few some written.
    let small : c.args.donation.ram < 2 ^ 64 = omega arith in
    let read =
    same_Some _ _ (sym c.in-Ok-read.ensures.value ∙ donation_read c.args.given.now c.args.args.now c.in-Ok.given (amounts_of c.args.donation) c.in-Ok.ensures.value small few written) in
    let ram : c.in-Ok-read.args.ram ≡ c.args.donation.ram = ap (λ (a : Arguments). a.ram) read in
    let caps : c.in-Ok-read.args.caps ≡ c.args.donation.caps = ap (λ (a : Arguments). a.caps) read in
    elim c.if-ram-donation.branch [
      | then-ram-donation w ↦ grind (arith, nat_tests, w.value-is, w.caps.ensures, w.from.ensures, ram, caps)
      | else-ram-donation w ↦ grind (arith, nat_tests, w.if-ram-donation, c.ram.ensures, ram)
    ]
