-- One more entry has started, or isn't covered.
use Rattle.std.proofs.Common.{rules, ◌≡◌, ◌≢◌, ◌+◌, List, get_or, subst, sym, ap, ◌∙◌, IfErr, Option, Some, Result, Ok, Err}
use Rattle.std.specs.Prelude.{IsErrAnd}
use Rattle.trade_base.specs.declared.id.AccountId.{AccountId}
use Rattle.own_model.specs.Amounts.{Amounts}
use Rattle.own_model.specs.Listed.{ListedEntry, reserve_by}
use Rattle.own_model.specs.Reserve.{no_reserve}
use Rattle.pd_core.specs.declared.component.Component.{Component}
use Rattle.init_core.specs.Boot.{HasStarted}
use Rattle.list_parser.specs.declared.fault.BootFault.{BootFault}
use Rattle.list_parser.specs.declared.fault.BootFault.TheVariants.{NoMemory}
use Rattle.init_core.proofs.InitLemmas.{init_open}
use Rattle.init_core.proofs.BootLemmas.{init_next, init_still_open, uncovered_account, uncovered_reserve, alone_started, script_started}
use Rattle.init_core.proofs.startup.start.Goals as goal

-- a fault that is passed on is the list's
passed_on : {X : Type 0} (fault : Option BootFault) (told : BootFault) (r : Result X BootFault) → IsErrAnd r (λ y. y ≡ told) → fault ≡ Some told →
    IfErr r (λ y. y ≢ NoMemory → fault ≡ Some y)
passed_on fault told (Ok x) is found = tt
passed_on fault told (Err y) is found = λ other. found ∙ ap Some (sym is)

pub open_for-requires-clause-init : goal.open_for-requires-clause-init
open_for-requires-clause-init c =
    let entry = c.index-entries-place.result in
    let is = subst (λ (xs : List ListedEntry). entry ≡ get_or xs c.args.place entry) c.entries.ensures c.index-entries-place.is in
    let init = init_next c.requires.so_far c.requires.place is c.home.result c.index-init.result.now c.home.ensures.home c.home.ensures.value c.index-init.ensures in
    init_open c.requires.so_far.parts entry.home c.index-init.result.now.0 init

pub returns-in_err-account-clause-fault : goal.returns-in_err-account-clause-fault
returns-in_err-account-clause-fault c =
    let entry = c.index-entries-place.result in
    let is = subst (λ (xs : List ListedEntry). entry ≡ get_or xs c.args.place entry) c.entries.ensures c.index-entries-place.is in
    let init = init_next c.requires.so_far c.requires.place is c.home.result c.index-init.result.now c.home.ensures.home c.home.ensures.value c.index-init.ensures in
    passed_on _ _ c.from_residual.result c.from_residual.ensures.1
    (uncovered_account c.index-init.result.now.0 c.requires.so_far c.requires.place is init _ _ c.ram.ensures c.caps.ensures (sym c.in_err-account.ensures.covered) ∙ ap Some (sym c.in_err-account.ensures.fault))

pub open_for-requires-in-Script-clause-init : goal.open_for-requires-in-Script-clause-init
open_for-requires-in-Script-clause-init c =
    let entry = c.index-entries-place.result in
    let is = subst (λ (xs : List ListedEntry). entry ≡ get_or xs c.args.place entry) c.entries.ensures c.index-entries-place.is in
    let init = init_next c.requires.so_far c.requires.place is c.home.result c.index-init.result.now c.home.ensures.home c.home.ensures.value c.index-init.ensures in
    init_still_open c.index-init.result.now.0 c.requires.so_far c.requires.place is init c.in_ok-account.ensures.opened

pub returns-in_err-reserve-in-Script-clause-fault : goal.returns-in_err-reserve-in-Script-clause-fault
returns-in_err-reserve-in-Script-clause-fault c =
    let entry = c.index-entries-place.result in
    let is = subst (λ (xs : List ListedEntry). entry ≡ get_or xs c.args.place entry) c.entries.ensures c.index-entries-place.is in
    let init = init_next c.requires.so_far c.requires.place is c.home.result c.index-init.result.now c.home.ensures.home c.home.ensures.value c.index-init.ensures in
    let kept = c.reserve_at_start-kept.ensures in
    passed_on _ _ c.from_residual-in_err-reserve-in-Script.result c.from_residual-in_err-reserve-in-Script.ensures.1
    (uncovered_reserve c.index-init.result.now.0 c.requires.so_far c.requires.place is init _ _ _ _ c.ram.ensures c.caps.ensures (ap (λ (a : Amounts). a.ram) kept) (ap (λ (a : Amounts). a.caps) kept)
    c.in_ok-account.ensures.opened (sym c.in_err-reserve-in-Script.ensures.covered) ∙ ap Some (sym c.in_err-reserve-in-Script.ensures.fault))

pub returns-in_ok-push-in-Script-clause-started : goal.returns-in_ok-push-in-Script-clause-started
returns-in_ok-push-in-Script-clause-started c =
    let entry = c.index-entries-place.result in
    let is = subst (λ (xs : List ListedEntry). entry ≡ get_or xs c.args.place entry) c.entries.ensures c.index-entries-place.is in
    let init = init_next c.requires.so_far c.requires.place is c.home.result c.index-init.result.now c.home.ensures.home c.home.ensures.value c.index-init.ensures in
    let kept = c.reserve_at_start-kept.ensures in
    subst (λ (p : List Component × List AccountId). HasStarted c.args.list.now c.open_for-in-Script.new.memory p.0 p.1 (c.args.place + 1))
    (λ j. (sym {A = List Component} c.in_ok-push-in-Script.ensures.items j, sym {A = List AccountId} c.in_ok-push.ensures.items j))
    (script_started c.index-init.result.now.0 c.requires.so_far c.requires.place is init c.in_ok-account.account c.in_ok-script_of-in-Script.field-0 c.ram.ensures c.caps.ensures
    (ap (λ (a : Amounts). a.ram) kept) (ap (λ (a : Amounts). a.caps) kept)
    (sym c.in_ok-account.ensures.covered) c.in_ok-account.ensures.opened (sym c.in_ok-reserve-in-Script.ensures.covered) c.in_ok-reserve-in-Script.ensures.opened
    c.in_ok-script_of-in-Script.ensures.made)

pub returns-in_ok-push-in-Server-clause-started : goal.returns-in_ok-push-in-Server-clause-started
returns-in_ok-push-in-Server-clause-started c =
    let entry = c.index-entries-place.result in
    let is = subst (λ (xs : List ListedEntry). entry ≡ get_or xs c.args.place entry) c.entries.ensures c.index-entries-place.is in
    let init = init_next c.requires.so_far c.requires.place is c.home.result c.index-init.result.now c.home.ensures.home c.home.ensures.value c.index-init.ensures in
    let none : reserve_by entry.binary entry.reserve ≡ no_reserve = search rules in
    subst (λ (p : List Component × List AccountId). HasStarted c.args.list.now c.open_for.new.memory p.0 p.1 (c.args.place + 1))
    (λ j. (sym {A = List Component} c.in_ok-push-in-Server.ensures.items j, sym {A = List AccountId} c.in_ok-push.ensures.items j))
    (alone_started c.index-init.result.now.0 c.requires.so_far c.requires.place is init c.in_ok-account.account c.in_ok-server_of-in-Server.field-0 c.ram.ensures c.caps.ensures none
    (sym c.in_ok-account.ensures.covered) c.in_ok-account.ensures.opened c.in_ok-server_of-in-Server.ensures.made)

pub returns-in_ok-push-in-Declared-clause-started : goal.returns-in_ok-push-in-Declared-clause-started
returns-in_ok-push-in-Declared-clause-started c =
    let entry = c.index-entries-place.result in
    let is = subst (λ (xs : List ListedEntry). entry ≡ get_or xs c.args.place entry) c.entries.ensures c.index-entries-place.is in
    let init = init_next c.requires.so_far c.requires.place is c.home.result c.index-init.result.now c.home.ensures.home c.home.ensures.value c.index-init.ensures in
    let none : reserve_by entry.binary entry.reserve ≡ no_reserve = search rules in
    subst (λ (p : List Component × List AccountId). HasStarted c.args.list.now c.open_for.new.memory p.0 p.1 (c.args.place + 1))
    (λ j. (sym {A = List Component} c.in_ok-push-in-Declared.ensures.items j, sym {A = List AccountId} c.in_ok-push.ensures.items j))
    (alone_started c.index-init.result.now.0 c.requires.so_far c.requires.place is init c.in_ok-account.account c.in_ok-declared_server_of-in-Declared.field-0 c.ram.ensures c.caps.ensures none
    (sym c.in_ok-account.ensures.covered) c.in_ok-account.ensures.opened c.in_ok-declared_server_of-in-Declared.ensures.made)

pub returns-in_ok-push-in-Init-clause-started : goal.returns-in_ok-push-in-Init-clause-started
returns-in_ok-push-in-Init-clause-started c =
    let entry = c.index-entries-place.result in
    let is = subst (λ (xs : List ListedEntry). entry ≡ get_or xs c.args.place entry) c.entries.ensures c.index-entries-place.is in
    let init = init_next c.requires.so_far c.requires.place is c.home.result c.index-init.result.now c.home.ensures.home c.home.ensures.value c.index-init.ensures in
    let none : reserve_by entry.binary entry.reserve ≡ no_reserve = search rules in
    subst (λ (p : List Component × List AccountId). HasStarted c.args.list.now c.open_for.new.memory p.0 p.1 (c.args.place + 1))
    (λ j. (sym {A = List Component} c.in_ok-push-in-Init.ensures.items j, sym {A = List AccountId} c.in_ok-push.ensures.items j))
    (alone_started c.index-init.result.now.0 c.requires.so_far c.requires.place is init c.in_ok-account.account c.init_of.result c.ram.ensures c.caps.ensures none
    (sym c.in_ok-account.ensures.covered) c.in_ok-account.ensures.opened (c.init_of.ensures c.args.list.now))
