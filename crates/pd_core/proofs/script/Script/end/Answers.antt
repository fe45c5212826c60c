-- The account uses nothing when it closes, and has the limits that it had.
use Rattle.std.proofs.Common.{ap, subst, ◌∙◌}
use Rattle.trade_base.specs.declared.id.AccountId.{AccountId}
use Rattle.dataspace_core.specs.Store.{account_in, parent_in, AreRelatedIn}
use Rattle.dataspace_core.proofs.PartLaws.{open_in_part}
use Rattle.pd_core.proofs.ExitEndLemmas.{clears_after, unused, was_related, same_caps}
use Rattle.pd_core.proofs.script.Script.end.Goals as goal

pub close-requires-clause-unused : goal.close-requires-clause-unused
close-requires-clause-unused c =
    let cleared = c.end_heaps.ensures.cleared in
    ap (λ (a : AccountId). (account_in c.end_heaps.new.memory a.0).caps_used) c.end_heaps.ensures.account ∙ unused cleared

pub returns-clause-related : goal.returns-clause-related
returns-clause-related c =
    let cleared = clears_after c.release_all.ensures.keeps c.release_all.ensures.others c.end_heaps.ensures.cleared in
    let same = c.end_heaps.ensures.account ∙ c.release_all.ensures.keeps.account in
    was_related cleared (open_in_part _ _ c.requires.sound.own.paid.is_open)
    (subst (λ (a : AccountId). AreRelatedIn c.end_heaps.new.memory a.0 (parent_in c.end_heaps.new.memory a.0)) same c.close.ensures.related)

pub returns-clause-caps : goal.returns-clause-caps
returns-clause-caps c =
    let cleared = clears_after c.release_all.ensures.keeps c.release_all.ensures.others c.end_heaps.ensures.cleared in
    let same = c.end_heaps.ensures.account ∙ c.release_all.ensures.keeps.account in
    c.close.ensures.caps_moved
    ∙ same_caps cleared (open_in_part _ _ c.requires.sound.own.paid.is_open)
    (subst (λ (a : AccountId). AreRelatedIn c.end_heaps.new.memory a.0 (parent_in c.end_heaps.new.memory a.0)) same c.close.ensures.related)
