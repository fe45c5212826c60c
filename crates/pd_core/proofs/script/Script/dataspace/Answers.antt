-- A dataspace that a selector names has its pages, be it the script's own or one that a session lends.
use Rattle.std.proofs.Common.{ap, sym, ◌∙◌, Some}
use Rattle.std.specs.Prelude.{Ok}
use Rattle.dataspace_core.specs.Store.{part}
use Rattle.dataspace_core.proofs.PartLaws.{paid_in_part}
use Rattle.pd_core.specs.Own.{lent_in, sized_at}
use Rattle.pd_core.specs.Sound.{buffer_at}
use Rattle.pd_core.proofs.ScriptOwnLemmas.{has_bytes, pages_are}
use Rattle.pd_core.proofs.script.Script.dataspace.Goals as goal

pub pages-requires : goal.pages-requires
pages-requires c =
    (paid_in_part _ _ _ _ (has_bytes _ _ _ _ _ c.requires.own _ _ (sym c.in-Some-Dataspace.ensures.found ∙ ap (λ cap. Some cap) c.in-Some-Dataspace.field-0-is))).exists

pub returns-in-Some-Dataspace-clause-sized : goal.returns-in-Some-Dataspace-clause-sized
returns-in-Some-Dataspace-clause-sized c =
    let named = sym c.in-Some-Dataspace.ensures.found ∙ ap (λ cap. Some cap) c.in-Some-Dataspace.field-0-is in
    let pages = pages_are _ _ _ (has_bytes _ _ _ _ _ c.requires.own _ _ named) _ c.pages.ensures.pages in
    ap (λ n. Ok (c.in-Some-Dataspace.space, n)) pages ∙ ap (sized_at (lent_in c.args.memory.now) (part c.args.self.now.account.0 c.args.memory.now)) (sym named)

pub pages-requires-in-Some-Buffer : goal.pages-requires-in-Some-Buffer
pages-requires-in-Some-Buffer c =
    (c.requires.lent _ _ _ (ap buffer_at (sym c.in-Some-Buffer.ensures.found ∙ ap (λ cap. Some cap) c.in-Some-Buffer.field-0-is))).there

pub returns-in-Some-Buffer-clause-sized : goal.returns-in-Some-Buffer-clause-sized
returns-in-Some-Buffer-clause-sized c =
    let named = sym c.in-Some-Buffer.ensures.found ∙ ap (λ cap. Some cap) c.in-Some-Buffer.field-0-is in
    ap (λ n. Ok (c.in-Some-Buffer.space, n)) c.pages-in-Some-Buffer.ensures.pages ∙ ap (sized_at (lent_in c.args.memory.now) (part c.args.self.now.account.0 c.args.memory.now)) (sym named)
