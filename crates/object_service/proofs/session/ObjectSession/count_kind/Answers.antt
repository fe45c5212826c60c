-- The counter of the number of a kind counts the objects of the kind.
use Rattle.std.proofs.Common.{◌≡◌, ◌<◌, ◌∙◌, Some, Err, ap, sym, subst, rules}
use Rattle.std.specs.Prelude.{IfSome, length}
use Rattle.std.specs.Result.{result_ok}
use Rattle.core_calls.specs.declared.object_error.ObjectError.TheVariants.{BadKind}
use Rattle.own_model.specs.ObjectService.{told}
use Rattle.own_model.specs.ObjectText.ObjectReply.{Counted}
use Rattle.session_nodes.specs.NodeList.{nodes_in}
use Rattle.object_service.specs.Kinds.{kind_at}
use Rattle.object_service.specs.Session.{counted_reply, objects_in}
use Rattle.object_service.proofs.KindLemmas.{counted_as, named_none, named_some}
use Rattle.object_service.proofs.ServeLemmas.{count_bad_kind, count_done, none_before}
use Rattle.object_service.proofs.session.ObjectSession.count_kind.Goals as goal

pub returns : goal.returns
returns c stock has =
    let kinds = c.args.kinds.now in
    let number = c.in_ok-number.number in
    let some : c.number_of.result ≡ Some number = c.ok_or.ensures.ok_part ∙ ap result_ok c.in_ok-number.was in
    let low : number < length kinds = subst (λ o. IfSome o (λ n. n < length kinds)) some c.number_of.ensures.low in
    let named = named_some kinds c.args.kind.now number (sym c.number_of.ensures.place ∙ some) in
    let count = has.counted.each number ∙ counted_as kinds stock.nodes number (nodes_in c.args.self.now.nodes stock) c.requires.kinds low in
    count_done kinds c.args.self.now stock c.args.kind.now (kind_at kinds number) named
    ∙ ap (λ n. told (Counted n) (objects_in kinds c.args.self.now stock) stock.account) (sym count)

pub returns-in_err-number : goal.returns-in_err-number
returns-in_err-number c stock has =
    let kinds = c.args.kinds.now in
    let none = named_none kinds c.args.kind.now (sym c.number_of.ensures.place ∙ none_before c.number_of.result c.ok_or.result _ c.ok_or.ensures.ok_part c.in_err-number.was) in
    let tells : c.from_residual.result ≡ Err BadKind = search rules in
    count_bad_kind kinds c.args.self.now stock c.args.kind.now none
    ∙ ap (λ r. told (counted_reply r) (objects_in kinds c.args.self.now stock) stock.account) (sym tells)
