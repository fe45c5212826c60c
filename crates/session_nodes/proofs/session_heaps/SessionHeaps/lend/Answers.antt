-- What the account doesn't cover is refused, and else the buffer is the session's.
use Rattle.std.proofs.Common.{rules, ◌≡◌, ◌∙◌, Err, Some, None, refl, sym, ap, subst}
use Rattle.std.specs.Prelude.{IfOk}
use Rattle.std.specs.Option.{option_map}
use Rattle.std.specs.Result.{result_err}
use Rattle.own_model.specs.FileService.{error_of}
use Rattle.core_calls.specs.FileError.{model_error}
use Rattle.server_frame.specs.Session.{holding_of}
use Rattle.session_nodes.specs.SessionBuffer.{TakesBuffer}
use Rattle.session_nodes.specs.SessionHeaps.{stock_of}
use Rattle.session_nodes.proofs.BufferRequestLemmas.{make_exists, make_short}
use Rattle.session_nodes.proofs.ResultLemmas.{err_case, err_and, was_ok}
use Rattle.session_nodes.proofs.session_heaps.SessionHeaps.lend.Goals as goal

pub returns-then-is_some-clause-refusal : goal.returns-then-is_some-clause-refusal
returns-then-is_some-clause-refusal c = make_exists c.args.bytes c.args.buffer.now c.args.memory.now _ (sym c.if-not-is_size.ensures) (sym c.if-is_some.ensures)

pub returns-in_err-lent-clause-refusal : goal.returns-in_err-lent-clause-refusal
returns-in_err-lent-clause-refusal c =
    let refused = err_case c.take_buffer.result c.map_err.result c.in_err-lent.field-0.0 _ c.map_err.ensures.cases c.map_err.ensures.variant c.in_err-lent.was in
    let error : model_error c.in_err-lent.field-0.0 ≡ error_of refused.0 = err_and c.map_err.result c.in_err-lent.field-0.0 _ c.in_err-lent.was refused.1.1 in
    let tells : c.from_residual.result ≡ Err c.in_err-lent.field-0.0 = search rules in
    ap (λ r. option_map model_error (result_err r)) tells ∙ ap Some error
    ∙ sym (make_short c.args.bytes c.args.buffer.now c.args.memory.now _ (sym c.if-not-is_size.ensures) (sym c.is_some.ensures ∙ c.if-is_some.false) (Some refused.0) (sym c.take_buffer.ensures.refusal ∙ ap result_err refused.1.0))

pub returns-clause-refusal : goal.returns-clause-refusal
returns-clause-refusal c =
    let ok = was_ok c.take_buffer.result c.map_err.result c.in_ok-lent.lent _ c.map_err.ensures.cases c.map_err.ensures.variant c.in_ok-lent.was in
    sym (make_short c.args.bytes c.args.buffer.now c.args.memory.now _ (sym c.if-not-is_size.ensures) (sym c.is_some.ensures ∙ c.if-is_some.false) None (sym c.take_buffer.ensures.refusal ∙ ap result_err ok))

pub returns-clause-lends : goal.returns-clause-lends
returns-clause-lends c =
    let ok = was_ok c.take_buffer.result c.map_err.result c.in_ok-lent.lent _ c.map_err.ensures.cases c.map_err.ensures.variant c.in_ok-lent.was in
    let taken = subst (λ r. IfOk r (λ lent. TakesBuffer c.args.bytes lent (stock_of c.args.self.now c.args.memory.now c.args.map.now) (stock_of c.args.self.now c.take_buffer.new.memory c.take_buffer.new.map)
    (holding_of c.args.self.now.contents c.take_buffer.new.memory c.take_buffer.new.map) c.take_buffer.new.memory)) ok c.take_buffer.ensures.taken in
    record { lent = c.in_ok-lent.lent; later_is = refl; space_is = refl; taken = taken }
