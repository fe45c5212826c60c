use Rattle.std.proofs.Common.{◌≡◌, ◌<◌, ◌+◌, length, drop, get_or, position, Some, None, arith, sym, subst}
use Rattle.std.proofs.lemmas.Bool.Decides.{nat_tests}
use Rattle.std.proofs.lemmas.List.{take_rest}
use Rattle.own_model.specs.SessionArgs.{is_quote}
use Rattle.session_proto.specs.Pieces.{is_cut}
use Rattle.session_proto.proofs.PieceLemmas.{up_to_cut, up_to_end, up_to_quote, open_end, at_comma, at_quote, after_quote, cut_byte, quote_byte}
use Rattle.session_proto.proofs.text.piece_len.Goals as goal

pub returns-then-text-place-eq44-clause-value : goal.returns-then-text-place-eq44-clause-value
returns-then-text-place-eq44-clause-value c =
    let text = c.args.text.now in
    let found : position is_cut (drop c.loop-next.at text) ≡ Some c.in-Some.next = subst (λ rest. position is_cut rest ≡ Some c.in-Some.next) (take_rest text c.loop-next.at) (sym c.in-Some.ensures.place) in
    let ahead = up_to_cut text c.loop-next.at c.in-Some.next found in
    let within : c.loop-next.at + c.in-Some.next < length text = grind (arith, c.in-Some.ensures.inside) in
    let ends = at_comma text (c.loop-next.at + c.in-Some.next) within c.if-text-place-eq44.true in
    omega (arith, ahead, ends, c.loop-next.invariant.1)

pub loop-next-preserved : goal.loop-next-preserved
loop-next-preserved c =
    let text = c.args.text.now in
    let place = c.loop-next.at + c.in-Some.next in
    let found : position is_cut (drop c.loop-next.at text) ≡ Some c.in-Some.next = subst (λ rest. position is_cut rest ≡ Some c.in-Some.next) (take_rest text c.loop-next.at) (sym c.in-Some.ensures.place) in
    let within : place < length text = grind (arith, c.in-Some.ensures.inside) in
    let quote : get_or text place 0 ≡ 34 = grind (arith, nat_tests, cut_byte text c.loop-next.at c.in-Some.next found, c.if-text-place-eq44.false) in
    let closes : position is_quote (drop (place + 1) text) ≡ Some c.in-Some-find_quote.inner = subst (λ rest. position is_quote rest ≡ Some c.in-Some-find_quote.inner) (take_rest text (place + 1)) (sym c.in-Some-find_quote.ensures.place) in
    let end = place + 1 + c.in-Some-find_quote.inner in
    let inside : end < length text = grind (arith, c.in-Some-find_quote.ensures.inside) in
    let closing = quote_byte text (place + 1) c.in-Some-find_quote.inner closes in (
      omega (arith, inside),
      omega (arith, up_to_cut text c.loop-next.at c.in-Some.next found, at_quote text place within quote, up_to_quote text (place + 1) c.in-Some-find_quote.inner closes, after_quote text end inside closing, c.loop-next.invariant.1),
    )

pub returns-in-None-clause-value : goal.returns-in-None-clause-value
returns-in-None-clause-value c =
    let text = c.args.text.now in
    let place = c.loop-next.at + c.in-Some.next in
    let found : position is_cut (drop c.loop-next.at text) ≡ Some c.in-Some.next = subst (λ rest. position is_cut rest ≡ Some c.in-Some.next) (take_rest text c.loop-next.at) (sym c.in-Some.ensures.place) in
    let within : place < length text = grind (arith, c.in-Some.ensures.inside) in
    let quote : get_or text place 0 ≡ 34 = grind (arith, nat_tests, cut_byte text c.loop-next.at c.in-Some.next found, c.if-text-place-eq44.false) in
    let unclosed : position is_quote (drop (place + 1) text) ≡ None = subst (λ rest. position is_quote rest ≡ None) (take_rest text (place + 1)) (sym c.in-None.ensures.place) in
    omega (arith, up_to_cut text c.loop-next.at c.in-Some.next found, at_quote text place within quote, open_end text (place + 1) (omega (arith, within)) unclosed, c.loop-next.invariant.1)

pub returns-clause-value : goal.returns-clause-value
returns-clause-value c =
    let text = c.args.text.now in
    let nowhere : position is_cut (drop c.loop-next.at text) ≡ None = subst (λ rest. position is_cut rest ≡ None) (take_rest text c.loop-next.at) (sym c.in_default.ensures.place) in
    omega (arith, up_to_end text c.loop-next.at c.loop-next.invariant.0 nowhere, c.loop-next.invariant.1)
