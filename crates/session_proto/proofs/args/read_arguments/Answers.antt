-- A pair is taken in, or makes no arguments.
use Rattle.std.proofs.Common.{ap, sym, ◌∙◌}
use Rattle.std.specs.Option.{option_copied, option_and_then}
use Rattle.session_proto.specs.Pairs.{known}
use Rattle.session_proto.specs.View.{plain_pair}
use Rattle.session_proto.proofs.ArgsLemmas.{arguments_from, pair_taken, plain_taken}
use Rattle.session_proto.proofs.args.read_arguments.Goals as goal

pub loop-rest-preserved-in-Some-read_plain : goal.loop-rest-preserved-in-Some-read_plain
loop-rest-preserved-in-Some-read_plain c =
    ap (option_and_then (λ next. arguments_from next (option_copied c.in-Some-read_plain.more))) c.in-Some-with_plain.ensures
    ∙ sym (plain_taken (known c.loop-rest.found) c.in-Some.pairs.now (plain_pair c.in-Some-read_plain.pair) (option_copied c.in-Some-read_plain.more) c.in-Some-read_plain.ensures.first)
    ∙ sym (ap (λ rest. arguments_from (known c.loop-rest.found) (option_copied rest)) c.in-Some.is)
    ∙ c.loop-rest.invariant

pub returns-in_default-with_plain : goal.returns-in_default-with_plain
returns-in_default-with_plain c =
    ap (option_and_then (λ next. arguments_from next (option_copied c.in-Some-read_plain.more))) c.in_default-with_plain.ensures
    ∙ sym (plain_taken (known c.loop-rest.found) c.in-Some.pairs.now (plain_pair c.in-Some-read_plain.pair) (option_copied c.in-Some-read_plain.more) c.in-Some-read_plain.ensures.first)
    ∙ sym (ap (λ rest. arguments_from (known c.loop-rest.found) (option_copied rest)) c.in-Some.is)
    ∙ c.loop-rest.invariant

pub loop-rest-preserved : goal.loop-rest-preserved
loop-rest-preserved c =
    ap (option_and_then (λ next. arguments_from next (option_copied c.split_piece.result.1))) c.in-Some-with.ensures
    ∙ sym (pair_taken (known c.loop-rest.found) c.in-Some.pairs.now _ (option_copied c.split_piece.result.1) c.split_piece.ensures.pieces _ c.in-Some-read_pair.ensures)
    ∙ sym (ap (λ rest. arguments_from (known c.loop-rest.found) (option_copied rest)) c.in-Some.is)
    ∙ c.loop-rest.invariant

pub returns-in_default-with : goal.returns-in_default-with
returns-in_default-with c =
    ap (option_and_then (λ next. arguments_from next (option_copied c.split_piece.result.1))) c.in_default-with.ensures
    ∙ sym (pair_taken (known c.loop-rest.found) c.in-Some.pairs.now _ (option_copied c.split_piece.result.1) c.split_piece.ensures.pieces _ c.in-Some-read_pair.ensures)
    ∙ sym (ap (λ rest. arguments_from (known c.loop-rest.found) (option_copied rest)) c.in-Some.is)
    ∙ c.loop-rest.invariant
