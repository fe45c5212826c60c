-- The pair's key says what it tells, if anything.
use Rattle.std.proofs.Common.{sym, ap, ◌∙◌}
use Rattle.std.specs.Str.{bytes_eq}
use Rattle.session_proto.specs.Pairs.{known}
use Rattle.session_proto.specs.View.{model_value}
use Rattle.session_proto.proofs.ArgsLemmas.{ram_taken, caps_taken, label_taken, none_taken}
use Rattle.session_proto.proofs.args.Pairs.with.Goals as goal

pub returns-then-eq : goal.returns-then-eq
returns-then-eq c =
    c.with_ram.ensures ∙ ram_taken (known c.args.self) (model_value c.args.pair.value) _ _ c.as_slice.ensures c.if-eq.ensures

pub returns-then-eq-2 : goal.returns-then-eq-2
returns-then-eq-2 c =
    c.with_caps.ensures ∙ caps_taken (known c.args.self) (model_value c.args.pair.value) _ _ c.as_slice-2.ensures c.if-eq-2.ensures

pub returns-then-eq-3 : goal.returns-then-eq-3
returns-then-eq-3 c =
    c.with_label.ensures ∙ label_taken (known c.args.self) (model_value c.args.pair.value) _ _ c.as_slice-3.ensures c.if-eq-3.ensures

pub returns : goal.returns
returns c =
    none_taken (known c.args.self) (model_value c.args.pair.value) c.args.pair.key.now
    (ap (bytes_eq c.args.pair.key.now) (sym c.as_slice.ensures) ∙ sym c.if-eq.ensures)
    (ap (bytes_eq c.args.pair.key.now) (sym c.as_slice-2.ensures) ∙ sym c.if-eq-2.ensures)
    (ap (bytes_eq c.args.pair.key.now) (sym c.as_slice-3.ensures) ∙ sym c.if-eq-3.ensures)
