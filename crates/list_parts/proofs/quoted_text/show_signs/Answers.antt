-- One character more.
use Rattle.std.proofs.Common.{rules, ◌++◌, [], refl}
use Rattle.std.proofs.Output.{has_written_append, has_written_of_eq}
use Rattle.std.proofs.lemmas.Str.{IsUtf8-past_char}
use Rattle.list_parts.specs.QuotedTexts.{sign_text}
use Rattle.list_parts.proofs.TextLemmas.{all_signs, next_sign}
use Rattle.list_parts.proofs.quoted_text.show_signs.Goals as goal

pub loop-sign-init : goal.loop-sign-init
loop-sign-init g c = record {
  utf8 = rw (c.into_iter-sign-iterator.ensures.into_iter_gives, c.chars-sign-items.ensures.rest) c.utf8.text;
  writes = λ plain. ([], search rules, rw (c.into_iter-sign-iterator.ensures.into_iter_gives, c.chars-sign-items.ensures.rest) refl);
}

pub loop-sign-preserved : goal.loop-sign-preserved
loop-sign-preserved g c =
    let is = c.in-Some.ensures.steps.0 in
    record {
      utf8 = IsUtf8-past_char _ _ _ c.loop-sign.invariant.utf8 is;
      writes = λ plain.
          let so_far = c.loop-sign.invariant.writes plain in (
            so_far.0 ++ sign_text c.args.in_graph c.in-Some.sign,
            has_written_append _ _ _ _ _ _ so_far.1 (search rules),
            next_sign c.args.in_graph _ _ c.in-Some.sign so_far.0 _ c.loop-sign.invariant.utf8 is so_far.2,
          );
    }

pub returns : goal.returns
returns g c = λ plain ok.
    let so_far = c.loop-sign.invariant.writes plain in
    has_written_of_eq _ _ _ _ _ (all_signs c.args.in_graph _ so_far.0 _ (c.in-None.ensures.steps.0.0) so_far.2) so_far.1
