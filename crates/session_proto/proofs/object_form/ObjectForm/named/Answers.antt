-- A word is found among the forms that begin as it does.
use Rattle.std.proofs.Common.{ap, ◌∙◌}
use Rattle.std.specs.Prelude.{find}
use Rattle.std.specs.Str.{bytes_eq}
use Rattle.text_codec.proofs.FirstLemmas.{found_with_first}
use Rattle.session_proto.specs.ObjectForms.{forms, word_of}
use Rattle.session_proto.proofs.object_form.ObjectForm.named.Goals as goal

pub returns-in-Some : goal.returns-in-Some
returns-in-Some c =
    c.form_among.ensures ∙ ap (find (λ form. bytes_eq c.args.word.now (word_of form))) c.beginning_with.ensures
    ∙ found_with_first word_of _ _ c.in-Some.ensures.value forms
