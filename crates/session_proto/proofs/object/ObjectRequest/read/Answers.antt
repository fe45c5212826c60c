-- The request is that of the word's form.
use Rattle.std.proofs.Common.{Some, None, sym, ap, ◌∙◌}
use Rattle.std.specs.Option.{option_copied}
use Rattle.session_proto.specs.ObjectForms.{form_named, made_of}
use Rattle.session_proto.proofs.ObjectFormLemmas.{made_by_form}
use Rattle.session_proto.proofs.object.ObjectRequest.read.Goals as goal

pub returns-in_default : goal.returns-in_default
returns-in_default c =
    made_by_form c.args.text.now None c.if-text-gt-LONGEST_REQUEST.false
    (sym c.in_default.is ∙ c.named.ensures ∙ ap form_named c.split_first_word.ensures.word)

pub returns-in-Some-arguments : goal.returns-in-Some-arguments
returns-in-Some-arguments c =
    c.request_with.ensures
    ∙ ap (λ arguments. made_of c.in-Some.form (option_copied arguments)) (sym c.in-Some-arguments.is)
    ∙ ap (made_of c.in-Some.form) c.split_first_word.ensures.rest
    ∙ made_by_form c.args.text.now (Some c.in-Some.form) c.if-text-gt-LONGEST_REQUEST.false
    (sym c.in-Some.is ∙ c.named.ensures ∙ ap form_named c.split_first_word.ensures.word)

pub returns-in-None : goal.returns-in-None
returns-in-None c =
    c.bare_request.ensures
    ∙ ap (λ arguments. made_of c.in-Some.form (option_copied arguments)) (sym c.in-None.is)
    ∙ ap (made_of c.in-Some.form) c.split_first_word.ensures.rest
    ∙ made_by_form c.args.text.now (Some c.in-Some.form) c.if-text-gt-LONGEST_REQUEST.false
    (sym c.in-Some.is ∙ c.named.ensures ∙ ap form_named c.split_first_word.ensures.word)
