-- A text that is a label is added.
use Rattle.std.proofs.Common.{◌∷◌, ◌++◌, ◌∙◌, [], ap}
use Rattle.list_labels.specs.Asked.{is_given}
use Rattle.list_labels.proofs.AskedLemmas.{read_is}
use Rattle.list_labels.proofs.KnownLemmas.{added_one, some_bytes}
use Rattle.list_labels.proofs.known_labels.add.Goals as goal

pub returns-in_ok-push-in-Some : goal.returns-in_ok-push-in-Some
returns-in_ok-push-in-Some c =
    let read = read_is c.args.text.now c.in-Some.label (is_given c.args.text.now) c.in-Some.ensures in
    added_one c.args.text.now c.args.known.now.items c.push.new.self.items read.1
    (some_bytes c.args.text.now c.is_empty.result c.is_empty.ensures c.if-is_empty.false)
    (c.in_ok-push-in-Some.ensures.items ∙ ap (λ l. c.args.known.now.items ++ l ∷ []) read.0)
