-- A call of a component, and one of none.
use Rattle.std.proofs.Common.{ap, refl, subst, ◌∙◌}
use Rattle.std.specs.List.{position}
use Rattle.std.specs.Option.{option_copied}
use Rattle.std.specs.Str.{bytes_eq}
use Rattle.own_model.specs.Listed.{Listed}
use Rattle.std.specs.Prelude.{Some, None}
use Rattle.std.proofs.lemmas.Result.{on_ok_weaker}
use Rattle.line_grammar.specs.Read.{spoken_as, IsReadAs}
use Rattle.line_names.specs.Views.{filled_view}
use Rattle.budget_least.specs.ComponentLines.{reading, said_in}
use Rattle.budget_least.proofs.ReadingLemmas.{added_by, said_some}
use Rattle.budget_least.proofs.lines_by_component.LinesByComponent.add_call.Goals as goal

pub returns-in_default-find-clause-added : goal.returns-in_default-find-clause-added
returns-in_default-find-clause-added c =
    let call = c.args.call.now in
    let now = reading c.args.run.now c.args.self.now in
    added_by c.args.number (filled_view call.filled) call.line.now (option_copied call.reply) now now (said_in call.line.now) (spoken_as c.in-Some.said) None
    (said_some call.line.now c.in-Some.said (subst (IsReadAs call.line.now) c.in-Some.is c.requires))
    (c.in_default-find.ensures.value ∙ ap (λ (list : Listed). position (λ entry. bytes_eq entry.path c.in-Some.said.name.now) list.entries) c.list.ensures) refl

pub returns-clause-added : goal.returns-clause-added
returns-clause-added c =
    let call = c.args.call.now in
    on_ok_weaker c.add_to.result
    (added_by c.args.number (filled_view call.filled) call.line.now (option_copied call.reply) (reading c.args.run.now c.args.self.now)
    (reading c.add_to.new.run c.add_to.new.self) (said_in call.line.now) (spoken_as c.in-Some.said) (Some c.in-Some-find.component)
    (said_some call.line.now c.in-Some.said (subst (IsReadAs call.line.now) c.in-Some.is c.requires))
    (c.in-Some-find.ensures.value ∙ ap (λ (list : Listed). position (λ entry. bytes_eq entry.path c.in-Some.said.name.now) list.entries) c.list.ensures)) c.add_to.ensures.added
