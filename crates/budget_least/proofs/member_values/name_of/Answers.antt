-- The text that is read, or none.
use Rattle.std.proofs.Common.{◌∙◌, subst}
use Rattle.std.specs.Bool.{IsTrue}
use Rattle.std.proofs.lemmas.Bool.{false≢true}
use Rattle.serde_json.specs.View.{view}
use Rattle.budget_least.proofs.ValueLemmas.{name_none, name_read}
use Rattle.budget_least.proofs.member_values.name_of.Goals as goal

pub returns-in-Ok : goal.returns-in-Ok
returns-in-Ok c = c.text_of.ensures ∙ name_read c.args.quoted.now (view c.in-Ok.value) c.in-Ok.ensures.ok.0 c.in-Ok.ensures.ok.1

pub returns-else-is_memory : goal.returns-else-is_memory
returns-else-is_memory c =
    c.new.ensures.bytes ∙ name_none c.args.quoted.now (c.in-Err.ensures.err (λ memory. false≢true (subst IsTrue c.if-is_memory.false (c.is_memory.ensures.1 memory))))
