-- How far a text is written again.
use Rattle.std.specs.Prelude.{ℕ, List, ◌++◌, map, option_map, string_bytes}
use Rattle.budget_least.specs.MemberValues.{parts_from, text_from, Around, NewValue, Part, Step}
use Rattle.budget_least.specs.MemberValues.Around.{InArray, InObject}
use Rattle.budget_least.specs.MemberValues.Step.{Member as ToMember, Element as ToElement}
use Rattle.budget_least.specs.declared.member_values.Container.{Container}
use Rattle.budget_least.specs.declared.member_values.Container.TheVariants.{Array, Object}
use Rattle.budget_least.specs.declared.member_values.JsonStep.{JsonStep}
use Rattle.budget_least.specs.declared.member_values.JsonStep.TheVariants.{Member, Element}
use Rattle.budget_least.specs.declared.member_values.MemberValue.{MemberValue}
use Rattle.budget_least.specs.declared.member_values.ValueWriter.{ValueWriter}

abbrev pub step_of : JsonStep → Step
step_of (Member name) = ToMember name.now
step_of (Element place) = ToElement place

abbrev pub steps_of : List JsonStep → List Step
steps_of steps = map step_of steps

abbrev pub values_of : List MemberValue → List NewValue
values_of values = map (λ value. record { steps = steps_of value.steps.items; text = string_bytes value.text }) values

abbrev pub around_of : Container → Around
around_of (Array place) = InArray place
around_of (Object name) = InObject (option_map string_bytes name)

abbrev pub arounds_of : List Container → List Around
arounds_of containers = map around_of containers

-- the text, if these parts follow
abbrev pub text_after : ValueWriter → List Part → List ℕ
text_after writer parts = writer.written.items ++ text_from (values_of writer.values.now) (arounds_of writer.containers.items) parts

-- the text, if these bytes follow
abbrev pub text_before : ValueWriter → List ℕ → List ℕ
text_before writer rest = text_after writer (parts_from writer.quote writer.scalar.items rest)
