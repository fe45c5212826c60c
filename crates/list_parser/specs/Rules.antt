-- What a JSON value says as a rule, or what is bad in it.
use Rattle.std.specs.Prelude.{ℕ, List, [], ◌∷◌, ◌++◌, codes, length, if◌then◌else◌, Option, Some, None, Result, Ok, Err}
use Rattle.serde_json.specs.Data.{Data}
use Rattle.serde_json.specs.Find.{get}
use Rattle.own_model.specs.Listed.{ListedRule, Target}
use Rattle.own_model.specs.Listed.Target.{Child, AnyChild, Parent}
use Rattle.list_parser.specs.FaultPlace.{◌>>=◌, all_after, bad, bad_member, bad_whole, in_element, value_or}
use Rattle.list_parser.specs.Members.{is_object, is_true, name_of, short_list, optional_text}
use Rattle.list_parser.specs.declared.fault.ConfigField.{ConfigField}
use Rattle.list_parser.specs.declared.list_fault.ExpectedValue.TheVariants as expect
use Rattle.list_parser.specs.declared.list_fault.FaultPart.TheVariants as part
use Rattle.list_parser.specs.declared.list_fault.Flaw.{Flaw}
use Rattle.list_parser.specs.declared.list_fault.ListFault.{ListFault}
use Rattle.list_parser.specs.declared.list_fault.ListMember.TheVariants as member

-- exactly one of `service`, a name, and `any-service`, which asks for none
abbrev pub service_asked : Option Data → Option Data → Result (Option (List ℕ)) Flaw
service_asked (Some service) None = value_or (bad_member member.Service expect.Name) (name_of service) >>= (λ name. Ok (Some name))
service_asked None (Some any) = if is_true any then Ok None else Err (bad_member member.AnyService expect.True)
service_asked (Some service) (Some any) = Err (bad_whole expect.OneService)
service_asked None None = Err (bad_whole expect.OneService)

-- exactly one of `child`, a name, `any-child` and `parent`
abbrev pub target_named : Option Data → Option Data → Option Data → Result Target Flaw
target_named (Some child) None None = value_or (bad_member member.Child expect.Name) (name_of child) >>= (λ name. Ok (Child name))
target_named None (Some any) None = if is_true any then Ok AnyChild else Err (bad_member member.AnyChild expect.True)
target_named None None (Some parent) = if is_true parent then Ok Parent else Err (bad_member member.Parent expect.True)
target_named child any parent = Err (bad_whole expect.OneTarget)

abbrev pub rule_of : Data → Result ListedRule Flaw
rule_of d = do
  rule ← if is_object d then Ok d else Err (bad_whole expect.Object)
  service ← service_asked (get (codes "service") rule) (get (codes "any-service") rule)
  label ← value_or (bad_member member.Label expect.Text) (optional_text (get (codes "label") rule))
  label_prefix ← value_or (bad_member member.LabelPrefix expect.Text) (optional_text (get (codes "label_prefix") rule))
  label_suffix ← value_or (bad_member member.LabelSuffix expect.Text) (optional_text (get (codes "label_suffix") rule))
  target ← target_named (get (codes "child") rule) (get (codes "any-child") rule) (get (codes "parent") rule)
  Ok (record { service = service; label = label; label_prefix = label_prefix; label_suffix = label_suffix; target = target })

-- a rule after others, in a list that is a member
abbrev pub with_rule : ConfigField → List ListedRule → Data → Result (List ListedRule) ListFault
with_rule of before d = in_element of (part.Rule (length before)) (rule_of d) >>= (λ rule. Ok (before ++ rule ∷ []))

-- a list of at most 32 rules
abbrev pub rules_of : ConfigField → Data → Result (List ListedRule) ListFault
rules_of of d = value_or (bad of expect.Rules) (short_list d) >>= all_after (with_rule of) []
