-- The command line as `clap` has it.
use Rattle.std.specs.Prelude.{Bool, false, List, Option, Some, codes}
use Rattle.std.specs.Option.{option_map_or}
use Rattle.std.specs.Str.{bytes_eq}
use Rattle.clap.specs.Words.{App, Row, Rule, Text, new_app, new_rule, one_of, with_rule}
use Rattle.clap.specs.declared.builder.ArgAction.TheVariants.{SetTrue}

-- a flag of this name
abbrev pub flag_rule : Text → Rule
flag_rule name = record (new_rule name) { long = Some name; action = Some SetTrue }

-- the name whose lines alone are answered
abbrev pub only_rule : Rule
only_rule = record (new_rule (codes "only")) { long = Some (codes "only"); value_names = 1 }

-- the path of a start list
abbrev pub config_rule : Rule
config_rule = record (new_rule (codes "config")) { value_names = 1 }

-- the command itself
abbrev pub program : App
program =
    with_rule (with_rule (with_rule (with_rule (new_app (codes "scenario_run"))
    (flag_rule (codes "check"))) (flag_rule (codes "accounts"))) only_rule) config_rule

-- a text says that a flag was used
abbrev pub is_true : Option Text → Bool
is_true text = option_map_or (λ t. bytes_eq t (codes "true")) text false

-- the flag of this id was used
abbrev pub is_set : Text → List Row → Bool
is_set id rows = is_true (one_of id rows)
