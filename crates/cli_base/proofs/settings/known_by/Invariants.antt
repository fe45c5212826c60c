-- What is left of the arguments is still to be given.
use Rattle.std.proofs.Common.{◌≡◌, drop}
use Rattle.line_names.specs.NameTable.{nothing}
use Rattle.cli_base.specs.Given.{given_by_all}
use Rattle.cli_base.proofs.settings.known_by.Given as goal

abbrev pub invariant-loop-argument : goal.invariant-loop-argument
invariant-loop-argument l =
    given_by_all l.known (drop l.argument-index l.arguments) ≡ given_by_all nothing l.arguments
