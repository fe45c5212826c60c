-- A path without the end of a policy is its own stem.
use Rattle.std.proofs.Common.{◌≡◌, ◌≢◌, ◌++◌, ℕ, List, codes, false, refl}
use Rattle.std.proofs.lemmas.Str.Pattern.{ends_text}
use Rattle.cli_base.specs.Paths.{policy_stem}
use Rattle.cli_base.proofs.paths.policy_stem.Goals as goal

no_policy : (path : List ℕ) → ((front : List ℕ) → path ≢ front ++ codes ".policy") → path ≡ policy_stem path
no_policy path none = rw (← ends_text false (codes ".policy") path none) refl

pub returns-in-None : goal.returns-in-None
returns-in-None c = no_policy c.args.path.now c.in-None.ensures.cases
