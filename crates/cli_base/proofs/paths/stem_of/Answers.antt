-- A path without the end of a scenario has the stem of a policy.
use Rattle.std.proofs.Common.{◌≡◌, ◌≢◌, ◌++◌, ◌∙◌, ℕ, List, codes, false, refl}
use Rattle.std.proofs.lemmas.Str.Pattern.{ends_text}
use Rattle.cli_base.specs.Paths.{policy_stem, stem_of}
use Rattle.cli_base.proofs.paths.stem_of.Goals as goal

no_scenario : (path : List ℕ) → ((front : List ℕ) → path ≢ front ++ codes ".scenario") → policy_stem path ≡ stem_of path
no_scenario path none = rw (← ends_text false (codes ".scenario") path none) refl

pub returns-in-None : goal.returns-in-None
returns-in-None c = c.policy_stem.ensures ∙ no_scenario c.args.path.now c.in-None.ensures.cases
