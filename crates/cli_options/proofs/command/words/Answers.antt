-- All words of an argument, by its row.
use Rattle.std.proofs.Common.{◌≡◌, ◌∙◌, [], IfOk, List, None, Some, map, rules, refl, subst, unwrap_or, ℕ}
use Rattle.std.specs.Borrow.{Bor}
use Rattle.clap.specs.Words.{all_of, found_of, rows_of}
use Rattle.clap.proofs.WalkLemmas.{raw_values-rows}
use Rattle.cli_options.proofs.command.words.Goals as goal

pub returns-in-Some : goal.returns-in-Some
returns-in-Some c =
    let told : Some (map (λ (word : Bor (List ℕ)). word.now) c.in-Some.values.now) ≡ all_of c.args.id.now (rows_of (found_of c.args.found.now)) =
    c.in-Some.ensures ∙ raw_values-rows (found_of c.args.found.now) c.args.id.now in
    subst (λ values. IfOk c.from_slice.result (λ words. map (λ (word : Bor (List ℕ)). word.now) words.items ≡ unwrap_or values [])) told (search rules)

pub returns-in-None : goal.returns-in-None
returns-in-None c =
    let told : None ≡ all_of c.args.id.now (rows_of (found_of c.args.found.now)) =
    c.in-None.ensures ∙ raw_values-rows (found_of c.args.found.now) c.args.id.now in
    rw (c.new.ensures.items, ← told) refl
