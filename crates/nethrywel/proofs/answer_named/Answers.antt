-- The status of the command, unless nothing reads a name.
use Rattle.std.proofs.Common.{Global, ◌≡◌, ◌∙◌, ℕ, List, ap, inl, inr, map, subst}
use Rattle.std.specs.Prelude.{Vec}
use Rattle.std.specs.Borrow.{Bor}
use Rattle.std.proofs.lemmas.Result.{IfOk-at_ok}
use Rattle.cli_base.specs.Given.{HasUnread}
use Rattle.cli_options.specs.Inputs.{files_read}
use Rattle.nethrywel.proofs.answer_named.Goals as goal

pub returns-in-Test : goal.returns-in-Test
returns-in-Test g c = inr c.answer.ensures

pub returns-in-Some : goal.returns-in-Some
returns-in-Some g c =
    let command = c.args.command.now in
    let files : map (λ (path : Bor (List ℕ)). path.now) c.as_slice.result.now ≡ files_read command =
    ap (λ (paths : List (Bor (List ℕ))). map (λ (path : Bor (List ℕ)). path.now) paths) c.as_slice.ensures.value
    ∙ IfOk-at_ok (λ (paths : Vec (Bor (List ℕ)) Global). map (λ (path : Bor (List ℕ)). path.now) paths.items ≡ files_read command)
    c.in-Ok.ensures.ok c.paths_read.ensures in
    inl (inr (
      c.refuse_unread.ensures,
      subst (λ (paths : List (List ℕ)). HasUnread (g.H.Host.text_at c.args.host.now) paths c.args.settings.given.now) files c.in-Some.ensures,
    ))

pub returns-in-Ok : goal.returns-in-Ok
returns-in-Ok g c = inr c.answer-in-None.ensures

pub returns : goal.returns
returns g c = inl (inl (inl c.in-Err.ensures.err.0))
