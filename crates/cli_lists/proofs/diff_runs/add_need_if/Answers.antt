-- The need is that of the entry, unless the account is that of a session.
use Rattle.std.proofs.Common.{◌≡◌, ◌∙◌, ◌++◌, Bool, List, [], ◌∷◌, Option, Some, ap, false, map, sym}
use Rattle.std.proofs.lemmas.List.{append-nil, map-append}
use Rattle.std.specs.Borrow.{Bor}
use Rattle.std.specs.Option.{option_copied}
use Rattle.budget_search.specs.declared.account_budgets.AccountBudgets.{AccountBudgets}
use Rattle.list_diff.specs.declared.need_changes.ComponentNeed.{ComponentNeed}
use Rattle.own_model.specs.Listed.{ListedEntry}
use Rattle.cli_lists.specs.ComparedRuns.{NeedAt, need_at, need_if, need_of}
use Rattle.cli_lists.proofs.diff_runs.add_need_if.Goals as goal

-- nothing is added
unadded : (needs added : List NeedAt) → added ≡ [] → needs ≡ needs ++ added
unadded needs added none = sym (append-nil needs) ∙ ap (λ (more : List NeedAt). needs ++ more) (sym none)

-- a component's need is added
need_added : (account : AccountBudgets) (entry : ListedEntry) (need : ComponentNeed) (is_session : Bool) (found : Option ListedEntry)
    (olds news : List ComponentNeed) → is_session ≡ false → found ≡ Some entry → need_at need ≡ need_of account entry
    → news ≡ olds ++ (need ∷ []) → map need_at news ≡ map need_at olds ++ need_if account is_session found
need_added account entry need is_session found olds news own found_is need_is news_are =
    ap (λ (ns : List ComponentNeed). map need_at ns) news_are
    ∙ (map-append need_at olds (need ∷ [])
    ∙ (ap (λ (n : NeedAt). map need_at olds ++ (n ∷ [])) need_is
    ∙ (ap (λ (o : Option ListedEntry). map need_at olds ++ need_if account false o) (sym found_is)
    ∙ ap (λ (b : Bool). map need_at olds ++ need_if account b found) (sym own))))

pub returns-then-is_session : goal.returns-then-is_session
returns-then-is_session c =
    unadded (map need_at c.args.needs.now.items) (need_if c.args.account.now c.args.is_session (option_copied c.args.entry))
    (ap (λ (b : Bool). need_if c.args.account.now b (option_copied c.args.entry)) c.if-is_session.true)

pub returns-in-None : goal.returns-in-None
returns-in-None c =
    unadded (map need_at c.args.needs.now.items) (need_if c.args.account.now c.args.is_session (option_copied c.args.entry))
    (ap (λ (b : Bool). need_if c.args.account.now b (option_copied c.args.entry)) c.if-is_session.false
    ∙ ap (λ (o : Option (Bor ListedEntry)). need_if c.args.account.now false (option_copied o)) c.in-None.is)
