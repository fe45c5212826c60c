-- The meter that is put back has heard one call more than the one that was read.
use Rattle.std.proofs.Common.{subst, sym, ◌++◌, ◌∷◌, [], get_or-set_same}
use Rattle.std.proofs.lemmas.List.{get_or_read}
use Rattle.core_calls.specs.Call.{model_call}
use Rattle.budget_meter.specs.Metered.{HasObserved}
use Rattle.view_accounts.specs.Meters.{no_meter}
use Rattle.view_accounts.specs.Needs.{limits}
use Rattle.view_accounts.proofs.needs.Needs.observe_own.Goals as goal

pub returns-then-component-len-clause-own : goal.returns-then-component-len-clause-own
returns-then-component-len-clause-own c = λ within entry calls s has told.
    subst (HasObserved entry (calls ++ model_call c.args.call ∷ []) (limits s.account) s)
    (sym (get_or-set_same c.args.self.now.meters.items c.args.component c.hear.new.self no_meter within))
    (c.hear.ensures entry calls (limits s.account) s
    (subst (HasObserved entry calls (limits s.account) s)
    (sym (get_or_read c.args.self.now.meters.items c.args.component c.index.result.now within c.index.ensures no_meter)) has)
    told)
