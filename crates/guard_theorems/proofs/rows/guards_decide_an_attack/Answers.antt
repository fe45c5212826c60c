-- The requests are computed, once each client's only session is found, which has no buffer.
use Rattle.std.proofs.Common.{◌≡◌, ℕ, Bool, true, false, List, [], ◌∷◌, ◌++◌, Some, refl, sym, ap, ◌∙◌}
use Rattle.std.specs.Prelude.{Option, None, codes}
use Rattle.std.specs.FinMap as map
use Rattle.std.specs.FinMap.{get}
use Rattle.own_model.proofs.LentLemmas.{buffer_none}
use Rattle.own_model.proofs.NatMapLemmas.{get-empty, get-insert_same, alike_insert}
use Rattle.own_model.specs.Account.{Account}
use Rattle.own_model.specs.OwnState.{Object, NamedBuffer, session_named, is_buffer_of, buffer_of, bytes_of_buffer}
use Rattle.own_model.specs.OwnState.Object.{OpenSession}
use Rattle.own_model.specs.Session.{Session, served}
use Rattle.own_model.specs.Text.{lines_of}
use Rattle.own_model.specs.Transcript.{outcome_text}
use Rattle.guard_theorems.specs.Guarded.{GuardedOutcome, cover, request_paid, guarded_request, guarded_transcript, with_outcome}
use Rattle.guard_theorems.specs.Rows.{has_only, reader, crawler, shared_store, attack}
use Rattle.guard_theorems.proofs.rows.guards_decide_an_attack.Goals as goal

there : (x : Session) → get (has_only x).selectors 1 ≡ Some (OpenSession x)
there x = get-insert_same map.empty 1 (OpenSession x) 1 refl

none : (x : Session) → buffer_of 1 (has_only x).selectors ≡ None
none x = buffer_none 1 (has_only x).selectors (λ k.
    alike_insert (is_buffer_of 1) map.empty 1 (OpenSession x) (sym (ap (is_buffer_of 1) (get-empty 1))) k ∙ ap (is_buffer_of 1) (get-empty k))

-- what the request of such a client gives
abbrev paid : Bool → Session → (ℕ → Account) → GuardedOutcome
paid guards x accounts =
    request_paid 1 None x (served None (record x { account = cover guards x.account (accounts x.server) }) (codes "CREATE a")) (has_only x) accounts

is_paid : (guards : Bool) (x : Session) (accounts : ℕ → Account) →
    guarded_request guards 1 (session_named (get (has_only x).selectors 1)) (codes "CREATE a") (has_only x) accounts ≡ paid guards x accounts
is_paid guards x accounts =
    ap (λ (o : Option Object). guarded_request guards 1 (session_named o) (codes "CREATE a") (has_only x) accounts) (there x)
    ∙ ap (λ (b : Option NamedBuffer). request_paid 1 b x (served (bytes_of_buffer b) (record x { account = cover guards x.account (accounts x.server) }) (codes "CREATE a")) (has_only x) accounts) (none x)

-- what the crawler's gives, and then the output for the reader's, and for both
abbrev first : Bool → GuardedOutcome
first guards = paid guards crawler shared_store.accounts

abbrev told_second : Bool → List ℕ
told_second guards = outcome_text (codes "reader") (paid guards reader (first guards).accounts).outcome ++ []

abbrev told_both : Bool → List ℕ
told_both guards = outcome_text (codes "crawler") (first guards).outcome ++ told_second guards

second : (guards : Bool) → guarded_transcript guards (with_outcome shared_store 2 (first guards)) (codes "reader call 1 CREATE a" ∷ []) ≡ told_second guards
second guards = ap (λ (o : GuardedOutcome). outcome_text (codes "reader") o.outcome ++ []) (is_paid guards reader (first guards).accounts)

both : (guards : Bool) → guarded_transcript guards shared_store (lines_of attack) ≡ told_both guards
both guards =
    ap (λ (o : GuardedOutcome). outcome_text (codes "crawler") o.outcome ++ guarded_transcript guards (with_outcome shared_store 2 o) (codes "reader call 1 CREATE a" ∷ []))
    (is_paid guards crawler shared_store.accounts)
    ∙ ap (λ (text : List ℕ). outcome_text (codes "crawler") (first guards).outcome ++ text) (second guards)

with_guards : told_both true ≡ codes "crawler: ERR OUT_OF_RAM\nreader: OK\n"
with_guards = refl

without_guards : told_both false ≡ codes "crawler: OK\nreader: ERR OUT_OF_RAM\n"
without_guards = refl

pub returns-clause-guarded : goal.returns-clause-guarded
returns-clause-guarded c = both true ∙ with_guards

pub returns-clause-unguarded : goal.returns-clause-unguarded
returns-clause-unguarded c = both false ∙ without_guards
