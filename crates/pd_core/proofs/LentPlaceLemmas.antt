-- There is a place for what sessions lend: a component has no more buffers than sessions that lend.
use Rattle.std.proofs.Common.{◌≡◌, ℕ, ◌+◌, ◌≤◌, Some, IsSome, refl, sym, ap, ◌∙◌, arith}
use Rattle.std.proofs.lemmas.Option.{none-some, same_Some}
use Rattle.std.specs.Prelude.{Option, None}
use Rattle.std.specs.Option.{option_map, option_and_then, unwrap_or}
use Rattle.std.specs.FinMap.{get}
use Rattle.own_model.specs.NatMap.{NatMap, picked, total}
use Rattle.own_model.specs.Session.{Labelled}
use Rattle.own_model.proofs.NatMapSums.{owed_once}
use Rattle.own_model.proofs.NatMapLemmas.{get-picked}
use Rattle.own_model.proofs.Totals.{total-picked, total-add, total_same, total_owed_le}
use Rattle.cap_space.specs.declared.cap.Cap.{Cap}
use Rattle.cap_space.specs.declared.cap.Cap.TheVariants.{Dataspace, RpcObject, Session, Buffer}
use Rattle.server_frame.specs.Frame.{Row}
use Rattle.pd_core.specs.Component.{caps_in, lent_by, NamesItsSessions}
use Rattle.pd_core.specs.Sound.{session_at, buffer_at, session_weight, lent_weight, IsOne}
use Rattle.pd_core.specs.declared.component.Role.{Role}
use Rattle.pd_core.proofs.ScriptNameLemmas.{buffer_key}

-- what counts the sessions alone, those that lend, and the buffers
abbrev pub alone_weight : Cap → ℕ
alone_weight (Dataspace ds) = 0
alone_weight RpcObject = 0
alone_weight (Session server session) = 1
alone_weight (Buffer space session) = 0

abbrev pub lending_weight : (ℕ → NatMap (Row Labelled)) → Cap → ℕ
lending_weight rows cap = lent_weight (lent_by rows (session_at (Some cap)))

abbrev buffer_weight : Cap → ℕ
buffer_weight cap = unwrap_or (option_map (λ (b : ℕ × ℕ). 1) (buffer_at (Some cap))) 0

-- what is lent counts for one at most
pub lent_once : (o : Option ℕ) → lent_weight o ≤ 1
lent_once None = omega arith
lent_once (Some key) = omega arith

-- a selector pays for sessions or for buffers
by_kind : (cap : Cap) → session_weight cap ≡ alone_weight cap + buffer_weight cap
by_kind (Dataspace ds) = refl
by_kind RpcObject = refl
by_kind (Session server session) = refl
by_kind (Buffer space session) = refl

-- a buffer among capabilities
buffer_there : (o : Option Cap) → option_and_then (λ cap. buffer_at (Some cap)) o ≡ buffer_at o
buffer_there None = refl
buffer_there (Some cap) = refl

module _ (rows : ℕ → NatMap (Row Labelled)) where
  -- who lends is there
  lends_some : (o : Option Cap) (key : ℕ) → lent_by rows (session_at o) ≡ Some key → IsSome o
  lends_some None key is = absurd (none-some key is)
  lends_some (Some cap) key is = refl

  module _ (role : Role) (named : NamesItsSessions rows role) (one : IsOne (caps_in role)) where
    abbrev caps : NatMap Cap
    caps = caps_in role

    abbrev buffers : NatMap (ℕ × ℕ)
    buffers = picked (λ cap. buffer_at (Some cap)) (caps_in role)

    its : (j : ℕ) (b : ℕ × ℕ) → get buffers j ≡ Some b → buffer_at (get caps j) ≡ Some b
    its j b there = sym (buffer_there (get caps j)) ∙ sym (get-picked (λ cap. buffer_at (Some cap)) caps j) ∙ there

    lends : (j : ℕ) (b : ℕ × ℕ) → get buffers j ≡ Some b → lent_by rows (session_at (get caps b.0)) ≡ Some b.1
    lends j b there = named.lent j b.0 b.1 (its j b there)

    -- a session has one buffer at most
    only : (d e : ℕ) (b c : ℕ × ℕ) → get buffers d ≡ Some b → get buffers e ≡ Some c → b.0 ≡ c.0 → d ≡ e
    only d e b c first second same =
        let key : b.1 ≡ c.1 = same_Some b.1 c.1 (sym (lends d b first) ∙ ap (λ q. lent_by rows (session_at (get caps q))) same ∙ lends e c second) in
        one d e b.1 (buffer_key (get caps d) b.0 b.1 (its d b first)) (buffer_key (get caps e) c.0 b.1 (its e c second ∙ ap (λ k. Some (c.0, k)) (sym key)))

    -- and lends, where it has one
    paid : (q : ℕ) (cap : Cap) → get caps q ≡ Some cap → (j : ℕ) (b : ℕ × ℕ) → get buffers j ≡ Some b → b.0 ≡ q → 1 ≤ lending_weight rows cap
    paid q cap there j b at is =
        let lent : lent_by rows (session_at (Some cap)) ≡ Some b.1 = ap (λ o. lent_by rows (session_at o)) (sym there) ∙ ap (λ n. lent_by rows (session_at (get caps n))) (sym is) ∙ lends j b at in
        omega (arith, ap lent_weight lent)

    fewer : total buffer_weight caps ≤ total (lending_weight rows) caps
    fewer =
        let counted = total-picked (λ (b : ℕ × ℕ). 1) (λ cap. buffer_at (Some cap)) caps in
        let all = total_owed_le (λ (b : ℕ × ℕ). 1) (λ b. b.0) (lending_weight rows) buffers caps
        (λ j b there. lends_some (get caps b.0) b.1 (lends j b there))
        (λ q cap there. owed_once (λ (b : ℕ × ℕ). 1) (λ b. b.0) buffers q (lending_weight rows cap) (λ j b at is. paid q cap there j b at is)
        (λ d e b c first second is too. only d e b c first second (is ∙ sym too))) in
        omega (arith, counted, all)

    -- so what sessions pay for is counted by sessions
    pub counted_by_sessions : total session_weight caps ≤ total (λ cap. alone_weight cap + lending_weight rows cap) caps
    counted_by_sessions =
        let split = total_same session_weight (λ cap. alone_weight cap + buffer_weight cap) caps (λ k cap there. by_kind cap) in
        let parts = total-add alone_weight buffer_weight caps in
        let others = total-add alone_weight (lending_weight rows) caps in
        omega (arith, split, parts, others, fewer)
