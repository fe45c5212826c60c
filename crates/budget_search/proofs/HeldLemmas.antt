-- What becomes of the selectors of a client that has one session alone.
use Rattle.std.proofs.lemmas.Bool.Decides.{nat_tests}
use Rattle.std.proofs.Common.{arith, ◌≡◌, ℕ, ◌<◌, Bool, true, false, true≢false, eqb, nat_cmp, cond, List, nat_lt, refl, sym, ap, ◌∙◌}
use Rattle.std.specs.Prelude.{Option, Some, None, is_some, codes, Ok}
use Rattle.std.specs.FinMap as map
use Rattle.std.specs.FinMap.{get, insert, remove}
use Rattle.std.specs.Option.{option_or}
use Rattle.std.specs.Str.{bytes_eq}
use Rattle.trade_base.specs.declared.refusal.Refusal.{Refusal}
use Rattle.trade_base.specs.declared.refusal.Refusal.TheVariants.{OutOfRam, OutOfCaps, InsufficientRamQuota, InsufficientCapQuota}
use Rattle.own_model.proofs.LentLemmas.{only_buffer, buffer_none}
use Rattle.own_model.proofs.NatMapLemmas.{natmaps, same, get-empty, get-insert, get-insert_same}
use Rattle.own_model.proofs.NewSelector.{new_selector_is}
use Rattle.own_model.specs.OwnState.{OwnState, Object, NamedBuffer, buffer_of, bytes_of_buffer, is_buffer_of, new_selector, session_named}
use Rattle.own_model.specs.OwnState.Object.{OpenSession, Buffer}
use Rattle.own_model.specs.OwnStep.{Outcome, unless, selectors_lent, session_called, session_served, session_closed, session_upgraded, session_opened, upgraded_by, opened_by}
use Rattle.own_model.specs.Reply.{reply_text}
use Rattle.own_model.specs.Session.{Session, Wish, Served, served, upgraded, new_session, too_small, session_ram, session_caps}
use Rattle.own_model.specs.SessionArgs.{Arguments}
use Rattle.own_model.specs.Table.{lacks_ram, lacks_caps}
use Rattle.budget_search.specs.OpenedSessions.{held, is_too_small}
use Rattle.budget_search.specs.RunLines.{RunLines, ended_by}
use Rattle.budget_search.specs.SessionLines.{donated_shortage, lines_opening, refused_line}

-- its buffer as it has it
abbrev pub named_of : Option (List ℕ) → Option NamedBuffer
named_of None = None
named_of (Some bytes) = Some (record { selector = 2; bytes = bytes })

pub bytes_back : (buffer : Option (List ℕ)) → bytes_of_buffer (named_of buffer) ≡ buffer
bytes_back None = refl
bytes_back (Some bytes) = refl

module _ (now : Session) where
  session_there : (buffer : Option (List ℕ)) → get (held now buffer) 1 ≡ Some (OpenSession now)
  session_there None = grind (arith, natmaps)
  session_there (Some bytes) = grind (arith, natmaps)

  pub named_there : (buffer : Option (List ℕ)) → session_named (get (held now buffer) 1) ≡ Some now
  named_there buffer = ap session_named (session_there buffer)

  -- without a buffer no selector names one
  one_by : (k : ℕ) (b : Bool) → is_buffer_of 1 (cond b (Some (OpenSession now)) (get (map.empty {R = nat_cmp}) k)) ≡ false
  one_by k true = refl
  one_by k false = ap (is_buffer_of 1) (get-empty k)

  no_other : (k : ℕ) → is_buffer_of 1 (get (held now None) k) ≡ false
  no_other k = ap (is_buffer_of 1) (get-insert map.empty 1 (OpenSession now) k) ∙ one_by k (eqb k 1)

  two_by : (bytes : List ℕ) (k : ℕ) (b : Bool) → eqb k 2 ≡ b → is_buffer_of 1 (cond b (Some (Buffer 1 bytes)) (get (held now None) k)) ≡ true → k ≡ 2
  two_by bytes k true at is = grind (arith, nat_tests, at)
  two_by bytes k false at is = absurd (true≢false (sym is ∙ no_other k))

  buffer_there : (buffer : Option (List ℕ)) → buffer_of 1 (held now buffer) ≡ named_of buffer
  buffer_there None = buffer_none 1 (held now None) no_other
  buffer_there (Some bytes) =
      only_buffer 1 (held now (Some bytes)) 2 bytes (get-insert_same (held now None) 2 (Buffer 1 bytes) 2 refl)
      (λ k is. two_by bytes k (eqb k 2) refl (sym (ap (is_buffer_of 1) (get-insert (held now None) 2 (Buffer 1 bytes) k)) ∙ is))

  first_only : (t : ℕ) → 0 < t → t < 2 → is_some (get (held now None) t) ≡ true
  first_only t positive below = let is : t ≡ 1 = grind arith in ap (λ k. is_some (get (held now None) k)) is ∙ ap is_some (session_there None)

  second : new_selector (held now None) ≡ 2
  second = new_selector_is (held now None) 2 (grind arith) (grind (arith, natmaps)) first_only

  -- a request
  pub served_map : (next : Session) (buffer new : Option (List ℕ)) → insert (selectors_lent 1 (named_of buffer) new (held now buffer)) 1 (OpenSession next) ≡ held next new
  served_map next None None = same _ _ (λ q. grind (arith, natmaps))
  served_map next None (Some bytes) =
      ap (λ k. insert (insert (held now None) k (Buffer 1 bytes)) 1 (OpenSession next)) second ∙ same _ _ (λ q. grind (arith, natmaps))
  served_map next (Some old) (Some bytes) = same _ _ (λ q. grind (arith, natmaps))
  served_map next (Some old) None = same _ _ (λ q. grind (arith, natmaps))

  -- more that is donated
  raised_map : (next : Session) (buffer : Option (List ℕ)) → insert (held now buffer) 1 (OpenSession next) ≡ held next buffer
  raised_map next None = same _ _ (λ q. grind (arith, natmaps))
  raised_map next (Some bytes) = same _ _ (λ q. grind (arith, natmaps))

  -- and the end
  closed_map : (buffer : Option (List ℕ)) → remove (selectors_lent 1 (named_of buffer) None (held now buffer)) 1 ≡ map.empty
  closed_map None = same _ _ (λ q. grind (arith, natmaps))
  closed_map (Some bytes) = same _ _ (λ q. grind (arith, natmaps))

first : new_selector (map.empty {X = Object} {R = nat_cmp}) ≡ 1
first = new_selector_is map.empty 1 (grind arith) (get-empty 1) (λ t positive below. absurd (grind arith))

-- ---- its calls

module _ (s : OwnState) (now : Session) (buffer : Option (List ℕ)) (has : s.selectors ≡ held now buffer) where
  named : session_named (get s.selectors 1) ≡ Some now
  named = ap (λ m. session_named (get m 1)) has ∙ named_there now buffer

  its_buffer : buffer_of 1 s.selectors ≡ named_of buffer
  its_buffer = ap (buffer_of 1) has ∙ buffer_there now buffer

  -- a request is served
  pub called : (request : List ℕ) → session_called 1 (session_named (get s.selectors 1)) request s ≡ session_served 1 (named_of buffer) (served buffer now request) s
  called request =
      ap (λ session. session_called 1 session request s) named
      ∙ ap (λ b. session_served 1 b (served (bytes_of_buffer b) now request) s) its_buffer
      ∙ ap (λ bytes. session_served 1 (named_of buffer) (served bytes now request) s) (bytes_back buffer)

  pub called_has : (o : Served) → (session_served 1 (named_of buffer) o s).next.selectors ≡ held o.session o.buffer
  called_has o = ap (λ m. insert (selectors_lent 1 (named_of buffer) o.buffer m) 1 (OpenSession o.session)) has ∙ served_map now o.session buffer o.buffer

  -- the session is closed
  pub closed : session_closed 1 (session_named (get s.selectors 1)) s ≡ session_closed 1 (Some now) s
  closed = ap (λ session. session_closed 1 session s) named

  pub closed_has : (session_closed 1 (Some now) s).next.selectors ≡ map.empty
  closed_has = (λ i. remove (selectors_lent 1 (its_buffer i) None (has i)) 1) ∙ closed_map now buffer

  -- more is donated, where that is told
  abbrev upgrading : Arguments → Bool → Bool → Outcome
  upgrading more u v = unless (cond u (Some OutOfRam) (cond v (Some OutOfCaps) None)) s (session_upgraded 1 now more s)

  upgraded_by_told : (more : Arguments) (u v : Bool) → bytes_eq (reply_text (upgrading more u v).reply) (codes "ok") ≡ true → upgrading more u v ≡ session_upgraded 1 now more s
  upgraded_by_told more true v is = absurd (true≢false (sym is))
  upgraded_by_told more false true is = absurd (true≢false (sym is))
  upgraded_by_told more false false is = refl

  pub raised : (more : Arguments) → bytes_eq (reply_text (upgraded_by 1 (session_named (get s.selectors 1)) (Some more) s).reply) (codes "ok") ≡ true →
      upgraded_by 1 (session_named (get s.selectors 1)) (Some more) s ≡ session_upgraded 1 now more s
  raised more is =
      ap (λ session. upgraded_by 1 session (Some more) s) named
      ∙ upgraded_by_told more (lacks_ram s.account more.ram) (lacks_caps s.account more.caps)
      (sym (ap (λ session. bytes_eq (reply_text (upgraded_by 1 session (Some more) s).reply) (codes "ok")) named) ∙ is)

  pub raised_has : (more : Arguments) → (session_upgraded 1 now more s).next.selectors ≡ held (upgraded now more.ram more.caps) buffer
  raised_has more = ap (λ m. insert m 1 (OpenSession (upgraded now more.ram more.caps))) has ∙ raised_map now (upgraded now more.ram more.caps) buffer

-- ---- its opening

module _ (s : OwnState) (none : s.selectors ≡ map.empty) (wish : Wish) where
  abbrev opening : Bool → Bool → Option Refusal → Outcome
  opening u v small = unless (option_or (cond u (Some OutOfRam) (cond v (Some OutOfCaps) None)) small) s (session_opened wish s)

  nothing_there : session_named (get s.selectors 1) ≡ None
  nothing_there = ap (λ m. session_named (get m 1)) none ∙ ap session_named (get-empty 1)

  -- a session is there: it was opened
  pub record Opens (small : Option Refusal) (o : Outcome) : Type 0 where
    pub enough : small ≡ None
    pub is : o ≡ session_opened wish s

  opens_by : (u v : Bool) (small : Option Refusal) → is_some (session_named (get (opening u v small).next.selectors 1)) ≡ true → Opens small (opening u v small)
  opens_by true v small there = absurd (true≢false (sym there ∙ ap is_some nothing_there))
  opens_by false true small there = absurd (true≢false (sym there ∙ ap is_some nothing_there))
  opens_by false false (Some refusal) there = absurd (true≢false (sym there ∙ ap is_some nothing_there))
  opens_by false false None there = record { enough = refl; is = refl }

  pub opens : is_some (session_named (get (opened_by (Ok wish) s).next.selectors 1)) ≡ true → Opens (too_small wish.ram wish.caps) (opened_by (Ok wish) s)
  opens there = opens_by (lacks_ram s.account wish.ram) (lacks_caps s.account wish.caps) (too_small wish.ram wish.caps) there

  pub opened_has : (session_opened wish s).next.selectors ≡ held (new_session wish) None
  opened_has = ap (λ m. insert m (new_selector m) (OpenSession (new_session wish))) none ∙ ap (λ k. insert map.empty k (OpenSession (new_session wish))) first

  -- none is there, and it is told that the donation is too small: it is, and nothing has changed
  pub record TooSmall (small : Option Refusal) (o : Outcome) : Type 0 where
    pub few : is_some small ≡ true
    pub is : o.next ≡ s
    pub shows : (line : ℕ) (rest : RunLines) → ended_by (refused_line line (donated_shortage (reply_text o.reply))) ≡ lines_opening line small rest

  small_by : (u v x y : Bool) → is_some (session_named (get (opening u v (cond x (Some InsufficientRamQuota) (cond y (Some InsufficientCapQuota) None))).next.selectors 1)) ≡ false →
      is_too_small (reply_text (opening u v (cond x (Some InsufficientRamQuota) (cond y (Some InsufficientCapQuota) None))).reply) ≡ true →
      TooSmall (cond x (Some InsufficientRamQuota) (cond y (Some InsufficientCapQuota) None)) (opening u v (cond x (Some InsufficientRamQuota) (cond y (Some InsufficientCapQuota) None)))
  small_by true v x y out told = absurd (true≢false (sym told))
  small_by false true x y out told = absurd (true≢false (sym told))
  small_by false false true y out told = record { few = refl; is = refl; shows = λ line rest. refl }
  small_by false false false true out told = record { few = refl; is = refl; shows = λ line rest. refl }
  small_by false false false false out told =
      absurd (true≢false (sym (ap (λ m. is_some (session_named (get m 1))) opened_has ∙ ap is_some (named_there (new_session wish) None)) ∙ out))

  pub small_told : is_some (session_named (get (opened_by (Ok wish) s).next.selectors 1)) ≡ false → is_too_small (reply_text (opened_by (Ok wish) s).reply) ≡ true →
      TooSmall (too_small wish.ram wish.caps) (opened_by (Ok wish) s)
  small_told out told =
      small_by (lacks_ram s.account wish.ram) (lacks_caps s.account wish.caps) (nat_lt wish.ram session_ram) (nat_lt wish.caps session_caps) out told
