-- The rows of an account list, one after another.
use Rattle.std.proofs.Common.{◌≡◌, ℕ, zero, suc, ◌+◌, ◌-◌, ◌<◌, ◌≤◌, Bool, List, [], ◌∷◌, ◌++◌, map, append-nil, Option, Some, None, refl, sym, ◌∙◌, ap, arith}
use Rattle.std.proofs.lemmas.List.{map_push}
use Rattle.std.specs.Prelude.{◌||◌, is_some, nat_lt, if◌then◌else◌}
use Rattle.own_model.specs.Account.{Account}
use Rattle.own_model.specs.AccountList.{is_told}
use Rattle.own_model.specs.Amounts.{Amounts}
use Rattle.own_model.specs.Listed.{Listed}
use Rattle.own_model.specs.OwnState.{session_named}
use Rattle.own_model.specs.Session.{Session}
use Rattle.own_model.specs.StartList.{Entry}
use Rattle.own_model.specs.Transcript.{state_at}
use Rattle.own_model.specs.World.{World}
use Rattle.run_lines.proofs.ComponentLines.{IsPrinted, IsUnprinted, printed_if_any, unprinted_if_none}
use Rattle.std.specs.FinMap.{get}
use Rattle.std.specs.Option.{option_map}
use Rattle.view_accounts.specs.Needs.{Needed}
use Rattle.view_accounts.specs.Peaks.{Noted}
use Rattle.view_accounts.specs.Rows.{AccountView, AccountsView, ComponentView, SessionView}
use Rattle.view_accounts.specs.RunRows.{Measures, entries_in, in_turn, name_at, open_row, reserve_row, session_row, session_rows}

module _ {X : Type 0} (f : ℕ → List X) where
  pub in_turn-none : in_turn f 0 ≡ []
  unfolding in_turn
  in_turn-none = refl

  -- one number more
  pub in_turn-more : (n : ℕ) → in_turn f (n + 1) ≡ in_turn f n ++ f n
  unfolding in_turn
  in_turn-more n = let next : n + 1 ≡ suc n = omega arith in ap (in_turn f) next

  -- numbers that give nothing
  in_turn-past : (n k : ℕ) → ((j : ℕ) → n ≤ j → f j ≡ []) → in_turn f (n + k) ≡ in_turn f n
  in_turn-past n zero none = let same : n + zero ≡ n = omega arith in ap (in_turn f) same
  in_turn-past n (suc k) none =
      let next : n + suc k ≡ n + k + 1 = omega arith in
      let nothing : f (n + k) ≡ [] = none (n + k) (omega arith) in
      ap (in_turn f) next ∙ in_turn-more (n + k) ∙ ap (λ l. in_turn f (n + k) ++ l) nothing ∙ append-nil (in_turn f (n + k)) ∙ in_turn-past n k none

  pub in_turn-all : (n m : ℕ) → n ≤ m → ((j : ℕ) → n ≤ j → f j ≡ []) → in_turn f n ≡ in_turn f m
  in_turn-all n m within none = let parts : n + (m - n) ≡ m = omega (arith, within) in sym (in_turn-past n (m - n) none) ∙ ap (in_turn f) parts

-- two functions that give the same for the numbers below one
pub in_turn-alike : {X : Type 0} (f g : ℕ → List X) (n : ℕ) → ((j : ℕ) → j < n → f j ≡ g j) → in_turn f n ≡ in_turn g n
in_turn-alike f g zero same = in_turn-none f ∙ sym (in_turn-none g)
in_turn-alike f g (suc n) same =
    let next : suc n ≡ n + 1 = omega arith in
    ap (in_turn f) next ∙ in_turn-more f n
    ∙ (λ i. in_turn-alike f g n (λ j less. same j (omega (arith, less))) i ++ same n (omega arith) i)
    ∙ sym (in_turn-more g n) ∙ ap (in_turn g) (sym next)

-- a row more, of one number more
pub pushed : {X Y : Type 0} (shown : X → Y) (f : ℕ → List Y) (n : ℕ) (rows rows' : List X) (row : X) → map shown rows ≡ in_turn f n → rows' ≡ rows ++ row ∷ [] → shown row ∷ [] ≡ f n →
    map shown rows' ≡ in_turn f (n + 1)
pushed shown f n rows rows' row were is shows =
    ap (map shown) is ∙ map_push shown rows row ∙ (λ i. were i ++ shows i) ∙ sym (in_turn-more f n)

pub added_rows : {X Y : Type 0} (shown : X → Y) (f : ℕ → List Y) (n : ℕ) (rows rows' : List X) → map shown rows ≡ in_turn f n → map shown rows' ≡ map shown rows ++ f n →
    map shown rows' ≡ in_turn f (n + 1)
added_rows shown f n rows rows' were is = is ∙ ap (λ l. l ++ f n) were ∙ sym (in_turn-more f n)

-- ---- reserves

module _ (listed : Option Amounts) (kept : Amounts) {given : Bool} (reserve : Amounts) (given_is : given ≡ is_some listed) (reserve_is : reserve ≡ kept) where
  told_is : is_told listed kept ≡ (given || nat_lt 0 reserve.ram || nat_lt 0 reserve.caps)
  told_is = λ j. sym given_is j || nat_lt 0 (sym reserve_is j).ram || nat_lt 0 (sym reserve_is j).caps

  -- a reserve is shown if it is given, or has RAM or capabilities
  pub reserve_is_shown : IsPrinted given reserve → Some reserve ≡ reserve_row listed kept
  reserve_is_shown some =
      ap Some reserve_is ∙ sym (ap (λ b. if b then Some kept else None) (told_is ∙ printed_if_any given reserve some))

  -- and not if there is nothing of it
  pub reserve_is_hidden : IsUnprinted given reserve → None ≡ reserve_row listed kept
  reserve_is_hidden none = sym (ap (λ b. if b then Some kept else None) (told_is ∙ unprinted_if_none given reserve none))

-- ---- sessions

-- a selector that names nothing has no row
pub no_session : (listed : Listed) (measures : Measures) (world : World) (component selector : ℕ) → get (state_at world.states component).selectors selector ≡ None →
    session_rows listed measures world component selector ≡ []
no_session listed measures world component selector none =
    ap (λ o. open_row (entries_in listed) (measures.needs.session component selector) component selector (option_map (λ (s : Session). s.account) (session_named o))
    (measures.noted component selector)) none

module _ (entries : List Entry) (needed : Needed) (component selector : ℕ) (rows : List SessionView) where
  -- no session has no row
  pub none_open : (account : Option Account) (noted : Option Noted) → None ≡ account → rows ≡ rows ++ open_row entries needed component selector account noted
  none_open account noted is = sym (append-nil rows) ∙ ap (λ o. rows ++ open_row entries needed component selector o noted) is

  -- nor one without values
  pub none_noted : (account : Option Account) (noted : Option Noted) → None ≡ noted → rows ≡ rows ++ open_row entries needed component selector account noted
  none_noted account noted is = sym (append-nil rows) ∙ ap (λ l. rows ++ l) (by account) ∙ ap (λ o. rows ++ open_row entries needed component selector account o) is
    where
      by : (account : Option Account) → [] ≡ open_row entries needed component selector account None
      by (Some account) = refl
      by None = refl

-- the row of an open session with values is added
pub added_open : {X : Type 0} (shown : X → SessionView) (entries : List Entry) (component selector : ℕ) (rows rows' : List X) (row : X) (a : Account) (n : Noted) (kept needed : Needed) (account : Option Account) (noted : Option Noted) → rows' ≡ rows ++ row ∷ [] → shown row ≡ session_row entries component selector (Some a) kept n → kept ≡ needed → Some a ≡ account → Some n ≡ noted →
    map shown rows' ≡ map shown rows ++ open_row entries needed component selector account noted
added_open shown entries component selector rows rows' row a n kept needed account noted is row_is needed_is account_is noted_is =
    ap (map shown) is ∙ map_push shown rows row ∙ ap (λ r. map shown rows ++ r ∷ []) row_is
    ∙ (λ i. map shown rows ++ open_row entries (needed_is i) component selector (account_is i) (noted_is i))

-- ---- rows by their parts

abbrev pub account_of : List ℕ → Account → Needed → Amounts → AccountView
account_of name account needed peak = record { name = name; account = account; needed = needed; peak = peak }

abbrev pub session_of : ℕ → List ℕ → ℕ → Option Account → Needed → Amounts → List ℕ → List ℕ → SessionView
session_of component name selector account needed peak server label = record {
  component = component;
  name = name;
  selector = selector;
  account = account;
  needed = needed;
  peak = peak;
  server = server;
  label = label;
}

abbrev pub component_of : AccountView → Option Amounts → List SessionView → ComponentView
component_of account reserve sessions = record { account = account; reserve = reserve; sessions = sessions }

abbrev pub accounts_of : AccountView → List ComponentView → Amounts → List SessionView → AccountsView
accounts_of init components total closed = record { init = init; components = components; total = total; closed = closed }

pub account_made : (name name' : List ℕ) (account account' : Account) (needed needed' : Needed) (peak peak' : Amounts) → name ≡ name' → account ≡ account' → needed ≡ needed' → peak ≡ peak' →
    account_of name account needed peak ≡ account_of name' account' needed' peak'
account_made name name' account account' needed needed' peak peak' a b c d = λ i. record { name = a i; account = b i; needed = c i; peak = d i }

pub component_made : (account account' : AccountView) (reserve reserve' : Option Amounts) (sessions sessions' : List SessionView) → account ≡ account' → reserve ≡ reserve' → sessions ≡ sessions' →
    component_of account reserve sessions ≡ component_of account' reserve' sessions'
component_made account account' reserve reserve' sessions sessions' a b c = λ i. record { account = a i; reserve = b i; sessions = c i }

pub rows_made : (init init' : AccountView) (components components' : List ComponentView) (ram ram' caps caps' : ℕ) (closed closed' : List SessionView) → init ≡ init' → components ≡ components' →
    ram ≡ ram' → caps ≡ caps' → closed ≡ closed' →
    accounts_of init components (record { ram = ram; caps = caps }) closed ≡ accounts_of init' components' (record { ram = ram'; caps = caps' }) closed'
rows_made init init' components components' ram ram' caps caps' closed closed' a b c d e = λ i. record { init = a i; components = b i; total = record { ram = c i; caps = d i }; closed = e i }

-- a session by its name, its server and its label
pub session_made : (entries : List Entry) (component selector : ℕ) (account : Option Account) (needed : Needed) (noted : Noted) (name server label : List ℕ) → name ≡ name_at entries (Some component) →
    server ≡ name_at entries noted.server → label ≡ noted.label →
    session_of component name selector account needed noted.peak server label ≡ session_row entries component selector account needed noted
session_made entries component selector account needed noted name server label a b c = λ i. record {
  component = component;
  name = a i;
  selector = selector;
  account = account;
  needed = needed;
  peak = noted.peak;
  server = b i;
  label = c i;
}
