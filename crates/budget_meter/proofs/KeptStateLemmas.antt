-- What a meter knows of a session's files or objects, after a request.
use Rattle.std.proofs.Common.{◌≡◌, ℕ, ◌<◌, ◌^◌, List, [], refl, sym, ap, ◌∙◌, subst}
use Rattle.std.specs.Prelude.{Option, Some, None}
use Rattle.std.specs.Option.{option_map}
use Rattle.own_model.specs.ObjectSession.{HoldingRequest, holding_request}
use Rattle.own_model.specs.OwnState.{NamedBuffer, bytes_of_buffer}
use Rattle.own_model.specs.OwnStep.{completed}
use Rattle.own_model.specs.Offer.{Offer}
use Rattle.own_model.specs.Offer.Offer.{OffersLog, OffersFiles, OffersObjects}
use Rattle.own_model.specs.Session.{ServiceState, Session, Served, served_by, state_at_first}
use Rattle.own_model.specs.Services.{offer_of}
use Rattle.own_model.specs.Services.ServiceState.{Filing, Holding, Logging}
use Rattle.object_kinds.specs.Offered.{offered_kinds}
use Rattle.budget_theorems.specs.Request.{tests_by, shows_session_short}
use Rattle.budget_meter.specs.KeptState.{HasNoObjects, KeepsState, heap_shape}
use Rattle.budget_meter.specs.ObjectSizes.{KnownObjects, known_of, new_known}
use Rattle.budget_meter.specs.ObjectTests.{object_growth, object_tests, sizes_after}
use Rattle.budget_meter.specs.RequestTests.{files_in}
use Rattle.budget_meter.specs.Sizes.{Keeps}
use Rattle.budget_meter.specs.declared.file_sizes.FileSizes.{FileSizes}
use Rattle.budget_meter.proofs.ObjectToldLemmas.{TellsObjects, holding_told}
use Rattle.budget_meter.proofs.ToldLemmas.{TellsSession, told_in}

-- ---- of files, or of a log

pub no_objects_in : (sizes : FileSizes) (state : ServiceState) → KeepsState sizes None state → HasNoObjects state
no_objects_in sizes (Logging partial) kept = tt
no_objects_in sizes (Filing files) kept = tt
no_objects_in sizes (Holding kinds objects) kept = kept

pub sizes_in : (sizes : FileSizes) (state : ServiceState) → KeepsState sizes None state → Keeps sizes (files_in state).files
sizes_in sizes (Logging partial) kept = kept
sizes_in sizes (Filing files) kept = kept
sizes_in sizes (Holding kinds objects) kept = absurd kept

pub shape_in : (state : ServiceState) → HasNoObjects state → heap_shape state ≡ (files_in state).shape
shape_in (Logging partial) none = refl
shape_in (Filing files) none = refl
shape_in (Holding kinds objects) none = absurd none

module _ (session : Session) (buffer : Option (List ℕ)) (request : List ℕ) where
  abbrev state_after : ServiceState → ServiceState
  state_after state = (served_by state buffer session request).session.state

  pub no_objects_after : (state : ServiceState) → HasNoObjects state → HasNoObjects (state_after state)
  no_objects_after (Logging partial) none = tt
  no_objects_after (Filing files) none = tt
  no_objects_after (Holding kinds objects) none = absurd none

  pub sizes_after_request : (sizes : FileSizes) (state : ServiceState) → HasNoObjects state → Keeps sizes (files_in (state_after state)).files → KeepsState sizes None (state_after state)
  sizes_after_request sizes (Logging partial) none keeps = keeps
  sizes_after_request sizes (Filing files) none keeps = keeps
  sizes_after_request sizes (Holding kinds objects) none keeps = absurd none

-- ---- of objects

-- what its client is told of a request tells what that tests, how far the heap of nodes grows, and what becomes of the objects
pub record TellsHolding (request : List ℕ) (buffer : Option NamedBuffer) (session : Session) (state : ServiceState) (sizes : FileSizes) (known : KnownObjects) (reply : List ℕ) (o : Served) : Type 0 where
  pub tests : object_tests (holding_request request) reply session.account o.session.account known (heap_shape state) ≡ tests_by state (bytes_of_buffer buffer) session.account request
  pub growth : object_growth (holding_request request) reply session.account o.session.account known (heap_shape state) ≡ (heap_shape o.session.state).growth
  pub kept : KeepsState sizes (Some (record known { objects = sizes_after known.kinds (holding_request request) reply known.objects })) o.session.state
  pub short : shows_session_short reply ≡ shows_session_short o.reply

module _ (request : List ℕ) (buffer : Option NamedBuffer) (session : Session) (few : session.account.ram_limit < 2 ^ 64) (selector : ℕ) (sizes : FileSizes) where
  abbrev served_so : ServiceState → Served
  served_so state = served_by state (bytes_of_buffer buffer) session request

  abbrev reply_of : ServiceState → List ℕ
  reply_of state = completed buffer (served_so state).buffer selector (served_so state).reply

  pub holding_told_in : (known : KnownObjects) (state : ServiceState) → KeepsState sizes (Some known) state → TellsHolding request buffer session state sizes known (reply_of state) (served_so state)
  holding_told_in known (Logging partial) kept = absurd kept
  holding_told_in known (Filing files) kept = absurd kept
  holding_told_in known (Holding kinds objects) kept =
      let tells = holding_told kinds objects session.account few selector buffer (holding_request request) in
      let state : ServiceState = Holding kinds objects in
      subst (λ k. TellsHolding request buffer session state sizes k (reply_of state) (served_so state)) (sym kept)
      (record {
        tests = tells.tests;
        growth = tells.growth;
        kept = λ i. record { kinds = kinds; objects = sym tells.sizes i };
        short = tells.short;
      })

  -- a request is short of quota as its client is told
  pub short_told_in : (objects : Option KnownObjects) (state : ServiceState) → KeepsState sizes objects state → shows_session_short (reply_of state) ≡ shows_session_short (served_so state).reply
  short_told_in (Some known) state kept = (holding_told_in known state kept).short
  short_told_in None state kept = (told_in request buffer session few selector state (no_objects_in sizes state kept)).short

-- ---- at first

abbrev pub known_at_first : Offer → Option KnownObjects
known_at_first offer = option_map new_known (offered_kinds (offer_of (state_at_first offer)))

pub kept_at_first : (sizes : FileSizes) (offer : Offer) → Keeps sizes [] → KeepsState sizes (known_at_first offer) (state_at_first offer)
kept_at_first sizes OffersLog none = none
kept_at_first sizes OffersFiles none = none
kept_at_first sizes (OffersObjects kinds) none = refl

pub growth_at_first : (offer : Offer) → 4 ≡ (heap_shape (state_at_first offer)).growth
growth_at_first OffersLog = refl
growth_at_first OffersFiles = refl
growth_at_first (OffersObjects kinds) = refl
