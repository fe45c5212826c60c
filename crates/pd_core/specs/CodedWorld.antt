-- How a world is stored as a model's value.
use Rattle.std.specs.Prelude.{◌≡◌, ℕ, Bool, true, false, List, Option, Some, None, ◌⊎◌}
use Rattle.std.proofs.Common.{refl, inl, inr}
use Rattle.std.specs.Coded.{Coded, code_by, coded×, coded_ℕ, coded_bool, coded_list, coded_option, coded⊎}
use Rattle.std.specs.FinMap as map
use Rattle.own_model.specs.NatMap.{NatMap}
use Rattle.own_model.specs.Account.{Account, coded_account}
use Rattle.own_model.specs.Amounts.{Amounts, coded_amounts}
use Rattle.own_model.specs.OwnHeap.{OwnHeap, coded_heap}
use Rattle.own_model.specs.OwnState.{OwnState, Object}
use Rattle.own_model.specs.OwnState.Object.{Dataspace, RpcObject, OpenSession, Buffer}
use Rattle.own_model.specs.CodedSession.{coded_level, coded_session}
use Rattle.own_model.specs.Routes.{Level}
use Rattle.own_model.specs.Session.{Session}
use Rattle.own_model.specs.StartList.{Entry, Kind}
use Rattle.own_model.specs.StartList.Kind.{Script, Server, Init}
use Rattle.own_model.specs.World.{World}
use Rattle.own_model.specs.Region.{Region}
use Rattle.region_map.specs.Regions.{coded_region}

-- an object is stored as its bytes, if it has any, as a session, or as a buffer's session and bytes
abbrev pub object_parts : Object → Option (List ℕ) ⊎ (Session ⊎ (ℕ × List ℕ))
object_parts (Dataspace bytes) = inl (Some bytes)
object_parts RpcObject = inl None
object_parts (OpenSession session) = inr (inl session)
object_parts (Buffer session bytes) = inr (inr (session, bytes))

abbrev pub object_from : Option (List ℕ) ⊎ (Session ⊎ (ℕ × List ℕ)) → Object
object_from (inl (Some bytes)) = Dataspace bytes
object_from (inl None) = RpcObject
object_from (inr (inl session)) = OpenSession session
object_from (inr (inr buffer)) = Buffer buffer.0 buffer.1

abbrev pub object_back : (o : Object) → object_from (object_parts o) ≡ o
object_back (Dataspace bytes) = refl
object_back RpcObject = refl
object_back (OpenSession session) = refl
object_back (Buffer session bytes) = refl

abbrev pub coded_object : Coded Object
coded_object =
    code_by
    (Option (List ℕ) ⊎ (Session ⊎ (ℕ × List ℕ)))
    (coded⊎ (coded_option (coded_list coded_ℕ)) (coded⊎ coded_session (coded× coded_ℕ (coded_list coded_ℕ))))
    object_parts object_from object_back

-- a kind is stored as whether it is a script, if it is no init
abbrev pub kind_code : Kind → Option Bool
kind_code Script = Some true
kind_code Server = Some false
kind_code Init = None

abbrev pub kind_from : Option Bool → Kind
kind_from (Some true) = Script
kind_from (Some false) = Server
kind_from None = Init

abbrev pub kind_back : (k : Kind) → kind_from (kind_code k) ≡ k
kind_back Script = refl
kind_back Server = refl
kind_back Init = refl

abbrev pub coded_kind : Coded Kind
coded_kind = code_by (Option Bool) (coded_option coded_bool) kind_code kind_from kind_back

-- the records are stored as the tuples of their fields
abbrev pub coded_entry : Coded Entry
coded_entry =
    code_by
    (List ℕ × (List ℕ × (Kind × (ℕ × List Level))))
    (coded× (coded_list coded_ℕ) (coded× (coded_list coded_ℕ) (coded× coded_kind (coded× coded_ℕ (coded_list coded_level)))))
    (λ e. (e.name, (e.label, (e.kind, (e.home, e.routes)))))
    (λ p. record { name = p.0; label = p.1.0; kind = p.1.1.0; home = p.1.1.1.0; routes = p.1.1.1.1 })
    (λ _. refl)

abbrev pub coded_own_state : Coded OwnState
coded_own_state =
    code_by
    (Account × (Amounts × (NatMap Object × (NatMap Region × (OwnHeap × (NatMap (List ℕ) × Bool))))))
    (coded× coded_account (coded× coded_amounts (coded× (map.code coded_ℕ coded_object) (coded× (map.code coded_ℕ coded_region)
    (coded× coded_heap (coded× (map.code coded_ℕ (coded_list coded_ℕ)) coded_bool))))))
    (λ s. (s.account, (s.reserve, (s.selectors, (s.regions, (s.heap, (s.sliced, s.gone)))))))
    (λ p. record {
      account = p.0;
      reserve = p.1.0;
      selectors = p.1.1.0;
      regions = p.1.1.1.0;
      heap = p.1.1.1.1.0;
      sliced = p.1.1.1.1.1.0;
      gone = p.1.1.1.1.1.1;
    })
    (λ _. refl)

abbrev pub coded_world : Coded World
coded_world =
    code_by
    (List Entry × (List Account × List OwnState))
    (coded× (coded_list coded_entry) (coded× (coded_list coded_account) (coded_list coded_own_state)))
    (λ w. (w.entries, (w.inits, w.states)))
    (λ p. record { entries = p.0; inits = p.1.0; states = p.1.1 })
    (λ _. refl)
