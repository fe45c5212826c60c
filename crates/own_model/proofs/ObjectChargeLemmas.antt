-- What objects are charged, the limits and the use of their account after requests.
use Rattle.std.proofs.Common.{◌≡◌, ℕ, ◌+◌, ◌*◌, ◌==◌, Bool, true, false, cond, not, List, Some, refl, sym, ap, arith}
use Rattle.std.proofs.lemmas.List.Sums.{sum_by_push}
use Rattle.std.proofs.lemmas.Option.{none-some}
use Rattle.std.specs.Prelude.{Option, None}
use Rattle.std.specs.Option.{option_map}
use Rattle.trade_base.specs.Page.{is_valid_size}
use Rattle.trade_base.specs.declared.refusal.Refusal.{Refusal}
use Rattle.own_model.proofs.NodeChargeLemmas.{given_charged, block_charged, block_within}
use Rattle.own_model.proofs.NodeListLemmas.{sum-with, sum-without}
use Rattle.own_model.proofs.ObjectRequestLemmas.{KeptByObjectRequests, request_kept, shared_none, block_of_kind}
use Rattle.own_model.proofs.StepLemmas.{covers}
use Rattle.own_model.specs.Account.{Account, Fits, WithinLimits, shortage}
use Rattle.own_model.specs.FileService.{error_of}
use Rattle.own_model.specs.FileText.FileError.{InvalidSize}
use Rattle.own_model.specs.Growth.{hole_for}
use Rattle.own_model.specs.Nodes.{content_ram, content_caps}
use Rattle.own_model.specs.ObjectKinds.{ObjectKind}
use Rattle.own_model.specs.ObjectService.{Objects, DeclaredObject, AreCharged, is_named, contents, with_units, contents_refusal}
use Rattle.own_model.specs.ObjectText.{ObjectError, object_request}
use Rattle.own_model.specs.ObjectText.ObjectError.{Shared}
use Rattle.own_model.specs.ObjectTheorems.{RequestsKeepObjectCharges, RequestsKeepObjectLimits, RequestsKeepObjectsWithinLimits}
use Rattle.own_model.specs.Sliced.{sliced_header, sliced_size}

-- ---- charges

-- the bytes and the capability of an object's contents
abbrev ram_of : DeclaredObject → ℕ
ram_of object = content_ram (contents object)

abbrev caps_of : DeclaredObject → ℕ
caps_of object = content_caps (contents object)

-- no units are charged nothing
no_units : (bytes : ℕ) → (content_ram (0 * bytes) ≡ 0) × (content_caps (0 * bytes) ≡ 0)
no_units bytes = let none : 0 * bytes ≡ 0 = omega arith in (ap content_ram none, ap content_caps none)

module _ (ram caps : ℕ) (kinds : List ObjectKind) where
  pub charges_kept : (objects : Objects) (account : Account) → AreCharged ram caps objects account → KeptByObjectRequests kinds (AreCharged ram caps) objects account
  charges_kept objects account h = record {
    makes = λ kind name offered is free accepted.
        let taken = block_of_kind kind objects account in
        let new : DeclaredObject = record { name = name; kind = kind; units = 0; chunk = taken.spot.chunk; offset = taken.spot.offset } in
        let block = block_charged kind.block (hole_for kind.block objects.shape) objects.shape account in
        record {
          ram = omega (arith, h.ram, block.ram, sum_by_push ram_of objects.objects new, (no_units kind.bytes).0);
          caps = omega (arith, h.caps, block.caps, sum_by_push caps_of objects.objects new, (no_units kind.bytes).1);
        };
    resizes = λ object units there accepted. record {
      ram = omega (arith, h.ram, sum-with (is_named object.name) (with_units units) ram_of objects.objects object there);
      caps = omega (arith, h.caps, sum-with (is_named object.name) (with_units units) caps_of objects.objects object there);
    };
    drops = λ object there.
        let heap = given_charged object.chunk object.offset objects.shape in
        record {
          ram = omega (arith, h.ram, sum-without (is_named object.name) ram_of objects.objects object there, heap.0);
          caps = omega (arith, h.caps, sum-without (is_named object.name) caps_of objects.objects object there, heap.1);
        };
  }

pub charges_stay : RequestsKeepObjectCharges
charges_stay ram caps kinds objects account text h = request_kept kinds (AreCharged ram caps) objects account h (charges_kept ram caps kinds objects account h) (object_request text)

-- ---- limits

module _ (kinds : List ObjectKind) (account : Account) where
  -- an account with the same limits
  abbrev pub SameLimits : Objects → Account → Type 0
  SameLimits objects other = (other.ram_limit ≡ account.ram_limit) × (other.caps_limit ≡ account.caps_limit)

  pub limits_kept : (objects : Objects) → KeptByObjectRequests kinds SameLimits objects account
  limits_kept objects = record {
    makes = λ kind name offered is free accepted. let block = block_charged kind.block (hole_for kind.block objects.shape) objects.shape account in (block.ram_limit, block.caps_limit);
    resizes = λ object units there accepted. (refl, refl);
    drops = λ object there. (refl, refl);
  }

pub limits_stay : RequestsKeepObjectLimits
limits_stay kinds objects account text = request_kept kinds (SameLimits kinds account) objects account (refl, refl) (limits_kept kinds account objects) (object_request text)

-- ---- use within limits

abbrev Within : Objects → Account → Type 0
Within objects account = WithinLimits account

-- contents that are accepted are covered
valid_tested : (valid : Bool) (x : ObjectError) (o : Option Refusal) → cond (not valid) (Some x) (option_map (λ refusal. Shared (error_of refusal)) o) ≡ None → o ≡ None
valid_tested false x o accepted = absurd (none-some x (sym accepted))
valid_tested true x o accepted = shared_none o accepted

content_fits : (size : ℕ) (account : Account) → contents_refusal size account ≡ None → WithinLimits account → Fits account (content_ram size) (content_caps size)
content_fits size account accepted h =
    elim (size == 0) as (λ b. cond b None (cond (not (is_valid_size (sliced_header + size))) (Some (Shared InvalidSize)) (option_map (λ refusal. Shared (error_of refusal)) (shortage account (sliced_size size) 1))) ≡ None →
    Fits account (cond b 0 (sliced_size size)) (cond b 0 1)) [
      | true ↦ λ _. record { ram_fits = omega (arith, h.ram); caps_fit = omega (arith, h.caps) }
      | false ↦ λ rest. covers account (sliced_size size) 1 (valid_tested (is_valid_size (sliced_header + size)) (Shared InvalidSize) (shortage account (sliced_size size) 1) rest)
    ] accepted

pub within_kept : (kinds : List ObjectKind) (objects : Objects) (account : Account) → WithinLimits account → KeptByObjectRequests kinds Within objects account
within_kept kinds objects account h = record {
  makes = λ kind name offered is free accepted. block_within kind.block (hole_for kind.block objects.shape) objects.shape account accepted h;
  resizes = λ object units there accepted.
      let fits = content_fits (contents (with_units units object)) account accepted h in
      record { ram = omega (arith, fits.ram_fits); caps = omega (arith, fits.caps_fit) };
  drops = λ object there. record { ram = omega (arith, h.ram); caps = omega (arith, h.caps) };
}

pub within_stays : RequestsKeepObjectsWithinLimits
within_stays kinds objects account text h = request_kept kinds Within objects account h (within_kept kinds objects account h) (object_request text)
