-- What files are charged, the limits and the use of their account after requests.
use Rattle.std.proofs.Common.{rules, ◌≡◌, ℕ, ◌+◌, ◌<◌, ◌≤◌, List, [], length, refl, ap, arith, length-append, length-take, length-drop}
use Rattle.std.proofs.lemmas.Bool.{ltb-true, ltb-false}
use Rattle.std.proofs.lemmas.Bool.Decides.{nat_tests}
use Rattle.std.proofs.lemmas.List.Sums.{sum_by_push}
use Rattle.trade_base.specs.Bytes.{with_bytes}
use Rattle.trade_base.proofs.BytesLemmas.{length-with_bytes}
use Rattle.own_model.proofs.FileListLemmas.{sum-rewritten, sum-without}
use Rattle.own_model.proofs.FileRequestLemmas.{KeptByRequests, requests_keep, grown}
use Rattle.own_model.proofs.NodeChargeLemmas.{taken_charged, given_charged, chunk_charged}
use Rattle.own_model.proofs.StepLemmas.{covers, accepted_growth}
use Rattle.own_model.specs.Account.{Account, WithinLimits, charged}
use Rattle.own_model.specs.BestFit.{Spot}
use Rattle.own_model.specs.FileTheorems.{RequestsKeepCharges, RequestsKeepLimits, RequestsKeepWithinLimits}
use Rattle.own_model.specs.FileService.{Files, File, IsCharged, node_size, content_ram, content_caps, created_in}
use Rattle.own_model.specs.Growth.{Growth, growth_of, new_hole}
use Rattle.own_model.specs.Sliced.{sliced_size}

-- ---- what contents are charged

-- a longer content is as long as it was asked for
length-longer : (bytes : List ℕ) (offset : ℕ) (part : List ℕ) → offset ≤ length bytes → length bytes < offset + length part → length (with_bytes bytes offset part) ≡ offset + length part
unfolding with_bytes
length-longer bytes offset part fits longer = search (rules, length-append, length-take, length-drop)

-- some bytes are charged a sliced block
charge_of_some : (n : ℕ) → 0 < n → (content_ram n ≡ sliced_size n) × (content_caps n ≡ 1)
charge_of_some n some = grind (arith, nat_tests)

-- the bytes and the capability of a file's content
abbrev ram_of : File → ℕ
ram_of file = content_ram (length file.bytes)

abbrev caps_of : File → ℕ
caps_of file = content_caps (length file.bytes)

-- ---- charges

module _ (ram caps : ℕ) where
  abbrev Charged : Files → Account → Type 0
  Charged files account = IsCharged ram caps files account

  -- a new file is charged nothing but its node's chunk
  created_charged : (name : List ℕ) (hole : Spot) (files : Files) (account : Account) → Charged files account → Charged (created_in name hole files) account
  created_charged name hole files account h =
      let new : File = record { name = name; bytes = []; chunk = hole.chunk; offset = hole.offset } in
      let node = taken_charged node_size hole files.shape in
      record {
        ram = omega (arith, h.ram, node.0, sum_by_push ram_of files.files new);
        caps = omega (arith, h.caps, node.1, sum_by_push caps_of files.files new);
      }

  grown_charged : (growth : Growth) (files : Files) (account : Account) → Charged files account → Charged (grown growth files) (charged account growth.bytes 1)
  grown_charged growth files account h = omega (arith, chunk_charged growth files.shape)

  pub charges_kept : (files : Files) (account : Account) → Charged files account → KeptByRequests Charged files account
  charges_kept files account h = record {
    takes = λ name hole is free best. created_charged name hole files account h;
    grows = λ name is free accepted.
        let growth = growth_of node_size files.shape account in
        created_charged name (new_hole growth files.shape) (grown growth files) (charged account growth.bytes 1) (grown_charged growth files account h);
    lengthens = λ file offset bytes there start longer accepted.
        let new = with_bytes file.bytes offset bytes in
        let more = ltb-true (length file.bytes) (offset + length bytes) longer in
        let size = length-longer file.bytes offset bytes start more in
        let charge = charge_of_some (length new) (omega (arith, size, more)) in
        let total : sliced_size (length new) ≡ sliced_size (offset + length bytes) = ap sliced_size size in
        record {
          ram = omega (arith, h.ram, sum-rewritten file.name new ram_of files.files file there, charge.0, total);
          caps = omega (arith, h.caps, sum-rewritten file.name new caps_of files.files file there, charge.1);
        };
    replaces = λ file offset bytes there fits.
        let new = with_bytes file.bytes offset bytes in
        let size = length-with_bytes file.bytes offset bytes (ltb-false (length file.bytes) (offset + length bytes) fits) in
        record {
          ram = omega (arith, h.ram, sum-rewritten file.name new ram_of files.files file there, ap content_ram size);
          caps = omega (arith, h.caps, sum-rewritten file.name new caps_of files.files file there, ap content_caps size);
        };
    clears = λ file there. record {
      ram = omega (arith, h.ram, sum-rewritten file.name [] ram_of files.files file there);
      caps = omega (arith, h.caps, sum-rewritten file.name [] caps_of files.files file there);
    };
    drops = λ file there.
        let heap = given_charged file.chunk file.offset files.shape in
        record {
          ram = omega (arith, h.ram, sum-without file.name ram_of files.files file there, heap.0);
          caps = omega (arith, h.caps, sum-without file.name caps_of files.files file there, heap.1);
        };
  }

pub charges_stay : RequestsKeepCharges
charges_stay ram caps files account text h = requests_keep (IsCharged ram caps) files account h (charges_kept ram caps files account h) text

-- ---- limits

module _ (account : Account) where
  -- an account with the same limits
  abbrev pub SameLimits : Files → Account → Type 0
  SameLimits files other = (other.ram_limit ≡ account.ram_limit) × (other.caps_limit ≡ account.caps_limit)

  pub limits_kept : (files : Files) → KeptByRequests SameLimits files account
  limits_kept files = search rules

pub limits_stay : RequestsKeepLimits
limits_stay files account text = requests_keep (SameLimits account) files account (refl, refl) (limits_kept account files) text

-- ---- use within limits

abbrev Within : Files → Account → Type 0
Within files account = WithinLimits account

pub within_kept : (files : Files) (account : Account) → WithinLimits account → KeptByRequests Within files account
within_kept files account h = search (rules, covers, accepted_growth)

pub within_stays : RequestsKeepWithinLimits
within_stays files account text h = requests_keep Within files account h (within_kept files account h) text
