-- Why a session is lent no buffer.
use Rattle.std.proofs.Common.{◌≡◌, ℕ, true, false, List, Option, Some, None, is_some, refl, ap, ◌∙◌}
use Rattle.std.specs.Option.{option_map}
use Rattle.trade_base.specs.Page.{is_valid_size}
use Rattle.trade_base.specs.declared.refusal.Refusal.{Refusal}
use Rattle.own_model.specs.Account.{Account, alloc_refusal}
use Rattle.own_model.specs.BufferService.{make_refusal}
use Rattle.own_model.specs.FileService.{error_of}
use Rattle.own_model.specs.FileText.FileError.{Exists}
use Rattle.dataspace_core.specs.Store.{Store}
use Rattle.server_frame.specs.SessionBuffer.{bytes_lent}
use Rattle.session_nodes.specs.SessionBuffer.{buffer_key}
use Rattle.session_nodes.specs.declared.session_buffer.SessionBuffer.{SessionBuffer}

-- a session lends bytes where it lends anything
lends_some : (buffer : Option SessionBuffer) (store : Store) → is_some (bytes_lent store (buffer_key buffer)) ≡ is_some buffer
lends_some None store = refl
lends_some (Some lent) store = refl

-- so many bytes have a size
module _ (n : ℕ) (buffer : Option SessionBuffer) (store : Store) (account : Account) (valid : is_valid_size n ≡ true) where
  pub make_exists : is_some buffer ≡ true → Some Exists ≡ make_refusal n (bytes_lent store (buffer_key buffer)) account
  make_exists some = let there = lends_some buffer store ∙ some in rw (valid, there) refl

  by_account : (lends : Option (List ℕ)) → is_some lends ≡ false → make_refusal n lends account ≡ option_map error_of (alloc_refusal n account)
  by_account lends none = rw (valid, none) refl

  pub make_short : is_some buffer ≡ false → (o : Option Refusal) → alloc_refusal n account ≡ o → make_refusal n (bytes_lent store (buffer_key buffer)) account ≡ option_map error_of o
  make_short none o is = by_account (bytes_lent store (buffer_key buffer)) (lends_some buffer store ∙ none) ∙ ap (option_map error_of) is
