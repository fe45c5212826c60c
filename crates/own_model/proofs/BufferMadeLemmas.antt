-- A buffer that a request makes, where the session had none.
use Rattle.std.proofs.Common.{◌≡◌, ℕ, List, length, take, drop, codes, Some, refl, sym, ap, ◌∙◌}
use Rattle.std.proofs.lemmas.Option.{none-some, same_Some}
use Rattle.std.specs.Prelude.{Option, None}
use Rattle.trade_base.specs.Page.{page_of}
use Rattle.own_model.proofs.ByteLemmas.{length-zeros}
use Rattle.own_model.specs.Account.{Account}
use Rattle.own_model.specs.BufferService.{SessionRequest, BufferServed, beside, part_of, unless_refused, make_refusal, move_refusal, made, given_back, put, got, session_request_served}
use Rattle.own_model.specs.BufferService.BufferRequest.{Make, GiveBack, Put, Get}
use Rattle.own_model.specs.BufferService.SessionRequest.{OfFiles, OfBuffer}
use Rattle.own_model.specs.FileService.{Files, File, file_named, written, told as answered}
use Rattle.own_model.specs.FileText.{FileError}
use Rattle.own_model.specs.FileText.FileReply.{Count}
use Rattle.own_model.specs.OwnState.{zeros}

-- where a session had no buffer and has one, that is zero, and the reply waits for its selector
abbrev pub IsNew : BufferServed → Type 0
IsNew o = (bytes : List ℕ) → o.buffer ≡ Some bytes → (bytes ≡ zeros (length bytes)) × (o.reply ≡ codes "OK cap ")

no_new : (o : BufferServed) → o.buffer ≡ None → IsNew o
no_new o none bytes is = absurd (none-some bytes (sym none ∙ is))

module _ (files : Files) (account : Account) where
  unless_new : (why : Option FileError) (o : BufferServed) → IsNew o → IsNew (unless_refused why None files account o)
  unless_new None o new = new
  unless_new (Some e) o new = no_new (unless_refused (Some e) None files account o) refl

  made_new : (n : ℕ) → IsNew (made n files account)
  made_new n bytes is =
      let same = same_Some (zeros (page_of n)) bytes is in
      (sym same ∙ ap zeros (sym (length-zeros (page_of n)) ∙ ap length same), refl)

  put_new : (offset place count : ℕ) (file : Option File) → IsNew (put offset place count None file files account)
  put_new offset place count None = no_new (put offset place count None None files account) refl
  put_new offset place count (Some file) =
      let o = beside None (written offset (part_of None place count) (Some file) files account) in
      unless_new (move_refusal offset place count None file) o (no_new o refl)

  got_new : (offset place count : ℕ) (file : Option File) → IsNew (got offset place count None file files account)
  got_new offset place count None = no_new (got offset place count None None files account) refl
  got_new offset place count (Some file) =
      let o = beside None (answered (Count (length (take count (drop offset file.bytes)))) files account) in
      unless_new (move_refusal offset place count None file) o (no_new o refl)

  pub request_new : (request : Option SessionRequest) → IsNew (session_request_served request None files account)
  request_new None = no_new (session_request_served None None files account) refl
  request_new (Some (OfFiles request)) = no_new (session_request_served (Some (OfFiles request)) None files account) refl
  request_new (Some (OfBuffer (Make n))) = unless_new (make_refusal n None account) (made n files account) (made_new n)
  request_new (Some (OfBuffer GiveBack)) = no_new (given_back None files account) refl
  request_new (Some (OfBuffer (Put name offset place count))) = put_new offset place count (file_named name files)
  request_new (Some (OfBuffer (Get name offset place count))) = got_new offset place count (file_named name files)
