-- How long the bytes of a request are, and what the text of a request for a name is told.
use Rattle.std.proofs.Common.{◌≡◌, ℕ, ◌≤◌, Bool, true, false, true≢false, List, [], length, Option, Some, None, refl, sym, ap, subst, ◌∙◌, arith}
use Rattle.std.specs.Prelude.{IsSome, slice_get}
use Rattle.std.specs.Option.{option_map, option_or, unwrap_or}
use Rattle.own_model.specs.Account.{Account}
use Rattle.own_model.specs.BufferService.{BufferRequest, SessionRequest, buffer_request, session_request}
use Rattle.std.proofs.lemmas.Option.{none-some, same_Some}
use Rattle.own_model.specs.BufferService.SessionRequest.{OfFiles, OfBuffer}
use Rattle.own_model.specs.FileService.{File, Files, named, told}
use Rattle.own_model.specs.FileText as model
use Rattle.own_model.specs.FileText.{file_request, file_reply}
use Rattle.own_model.specs.FileText.FileRequest.{Write, Name}
use Rattle.own_model.specs.FileText.FileReply.{Named, Refused}
use Rattle.own_model.specs.FileText.FileError.{End}
use Rattle.own_model.specs.Text.{bytes_of_hex, hex_bytes}
use Rattle.own_model.proofs.FileTextLemmas.{write_is_short}
use Rattle.own_model.proofs.LogLemmas.{bytes_of_digits}
use Rattle.own_model.proofs.NatMapLemmas.{some_of}
use Rattle.session_nodes.specs.Frame.{Regions, Store}
use Rattle.core_calls.specs.ReplyText.{Told, told_alone}
use Rattle.session_nodes.specs.SessionHeaps.{stock_of}
use Rattle.file_service.specs.Session.{files_in, served_in, HasFiles, Serves}
use Rattle.file_service.proofs.ServeLemmas.{serves_done}
use Rattle.file_service.specs.declared.session.FileSession.{FileSession}

-- a request of files is none of the buffer
of_files : (o : Option model.FileRequest) (p : Option BufferRequest) (r : model.FileRequest) → option_or (option_map OfFiles o) (option_map OfBuffer p) ≡ Some (OfFiles r) → o ≡ Some r
of_files None None r is = absurd (none-some (OfFiles r) is)
of_files None (Some b) r is = absurd (not_files b (same_Some _ _ is)) where
  is_files : SessionRequest → Bool
  is_files (OfFiles q) = true
  is_files (OfBuffer q) = false

  not_files : (b : BufferRequest) → OfBuffer b ≡ OfFiles r → ⊥
  not_files b e = true≢false (sym (ap is_files e))
of_files (Some x) p r is = cc

-- the hexadecimal digits of a request are no more than a request has bytes
pub hex_is_short : (text file : List ℕ) (offset : ℕ) (hex : List ℕ) → session_request text ≡ Some (OfFiles (Write file offset (hex_bytes hex))) → IsSome (bytes_of_hex hex) → length hex ≤ 8192
hex_is_short text file offset hex is some =
    let read = some_of (bytes_of_hex hex) some in
    let same : length (hex_bytes hex) ≡ length read.0 = ap (λ o. length (unwrap_or o [])) read.1 in
    omega (arith, write_is_short text file offset (hex_bytes hex) (of_files (file_request text) (buffer_request text) _ is), same, bytes_of_digits hex read.0 read.1)

-- what is told is the reply and nothing else
pub told_text : (new old : Told) (reply : model.FileReply) (text : List ℕ) → new ≡ record old { text = file_reply reply } → old.lines ≡ [] → file_reply reply ≡ text → new ≡ told_alone text
told_text new old reply text is none same = is ∙ (λ i. record { lines = none i; text = same i })

-- ---- NAME

-- the name at a place, or that there are no more
abbrev pub name_reply : Option (List ℕ) → model.FileReply
name_reply (Some name) = Named name
name_reply None = Refused End

named_by : (o : Option File) (files : Files) (account : Account) → named o files account ≡ told (name_reply (option_map (λ (file : File). file.name) o)) files account
named_by None files account = refl
named_by (Some file) files account = refl

-- the files stay, and it is told, whatever is remembered
pub named_served : (place : ℕ) (name : Option (List ℕ)) (session later : FileSession) (old new : Store) (regions : Regions) →
    HasFiles later (stock_of later.nodes.heaps old regions) → later ≡ record session { nodes = record session.nodes { recent = later.nodes.recent } } → new ≡ old →
    name ≡ option_map (λ (file : File). file.name) (slice_get (files_in session (stock_of session.nodes.heaps old regions)).files place) →
    let has = stock_of session.nodes.heaps old regions in
    Serves (served_in (Name place) session has) (name_reply name) session later (stock_of later.nodes.heaps new regions)
named_served place name session later old new regions kept is same name_is =
    let has = stock_of session.nodes.heaps old regions in
    subst (λ m. Serves (served_in (Name place) session has) (name_reply name) session later (stock_of later.nodes.heaps m regions)) (sym same)
    (serves_done (served_in (Name place) session has) (name_reply name) (files_in session has) has.account session later (stock_of later.nodes.heaps old regions)
    (named_by (slice_get (files_in session has).files place) (files_in session has) has.account
    ∙ ap (λ o. told (name_reply o) (files_in session has) has.account) (sym name_is))
    (ap (λ (s : FileSession). (stock_of s.nodes.heaps old regions).account) is)
    (ap (λ (s : FileSession). files_in s (stock_of s.nodes.heaps old regions)) is)
    kept
    (record { label = ap (λ (s : FileSession). s.label) is; buffer = ap (λ (s : FileSession). s.buffer) is }))
