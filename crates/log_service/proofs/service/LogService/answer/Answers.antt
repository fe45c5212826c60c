-- A request has few enough bytes for all the lines that they may finish, and as many as pairs of digits.
use Rattle.std.proofs.Common.{◌≡◌, ◌/◌, ◌∙◌, ℕ, [], length, sym, ap, arith}
use Rattle.own_model.specs.LogText.{log_reply}
use Rattle.own_model.specs.LogService.{log_served_bytes}
use Rattle.own_model.proofs.LogLemmas.{bytes_of_digits, request_is_short}
use Rattle.std.specs.Prelude.{List, Some, IsSome}
use Rattle.std.specs.Option.{unwrap_or}
use Rattle.own_model.specs.Text.{bytes_of_hex, hex_bytes}
use Rattle.own_model.proofs.NatMapLemmas.{some_of}
use Rattle.log_service.proofs.service.LogService.answer.Goals as goal

-- the bytes that hex stands for, where it stands for some
has_bytes : (hex : List ℕ) → IsSome (bytes_of_hex hex) → bytes_of_hex hex ≡ Some (hex_bytes hex)
has_bytes hex some = let read = some_of (bytes_of_hex hex) some in read.1 ∙ ap Some (sym (ap (λ o. unwrap_or o []) read.1))

pub write-requires-clause-room : goal.write-requires-clause-room
write-requires-clause-room c =
    let few = request_is_short c.args.request.now (hex_bytes c.in-Some.request.hex.now) c.in-Some.ensures.bytes in
    omega (arith, few, ap length c.requires)

pub returns-in-Some-clause-text : goal.returns-in-Some-clause-text
returns-in-Some-clause-text c =
    let hex = c.in-Some.request.hex.now in
    let half : length hex / 2 ≡ length (hex_bytes hex) = omega (arith, bytes_of_digits hex (hex_bytes hex) (has_bytes hex c.in-Some.ensures.hex)) in
    ap (λ told. told.text) c.write-in-Some.ensures ∙ rw half (sym (ap (λ o. (log_served_bytes c.args.session.now.partial o).reply) c.in-Some.ensures.bytes))
