-- Each call takes what is written some bytes on.
use Rattle.std.proofs.Common.{◌≡◌, ◌≤◌, length, take, subst, arith, length-take-le}
use Rattle.std.proofs.lemmas.List.{take_all}
use Rattle.own_model.specs.LogService.{IsPartial}
use Rattle.own_model.specs.Text.{hex_bytes}
use Rattle.own_model.proofs.LogLemmas.{bytes_of_digits}
use Rattle.text_codec.proofs.HexLemmas.{decoded_bytes}
use Rattle.log_service.proofs.SessionLemmas.{writes_none, writes_then, partial_after, taken_next}
use Rattle.log_service.proofs.session.LogSession.write.Goals as goal

pub loop-done-init : goal.loop-done-init
loop-done-init c =
    let is = subst (λ session. IsPartial session.partial) c.self.view_is c.self.invariant in
    record { partial = is; within = omega arith; written = writes_none c.args.self.now c.args.reply.now is }

pub write_bytes-requires : goal.write_bytes-requires
write_bytes-requires c =
    let total = hex_bytes c.args.hex.now in
    let is = subst (λ session. IsPartial session.partial) c.self.view_is c.self.invariant in
    let added = c.loop-done.invariant.written.added in
    omega (
      arith,
      c.decode_hex_from.auto.bytes,
      c.min.ensures,
      length-take-le c.min.result c.loop-done.buffer,
      length-take-le c.loop-done.done total,
      bytes_of_digits c.args.hex.now total c.requires.hex,
      c.requires.room,
      is,
      added,
    )

pub loop-done-preserved : goal.loop-done-preserved
loop-done-preserved c =
    let is = subst (λ session. IsPartial session.partial) c.self.view_is c.self.invariant in
    let l = c.loop-done.invariant in
    record {
      partial = partial_after _ l.partial c.write_bytes.ensures;
      within = omega (arith, c.decode_hex_from.auto.bytes, c.min.ensures, length-take-le c.min.result c.loop-done.buffer);
      written = rw (taken_next c.loop-done.done _ (hex_bytes c.args.hex.now) c.decode_hex_from.new.bytes
          (c.decode_hex_from.ensures (hex_bytes c.args.hex.now) (decoded_bytes c.args.hex.now (hex_bytes c.args.hex.now) c.requires.hex)))
          (writes_then _ _ _ _ _ _ _ _ is l.written c.write_bytes.ensures);
    }

pub returns : goal.returns
returns c =
    let total = hex_bytes c.args.hex.now in
    let all : length total ≤ c.loop-done.done = omega (arith, bytes_of_digits c.args.hex.now total c.requires.hex) in
    rw (take_all c.loop-done.done total all) at c.loop-done.invariant.written
