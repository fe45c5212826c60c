-- It is the one byte that was decoded.
use Rattle.std.proofs.Common.{◌≡◌, ◌+◌, ◌-◌, ◌*◌, ◌<◌, arith, get_or, length, ◌∙◌, ap}
use Rattle.own_model.specs.Text.{hex_bytes}
use Rattle.run_scenario.proofs.ShownLemmas.{byte_there, bytes_counted, pair_decoded}
use Rattle.run_scenario.proofs.printable_hex.byte_at.Goals as goal

pub returns : goal.returns
returns c =
    let bytes = hex_bytes c.args.digits.now in
    let within : c.args.place < length bytes = omega (arith, c.requires.within, bytes_counted c.args.digits.now c.requires.formed) in
    let two : 2 * c.args.place + 2 - 2 * c.args.place ≡ 2 = omega arith in
    let decoded = rw (two, pair_decoded c.args.digits.now c.args.place c.requires.formed c.requires.within) at c.decode_to_slice.ensures.value in
    ap (λ bytes. get_or bytes 0 0) decoded.1 ∙ byte_there bytes c.args.place within
