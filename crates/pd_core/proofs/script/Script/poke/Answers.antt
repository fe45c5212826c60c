-- Bytes are put over those of a region or of a payload.
use Rattle.std.proofs.Common.{ap, ◌/◌, length, subst, sym, arith, refl, inl}
use Rattle.own_model.specs.Call.Call.{Poke}
use Rattle.dataspace_core.specs.Store.{Exists, space_at}
use Rattle.pd_core.specs.Bytes.{PutsBytes}
use Rattle.core_calls.specs.Call.{bytes_in}
use Rattle.pd_core.proofs.BytesLemmas.{few, few_bytes, poke_refused}
use Rattle.pd_core.proofs.BytesPlaceLemmas.{found_there, found_fits, poke_finishes}
use Rattle.pd_core.proofs.HexLemmas.{half_is, bytes_small}
use Rattle.pd_core.proofs.ScriptLemmas.{refuses}
use Rattle.pd_core.proofs.script.Script.poke.Goals as goal

pub returns-in_err-space : goal.returns-in_err-space
returns-in_err-space c =
    let does = refuses {call = Poke c.args.address (bytes_in c.args.hex.now)} c.from_residual.result c.from_residual.ensures.1 c.requires.sound c.in_err-space.ensures.memory refl
    (λ sessions. poke_refused _ _ _ _ _ c.requires.sound.own c.args.address (length c.args.hex.now / 2) _ c.in_err-space.ensures.refusal sessions (bytes_in c.args.hex.now) (half_is c.args.hex.now c.requires.hex)) in
    record { outcome = does.outcome; keeps = does.keeps; others = inl does.others }

pub put_hex-requires-clause-exists : goal.put_hex-requires-clause-exists
put_hex-requires-clause-exists c =
    let count = length c.args.hex.now / 2 in
    let some = few _ _ _ _ _ c.requires.sound.own c.args.address count c.in_ok-space.ensures.refusal in
    subst (λ m. Exists m c.in_ok-space.space.0) (sym c.in_ok-space.ensures.memory) (found_there _ _ c.requires.sound c.args.address _ _ count some c.in_ok-space.ensures.found)

pub put_hex-requires-clause-range : goal.put_hex-requires-clause-range
put_hex-requires-clause-range c =
    let count = length c.args.hex.now / 2 in
    let some = few _ _ _ _ _ c.requires.sound.own c.args.address count c.in_ok-space.ensures.refusal in
    let fit = found_fits _ _ c.requires.sound c.args.address _ _ count some c.in_ok-space.ensures.found in
    let same = ap (λ m. length (space_at m c.in_ok-space.space.0).bytes) c.in_ok-space.ensures.memory in
    omega (arith, fit, same)

pub put_hex-requires-clause-few : goal.put_hex-requires-clause-few
put_hex-requires-clause-few c = few_bytes _ _ _ _ _ c.requires.sound.own c.args.address (length c.args.hex.now / 2) c.in_ok-space.ensures.refusal

pub returns : goal.returns
returns c =
    let count = length c.args.hex.now / 2 in
    let bytes = bytes_in c.args.hex.now in
    let some = few _ _ _ _ _ c.requires.sound.own c.args.address count c.in_ok-space.ensures.refusal in
    let becomes = subst (λ m. PutsBytes c.in_ok-space.space.0 c.in_ok-space.offset bytes m c.put_hex.new.memory) c.in_ok-space.ensures.memory c.put_hex.ensures in
    poke_finishes _ _ c.requires.sound c.args.address _ _ count bytes (half_is c.args.hex.now c.requires.hex) some (bytes_small c.args.hex.now c.requires.hex) c.in_ok-space.ensures.found becomes
