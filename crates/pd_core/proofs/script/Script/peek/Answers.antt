-- The bytes of a region or of a payload are told.
use Rattle.std.proofs.Common.{ap, ◌∙◌, ◌+◌, ◌++◌, length, subst, sym, slice_range}
use Rattle.std.specs.Prelude.{codes, ◌≤◌}
use Rattle.own_model.specs.Reply.{hex_text}
use Rattle.dataspace_core.specs.Store.{Exists, space_at}
use Rattle.pd_core.specs.Answer.{told, told_of, told_alone}
use Rattle.pd_core.specs.Own.{own_at}
use Rattle.pd_core.proofs.BytesLemmas.{few, few_bytes, peek_refused}
use Rattle.pd_core.proofs.BytesPlaceLemmas.{found_there, found_fits, peek_found}
use Rattle.pd_core.proofs.script.Script.peek.Goals as goal

pub write_range-requires-clause-exists : goal.write_range-requires-clause-exists
write_range-requires-clause-exists c =
    let some = few _ _ _ _ _ c.requires.own c.args.address c.args.count c.in-Ok.ensures.refusal in
    subst (λ m. Exists m c.in-Ok.space.0) (sym c.in-Ok.ensures.memory) (found_there _ _ c.requires c.args.address _ _ c.args.count some c.in-Ok.ensures.found)

pub write_range-requires-clause-range : goal.write_range-requires-clause-range
write_range-requires-clause-range c =
    let some = few _ _ _ _ _ c.requires.own c.args.address c.args.count c.in-Ok.ensures.refusal in
    subst (λ m. c.in-Ok.offset + c.args.count ≤ length (space_at m c.in-Ok.space.0).bytes) (sym c.in-Ok.ensures.memory)
    (found_fits _ _ c.requires c.args.address _ _ c.args.count some c.in-Ok.ensures.found)

pub write_range-requires-clause-few : goal.write_range-requires-clause-few
write_range-requires-clause-few c = few_bytes _ _ _ _ _ c.requires.own c.args.address c.args.count c.in-Ok.ensures.refusal

pub returns-in-Ok-clause-outcome : goal.returns-in-Ok-clause-outcome
returns-in-Ok-clause-outcome c sessions ready =
    let some = few _ _ _ _ _ c.requires.own c.args.address c.args.count c.in-Ok.ensures.refusal in
    ap (λ m. told c.write_range.new.reply (own_at sessions m c.args.self.now)) c.in-Ok.ensures.memory
    ∙ ap (λ reply. told reply (own_at sessions c.args.memory.now c.args.self.now))
    (c.write_range.ensures
    ∙ ap (λ m. told_alone (codes "data " ++ hex_text (slice_range (space_at m c.in-Ok.space.0).bytes c.in-Ok.offset (c.in-Ok.offset + c.args.count)))) c.in-Ok.ensures.memory)
    ∙ ap told_of (peek_found _ _ c.requires c.args.address _ _ c.args.count c.in-Ok.ensures.found some sessions)

pub returns-in-Err-clause-outcome : goal.returns-in-Err-clause-outcome
returns-in-Err-clause-outcome c sessions ready =
    ap (λ m. told c.write_refusal.new.self (own_at sessions m c.args.self.now)) c.in-Err.ensures.memory
    ∙ ap (λ reply. told reply (own_at sessions c.args.memory.now c.args.self.now)) c.write_refusal.ensures
    ∙ ap told_of (peek_refused _ _ _ _ _ c.requires.own c.args.address c.args.count _ c.in-Err.ensures.refusal sessions)
