-- The gap is in front of the row that is not close, or after the last one.
use Rattle.std.proofs.Common.{sym, ap, ◌∙◌, Some}
use Rattle.region_map.proofs.KnownLemmas.{count_within, known-gap, known-gap_at_end, known-no_gap}
use Rattle.region_map.proofs.known_rows.KnownRows.gap.Goals as goal

pub end_before-address-requires : goal.end_before-address-requires
end_before-address-requires c = count_within _ _ _ c.requires.known

pub returns-then-self-len-clause-first : goal.returns-then-self-len-clause-first
returns-then-self-len-clause-first c =
    let below = rw c.len.ensures at c.if-self-len.true in
    ap Some c.end_before-address.ensures.value
    ∙ sym (known-gap c.args.low c.args.high c.args.self.pages c.args.self.count c.args.self.until c.args.rows.now.items c.requires.known.close c.args.self.order (count_within _ _ _ c.requires.known) below (c.requires.gap below))

pub returns-then-address-self-clause-first : goal.returns-then-address-self-clause-first
returns-then-address-self-clause-first c =
    ap Some c.end_before-address.ensures.value
    ∙ sym (known-gap_at_end c.args.low c.args.high c.args.self.pages c.args.self.count c.args.self.until c.args.rows.now.items c.requires.known.close c.args.self.order (count_within _ _ _ c.requires.known) (rw c.len.ensures at c.if-self-len.false) (rw c.end_before-address.ensures.value at c.if-address-self.true))

pub returns-else-address-self-clause-first : goal.returns-else-address-self-clause-first
returns-else-address-self-clause-first c =
    sym (known-no_gap c.args.low c.args.high c.args.self.pages c.args.self.count c.args.self.until c.args.rows.now.items c.requires.known.close c.args.self.order (count_within _ _ _ c.requires.known) (rw c.len.ensures at c.if-self-len.false) (rw c.end_before-address.ensures.value at c.if-address-self.false))
