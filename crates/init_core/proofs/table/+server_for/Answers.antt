-- Each case by where the first row leads.
use Rattle.std.proofs.Common.{arith, refl}
use Rattle.std.proofs.lemmas.Option.{slice_get_read}
use Rattle.std.proofs.lemmas.Grind.{common_steps}
use Rattle.init_core.proofs.RowLemmas.{leads_to, leads_nowhere, leads_out, leads_outward}
use Rattle.init_core.proofs.table.+server_for.Goals as goal

pub returns-in-Server : goal.returns-in-Server
returns-in-Server t c =
    leads_to c.args.rows.now c.args.lists c.args.client c.args.service.now c.args.label.now c.in-Some.row.now (omega arith)
    (slice_get_read c.args.rows.now _ c.args.client c.in-Some.row.now refl c.in-Some.ensures.lookup.3.0 c.in-Some.ensures.lookup.1) c.in-Server.place (grind (arith, common_steps))

pub returns-in-Nowhere : goal.returns-in-Nowhere
returns-in-Nowhere t c =
    leads_nowhere c.args.rows.now c.args.lists c.args.client c.args.service.now c.args.label.now c.in-Some.row.now (omega arith)
    (slice_get_read c.args.rows.now _ c.args.client c.in-Some.row.now refl c.in-Some.ensures.lookup.3.0 c.in-Some.ensures.lookup.1) (grind (arith, common_steps))

pub returns-then-row-eq0 : goal.returns-then-row-eq0
returns-then-row-eq0 t c =
    leads_out c.args.rows.now c.args.lists c.args.client c.args.service.now c.args.label.now c.in-Some.row.now (omega arith)
    (slice_get_read c.args.rows.now _ c.args.client c.in-Some.row.now refl c.in-Some.ensures.lookup.3.0 c.in-Some.ensures.lookup.1) (grind (arith, common_steps))
    (grind (arith, common_steps))

pub returns-else-row-eq0 : goal.returns-else-row-eq0
returns-else-row-eq0 t c =
    leads_outward c.args.rows.now c.args.lists c.args.client c.args.service.now c.args.label.now c.in-Some.row.now (omega arith)
    (slice_get_read c.args.rows.now _ c.args.client c.in-Some.row.now refl c.in-Some.ensures.lookup.3.0 c.in-Some.ensures.lookup.1)
    c.as_slice-else-row-eq0.result.now c.server_for.result (grind (arith, common_steps)) (grind (arith, common_steps)) (grind (arith, common_steps)) (grind (arith, common_steps))
