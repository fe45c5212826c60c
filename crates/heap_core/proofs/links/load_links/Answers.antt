-- The links are in the page of the first one.
use Rattle.std.proofs.Common.{◌+◌, ◌%◌, refl, ◌∙◌, arith}
use Rattle.heap_core.proofs.LinksLemmas.{links_read}
use Rattle.heap_core.proofs.links.load_links.Goals as goal

pub returns-clause-links : goal.returns-clause-links
returns-clause-links g c =
    c.links_in_page.ensures
    ∙ links_read _ _ c.args.offset ((c.args.offset + 16) % 4096) c.requires.even refl (omega (arith, c.if-place-gt-PAGE.false)) c.page.ensures.bytes c.page.ensures.size
