-- The chunks go, and the sliced blocks stay.
use Rattle.session_nodes.proofs.EndLemmas.{end_keeps, end_alone, end_ram, end_caps}
use Rattle.session_nodes.proofs.session_heaps.SessionHeaps.end.Goals as goal

pub returns-clause-blocks : goal.returns-clause-blocks
returns-clause-blocks c = let e = c.end.ensures in end_alone c.requires.furnished e.given e.sound e.others e.payer c.requires.alone

pub returns-clause-session : goal.returns-clause-session
returns-clause-session c = let e = c.end.ensures in (end_keeps c.requires.furnished e.given e.sound e.others e.payer).stays.furnished.session

pub returns-clause-ram : goal.returns-clause-ram
returns-clause-ram c = let e = c.end.ensures in end_ram c.requires.furnished e.given e.sound e.others e.payer

pub returns-clause-caps : goal.returns-clause-caps
returns-clause-caps c = let e = c.end.ensures in end_caps c.requires.furnished e.given e.sound e.others e.payer

pub returns-clause-others : goal.returns-clause-others
returns-clause-others c = let e = c.end.ensures in (end_keeps c.requires.furnished e.given e.sound e.others e.payer).stays.others
