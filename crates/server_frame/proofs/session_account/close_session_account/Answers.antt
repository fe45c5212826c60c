-- All blocks are given back, and then the capability of the session.
use Rattle.std.proofs.Common.{arith}
use Rattle.server_frame.proofs.FurnitureLemmas.{no_space, one_used, none_used, closes, maps_then, holdings_then}
use Rattle.server_frame.proofs.session_account.close_session_account.Goals as goal

pub credit_cap-requires-clause-spare : goal.credit_cap-requires-clause-spare
credit_cap-requires-clause-spare c =
    let none = no_space c.args.account.0 c.args.heap c.end.new.self c.args.memory.now c.end.new.memory c.args.map.now c.end.new.map c.requires.payer c.requires.heap c.requires.alone
    c.end.ensures.given c.end.ensures.sound c.end.ensures.others c.end.ensures.payer in
    let one = one_used c.args.account.0 c.args.heap c.end.new.self c.args.memory.now c.end.new.memory c.args.map.now c.end.new.map c.requires.payer c.requires.heap c.requires.alone
    c.end.ensures.given c.end.ensures.sound c.end.ensures.others c.end.ensures.payer in
    omega (arith, none, one)

pub close-requires-clause-unused : goal.close-requires-clause-unused
close-requires-clause-unused c =
    none_used c.args.account.0 c.args.heap c.end.new.self c.args.memory.now c.end.new.memory c.args.map.now c.end.new.map c.requires.payer c.requires.heap c.requires.alone
    c.end.ensures.given c.end.ensures.sound c.end.ensures.others c.end.ensures.payer
    c.credit_cap.new.self c.credit_cap.ensures.credited c.credit_cap.ensures.part

pub returns-clause-closes : goal.returns-clause-closes
returns-clause-closes c =
    closes c.args.account.0 c.args.heap c.end.new.self c.args.memory.now c.end.new.memory c.args.map.now c.end.new.map c.requires.payer c.requires.heap c.requires.alone
    c.end.ensures.given c.end.ensures.sound c.end.ensures.others c.end.ensures.payer
    c.credit_cap.new.self c.credit_cap.ensures.credited c.credit_cap.ensures.part c.close.new.self c.close.ensures.closed c.close.ensures.part c.close.ensures.ram_moved c.close.ensures.related

pub returns-clause-maps : goal.returns-clause-maps
returns-clause-maps c =
    maps_then c.args.account.0 c.args.heap c.end.new.self c.args.memory.now c.end.new.memory c.args.map.now c.end.new.map c.requires.payer c.requires.heap c.requires.alone
    c.end.ensures.given c.end.ensures.sound c.end.ensures.others c.end.ensures.payer
    c.credit_cap.new.self c.credit_cap.ensures.credited c.credit_cap.ensures.part c.close.new.self c.close.ensures.closed c.close.ensures.part c.close.ensures.ram_moved c.close.ensures.related

pub returns-clause-holdings : goal.returns-clause-holdings
returns-clause-holdings c =
    holdings_then c.args.account.0 c.args.heap c.end.new.self c.args.memory.now c.end.new.memory c.args.map.now c.end.new.map c.requires.payer c.requires.heap c.requires.alone
    c.end.ensures.given c.end.ensures.sound c.end.ensures.others c.end.ensures.payer
    c.credit_cap.new.self c.credit_cap.ensures.credited c.credit_cap.ensures.part c.close.new.self c.close.ensures.closed c.close.ensures.part c.close.ensures.ram_moved c.close.ensures.related
