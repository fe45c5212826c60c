-- The account is opened, charged for the session, and takes its object.
use Rattle.own_model.proofs.NatMapLemmas.{apart_from_free}
use Rattle.dataspace_core.specs.Store.{accounts_in}
use Rattle.server_frame.proofs.FurnitureLemmas.{account_open, is_charged, heap_ready, is_furnished}
use Rattle.server_frame.proofs.session_account.open_session_account.Goals as goal

pub charge_cap-requires : goal.charge_cap-requires
charge_cap-requires c =
    account_open c.args.client.0 c.in_ok-account.account.0 c.args.ram.0 c.args.caps.0 c.args.memory.now c.open.new.self c.args.map.now c.requires.maps c.requires.enough
    c.in_ok-account.ensures.fresh c.requires.client c.in_ok-account.ensures.leaf c.in_ok-account.ensures.ok c.in_ok-account.ensures.part c.open.ensures.ram_moved

pub alloc-requires : goal.alloc-requires
alloc-requires c =
    let ready = is_charged c.args.client.0 c.in_ok-account.account.0 c.args.ram.0 c.args.caps.0 c.args.memory.now c.open.new.self c.args.map.now c.requires.maps c.requires.enough
    c.in_ok-account.ensures.fresh c.requires.client c.in_ok-account.ensures.leaf c.in_ok-account.ensures.ok c.in_ok-account.ensures.part c.open.ensures.ram_moved
    c.charge_cap.new.self c.charge_cap.result c.charge_cap.ensures.refusal c.charge_cap.ensures.ok c.charge_cap.ensures.part in
    heap_ready c.args.client.0 c.in_ok-account.account.0 c.args.ram.0 c.args.caps.0 c.args.memory.now c.charge_cap.new.self c.args.map.now c.requires.enough c.in_ok-account.ensures.fresh ready
    c.new-heap.result c.new-heap.ensures.payer c.new-heap.ensures.sound

pub returns-clause-furnished : goal.returns-clause-furnished
returns-clause-furnished c =
    let ready = is_charged c.args.client.0 c.in_ok-account.account.0 c.args.ram.0 c.args.caps.0 c.args.memory.now c.open.new.self c.args.map.now c.requires.maps c.requires.enough
    c.in_ok-account.ensures.fresh c.requires.client c.in_ok-account.ensures.leaf c.in_ok-account.ensures.ok c.in_ok-account.ensures.part c.open.ensures.ram_moved
    c.charge_cap.new.self c.charge_cap.result c.charge_cap.ensures.refusal c.charge_cap.ensures.ok c.charge_cap.ensures.part in
    is_furnished c.args.client.0 c.in_ok-account.account.0 c.args.ram.0 c.args.caps.0 c.args.memory.now c.charge_cap.new.self c.args.map.now c.requires.enough c.in_ok-account.ensures.fresh ready
    c.new-heap.result c.alloc.new.self c.alloc.new.memory c.alloc.new.map c.alloc.result
    (apart_from_free (accounts_in c.args.memory.now) c.in_ok-account.account.0 c.args.client.0 c.in_ok-account.ensures.fresh c.requires.client)
    c.new-heap.ensures.payer c.alloc.ensures.refusal c.alloc.ensures.taken c.alloc.ensures.sound c.alloc.ensures.others c.alloc.ensures.payer
