-- What a request of a session of objects tested and did, by its reply and the account before and after.
use Rattle.std.specs.Prelude.{ℕ, ◌+◌, ◌*◌, ◌==◌, ◌&&◌, Bool, true, false, List, [], ◌++◌, nat_lt, nat_le, if◌then◌else◌, Option, Some, None}
use Rattle.trade_base.specs.Page.{page_of, is_valid_size}
use Rattle.own_model.specs.Account.{Account}
use Rattle.own_model.specs.BufferService.BufferRequest.{Make as MakeBuffer}
use Rattle.own_model.specs.Growth.{Shape, larger_growth}
use Rattle.own_model.specs.Nodes.{with_first, without_first}
use Rattle.own_model.specs.ObjectKinds.{ObjectKind, kind_named}
use Rattle.own_model.specs.ObjectSession.{HoldingRequest}
use Rattle.own_model.specs.ObjectSession.HoldingRequest.{OfObjects, OfBuffer}
use Rattle.own_model.specs.ObjectText.ObjectRequest.{Make, Resize, Drop}
use Rattle.budget_theorems.specs.Request.{contents_tests}
use Rattle.budget_theorems.specs.Test.{Test, test_of, tested_where, growth_tests}
use Rattle.budget_meter.specs.ObjectSizes.{KnownObjects, ObjectSize, has_name, new_size, size_named, with_size}
use Rattle.budget_meter.specs.RequestTests.{is_granted, shows_charge}

-- a request makes an object
abbrev pub is_make : HoldingRequest → Bool
is_make (OfObjects (Make kind name)) = true
is_make request = false

-- ---- tests

-- the heap of nodes had to grow for a block of a kind
abbrev pub kind_tests : Option ObjectKind → Shape → Account → List Test
kind_tests None shape before = []
kind_tests (Some kind) shape before = growth_tests kind.block shape before

-- other units of an object
abbrev pub units_tests : ℕ → Option ObjectSize → List Test
units_tests units None = []
units_tests units (Some object) = if units == object.units then [] else contents_tests (units * object.bytes)

abbrev pub object_tests : Option HoldingRequest → List ℕ → Account → Account → KnownObjects → Shape → List Test
object_tests (Some (OfObjects (Make kind name))) reply before after known shape =
    if shows_charge reply before after then kind_tests (kind_named kind known.kinds) shape before else []
object_tests (Some (OfObjects (Resize name units))) reply before after known shape = units_tests units (size_named name known.objects)
object_tests (Some (OfBuffer (MakeBuffer n))) reply before after known shape =
    if shows_charge reply before after then tested_where (is_valid_size n) (test_of (page_of n) 1) else []
object_tests request reply before after known shape = []

-- ---- the growth number of the heap of nodes after it

abbrev pub kind_growth : Option ObjectKind → Account → Account → Shape → ℕ
kind_growth None before after shape = shape.growth
kind_growth (Some kind) before after shape =
    if nat_lt before.caps_used after.caps_used && nat_le (before.ram_used + (larger_growth kind.block shape).bytes) before.ram_limit
    then (larger_growth kind.block shape).next else shape.growth

abbrev pub object_growth : Option HoldingRequest → List ℕ → Account → Account → KnownObjects → Shape → ℕ
object_growth (Some (OfObjects (Make kind name))) reply before after known shape =
    if shows_charge reply before after then kind_growth (kind_named kind known.kinds) before after shape else shape.growth
object_growth request reply before after known shape = shape.growth

-- ---- objects after it

abbrev pub sizes_after : List ObjectKind → Option HoldingRequest → List ℕ → List ObjectSize → List ObjectSize
sizes_after kinds (Some (OfObjects (Make kind name))) reply old =
    if is_granted reply then old ++ new_size (kind_named kind kinds) name else old
sizes_after kinds (Some (OfObjects (Resize name units))) reply old =
    if is_granted reply then with_first (has_name name) (with_size units) old else old
sizes_after kinds (Some (OfObjects (Drop name))) reply old = if is_granted reply then without_first (has_name name) old else old
sizes_after kinds request reply old = old
