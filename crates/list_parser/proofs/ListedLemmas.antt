-- A text that is a start list is listed.
use Rattle.std.proofs.Common.{◌≡◌, nat_lt, Bool, true, false, [], length, Ok, Err, subst, arith}
use Rattle.std.specs.Prelude.{if◌then◌else◌, codes, Result, IfOk}
use Rattle.serde_json.specs.Data.{Data}
use Rattle.own_model.specs.Listed.{Listed}
use Rattle.list_parser.specs.Entries.{SoFar, entries_read, outermost, own_of, read_within}
use Rattle.list_parser.specs.FaultPlace.{◌>>=◌, value_or}
use Rattle.list_parser.specs.ListTheorems.{IsListed, ListsAreListed}
use Rattle.list_parser.specs.Members.{whole_at}
use Rattle.list_parser.specs.StartText.{bad_size, fault_of, json_in, list_of, machine_of, placed_list}
use Rattle.list_parser.specs.declared.fault.BootFault.{BootFault}
use Rattle.list_parser.specs.declared.fault.BootFault.TheVariants.{BadConfig, BadJson}
use Rattle.list_parser.specs.declared.fault.ConfigField.TheVariants as field
use Rattle.list_parser.specs.declared.list_fault.ListFault.{ListFault}
use Rattle.list_parser.proofs.HeadLemmas.{Gives, gave, own_few}
use Rattle.list_parser.proofs.NestLemmas.{all_extend, holds_none, stands_first, within_reads}

of_value : (d : Data) → Gives IsListed (placed_list d)
of_value d =
    gave (machine_of d) (λ machine _.
    gave (value_or (bad_size field.Pages) (whole_at (codes "pages") 16 4096 machine)) (λ pages _.
    gave (value_or (bad_size field.Caps) (whole_at (codes "caps") 16 4096 machine)) (λ caps _.
    gave (own_of 0 d) (λ own own_is.
    gave (entries_read own.starts) (λ so_far read.
    let first : SoFar = record { entries = []; met = length own.starts } in
    let few = own_few 0 d own own_is in
    let reads = all_extend 3 (read_within 3) (within_reads 3) outermost first so_far own.starts read holds_none stands_first (omega (arith, few)) in
    record { given = record { entries = reads.holds.listed; few = omega (arith, reads.counted, reads.few) } })))))

-- what is read of a value is listed
without_place : (r : Result Listed ListFault) → Gives IsListed r → Gives IsListed (fault_of r)
without_place (Ok list) gives = record { given = gives.given }
without_place (Err fault) gives = record { given = tt }

pub read_listed : (d : Data) (r : Result Listed BootFault) → IfOk r (λ list. list_of d ≡ Ok list) → IfOk r IsListed
read_listed d (Ok list) is = subst (λ s. IfOk s IsListed) is (Gives.given (without_place (placed_list d) (of_value d)))
read_listed d (Err fault) is = tt

by_value : (r : Result Data BootFault) → Gives IsListed (r >>= list_of)
by_value r = gave r (λ d _. without_place (placed_list d) (of_value d))

of_text : (long : Bool) (r : Result Listed BootFault) (list : Listed) → Gives IsListed r → (let all : Result Listed BootFault = if long then Err (BadConfig field.Size) else r in all ≡ Ok list) → IsListed list
of_text true r list gives is = cc
of_text false r list gives is = subst (λ s. IfOk s IsListed) is gives.given

pub lists_are_listed : ListsAreListed
lists_are_listed text list is = of_text (nat_lt 65536 (length text)) (value_or BadJson (json_in text) >>= list_of) list (by_value (value_or BadJson (json_in text))) is
