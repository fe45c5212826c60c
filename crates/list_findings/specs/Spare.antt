-- Servers' budgets that nothing uses: no call changes what a server's account has.
use Rattle.std.specs.Prelude.{ℕ, ◌==◌, ◌&&◌, ◌||◌, List, [], ◌∷◌, ◌++◌, codes, decimal, flat_map, nat_lt, if◌then◌else◌, Option, Some, None}
use Rattle.own_model.specs.Listed.{Listed, ListedEntry}
use Rattle.list_parser.specs.Depth.{runs_server}
use Rattle.list_parts.specs.PartTexts.{amount_text}
use Rattle.list_findings.specs.declared.unused_budget.Advice.{Advice}
use Rattle.list_findings.specs.declared.unused_budget.UnusedBudget.{UnusedBudget}

-- the budget of an entry, if it is a server's and has RAM or capabilities
abbrev pub spare_in : ListedEntry → List UnusedBudget
spare_in entry =
    if runs_server entry.binary && (nat_lt 0 entry.ram || nat_lt 0 entry.caps)
    then record { path = entry.path; ram = entry.ram; caps = entry.caps } ∷ [] else []

-- the budgets of all servers
abbrev pub spare_of : Listed → List UnusedBudget
spare_of list = flat_map spare_in list.entries

-- a list that isn't empty
abbrev pub if_any : {A : Type 0} → List A → Option (List A)
if_any [] = None
if_any (x ∷ xs) = Some (x ∷ xs)

-- what a server has, without what is 0
abbrev pub spare_text : UnusedBudget → List ℕ
spare_text spare =
    spare.path ++ codes " has "
    ++ (if spare.caps == 0 then amount_text spare.ram
    else (if spare.ram == 0 then decimal spare.caps ++ codes " caps"
    else amount_text spare.ram ++ codes " and " ++ decimal spare.caps ++ codes " caps"))

-- a server after another one
abbrev pub other_spare_text : UnusedBudget → List ℕ
other_spare_text spare = codes ", " ++ spare_text spare

abbrev pub spares_text : List UnusedBudget → List ℕ
spares_text [] = []
spares_text (spare ∷ others) = spare_text spare ++ flat_map other_spare_text others

abbrev pub advice_on : List UnusedBudget → List ℕ
advice_on servers = codes "servers use no budget of their own: " ++ spares_text servers

abbrev pub advice_text : Advice → List ℕ
advice_text advice = advice_on advice.servers.now
