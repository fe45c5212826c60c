-- Entries of lists within lists are listed, as more of them are read.
use Rattle.std.proofs.Common.{◌≡◌, ℕ, zero, suc, ◌+◌, ◌-◌, ◌<◌, ◌≤◌, ◌==◌, ◌&&◌, ◌⊎◌, inl, inr, Bool, true, false, List, [], ◌∷◌, ◌++◌, length, codes, Option, Some, None, Ok, Err, subst, refl, sym, ap, ◌∙◌, true≢false, arith, length-append}
use Rattle.std.specs.List.{list_any, slice_get}
use Rattle.std.specs.Option.{option_map, unwrap_or}
use Rattle.std.specs.Prelude.{Result}
use Rattle.std.specs.Str.{bytes_eq}
use Rattle.std.proofs.lemmas.Bool.{cases_eq, eq-eqb, false≢true}
use Rattle.std.proofs.lemmas.List.{get_or_append_left}
use Rattle.std.proofs.lemmas.Option.{get_or_from_slice_get, same_Some, slice_get_read, slice_get_within}
use Rattle.std.proofs.lemmas.Slice.Eq.{bytes_eq-Decides}
use Rattle.serde_json.specs.Data.{Data}
use Rattle.own_model.specs.Listed.{ListedEntry}
use Rattle.list_parser.specs.Depth.{HaveParentInits, is_init, is_list}
use Rattle.list_parser.specs.Entries.{EntryHead, ListPlace, Reads, SoFar, all_read, behind, head_of, outermost, place_within, read_own, read_within, with_head}
use Rattle.list_parser.specs.FaultPlace.{◌>>=◌, at_entry}
use Rattle.list_parser.specs.ListTheorems.{AreListed, HasJoinedNames, is_within}
use Rattle.list_parser.specs.declared.list_fault.ListFault.{ListFault}
use Rattle.list_parser.proofs.DepthLemmas.{grow_by, last_list, last_there, no_homes}
use Rattle.list_parser.proofs.HeadLemmas.{IsHead, StartsOthers, head_is}

-- ---- texts put behind others

behind_none : (parts above name : List ℕ) → above ≡ [] → behind parts above name ≡ name
behind_none parts above name none = rw none refl

behind_some : (parts above name : List ℕ) → 0 < length above → behind parts above name ≡ above ++ parts ++ name
behind_some parts [] name some = absurd (omega arith)
behind_some parts (b ∷ above) name some = refl

behind_longer : (parts above name : List ℕ) → 0 < length name → 0 < length (behind parts above name)
behind_longer parts [] name some = some
behind_longer parts (b ∷ above) name some = omega arith

-- ---- what stands in a list with one more

module _ (entries : List ListedEntry) (e : ListedEntry) where
  -- each is still there
  still : (place : ℕ) (entry : ListedEntry) → slice_get entries place ≡ Some entry → slice_get (entries ++ e ∷ []) place ≡ Some entry
  still place entry is =
      let inside = slice_get_within entries place entry is in
      let longer : length (entries ++ e ∷ []) ≡ length entries + 1 = length-append entries (e ∷ []) in
      slice_get_read (entries ++ e ∷ []) (length entries + 1) place entry (sym longer) (omega (arith, inside))
      (sym (get_or_append_left entries (e ∷ []) entry place inside ∙ get_or_from_slice_get entries place entry entry is))

  -- and what is there was there, or is the last one
  was_or_last : (place : ℕ) (entry : ListedEntry) → slice_get (entries ++ e ∷ []) place ≡ Some entry → (slice_get entries place ≡ Some entry) ⊎ ((place ≡ length entries) × (e ≡ entry))
  was_or_last place entry there = elim (cases_eq place (length entries)) [
    | inl here ↦ inr (here, same_Some e entry (sym (last_there entries e) ∙ ap (slice_get (entries ++ e ∷ [])) (sym here) ∙ there))
    | inr other ↦
        let longer : length (entries ++ e ∷ []) ≡ length entries + 1 = length-append entries (e ∷ []) in
        let inside = slice_get_within (entries ++ e ∷ []) place entry there in
        let before : place < length entries = omega (arith, inside, longer, other) in
        inl (slice_get_read entries (length entries) place entry refl before
        (sym (sym (get_or_append_left entries (e ∷ []) entry place before) ∙ get_or_from_slice_get (entries ++ e ∷ []) place entry entry there)))
  ]

  -- one before its end was there
  was : (place : ℕ) (entry : ListedEntry) → place < length entries → slice_get (entries ++ e ∷ []) place ≡ Some entry → slice_get entries place ≡ Some entry
  was place entry before there = elim (was_or_last place entry there) [ inl is ↦ is | inr last ↦ absurd (omega (arith, before, last.0)) ]

  -- what is within so many is so still
  within_by : (inits : ℕ) → ((home : ℕ) → is_within inits entries home ≡ true → is_within inits (entries ++ e ∷ []) home ≡ true) → (o : Option ListedEntry) (place : ℕ) → slice_get entries place ≡ o →
      unwrap_or (option_map (λ (init : ListedEntry). is_within inits entries init.home) o) false ≡ true →
      unwrap_or (option_map (λ (init : ListedEntry). is_within inits (entries ++ e ∷ []) init.home) (slice_get (entries ++ e ∷ []) place)) false ≡ true
  within_by inits more None place is deep = absurd (false≢true deep)
  within_by inits more (Some init) place is deep =
      ap (λ o. unwrap_or (option_map (λ (i : ListedEntry). is_within inits (entries ++ e ∷ []) i.home) o) false) (still place init is) ∙ more init.home deep

  within_still : (inits home : ℕ) → is_within inits entries home ≡ true → is_within inits (entries ++ e ∷ []) home ≡ true
  within_still zero zero deep = refl
  within_still (suc inits) zero deep = refl
  within_still zero (suc place) deep = absurd (false≢true deep)
  within_still (suc inits) (suc place) deep = within_by inits (within_still inits) (slice_get entries place) place refl deep

-- what is within fewer is within more
module _ (entries : List ListedEntry) where
  more_by : (inits : ℕ) → ((home : ℕ) → is_within inits entries home ≡ true → is_within (suc inits) entries home ≡ true) → (o : Option ListedEntry) →
      unwrap_or (option_map (λ (init : ListedEntry). is_within inits entries init.home) o) false ≡ true →
      unwrap_or (option_map (λ (init : ListedEntry). is_within (suc inits) entries init.home) o) false ≡ true
  more_by inits more None deep = deep
  more_by inits more (Some init) deep = more init.home deep

  within_more : (inits home : ℕ) → is_within inits entries home ≡ true → is_within (suc inits) entries home ≡ true
  within_more zero zero deep = refl
  within_more (suc inits) zero deep = refl
  within_more zero (suc place) deep = absurd (false≢true deep)
  within_more (suc inits) (suc place) deep = more_by inits (within_more inits) (slice_get entries place) deep

  within_three : (deeper home : ℕ) → deeper ≤ 3 → is_within (3 - deeper) entries home ≡ true → is_within 3 entries home ≡ true
  within_three zero home few deep = deep
  within_three (suc zero) home few deep = within_more 2 home deep
  within_three (suc (suc zero)) home few deep = within_more 2 home (within_more 1 home deep)
  within_three (suc (suc (suc zero))) home few deep = within_more 2 home (within_more 1 home (within_more 0 home deep))
  within_three (suc (suc (suc (suc deeper)))) home few deep = absurd (omega (arith, few))

-- ---- a list that is read on

-- the entries so far are listed, none has an empty path or label, and their servers are built in
pub record Holds (entries : List ListedEntry) : Type 0 where
  pub listed : AreListed entries
  pub some : (place : ℕ) (entry : ListedEntry) → slice_get entries place ≡ Some entry → (0 < length entry.path) × (0 < length entry.label)

-- a list is the machine's or that of an entry, within which inits may nest so deep; behind its init stand only entries of lists from
-- there on
pub record Stands (deeper : ℕ) (entries : List ListedEntry) (place : ListPlace) : Type 0 where
  pub few : deeper ≤ 3
  pub deep : is_within (3 - deeper) entries place.init ≡ true
  pub machine : place.init ≡ 0 → (place.path ≡ []) × (place.label ≡ [])
  pub init : (p : ℕ) → place.init ≡ p + 1 → (entry : ListedEntry) × (slice_get entries p ≡ Some entry) × ((place.path ≡ entry.path) × (place.label ≡ entry.label))
  pub list : is_list entries place.init ≡ true
  pub after : (between : ℕ) (other : ListedEntry) → place.init ≤ between → slice_get entries between ≡ Some other → place.init ≤ other.home

-- a name that isn't taken is no entry's of the list
free_by : (p : ListedEntry → Bool) (entries : List ListedEntry) (q : ℕ) (x : ListedEntry) → list_any p entries ≡ false → slice_get entries q ≡ Some x → p x ≡ false
free_by p [] q x none there = cc there
free_by p (y ∷ ys) q x none there = by_first (p y) refl none q there (λ k rest at. free_by p ys k x rest at) where
  by_first : (b : Bool) → p y ≡ b → list_any p (y ∷ ys) ≡ false → (k : ℕ) → slice_get (y ∷ ys) k ≡ Some x →
      ((k : ℕ) → list_any p ys ≡ false → slice_get ys k ≡ Some x → p x ≡ false) → p x ≡ false
  by_first true is none k there more = absurd (true≢false (grind (arith, is, none)))
  by_first false is none zero there more = subst (λ z. p z ≡ false) (same_Some y x there) is
  by_first false is none (suc k) there more = more k (grind (arith, is, none)) there

module _ {deeper : ℕ} {entries : List ListedEntry} {place : ListPlace} (holds : Holds entries) (stands : Stands deeper entries place)
    {flag : Bool} {met : ℕ} {head : EntryHead} (is : IsHead place flag (record { entries = entries; met = met }) head) where
  abbrev now : List ListedEntry
  now = entries ++ head.entry ∷ []

  grown_homes : HaveParentInits now
  grown_homes = (grow_by entries head.entry holds.listed.homes (subst (λ h. is_list entries h ≡ true) (sym is.home) stands.list)).homes

  last_joined : HasJoinedNames now head.entry
  last_joined = record {
    outermost = λ none.
        let empty = stands.machine (sym is.home ∙ none) in
        (is.path ∙ behind_none (codes "/") place.path head.entry.name empty.0, is.label ∙ behind_none (codes " -> ") place.label head.entry.name empty.1);
    within = λ p init at there.
        let found = stands.init p (sym is.home ∙ at) in
        let same : found.0 ≡ init = same_Some found.0 init (sym (still entries head.entry p found.0 found.1) ∙ there) in
        let long = holds.some p found.0 found.1 in (
          is.path ∙ ap (λ path. behind (codes "/") path head.entry.name) (found.2.0 ∙ ap (λ (x : ListedEntry). x.path) same)
              ∙ behind_some (codes "/") init.path head.entry.name (subst (λ (x : ListedEntry). 0 < length x.path) same long.0),
          is.label ∙ ap (λ label. behind (codes " -> ") label head.entry.name) (found.2.1 ∙ ap (λ (x : ListedEntry). x.label) same)
              ∙ behind_some (codes " -> ") init.label head.entry.name (subst (λ (x : ListedEntry). 0 < length x.label) same long.1),
        );
  }

  joined_still : (q : ℕ) (x : ListedEntry) → slice_get entries q ≡ Some x → HasJoinedNames now x
  joined_still q x there =
      let home = holds.listed.homes q x there in
      let inside = slice_get_within entries q x there in
      record {
        outermost = (holds.listed.joined q x there).outermost;
        within = λ p init at found. (holds.listed.joined q x there).within p init at (was entries head.entry p init (omega (arith, home.before, inside, at)) found);
      }

  not_alike : (q : ℕ) (x : ListedEntry) → slice_get entries q ≡ Some x → x.home ≡ head.entry.home → x.name ≡ head.entry.name → ⊥
  not_alike q x there home name =
      let free = free_by (λ entry. entry.home == place.init && bytes_eq entry.name head.entry.name) entries q x is.new there in
      let at : (x.home == place.init) ≡ true = eq-eqb x.home place.init (home ∙ is.home) in
      let called : bytes_eq x.name head.entry.name ≡ true = (bytes_eq-Decides x.name head.entry.name).1 name in
      true≢false (sym (ap (λ b. b && bytes_eq x.name head.entry.name) at ∙ called) ∙ free)

  one_more : AreListed now
  one_more = record {
    joined = λ q x there. elim (was_or_last entries head.entry q x there) [
      | inl old ↦ joined_still q x old
      | inr last ↦ subst (HasJoinedNames now) last.1 last_joined
    ];
    deep = λ q x there. elim (was_or_last entries head.entry q x there) [
      | inl old ↦ within_still entries head.entry 3 x.home (holds.listed.deep q x old)
      | inr last ↦
          subst (λ (y : ListedEntry). is_within 3 now y.home ≡ true) last.1
          (subst (λ h. is_within 3 now h ≡ true) (sym is.home) (within_three now deeper place.init stands.few (within_still entries head.entry (3 - deeper) place.init stands.deep)))
    ];
    differ = λ q r x y there here home name. elim (was_or_last entries head.entry q x there) [
      | inl old ↦ elim (was_or_last entries head.entry r y here) [
        | inl older ↦ holds.listed.differ q r x y old older home name
        | inr last ↦ absurd (not_alike q x old (home ∙ ap (λ (z : ListedEntry). z.home) (sym last.1)) (name ∙ ap (λ (z : ListedEntry). z.name) (sym last.1)))
      ]
      | inr last ↦ elim (was_or_last entries head.entry r y here) [
        | inl older ↦ absurd (not_alike r y older (sym home ∙ ap (λ (z : ListedEntry). z.home) (sym last.1)) (sym name ∙ ap (λ (z : ListedEntry). z.name) (sym last.1)))
        | inr both ↦ last.0 ∙ sym both.0
      ]
    ];
    homes = grown_homes;
    together = λ init between q x other there at more less found. elim (was_or_last entries head.entry q x there) [
      | inl old ↦ holds.listed.together init between q x other old at more less (was entries head.entry between other (omega (arith, less, slice_get_within entries q x old)) found)
      | inr last ↦
          let home : place.init ≡ init + 1 = sym is.home ∙ ap (λ (z : ListedEntry). z.home) last.1 ∙ at in
          let behind_it = stands.after between other (omega (arith, home, more)) (was entries head.entry between other (omega (arith, less, last.0)) found) in
          omega (arith, behind_it, home)
    ];
  }

  pub holds_more : Holds now
  holds_more = record {
    listed = one_more;
    some = λ q x there. elim (was_or_last entries head.entry q x there) [
      | inl old ↦ holds.some q x old
      | inr last ↦
          subst (λ (y : ListedEntry). (0 < length y.path) × (0 < length y.label)) last.1 (
            subst (λ p. 0 < length p) (sym is.path) (behind_longer (codes "/") place.path head.entry.name is.some),
            subst (λ p. 0 < length p) (sym is.label) (behind_longer (codes " -> ") place.label head.entry.name is.some),
          )
    ];
  }

  -- the lists around it stand still
  pub stands_more : (d : ℕ) (p : ListPlace) → p.init ≤ place.init → Stands d entries p → Stands d now p
  stands_more d p outer s = record {
    few = s.few;
    deep = within_still entries head.entry (3 - d) p.init s.deep;
    machine = s.machine;
    init = λ k at. let found = s.init k at in (found.0, still entries head.entry k found.0 found.1, found.2);
    list = (grow_by entries head.entry holds.listed.homes (subst (λ h. is_list entries h ≡ true) (sym is.home) stands.list)).lists p.init s.list;
    after = λ between other behind_it there. elim (was_or_last entries head.entry between other there) [
      | inl old ↦ s.after between other behind_it old
      | inr last ↦ subst (λ (y : ListedEntry). p.init ≤ y.home) last.1 (omega (arith, outer, is.home))
    ];
  }

-- the list that an entry starts stands behind it
stands_within : (deeper : ℕ) (entries : List ListedEntry) (place : ListPlace) (met : ℕ) (head : EntryHead) → Holds entries → Stands (suc deeper) entries place →
    IsHead place true (record { entries = entries; met = met }) head → is_init head.entry ≡ true →
    Stands deeper (entries ++ head.entry ∷ []) (place_within (length entries) head.entry)
stands_within deeper entries place met head holds stands is init =
    let now = entries ++ head.entry ∷ [] in
    let next : suc (length entries) ≡ length entries + 1 = omega arith in
    let room : 3 - deeper ≡ suc (3 - suc deeper) = (let few = stands.few in omega (arith, few)) in
    let here : is_within (3 - suc deeper) now head.entry.home ≡ true = subst (λ h. is_within (3 - suc deeper) now h ≡ true) (sym is.home) (within_still entries head.entry (3 - suc deeper) place.init stands.deep) in
    let deep : is_within (suc (3 - suc deeper)) now (suc (length entries)) ≡ true
    = ap (λ o. unwrap_or (option_map (λ (i : ListedEntry). is_within (3 - suc deeper) now i.home) o) false) (last_there entries head.entry) ∙ here in
    record {
      few = (let few = stands.few in omega (arith, few));
      deep = subst (λ n. is_within n now (length entries + 1) ≡ true) (sym room) (subst (λ h. is_within (suc (3 - suc deeper)) now h ≡ true) next deep);
      machine = λ none. absurd (omega (arith, none));
      init = λ p at. let same : p ≡ length entries = omega (arith, at) in (head.entry, ap (slice_get now) same ∙ last_there entries head.entry, (refl, refl));
      list = last_list entries head.entry init;
      after = λ between other behind_it there.
          let longer : length now ≡ length entries + 1 = length-append entries (head.entry ∷ []) in
          absurd (omega (arith, behind_it, longer, slice_get_within now between other there));
    }

-- ---- as entries are read

-- so many values of a list of an init were read: the entries hold still, lists from there outward stand still, and the lists that
-- were met have as many entries more than were read as before, at most 32
pub record Extends (init count : ℕ) (so_far next : SoFar) : Type 0 where
  pub holds : Holds next.entries
  pub stands : (d : ℕ) (p : ListPlace) → p.init ≤ init → Stands d so_far.entries p → Stands d next.entries p
  pub counted : next.met + (length so_far.entries + count) ≡ length next.entries + so_far.met
  pub few : next.met ≤ 32

-- what a way to read entries of a list does
abbrev pub ListReader : ℕ → Reads → Type 0
ListReader deeper reads = (place : ListPlace) (so_far next : SoFar) (d : Data) → reads place so_far d ≡ Ok next → Holds so_far.entries → Stands deeper so_far.entries place → so_far.met ≤ 32 →
    Extends place.init 1 so_far next

-- one value after another
step_read : (r : Result SoFar ListFault) (f : SoFar → Result SoFar ListFault) (next : SoFar) → (r >>= f) ≡ Ok next → (middle : SoFar) × (r ≡ Ok middle) × (f middle ≡ Ok next)
step_read (Ok middle) f next is = (middle, refl, is)
step_read (Err misread) f next is = cc

pub all_extend : (deeper : ℕ) (reads : Reads) → ListReader deeper reads → (place : ListPlace) (so_far next : SoFar) (ds : List Data) → all_read reads place so_far ds ≡ Ok next →
    Holds so_far.entries → Stands deeper so_far.entries place → so_far.met ≤ 32 → Extends place.init (length ds) so_far next
all_extend deeper reads each place so_far next [] is holds stands few =
    let same : so_far ≡ next = cc in
    subst (Extends place.init 0 so_far) same (record { holds = holds; stands = λ d p outer s. s; counted = omega arith; few = few })
all_extend deeper reads each place so_far next (d ∷ ds) is holds stands few =
    let step = step_read (reads place so_far d) (λ s. all_read reads place s ds) next is in
    let one = each place so_far step.0 d step.1 holds stands few in
    let rest = all_extend deeper reads each place step.0 next ds step.2 one.holds (one.stands deeper place (omega arith) stands) one.few in
    record {
      holds = rest.holds;
      stands = λ k p outer s. rest.stands k p outer (one.stands k p outer s);
      counted = omega (arith, one.counted, rest.counted);
      few = rest.few;
    }

-- an entry without others
alone : (deeper : ℕ) (place : ListPlace) (flag : Bool) (so_far : SoFar) (head : EntryHead) → Holds so_far.entries → Stands deeper so_far.entries place → so_far.met ≤ 32 →
    IsHead place flag so_far head → head.starts ≡ [] → Extends place.init 1 so_far (with_head so_far head)
alone deeper place flag so_far head holds stands few is none =
    let longer : length (so_far.entries ++ head.entry ∷ []) ≡ length so_far.entries + 1 = length-append so_far.entries (head.entry ∷ []) in
    record {
      holds = holds_more holds stands is;
      stands = stands_more holds stands is;
      counted = omega (arith, longer, ap length none);
      few = omega (arith, few, ap length none);
    }

-- and one with those that it starts
with_own : (deeper : ℕ) (place : ListPlace) (so_far next : SoFar) (head : EntryHead) → ListReader deeper (read_within deeper) → Holds so_far.entries → Stands (suc deeper) so_far.entries place →
    IsHead place true so_far head → StartsOthers head.entry.binary true so_far.met head.starts →
    all_read (read_within deeper) (place_within (length so_far.entries) head.entry) (with_head so_far head) head.starts ≡ Ok next → Extends place.init 1 so_far next
with_own deeper place so_far next head each holds stands is others reads =
    let longer : length (so_far.entries ++ head.entry ∷ []) ≡ length so_far.entries + 1 = length-append so_far.entries (head.entry ∷ []) in
    let within = stands_within deeper so_far.entries place so_far.met head holds stands is others.init in
    let rest = all_extend deeper (read_within deeper) each (place_within (length so_far.entries) head.entry) (with_head so_far head) next head.starts reads (holds_more holds stands is) within others.few in
    let before : place.init ≤ length so_far.entries = (let last = slice_get_within (so_far.entries ++ head.entry ∷ []) (length so_far.entries) head.entry (last_there so_far.entries head.entry) in
    let home = (holds_more holds stands is).listed.homes (length so_far.entries) head.entry (last_there so_far.entries head.entry) in omega (arith, home.before, is.home)) in
    record {
      holds = rest.holds;
      stands = λ k p outer s. rest.stands k p (omega (arith, outer, before)) (stands_more holds stands is k p outer s);
      counted = omega (arith, rest.counted, longer);
      few = rest.few;
    }

-- where nothing is started nothing more is read
none_more : (reads : Reads) (place : ListPlace) (so_far next : SoFar) (starts : List Data) → starts ≡ [] → all_read reads place so_far starts ≡ Ok next → so_far ≡ next
none_more reads place so_far next [] none read = cc
none_more reads place so_far next (d ∷ ds) none read = absurd cc

alone_ends : (reads : Reads) (so_far next : SoFar) (head : EntryHead) → head.starts ≡ [] →
    all_read reads (place_within (length so_far.entries) head.entry) (with_head so_far head) head.starts ≡ Ok next → with_head so_far head ≡ next
alone_ends reads so_far next head none read = none_more reads (place_within (length so_far.entries) head.entry) (with_head so_far head) next head.starts none read

-- a fault reads nothing
not_read : (misread : ListFault) (next : SoFar) → let r : Result SoFar ListFault = Err misread in r ≡ Ok next → ⊥
not_read misread next is = cc

pub within_reads : (deeper : ℕ) → ListReader deeper (read_within deeper)
within_reads zero place so_far next d is holds stands few = by_head (head_of place false so_far d) refl is where
  by_head : (r : Result EntryHead ListFault) → head_of place false so_far d ≡ r → read_own (λ _ s _. Ok s) so_far (at_entry (length so_far.entries) r) ≡ Ok next → Extends place.init 1 so_far next
  by_head (Err fault) told read = absurd (not_read _ next read)
  by_head (Ok head) told read =
      let its = head_is place false so_far d head told in
      let none : head.starts ≡ [] = elim its.starts [ inl none ↦ none | inr others ↦ absurd (false≢true others.deep) ] in
      subst (Extends place.init 1 so_far) (alone_ends (λ _ s _. Ok s) so_far next head none read) (alone zero place false so_far head holds stands few its none)
within_reads (suc deeper) place so_far next d is holds stands few = by_head (head_of place true so_far d) refl is (within_reads deeper) where
  by_head : (r : Result EntryHead ListFault) → head_of place true so_far d ≡ r → read_own (read_within deeper) so_far (at_entry (length so_far.entries) r) ≡ Ok next →
      ListReader deeper (read_within deeper) → Extends place.init 1 so_far next
  by_head (Err fault) told read more = absurd (not_read _ next read)
  by_head (Ok head) told read more =
      let its = head_is place true so_far d head told in
      elim its.starts [
        | inl none ↦ subst (Extends place.init 1 so_far) (alone_ends (read_within deeper) so_far next head none read) (alone (suc deeper) place true so_far head holds stands few its none)
        | inr others ↦ with_own deeper place so_far next head more holds stands its others read
      ]

-- ---- before the first

pub holds_none : Holds []
holds_none = record {
  listed = record {
    joined = λ q x there. absurd (nothing q x there);
    deep = λ q x there. absurd (nothing q x there);
    differ = λ q r x y there. absurd (nothing q x there);
    homes = no_homes;
    together = λ init between q x other there. absurd (nothing q x there);
  };
  some = λ q x there. absurd (nothing q x there);
} where
  nothing : (q : ℕ) (x : ListedEntry) → slice_get [] q ≡ Some x → ⊥
  nothing q x there = omega (arith, slice_get_within [] q x there)

pub stands_first : Stands 3 [] outermost
stands_first = record {
  few = omega arith;
  deep = refl;
  machine = λ _. (refl, refl);
  init = λ p at. absurd (omega (arith, at));
  list = refl;
  after = λ between other _ there. omega arith;
}
