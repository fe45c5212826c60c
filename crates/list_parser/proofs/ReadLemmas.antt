-- Entries of lists, read one after another, each with those that it starts.
use Rattle.std.proofs.Common.{◌≡◌, ℕ, zero, suc, ◌+◌, ◌-◌, ◌<◌, ◌≤◌, nat_lt, true, List, [], ◌∷◌, ◌++◌, length, Ok, Err, refl, sym, ap, ◌∙◌, arith}
use Rattle.std.proofs.lemmas.Bool.Decides.{nat_tests}
use Rattle.serde_json.specs.Data.{Data}
use Rattle.list_parser.specs.declared.list_fault.ListFault.{ListFault}
use Rattle.list_parser.specs.FaultPlace.{at_entry, of_entry}
use Rattle.own_model.specs.Listed.{ListedEntry}
use Rattle.list_parser.specs.Depth.{IsBelow, Starts, reads_below}
use Rattle.list_parser.specs.Entries.{EntryHead, ListPlace, SoFar, all_read, head_of, place_within, read_own, read_within, with_head}
use Rattle.list_parser.specs.HeadParts.{head_in_parts}
use Rattle.list_parser.proofs.DepthLemmas.{last_list}
use Rattle.list_parser.proofs.HeadLemmas.{parts_are}

-- ---- one entry

-- its head, and then those that it starts
one_read : (deeper : ℕ) (place : ListPlace) (so_far : SoFar) (d : Data) →
    read_within deeper place so_far d ≡ read_own (reads_below deeper) so_far (at_entry (length so_far.entries) (head_of place (nat_lt 0 deeper) so_far d))
one_read zero place so_far d = refl
one_read (suc deeper) place so_far d = rw (is_more deeper) refl where
  is_more : (n : ℕ) → nat_lt 0 (suc n) ≡ true
  is_more n = grind (arith, nat_tests)

module _ (deeper : ℕ) (place : ListPlace) (so_far : SoFar) (d : Data) where
  -- a fault is told
  pub entry_misread : (fault : ListFault) → head_in_parts place (nat_lt 0 deeper) so_far d ≡ Err fault
      → read_within deeper place so_far d ≡ Err (of_entry (length so_far.entries) fault)
  entry_misread fault misread = one_read deeper place so_far d ∙ ap (λ h. read_own (reads_below deeper) so_far (at_entry (length so_far.entries) h)) (sym (parts_are place (nat_lt 0 deeper) so_far d) ∙ misread)

  -- what it starts is still to be read
  pub entry_read : (head : EntryHead) → head_in_parts place (nat_lt 0 deeper) so_far d ≡ Ok head
      → read_within deeper place so_far d ≡ all_read (reads_below deeper) (place_within (length so_far.entries) head.entry) (with_head so_far head) head.starts
  entry_read head is = one_read deeper place so_far d ∙ ap (λ h. read_own (reads_below deeper) so_far (at_entry (length so_far.entries) h)) (sym (parts_are place (nat_lt 0 deeper) so_far d) ∙ is)

  -- the same by what is then known of what was read and of where the list within stands
  pub entry_read_to : (head : EntryHead) (below : ListPlace) (next : SoFar) → head_in_parts place (nat_lt 0 deeper) so_far d ≡ Ok head
      → below ≡ place_within (length so_far.entries) head.entry → next.entries ≡ so_far.entries ++ head.entry ∷ [] → next.met ≡ so_far.met + length head.starts
      → read_within deeper place so_far d ≡ all_read (reads_below deeper) below next head.starts
  entry_read_to head below next is stands entries met =
      entry_read head is
      ∙ ap (λ p. all_read (reads_below deeper) p (with_head so_far head) head.starts) (sym stands)
      ∙ ap (λ es. all_read (reads_below deeper) below (record { entries = es; met = so_far.met + length head.starts }) head.starts) (sym entries)
      ∙ ap (λ m. all_read (reads_below deeper) below (record { entries = next.entries; met = m }) head.starts) (sym met)

-- the list of an init stands where it is to be read
pub starts_below : (deeper : ℕ) (entries now : List ListedEntry) (entry : ListedEntry) (below : ListPlace) → deeper ≤ 3 → Starts deeper entry
    → below ≡ place_within (length entries) entry → now ≡ entries ++ entry ∷ [] → IsBelow deeper now below
starts_below deeper entries now entry below deep starts stands entries_now =
    rw (stands, entries_now) (record {
      some = starts.some;
      within = record { deep = omega (arith, deep); path = starts.path; label = starts.label };
      list = last_list entries entry starts.init;
    })

-- the lists within are read as lists
pub below_less : (deeper : ℕ) → 0 < deeper → reads_below deeper ≡ read_within (deeper - 1)
below_less zero some = absurd (omega arith)
below_less (suc deeper) some = ap read_within (less deeper) where
  less : (n : ℕ) → n ≡ suc n - 1
  less n = omega arith
