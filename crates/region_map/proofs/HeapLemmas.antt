-- The heap window of a map always has a gap.
use Rattle.std.proofs.Common.{◌≡◌, ℕ, ◌+◌, ◌≤◌, sym, subst, ◌∙◌, arith}
use Rattle.std.specs.Prelude.{Option, IsSome}
use Rattle.own_model.specs.HeapWindow.{heap_gap, largest_machine, pages_of_all, FitMachine}
use Rattle.own_model.specs.Region.{first_gap}
use Rattle.own_model.proofs.HeapGapLemmas.{heap_gap_is_there, heap_gaps_agree}
use Rattle.region_map.specs.Window.{Window, AreWindows}

-- where so many pages more fit the machine, the window has a gap for them, and it is that of the largest machine
pub record HasGap (heap : Window) (pages : ℕ) : Type 0 where
  pub there : IsSome (first_gap heap.low heap.high heap.regions pages)
  pub lowest : heap_gap largest_machine heap.regions pages ≡ first_gap heap.low heap.high heap.regions pages

pub has_gap : (user heap : Window) (machine pages : ℕ) → AreWindows user heap machine → pages_of_all heap.regions + pages ≤ machine → HasGap heap pages
has_gap user heap machine pages is fits =
    let low = is.heap_from in
    let high = is.heap_to in
    let fit : FitMachine machine heap.regions = record { some = is.heap_sound.lie.some; few = omega arith } in
    let same : heap_gap machine heap.regions pages ≡ first_gap heap.low heap.high heap.regions pages = λ i. first_gap (sym low i) (sym high i) heap.regions pages in
    record {
      there = subst (λ (o : Option ℕ). IsSome o) same (heap_gap_is_there machine heap.regions pages fit (omega arith));
      lowest = sym (heap_gaps_agree machine largest_machine heap.regions pages fit (omega arith) is.few) ∙ same;
    }
