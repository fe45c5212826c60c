-- The smallest machine for a sum.
use Rattle.std.proofs.Common.{arith, ◌≡◌, ℕ, ◌+◌, ◌*◌, ◌<◌, ◌≤◌, subst, sym}
use Rattle.std.proofs.lemmas.Grind.{div_ceil_times}
use Rattle.std.specs.Prelude.{◌/◌, ◌%◌, max, min}
use Rattle.own_model.specs.Amounts.{Amounts}
use Rattle.budget_least.specs.MachineSizes.{Covers, IsSmallest}

module _ (sum : Amounts) (least pages : ℕ) (rounded : least ≡ sum.ram / 4096 + min 1 (sum.ram % 4096)) (is : pages ≡ max least 16) where
  covered : sum.ram ≤ least * 4096
  covered = subst (λ n. sum.ram ≤ n * 4096) (sym rounded) (div_ceil_times sum.ram 4096 (omega arith)).0

  below : least * 4096 < sum.ram + 4096
  below = subst (λ n. n * 4096 < sum.ram + 4096) (sym rounded) (div_ceil_times sum.ram 4096 (omega arith)).1

  pub no_pages : 4096 < pages → (p k : ℕ) → ¬ Covers sum p k
  no_pages more p k covers =
      let some = covers.some_pages in
      let most = covers.most_pages in
      let ram = covers.ram in
      omega (arith, is, more, some, most, ram, below)

  pub smallest : (caps : ℕ) → caps ≡ max sum.caps 16 → pages ≤ 4096 → caps ≤ 4096 → IsSmallest sum (record { pages = pages; caps = caps })
  smallest caps enough most few = record {
    covers = record {
      some_pages = omega (arith, is);
      most_pages = most;
      some_caps = omega (arith, enough);
      most_caps = few;
      ram = omega (arith, is, covered);
      enough_caps = omega (arith, enough);
    };
    pages = λ p k covers. let some = covers.some_pages in let ram = covers.ram in omega (arith, is, some, ram, below);
    caps = λ p k covers. let some = covers.some_caps in let more = covers.enough_caps in omega (arith, enough, some, more);
  }

pub no_caps : (sum : Amounts) (caps : ℕ) → caps ≡ max sum.caps 16 → 4096 < caps → (p k : ℕ) → ¬ Covers sum p k
no_caps sum caps is more p k covers =
    let some = covers.some_caps in
    let most = covers.most_caps in
    let enough = covers.enough_caps in
    omega (arith, is, more, some, most, enough)
