-- What a heap that was asked for a block of a chunk tests, by what is told of it.
use Rattle.std.proofs.lemmas.Bool.Decides.{nat_tests}
use Rattle.std.proofs.Common.{arith, ◌≡◌, ℕ, ◌+◌, ◌&&◌, Bool, true, false, cond, List, [], length, nat_lt, nat_le, refl, sym, ◌∙◌, true≢false}
use Rattle.std.specs.Prelude.{if◌then◌else◌, Option, Some, None, is_none}
use Rattle.trade_base.specs.Page.{is_valid_size}
use Rattle.trade_base.specs.declared.refusal.Refusal.TheVariants.{InvalidSize, OutOfRam, OutOfCaps, TooManyChunks}
use Rattle.own_model.specs.Account.{shortage}
use Rattle.own_model.specs.BestFit.{Spot}
use Rattle.own_model.specs.Growth.{Growth, most_chunks, is_large, hole_for, least_growth, larger_growth, small_refusal, heap_refusal}
use Rattle.own_model.specs.OwnState.{OwnState}
use Rattle.own_model.specs.OwnStep.{Outcome, unless, refused, own_heap_gap, grown_in, small_new, newed, block_taken}
use Rattle.own_model.specs.Reply.{reply_text}
use Rattle.budget_theorems.specs.Test.{Test, small_tests, growth_tests, heap_tests}
use Rattle.budget_meter.specs.NeededAmounts.{shows_growth}
use Rattle.budget_meter.proofs.ToldLemmas.{not_lt}

module _ (n : ℕ) (s : OwnState) where
  abbrev told : Outcome → Bool
  told o = shows_growth (reply_text o.reply) s.account o.next.account

  -- the growth number after it, where the heap was to grow
  abbrev number : Outcome → ℕ
  number o =
      if nat_lt s.account.caps_used o.next.account.caps_used && nat_le (s.account.ram_used + (larger_growth n s.heap.shape).bytes) s.account.ram_limit
      then (larger_growth n s.heap.shape).next else s.heap.shape.growth

  -- it tests as a heap that grows where that is told, and else nothing
  pub record Tells (each : List Test) (o : Outcome) : Type 0 where
    pub quiet : told o ≡ false → (each ≡ []) × (o.next.heap.shape.growth ≡ s.heap.shape.growth)
    pub grows : told o ≡ true → (each ≡ growth_tests n s.heap.shape s.account) × (o.next.heap.shape.growth ≡ number o)

  none_more : (c : ℕ) → nat_lt c c ≡ false
  none_more c = grind (arith, nat_tests)

  one_more : (c : ℕ) → nat_lt c (c + 1) ≡ true
  one_more c = grind (arith, nat_tests)

  -- refused for another reason, or answered without a growth
  invalid : Tells [] (refused s InvalidSize)
  invalid = record { quiet = λ _. (refl, refl); grows = λ e. absurd (true≢false (sym e ∙ none_more s.account.caps_used)) }

  full : Tells [] (refused s TooManyChunks)
  full = record { quiet = λ _. (refl, refl); grows = λ e. absurd (true≢false (sym e ∙ none_more s.account.caps_used)) }

  taken : (hole : Spot) → Tells [] (block_taken n hole s)
  taken hole = record { quiet = λ _. (refl, refl); grows = λ e. absurd (true≢false (sym e ∙ none_more s.account.caps_used)) }

  -- refused by the account
  still : (u : Bool) → s.heap.shape.growth ≡ (if nat_lt s.account.caps_used s.account.caps_used && u then (larger_growth n s.heap.shape).next else s.heap.shape.growth)
  still u = rw (none_more s.account.caps_used) refl

  short_ram : Tells (growth_tests n s.heap.shape s.account) (refused s OutOfRam)
  short_ram = record { quiet = λ e. absurd (true≢false e); grows = λ _. (refl, still _) }

  short_caps : Tells (growth_tests n s.heap.shape s.account) (refused s OutOfCaps)
  short_caps = record { quiet = λ e. absurd (true≢false e); grows = λ _. (refl, still _) }

  -- grown, where the account covers a capability more
  grown : (v : Bool) (gap : Option ℕ) → nat_lt s.account.ram_limit (s.account.ram_used + (larger_growth n s.heap.shape).bytes) ≡ v →
      Tells (growth_tests n s.heap.shape s.account)
      (grown_in n (cond (is_none (cond v (Some OutOfRam) (cond false (Some OutOfCaps) None))) (larger_growth n s.heap.shape) (least_growth n s.heap.shape)) gap s)
  grown v None is = short_ram
  grown true (Some start) is = record {
    quiet = λ e. absurd (true≢false (sym (one_more s.account.caps_used) ∙ e));
    grows = λ _. (refl, rw (one_more s.account.caps_used, not_lt (s.account.ram_used + (larger_growth n s.heap.shape).bytes) s.account.ram_limit true is) refl);
  }
  grown false (Some start) is = record {
    quiet = λ e. absurd (true≢false (sym (one_more s.account.caps_used) ∙ e));
    grows = λ _. (refl, rw (one_more s.account.caps_used, not_lt (s.account.ram_used + (larger_growth n s.heap.shape).bytes) s.account.ram_limit false is) refl);
  }

  abbrev large : ℕ
  large = (larger_growth n s.heap.shape).bytes

  abbrev least : ℕ
  least = (least_growth n s.heap.shape).bytes

  -- where the account covers the least chunk or not, and the larger one or not
  by_account : (u v w : Bool) (gap : Growth → Option ℕ) → nat_lt s.account.ram_limit (s.account.ram_used + large) ≡ w →
      Tells (growth_tests n s.heap.shape s.account)
      (unless (cond u (Some OutOfRam) (cond v (Some OutOfCaps) None)) s
      (grown_in n (cond (is_none (cond w (Some OutOfRam) (cond v (Some OutOfCaps) None))) (larger_growth n s.heap.shape) (least_growth n s.heap.shape))
      (gap (cond (is_none (cond w (Some OutOfRam) (cond v (Some OutOfCaps) None))) (larger_growth n s.heap.shape) (least_growth n s.heap.shape))) s))
  by_account true v w gap is = short_ram
  by_account false true w gap is = short_caps
  by_account false false w gap is = grown w (gap (cond (is_none (cond w (Some OutOfRam) (cond false (Some OutOfCaps) None))) (larger_growth n s.heap.shape) (least_growth n s.heap.shape))) is

  by_chunks : (full : Bool) → Tells (cond full [] (growth_tests n s.heap.shape s.account))
      (unless (cond full (Some TooManyChunks) (shortage s.account least 1)) s (small_new n None s))
  by_chunks true = full
  by_chunks false =
      by_account (nat_lt s.account.ram_limit (s.account.ram_used + least)) (nat_lt s.account.caps_limit (s.account.caps_used + 1))
      (nat_lt s.account.ram_limit (s.account.ram_used + large)) (λ growth. own_heap_gap growth.bytes s) refl

  by_hole : (hole : Option Spot) → Tells (small_tests n hole s.heap.shape s.account) (unless (small_refusal n hole s.heap.shape s.account) s (small_new n hole s))
  by_hole (Some hole) = taken hole
  by_hole None = by_chunks (nat_le most_chunks (length s.heap.shape.chunks))

  by_size : (valid : Bool) → Tells (cond valid (small_tests n (hole_for n s.heap.shape) s.heap.shape s.account) [])
      (unless (cond valid (small_refusal n (hole_for n s.heap.shape) s.heap.shape s.account) (Some InvalidSize)) s (small_new n (hole_for n s.heap.shape) s))
  by_size true = by_hole (hole_for n s.heap.shape)
  by_size false = invalid

  pub chunk_tells : is_large n ≡ false → Tells (heap_tests n s.heap.shape s.account) (unless (heap_refusal n s.heap.shape s.account) s (newed n s))
  chunk_tells small = rw small (by_size (is_valid_size n))
