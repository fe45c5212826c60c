-- What is passed of a long line, and what is left behind it.
use Rattle.std.proofs.Common.{◌≡◌, [], ℕ, ◌≤◌, length, arith, rules, ap, length-drop}
use Rattle.std.proofs.lemmas.Grind.{common_steps}
use Rattle.std.proofs.lemmas.Result.{err_from_is_err_and}
use Rattle.run_devices.specs.Lines.{line_length}
use Rattle.run_lines.proofs.FaultLemmas.{told_at}
use Rattle.run_devices.proofs.GatheredLemmas.{Tells-more}
use Rattle.run_lines.proofs.ReachLemmas.{behind_passed, behind_wider, passed_within, writes_at}
use Rattle.run_lines.specs.Reach.{reach}
use Rattle.run_lines.proofs.ToCome.{Passes-kept, IsLong-ahead, passed_on, long_line-within, long_line-end, is_endless, no_line}
use Rattle.run_lines.proofs.lines.Buffers.pass_long_line.Goals as goal

pub returns-then-passed-length-gt-LONGEST_READ-clause-finds :
    goal.returns-then-passed-length-gt-LONGEST_READ-clause-finds
returns-then-passed-length-gt-LONGEST_READ-clause-finds g c = record {
  next = is_endless _ _ _ _ _ c.loop-passed.invariant.come c.line_length-length.ensures.value (omega arith);
  ready = tt;
  behind =
      behind_wider _ _ _ _ _ reach _ _ (passed_within _ _ _ (IsLong-ahead _ _ c.requires.long) c.loop-passed.invariant.come)
      c.loop-passed.invariant.behind;
  told = first_of (search rules, grind (arith, common_steps));
}

pub returns-then-is_whole-clause-finds : goal.returns-then-is_whole-clause-finds
returns-then-is_whole-clause-finds g c = record {
  next = long_line-within _ _ _ _ _ _ (IsLong-ahead _ _ c.requires.long) c.loop-passed.invariant.come c.line_length-length.ensures.value (omega arith) (omega arith) c.pass.ensures;
  ready = tt;
  behind =
      behind_wider _ _ _ _ _ reach _ _ (passed_within _ _ _ (IsLong-ahead _ _ c.requires.long) c.loop-passed.invariant.come)
      c.loop-passed.invariant.behind;
  told = c.loop-passed.invariant.told;
}

pub returns-in_err-read_more-clause-finds : goal.returns-in_err-read_more-clause-finds
returns-in_err-read_more-clause-finds g c =
    let p = err_from_is_err_and c.from_residual.result c.from_residual.ensures.1 in
    let none : length c.pass.new.self ≤ line_length c.pass.new.self = omega (arith, ap length c.pass.ensures, length-drop {A = ℕ}) in
    let passes = passed_on _ _ _ _ _ c.loop-passed.invariant.come c.line_length-length.ensures.value (omega arith) c.pass.ensures in
    rw (p.1, p.2) (record {
      next = no_line _ _ _ _ _ _ _ passes none c.in_err-read_more.ensures.grows;
      ready = tt;
      behind =
          behind_wider _ _ _ _ _ reach _ _ (passed_within _ _ _ (IsLong-ahead _ _ c.requires.long) passes)
          (behind_passed _ _ _ _ c.loop-passed.passed _ _ (omega arith) passes c.loop-passed.invariant.told c.loop-passed.invariant.behind
          (writes_at c.in_err-read_more.field-0.0 _ _ _ _ c.in_err-read_more.ensures.told) c.in_err-read_more.ensures.behind);
      told = told_at (g.K.Sink.contents c.read_more.new.sink) [] c.in_err-read_more.field-0.0 c.loop-passed.invariant.told c.in_err-read_more.ensures.told;
    })

pub returns-then-branch-eq0-clause-finds : goal.returns-then-branch-eq0-clause-finds
returns-then-branch-eq0-clause-finds g c =
    let none : length c.read_more.new.self.ahead ≡ 0 = omega (arith, ap length c.pass.ensures, length-drop {A = ℕ}, c.in_ok-read_more.ensures.grows.count) in
    let passes = passed_on _ _ _ _ _ c.loop-passed.invariant.come c.line_length-length.ensures.value (omega arith) c.pass.ensures in
    record {
      next =
          long_line-end _ _ _ _ (IsLong-ahead _ _ c.requires.long) (Passes-kept _ _ _ _ passes c.in_ok-read_more.ensures.grows.come)
          (omega arith) none (c.in_ok-read_more.ensures.grows.end c.if-branch-eq0.true);
      ready = tt;
      behind =
          behind_wider _ _ _ _ _ reach _ _ (passed_within _ _ _ (IsLong-ahead _ _ c.requires.long) passes)
          (behind_passed _ _ _ _ c.loop-passed.passed _ _ (omega arith) passes c.loop-passed.invariant.told c.loop-passed.invariant.behind
          (record { out = c.in_ok-read_more.ensures.told.out; grows = c.in_ok-read_more.ensures.told.grows }) c.in_ok-read_more.ensures.behind);
      told = Tells-more c.loop-passed.invariant.told c.in_ok-read_more.ensures.told;
    }

pub loop-passed-preserved : goal.loop-passed-preserved
loop-passed-preserved g c =
    let passes = passed_on _ _ _ _ _ c.loop-passed.invariant.come c.line_length-length.ensures.value (omega arith) c.pass.ensures in
    record {
      come = Passes-kept _ _ _ _ passes c.in_ok-read_more.ensures.grows.come;
      some = omega (arith, c.in_ok-read_more.ensures.grows.count);
      bounded = omega arith;
      told = Tells-more c.loop-passed.invariant.told c.in_ok-read_more.ensures.told;
      flushed = λ _. c.in_ok-read_more.ensures.empty;
      behind =
          behind_passed _ _ _ _ c.loop-passed.passed _ _ (omega arith) passes
          c.loop-passed.invariant.told c.loop-passed.invariant.behind
          (record { out = c.in_ok-read_more.ensures.told.out; grows = c.in_ok-read_more.ensures.told.grows }) c.in_ok-read_more.ensures.behind;
      reads = c.in_ok-read_more.ensures.failing.reading;
      writes = c.in_ok-read_more.ensures.failing.writing;
    }
