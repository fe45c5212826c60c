-- The next line as far as the bytes ahead show it.
use Rattle.std.proofs.Common.{[], arith, rules}
use Rattle.std.proofs.lemmas.Grind.{common_steps}
use Rattle.std.proofs.lemmas.Result.{err_from_is_err_and}
use Rattle.run_lines.proofs.FaultLemmas.{told_at, told_then}
use Rattle.run_devices.proofs.GatheredLemmas.{Tells-more}
use Rattle.run_devices.proofs.LineLemmas.{line_length-kept}
use Rattle.run_lines.proofs.ReachLemmas.{behind_long, behind_passed, behind_wider, block_within, writes_at, writes_or_stops}
use Rattle.run_lines.specs.Reach.{longest_ahead, reach}
use Rattle.run_lines.proofs.ToCome.{Passes-kept, begins_with_line, no_line}
use Rattle.run_lines.proofs.lines.Buffers.next_line.Goals as goal

pub returns-then-seen-len-clause-finds : goal.returns-then-seen-len-clause-finds
returns-then-seen-len-clause-finds g c = record {
  next = begins_with_line _ _ _ _ c.loop-seen.invariant.come c.line_length-seen.ensures.value (omega arith);
  ready = (omega arith, omega arith);
  behind = behind_wider _ _ _ _ (λ _. longest_ahead) reach _ _ (block_within _) c.loop-seen.invariant.behind;
  told = c.loop-seen.invariant.told;
}

pub returns-then-seen-gt-LONGEST_LINE-clause-finds : goal.returns-then-seen-gt-LONGEST_LINE-clause-finds
returns-then-seen-gt-LONGEST_LINE-clause-finds g c = record {
  next = first_of (search rules, grind (arith, common_steps));
  ready = c.pass_long_line.ensures.finds.ready;
  behind =
      behind_long _ _ _ _ _ c.loop-seen.invariant.come c.loop-seen.invariant.told c.loop-seen.invariant.behind
      (writes_or_stops c.pass_long_line.result _ _ _ _ _ c.pass_long_line.ensures.finds.told) c.pass_long_line.ensures.finds.behind;
  told = told_then _ _ _ _ c.loop-seen.invariant.told c.pass_long_line.ensures.finds.told;
}

pub returns-in_err-read_more-clause-finds : goal.returns-in_err-read_more-clause-finds
returns-in_err-read_more-clause-finds g c =
    let p = err_from_is_err_and c.from_residual.result c.from_residual.ensures.1 in
    rw (p.1, p.2) (record {
      next = no_line _ _ _ _ _ _ _ c.loop-seen.invariant.come (omega arith) c.in_err-read_more.ensures.grows;
      ready = tt;
      behind =
          behind_wider _ _ _ _ (λ _. longest_ahead) reach _ _ (block_within _) (behind_passed _ _ _ _ 0 0 _ (omega arith) c.loop-seen.invariant.come c.loop-seen.invariant.told c.loop-seen.invariant.behind
          (writes_at c.in_err-read_more.field-0.0 _ _ _ _ c.in_err-read_more.ensures.told) c.in_err-read_more.ensures.behind);
      told = told_at (g.K.Sink.contents c.read_more.new.sink) [] c.in_err-read_more.field-0.0 c.loop-seen.invariant.told c.in_err-read_more.ensures.told;
    })

pub loop-seen-preserved : goal.loop-seen-preserved
loop-seen-preserved g c = record {
  seen = omega (arith, line_length-kept c.loop-seen.self.ahead c.read_more.new.self.ahead c.in_ok-read_more.ensures.grows.kept);
  come = Passes-kept _ _ _ _ c.loop-seen.invariant.come c.in_ok-read_more.ensures.grows.come;
  told = Tells-more c.loop-seen.invariant.told c.in_ok-read_more.ensures.told;
  behind =
      behind_passed _ _ _ _ 0 0 _ (omega arith) c.loop-seen.invariant.come c.loop-seen.invariant.told c.loop-seen.invariant.behind
      (record { out = c.in_ok-read_more.ensures.told.out; grows = c.in_ok-read_more.ensures.told.grows }) c.in_ok-read_more.ensures.behind;
  reads = c.in_ok-read_more.ensures.failing.reading;
  writes = c.in_ok-read_more.ensures.failing.writing;
}

pub returns-then-seen-eq0-clause-finds : goal.returns-then-seen-eq0-clause-finds
returns-then-seen-eq0-clause-finds g c = record {
  next = first_of (search rules, grind (arith, common_steps));
  ready = c.in_ok-read_more.ensures.empty;
  behind =
      behind_wider _ _ _ _ (λ _. longest_ahead) reach _ _ (block_within _) (behind_passed _ _ _ _ 0 0 _ (omega arith) c.loop-seen.invariant.come c.loop-seen.invariant.told c.loop-seen.invariant.behind
      (record { out = c.in_ok-read_more.ensures.told.out; grows = c.in_ok-read_more.ensures.told.grows }) c.in_ok-read_more.ensures.behind);
  told = Tells-more c.loop-seen.invariant.told c.in_ok-read_more.ensures.told;
}

pub returns-else-seen-eq0-clause-finds : goal.returns-else-seen-eq0-clause-finds
returns-else-seen-eq0-clause-finds g c = record {
  next = first_of (search rules, grind (arith, common_steps));
  ready = (omega (arith, line_length-kept c.loop-seen.self.ahead c.read_more.new.self.ahead c.in_ok-read_more.ensures.grows.kept, c.in_ok-read_more.ensures.grows.count), omega arith);
  behind =
      behind_wider _ _ _ _ (λ _. longest_ahead) reach _ _ (block_within _) (behind_passed _ _ _ _ 0 0 _ (omega arith) c.loop-seen.invariant.come c.loop-seen.invariant.told c.loop-seen.invariant.behind
      (record { out = c.in_ok-read_more.ensures.told.out; grows = c.in_ok-read_more.ensures.told.grows }) c.in_ok-read_more.ensures.behind);
  told = Tells-more c.loop-seen.invariant.told c.in_ok-read_more.ensures.told;
}
