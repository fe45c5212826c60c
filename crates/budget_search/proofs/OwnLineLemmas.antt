-- What a run shows of its lines, line by line.
use Rattle.std.proofs.lemmas.List.{drop_all}
use Rattle.std.proofs.lemmas.Bool.{OnFalse_at, OnTrue_at, or_parts}
use Rattle.std.proofs.Common.{◌≡◌, ℕ, suc, ◌+◌, ◌<◌, ◌≤◌, Bool, true, false, true≢false, drop, get_or, drop-cons, add-one, List, [], ◌∷◌, ◌++◌, append_assoc, append-nil, length, refl, sym, ap, ◌∙◌}
use Rattle.std.specs.Bool.{OnFalse, OnTrue}
use Rattle.std.specs.Prelude.{if◌then◌else◌, Option, Some, None}
use Rattle.trade_base.specs.declared.refusal.Refusal.TheVariants.{OutOfRam, OutOfCaps}
use Rattle.own_model.specs.Account.{Account}
use Rattle.own_model.specs.Amounts.{Amounts}
use Rattle.own_model.specs.Call.{Call, is_exit}
use Rattle.own_model.specs.Call.Call.{Exit, Request}
use Rattle.own_model.specs.OwnState.{OwnState}
use Rattle.own_model.specs.OwnStep.{own_step}
use Rattle.own_model.specs.Reply.{Reply, reply_text}
use Rattle.own_model.specs.Reply.Reply.{Refused}
use Rattle.own_model.specs.StartList.{Entry}
use Rattle.own_model.specs.Transcript.{state_at}
use Rattle.own_model.specs.World.{World}
use Rattle.budget_theorems.specs.Shortfall.{is_short, wants}
use Rattle.budget_theorems.specs.Test.{Test}
use Rattle.budget_meter.specs.Asked.{asked_by}
use Rattle.budget_meter.specs.NeededAmounts.{amount_tests}
use Rattle.budget_meter.specs.declared.account.AccountMeter.{AccountMeter}
use Rattle.budget_meter.specs.declared.budget.Budget.{Budget}
use Rattle.budget_search.specs.Run.{HasLinesLeft}
use Rattle.budget_search.specs.OwnLines.{lines_as, lines_by, lines_on, lines_with, own_lines, quota_short, shown_short}
use Rattle.budget_search.specs.RunLines.{RunLines, ended_by, no_lines, preceded, skipped_by, skipped_lines}
use Rattle.budget_search.specs.Steps.{Mark, any_left_out, call_of, mark_of}
use Rattle.budget_search.specs.declared.component_line.ComponentLine.{ComponentLine}
use Rattle.budget_search.specs.declared.trial.RefusedLine.{RefusedLine}
use Rattle.budget_search.specs.declared.trial.SkippedLine.{SkippedLine}

-- ---- the reply

short_shown : (reply : Reply) → is_short reply ≡ true → quota_short reply ≡ shown_short (reply_text reply)
short_shown (Refused OutOfRam) is = refl
short_shown (Refused OutOfCaps) is = refl
short_shown reply is = absurd (true≢false (sym is))

-- the text of the reply to a call that is short of quota shows the quota
pub wanted_shown : (call : Call) (reply : Reply) → wants call reply ≡ true → quota_short reply ≡ shown_short (reply_text reply)
wanted_shown (Request text) reply is = absurd (true≢false (sym is))
wanted_shown call reply is = short_shown reply is

-- ---- the lines so far

-- lines with more that are left out
preceded_twice : (so_far more : List SkippedLine) (lines : RunLines) → preceded (so_far ++ more) lines ≡ preceded so_far (preceded more lines)
preceded_twice so_far more lines = ap (λ each. record { left_out = each; refused = lines.refused }) (append_assoc so_far more lines.left_out)

-- the lines of a run that ends
pub preceded_ended : (so_far : List SkippedLine) (refused : Option RefusedLine) → preceded so_far (ended_by refused) ≡ record { left_out = so_far; refused = refused }
preceded_ended so_far refused = ap (λ each. record { left_out = each; refused = refused }) (append-nil so_far)

-- of what a line asks for, that is recorded which is left out
pub skipped_is : (budget : Amounts) (account : Account) (number : ℕ) (left_out may_be_short : Bool) (all asked : Option Budget) (tests : List Test) → amount_tests all ≡ tests →
    OnTrue may_be_short (asked ≡ all) → OnFalse may_be_short (asked ≡ None) →
    skipped_lines budget account number (amount_tests asked)
    ≡ skipped_by budget account (record { number = number; left_out = left_out; may_be_short = may_be_short }) tests
skipped_is budget account number left_out true all asked tests is short other =
    ap (skipped_lines budget account number) (ap amount_tests (OnTrue_at refl short) ∙ is)
skipped_is budget account number left_out false all asked tests is short other =
    ap (λ one. skipped_lines budget account number (amount_tests one)) (OnFalse_at refl other)

-- ---- what is left of a run

module _ (world : World) (component : ℕ) (meter : AccountMeter) (so_far : List SkippedLine) (one : OwnState → RunLines) (whole : RunLines)
    (has : HasLinesLeft world component meter so_far one whole) where
  abbrev now : OwnState
  now = state_at world.states component

  -- the same is left
  pub same_lines : (other : OwnState → RunLines) → one now ≡ other now → HasLinesLeft world component meter so_far other whole
  same_lines other same = record {
    heard = has.heard;
    budget = has.budget;
    s = has.s;
    left = has.left;
    whole_is = ap (preceded so_far) (sym same) ∙ has.whole_is;
  }

  -- more lines are left out
  pub more_left_out : (more : List SkippedLine) (rest : OwnState → RunLines) → one now ≡ preceded more (rest now) →
      HasLinesLeft world component meter (so_far ++ more) rest whole
  more_left_out more rest is = record {
    heard = has.heard;
    budget = has.budget;
    s = has.s;
    left = has.left;
    whole_is = preceded_twice so_far more (rest now) ∙ ap (preceded so_far) (sym is) ∙ has.whole_is;
  }

  -- no line is left
  pub none_left : one now ≡ no_lines → record { left_out = so_far; refused = None } ≡ whole
  none_left is = sym (preceded_ended so_far None) ∙ ap (preceded so_far) (sym is) ∙ has.whole_is

-- ---- one line

module _ (entry : Entry) (budget : Amounts) (mark : Mark) (rest : OwnState → RunLines) (s : OwnState) (made : Option Call) where
  module _ (call : Call) (is : Some call ≡ made) where
    -- a line that is left out
    pub lines_left_out : mark.left_out ≡ true → lines_with entry budget mark made rest s ≡ preceded (skipped_by budget s.account mark (asked_by call)) (rest s)
    lines_left_out out =
        (λ k. lines_with entry budget mark (sym is k) rest s)
        ∙ ap (λ b. if b then preceded (skipped_by budget s.account mark (asked_by call)) (rest s) else lines_on entry mark.number call rest s) out

    lines_made : mark.left_out ≡ false → lines_with entry budget mark made rest s ≡ lines_on entry mark.number call rest s
    lines_made stays =
        (λ k. lines_with entry budget mark (sym is k) rest s)
        ∙ ap (λ b. if b then preceded (skipped_by budget s.account mark (asked_by call)) (rest s) else lines_on entry mark.number call rest s) stays

    on_call : (each : Call) → is_exit each ≡ false → lines_on entry mark.number each rest s ≡ lines_by entry mark.number each rest s
    on_call Exit on = absurd (true≢false on)
    on_call each on = refl

    on_exit : (each : Call) → is_exit each ≡ true → lines_on entry mark.number each rest s ≡ no_lines
    on_exit Exit ends = refl
    on_exit each ends = absurd (true≢false (sym ends))

    -- a line that makes its call
    pub lines_of_call : mark.left_out ≡ false → is_exit call ≡ false → lines_with entry budget mark made rest s ≡ lines_by entry mark.number call rest s
    lines_of_call stays on = lines_made stays ∙ on_call call on

    -- an exit
    pub lines_of_exit : mark.left_out ≡ false → is_exit call ≡ true → lines_with entry budget mark made rest s ≡ no_lines
    lines_of_exit stays ends = lines_made stays ∙ on_exit call ends

-- ---- lines

module _ (entry : Entry) (budget : Amounts) (steps : List ComponentLine) (i : ℕ) (s : OwnState) where
  -- from the line at a place on
  pub next_lines : (item : ComponentLine) → i < length steps → item ≡ get_or steps i item →
      own_lines entry budget (drop i steps) s ≡ lines_with entry budget (mark_of item) (call_of item) (own_lines entry budget (drop (i + 1) steps)) s
  next_lines item within is =
      ap (λ each. own_lines entry budget each s) (drop-cons steps i item within)
      ∙ (λ k. lines_with entry budget (mark_of (sym is k)) (call_of (sym is k)) (own_lines entry budget (drop (suc i) steps)) s)
      ∙ ap (λ n. lines_with entry budget (mark_of item) (call_of item) (own_lines entry budget (drop n steps)) s) (sym (add-one i))

  -- after the last line
  pub last_lines : length steps ≤ i → own_lines entry budget (drop i steps) s ≡ no_lines
  last_lines past = ap (λ each. own_lines entry budget each s) (drop_all i steps past)

-- ---- without lines that are left out

module _ (entry : Entry) (budget : Amounts) where
  either_leaves_none : (short : Bool) (refused : Option RefusedLine) (rest : RunLines) → rest.left_out ≡ [] → (if short then ended_by refused else rest).left_out ≡ []
  either_leaves_none true refused rest none = refl
  either_leaves_none false refused rest none = none

  on_leaves_none : (number : ℕ) (call : Call) (rest : OwnState → RunLines) → ((t : OwnState) → (rest t).left_out ≡ []) → (s : OwnState) →
      (lines_on entry number call rest s).left_out ≡ []
  on_leaves_none number Exit rest none s = refl
  on_leaves_none number call rest none s =
      let outcome = own_step entry call s in
      either_leaves_none (wants call outcome.reply) (Some (record { line = number; shortage = quota_short outcome.reply })) (rest outcome.next) (none outcome.next)

  with_leaves_none : (mark : Mark) (made : Option Call) (rest : OwnState → RunLines) → mark.left_out ≡ false → ((t : OwnState) → (rest t).left_out ≡ []) → (s : OwnState) →
      (lines_with entry budget mark made rest s).left_out ≡ []
  with_leaves_none mark None rest stays none s = none s
  with_leaves_none mark (Some call) rest stays none s =
      ap (λ b. (if b then preceded (skipped_by budget s.account mark (asked_by call)) (rest s) else lines_on entry mark.number call rest s).left_out) stays
      ∙ on_leaves_none mark.number call rest none s

  -- if none is left out, a run leaves none out
  pub leaves_none_out : (call : ComponentLine → Option Call) (steps : List ComponentLine) → any_left_out steps ≡ false → (s : OwnState) →
      (lines_as call entry budget steps s).left_out ≡ []
  leaves_none_out call [] none s = refl
  leaves_none_out call (step ∷ steps) none s =
      let parts = or_parts step.is_left_out (any_left_out steps) none in
      with_leaves_none (mark_of step) (call step) (λ t. lines_as call entry budget steps t) parts.0 (λ t. leaves_none_out call steps parts.1 t) s
