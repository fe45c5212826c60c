-- The reports of lines, and then of one more.
use Rattle.std.proofs.Common.{◌≡◌, ℕ, List, [], ◌∷◌, ◌++◌, Option, None, Some, refl, sym, ◌∙◌, ap, subst, append_assoc, append-nil}
use Rattle.std.specs.Io.KnownBytes.{Appends}
use Rattle.own_model.specs.World.{World}
use Rattle.line_steps.specs.RunPosition.{RunPosition}
use Rattle.run_lines.specs.Answered.{after_all}
use Rattle.run_devices.proofs.GatheredLemmas.{Appends-more}
use Rattle.run_lines.proofs.ToldLemmas.{left_by_both, left_none}
use Rattle.run_scenario.specs.Judging.{Awaited, awaited_after, awaited_behind}
use Rattle.run_scenario.specs.LineSteps.{call_of, left_behind, next_position, resolved_at, position_behind, steps_of}
use Rattle.run_scenario.specs.Reports.{left_over_report}
use Rattle.run_scenario.specs.RunCalls.{calls_of_steps}
use Rattle.run_scenario.specs.RunReports.{AreReported, IsReported, ReportScope, WritesAllReports, WritesReports}
use Rattle.run_scenario.specs.Writes.{start_at}

module _ (scope : ReportScope) (only : Option (List ℕ)) where
  -- one line more, after those that led there
  are_reported_more : (world : World) (position : RunPosition) (awaited : Awaited) (xs : List (List ℕ)) (line text more : List ℕ) → AreReported scope only world position awaited xs text →
      IsReported scope only (after_all only world (calls_of_steps (steps_of only world position xs))) (position_behind only world position xs) line (awaited_behind awaited (steps_of only world position xs)) more →
      AreReported scope only world position awaited (xs ++ line ∷ []) (text ++ more)
  are_reported_more world position awaited [] line text more is reported = (
    more,
    [],
    ap (λ front. front ++ more) is ∙ sym (append-nil more),
    subst (λ w. IsReported scope only w position line awaited more) (left_none only world) reported,
    refl,
  )
  are_reported_more world position awaited (x ∷ xs) line text more (first, rest, parts, one, others) reported =
      let left = left_behind only world position x in
      let next = next_position only world position x in
      let steps = steps_of only left next xs in (
        first,
        rest ++ more,
        ap (λ front. front ++ more) parts ∙ append_assoc first rest more,
        one,
        are_reported_more left next (awaited_after position.number (resolved_at only position x) awaited) xs line rest more others
            (subst (λ w. IsReported scope only w (position_behind only left next xs) line (awaited_behind (awaited_after position.number (resolved_at only position x) awaited) steps) more)
            (sym (left_by_both only world left _ (call_of only position x) (calls_of_steps steps) refl refl)) reported),
      )

  module _ (start mid : World) (first position : RunPosition) (begun awaited : Awaited) (xs : List (List ℕ)) (line : List ℕ) (left : mid ≡ after_all only start (calls_of_steps (steps_of only start first xs)))
      (stands : position ≡ position_behind only start first xs) (awaits : awaited ≡ awaited_behind begun (steps_of only start first xs)) where
    pub reports_more : (w w' w'' : Option (List ℕ)) (more : List ℕ) → WritesReports scope (start_at scope.list only start first begun) w w' xs → IsReported scope only mid position line awaited more → Appends w' w'' more →
        WritesReports scope (start_at scope.list only start first begun) w w'' (xs ++ line ∷ [])
    reports_more w w' w'' more (text, reported, grows) is then = (
      text ++ more,
      are_reported_more start first begun xs line text more reported
          (subst (λ a. IsReported scope only (after_all only start (calls_of_steps (steps_of only start first xs))) (position_behind only start first xs) line a more) awaits
          (subst (λ s. IsReported scope only (after_all only start (calls_of_steps (steps_of only start first xs))) s line awaited more) stands
          (subst (λ m. IsReported scope only m position line awaited more) left is))),
      Appends-more w w' w'' text more (text ++ more) grows then refl,
    )

  -- at first there are none
  pub reports_none : (start : World) (first : RunPosition) (begun : Awaited) (w : Option (List ℕ)) → WritesReports scope (start_at scope.list only start first begun) w w []
  reports_none start first begun w = ([], refl, none w)
    where
      none : (o : Option (List ℕ)) → Appends o o []
      none None = tt
      none (Some text) = sym (append-nil text)

  -- and then of what is left over
  pub reports_closed : (start : World) (first : RunPosition) (begun awaited : Awaited) (w w' w'' : Option (List ℕ)) (lines : List (List ℕ)) → awaited ≡ awaited_behind begun (steps_of only start first lines) →
      WritesReports scope (start_at scope.list only start first begun) w w' lines → Appends w' w'' (left_over_report scope.subject awaited) → WritesAllReports scope (start_at scope.list only start first begun) w w'' lines
  reports_closed start first begun awaited w w' w'' lines awaits (text, reported, grows) then =
      record {
        text = text;
        reported = reported;
        writes = Appends-more w w' w'' text _ _ grows then (ap (λ a. text ++ left_over_report scope.subject a) (sym awaits));
      }
