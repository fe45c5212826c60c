use Rattle.std.proofs.Common.{◌≡◌, ◌++◌, map, option_map, sym, ap, ◌∙◌, arith}
use Rattle.serde_json.specs.View.{view}
use Rattle.list_faults.specs.Values.{seen, with_own}
use Rattle.list_faults.proofs.ValueLemmas.{own_more, own_none, own_other, place_more}
use Rattle.list_faults.proofs.values.+find_within.Goals as goal
use Rattle.list_faults.proofs.values.+find_within.Goals.{then-deeper-gt0+then-runs+in_ok-find_within, else-deeper-gt0, else-deeper-gt0-via-then-deeper-gt0+else-runs, else-deeper-gt0-via-else-deeper-gt0}

pub loop-place-preserved : goal.loop-place-preserved
loop-place-preserved t c =
    let deeper = c.args.deeper in
    let above = c.args.above.now in
    let place = c.loop-place.place in
    let entry = c.entry-item.result in
    let before = map seen c.loop-place.found.items in
    let now = map seen c.find.new.found.items in
    let after = map seen c.if-deeper-gt0.found.items in
    let more : after ≡ before ++ with_own deeper above (place, view entry) =
    elim c.if-deeper-gt0.branch [
      | then-deeper-gt0+then-runs+in_ok-find_within w ↦
          own_more deeper above place (view entry) before now after c.in_ok-steps.steps (option_map (λ value. view value.now) w.get.result)
          w.if-deeper-gt0.true (sym w.if-runs.true ∙ w.runs.ensures) c.in_ok-steps.ensures.steps w.get.ensures c.in_ok-steps.ensures.found
          (ap (λ found. map seen found.items) w.found-is ∙ w.in_ok-find_within.ensures)
      | else-deeper-gt0 w ↦
          ap (λ found. map seen found.items) w.found-is
          ∙ elim w.else-deeper-gt0.branch [
            | else-deeper-gt0-via-then-deeper-gt0+else-runs v ↦
                own_other deeper above place (view entry) before now (sym v.if-runs.false ∙ v.runs.ensures) c.in_ok-steps.ensures.found
            | else-deeper-gt0-via-else-deeper-gt0 v ↦ own_none deeper above place (view entry) before now (omega (arith, v.if-deeper-gt0.false)) c.in_ok-steps.ensures.found
          ]
    ]
    in
    place_more view (with_own deeper above) before after c.starts-entry-items.result.now place entry c.loop-place-test.true c.entry-item.is more
    ∙ c.loop-place.invariant
