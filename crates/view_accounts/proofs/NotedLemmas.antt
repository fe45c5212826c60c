-- What is noted of a session, once there is a call more.
use Rattle.std.proofs.Common.{◌≡◌, ℕ, ◌+◌, ◌-◌, ◌^◌, ◌<◌, ◌≤◌, true, false, List, [], ◌∷◌, ◌++◌, length, length-append, max, min, get_or, sym, ◌∙◌, ap, arith}
use Rattle.std.proofs.lemmas.List.{get_or_append_left, get_or-append-add}
use Rattle.own_model.specs.Listed.{Listed}
use Rattle.own_model.specs.Transcript.{entry_at}
use Rattle.own_model.specs.World.{World, world_running}
use Rattle.view_accounts.specs.ClosedByLines.{opening_line}
use Rattle.view_accounts.specs.Kept.{grown, in_use, noted_more}
use Rattle.view_accounts.specs.Peaks.{is_open, label_by, lasting, noted_of, opener, peak_of, server_by, session_account_at, since_open, worlds}
use Rattle.run_scenario.specs.Said.{said_in}
use Rattle.view_accounts.proofs.PeakLemmas.{grown_twice, lasting-later, lasting-more, lasting-none, length-worlds, peak-more, worlds-last, worlds-more}

most_of_one : (n : ℕ) → max n 0 ≡ n
most_of_one n = omega arith

-- a call of those before another, and that other
front : (calls : List (List ℕ)) (call : List ℕ) (i j : ℕ) → i ≡ j → i < length calls → get_or (calls ++ call ∷ []) j [] ≡ get_or calls i []
front calls call i j is within = ap (λ k. get_or (calls ++ call ∷ []) k []) (sym is) ∙ get_or_append_left calls (call ∷ []) [] i within

back : (calls : List (List ℕ)) (call : List ℕ) (j : ℕ) → j ≡ length calls + 0 → get_or (calls ++ call ∷ []) j [] ≡ call
back calls call j is = ap (λ k. get_or (calls ++ call ∷ []) k []) is ∙ get_or-append-add calls (call ∷ []) 0 []

module _ (component selector : ℕ) (start : World) where
  -- since a session is open that wasn't at the start there were no more worlds than calls
  few_since : is_open component selector start ≡ false → (calls : List (List ℕ)) → length (since_open component selector start calls) ≤ length calls
  few_since none [] = lasting-later (is_open component selector) start [] none
  few_since none (call ∷ calls) =
      let later : length (since_open component selector start (call ∷ calls)) ≤ length (worlds (world_running start (call ∷ [])) calls) =
      lasting-later (is_open component selector) start (worlds (world_running start (call ∷ [])) calls) none in
      omega (arith, later, length-worlds (world_running start (call ∷ [])) calls)

  module _ (calls : List (List ℕ)) where
    -- where it is open now there was one at least, and else none
    some_since : is_open component selector (world_running start calls) ≡ true → 1 ≤ length (since_open component selector start calls)
    some_since now =
        let last = worlds-last start calls in
        let is : since_open component selector start calls ≡ lasting (is_open component selector) last.0 ++ world_running start calls ∷ [] =
        ap (lasting (is_open component selector)) last.1 ∙ lasting-more (is_open component selector) last.0 (world_running start calls) now in
        omega (arith, ap length is, length-append (lasting (is_open component selector) last.0) (world_running start calls ∷ []))

    none_since : is_open component selector (world_running start calls) ≡ false → since_open component selector start calls ≡ []
    none_since closed =
        let last = worlds-last start calls in
        ap (lasting (is_open component selector)) last.1 ∙ lasting-none (is_open component selector) last.0 (world_running start calls) closed

    -- what is noted of one that is open covers its use now
    pub noted_last : (listed : Listed) → is_open component selector (world_running start calls) ≡ true →
        noted_more (noted_of listed start calls component selector) (session_account_at component selector (world_running start calls))
        ≡ noted_of listed start calls component selector
    noted_last listed now =
        let last = worlds-last start calls in
        let world = world_running start calls in
        let account_in = session_account_at component selector in
        let since : since_open component selector start calls ≡ lasting (is_open component selector) last.0 ++ world ∷ [] =
        ap (lasting (is_open component selector)) last.1 ∙ lasting-more (is_open component selector) last.0 world now in
        let peak = ap (peak_of account_in) since ∙ peak-more account_in (lasting (is_open component selector) last.0) world in
        λ i. record {
          peak = (ap (λ p. grown p (account_in world)) peak ∙ grown_twice (peak_of account_in (lasting (is_open component selector) last.0)) (account_in world) ∙ sym peak) i;
          server = server_by listed component (said_in (opener component selector start calls));
          label = label_by (entry_at start.entries component).label (said_in (opener component selector start calls));
        }

    module _ (call : List ℕ) (now : is_open component selector (world_running start (calls ++ call ∷ [])) ≡ true) where
      since_more : since_open component selector start (calls ++ call ∷ []) ≡ since_open component selector start calls ++ world_running start (calls ++ call ∷ []) ∷ []
      since_more =
          ap (lasting (is_open component selector)) (worlds-more start calls call)
          ∙ lasting-more (is_open component selector) (worlds start calls) (world_running start (calls ++ call ∷ [])) now

      -- a session that is still open has the same opener
      same_opener : is_open component selector start ≡ false → is_open component selector (world_running start calls) ≡ true →
          opener component selector start (calls ++ call ∷ []) ≡ opener component selector start calls
      same_opener none before =
          let some = some_since before in
          let few = few_since none calls in
          let one = length-append (since_open component selector start calls) (world_running start (calls ++ call ∷ []) ∷ []) in
          let more = length-append calls (call ∷ []) in
          let all = ap length since_more in
          front calls call (length calls - length (since_open component selector start calls))
          (length (calls ++ call ∷ []) - length (since_open component selector start (calls ++ call ∷ [])))
          (omega (arith, some, few, one, more, all)) (omega (arith, some, few))

      -- one that was just opened has this call for it
      this_opener : is_open component selector (world_running start calls) ≡ false → opener component selector start (calls ++ call ∷ []) ≡ call
      this_opener closed =
          let one : length (since_open component selector start (calls ++ call ∷ [])) ≡ 1 = ap length (since_more ∙ ap (λ ws. ws ++ world_running start (calls ++ call ∷ []) ∷ []) (none_since closed)) in
          let more = length-append calls (call ∷ []) in
          back calls call (length (calls ++ call ∷ []) - length (since_open component selector start (calls ++ call ∷ []))) (omega (arith, one, more))

      -- a session that is still open was opened by the same line
      pub same_line : opening_line start (calls ++ call ∷ []) component selector ≡ opening_line start calls component selector
      same_line =
          let one = length-append (since_open component selector start calls) (world_running start (calls ++ call ∷ []) ∷ []) in
          let more = length-append calls (call ∷ []) in
          let all = ap length since_more in
          let same : length (calls ++ call ∷ []) + 1 - length (since_open component selector start (calls ++ call ∷ [])) ≡ length calls + 1 - length (since_open component selector start calls) = omega (arith, one, more, all) in
          ap (λ n. min n (2 ^ 64 - 1)) same

      -- and one that was just opened by this line
      pub this_line : is_open component selector (world_running start calls) ≡ false → opening_line start (calls ++ call ∷ []) component selector ≡ min (length calls + 1) (2 ^ 64 - 1)
      this_line closed =
          let one : length (since_open component selector start (calls ++ call ∷ [])) ≡ 1 = ap length (since_more ∙ ap (λ ws. ws ++ world_running start (calls ++ call ∷ []) ∷ []) (none_since closed)) in
          let more = length-append calls (call ∷ []) in
          let same : length (calls ++ call ∷ []) + 1 - length (since_open component selector start (calls ++ call ∷ [])) ≡ length calls + 1 = omega (arith, one, more) in
          ap (λ n. min n (2 ^ 64 - 1)) same

      module _ (listed : Listed) where
        -- what is noted of one that is still open grows
        pub noted_still : is_open component selector start ≡ false → is_open component selector (world_running start calls) ≡ true →
            noted_of listed start (calls ++ call ∷ []) component selector
            ≡ noted_more (noted_of listed start calls component selector) (session_account_at component selector (world_running start (calls ++ call ∷ [])))
        noted_still none before =
            let opened = same_opener none before in
            let peak = ap (peak_of (session_account_at component selector)) since_more
            ∙ peak-more (session_account_at component selector) (since_open component selector start calls) (world_running start (calls ++ call ∷ [])) in
            λ i. record {
              peak = peak i;
              server = server_by listed component (said_in (opened i));
              label = label_by (entry_at start.entries component).label (said_in (opened i));
            }

        -- and of one that was just opened it begins
        pub noted_first : is_open component selector (world_running start calls) ≡ false →
            noted_of listed start (calls ++ call ∷ []) component selector
            ≡ record {
              peak = in_use (session_account_at component selector (world_running start (calls ++ call ∷ [])));
              server = server_by listed component (said_in call);
              label = label_by (entry_at start.entries component).label (said_in call);
            }
        noted_first closed =
            let opened = this_opener closed in
            let world = world_running start (calls ++ call ∷ []) in
            let since = since_more ∙ ap (λ ws. ws ++ world ∷ []) (none_since closed) in
            let account = session_account_at component selector world in
            λ i. record {
              peak = (ap (peak_of (session_account_at component selector)) since ∙ (λ j. record { ram = most_of_one account.ram_used j; caps = most_of_one account.caps_used j })) i;
              server = server_by listed component (said_in (opened i));
              label = label_by (entry_at start.entries component).label (said_in (opened i));
            }
