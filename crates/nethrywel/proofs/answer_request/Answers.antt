-- The command ends with the settings that the arguments give, or they give none.
use Rattle.std.proofs.Common.{◌≡◌, ◌∙◌, ℕ, List, Option, ap, false, inl, inr, subst}
use Rattle.std.specs.Prelude.{◌⊎◌}
use Rattle.std.specs.Borrow.{Bor}
use Rattle.cli_options.specs.Inputs.{files_read, reads_twice}
use Rattle.cli_options.specs.declared.command.CommandLine.{CommandLine}
use Rattle.line_names.specs.NameTable.{nothing}
use Rattle.cli_base.specs.Given.{HasNoSetting, HasUnread, given_by_all}
use Rattle.cli_base.specs.Statuses.{EndsAs}
use Rattle.cli_base.specs.declared.settings.Settings.{Settings}
use Rattle.cli_base.proofs.StatusLemmas.{ends_by}
use Rattle.nethrywel.specs.CommandStatus.{AnswersBy, AnswersRequest, AreGiven}
use Rattle.nethrywel.proofs.answer_request.Goals as goal

module _ (texts : List ℕ → Option (List ℕ)) (request : CommandLine) (status : ℕ) (once : reads_twice request.command ≡ false) where
  -- standard input is read once
  read_once : EndsAs (HasNoSetting request.given.items ⊎ HasUnread texts (files_read request.command) request.given.items)
      (λ ended. (settings : Settings) × AreGiven request.given.items settings × AnswersBy texts request.command settings ended) status
      → AnswersRequest texts request status
  read_once ends = rw once ends

  -- arguments give no settings
  no_settings : (given : List (Bor (List ℕ))) → given ≡ request.given.items → (status ≡ 1) ⊎ (status ≡ 2) × HasNoSetting given
      → AnswersRequest texts request status
  no_settings given is (inl one) = read_once (inl (inl (inl one)))
  no_settings given is (inr (two, none)) = read_once (inl (inr (two, inl (subst (λ (g : List (Bor (List ℕ))). HasNoSetting g) is none))))

  -- the command ends with these settings
  with_settings : (settings : Settings) → AreGiven request.given.items settings
      → EndsAs (HasUnread texts (files_read request.command) settings.given.now) (AnswersBy texts request.command settings) status
      → AnswersRequest texts request status
  with_settings settings given ends =
      read_once (ends_by (HasUnread texts (files_read request.command) settings.given.now)
      (HasNoSetting request.given.items ⊎ HasUnread texts (files_read request.command) request.given.items)
      (AnswersBy texts request.command settings)
      (λ ended. (used : Settings) × AreGiven request.given.items used × AnswersBy texts request.command used ended)
      (λ unread. inr (subst (λ (g : List (Bor (List ℕ))). HasUnread texts (files_read request.command) g) given.1 unread))
      (λ ended answers. (settings, given, answers)) status ends)

pub returns-in-Ok : goal.returns-in-Ok
returns-in-Ok g c =
    let request = c.args.request.now in
    let once : reads_twice request.command ≡ false = cc in
    with_settings (g.H.Host.text_at c.args.host.now) request c.answer_named.result once c.new.result (
      c.new.ensures.names ∙ c.in-Ok.ensures.known ∙ ap (given_by_all nothing) c.as_slice.ensures.value,
      c.new.ensures.given ∙ c.as_slice-given.ensures.value,
    ) c.answer_named.ensures

pub returns-in-Err : goal.returns-in-Err
returns-in-Err g c =
    let request = c.args.request.now in
    let once : reads_twice request.command ≡ false = cc in
    no_settings (g.H.Host.text_at c.args.host.now) request c.in-Err.status once c.as_slice.result.now c.as_slice.ensures.value
    c.in-Err.ensures.failed
