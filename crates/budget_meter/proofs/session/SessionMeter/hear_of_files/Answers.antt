-- Its request, if it is one, and the account.
use Rattle.std.proofs.Common.{rules, ◌<◌, ◌^◌, refl, sym, ap, ◌∙◌, subst}
use Rattle.std.specs.Prelude.{Some, None}
use Rattle.std.specs.Option.{option_map}
use Rattle.own_model.specs.OwnState.{bytes_of_buffer}
use Rattle.own_model.specs.Session.{served}
use Rattle.session_proto.specs.File.{model_request}
use Rattle.budget_theorems.specs.Request.{donating}
use Rattle.budget_theorems.specs.RequestTheorems.{session_run}
use Rattle.budget_meter.specs.Needs.{shown_in}
use Rattle.budget_meter.specs.Sizes.{Keeps}
use Rattle.budget_meter.specs.RequestTests.{files_in}
use Rattle.budget_meter.specs.declared.session.SessionMeter.{SessionMeter}
use Rattle.budget_meter.proofs.SessionLemmas.{files_growth, heard_files, keeps_files}
use Rattle.budget_meter.proofs.ShownLemmas.{together_nothing}
use Rattle.budget_meter.proofs.session.SessionMeter.hear_of_files.Goals as goal

pub returns-in_default : goal.returns-in_default
returns-in_default c = λ all donation session buffer before told.
    let few : c.args.after.ram_limit.0 < 2 ^ 64 = search rules in
    let new : SessionMeter = record c.args.self.now { account = c.args.after } in
    let none = c.requires.none in
    heard_files all donation session buffer c.args.request.now c.args.reply.text.now c.args.after c.args.self.now before told none new None
    (ap (option_map model_request) (sym c.in_default.is) ∙ c.read.ensures.request) (sym (together_nothing (shown_in c.args.self.now.meter)))
    (files_growth all donation session buffer c.args.request.now c.args.reply.text.now c.args.after c.args.self.now before told none)
    (λ changes. subst (λ fs. Keeps c.args.self.now.sizes fs) (sym changes) (keeps_files all donation session buffer c.args.request.now c.args.reply.text.now c.args.after c.args.self.now before told none))
    none refl few refl

pub returns : goal.returns
returns c = λ all donation session buffer before told.
    let few : c.args.after.ram_limit.0 < 2 ^ 64 = search rules in
    let here = session_run all (donating donation session) in
    let files = files_in here.state in
    let after = files_in (served (bytes_of_buffer buffer) here c.args.request.now).session.state in
    let new : SessionMeter = record c.take.new.self { account = c.args.after; sizes = c.keep.new.self } in
    let none = c.requires.none in
    let growth = files_growth all donation session buffer c.args.request.now c.args.reply.text.now c.args.after c.args.self.now before told none in
    let keeps = keeps_files all donation session buffer c.args.request.now c.args.reply.text.now c.args.after c.args.self.now before told none in
    heard_files all donation session buffer c.args.request.now c.args.reply.text.now c.args.after c.args.self.now before told none new (Some (model_request c.in-Some.request))
    (ap (option_map model_request) (sym c.in-Some.is) ∙ c.read.ensures.request)
    (c.take.ensures.shown files before.at.few growth keeps) (c.take.ensures.pages files growth)
    (λ changes. c.in_ok-keep.ensures files.files after.files (subst (λ z. Keeps z files.files) (sym c.take.ensures.sizes) keeps) changes)
    (c.take.ensures.objects ∙ none) c.take.ensures.start few refl
