-- Its request, if it is one, and the account.
use Rattle.std.proofs.Common.{rules, ◌<◌, ◌^◌, refl, sym, ap, ◌∙◌}
use Rattle.std.specs.Prelude.{Some, None}
use Rattle.std.specs.Option.{option_map}
use Rattle.own_model.proofs.NatMapLemmas.{some_of}
use Rattle.session_proto.specs.Objects.{model_request}
use Rattle.budget_meter.specs.Needs.{shown_in}
use Rattle.budget_meter.specs.declared.session.SessionMeter.{SessionMeter}
use Rattle.budget_meter.proofs.SessionLemmas.{heard_objects}
use Rattle.budget_meter.proofs.ShownLemmas.{together_nothing}
use Rattle.budget_meter.proofs.session.SessionMeter.hear_of_objects.Goals as goal

pub returns-in_default : goal.returns-in_default
returns-in_default c = λ all donation session buffer before told.
    let few : c.args.after.ram_limit.0 < 2 ^ 64 = search rules in
    let new : SessionMeter = record c.args.self.now { account = c.args.after } in
    let some = some_of c.args.self.now.objects c.requires.some in
    heard_objects all donation session buffer c.args.request.now c.args.reply.text.now c.args.after c.args.self.now before told some.0 some.1 new None
    (ap (option_map model_request) (sym c.in_default.is) ∙ c.read.ensures) (λ shape growth. sym (together_nothing (shown_in c.args.self.now.meter))) (λ shape growth. growth)
    some.1 refl refl few refl

pub returns : goal.returns
returns c = λ all donation session buffer before told.
    let few : c.args.after.ram_limit.0 < 2 ^ 64 = search rules in
    let known = c.in-Some-objects.objects in
    let new : SessionMeter = record c.args.self.now { meter = c.take_object_request-self.new.meter; account = c.args.after; pages = c.take_object_request-self.result; objects = Some c.keep.new.self } in
    heard_objects all donation session buffer c.args.request.now c.args.reply.text.now c.args.after c.args.self.now before told known c.in-Some-objects.is new (Some (model_request c.in-Some.request))
    (ap (option_map model_request) (sym c.in-Some.is) ∙ c.read.ensures) c.take_object_request-self.ensures.shown c.take_object_request-self.ensures.pages
    (ap Some c.in_ok-keep.ensures) refl c.take_object_request-self.ensures.start few refl
