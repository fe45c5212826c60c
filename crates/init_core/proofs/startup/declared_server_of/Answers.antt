-- A server that declares its service is what its entry says, without sessions.
use Rattle.std.proofs.Common.{◌≡◌, Some, length, subst, sym, ◌∙◌, ap, arith}
use Rattle.std.specs.Prelude.{IfSome}
use Rattle.own_model.specs.Listed.{kind_of, offer_in}
use Rattle.own_model.specs.Offer.Offer.{OffersObjects}
use Rattle.own_model.specs.StartList.{Entry}
use Rattle.pd_core.specs.Fresh.{AreEmpty}
use Rattle.init_core.specs.Boot.{nowhere}
use Rattle.init_core.proofs.startup.declared_server_of.Goals as goal

pub returns-clause-made : goal.returns-clause-made
returns-clause-made c =
    let booted = c.in_ok-host.ensures in
    record {
      entry_is = λ place. c.server.ensures.entry place ∙ (λ j. record { name = place.name; label = c.label.ensures.label j; kind = kind_of (sym c.requires j); home = place.home; routes = place.routes });
      short = omega (arith, ap (λ (e : Entry). length e.label) (c.server.ensures.entry nowhere), c.label.ensures.short);
      account_is = c.server.ensures.account;
      reserve_is = c.server.ensures.reserve;
      offer = c.server.ensures.service ∙ ap Some (booted.offer ∙ ap OffersObjects (c.in_ok-kinds.ensures ∙ c.kinds.ensures.kinds)) ∙ ap offer_in (sym c.requires);
      tables = λ store most machine covered. subst (λ tables. IfSome tables (λ t. AreEmpty store most t.0 t.1)) (sym c.server.ensures.tables) tt;
      places = subst (λ tables. IfSome tables (λ t. t.0.places ≡ c.args.list.now.caps)) (sym c.server.ensures.tables) tt;
      heap = c.server.ensures.heap;
      server = λ store machine all_caps. c.server.ensures.server store
          (booted.new store (omega (arith, machine, c.pages.ensures.value)) (omega (arith, all_caps, c.sessions_of.ensures.half)));
    }
