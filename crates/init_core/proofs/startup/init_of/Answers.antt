-- An init is what its entry says.
use Rattle.std.proofs.Common.{◌≡◌, length, subst, sym, ◌∙◌, ap, arith}
use Rattle.std.specs.Prelude.{IfSome}
use Rattle.own_model.specs.Listed.{kind_of, offer_in}
use Rattle.own_model.specs.StartList.{Entry}
use Rattle.pd_core.specs.Fresh.{AreEmpty}
use Rattle.init_core.specs.Boot.{nowhere}
use Rattle.init_core.proofs.startup.init_of.Goals as goal

pub returns : goal.returns
returns c = λ list. record {
  entry_is = λ place. c.init.ensures.entry place ∙ (λ j. record { name = place.name; label = c.label.ensures.label j; kind = kind_of (sym c.requires j); home = place.home; routes = place.routes });
  short = omega (arith, ap (λ (e : Entry). length e.label) (c.init.ensures.entry nowhere), c.label.ensures.short);
  account_is = c.init.ensures.account;
  reserve_is = c.init.ensures.reserve;
  offer = c.init.ensures.service ∙ ap offer_in (sym c.requires);
  tables = λ store most machine covered. subst (λ tables. IfSome tables (λ t. AreEmpty store most t.0 t.1)) (sym c.init.ensures.tables) tt;
  places = subst (λ tables. IfSome tables (λ t. t.0.places ≡ list.caps)) (sym c.init.ensures.tables) tt;
  heap = c.init.ensures.heap;
  server = λ store machine all_caps. c.init.ensures.server store;
}
