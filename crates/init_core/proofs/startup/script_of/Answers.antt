-- A script is what its entry says, with tables that have just booted.
use Rattle.std.proofs.Common.{◌≡◌, length, subst, sym, ◌∙◌, ap, arith}
use Rattle.std.specs.Prelude.{IfSome}
use Rattle.own_model.specs.Listed.{kind_of, offer_in}
use Rattle.own_model.specs.StartList.{Entry}
use Rattle.cap_space.specs.Space.{Space}
use Rattle.pd_core.specs.Fresh.{AreEmpty}
use Rattle.init_core.specs.Boot.{nowhere}
use Rattle.init_core.proofs.StartLemmas.{script_empty}
use Rattle.init_core.proofs.startup.script_of.Goals as goal

pub returns-clause-made : goal.returns-clause-made
returns-clause-made c = record {
  entry_is = λ place. c.script.ensures.entry place ∙ (λ j. record { name = place.name; label = c.label.ensures.label j; kind = kind_of (sym c.requires j); home = place.home; routes = place.routes });
  short = omega (arith, ap (λ (e : Entry). length e.label) (c.script.ensures.entry nowhere), c.label.ensures.short);
  account_is = c.script.ensures.account;
  reserve_is = c.script.ensures.reserve;
  offer = c.script.ensures.service ∙ ap offer_in (sym c.requires);
  tables = λ store most machine covered.
      let empty = script_empty store c.pages-pages.result c.caps.result most c.in_ok-caps.caps c.in_ok-regions.regions (omega (arith, machine, c.pages-pages.ensures.value))
      c.pages-pages.ensures.most (omega (arith, covered, c.caps.ensures.value)) c.in_ok-caps.ensures c.in_ok-regions.ensures in
      subst (λ tables. IfSome tables (λ t. AreEmpty store most t.0 t.1)) (sym c.script.ensures.tables) empty;
  places = subst (λ tables. IfSome tables (λ t. t.0.places ≡ c.args.list.now.caps)) (sym c.script.ensures.tables) (ap (λ (s : Space). s.places) c.in_ok-caps.ensures ∙ c.caps.ensures.value);
  heap = c.script.ensures.heap;
  server = λ store machine all_caps. c.script.ensures.server store;
}
