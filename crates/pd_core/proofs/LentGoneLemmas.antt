-- A buffer that goes out of a script.
use Rattle.std.proofs.Common.{◌≡◌, true≢false, ℕ, ◌<◌, Option, Some, None, sym, ap, subst, ◌∙◌}
use Rattle.std.specs.Prelude.{IsTrue, IsFalse, IfSome, IfNone}
use Rattle.std.specs.FinMap.{get}
use Rattle.trade_base.specs.declared.id.Selector.{Selector}
use Rattle.cap_space.specs.Space.{Space, is_buffer, without_cap}
use Rattle.region_map.specs.Regions.{Regions, all_detached}
use Rattle.pd_core.specs.Component.{caps_in}
use Rattle.pd_core.specs.SessionCalls.{NamesBuffer, DropsBuffer, without_buffer}
use Rattle.pd_core.specs.declared.component.Component.{Component}
use Rattle.pd_core.specs.declared.component.Role.TheVariants.{Script as AScript}
use Rattle.pd_core.specs.declared.script.Script.{Script}

-- the capability that is taken out is the buffer's, as there is one
pub drops : (component : Component) (script : Script) (space : ℕ) (caps : Space) (regions : Regions) (told : Option Selector) → component.role ≡ AScript script → NamesBuffer space component.role →
    IfSome told (λ s. IsTrue (is_buffer space (get script.caps.caps s.0))) → IfSome told (λ s. (other : ℕ) → other < s.0 → IsFalse (is_buffer space (get script.caps.caps other))) →
    IfSome told (λ s. caps ≡ without_cap script.caps s.0) → IfNone told ((s : ℕ) → IsFalse (is_buffer space (get script.caps.caps s))) → regions ≡ all_detached script.regions space →
    DropsBuffer space component (record component { role = AScript (record script { caps = caps; regions = regions }) })
drops component script space caps regions None is names found first gone none detached =
    let its = subst (NamesBuffer space) is names in absurd (true≢false (sym its.named ∙ none its.selector))
drops component script space caps regions (Some s) is names found first gone none detached = record {
  selector = s.0;
  named = ap (λ r. is_buffer space (get (caps_in r) s.0)) is ∙ found;
  least = λ other below. ap (λ r. is_buffer space (get (caps_in r) other)) is ∙ first other below;
  gone =
      (λ j. record component { role = AScript (record script { caps = gone j; regions = detached j }) })
      ∙ ap (λ r. record component { role = without_buffer r s.0 space }) (sym is);
}
