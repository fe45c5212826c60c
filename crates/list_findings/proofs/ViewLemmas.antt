-- What views of all scripts' wishes tell of rules.
use Rattle.std.proofs.Common.{◌≡◌, ℕ, Bool, not, List, [], ◌∷◌, map, refl, ap, ◌∙◌, ◌||◌, ◌&&◌, ◌==◌, Option, Some, None}
use Rattle.std.specs.Prelude.{All}
use Rattle.std.specs.List.{list_any}
use Rattle.std.proofs.lemmas.List.Elements.{All-head, All-tail}
use Rattle.own_model.specs.Listed.{Listed}
use Rattle.list_reach.specs.Deciding.{DecisionAt}
use Rattle.list_reach.proofs.TrailLemmas.{trails_tell}
use Rattle.list_findings.specs.Idle.{decides, is_among, is_idle}
use Rattle.list_findings.specs.Reached.{is_routed_to, is_sought, is_routed_at_all, reaches}
use Rattle.list_findings.specs.Views.{Asking, IsShown, ShowAll, ViewOf, asking_of, askings}
use Rattle.list_parts.specs.declared.list_part.RuleOwner.{RuleOwner}

-- a view tells of a rule what is so of all given labels
abbrev told_by : Listed → RuleOwner → ℕ → ViewOf → Bool
told_by list owner place view =
    list_any (λ (trail : DecisionAt). is_among list owner place view.client trail.rules) view.trails

view_tells : (list : Listed) (owner : RuleOwner) (place : ℕ) (view : ViewOf) → IsShown list view
    → told_by list owner place view ≡ decides list owner place (asking_of view)
unfolding decides
view_tells list owner place view shown =
    trails_tell list view.client view.service view.trails (λ rules child. is_among list owner place view.client rules) shown

-- what each view tells of its asking, all views tell of all askings
views_tell : (list : Listed) (told : ViewOf → Bool) (of : Asking → Bool) (views : List ViewOf)
    → ((view : ViewOf) → IsShown list view → told view ≡ of (asking_of view)) → All (IsShown list) views
    → list_any told views ≡ list_any of (map asking_of views)
views_tell list told of [] each shown = refl
views_tell list told of (view ∷ views) each shown =
    ap (λ b. b || list_any told views) (each view (All-head (IsShown list) view views shown))
    ∙ ap (λ b. of (asking_of view) || b) (views_tell list told of views each (All-tail (IsShown list) view views shown))

all_tell : (list : Listed) (told : ViewOf → Bool) (of : Asking → Bool) (views : List ViewOf)
    → ((view : ViewOf) → IsShown list view → told view ≡ of (asking_of view)) → ShowAll list views
    → list_any told views ≡ list_any of (askings list)
all_tell list told of views each show =
    views_tell list told of views each show.shown ∙ ap (λ a. list_any of a) show.asked

pub idle_by_views : (list : Listed) (owner : RuleOwner) (place : ℕ) (views : List ViewOf) → ShowAll list views
    → not (list_any (λ (view : ViewOf). list_any (λ (trail : DecisionAt). is_among list owner place view.client trail.rules) view.trails) views)
    ≡ is_idle list owner place
idle_by_views list owner place views show =
    ap not (all_tell list (told_by list owner place) (decides list owner place) views (view_tells list owner place) show)

-- ---- where they lead

view_leads : (list : Listed) (sought : Option ℕ) (view : ViewOf) → IsShown list view
    → list_any (λ (trail : DecisionAt). is_sought sought trail.child) view.trails ≡ reaches list sought (asking_of view)
unfolding reaches
view_leads list sought view shown =
    trails_tell list view.client view.service view.trails (λ rules child. is_sought sought child) shown

pub led_by_views : (list : Listed) (child : ℕ) (views : List ViewOf) → ShowAll list views
    → list_any (λ (view : ViewOf). list_any (λ (trail : DecisionAt). is_sought (Some child) trail.child) view.trails) views ≡ is_routed_to list child
led_by_views list child views show =
    all_tell list (λ (view : ViewOf). list_any (λ (trail : DecisionAt). is_sought (Some child) trail.child) view.trails)
    (reaches list (Some child)) views (view_leads list (Some child)) show

pub somewhere_by_views : (list : Listed) (client : ℕ) (views : List ViewOf) → ShowAll list views
    → list_any (λ (view : ViewOf). view.client == client && list_any (λ (trail : DecisionAt). is_sought None trail.child) view.trails) views
    ≡ is_routed_at_all list client
somewhere_by_views list client views show =
    all_tell list
    (λ (view : ViewOf). view.client == client && list_any (λ (trail : DecisionAt). is_sought None trail.child) view.trails)
    (λ asking. asking.client == client && reaches list None asking) views
    (λ view shown. ap (λ b. view.client == client && b) (view_leads list None view shown)) show

-- ---- all of them

pub show_all : (list : Listed) (views : List ViewOf) → map asking_of views ≡ askings list → All (IsShown list) views → ShowAll list views
show_all list views asked shown = record { asked = asked; shown = shown }
