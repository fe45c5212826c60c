-- Whether a rule is one of those that decide a wish, list by list outward.
use Rattle.std.proofs.Common.{◌≡◌, ℕ, suc, ◌==◌, ◌&&◌, ◌||◌, Bool, true, false, List, ◌∷◌, Some, None, ap, ◌∙◌}
use Rattle.std.specs.List.{slice_get}
use Rattle.own_model.specs.Listed.{Listed, ListedEntry}
use Rattle.list_findings.specs.Idle.{is_among, is_of, of_home}
use Rattle.list_findings.specs.RuleTargets.{of_init}
use Rattle.list_parts.specs.declared.list_part.RuleOwner.{RuleOwner}

-- it is the first one, which an entry asks, or one of those behind it, which its init asks
abbrev among_of : Listed → RuleOwner → ℕ → ℕ → ℕ → List ℕ → ListedEntry → Bool
among_of list owner place number rule rules entry =
    (is_of owner number entry && rule == place) || of_home (λ init. is_among list owner place init rules) entry.home

pub among_nobody : (list : Listed) (owner : RuleOwner) (place number rule : ℕ) (rules all : List ℕ) → all ≡ rule ∷ rules
    → slice_get list.entries number ≡ None → is_among list owner place number all ≡ false
among_nobody list owner place number rule rules all is nobody =
    ap (λ l. is_among list owner place number l) is ∙ ap (of_init (among_of list owner place number rule rules)) nobody

among_entry : (list : Listed) (owner : RuleOwner) (place number rule : ℕ) (rules all : List ℕ) (entry : ListedEntry) → all ≡ rule ∷ rules
    → slice_get list.entries number ≡ Some entry
    → is_among list owner place number all ≡ among_of list owner place number rule rules entry
among_entry list owner place number rule rules all entry is somebody =
    ap (λ l. is_among list owner place number l) is ∙ ap (of_init (among_of list owner place number rule rules)) somebody

pub among_here : (list : Listed) (owner : RuleOwner) (place number rule : ℕ) (rules all : List ℕ) (entry : ListedEntry) → all ≡ rule ∷ rules
    → slice_get list.entries number ≡ Some entry → (is_of owner number entry && rule == place) ≡ true
    → is_among list owner place number all ≡ true
among_here list owner place number rule rules all entry is somebody here =
    among_entry list owner place number rule rules all entry is somebody
    ∙ ap (λ b. b || of_home (λ init. is_among list owner place init rules) entry.home) here

among_behind : (list : Listed) (owner : RuleOwner) (place number rule : ℕ) (rules all : List ℕ) (entry : ListedEntry) → all ≡ rule ∷ rules
    → slice_get list.entries number ≡ Some entry → (is_of owner number entry && rule == place) ≡ false
    → is_among list owner place number all ≡ of_home (λ init. is_among list owner place init rules) entry.home
among_behind list owner place number rule rules all entry is somebody other =
    among_entry list owner place number rule rules all entry is somebody
    ∙ ap (λ b. b || of_home (λ init. is_among list owner place init rules) entry.home) other

pub among_none : (list : Listed) (owner : RuleOwner) (place number rule : ℕ) (rules all : List ℕ) (entry : ListedEntry) → all ≡ rule ∷ rules
    → slice_get list.entries number ≡ Some entry → (is_of owner number entry && rule == place) ≡ false → entry.home ≡ 0
    → is_among list owner place number all ≡ false
among_none list owner place number rule rules all entry is somebody other top =
    among_behind list owner place number rule rules all entry is somebody other
    ∙ ap (of_home (λ init. is_among list owner place init rules)) top

pub among_outward : (list : Listed) (owner : RuleOwner) (place number rule init : ℕ) (rules all : List ℕ) (entry : ListedEntry) → all ≡ rule ∷ rules
    → slice_get list.entries number ≡ Some entry → (is_of owner number entry && rule == place) ≡ false → entry.home ≡ suc init
    → is_among list owner place number all ≡ is_among list owner place init rules
among_outward list owner place number rule init rules all entry is somebody other home =
    among_behind list owner place number rule rules all entry is somebody other
    ∙ ap (of_home (λ init. is_among list owner place init rules)) home

-- ---- two tests
