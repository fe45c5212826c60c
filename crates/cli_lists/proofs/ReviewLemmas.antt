-- The exit status of a command on the list at a path.
use Rattle.std.proofs.Common.{◌≡◌, ◌≢◌, ◌∙◌, ℕ, Bool, true, false, List, ap, inl, inr, refl, subst, sym}
use Rattle.std.proofs.lemmas.Result.{IfErr-weaker}
use Rattle.std.specs.Prelude.{◌⊎◌, is_err, is_some, if◌then◌else◌, IfErr, IfOk, IfSome, Option, Some, None, Result, Ok, Err}
use Rattle.line_names.specs.declared.list_filling.UnknownName.{UnknownName}
use Rattle.list_faults.specs.Places.{fault_in, fault_of}
use Rattle.list_parser.specs.StartText.{list_in}
use Rattle.list_parser.specs.declared.fault.BootFault.{BootFault}
use Rattle.list_parser.specs.declared.fault.BootFault.TheVariants.{NoMemory}
use Rattle.list_review.specs.declared.review.Review.{Review}
use Rattle.own_model.specs.Listed.{Listed}
use Rattle.cli_base.specs.Files.{HasNoBoot, HasNoList, IsNoBoot, IsNoList, front, list_filled}
use Rattle.cli_base.specs.ListFailures.{boot_lacks_memory}
use Rattle.cli_base.specs.MachineTexts.{IsFilled}
use Rattle.cli_base.specs.Statuses.{EndsAs, boot_status}
use Rattle.cli_base.specs.declared.settings.Settings.{Settings}
use Rattle.cli_lists.specs.ListStatus.{EndsOnFile, EndsOnText, IsAt, IsReviewOf}

-- ---- refusals

-- out of memory, or a refusal with its reason
pub refused_or_one : (R : Type 0) (P : ℕ → Type 0) (status : ℕ) → (status ≡ 1) ⊎ (status ≡ 2) × R → EndsAs R P status
refused_or_one R P status (inl one) = inl (inl (inl one))
refused_or_one R P status (inr (two, refused)) = inl (inr (two, refused))

-- the same with another reason
pub refused_as : (R S : Type 0) (status : ℕ) → (R → S) → (status ≡ 1) ⊎ (status ≡ 2) × R → (status ≡ 1) ⊎ (status ≡ 2) × S
refused_as R S status why (inl one) = inl one
refused_as R S status why (inr (two, refused)) = inr (two, why refused)

-- ---- lists that don't boot

-- the status of a fault, which is out of memory or another
boot_by : (fault : BootFault) (status : ℕ) (lacks : Bool) → boot_lacks_memory fault ≡ lacks → status ≡ (if lacks then 1 else 2)
    → (status ≡ 1) ⊎ (status ≡ 2) × (fault ≢ NoMemory)
boot_by fault status true lacks is = inl is
boot_by fault status false lacks is =
    inr (is, λ (memory : fault ≡ NoMemory). let no : false ≡ true = sym lacks ∙ ap boot_lacks_memory memory in cc)

-- a fault of a text, with its status
pub fault_ends : (text : List ℕ) (fault : BootFault) (status : ℕ) → (fault ≢ NoMemory → fault_of text ≡ Some fault)
    → status ≡ boot_status fault → (status ≡ 1) ⊎ (status ≡ 2) × (is_some (fault_of text) ≡ true)
fault_ends text fault status told is =
    refused_as (fault ≢ NoMemory) (is_some (fault_of text) ≡ true) status (λ other. ap (λ (o : Option BootFault). is_some o) (told other))
    (boot_by fault status (boot_lacks_memory fault) refl is)

-- a text that is no list has a fault
faulty : (r : Result Listed BootFault) → is_err r ≡ true → is_some (fault_in r) ≡ true
faulty (Ok list) none = let no : false ≡ true = none in cc
faulty (Err fault) none = refl

no_boot : (filled : Result (List ℕ) UnknownName) → IsNoList filled → IsNoBoot filled
no_boot (Err name) none = tt
no_boot (Ok text) none = faulty (list_in text) none

module _ (texts : List ℕ → Option (List ℕ)) (settings : Settings) (path : List ℕ) where
  -- a file that is no list is none that boots
  pub no_list_boots : HasNoList texts settings path → HasNoBoot texts settings path
  no_list_boots none = by (texts path) none
    where
      by : (o : Option (List ℕ)) → IfSome o (λ bytes. IsNoList (list_filled settings (front bytes)))
          → IfSome o (λ bytes. IsNoBoot (list_filled settings (front bytes)))
      by None lacks = tt
      by (Some bytes) lacks = no_boot (list_filled settings (front bytes)) lacks

  -- a text with a fault is that of a file that is no list that boots
  pub text_boots_not : (text : List ℕ) → IsFilled texts settings path text → is_some (fault_of text) ≡ true
      → HasNoBoot texts settings path
  text_boots_not text filled has_fault = by (texts path) filled.1
    where
      of_file : IsNoBoot (list_filled settings filled.0)
      of_file = subst (λ (r : Result (List ℕ) UnknownName). IsNoBoot r) (sym filled.2) has_fault

      by : (o : Option (List ℕ)) → IfSome o (λ bytes. filled.0 ≡ front bytes)
          → IfSome o (λ bytes. IsNoBoot (list_filled settings (front bytes)))
      by None is = tt
      by (Some bytes) is = subst (λ (file : List ℕ). IsNoBoot (list_filled settings file)) is of_file

  -- what is read of a text is that of its file
  pub read_at : (X : Type 0) (Is : List ℕ → X → Type 0) (text other : List ℕ) (r : Result X ℕ) → IsFilled texts settings path text → other ≡ text
      → IfOk r (Is other) → IfOk r (IsAt X texts settings path Is)
  read_at X Is text other (Ok x) filled is read =
      (other, subst (λ (t : List ℕ). IsFilled texts settings path t) (sym is) filled, read)
  read_at X Is text other (Err status) filled is read = tt

  pub not_read_at : (X : Type 0) (text other : List ℕ) (r : Result X ℕ) → IsFilled texts settings path text → other ≡ text
      → IfErr r (λ status. (status ≡ 1) ⊎ (status ≡ 2) × (is_some (fault_of other) ≡ true))
      → IfErr r (λ status. (status ≡ 1) ⊎ (status ≡ 2) × HasNoBoot texts settings path)
  not_read_at X text other r filled is =
      IfErr-weaker r (λ status. (status ≡ 1) ⊎ (status ≡ 2) × (is_some (fault_of other) ≡ true))
      (λ status. (status ≡ 1) ⊎ (status ≡ 2) × HasNoBoot texts settings path)
      (λ status.
      refused_as (is_some (fault_of other) ≡ true) (HasNoBoot texts settings path) status
      (λ has_fault. text_boots_not text filled (subst (λ (t : List ℕ). is_some (fault_of t) ≡ true) is has_fault)))

  -- ---- a command on the list

  module _ (X : Type 0) (Is : List ℕ → X → Type 0) (Refuses : X → Type 0) (Ends : X → ℕ → Type 0) where
    -- the list doesn't boot
    pub not_booted : (status : ℕ) → (status ≡ 1) ⊎ (status ≡ 2) × HasNoBoot texts settings path
        → EndsOnFile X texts settings path Is Refuses Ends status
    not_booted status (inl one) = inl (inl (inl one))
    not_booted status (inr (two, none)) = inl (inr (two, inl none))

    -- what is read of it
    pub on_read : (x : X) (status : ℕ) → IsAt X texts settings path Is x → EndsAs (Refuses x) (Ends x) status
        → EndsOnFile X texts settings path Is Refuses Ends status
    on_read x status there (inl (inl failed)) = inl (inl failed)
    on_read x status there (inl (inr (two, refused))) = inl (inr (two, inr (x, there, refused)))
    on_read x status there (inr ends) = inr (x, there, ends)

  module _ (Refuses : Review → Type 0) (Ends : Review → ℕ → Type 0) where
    -- the list isn't read
    pub unread : (status : ℕ) → (status ≡ 1) ⊎ (status ≡ 2) × HasNoList texts settings path
        → EndsOnFile Review texts settings path IsReviewOf Refuses Ends status
    unread status (inl one) = inl (inl (inl one))
    unread status (inr (two, none)) = inl (inr (two, inl (no_list_boots none)))

    -- its text
    pub on_text : (text : List ℕ) (status : ℕ) → IsFilled texts settings path text → EndsOnText text Refuses Ends status
        → EndsOnFile Review texts settings path IsReviewOf Refuses Ends status
    on_text text status filled (inl (inl failed)) = inl (inl failed)
    on_text text status filled (inl (inr (two, inl has_fault))) = inl (inr (two, inl (text_boots_not text filled has_fault)))
    on_text text status filled (inl (inr (two, inr (review, read, refused)))) = inl (inr (two, inr (review, (text, filled, read), refused)))
    on_text text status filled (inr (review, read, ends)) = inr (review, (text, filled, read), ends)
