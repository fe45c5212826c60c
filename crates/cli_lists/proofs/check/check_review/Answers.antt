-- Findings that count, and then the policy.
use Rattle.std.proofs.Common.{◌≡◌, ◌&&◌, ◌∙◌, false, List, ap, inl, inr, length, nat_lt, refl, sym}
use Rattle.list_findings.specs.declared.finding.Finding.{Finding}
use Rattle.cli_base.specs.Statuses.{IsZero}
use Rattle.cli_base.proofs.StatusLemmas.{ends_by}
use Rattle.cli_lists.specs.ListStatus.{EndsKept, EndsVerdict, HasRefused, is_refused}
use Rattle.cli_lists.proofs.check.check_review.Goals as goal

pub returns-then-is_refused : goal.returns-then-is_refused
returns-then-is_refused g c =
    let strict = c.args.asked.now.strict in
    inl (inr (refl, sym (c.if-is_refused.ensures ∙ ap (λ (fs : List Finding). strict && nat_lt 0 (length fs)) c.findings.ensures)))

pub returns-in-Some : goal.returns-in-Some
returns-in-Some g c =
    let texts = g.H.Host.text_at c.args.host.now in
    let asked = c.args.asked.now in
    let review = c.args.review.now in
    let kept : is_refused asked.strict review ≡ false =
    sym (c.if-is_refused.ensures ∙ ap (λ (fs : List Finding). asked.strict && nat_lt 0 (length fs)) c.findings.ensures) in
    ends_by ⊥ (HasRefused asked review) (EndsVerdict texts asked.strict c.in-Some.policy.now review.list) (EndsKept texts asked review) (λ no. absurd no)
    (λ ended verdict. (kept, rw c.in-Some.is verdict)) c.check_kept.result c.check_kept.ensures

pub returns-in-None : goal.returns-in-None
returns-in-None g c =
    let texts = g.H.Host.text_at c.args.host.now in
    let asked = c.args.asked.now in
    let review = c.args.review.now in
    let kept : is_refused asked.strict review ≡ false =
    sym (c.if-is_refused.ensures ∙ ap (λ (fs : List Finding). asked.strict && nat_lt 0 (length fs)) c.findings.ensures) in
    ends_by ⊥ (HasRefused asked review) IsZero (EndsKept texts asked review) (λ no. absurd no)
    (λ ended zero. (kept, rw c.in-None.is zero)) c.status_of.result c.status_of.ensures.ends
