-- Findings that count, and then the policy.
use Rattle.std.proofs.Common.{◌≡◌, ◌&&◌, ◌∙◌, ◌++◌, Bool, false, true, List, [], ap, append-nil, append_assoc, inl, inr, length, nat_lt, refl, subst, sym}
use Rattle.std.proofs.lemmas.Result.{IfOk-weaker, on_ok_weaker}
use Rattle.own_model.specs.Listed.{Listed}
use Rattle.list_findings.specs.declared.finding.Finding.{Finding}
use Rattle.view_records.specs.Lists.{records_of}
use Rattle.view_records.specs.Records.{Record}
use Rattle.cli_lists.specs.CheckDocuments.{AreJudged, AreOfPolicy, review_records}
use Rattle.cli_lists.specs.ListStatus.{EndsPolicy, EndsReviewed, is_refused}
use Rattle.cli_lists.proofs.check_documents.add_reviewed.Goals as goal

pub returns-then-is_refused-clause-status : goal.returns-then-is_refused-clause-status
returns-then-is_refused-clause-status g c =
    let strict = c.args.check.now.strict in
    inl (inr (refl, sym (c.if-is_refused.ensures ∙ ap (λ (fs : List Finding). strict && nat_lt 0 (length fs)) c.findings.ensures)))

pub returns-clause-status : goal.returns-clause-status
returns-clause-status g c =
    let texts = g.H.Host.text_at c.args.host.now in
    let asked = c.args.check.now in
    let kept : is_refused asked.strict c.args.review.now ≡ false =
    sym (c.if-is_refused.ensures ∙ ap (λ (fs : List Finding). asked.strict && nat_lt 0 (length fs)) c.findings.ensures) in
    IfOk-weaker c.add_policy.result (EndsPolicy texts asked.strict asked.policy c.list.result.now) (EndsReviewed texts asked c.args.review.now)
    (λ ended ends. inr (kept, subst (λ (l : Listed). EndsPolicy texts asked.strict asked.policy l ended) c.list.ensures ends)) c.add_policy.ensures.status

pub returns-then-is_refused-clause-listed : goal.returns-then-is_refused-clause-listed
returns-then-is_refused-clause-listed g c =
    let texts = g.H.Host.text_at c.args.host.now in
    let asked = c.args.check.now in
    let review = c.args.review.now in
    let refused : is_refused asked.strict review ≡ true =
    sym (c.if-is_refused.ensures ∙ ap (λ (fs : List Finding). asked.strict && nat_lt 0 (length fs)) c.findings.ensures) in (
      [],
      subst (λ (b : Bool). AreJudged texts b asked.policy review.list []) (sym refused) refl,
      c.in_ok-add_review.ensures
          ∙ ap (λ (rs : List Record). records_of c.args.records.now ++ rs) (sym (append-nil (review_records asked.list.now review))),
    )

pub returns-clause-listed : goal.returns-clause-listed
returns-clause-listed g c =
    let texts = g.H.Host.text_at c.args.host.now in
    let asked = c.args.check.now in
    let review = c.args.review.now in
    let kept : is_refused asked.strict review ≡ false =
    sym (c.if-is_refused.ensures ∙ ap (λ (fs : List Finding). asked.strict && nat_lt 0 (length fs)) c.findings.ensures) in
    on_ok_weaker c.add_policy.result
    (λ (lists : (more : List Record) × AreOfPolicy texts asked.policy c.list.result.now more
    × (records_of c.add_policy.new.records ≡ records_of c.add_review.new.records ++ more)). (
      lists.0,
      subst (λ (b : Bool). AreJudged texts b asked.policy review.list lists.0) (sym kept)
          (subst (λ (l : Listed). AreOfPolicy texts asked.policy l lists.0) c.list.ensures lists.1),
      lists.2 ∙ ap (λ (rs : List Record). rs ++ lists.0) c.in_ok-add_review.ensures
          ∙ append_assoc (records_of c.args.records.now) (review_records asked.list.now review) lists.0,
    )) c.add_policy.ensures.listed
