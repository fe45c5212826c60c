-- A policy that isn't too long is all of its file, and bytes that are none are the front of it.
use Rattle.cli_base.proofs.FileLemmas.{policy_read, policy_unread}
use Rattle.cli_base.proofs.policy_verdict.policy_text.Goals as goal

pub returns-in-Ok-clause-text : goal.returns-in-Ok-clause-text
returns-in-Ok-clause-text g c =
    policy_read (g.H.Host.text_at c.args.host.now) c.args.path.now (λ text. text.items) c.in-Ok.bytes.items c.text_of.result c.in-Ok.ensures.text
    c.text_of.ensures.text c.text_of.ensures.few

pub returns-in-Err-clause-failed : goal.returns-in-Err-clause-failed
returns-in-Err-clause-failed g c =
    policy_unread (g.H.Host.text_at c.args.host.now) c.args.path.now c.in-Err.why c.about.result.why c.about.ensures c.in-Err.ensures.failed
