-- The list of the text of the file.
use Rattle.own_model.specs.Listed.{Listed}
use Rattle.cli_base.specs.Files.{HasNoBoot, HasNoList}
use Rattle.cli_lists.specs.ListStatus.{IsListOf}
use Rattle.cli_lists.proofs.ReviewLemmas.{no_list_boots, not_read_at, read_at, refused_as}
use Rattle.cli_lists.proofs.review.list_at.Goals as goal

pub returns-in-Ok-clause-read : goal.returns-in-Ok-clause-read
returns-in-Ok-clause-read g c =
    read_at (g.H.Host.text_at c.args.host.now) c.args.settings c.args.path.now Listed IsListOf c.in-Ok.text.items c.as_slice.result.now
    c.list_of.result c.in-Ok.ensures.text c.as_slice.ensures.value c.list_of.ensures.read

pub returns-in-Ok-clause-failed : goal.returns-in-Ok-clause-failed
returns-in-Ok-clause-failed g c =
    not_read_at (g.H.Host.text_at c.args.host.now) c.args.settings c.args.path.now Listed c.in-Ok.text.items c.as_slice.result.now
    c.list_of.result c.in-Ok.ensures.text c.as_slice.ensures.value c.list_of.ensures.failed

pub returns-in-Err-clause-failed : goal.returns-in-Err-clause-failed
returns-in-Err-clause-failed g c =
    let texts = g.H.Host.text_at c.args.host.now in
    refused_as (HasNoList texts c.args.settings c.args.path.now) (HasNoBoot texts c.args.settings c.args.path.now) c.in-Err.status
    (no_list_boots texts c.args.settings c.args.path.now) c.in-Err.ensures.failed
