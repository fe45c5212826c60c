-- A folder, and a path that can't be read, isn't a file that is known.
use Rattle.std.proofs.Common.{◌∙◌, Ok, Err, inl, refl, sym}
use Rattle.cli_base.specs.declared.host.FileKind.TheVariants.{Regular}
use Rattle.cli_tests.proofs.PlanLemmas.{no_folder, unknown_fails, unknown_files}
use Rattle.cli_tests.proofs.ResultLemmas.{told_unknown, untold_unknown}
use Rattle.cli_tests.proofs.file_search.files_of.Goals as goal

pub returns-in-Ok-Folder-clause-found : goal.returns-in-Ok-Folder-clause-found
returns-in-Ok-Folder-clause-found g c =
    unknown_files (g.H.Host.text_at c.args.host.now) c.args.path.now c.files_in.result
    (told_unknown _ c.in-Ok-Folder.field-0 Regular (Ok c.in-Ok-Folder.field-0) refl
    (λ is. no_folder (sym c.in-Ok-Folder.field-0-is ∙ is)) c.in-Ok-Folder.ensures)

pub returns-in-Ok-Folder-clause-failed : goal.returns-in-Ok-Folder-clause-failed
returns-in-Ok-Folder-clause-failed g c =
    unknown_fails (g.H.Host.text_at c.args.host.now) c.args.path.now c.files_in.result
    (told_unknown _ c.in-Ok-Folder.field-0 Regular (Ok c.in-Ok-Folder.field-0) refl
    (λ is. no_folder (sym c.in-Ok-Folder.field-0-is ∙ is)) c.in-Ok-Folder.ensures)

pub returns-in-Err-clause-failed : goal.returns-in-Err-clause-failed
returns-in-Err-clause-failed g c = λ room. inl (untold_unknown _ c.in-Err.error Regular (Err c.in-Err.error) refl c.in-Err.ensures)
