-- A write that fails in one part loses the parts after it.
use Rattle.std.proofs.Common.{◌++◌}
use Rattle.std.specs.Prelude.{codes}
use Rattle.run_devices.proofs.GatheredLemmas.{Tells-more, Tells-front, told_err, told_more}
use Rattle.view_diagnostics.specs.Diagnostics.{column_of, file_value, line_of, number_value, severity_name}
use Rattle.view_diagnostics.proofs.front.put_document_front.Goals as goal

pub returns-in_err-put-clause-output : goal.returns-in_err-put-clause-output
returns-in_err-put-clause-output g c =
    told_err _ _ _ c.from_residual.ensures.1 (
      _,
      Tells-front (codes ",\"text\":\"")
          (Tells-front (codes ",\"column\":" ++ number_value (column_of c.args.place))
          (Tells-front (codes ",\"line\":" ++ number_value (line_of c.args.place))
          (Tells-front (file_value c.args.file.now) (Tells-front (codes "\",\"file\":") (Tells-front (severity_name c.args.severity) (c.in_err-put.ensures.told.1)))))),
    )

pub returns-in_err-put-2-clause-output : goal.returns-in_err-put-2-clause-output
returns-in_err-put-2-clause-output g c =
    rw (← c.name.ensures, ← c.as_bytes.ensures.value)
    (told_err _ _ _ c.from_residual-in_err-put-2.ensures.1
    (_, Tells-front _ (Tells-front _ (Tells-front _ (Tells-front _ (Tells-front _ (Tells-more c.in_ok-put.ensures.told (c.in_err-put-2.ensures.told.1))))))))

pub returns-in_err-put-3-clause-output : goal.returns-in_err-put-3-clause-output
returns-in_err-put-3-clause-output g c =
    rw (← c.name.ensures, ← c.as_bytes.ensures.value)
    (told_err _ _ _ c.from_residual-in_err-put-3.ensures.1
    (_, Tells-front _ (Tells-front _ (Tells-front _ (Tells-front _ (Tells-more (Tells-more c.in_ok-put.ensures.told c.in_ok-put-2.ensures.told) (c.in_err-put-3.ensures.told.1)))))))

pub returns-in_err-put_file-clause-output : goal.returns-in_err-put_file-clause-output
returns-in_err-put_file-clause-output g c =
    rw (← c.name.ensures, ← c.as_bytes.ensures.value)
    (told_err _ _ _ c.from_residual-in_err-put_file.ensures.1
    (_, Tells-front _ (Tells-front _ (Tells-front _ (Tells-more (Tells-more (Tells-more c.in_ok-put.ensures.told c.in_ok-put-2.ensures.told) c.in_ok-put-3.ensures.told) (c.in_err-put_file.ensures.output.1))))))

pub returns-in_err-put_member-clause-output : goal.returns-in_err-put_member-clause-output
returns-in_err-put_member-clause-output g c =
    rw (← c.name.ensures, ← c.as_bytes.ensures.value, ← c.line.ensures)
    (told_err _ _ _ c.from_residual-in_err-put_member.ensures.1
    (_, Tells-front _ (Tells-front _ (Tells-more (Tells-more (Tells-more (Tells-more c.in_ok-put.ensures.told c.in_ok-put-2.ensures.told) c.in_ok-put-3.ensures.told) c.in_ok-put_file.ensures.output) (c.in_err-put_member.ensures.output.1)))))

pub returns-in_err-put_member-2-clause-output : goal.returns-in_err-put_member-2-clause-output
returns-in_err-put_member-2-clause-output g c =
    rw (← c.name.ensures, ← c.as_bytes.ensures.value, ← c.line.ensures, ← c.column.ensures)
    (told_err _ _ _ c.from_residual-in_err-put_member-2.ensures.1
    (_, Tells-front _ (Tells-more (Tells-more (Tells-more (Tells-more (Tells-more c.in_ok-put.ensures.told c.in_ok-put-2.ensures.told) c.in_ok-put-3.ensures.told) c.in_ok-put_file.ensures.output) c.in_ok-put_member.ensures.output) (c.in_err-put_member-2.ensures.output.1))))

pub returns-clause-output : goal.returns-clause-output
returns-clause-output g c =
    rw (← c.name.ensures, ← c.as_bytes.ensures.value, ← c.line.ensures, ← c.column.ensures)
    (told_more _ _ _ _ (Tells-more (Tells-more (Tells-more (Tells-more (Tells-more c.in_ok-put.ensures.told c.in_ok-put-2.ensures.told) c.in_ok-put-3.ensures.told) c.in_ok-put_file.ensures.output) c.in_ok-put_member.ensures.output) c.in_ok-put_member-2.ensures.output)
    c.put-4.ensures.told)
