use Rattle.std.proofs.Common.{inl, refl}
use Rattle.cppfilt_run.proofs.ReportLaws.{run-done, run-read-written, run-long-written, run-complete, run-refused}
use Rattle.cppfilt_run.proofs.ReportLaws.{run-help, run-usage, run-read, run-read-told, run-write, run-write-told}
use Rattle.cppfilt_run.proofs.ReportLaws.{run-long, run-long-told, run-long-bytes, run-long-bytes-told, run-at_most}
use Rattle.cppfilt_run.proofs.RanLaws.{counts, stopped-end}
use Rattle.cppfilt_lines.specs.Work.{lines}
use Rattle.cppfilt_lines.proofs.NamedLaws.{each_named}
use Rattle.cppfilt_run.proofs.filter.filter_lines.Goals as goal

pub returns-clause-named : goal.returns-clause-named
returns-clause-named g c = each_named c.args.options.now lines _

pub returns-clause-front : goal.returns-clause-front
returns-clause-front g c = c.filtered.ensures.front

pub returns-clause-keeps_up : goal.returns-clause-keeps_up
returns-clause-keeps_up g c = c.filtered.ensures.keeps_up

pub returns-clause-done : goal.returns-clause-done
returns-clause-done g c e =
    run-done c.filtered.result c.filtered.result c.filtered.ensures (inl refl) e

pub returns-clause-read_fault_written : goal.returns-clause-read_fault_written
returns-clause-read_fault_written g c e =
    run-read-written c.filtered.result c.filtered.result c.filtered.ensures (inl refl) e

pub returns-clause-input_too_long_written : goal.returns-clause-input_too_long_written
returns-clause-input_too_long_written g c e =
    run-long-written c.filtered.result c.filtered.result c.filtered.ensures (inl refl) e

pub returns-clause-read_fault : goal.returns-clause-read_fault
returns-clause-read_fault g c e =
    run-read c.filtered.result c.filtered.result (counts c.filtered.ensures) (inl refl) e

pub returns-clause-read_fault_told : goal.returns-clause-read_fault_told
returns-clause-read_fault_told g c e =
    run-read-told c.filtered.result c.filtered.result (counts c.filtered.ensures) (inl refl) e

pub returns-clause-write_fault : goal.returns-clause-write_fault
returns-clause-write_fault g c e =
    run-write c.filtered.result c.filtered.result (counts c.filtered.ensures) (inl refl) e

pub returns-clause-write_fault_told : goal.returns-clause-write_fault_told
returns-clause-write_fault_told g c e =
    run-write-told c.filtered.result c.filtered.result (counts c.filtered.ensures) (inl refl) e

pub returns-clause-input_too_long : goal.returns-clause-input_too_long
returns-clause-input_too_long g c e =
    run-long c.filtered.result c.filtered.result (counts c.filtered.ensures) (inl refl) e

pub returns-clause-input_too_long_told : goal.returns-clause-input_too_long_told
returns-clause-input_too_long_told g c e =
    run-long-told c.filtered.result c.filtered.result (counts c.filtered.ensures) (inl refl) e

pub returns-clause-input_too_long_bytes : goal.returns-clause-input_too_long_bytes
returns-clause-input_too_long_bytes g c e =
    run-long-bytes c.filtered.result c.filtered.result (counts c.filtered.ensures) (inl refl) e

pub returns-clause-complete : goal.returns-clause-complete
returns-clause-complete g c reads writes =
    run-complete c.filtered.result c.filtered.result (counts c.filtered.ensures) (inl refl) reads writes

pub returns-clause-refused : goal.returns-clause-refused
returns-clause-refused g c reads writes =
    run-refused c.filtered.result c.filtered.result (counts c.filtered.ensures)
    (stopped-end c.filtered.result c.filtered.ensures) (inl refl) reads writes

pub returns-clause-input_too_long_bytes_told : goal.returns-clause-input_too_long_bytes_told
returns-clause-input_too_long_bytes_told g c =
    run-long-bytes-told c.filtered.result c.filtered.result (counts c.filtered.ensures) (inl refl)

pub returns-clause-at_most : goal.returns-clause-at_most
returns-clause-at_most g c =
    run-at_most c.filtered.result (counts c.filtered.ensures)

pub returns-clause-status : goal.returns-clause-status
returns-clause-status g c = (
  run-help c.filtered.result c.filtered.result (counts c.filtered.ensures) (inl refl),
  run-usage c.filtered.result c.filtered.result (counts c.filtered.ensures) (inl refl),
)
