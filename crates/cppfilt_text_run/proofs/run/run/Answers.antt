use Rattle.cppfilt_text_run.proofs.RanLaws.{ended-done, ended-front, ended-complete, ended-usage, ended-usage-told}
use Rattle.cppfilt_text_run.proofs.RanLaws.{ended-help}
use Rattle.cppfilt_text_run.proofs.RanLaws.{ended-help-told, ended-unread, ended-read, ended-read-told, ended-write}
use Rattle.cppfilt_text_run.proofs.RanLaws.{ended-write-told, ended-long, ended-long-told, ended-long-bytes}
use Rattle.cppfilt_text_run.proofs.RanLaws.{ended-long-bytes-told, ended-at_most, ended-keeps_up}
use Rattle.cppfilt_text_run.proofs.RanLaws.{ended-read-written, ended-long-written, ended-refused, runs-named}
use Rattle.cppfilt_text_run.proofs.run.run.Goals as goal

pub returns-clause-done : goal.returns-clause-done
returns-clause-done g c o work is e = ended-done c.run_by_words.ensures.ended o work is e

pub returns-clause-front : goal.returns-clause-front
returns-clause-front g c o work is = ended-front c.run_by_words.ensures.ended o work is

pub returns-clause-keeps_up : goal.returns-clause-keeps_up
returns-clause-keeps_up g c o work is = ended-keeps_up c.run_by_words.ensures.ended o work is

pub returns-clause-read_fault_written : goal.returns-clause-read_fault_written
returns-clause-read_fault_written g c o work is e = ended-read-written c.run_by_words.ensures.ended o work is e

pub returns-clause-input_too_long_written : goal.returns-clause-input_too_long_written
returns-clause-input_too_long_written g c o work is e =
    ended-long-written c.run_by_words.ensures.ended o work is e

pub returns-clause-complete : goal.returns-clause-complete
returns-clause-complete g c o work is read write = ended-complete c.run_by_words.ensures.ended o work is read write

pub returns-clause-refused : goal.returns-clause-refused
returns-clause-refused g c o work is read write = ended-refused c.run_by_words.ensures.ended o work is read write

pub returns-clause-usage : goal.returns-clause-usage
returns-clause-usage g c e = ended-usage c.run_by_words.ensures.ended e

pub returns-clause-usage_told : goal.returns-clause-usage_told
returns-clause-usage_told g c e = ended-usage-told c.run_by_words.ensures.ended e

pub returns-clause-help : goal.returns-clause-help
returns-clause-help g c e = ended-help c.run_by_words.ensures.ended e

pub returns-clause-help_told : goal.returns-clause-help_told
returns-clause-help_told g c e = ended-help-told c.run_by_words.ensures.ended e

pub returns-clause-unread : goal.returns-clause-unread
returns-clause-unread g c e = ended-unread c.run_by_words.ensures.ended e

pub returns-clause-read_fault : goal.returns-clause-read_fault
returns-clause-read_fault g c e = ended-read c.run_by_words.ensures.ended e

pub returns-clause-read_fault_told : goal.returns-clause-read_fault_told
returns-clause-read_fault_told g c e = ended-read-told c.run_by_words.ensures.ended e

pub returns-clause-write_fault : goal.returns-clause-write_fault
returns-clause-write_fault g c e = ended-write c.run_by_words.ensures.ended e

pub returns-clause-write_fault_told : goal.returns-clause-write_fault_told
returns-clause-write_fault_told g c e = ended-write-told c.run_by_words.ensures.ended e

pub returns-clause-input_too_long : goal.returns-clause-input_too_long
returns-clause-input_too_long g c e = ended-long c.run_by_words.ensures.ended e

pub returns-clause-input_too_long_told : goal.returns-clause-input_too_long_told
returns-clause-input_too_long_told g c e = ended-long-told c.run_by_words.ensures.ended e

pub returns-clause-input_too_long_bytes : goal.returns-clause-input_too_long_bytes
returns-clause-input_too_long_bytes g c e = ended-long-bytes c.run_by_words.ensures.ended e

pub returns-clause-input_too_long_bytes_told : goal.returns-clause-input_too_long_bytes_told
returns-clause-input_too_long_bytes_told g c = ended-long-bytes-told c.run_by_words.ensures.ended

pub returns-clause-at_most : goal.returns-clause-at_most
returns-clause-at_most g c = ended-at_most c.run_by_words.ensures.ended

pub returns-clause-named : goal.returns-clause-named
returns-clause-named g c o = runs-named o _

pub returns-clause-message : goal.returns-clause-message
returns-clause-message g c none memory usage = c.run_by_words.ensures.message none memory usage
