use Rattle.wp_dispatch.proofs.Printed.{is_read, section_is, sends}
use Rattle.wp_dispatch.proofs.laws.printed_desk_files_are_read.Goals as goal

pub returns-clause-section : goal.returns-clause-section
returns-clause-section c = λ desk waves. section_is desk waves

pub returns-clause-read : goal.returns-clause-read
returns-clause-read c = λ desk waves is few may. is_read desk waves is few may

pub returns-clause-sends : goal.returns-clause-sends
returns-clause-sends c = λ names waves starts out are. sends names waves starts out are
