-- What requests of files and of a buffer keep.
use Rattle.own_model.proofs.BufferKeptLemmas.{all_keep_files, all_keep_charges, all_keep_limits, all_keep_within, all_fit}
use Rattle.own_model.proofs.buffers.buffers_are_charged.Goals as goal

pub returns-clause-files : goal.returns-clause-files
returns-clause-files c = all_keep_files

pub returns-clause-charges : goal.returns-clause-charges
returns-clause-charges c = all_keep_charges

pub returns-clause-limits : goal.returns-clause-limits
returns-clause-limits c = all_keep_limits

pub returns-clause-within : goal.returns-clause-within
returns-clause-within c = all_keep_within

pub returns-clause-long : goal.returns-clause-long
returns-clause-long c = all_fit
