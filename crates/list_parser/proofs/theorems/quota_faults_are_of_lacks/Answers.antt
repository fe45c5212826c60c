-- Entry by entry.
use Rattle.list_parser.proofs.QuotaLemmas.{faults_are_of_lacks, faults_name_the_first}
use Rattle.list_parser.proofs.theorems.quota_faults_are_of_lacks.Goals as goal

pub returns : goal.returns
returns c = record { exactly = faults_are_of_lacks; first = faults_name_the_first }
