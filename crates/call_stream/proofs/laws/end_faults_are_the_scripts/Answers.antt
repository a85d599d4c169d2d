use Rattle.call_stream.proofs.ScriptFaults.{end_fault, few_given}
use Rattle.call_stream.proofs.laws.end_faults_are_the_scripts.Goals as goal

pub returns-clause-fault : goal.returns-clause-fault
returns-clause-fault c = end_fault

pub returns-clause-few : goal.returns-clause-few
returns-clause-few c = few_given
