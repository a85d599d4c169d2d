use Rattle.call_stream.proofs.ScriptFaults.{few_met, met_fault}
use Rattle.call_stream.proofs.laws.met_faults_are_the_scripts.Goals as goal

pub returns-clause-fault : goal.returns-clause-fault
returns-clause-fault c = met_fault

pub returns-clause-few : goal.returns-clause-few
returns-clause-few c = few_met
