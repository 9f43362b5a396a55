use Rattle.election_script.proofs.ReadScript.{text_read, text_said}
use Rattle.election_script.proofs.laws.texts_of_scripts_are_read.Goals as goal

pub returns : goal.returns
returns c = λ text script. (text_said text script, text_read text script)
