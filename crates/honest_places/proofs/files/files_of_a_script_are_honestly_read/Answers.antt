use Rattle.honest_places.proofs.HonestFiles
use Rattle.honest_places.proofs.files.files_of_a_script_are_honestly_read.Goals as goal

pub returns-clause-read : goal.returns-clause-read
returns-clause-read c = HonestFiles.script_read

pub returns-clause-given : goal.returns-clause-given
returns-clause-given c = HonestFiles.script_given

pub returns-clause-not_refused : goal.returns-clause-not_refused
returns-clause-not_refused c = HonestFiles.script_not_refused

pub returns-clause-distinct : goal.returns-clause-distinct
returns-clause-distinct c = HonestFiles.script_distinct
