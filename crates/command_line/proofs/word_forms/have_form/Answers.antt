use Rattle.command_line.proofs.word_forms.have_form.Goals as goal
use Rattle.command_line.proofs.{Imports.◌∙◌, Tests.forms_of_texts}

pub returns : goal.returns
returns c = c.are_words.ensures ∙ forms_of_texts c.args.words.now
