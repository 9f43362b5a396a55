use Rattle.page_markup.proofs.Parts.{escaped_text}
use Rattle.page_markup.proofs.laws.escaped_text_is_character_data.Goals as goal

pub returns : goal.returns
returns c = escaped_text
