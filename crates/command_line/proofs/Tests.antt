-- Tests of words.
use Rattle.command_line.proofs.Imports.{◌≡◌, List, [], ◌∷◌, String, Global, map, string_bytes, ap, refl}
use Rattle.std.proofs.Common.{◌&&◌}
use Rattle.std.specs.List.{list_all}
use Rattle.command_line.specs.WordForms.{have_form, is_command_word}

-- words have the form if each of their texts does
pub forms_of_texts : (words : List (String Global)) →
    list_all (λ word. is_command_word (string_bytes word)) words ≡ have_form (map string_bytes words)
forms_of_texts [] = refl
forms_of_texts (word ∷ words) = ap (λ b. is_command_word (string_bytes word) && b) (forms_of_texts words)
