-- What is written of a formula.
use Rattle.rule_language.specs.declared.form.Form.TheVariants as form
use Rattle.rule_language.proofs.Imports.{[], ap, append-nil, Form, form_text, form_words, List, no_trees, parts_of}
use Rattle.rule_language.proofs.Imports.{refl, row_text, tree_then, Trees, with_spaces, ℕ, ◌++◌, ◌∙◌, ◌∷◌, ◌≡◌}
use Rattle.std.proofs.Common.{◌≢◌}

-- all forms but `true` are in parentheses
pub enclosed_text : (f : Form) (inside : List ℕ) → f ≢ form.True
    → form_text f inside ≡ 40 ∷ (with_spaces (form_words f) ++ (inside ++ 41 ∷ []))
enclosed_text form.True inside other = absurd (other refl)
enclosed_text f inside other = refl

-- a formula in parentheses
pub row_of_form : (tree : Trees) (f : Form) → tree ≡ tree_then f (parts_of tree) no_trees → f ≢ form.True →
    row_text tree ≡ 32 ∷ 40 ∷ (with_spaces (form_words f) ++ (row_text (parts_of tree) ++ 41 ∷ []))
row_of_form tree f is other = ap row_text is
    ∙ ap (λ xs. 32 ∷ xs) (append-nil (form_text f (row_text (parts_of tree)))
    ∙ enclosed_text f (row_text (parts_of tree)) other)
