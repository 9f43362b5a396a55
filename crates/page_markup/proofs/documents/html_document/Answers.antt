use Rattle.page_markup.proofs.documents.html_document.Goals as goal
use Rattle.page_markup.proofs.Parts.{is_page}
use Rattle.page_markup.specs.{Elements.element, Elements.html_document, WellFormed.AreAttributes, WellFormed.IsContent}
use Rattle.page_markup.specs.{WellFormed.IsDocument, declared.names.Tag.TheVariants.Html}
use Rattle.std.proofs.Common.{[], ap, codes, List, subst, sym, ℕ, ◌++◌, ◌∙◌, ◌∷◌}

pub returns-clause-well_formed : goal.returns-clause-well_formed
unfolding html_document
returns-clause-well_formed c =
    let attributes : List ℕ = c.as_slice-attributes.result.now in
    let inner : List ℕ = c.as_slice-inner.result.now in
    subst (λ (bytes : List ℕ). ∥ IsDocument bytes ∥₁) (sym (c.in_ok-push.ensures.items
    ∙ ap (λ (bytes : List ℕ). bytes ++ 10 ∷ []) (c.in_ok-add_element.ensures.ok
    ∙ ap (λ (bytes : List ℕ). bytes ++ element Html attributes inner) (c.in_ok-extend_from_slice.ensures.items
    ∙ ap (λ (bytes : List ℕ). bytes ++ (codes "<!DOCTYPE html>" ++ 10 ∷ [])) c.in_ok-out.ensures.items))))
    (is_page attributes inner
    (subst (λ (bytes : List ℕ). ∥ AreAttributes bytes ∥₁) (sym c.as_slice-attributes.ensures.value)
    c.as_slice-attributes.ensures.well_formed)
    (subst (λ (bytes : List ℕ). ∥ IsContent bytes ∥₁) (sym c.as_slice-inner.ensures.value)
    c.as_slice-inner.ensures.well_formed))
