use Rattle.page_markup.proofs.documents.svg_document.Goals as goal
use Rattle.page_markup.proofs.Parts.{is_drawing}
use Rattle.page_markup.specs.{Elements.element, Elements.svg_document, WellFormed.AreAttributes, WellFormed.IsContent}
use Rattle.page_markup.specs.{WellFormed.IsDocument, declared.names.Tag.TheVariants.Svg}
use Rattle.std.proofs.Common.{[], ap, List, subst, sym, ℕ, ◌++◌, ◌∙◌, ◌∷◌}

pub returns-clause-well_formed : goal.returns-clause-well_formed
unfolding svg_document
returns-clause-well_formed c =
    let attributes : List ℕ = c.as_slice-attributes.result.now in
    let inner : List ℕ = c.as_slice-inner.result.now in
    subst (λ (bytes : List ℕ). ∥ IsDocument bytes ∥₁) (sym (c.in_ok-push.ensures.items
    ∙ ap (λ (bytes : List ℕ). bytes ++ 10 ∷ []) (c.in_ok-add_element.ensures.ok
    ∙ ap (λ (bytes : List ℕ). bytes ++ element Svg attributes inner) c.in_ok-out.ensures.items)))
    (is_drawing attributes inner
    (subst (λ (bytes : List ℕ). ∥ AreAttributes bytes ∥₁) (sym c.as_slice-attributes.ensures.value)
    c.as_slice-attributes.ensures.well_formed)
    (subst (λ (bytes : List ℕ). ∥ IsContent bytes ∥₁) (sym c.as_slice-inner.ensures.value)
    c.as_slice-inner.ensures.well_formed))
