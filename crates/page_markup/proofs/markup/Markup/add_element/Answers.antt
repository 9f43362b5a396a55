use Rattle.page_markup.proofs.markup.Markup.add_element.Goals as goal
use Rattle.page_markup.proofs.Parts.{element_added, grown}
use Rattle.page_markup.specs.{Elements.element, WellFormed.AreAttributes, WellFormed.IsContent}
use Rattle.std.proofs.Common.{List, subst, sym, ℕ}

pub invariant_of-self : goal.invariant_of-self
invariant_of-self c =
    let old : List ℕ = c.self.inside.bytes.items in
    let attributes : List ℕ = c.as_slice.result.now in
    let inner : List ℕ = c.as_slice-2.result.now in
    grown (λ (bytes : List ℕ). ∥ IsContent bytes ∥₁) c.add_element.result old c.add_element.new.out.items
    (element c.args.tag attributes inner) c.add_element.ensures.ok c.add_element.ensures.err c.self.invariant
    (element_added old c.args.tag attributes inner c.self.invariant
    (subst (λ (bytes : List ℕ). ∥ AreAttributes bytes ∥₁) (sym c.as_slice.ensures.value) c.as_slice.ensures.well_formed)
    (subst (λ (bytes : List ℕ). ∥ IsContent bytes ∥₁) (sym c.as_slice-2.ensures.value)
    c.as_slice-2.ensures.well_formed))
