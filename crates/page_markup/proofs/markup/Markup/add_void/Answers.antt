use Rattle.page_markup.proofs.markup.Markup.add_void.Goals as goal
use Rattle.page_markup.proofs.Parts.{grown, void_added}
use Rattle.page_markup.specs.{Elements.void_element, WellFormed.AreAttributes, WellFormed.IsContent}
use Rattle.std.proofs.Common.{List, subst, sym, ℕ}

pub invariant_of-self : goal.invariant_of-self
invariant_of-self c =
    let old : List ℕ = c.self.inside.bytes.items in
    let attributes : List ℕ = c.as_slice.result.now in
    grown (λ (bytes : List ℕ). ∥ IsContent bytes ∥₁) c.add_void.result old c.add_void.new.out.items
    (void_element c.args.tag attributes) c.add_void.ensures.ok c.add_void.ensures.err c.self.invariant
    (void_added old c.args.tag attributes c.self.invariant
    (subst (λ (bytes : List ℕ). ∥ AreAttributes bytes ∥₁) (sym c.as_slice.ensures.value)
    c.as_slice.ensures.well_formed))
