use Rattle.page_markup.proofs.attributes.Attributes.add.Goals as goal
use Rattle.page_markup.proofs.Parts.{attribute_added, grown}
use Rattle.page_markup.specs.{Elements.attribute, WellFormed.AreAttributes}
use Rattle.std.proofs.Common.{List, ℕ}

pub invariant_of-self : goal.invariant_of-self
invariant_of-self c =
    let old : List ℕ = c.self.inside.bytes.items in
    grown (λ (bytes : List ℕ). ∥ AreAttributes bytes ∥₁) c.add_attribute.result old
    c.add_attribute.new.out.items (attribute c.args.name c.args.value.now) c.add_attribute.ensures.ok
    c.add_attribute.ensures.err c.self.invariant
    (attribute_added old c.args.name c.args.value.now c.self.invariant)
