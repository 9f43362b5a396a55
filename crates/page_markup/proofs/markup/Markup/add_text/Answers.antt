use Rattle.page_markup.proofs.markup.Markup.add_text.Goals as goal
use Rattle.page_markup.proofs.Parts.{grown, text_added}
use Rattle.page_markup.specs.{Escaping.escaped, WellFormed.IsContent}
use Rattle.std.proofs.Common.{List, ℕ}

pub invariant_of-self : goal.invariant_of-self
invariant_of-self c =
    let old : List ℕ = c.self.inside.bytes.items in
    grown (λ (bytes : List ℕ). ∥ IsContent bytes ∥₁) c.add_escaped.result old c.add_escaped.new.out.items
    (escaped c.args.text.now) c.add_escaped.ensures.ok c.add_escaped.ensures.err c.self.invariant
    (text_added old c.args.text.now c.self.invariant)
