use Rattle.std.proofs.Common.{sym, subst}
use Rattle.page_markup.specs.WellFormed.{AreAttributes, no_attributes}
use Rattle.page_markup.proofs.attributes.Attributes.new.Goals as goal

pub invariant_of-result : goal.invariant_of-result
invariant_of-result c = ∣ subst AreAttributes (sym c.new.ensures.items) no_attributes ∣₁
