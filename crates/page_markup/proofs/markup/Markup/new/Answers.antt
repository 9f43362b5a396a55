use Rattle.std.proofs.Common.{sym, subst}
use Rattle.page_markup.specs.WellFormed.{IsContent, no_content}
use Rattle.page_markup.proofs.markup.Markup.new.Goals as goal

pub invariant_of-result : goal.invariant_of-result
invariant_of-result c = ∣ subst IsContent (sym c.new.ensures.items) no_content ∣₁
