use Rattle.std.proofs.Common.{◌≡◌, ◌∙◌, ◌++◌, List, ℕ, ap, is_ok, sym, subst}
use Rattle.std.specs.Prelude.{if◌then◌else◌, Result, Ok, Err}
use Rattle.page_markup.specs.WellFormed.{IsContent}
use Rattle.page_markup.proofs.Parts.{content_added}
use Rattle.page_markup.proofs.markup.Markup.add.Goals as goal

-- a fact of a list to which a piece was added, or nothing
added : {E : Type 0} (P : List ℕ → Type 0) (result : Result (Unit {0}) E) (old new piece : List ℕ) →
    new ≡ (if is_ok result then old ++ piece else old) → P old → P (old ++ piece) → P new
added P (Ok done) old new piece is before after = subst P (sym is) after
added P (Err why) old new piece is before after = subst P (sym is) before

pub invariant_of-self : goal.invariant_of-self
invariant_of-self c =
    let old : List ℕ = c.self.inside.bytes.items in
    let piece : List ℕ = c.other.inside.bytes.items in
    added (λ (bytes : List ℕ). ∥ IsContent bytes ∥₁) c.extend_from_slice.result old
    c.extend_from_slice.new.self.items piece
    (c.extend_from_slice.ensures.items ∙ ap (λ (p : List ℕ). if is_ok c.extend_from_slice.result then old ++ p else old)
    (c.as_slice.ensures.value)) c.self.invariant (content_added old piece c.self.invariant c.other.invariant)
