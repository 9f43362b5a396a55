use Rattle.std.proofs.Common.{◌≡◌, ◌∙◌, ◌++◌, ap, sym, List, ℕ, is_ok}
use Rattle.std.specs.Prelude.{if◌then◌else◌, Result, Ok, Err, OnOk}
use Rattle.page_markup.proofs.Parts.{plain_text}
use Rattle.page_markup.proofs.escaping.add_escaped.Goals as goal

-- what was added is what is wanted
is_added : {E : Type 0} (result : Result (Unit {0}) E) (old new text wanted : List ℕ) →
    new ≡ (if is_ok result then old ++ text else old) → wanted ≡ text → OnOk result (new ≡ old ++ wanted)
is_added (Ok done) old new text wanted is same = is ∙ ap (λ (l : List ℕ). old ++ l) (sym same)
is_added (Err why) old new text wanted is same = tt

pub returns-then-is_all_plain-clause-ok : goal.returns-then-is_all_plain-clause-ok
returns-then-is_all_plain-clause-ok c =
    is_added c.extend_from_slice.result c.args.out.now.items c.extend_from_slice.new.self.items c.args.text.now _
    c.extend_from_slice.ensures.items
    (plain_text c.args.text.now (sym c.is_all_plain.ensures ∙ c.if-is_all_plain.true))
