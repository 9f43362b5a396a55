use Rattle.log_repair.proofs.Imports.{◌≡◌, ◌∙◌, Option, Some, None, refl, sym, option_map, option_or, drop_more}
use Rattle.log_repair.proofs.bearer.bearer.Goals as goal

-- the first answer is the answer
some_or : {A B : Type 0} (f : A → B) (o p : Option A) (b : B) → option_map f o ≡ Some b →
    Some b ≡ option_map f (option_or o p)
some_or f None p b is = cc is
some_or f (Some a) p b is = sym is

none_or : {A B : Type 0} (f : A → B) (o p : Option A) → option_map f o ≡ None → option_or o p ≡ p
none_or f None p is = refl
none_or f (Some a) p is = cc is

pub returns-in-Some : goal.returns-in-Some
returns-in-Some c =
    let next = drop_more c.args.machines.now _ c.machine-item.result c.loop-machine-test.true in
    rw (c.loop-machine.invariant, next, ← c.machine-item.is)
    (some_or _ _ _ c.in-Some.found (sym c.answer_of.ensures ∙ c.in-Some.is))

pub loop-machine-preserved : goal.loop-machine-preserved
loop-machine-preserved c =
    let next = drop_more c.args.machines.now _ c.machine-item.result c.loop-machine-test.true in
    rw (c.loop-machine.invariant, next, ← c.machine-item.is)
    (none_or _ _ _ (sym c.answer_of.ensures ∙ c.in-None.is))
