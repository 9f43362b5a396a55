use Rattle.log_frontier.proofs.Imports.{Bool, bytes_eq, cond, Err, false, has, Ok, refl, Result, true, ◌<◌, ◌||◌, ◌∙◌}
use Rattle.log_frontier.proofs.Imports.{◌≡◌}
use Rattle.std.specs.{HashSet.spare, Prelude.IsOk, Prelude.OnOk}
use Rattle.log_frontier.proofs.digests.Digests.insert.Goals as goal

-- a test or another, as a choice
when : (b x : Bool) → cond b true x ≡ (b || x)
when true x = refl
when false x = refl

-- what holds where a call succeeds holds where it did
at_ok : {A E : Type 0} (r : Result A E) (P : Type 0) → IsOk r → OnOk r P → P
at_ok (Ok a) P ok p = p
at_ok (Err e) P ok p = cc

pub returns-clause-has : goal.returns-clause-has
returns-clause-has c d =
    let room : 0 < spare c.self.inside.set = rw (← c.self.view_is) at c.requires in
    let updates =
    at_ok c.insert-inserted.result _ (c.insert-inserted.ensures.succeeds room) c.insert-inserted.ensures.updates in
    rw (← c.self.view_is) (updates.0 d ∙ when (bytes_eq c.args.digest.now d) (has c.self.inside.set.keys d))
