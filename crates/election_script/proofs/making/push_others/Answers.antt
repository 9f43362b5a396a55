use Rattle.election_script.proofs.Imports.{[], append-nil, arith, Bool, eq-eqb, hears, List, ne_eqb, not}
use Rattle.election_script.proofs.Imports.{range_with_len, Step, sym, ℕ, ◌-◌, ◌==◌, ◌≡◌}
use Rattle.election_script.proofs.Day.{joined_more, kept_more}
use Rattle.election_script.proofs.making.push_others.Goals.{else-at-from, then-at-from+in_ok-push_hears}
use Rattle.election_script.proofs.making.push_others.Goals as goal

-- one booth more, which hears the entries where it isn't their maker
pub loop-at-preserved : goal.loop-at-preserved
loop-at-preserved c =
    let at = c.loop-at.at in
    let from = c.args.from in
    let is_other : ℕ → Bool = λ other. not (other == from) in
    let heard : ℕ → List Step = λ other. hears other from (range_with_len c.args.first (c.args.end - c.args.first)) in
    let more = kept_more heard is_other 1 at c.loop-at.auto.at in
    elim c.if-at-from.branch [
      | then-at-from+in_ok-push_hears w ↦
          rw w.steps-is (joined_more _ _ _ _ _ _ c.loop-at.invariant w.in_ok-push_hears.ensures
          (rw (ne_eqb at from w.if-at-from.true) at more))
      | else-at-from w ↦
          rw w.steps-is (joined_more _ _ _ _ [] _ c.loop-at.invariant (sym (append-nil _))
          (rw (eq-eqb at from w.if-at-from.false) at more))
    ]

-- all three
pub returns : goal.returns
returns c =
    let last : c.loop-at.at ≡ 4 = omega arith in
    rw last at c.loop-at.invariant
