use Rattle.ways_of_work.proofs.each_in_turn.Goals as goal
use Rattle.std.proofs.Common.{arith, get_or, inl, inr, length, refl, subst, sym, ℕ, ◌<◌, ◌∙◌, ◌≡◌}
use Rattle.std.proofs.lemmas.{Bool.cases_lt, List.get_or-set_other, List.get_or-set_same, List.get_or_default}
use Rattle.std.specs.{Fork.ChangesAt, Prelude.slice_set}

pub places-preserved : goal.places-preserved
places-preserved g c =
    let k = c.places.at in
    let xs = c.args.list.now in
    let ys = c.places.list in
    let y = c.one.new.element in
    let R : ℕ → g.row.T.Denot → g.row.T.Denot → Type 0 = ChangesAt g.F.Fn c.args.f.now in
    let within : k < length ys = omega arith in record {
      left = λ j d above. get_or-set_other ys k j y d (λ (e : j ≡ k). absurd (omega arith))
          ∙ c.places.invariant.left j d (omega arith);
      changed = λ j d below. elim (cases_lt j k) [
        | inl lt ↦ subst (R j (get_or xs j d)) (sym (get_or-set_other ys k j y d (λ (e : j ≡ k). absurd (omega arith))))
            (c.places.invariant.changed j d lt)
        | inr ge ↦ (
            let here : k ≡ j = omega arith in
            subst (λ (i : ℕ). R i (get_or xs i d) (get_or (slice_set ys k y) i d)) here
            (subst (R k (get_or xs k d)) (sym (get_or-set_same ys k y d within))
            (subst (λ (x : g.row.T.Denot). R k x y)
            (get_or_default ys k _ d within ∙ c.places.invariant.left k d (omega arith)) c.one.ensures)))
      ];
    }

pub returns : goal.returns
returns g c = λ i d below. (refl, c.places.invariant.changed i d (omega arith))
