use Rattle.log_frontier.proofs.Imports.{[], arith, bytes_eq-Decides, false≢true, get_or, inl, inr, sym, true, ◌-◌, ◌<◌}
use Rattle.log_frontier.proofs.Imports.{◌↔◌, ◌∙◌, ◌≡◌}
use Rattle.std.proofs.lemmas.Bool.Decides.{Decides-ltb}
use Rattle.log_frontier.proofs.SortedDigests.{is_found, not_found, skips, takes_up}
use Rattle.log_frontier.proofs.gaps_of_entries.without.Goals as goal
use Rattle.log_frontier.proofs.gaps_of_entries.without.Goals.{then-i-gt0, else-i-gt0, else-not-is_again}
use Rattle.log_frontier.proofs.gaps_of_entries.without.Goals.{then-not-is_again+then-is_err+in_ok-push}
use Rattle.log_frontier.proofs.gaps_of_entries.without.Goals.{else-not-is_again-via-then-not-is_again+else-is_err}
use Rattle.log_frontier.proofs.gaps_of_entries.without.Goals.{else-not-is_again-via-else-not-is_again}

pub loop-i-preserved : goal.loop-i-preserved
loop-i-preserved c =
    let named = c.args.named.now in
    let borne = c.args.borne.now in
    let found = c.loop-i.found.items in
    let i = c.loop-i.i in
    let within = c.loop-i-test.true in
    let d = get_or named i [] in
    let previous = get_or named (i - 1) [] in
    let says : (c.if-i-gt0.is_again ≡ true) ↔ ((0 < i) × (previous ≡ d)) = elim c.if-i-gt0.branch [
      | then-i-gt0 w ↦ (
        λ yes. (
          w.if-i-gt0.true,
          (bytes_eq-Decides previous d).0 (sym w.eq-is_again.ensures ∙ sym w.is_again-is ∙ yes),
        ),
        λ (_, same). w.is_again-is ∙ w.eq-is_again.ensures ∙ (bytes_eq-Decides previous d).1 same,
      )
      | else-i-gt0 w ↦ (
        λ yes. absurd (omega (arith, w.if-i-gt0.false, (Decides-ltb 0 i).0 (sym w.is_again-is ∙ yes))),
        λ (some, _). absurd (omega (arith, some, w.if-i-gt0.false)),
      )
    ] in
    elim c.if-not-is_again.branch [
      | then-not-is_again+then-is_err+in_ok-push w ↦
          let missing = not_found borne d w.binary_search.result c.requires.borne w.binary_search.ensures.position
          (sym w.is_err.ensures.value ∙ w.if-is_err.true) in
          let new = λ (some : 0 < i) (same : previous ≡ d).
          false≢true (sym w.if-not-is_again.true ∙ says.1 (some, same)) in
          rw (w.found-is, w.in_ok-push.ensures.items)
          (takes_up named i within borne found c.requires.named missing new c.loop-i.invariant)
      | else-not-is_again w ↦ rw w.found-is (skips named i within borne found (elim w.else-not-is_again.branch [
        | else-not-is_again-via-then-not-is_again+else-is_err v ↦
            inl (is_found borne d v.binary_search.result v.binary_search.ensures.bound
            v.binary_search.ensures.position (sym v.is_err.ensures.value ∙ v.if-is_err.false))
        | else-not-is_again-via-else-not-is_again v ↦ inr (says.0 v.if-not-is_again.false)
      ]) c.loop-i.invariant)
    ]
