-- Mending has at most as many steps as there are machines times sent entries.
use Rattle.log_repair.proofs.{Bearers.differ_after, Bearers.held_in, Events.Heard, Events.heard_if}
use Rattle.log_repair.proofs.Imports.{[], arith, entry_of, Event, few_among, happens, held, history, IsOrderly, length}
use Rattle.log_repair.proofs.Imports.{length-map, length_play, List, MendingIsShort, Node, Option, refl, sent_in, Step}
use Rattle.log_repair.proofs.Imports.{suc, suc-mul, total, World, zero, ℕ, ◌*◌, ◌+◌, ◌∙◌, ◌∷◌, ◌≡◌, ◌≤◌}
use Rattle.log_repair.proofs.{OneWay.AreTaken, OneWay.repairs_sure, Plays.repairs_is_a_play}

total_few : {T : Type 0} (most : ℕ) (w : World T) → ((m : ℕ) → length (history w m) ≤ most) → total w ≤ length w * most
total_few most [] small = omega arith
total_few most (a ∷ w) small =
    omega (arith, small zero, total_few most w (λ m. small (suc m)), suc-mul (length w) most)

module _ {T : Type 0} (node : T → Node) (next : ℕ → List (Event T) → Option T) (log : ℕ) where
  -- an orderly world stays so with the same sent entries, and has as many more events as there were steps
  kept : (steps : List Step) (old new : World T) →
      AreTaken (happens node next log) (Heard node next log) old steps new → IsOrderly node old →
      IsOrderly node new × (sent_in new ≡ sent_in old) × (total new ≡ length steps + total old)
  kept [] old new is orderly = rw is (orderly, refl, omega arith)
  kept (s ∷ steps) old new (heard, more) orderly =
      let (still, sends, counts) = kept steps (happens node next log old s) new more (heard.orderly orderly) in
      (still, sends ∙ heard.sends, omega (arith, counts, heard.total))

-- the law
pub mending_is_short : {T : Type 0} (node : T → Node) → MendingIsShort node
mending_is_short node next log old new steps orderly mended =
    let (taken, _) = repairs_sure node (happens node next log) (Heard node next log) (heard_if node next log) old new
    steps mended in
    let (still, sends, counts) = kept node next log steps old new taken orderly in
    let few = total_few (length (sent_in new)) new (λ m. omega (
      arith,
      length-map (history new m) entry_of,
      few_among node (held (history new m)) (sent_in new) (differ_after node m [] (history new m) (still.legal m))
          (λ e c. held_in node new still m e c),
    )) in
    let count : length new ≡ length old = rw (repairs_is_a_play node next log old new steps mended, length_play) in
    let most : total new ≤ length old * length (sent_in old) = rw (← sends, ← count) few in
    omega (arith, counts, most)
