-- A script has at most one answer to `play`.
use Rattle.place_commands.proofs.Imports.{Option, Some, ◌≡◌, ◌∙◌, ℕ, inl, inr, List, [], ◌∷◌, None, sym, arith, Result}
use Rattle.place_commands.proofs.Imports.{Ok, Err, Script, ScriptFault, MachineState, ScriptsArePlayedInOneWay}
use Rattle.place_commands.proofs.Imports.{WhatIsLeftIsToldInOneWay, Refusal, Answer, SayUndone, IsPlayOf, GivesScript}
use Rattle.election_script.specs.declared.faults.ScriptFault.TheVariants.{At}
use Rattle.election_script.specs.Reading.{Reads}

-- a text is read in one way, a script is played in one way, and what is left is reported in one way
pub record PlayOne : Type 0 where
  -- a text is one script, or has one first fault
  pub reading : (text : List ℕ) (answer other : Result Script ScriptFault) → Reads text answer → Reads text other
      → answer ≡ other
  -- what the script's machines come to is one
  pub played : ScriptsArePlayedInOneWay
  -- for each machine nothing is left, or one action with one cause
  pub left : WhatIsLeftIsToldInOneWay

-- the lines on what is left are the same
pub same_undone : PlayOne → (machines : List MachineState) (lines others : List ℕ) → SayUndone machines lines
    → SayUndone machines others → lines ≡ others
same_undone one [] lines others p q = p ∙ sym q
same_undone one (m ∷ machines) lines others (left, rest, waits, says, told) (left', rest', waits', says', told') =
    let here : left ≡ left' = one.left m left left' waits waits' in
    let later : rest ≡ rest' = same_undone one machines rest rest' says says' in
    cc

-- machines that have played have one answer
pub same_play_of : PlayOne → (prefix : List ℕ) (script : Script) (a b : Answer) → IsPlayOf prefix script a
    → IsPlayOf prefix script b → a ≡ b
same_play_of one prefix script a b p q =
    let same : p.machines ≡ q.machines = one.played script p.machines q.machines p.played q.played in
    let lines : p.undone ≡ q.undone = same_undone one q.machines p.undone q.undone (rw same at p.left) q.left in
    cc (p.told, q.told)

-- a script's file gives one answer
pub one_script : PlayOne → (name : List ℕ) (file : Option (List ℕ)) (p q : Result Script Refusal) →
    GivesScript name file p → GivesScript name file q → p ≡ q
one_script one name None p q x y = x ∙ sym y
one_script one name (Some bytes) p q (inl (long, e)) (inl (long', f)) = e ∙ sym f
one_script one name (Some bytes) p q (inl (long, e)) (inr (inl (short, y))) = absurd (omega arith)
one_script one name (Some bytes) p q (inl (long, e)) (inr (inr (short, y))) = absurd (omega arith)
one_script one name (Some bytes) p q (inr (inl (short, x))) (inl (long, f)) = absurd (omega arith)
one_script one name (Some bytes) p q (inr (inr (short, x))) (inl (long, f)) = absurd (omega arith)
one_script one name (Some bytes) p q (inr (inl (short, (n, why, is, e)))) (inr (inl (short', (k, other, also, f)))) =
    let same : Err (At n why) ≡ Err (At k other) = one.reading bytes (Err (At n why)) (Err (At k other)) is also in
    cc
one_script one name (Some bytes) p q (inr (inl (short, (n, why, is, e)))) (inr (inr (short', (script, also, f)))) =
    let same : Err (At n why) ≡ Ok script = one.reading bytes (Err (At n why)) (Ok script) is also in
    cc
one_script one name (Some bytes) p q (inr (inr (short, (script, is, e)))) (inr (inl (short', (k, other, also, f)))) =
    let same : Ok script ≡ Err (At k other) = one.reading bytes (Ok script) (Err (At k other)) is also in
    cc
one_script one name (Some bytes) p q (inr (inr (short, (script, is, e)))) (inr (inr (short', (other, also, f)))) =
    let same : Ok script ≡ Ok other = one.reading bytes (Ok script) (Ok other) is also in
    cc
