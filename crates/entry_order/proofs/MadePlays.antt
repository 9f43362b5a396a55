-- In a play each entry was its machine's next when it was sent.
use Rattle.entry_order.proofs.Imports
use Imports.{Event, IsMadeBy, List, Node, Option, PlaysAreMade, Sent, Step, World, [], ap, arith, happens, history}
use Imports.{inl, inr, last_or_earlier, length, length-append, play, start, subst, sym, ℕ, ◌∙◌, ◌∷◌}
use Rattle.entry_order.proofs.Plays.{Cause, Grows-step, start_is_empty}

module _ {T : Type 0} (node : T → Node) (next : ℕ → List (Event T) → Option T) (log : ℕ) where
  -- one step keeps each entry the next of its time
  made_step : (w : World T) (s : Step) → IsMadeBy next w → IsMadeBy next (happens node next log w s)
  made_step w s made m past e later is =
      elim (Grows-step node next log w s m) [
        | inl same ↦ made m past e later (sym same ∙ is)
        | inr (x, more, cause) ↦ elim (last_or_earlier _ x past (Sent e) later (sym more ∙ is)) [
          | inl (rest, old) ↦ made m past e rest old
          | inr (all, last) ↦ rw (← all) (subst (Cause node next log w m (history w m)) last cause)
        ]
      ]

  -- at the start nothing was sent
  pub made_start : (machines : ℕ) → IsMadeBy next (start machines)
  made_start machines m past e later is =
      absurd (omega (arith, ap length (sym is ∙ start_is_empty machines m), length-append past (Sent e ∷ later)))

  -- steps keep it so, from any world
  pub made_play : (w : World T) (steps : List Step) → IsMadeBy next w → IsMadeBy next (play node next log w steps)
  made_play w [] made = made
  made_play w (s ∷ steps) made = made_play (happens node next log w s) steps (made_step w s made)

-- the law, of every list of steps
pub plays_are_made : {T : Type 0} (node : T → Node) → PlaysAreMade node
plays_are_made node next log machines steps =
    made_play node next log (start machines) steps (made_start node next log machines)
