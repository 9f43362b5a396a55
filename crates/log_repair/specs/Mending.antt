-- Machines ask for the entries that they miss, and one that runs and holds such an entry answers;
-- then they finish.
use Rattle.std.specs.Prelude.{◌≢◌, ℕ, List, [], ◌∷◌, ◌++◌, length, find, slice_get}
use Rattle.std.specs.Prelude.{Option, Some, None, if◌then◌else◌}
use Rattle.std.specs.List.{range_with_len}
use Rattle.std.specs.Option.{option_or}
use Rattle.std.specs.Str.{bytes_eq}
use Rattle.entry_order.specs.declared.step.Step.{Step}
use Rattle.entry_order.specs.declared.step.Step.TheVariants.{Act, Hear}
use Rattle.entry_order.specs.Node.{Node}
use Rattle.entry_order.specs.History.{held}
use Rattle.entry_order.specs.Survivors.{gaps}
use Rattle.entry_order.specs.World.{Machine, World}
use Rattle.log_repair.specs.Sequences.{TakesNone, TakesStep, InOrder}

module _ {T : Type 0} (node : T → Node) where
  -- the first of the entries that has the digest
  abbrev pub found_by_digest : List ℕ → List T → Option T
  found_by_digest d es = find (λ e. bytes_eq (node e).digest d) es

  -- what a machine answers if asked for the digest: the entry with it that it holds, unless it has
  -- stopped
  abbrev pub answer_of : List ℕ → Machine T → Option T
  answer_of d a = if a.stopped then None else found_by_digest d (held a.history)

  -- the answer of the least machine that has one
  abbrev pub bearer : List ℕ → World T → Option T
  bearer d [] = None
  bearer d (a ∷ w) = option_or (answer_of d a) (bearer d w)

  -- what a machine asks for: the digests that it misses, ascending, unless it has stopped
  abbrev pub wants : Option (Machine T) → List (List ℕ)
  wants None = []
  wants (Some a) = if a.stopped then [] else gaps node (held a.history)

  -- by the world after a step
  module _ (after : World T → Step → World T) where
    -- machine m hears the entry that it is answered, if there is one
    abbrev pub HearsOf : ℕ → Option T → World T → List Step → World T → Type 0
    HearsOf m None old steps new = TakesNone old steps new
    HearsOf m (Some e) old steps new = TakesStep after (Hear m (node e).maker (node e).number) old steps new

    -- machine m asks for the digest
    abbrev pub Asks : ℕ → List ℕ → World T → List Step → World T → Type 0
    Asks m d old steps new = HearsOf m (bearer d old) old steps new

    -- a turn of machine m: it asks for what it misses when the turn begins
    abbrev pub TakesTurn : ℕ → World T → List Step → World T → Type 0
    TakesTurn m old steps new = InOrder (Asks m) (wants (slice_get old m)) old steps new

    -- a turn of each machine, ascending
    abbrev pub TakesRound : World T → List Step → World T → Type 0
    TakesRound old steps new = InOrder TakesTurn (range_with_len 0 (length old)) old steps new

    -- rounds, up to the first that changes nothing
    pub data Repairs : World T → List Step → World T → Type 0 where
      is_mended : (w : World T) → TakesRound w [] w → Repairs w [] w
      goes_on : (old mid new : World T) (first rest : List Step) → TakesRound old first mid → first ≢ []
          → Repairs mid rest new → Repairs old (first ++ rest) new

    -- machine m acts as long as that changes something
    pub data ActsOn (m : ℕ) : World T → List Step → World T → Type 0 where
      is_idle : (w : World T) → TakesStep after (Act m) w [] w → ActsOn m w [] w
      acts : (old mid new : World T) (rest : List Step) → TakesStep after (Act m) old (Act m ∷ []) mid
          → ActsOn m mid rest new → ActsOn m old (Act m ∷ rest) new

    -- each machine, ascending
    abbrev pub Finishes : World T → List Step → World T → Type 0
    Finishes old steps new = InOrder ActsOn (range_with_len 0 (length old)) old steps new
