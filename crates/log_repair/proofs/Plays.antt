-- Mending and finishing are plays of steps of the world's machines, and plays only add to histories.
use Rattle.log_repair.proofs.Events.{Heard, heard_if}
use Rattle.log_repair.proofs.Imports.{[], All, All-cons, All-nil, append-nil, append_assoc, Event, Finishes, Grows-step}
use Rattle.log_repair.proofs.Imports.{happens, HistoriesOnlyGrow, inl, inr, IsStepOf, length, length_play, List}
use Rattle.log_repair.proofs.Imports.{MendingIsAPlay, Node, Option, play, refl, Repairs, Step, World, ℕ, ◌++◌, ◌∷◌, ◌≡◌}
use Rattle.log_repair.proofs.OneWay.{AnyStep, AreTaken, finishes_sure, repairs_sure}

module _ {T : Type 0} (node : T → Node) (next : ℕ → List (Event T) → Option T) (log : ℕ) where
  -- a play of some steps and then of others
  pub play-append : (w : World T) (first rest : List Step) →
      play node next log w (first ++ rest) ≡ play node next log (play node next log w first) rest
  play-append w [] rest = refl
  play-append w (s ∷ first) rest = play-append (happens node next log w s) first rest

  pub taken_is_a_play : (P : World T → Step → Type 0) (steps : List Step) (old new : World T) →
      AreTaken (happens node next log) P old steps new → new ≡ play node next log old steps
  taken_is_a_play P [] old new is = is
  taken_is_a_play P (s ∷ steps) old new (_, more) = taken_is_a_play P steps (happens node next log old s) new more

  pub repairs_is_a_play : (old new : World T) (steps : List Step) →
      Repairs node (happens node next log) old steps new → new ≡ play node next log old steps
  repairs_is_a_play old new steps mended =
      taken_is_a_play AnyStep steps old new
      (repairs_sure node (happens node next log) AnyStep (λ _ _ _ _ _. tt) old new steps mended).0

  pub finishes_is_a_play : (old new : World T) (steps : List Step) →
      Finishes node (happens node next log) old steps new → new ≡ play node next log old steps
  finishes_is_a_play old new steps done =
      taken_is_a_play AnyStep steps old new
      (finishes_sure node (happens node next log) AnyStep (λ _ _ _. tt) old new steps done).0

  -- what is heard is of machines of the world
  taken_are_of : (steps : List Step) (old new : World T) →
      AreTaken (happens node next log) (Heard node next log) old steps new → All (IsStepOf (length old)) steps
  taken_are_of [] old new is = All-nil (IsStepOf (length old))
  taken_are_of (s ∷ steps) old new (heard, more) =
      All-cons (IsStepOf (length old)) s steps heard.of
      (rw (length_play node next log old (s ∷ [])) at (taken_are_of steps (happens node next log old s) new more))

  -- each step of mending is of machines of the world
  pub repairs_are_of : (old new : World T) (steps : List Step) → Repairs node (happens node next log) old steps new →
      All (IsStepOf (length old)) steps
  repairs_are_of old new steps mended =
      taken_are_of steps old new
      (repairs_sure node (happens node next log) (Heard node next log) (heard_if node next log) old new steps mended).0

-- the laws
pub mending_is_a_play : {T : Type 0} (node : T → Node) → MendingIsAPlay node
mending_is_a_play node next log old new steps =
    (repairs_is_a_play node next log old new steps, finishes_is_a_play node next log old new steps)

pub histories_only_grow : {T : Type 0} (node : T → Node) → HistoriesOnlyGrow node
histories_only_grow node next log w [] m = ([], rw append-nil)
histories_only_grow node next log w (s ∷ steps) m =
    let (more, is) = histories_only_grow node next log (happens node next log w s) steps m in
    elim (Grows-step node next log w s m) [
      | inl same ↦ (more, rw same at is)
      | inr (x, one, _) ↦ (x ∷ more, rw (is, one, append_assoc))
    ]
