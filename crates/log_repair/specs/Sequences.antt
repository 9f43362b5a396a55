-- Steps that are taken one after another, each where it changes something.
use Rattle.std.specs.Prelude.{◌≡◌, ◌≢◌, ◌⊎◌, List, [], ◌∷◌, ◌++◌}
use Rattle.entry_order.specs.declared.step.Step.{Step}

-- no step is taken
abbrev pub TakesNone : {W : Type 0} → W → List Step → W → Type 0
TakesNone old steps new = (steps ≡ []) × (new ≡ old)

-- by what is there after a step: the step is taken if it changes something, and else none is
abbrev pub TakesStep : {W : Type 0} → (W → Step → W) → Step → W → List Step → W → Type 0
TakesStep after step old steps new =
    (new ≡ after old step) × (((new ≢ old) × (steps ≡ step ∷ [])) ⊎ ((new ≡ old) × (steps ≡ [])))

-- the steps of the way of each of these, in their order
abbrev pub InOrder : {X W : Type 0} → (X → W → List Step → W → Type 0) → List X → W → List Step → W → Type 0
InOrder Way [] old steps new = TakesNone old steps new
InOrder {X} {W} Way (x ∷ xs) old steps new =
    (mid : W) × (first rest : List Step) × Way x old first mid × InOrder Way xs mid rest new × (steps ≡ first ++ rest)
