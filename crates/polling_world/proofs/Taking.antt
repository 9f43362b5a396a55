-- Whether a machine takes an entry.
use Rattle.std.proofs.Common.{Some}
use Rattle.polling_world.proofs.Imports.{◌≡◌, ◌≢◌, ◌∙◌, ◌<◌, ◌≤◌, ℕ, Bool, true, false, List, length, get_or, ltb}
use Rattle.polling_world.proofs.Imports.{refl, sym, ap, arith, Decides-ltb, IsTrue, ◌↔◌, slice_get, slice_get-get_or}
use Rattle.polling_world.proofs.Imports.{node_of_sealed, SealedEntry, held, IsBorneIn, IsNew, MachineHeard, Stopped}
use Rattle.polling_world.proofs.Imports.{IsHeard, MachineState, has_stopped, Nothing, IsGiven, IsGoing}
use Rattle.polling_world.specs.declared.heard.MachineHeard.TheVariants.{Taken, Own, Already, Full}
use Rattle.polling_world.proofs.Placing.{set_same}

-- the test of two numbers, by equal ones
pub is_less : (a b c d : ℕ) → a ≡ c → b ≡ d → IsTrue (ltb a b) ↔ (c < d)
is_less a b c d first second =
    let less = Decides-ltb a b in (
      λ told. (let below = less.0 told in omega (arith, below, first, second)),
      λ below. less.1 (omega (arith, below, first, second)),
    )

-- there is an answer, and it is `Taken` where this is true
abbrev pub IsTold : MachineState → SealedEntry → Bool → Type 0
IsTold m e told = (answer : MachineHeard) × IsHeard m e answer × (IsTrue told ↔ (answer ≡ Taken))

module _ (m : MachineState) (e : SealedEntry) where
  -- a machine that has stopped takes nothing
  pub told_stopped : IsTrue (has_stopped m) → IsTold m e false
  told_stopped is = (Stopped e, (is, refl), (λ t. cc, λ taken. cc))

  -- a machine doesn't take its own entry
  pub told_own : IsGoing m → (node_of_sealed e).maker ≡ m.config.number → IsTold m e false
  told_own going own = (Own e, (going, (refl, own)), (λ t. cc, λ taken. cc))

  -- a machine does not take an entry that it already holds
  pub told_already : IsGoing m → (node_of_sealed e).maker ≢ m.config.number →
      IsBorneIn node_of_sealed (held m.events) (node_of_sealed e).digest → IsTold m e false
  told_already going other borne = (Already e, (going, (refl, other, borne)), (λ t. cc, λ taken. cc))

  -- it takes a new entry of another's exactly when its log has room
  pub told_room : IsGoing m → (node_of_sealed e).maker ≢ m.config.number → IsNew node_of_sealed (held m.events) e →
      length m.events ≤ m.config.log → (room : Bool) → (IsTrue room ↔ (length m.events < m.config.log)) →
      IsTold m e room
  told_room going other new within true room =
      (Taken, (going, (other, new, room.0 refl)), (λ t. refl, λ taken. refl))
  told_room going other new within false room =
      let full : (length m.events < m.config.log) → ⊥ = λ less. (let told : false ≡ true = room.1 less in cc) in
      let all : length m.events ≡ m.config.log = omega (arith, within, full) in
      (Full e, (going, (refl, other, new, all)), (λ t. cc, λ taken. cc))

-- a machine that doesn't take the entry stays
pub refused_given : (at : ℕ) (e : SealedEntry) (old : List MachineState) (m : MachineState) →
    slice_get old at ≡ Some m → IsTold m e false → IsGiven at e old Nothing old
refused_given at e old m stood (Taken, heard, told) = let untold : false ≡ true = told.1 refl in cc
refused_given at e old m stood (answer, heard, told) = record {
  before = m;
  answer = answer;
  stood = stood;
  heard = heard;
  changed = sym (set_same old at m stood);
  told = refl;
}

-- the machine that an index reads
pub stands_at : (ms : List MachineState) (at : ℕ) (m : MachineState) → at < length ms → m ≡ get_or ms at m →
    slice_get ms at ≡ Some m
stands_at ms at m within is = slice_get-get_or ms at m within ∙ ap (λ (u : MachineState). Some u) (sym is)
