-- What is left of the logs of an honest polling place, whichever entries are lost.
use Rattle.std.specs.Prelude.{◌≡◌, ◌≢◌, ℕ, Bool, List, [], length, Option, Some, slice_get}
use Rattle.std.specs.List.{Contains}
use Rattle.entry_order.specs.declared.event.Event.{Event}
use Rattle.entry_order.specs.declared.step.Step.{Step}
use Rattle.entry_order.specs.declared.three.Three.TheVariants.{False, Unknown, True}
use Rattle.entry_order.specs.Node.{Node}
use Rattle.entry_order.specs.Naming.{Distinct}
use Rattle.entry_order.specs.World.{World, start, sent_in, IsLegalNext, play}
use Rattle.entry_order.specs.HeldBefore.{HeldBefore}
use Rattle.entry_order.specs.Receipt.{IsOrderly}
use Rattle.entry_order.specs.Survivors.{survivors, gaps}
use Rattle.entry_order.specs.Completion.{Completion}
use Rattle.entry_order.specs.Ancestors.{before}
use Rattle.entry_order.specs.Settled.{IsGraphOf}

module _ {T : Type 0} (node : T → Node) where
  -- two entries of one maker with one number are equal
  abbrev pub HasNoFork : List T → Type 0
  HasNoFork S =
      (e f : T) → Contains S e → Contains S f →
      (node e).maker ≡ (node f).maker → (node e).number ≡ (node f).number → e ≡ f

  -- what is said of the order of the entries given is what the machines held
  abbrev pub OrderIsHeld : World T → List T → Type 0
  OrderIsHeld w S =
      (parents : ℕ → List ℕ) (ragged : ℕ → Bool) → IsGraphOf node S parents ragged →
      (y x : ℕ) (f e : T) → slice_get S y ≡ Some f → slice_get S x ≡ Some e →
      (before parents ragged y x ≡ True → HeldBefore w f e)
      × (before parents ragged y x ≡ False → ¬ (HeldBefore w f e))

  -- nothing is unknown of the entries: none names a gap, and their order is said of any two
  pub record IsAllKnown (S : List T) : Type 0 where
    pub no_gaps : gaps node S ≡ []
    pub no_unknown : (parents : ℕ → List ℕ) (ragged : ℕ → Bool) → IsGraphOf node S parents ragged →
        (y x : ℕ) (f e : T) → slice_get S y ≡ Some f → slice_get S x ≡ Some e →
        before parents ragged y x ≢ Unknown

  -- the entries given agree with w: no stray, no fork, what w sent completes them,
  -- their order is what the machines held, and where they are all, nothing is unknown
  pub record AgreesWith (machines : ℕ) (w : World T) (given : List T) : Type 0 where
    pub survive : survivors node given ≡ given
    pub no_fork : HasNoFork given
    pub completed : Completion node machines given (sent_in w)
    pub order : OrderIsHeld w given
    pub all_known : ((e : T) → Contains (sent_in w) e → Contains given e) → IsAllKnown given

  -- any entries that were sent in an orderly world, where different entries have different digests,
  -- agree with it
  abbrev pub HonestEntriesAgreeInOrderlyWorlds : Type 0
  HonestEntriesAgreeInOrderlyWorlds =
      (w : World T) → IsOrderly node w → Distinct node (sent_in w) →
      (given : List T) → ((e : T) → Contains given e → Contains (sent_in w) e) →
      AgreesWith (length w) w given

  -- any entries that were sent in a world of machines that follow the rules agree with it
  abbrev pub HonestEntriesAgree : Type 0
  HonestEntriesAgree =
      (next : ℕ → List (Event T) → Option T) (log machines : ℕ) (steps : List Step) →
      IsLegalNext node next →
      let w = play node next log (start machines) steps in
      Distinct node (sent_in w) →
      (given : List T) → ((e : T) → Contains given e → Contains (sent_in w) e) →
      AgreesWith machines w given
