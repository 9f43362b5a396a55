-- The order of entries by the paths of their names.
use Rattle.std.specs.Prelude.{List, [], ◌∷◌}
use Rattle.std.specs.List.{Contains}
use Rattle.entry_order.specs.Node.{Node}
use Rattle.entry_order.specs.Naming.{Names}

module _ {T : Type 0} (node : T → Node) where
  -- from f through these entries of E to e, each is named by the next
  abbrev pub IsPath : List T → T → List T → T → Type 0
  IsPath E f [] e = Names node e f
  IsPath E f (g ∷ gs) e = Contains E g × Names node g f × IsPath E g gs e

  -- there is a path from f to e in E (Auditorium, EVT 2007; Querifier, SADFE 2008)
  abbrev pub Precedes : List T → T → T → Type 0
  Precedes E f e = Contains E f × Contains E e × (between : List T) × IsPath E f between e

  -- no entry precedes itself
  abbrev pub IsAcyclic : List T → Type 0
  IsAcyclic E = (e : T) → ¬ Precedes E e e
