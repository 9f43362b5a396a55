-- The entries of a small world: each has its maker and its number as its digest.
use Rattle.std.specs.Prelude.{ℕ, Bool, ◌&&◌, nat_lt, List, ◌∷◌, replicate, length, Option, refl}
use Rattle.entry_order.specs.declared.event.Event.{Event}
use Rattle.entry_order.specs.Node.{Node}
use Rattle.entry_order.specs.History.{held, sent, greatest_stamp}
use Rattle.entry_order.specs.Made.{next_made, ShowsItsParts}
use Rattle.entry_order.specs.World.{IsLegalNext}
use Rattle.entry_order.proofs.Made.{made_is_lawful}

-- an octet for the maker, one for the number, and thirty zeros
abbrev pub numbered_digest : ℕ → ℕ → List ℕ
numbered_digest m n = m ∷ n ∷ replicate 30 0

-- an entry is what it shows
abbrev pub shown_itself : Node → Node
shown_itself e = e

-- the entry of these parts
abbrev pub numbered_node : ℕ → ℕ → ℕ → List (List ℕ) → Node
numbered_node m n s names = record {
  digest = numbered_digest m n;
  names = names;
  maker = m;
  number = n;
  stamp = s;
}

shows_its_parts : ShowsItsParts shown_itself numbered_node
shows_its_parts = record {
  maker = λ m n s names. refl;
  number = λ m n s names. refl;
  stamp = λ m n s names. refl;
  names = λ m n s names. refl;
}

-- a machine may send where the log has room and the numbers fit
abbrev pub may_send : ℕ → List (Event Node) → Bool
may_send m h =
    nat_lt m 256 && nat_lt (length (sent h)) 256 && nat_lt (greatest_stamp shown_itself (held h)) 1000
    && nat_lt (length h) 64

-- what machine m sends next
abbrev pub next_numbered : ℕ → List (Event Node) → Option Node
next_numbered = next_made shown_itself numbered_node may_send

-- what `next_numbered` sends is what a legal history asks
pub next_is_lawful : IsLegalNext shown_itself next_numbered
next_is_lawful = made_is_lawful shown_itself numbered_node shows_its_parts may_send
