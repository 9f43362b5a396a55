-- Why an entry names its maker's own last one: where it doesn't, what a machine sent is no chain.
use Rattle.std.specs.Prelude.{◌≡◌, ◌≢◌, ℕ, ◌+◌, not, List, ◌∷◌, ◌++◌, length}
use Rattle.std.specs.List.{Contains, filter}
use Rattle.entry_format.specs.Nodes.{node_of_sealed}
use Rattle.entry_format.specs.SealedEntry.{SealedEntry}
use Rattle.entry_order.specs.declared.event.Event.{Event}
use Rattle.entry_order.specs.declared.event.Event.TheVariants.{Sent, Got}
use Rattle.entry_order.specs.Frontier.{frontier}
use Rattle.entry_order.specs.History.{held, sent, greatest_stamp}
use Rattle.entry_order.specs.Naming.{has_digest, IsNew}
use Rattle.entry_order.specs.World.{World, history, sent_in}
use Rattle.roster.specs.declared.post.Post.{Post}
use Rattle.roster.specs.Machines.{HaveOneSupervisor}
use Rattle.honest_places.specs.Honest.{MayAs, role_at}

-- the frontier without what the machine sent itself
abbrev pub frontier_of_others : List (Event SealedEntry) → List (List ℕ)
frontier_of_others p =
    filter (λ d. not (has_digest node_of_sealed (sent p) d)) (frontier node_of_sealed (held p))

-- e is what the owner sends next after the history p, but it names that
pub record IsNextUnchained (owner : ℕ) (p : List (Event SealedEntry)) (e : SealedEntry) : Type 0 where
  pub maker : e.entry.maker ≡ owner
  pub number : e.entry.number ≡ length (sent p)
  pub stamp : e.entry.stamp ≡ 1 + greatest_stamp node_of_sealed (held p)
  pub names : e.entry.names ≡ frontier_of_others p

-- an honest place in all else: what a machine sent it might do by its role, and what it got was
-- sent
pub record IsHonestUnchained (posts : List Post) (w : World SealedEntry) : Type 0 where
  pub supervisor : HaveOneSupervisor posts
  pub sendings : (m : ℕ) (past : List (Event SealedEntry)) (e : SealedEntry) (later : List (Event SealedEntry)) →
      history w m ≡ past ++ Sent e ∷ later →
      IsNew node_of_sealed (held past) e × IsNextUnchained m past e × MayAs (role_at posts m) m past e
  pub receipts : (m : ℕ) (past : List (Event SealedEntry)) (e : SealedEntry) (later : List (Event SealedEntry)) →
      history w m ≡ past ++ Got e ∷ later →
      IsNew node_of_sealed (held past) e × (e.entry.maker ≢ m) × Contains (sent_in w) e
