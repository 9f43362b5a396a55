-- Polling places whose machines follow the rules of their roles.
use Rattle.std.specs.Prelude.{◌≡◌, ℕ, List, ◌∷◌, ◌++◌, slice_get, Ok}
use Rattle.entry_format.specs.Deeds.{IsDeedOf}
use Rattle.entry_format.specs.Nodes.{node_of_sealed}
use Rattle.entry_format.specs.SealedEntry.{SealedEntry}
use Rattle.entry_order.specs.declared.event.Event.{Event}
use Rattle.entry_order.specs.declared.event.Event.TheVariants.{Sent}
use Rattle.entry_order.specs.Receipt.{IsOrderly}
use Rattle.entry_order.specs.World.{World, history}
use Rattle.roster.specs.declared.post.Post.{Post}
use Rattle.roster.specs.declared.post.Role.{Role}
use Rattle.roster.specs.Machines.{HaveOneSupervisor}
use Rattle.polling_world.specs.Rules.{RoleRefuses}
use Rattle.survivor_rows.specs.Rows.{role_in}

-- the role of machine m in the roster
abbrev pub role_at : List Post → ℕ → Role
role_at posts m = role_in (slice_get posts m)

-- the deed is one of the role, and after this history the rules of the role give the machine no
-- cause against it (VoteBox, USENIX Security 2008)
pub record MayAs (role : Role) (machine : ℕ) (past : List (Event SealedEntry)) (e : SealedEntry) : Type 0 where
  pub of_role : IsDeedOf role e.entry.deed
  pub no_cause : RoleRefuses role machine past e.entry.deed (Ok tt)

-- The roster has one supervisor, each history is legal, what was got was sent, and whatever a
-- machine sent it might do, by its role in the roster, after what it held then (VoteBox, USENIX
-- Security 2008; Auditorium, EVT 2007).
pub record IsHonest (posts : List Post) (w : World SealedEntry) : Type 0 where
  pub supervisor : HaveOneSupervisor posts
  pub orderly : IsOrderly node_of_sealed w
  pub allowed : (m : ℕ) (past : List (Event SealedEntry)) (e : SealedEntry) (later : List (Event SealedEntry)) →
      history w m ≡ past ++ Sent e ∷ later → MayAs (role_at posts m) m past e

-- whether a place is honest depends on its histories alone: w is honest if v is and both have the
-- same histories
abbrev pub HonestyIsOfHistories : Type 0
HonestyIsOfHistories =
    (posts : List Post) (v w : World SealedEntry) → ((m : ℕ) → history w m ≡ history v m) → IsHonest posts v →
    IsHonest posts w
