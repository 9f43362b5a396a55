-- What becomes of an entry that is sent to all other machines.
use Rattle.std.specs.Prelude.{◌≡◌, ◌≢◌, ℕ, ◌<◌, ◌≤◌, Bool, true, false, List, ◌++◌, length, All}
use Rattle.std.specs.Prelude.{AllPairs, Option, Some, None, slice_index_or}
use Rattle.std.specs.List.{Contains}
use Rattle.entry_format.specs.SealedEntry.{SealedEntry}
use Rattle.election_script.specs.declared.script.Lose.{Lose}
use Rattle.election_script.specs.Lawful.{max_actions}
use Rattle.broadcast_queues.specs.Ends.{OutView, PutItem, FoundLinkFull}
use Rattle.finished_floor.specs.declared.loss.Loss.{Loss}
use Rattle.finished_floor.specs.declared.loss.LossWhy.{LossWhy}
use Rattle.finished_floor.specs.declared.loss.LossWhy.TheVariants.{Scripted, LinkFull, ToStopped, LogFull, SameDigest}
use Rattle.finished_floor.specs.Arrivals.{is_lost}
use Rattle.finished_floor.specs.OfEntries.{loss_of, lost_by}
use Rattle.finished_floor.specs.Scripted.{is_scripted}

-- What becomes of an entry at the end that leads to a machine, by the cause of its loss: where a
-- line of the script says so it is lost and the end stays; otherwise it is put, or it is lost
-- because the link was found full.
abbrev pub IsWay : Bool → ℕ → SealedEntry → OutView SealedEntry → OutView SealedEntry → Option LossWhy → Type 0
IsWay scripted capacity e old new None = (scripted ≡ false) × PutItem old e new
IsWay scripted capacity e old new (Some Scripted) = (scripted ≡ true) × (new ≡ old)
IsWay scripted capacity e old new (Some LinkFull) = (scripted ≡ false) × FoundLinkFull capacity old new
IsWay scripted capacity e old new (Some ToStopped) = ⊥
IsWay scripted capacity e old new (Some LogFull) = ⊥
IsWay scripted capacity e old new (Some SameDigest) = ⊥

-- the entry was put, or there is one loss more, by its cause
pub record IsSentTo (scripted : Bool) (capacity to : ℕ) (e : SealedEntry) (old new : OutView SealedEntry)
    (before after : List Loss) : Type 0 where
  pub queue : new.queue ≡ old.queue
  pub from : new.from ≡ old.from
  pub cause : Option LossWhy
  pub way : IsWay scripted capacity e old new cause
  pub losses : after ≡ before ++ lost_by e to cause

-- the losses report this cause of the entry on its way to a machine, or none
abbrev pub IsTold : List Loss → SealedEntry → ℕ → Option LossWhy → Type 0
IsTold lost e to None = is_lost lost e.entry.maker e.entry.number to ≡ false
IsTold lost e to (Some why) = Contains lost (loss_of e to why)

-- what became of the entry on its way to one machine, as the losses report
pub record IsSentOn (scripted : Bool) (capacity to : ℕ) (e : SealedEntry) (old new : OutView SealedEntry)
    (lost : List Loss) : Type 0 where
  pub cause : Option LossWhy
  pub way : IsWay scripted capacity e old new cause
  pub told : IsTold lost e to cause

-- The entry was sent to each of the first machines but its maker: it was put or is lost, and the
-- losses are of this entry alone, by ascending receivers, so at most one for each. The other ends
-- stay, the maker's own among them.
pub record IsSentBelow (loses : List Lose) (capacity most : ℕ) (e : SealedEntry) (outs new : List (OutView SealedEntry))
    (lost : List Loss) : Type 0 where
  pub count : length new ≡ length outs
  pub few : length lost ≤ most
  pub rising : AllPairs (λ a b. a.to < b.to) lost
  pub losses : All (λ loss. (loss.from ≡ e.entry.maker) × (loss.number ≡ e.entry.number)
      × (loss.to < most) × (loss.to ≢ e.entry.maker)) lost
  pub queues : (to : ℕ) (d : OutView SealedEntry) → to < length outs →
      ((slice_index_or new to d).queue ≡ (slice_index_or outs to d).queue)
      × ((slice_index_or new to d).from ≡ (slice_index_or outs to d).from)
  pub done : (to : ℕ) (d : OutView SealedEntry) → to < most → to ≢ e.entry.maker →
      IsSentOn (is_scripted loses e.entry.maker e.entry.number to) capacity to e
      (slice_index_or outs to d) (slice_index_or new to d) lost
  pub own : (d : OutView SealedEntry) → slice_index_or new e.entry.maker d ≡ slice_index_or outs e.entry.maker d
  pub left : (to : ℕ) (d : OutView SealedEntry) → most ≤ to → to < length outs →
      slice_index_or new to d ≡ slice_index_or outs to d

-- each of these is the machine's entry with this number
abbrev pub AreCopies : ℕ → ℕ → List SealedEntry → Type 0
AreCopies own number copies = All (λ x. (x.entry.maker ≡ own) × (x.entry.number ≡ number)
    × (x.entry.number < max_actions)) copies
