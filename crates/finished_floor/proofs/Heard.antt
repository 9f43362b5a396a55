-- An entry that is lost on its way isn't held where it was to go.
use Rattle.finished_floor.proofs.{Arriving.arriving_same, Arriving.itself, Caused.all_by}
use Rattle.finished_floor.proofs.Imports.{[], All-contains, ArePlaced, Contains, Contains-filter, Contains-map_cases}
use Rattle.finished_floor.proofs.Imports.{Contains-sent, EachIsHeardOrLost, entry_of, eq-eqb, Event, Got, got, held}
use Rattle.finished_floor.proofs.Imports.{history, history_there, inl, inr, is_lost, is_of, IsBalanced, IsCauseOf}
use Rattle.finished_floor.proofs.Imports.{IsCauseSoFar, IsGotOrLost, IsOnWay, IsPermutation, length, LinkFull, List}
use Rattle.finished_floor.proofs.Imports.{list_any-IsPermutation, list_any_of, LogFull, Loss, LossWhy, MachineState}
use Rattle.finished_floor.proofs.Imports.{Node, node_of_sealed, refl, SameDigest, Script, Scripted, SealedEntry, Sent}
use Rattle.finished_floor.proofs.Imports.{sent, slice_get, Some, sym, ToStopped, true, true≢false, world_of, ℕ, ◌==◌}
use Rattle.finished_floor.proofs.Imports.{◌∙◌, ◌≡◌}
use Rattle.finished_floor.proofs.{Numbers.numbers_below, Places.legal_at, Places.length_world, Pushes.Contains-got}
use Rattle.std.specs.Prelude.{All}

-- losses that change places lose the same
pub balanced_moved : {T : Type 0} (node : T → Node) (count : ℕ) (h : ℕ → List (Event T)) (after told : List Loss)
    (waits : ℕ → ℕ → List T) → IsPermutation after told → IsBalanced node count h after waits →
    IsBalanced node count h told waits
balanced_moved node count h after told waits moved balanced a b la lb apart =
    balanced a b la lb apart ∙ arriving_same node told after a b (sent (h a))
    (λ e c. list_any-IsPermutation (is_of a (node e).number b) after told moved)

-- each entry was got, or is lost once, by the law
pub got_or_lost : (ms : List MachineState) (told : List Loss) → EachIsHeardOrLost node_of_sealed →
    IsBalanced node_of_sealed (length ms) (history (world_of ms)) told (λ a b. []) → IsGotOrLost ms told
got_or_lost ms told law balanced from to e lf lt apart c =
    law (world_of ms) told (rw (length_world ms) balanced) from to e (rw (length_world ms) lf)
    (rw (length_world ms) lt) apart c

module _ (ms : List MachineState) (placed : ArePlaced ms) (told : List Loss)
    (each : IsGotOrLost ms told) (only : All (IsOnWay ms) told) where
  -- a loss that is reported is one
  lost_then : (l : Loss) → Contains told l → is_lost told l.from l.number l.to ≡ true
  lost_then l c = list_any_of (is_of l.from l.number l.to) told l c (itself l l.from l.number l.to refl refl refl)

  module _ (l : Loss) (c : Contains told l) (m : MachineState) (is : slice_get ms l.to ≡ Some m) (e : SealedEntry)
      (was_sent : Contains (sent (history (world_of ms) l.from)) e) (numbered : e.entry.number ≡ l.number) where
    -- the receiver doesn't hold the lost entry
    pub not_held : Contains (held m.events) e → ⊥
    not_held there = let (event, inside, same) = Contains-map_cases entry_of m.events e there in by event inside same
      where
        -- the lost entry was sent by one machine, and was on its way to another
        way : IsOnWay ms l
        way = All-contains (IsOnWay ms) told l only c

        -- its maker is the sender
        made : e.entry.maker ≡ l.from
        made = (numbers_below l.from _ (legal_at ms placed l.from) e was_sent).1

        -- no event of the receiver is of this entry: it isn't its own, and it got none that is lost
        by : (x : Event SealedEntry) → Contains m.events x → entry_of x ≡ e → ⊥
        by (Sent f) at same =
            let its = (numbers_below l.to (history (world_of ms) l.to) (legal_at ms placed l.to) f
            (rw (history_there ms l.to m is) (Contains-sent m.events f at))).1 in
            way.other (sym made ∙ rw same at its)
        by (Got f) at same =
            let got_it = Contains-filter (λ (x : SealedEntry). x.entry.maker == l.from)
            (got (history (world_of ms) l.to)) e (Contains-got (history (world_of ms) l.to) e
            (rw (history_there ms l.to m is, ← same) at)) (eq-eqb e.entry.maker l.from made) in
            elim (each l.from l.to e way.from way.to way.other was_sent) [
              | inl heard ↦ absurd (true≢false (sym (lost_then l c) ∙ rw numbered at heard.1))
              | inr lost ↦ lost.0 got_it
            ]

  -- an entry that is lost because its digest is held isn't the one that is held
  pub all_known : (script : Script) → All (λ loss. IsCauseSoFar script ms told loss loss.why) told →
      All (λ loss. IsCauseOf script ms told loss loss.why) told
  all_known script causes =
      all_by (λ (loss : Loss). IsCauseOf script ms told loss loss.why) told
      (λ l c. by l c l.why (All-contains (λ (loss : Loss). IsCauseSoFar script ms told loss loss.why) told l causes c))
    where
      -- the others are causes as they are
      by : (l : Loss) → Contains told l → (why : LossWhy) → IsCauseSoFar script ms told l why →
          IsCauseOf script ms told l why
      by l c Scripted cause = cause
      by l c LinkFull cause = cause
      by l c ToStopped cause = cause
      by l c LogFull cause = cause
      by l c SameDigest (m, at, (entry, was_sent, numbered, (other, is_held, same))) = (
        m,
        at,
        record {
          entry = entry;
          was_sent = was_sent;
          numbered = numbered;
          other = other;
          is_held = is_held;
          differs = λ one. not_held l c m at entry was_sent numbered (rw one at is_held);
          same = same;
        },
      )
