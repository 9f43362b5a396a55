-- Machines of a script before anything happened, of which nothing is gathered.
use Rattle.finished_floor.proofs.Beginnings.{each_push, none_in, start_balanced, start_on_way, start_once}
use Rattle.finished_floor.proofs.{Filled.zip_from, Imports.[], Imports.All-nil, Imports.ap, Imports.AreGathered}
use Rattle.finished_floor.proofs.Imports.{arith, Contains-none, Got, IsCauseSoFar, IsFresh, IsMachine, IsMachineOf}
use Rattle.finished_floor.proofs.Imports.{IsOnWay, IsStopOf, length, length-append, List, Loss, MachineState, map}
use Rattle.finished_floor.proofs.Imports.{no_waits, Option, passes_of, Post, refl, roster_of, Script, sent, slice_get}
use Rattle.finished_floor.proofs.Imports.{Some, subst, suc, sym, Waiting, zero, ℕ, ◌++◌, ◌+◌, ◌∙◌, ◌∷◌, ◌≡◌}

-- a fresh machine is the script's
pub new_of : (script : Script) (at : ℕ) (stop : Option ℕ) (m : MachineState) → IsStopOf script.stops at stop →
    IsFresh script at stop m → IsMachine m → IsMachineOf script at m
new_of script at stop m stops (cast, is, made) machine = record {
  stop = subst (IsStopOf script.stops at) (sym (ap (λ (u : MachineState). u.stop) made)) stops;
  made = subst (λ (u : MachineState). IsFresh script at u.stop (record u { events = [] })) (sym made)
      (cast, is, refl);
  machine = machine;
}

-- the machines so far are the script's, without events, and as many lists are empty
pub record AreNew {B : Type 0} (f : B → List (Option ℕ)) (script : Script) (at : ℕ) (ms : List MachineState)
    (by : List B) : Type 0 where
  -- there are `at` of them
  pub count : length ms ≡ at
  -- each is the script's at its place, and has no events
  pub each : (k : ℕ) (m : MachineState) → slice_get ms k ≡ Some m → IsMachineOf script k m × (m.events ≡ [])
  -- there are as many lists
  pub many : length by ≡ at
  -- each of which is empty
  pub none : (k : ℕ) (row : B) → slice_get by k ≡ Some row → f row ≡ []

module _ {B : Type 0} (f : B → List (Option ℕ)) (script : Script) where
  -- one machine more
  pub new_more : (at : ℕ) (ms : List MachineState) (by : List B) (m : MachineState) (row : B) →
      AreNew f script at ms by → IsMachineOf script at m → m.events ≡ [] → f row ≡ [] →
      AreNew f script (at + 1) (ms ++ m ∷ []) (by ++ row ∷ [])
  new_more at ms by m row is of empty none =
      let a = length-append ms (m ∷ []) in
      let b = length-append by (row ∷ []) in
      let here = is.count in
      let there = is.many in
      record {
        count = omega arith;
        each = each_push (λ k u. IsMachineOf script k u × (u.events ≡ [])) ms m is.each
            (subst (λ k. IsMachineOf script k m) (sym here) of, empty);
        many = omega arith;
        none = last by is.none;
      }
    where
      -- with one list more that is empty, all are
      last : (by : List B) → ((k : ℕ) (r : B) → slice_get by k ≡ Some r → f r ≡ []) →
          (k : ℕ) (r : B) → slice_get (by ++ row ∷ []) k ≡ Some r → f r ≡ []
      last [] each zero r there = let same : row ≡ r = cc in rw (← same) none
      last [] each (suc k) r there = cc
      last (x ∷ by) each zero r there = each zero r there
      last (x ∷ by) each (suc k) r there = last by (λ i v h. each (suc i) v h) k r there

  -- nothing is gathered of them
  pub new_gathered : (roster : List Post) (at : ℕ) (ms : List MachineState) (waits : List Waiting)
      (losses : List Loss) (by : List B) → AreNew f script at ms by → at ≡ length script.machines →
      roster ≡ roster_of script → waits ≡ [] → losses ≡ [] →
      AreGathered script roster ms waits losses (map f by)
  new_gathered roster at ms waits losses by is all posts no_waits no_losses = record {
    roster = posts;
    machines = record { count = is.count ∙ all; each = λ k m there. (is.each k m there).0 };
    makers = λ k m e there c. absurd (Contains-none (Got e) (rw (is.each k m there).1 at c));
    on_way = start_on_way ms losses waits no_losses no_waits;
    balanced = start_balanced ms losses waits no_losses no_waits (λ k m there. (is.each k m there).1);
    once = start_once ms losses waits no_losses no_waits;
    only = rw no_losses (All-nil (IsOnWay ms));
    causes = rw no_losses (All-nil (λ loss. IsCauseSoFar script ms [] loss loss.why));
    scripted = λ from number to lf lt differs low named.
        let none = ap (λ h. length (sent h)) (none_in ms (λ k m there. (is.each k m there).1) from) in absurd (omega arith);
    by = zip_from (λ (m : MachineState) row. row ≡ passes_of m.events) f ms by (is.many ∙ sym is.count)
        (λ k m row there at_row. is.none k row at_row ∙ ap passes_of (sym (is.each k m there).1));
  }
