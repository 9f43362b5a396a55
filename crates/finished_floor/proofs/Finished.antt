-- What the sweep leaves, sorted, is what a run comes to.
use Rattle.finished_floor.proofs.{Caused.all_caused, Caused.all_on_way, Caused.all_scripted, Ended.all_at_end}
use Rattle.finished_floor.proofs.{Filled.zip_at, Filled.zip_from, Filled.zip_many, Grown.machines_still, Grown.was_at}
use Rattle.finished_floor.proofs.Heard.{all_known, balanced_moved, got_or_lost}
use Rattle.finished_floor.proofs.Imports.{[], AllPairs, AllZip, AreGathered, AreMachinesOf, AreMadeByThese, AreOnce}
use Rattle.finished_floor.proofs.Imports.{ArePlaced, ArePlayedAgain, AreScripted, HaveGrown, history, IsBalanced}
use Rattle.finished_floor.proofs.Imports.{IsBegunBy, IsFloorOf, IsLawful, IsLicensed, IsOrderly, IsPermutation}
use Rattle.finished_floor.proofs.Imports.{IsToldBefore, IsWholeRun, length, List, Loss, MachineState, map}
use Rattle.finished_floor.proofs.Imports.{node_of_sealed, Option, passes_of, Post, Script, slice_get, Some}
use Rattle.finished_floor.proofs.Imports.{stamps_are_few, sym, Waiting, world_of, ℕ, ◌++◌, ◌∙◌, ◌≡◌}
use Rattle.finished_floor.proofs.Once.{each_is_heard_or_lost}
use Rattle.finished_floor.proofs.{Played.are_orderly, Played.played_again, Roomy.loses_nothing, Sorted.told_once}
use Rattle.std.specs.Prelude.{All}

-- the lists of workers report on the first events of the machines that have grown
pub rows_begun : {B : Type 0} (f : B → List (Option ℕ)) (ms ns : List MachineState) (rows : List B) →
    HaveGrown ms ns → AllZip (λ (m : MachineState) row. row ≡ passes_of m.events) ms (map f rows) →
    AllZip (λ (n : MachineState) row. IsBegunBy n.events row) ns (map f rows)
rows_begun f ms ns rows grown all =
    zip_from (λ (n : MachineState) row. IsBegunBy n.events row) f ns rows
    (zip_many (λ (m : MachineState) row. row ≡ passes_of m.events) f ms rows all ∙ sym grown.count)
    (λ k n row is there.
    let (m, was, grows) = was_at ms ns grown k n is in (
      m.events,
      grows.later,
      grows.events,
      zip_at (λ (m : MachineState) row. row ≡ passes_of m.events) f ms rows all k m row was there,
    ))

-- what the sweep leaves
module _ (script : Script) (lawful : IsLawful script) (roster : List Post) (ms ns : List MachineState)
    (waits : List Waiting) (before after told : List Loss) (rows : List (List (Option ℕ)))
    (left : AreGathered script roster ms waits before rows) (grown : HaveGrown ms ns) (placed : ArePlaced ns)
    (makers : AreMadeByThese ms → AreMadeByThese ns)
    (balanced : IsBalanced node_of_sealed (length ns) (history (world_of ns)) after (λ a b. []))
    (losses : (lost : List Loss) × (after ≡ before ++ lost) × All (IsLicensed script.loses ns) lost)
    (scripted : AreScripted script.loses ms ns after)
    (whole : (place : ℕ) (m : MachineState) → slice_get ns place ≡ Some m → IsWholeRun m)
    (moved : IsPermutation after told) (sorted : AllPairs IsToldBefore told) where
  -- after the sweep the machines are still the script's
  now_of : AreMachinesOf script ns
  now_of = machines_still ms ns grown script left.machines placed

  -- no two losses that are reported are of one entry on one way
  once : AreOnce told
  once = told_once told sorted

  -- each history is legal, and what was heard was sent
  orderly : IsOrderly node_of_sealed (world_of ns)
  orderly = are_orderly ns placed after (λ a b. []) (makers left.makers) balanced

  -- played in their merged order, the events give the histories again
  pub played_of : ArePlayedAgain script ns
  played_of = played_again ns placed script now_of orderly

  -- it is what a run comes to
  pub floor_of : IsFloorOf script roster ns told
  floor_of =
      let (lost, split, licensed) = losses in
      let each = got_or_lost ns told (each_is_heard_or_lost node_of_sealed)
      (balanced_moved node_of_sealed (length ns) (history (world_of ns)) after told (λ a b. []) moved balanced) in
      let only = all_on_way script ms ns left.machines grown placed before lost after told split moved left.only
      left.causes left.scripted licensed in
      let causes = all_caused script ms ns left.machines grown placed before lost after told split moved
      left.only left.causes left.scripted licensed in
      let known = all_known ns placed told each only script causes in
      record {
        roster = left.roster;
        machines = now_of;
        orderly = orderly;
        losses = record {
          sorted = sorted;
          each = each;
          only = only;
          causes = known;
          scripted = all_scripted script ms ns left.machines grown placed before lost after told split moved
              left.only left.causes left.scripted licensed scripted;
        };
        roomy = loses_nothing script ns now_of orderly told each only known;
        at_end = all_at_end script lawful ns now_of orderly (stamps_are_few node_of_sealed) whole;
      }
