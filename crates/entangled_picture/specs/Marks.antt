-- The shapes of a graph.
use Rattle.std.specs.Prelude.{ℕ, zero, suc, ◌+◌, ◌==◌, Bool, false, not, ◌&&◌, if◌then◌else◌, List, [], ◌∷◌, ◌++◌}
use Rattle.std.specs.Prelude.{length, map, take, find, Option, Some, None, option_to_list, is_some, slice_get}
use Rattle.std.specs.Prelude.{slice_index_or}
use Rattle.std.specs.List.{flat_map, fold, range_with_len}
use Rattle.entry_order.specs.Naming.{names_digest}
use Rattle.entry_format.specs.SealedEntry.{SealedEntry}
use Rattle.entry_format.specs.Nodes.{node_of_sealed}
use Rattle.entry_graph.specs.EntryGraph.{EntryGraph, parents_of}
use Rattle.rule_engine.specs.declared.verdict.Verdict.{Verdict}
use Rattle.entangled_picture.specs.declared.shape.Spot.{Spot}
use Rattle.entangled_picture.specs.declared.shape.Shape.{Shape}
use Rattle.entangled_picture.specs.declared.shape.Shape.TheVariants as shape
use Rattle.entangled_picture.specs.declared.seen.Seen.{Seen}
use Rattle.entangled_picture.specs.declared.placed.Placed.{Placed}
use Rattle.entangled_picture.specs.Places.{most_losses, places_in}

-- the spot of a survivor that is drawn
abbrev pub spot_in : Option Placed → Option Spot
spot_in None = None
spot_in (Some placed) = placed.at

-- the number of a survivor, and 0 of none
abbrev pub number_of_placed : Option Placed → ℕ
number_of_placed None = 0
number_of_placed (Some placed) = placed.seen.number

-- the spot of the survivor at a place, if it is drawn
abbrev pub spot_at : List Placed → ℕ → Option Spot
spot_at placed place = spot_in (slice_get placed place)

-- the number of the survivor at a place
abbrev pub number_at : List Placed → ℕ → ℕ
number_at placed place = number_of_placed (slice_get placed place)

-- the mark of a survivor that is drawn
abbrev pub entry_in : ℕ → Option Spot → Seen → Option Shape
entry_in place None seen = None
entry_in place (Some at) seen = Some (shape.Entry at place seen.number seen.deed seen.digest)

-- the mark of the survivor at a place, if it is drawn
abbrev pub entry_at : ℕ → Option Placed → Option Shape
entry_at place None = None
entry_at place (Some placed) = entry_in place placed.at placed.seen

-- a mark for each survivor that is drawn
abbrev pub entry_marks : List Placed → List Shape
entry_marks placed =
    flat_map (λ place. option_to_list (entry_at place (slice_get placed place))) (range_with_len 0 (length placed))

-- the arrow between two spots
abbrev pub arrow_between : Option Spot → ℕ → Option Spot → ℕ → Option Shape
arrow_between None number to named = None
arrow_between (Some from) number None named = None
arrow_between (Some from) number (Some to) named = Some (shape.Arrow from number to named)

-- the arrow from the survivor at a place to the one at another, if both are drawn
abbrev pub arrow_at : List Placed → ℕ → ℕ → Option Shape
arrow_at placed place parent =
    arrow_between (spot_at placed place) (number_at placed place) (spot_at placed parent) (number_at placed parent)

-- an arrow from a survivor to each other one that it names
abbrev pub arrows_from : EntryGraph SealedEntry → List Placed → ℕ → List Shape
arrows_from graph placed place =
    flat_map (λ parent. option_to_list (arrow_at placed place parent)) (parents_of graph.links place)

-- an arrow for each pair of a survivor and another one that it names, of which both are drawn
abbrev pub arrows_of : EntryGraph SealedEntry → List Placed → List Shape
arrows_of graph placed = flat_map (arrows_from graph placed) (range_with_len 0 (length graph.survivors))

-- the spot of an entry of this maker
abbrev pub met : ℕ → Option Placed → Option Spot
met maker None = None
met maker (Some placed) = if placed.seen.maker == maker then placed.at else None

-- an entry of this maker that isn't drawn counts
abbrev pub passed_at : ℕ → Option Placed → ℕ
passed_at maker None = 0
passed_at maker (Some placed) = if placed.seen.maker == maker && not (is_some placed.at) then 1 else 0

-- the spot that is met, or else what is found before
abbrev pub met_or : Option Spot → ℕ → Option (Spot × ℕ) → Option (Spot × ℕ)
met_or None passed before = before
met_or (Some spot) passed before = Some (spot, passed)

-- Going back from a place, where this number of entries of the maker that aren't drawn was passed:
-- the spot of the next one that is, and how many were passed then.
abbrev pub run_before : List Placed → ℕ → ℕ → ℕ → Option (Spot × ℕ)
run_before placed maker zero passed = None
run_before placed maker (suc at) passed =
    met_or (met maker (slice_get placed at)) passed
    (run_before placed maker at (passed + passed_at maker (slice_get placed at)))

-- the bar from one spot of a lane to the next one, if some entries between them aren't drawn
abbrev pub bar_of : Option (Spot × ℕ) → Spot → Option Shape
bar_of None to = None
bar_of (Some (from, zero)) to = None
bar_of (Some (from, suc less)) to = Some (shape.Bar from to (suc less))

-- the bar that ends at a survivor
abbrev pub bar_to : List Placed → ℕ → Option Placed → Option Shape
bar_to placed place None = None
bar_to placed place (Some entry) = bar_at_spot entry.at
  where
    bar_at_spot : Option Spot → Option Shape
    bar_at_spot None = None
    bar_at_spot (Some to) = bar_of (run_before placed entry.seen.maker place 0) to

-- a bar for each two spots of a lane between which entries aren't drawn
abbrev pub bars_of : List Placed → List Shape
bars_of placed =
    flat_map (λ place. option_to_list (bar_to placed place (slice_get placed place))) (range_with_len 0 (length placed))

-- the light of a rule at a spot
abbrev pub light_in : Option Spot → ℕ → Option Shape
light_in None rule = None
light_in (Some at) rule = Some (shape.Light at rule)

-- a light for each survivor that the verdict on a rule names
abbrev pub lights_by : List Placed → List Verdict → ℕ → List Shape
lights_by placed verdicts rule =
    flat_map (λ place. option_to_list (light_in (spot_at placed place) rule)) (places_in (slice_get verdicts rule))

-- a light for each survivor that the verdict on some rule names
abbrev pub lights_of : List Placed → List Verdict → List Shape
lights_of placed verdicts = flat_map (lights_by placed verdicts) (range_with_len 0 (length verdicts))

-- a survivor names the digest
abbrev pub names_it : List ℕ → Option SealedEntry → Bool
names_it digest None = false
names_it digest (Some sealed) = names_digest node_of_sealed sealed digest

-- the first of the survivors that names the digest
abbrev pub first_namer : List SealedEntry → List ℕ → Option ℕ
first_namer survivors digest =
    find (λ place. names_it digest (slice_get survivors place)) (range_with_len 0 (length survivors))

-- the column of a spot
abbrev pub column_in : Option Spot → ℕ
column_in None = 0
column_in (Some at) = at.column

-- the column of a gap: that of the first survivor that names it
abbrev pub gap_column : List Placed → Option ℕ → ℕ
gap_column placed None = 0
gap_column placed (Some place) = column_in (spot_at placed place)

-- the arrow from a spot to a gap
abbrev pub loss_in : Option Spot → ℕ → Spot → Option Shape
loss_in None number to = None
loss_in (Some from) number to = Some (shape.Loss from number to)

-- the arrow from a survivor to the gap, if it names the gap
abbrev pub loss_at : EntryGraph SealedEntry → List Placed → List ℕ → Spot → ℕ → Option Shape
loss_at graph placed digest to place =
    if names_it digest (slice_get graph.survivors place) then loss_in (spot_at placed place) (number_at placed place) to
    else None

-- an arrow to the gap from each survivor that names it
abbrev pub losses_of : EntryGraph SealedEntry → List Placed → List ℕ → Spot → List Shape
losses_of graph placed digest to =
    flat_map (λ place. option_to_list (loss_at graph placed digest to place))
    (range_with_len 0 (length graph.survivors))

-- the spot of a gap: one below another in a lane of their own, each in the column of the first
-- survivor that names it
abbrev pub gap_spot : EntryGraph SealedEntry → List Placed → ℕ → ℕ → List ℕ → Spot
gap_spot graph placed lane level digest = record {
  column = gap_column placed (first_namer graph.survivors digest);
  lane = lane;
  level = level;
}

-- the first arrows to a gap, and its mark
abbrev pub gap_of : EntryGraph SealedEntry → List Placed → ℕ → ℕ → List ℕ → List Shape
gap_of graph placed lane level digest =
    take most_losses (losses_of graph placed digest (gap_spot graph placed lane level digest))
    ++ shape.Gap (gap_spot graph placed lane level digest) digest ∷ []

-- the first arrows to each of these gaps, and its mark
abbrev pub gaps_of : EntryGraph SealedEntry → List (List ℕ) → List Placed → ℕ → List Shape
gaps_of graph gaps placed lane =
    flat_map (λ level. gap_of graph placed lane level (slice_index_or gaps level []))
    (range_with_len 0 (length gaps))

-- the survivor is one of the fork
abbrev pub is_of_fork : ℕ × ℕ → Placed → Bool
is_of_fork fork placed = placed.seen.maker == fork.0 && placed.seen.number == fork.1

-- the spot of a survivor, if it is one of the fork, or else the one before
abbrev pub later_spot : ℕ × ℕ → Option Spot → Placed → Option Spot
later_spot fork before placed = if is_of_fork fork placed then placed.at else before

-- the spot of the last one of the fork
abbrev pub last_of_fork : ℕ × ℕ → List Placed → Option Spot
last_of_fork fork placed = fold (later_spot fork) None placed

-- the mark of a fork from one spot to another
abbrev pub fork_between : Option Spot → Option Spot → ℕ → Option Shape
fork_between None to number = None
fork_between (Some from) None number = None
fork_between (Some from) (Some to) number = Some (shape.Fork from to number)

-- a mark for each fork, from the first of its entries to the last
abbrev pub forks_of : List Placed → List (ℕ × ℕ) → List Shape
forks_of placed forks =
    flat_map (λ (fork : ℕ × ℕ). option_to_list (fork_between (spot_in (find (is_of_fork fork) placed))
    (last_of_fork fork placed) fork.1)) forks

-- a mark for each stray, side by side
abbrev pub strays_of : List (List ℕ) → ℕ → List Shape
strays_of strays lane =
    map (λ order. shape.Stray (record { column = 0; lane = lane; level = 0 }) order (slice_index_or strays order []))
    (range_with_len 0 (length strays))
