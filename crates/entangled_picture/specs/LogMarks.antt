-- The lanes, and what is shown of the logs at their ends.
use Rattle.std.specs.Prelude.{ℕ, ◌+◌, ◌==◌, nat_lt, if◌then◌else◌, List, [], ◌∷◌, ◌++◌, length, take, map, count_by}
use Rattle.std.specs.Prelude.{Option, Some, None, option_to_list, slice_get}
use Rattle.std.specs.List.{flat_map, range_with_len}
use Rattle.entry_format.specs.declared.plain.EntryFault.{EntryFault}
use Rattle.log_files.specs.declared.plain_log.End.{End}
use Rattle.log_files.specs.declared.plain_log.End.TheVariants.{Clean, Torn, Malformed}
use Rattle.log_files.specs.Logs.{LogRead}
use Rattle.entangled_picture.specs.declared.shape.Spot.{Spot}
use Rattle.entangled_picture.specs.declared.shape.Shape.{Shape}
use Rattle.entangled_picture.specs.declared.shape.Shape.TheVariants as shape

-- the lane of a log: its owner's, or the one below all machines where the owner isn't in the roster
abbrev pub lane_of : ℕ → ℕ → ℕ
lane_of owner machines = if nat_lt owner machines then owner else machines

-- how many of these logs have this lane
abbrev pub logs_above : List LogRead → ℕ → ℕ → ℕ
logs_above before lane machines = count_by (λ (log : LogRead). lane_of log.owner machines == lane) before

-- a line for each machine, in the order of the roster, up to this column, with the number of its logs
abbrev pub lanes_of : List LogRead → ℕ → ℕ → List Shape
lanes_of logs machines column =
    map (λ lane. shape.Lane (record { column = column; lane = lane; level = 0 }) (logs_above logs lane machines))
    (range_with_len 0 machines)

-- the mark of a refused record
abbrev pub refused_at : ℕ → Spot → ℕ → Option (ℕ × EntryFault) → Option Shape
refused_at log edge order None = None
refused_at log edge order (Some (place, fault)) = Some (shape.Refused edge order log place fault)

-- a mark for each refused record, side by side
abbrev pub refused_marks : List (ℕ × EntryFault) → ℕ → Spot → List Shape
refused_marks refused log edge =
    flat_map (λ order. option_to_list (refused_at log edge order (slice_get refused order)))
    (range_with_len 0 (length refused))

-- the mark of an end that isn't clean
abbrev pub ending_of : Spot → ℕ → ℕ → End → Option Shape
ending_of at order log Clean = None
ending_of at order log (Torn offset) = Some (shape.Ending at order log (Torn offset))
ending_of at order log (Malformed offset why) = Some (shape.Ending at order log (Malformed offset why))

-- the mark of a break
abbrev pub break_of : Spot → ℕ → ℕ → Option ℕ → Option Shape
break_of at order log None = None
break_of at order log (Some place) = Some (shape.Break at order log place)

-- what is shown of a log: its line, and after it, side by side, its refused records, its break, and its end
abbrev pub marks_of_log : LogRead → ℕ → Spot → List Shape
marks_of_log log place edge =
    shape.Log edge place ∷ []
    ++ refused_marks log.refused place edge
    ++ option_to_list (break_of edge (length log.refused) place log.broke)
    ++ option_to_list (ending_of edge (length log.refused + 1) place log.end)

-- the spot after which a log's marks are: in the last column, below the logs that have the same
-- lane
abbrev pub edge_of : List LogRead → ℕ → ℕ → LogRead → Spot
edge_of before machines column log = record {
  column = column;
  lane = lane_of log.owner machines;
  level = logs_above before (lane_of log.owner machines) machines;
}

-- what is shown of the log at a place
abbrev pub log_at : List LogRead → ℕ → ℕ → ℕ → Option LogRead → List Shape
log_at logs machines column place None = []
log_at logs machines column place (Some log) = marks_of_log log place (edge_of (take place logs) machines column log)

-- what is shown of each log
abbrev pub logs_of : List LogRead → ℕ → ℕ → List Shape
logs_of logs machines column =
    flat_map (λ place. log_at logs machines column place (slice_get logs place)) (range_with_len 0 (length logs))
