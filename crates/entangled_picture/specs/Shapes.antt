-- The shapes of a report's picture.
use Rattle.std.specs.Prelude.{ℕ, ◌+◌, ◌-◌, List, ◌++◌, length, take}
use Rattle.auditor.specs.Report.{AuditReport}
use Rattle.entangled_picture.specs.declared.shape.Shape.{Shape}
use Rattle.entangled_picture.specs.declared.placed.Placed.{Placed}
use Rattle.entangled_picture.specs.Places.{most_arrows, most_drawn, placed_of}
use Rattle.entangled_picture.specs.Marks.{column_in, spot_at, lights_of, arrows_of, bars_of, gaps_of, entry_marks}
use Rattle.entangled_picture.specs.Marks.{forks_of, strays_of}
use Rattle.entangled_picture.specs.LogMarks.{lanes_of, logs_of}

-- the column of the last survivor
abbrev pub last_column : List Placed → ℕ
last_column placed = column_in (spot_at placed (length placed - 1))

-- what is drawn below the entries: the lights of broken rules, the first arrows, and the bars
abbrev pub shapes_below : AuditReport → List Placed → List Shape
shapes_below report placed =
    lights_of placed report.verdicts ++ take most_arrows (arrows_of report.graph placed) ++ bars_of placed

-- what is found beside the entries: the first forks; the first gaps, in the last of three lanes
-- below the machines'; and the first strays, in the one above it
abbrev pub shapes_beside : AuditReport → List Placed → ℕ → List Shape
shapes_beside report placed machines =
    forks_of placed (take most_drawn report.graph.forks)
    ++ gaps_of report.graph (take most_drawn report.graph.gaps) placed (machines + 2)
    ++ strays_of (take most_drawn report.graph.strays) (machines + 1)

-- what is drawn of the graph
abbrev pub graph_shapes : AuditReport → List Placed → ℕ → List Shape
graph_shapes report placed machines =
    shapes_below report placed ++ shapes_beside report placed machines ++ entry_marks placed

-- the lanes, the logs, and the graph
abbrev pub shapes_with : AuditReport → List Placed → ℕ → List Shape
shapes_with report placed machines =
    lanes_of report.logs machines (last_column placed) ++ logs_of report.logs machines (last_column placed)
    ++ graph_shapes report placed machines

-- all shapes
abbrev pub shapes_of : AuditReport → List Shape
shapes_of report = shapes_with report (placed_of report.graph report.verdicts) (length report.machines)

-- how many arrows there are between the survivors that are drawn, with those that are left out
abbrev pub arrow_count : AuditReport → ℕ
arrow_count report = length (arrows_of report.graph (placed_of report.graph report.verdicts))
