-- The picture of a report.
use Rattle.std.specs.Prelude.{ℕ, ◌+◌, Bool, true, false, if◌then◌else◌, List, [], ◌∷◌, ◌++◌, length, codes, count_by}
use Rattle.std.specs.Prelude.{Option, Some, None, nat_le, slice_get}
use Rattle.std.specs.List.{concat, flat_map, range_with_len}
use Rattle.std.specs.Fmt.{decimal}
use Rattle.rule_engine.specs.declared.verdict.Verdict.{Verdict}
use Rattle.auditor.specs.Report.{AuditReport}
use Rattle.entry_format.specs.SealedEntry.{SealedEntry}
use Rattle.entry_graph.specs.EntryGraph.{EntryGraph}
use Rattle.auditor.specs.Outcomes.{outcome_of, outcome_word, is_broken, is_unsettled}
use Rattle.page_markup.specs.declared.names.Tag.{Tag}
use Rattle.page_markup.specs.declared.names.Tag.TheVariants as tag
use Rattle.page_markup.specs.declared.names.AttributeName.TheVariants as name
use Rattle.page_markup.specs.Escaping.{escaped}
use Rattle.page_markup.specs.Elements.{attribute, element, svg_document}
use Rattle.entangled_picture.specs.declared.legend.TheConstants.{STYLE}
use Rattle.entangled_picture.specs.declared.picture.TheConstants.{DESCRIPTION}
use Rattle.entangled_picture.specs.declared.shape.Shape.{Shape}
use Rattle.entangled_picture.specs.declared.shape.Shape.TheVariants.{Entry}
use Rattle.entangled_picture.specs.Layout.{width_of, height_of, tops_of}
use Rattle.entangled_picture.specs.Names.{rule_name, two_words}
use Rattle.entangled_picture.specs.Drawing.{words_at}
use Rattle.entangled_picture.specs.Legend.{arrow_heads, legend}
use Rattle.entangled_picture.specs.ShapeMarks.{shape_line}
use Rattle.entangled_picture.specs.Places.{most_arrows}
use Rattle.entangled_picture.specs.Shapes.{arrow_count, shapes_of}

-- the verdict is there and passes the test
abbrev pub is_said : (Verdict → Bool) → Option Verdict → Bool
is_said test None = false
is_said test (Some verdict) = test verdict

-- a name, with a space before it
abbrev pub after_space : List ℕ → List ℕ
after_space word = 32 ∷ word

-- the name of a rule whose verdict passes the test
abbrev pub rule_word : (Verdict → Bool) → AuditReport → ℕ → List ℕ
rule_word test report rule =
    if is_said test (slice_get report.verdicts rule) then after_space (rule_name report rule) else []

-- the names of all such rules
abbrev pub rule_words : (Verdict → Bool) → AuditReport → List ℕ
rule_words test report = flat_map (rule_word test report) (range_with_len 0 (length report.verdicts))

-- the line of the broken rules
abbrev pub broken_line : AuditReport → List ℕ
broken_line report = codes "broken:" ++ rule_words is_broken report

-- the line of the unsettled rules
abbrev pub unsettled_line : AuditReport → List ℕ
unsettled_line report = codes "unsettled:" ++ rule_words is_unsettled report

-- the shape is a survivor's mark
abbrev pub is_entry : Shape → Bool
is_entry (Entry at place number deed digest) = true
is_entry other = false

-- how many of the survivors are drawn, and how many gaps, forks and strays there are
abbrev pub drawn_words : ℕ → ℕ → ℕ → ℕ → ℕ → List ℕ
drawn_words drawn all gaps forks strays =
    concat (decimal drawn ∷ codes " of " ∷ decimal all ∷ codes " entries are drawn; gaps "
    ∷ decimal gaps ∷ codes ", forks " ∷ decimal forks ∷ codes ", strays " ∷ decimal strays
    ∷ codes ", of each the first 300" ∷ [])

-- the same of a graph
abbrev pub graph_words : EntryGraph SealedEntry → ℕ → List ℕ
graph_words graph drawn =
    drawn_words drawn (length graph.survivors) (length graph.gaps) (length graph.forks) (length graph.strays)

-- the part that is shown
abbrev pub view_box : ℕ → ℕ → List ℕ
view_box width height = concat (codes "0 0 " ∷ decimal width ∷ codes " " ∷ decimal height ∷ [])

-- the attributes of each picture
unfoldable pub kind_attributes : List ℕ
kind_attributes =
    attribute name.Xmlns (codes "http://www.w3.org/2000/svg")
    ++ attribute name.Class (codes "picture")
    ++ attribute name.Role (codes "graphics-document document")
    ++ attribute name.AriaLabelledby (codes "p-title p-text")

-- a size
unfoldable pub size_attributes : ℕ → ℕ → List ℕ
size_attributes width height =
    attribute name.Width (decimal width) ++ attribute name.Height (decimal height)
    ++ attribute name.ViewBox (view_box width height)

-- the attributes of a picture of this size
unfoldable pub picture_attributes : ℕ → ℕ → List ℕ
picture_attributes width height = kind_attributes ++ size_attributes width height

-- an element with an id and text
unfoldable pub named_text : Tag → List ℕ → List ℕ → List ℕ
named_text tag id text = element tag (attribute name.Id id) (escaped text)

-- the style
unfoldable pub picture_style : List ℕ
picture_style = element tag.Style [] (escaped STYLE.now)

-- the title, the description and the style
unfoldable pub picture_titles : List ℕ → List ℕ
picture_titles verdict =
    named_text tag.Title (codes "p-title") (two_words (codes "verdict ") verdict) ++ escaped (10 ∷ [])
    ++ named_text tag.Desc (codes "p-text") DESCRIPTION.now ++ picture_style

-- the paper
unfoldable pub picture_paper : List ℕ
picture_paper =
    element tag.Rect (attribute name.Class (codes "paper") ++ attribute name.Width (codes "100%")
    ++ attribute name.Height (codes "100%")) []

-- what the report comes to
unfoldable pub verdict_words : List ℕ → List ℕ
verdict_words verdict =
    words_at (codes "verdict") (codes "translate(8 24)") (two_words (codes "verdict ") verdict)

-- the broken rules
unfoldable pub broken_words : AuditReport → List ℕ
broken_words report = words_at (codes "rules") (codes "translate(8 46)") (broken_line report)

-- the unsettled rules
unfoldable pub unsettled_words : AuditReport → List ℕ
unsettled_words report = words_at (codes "rules") (codes "translate(8 64)") (unsettled_line report)

-- how many of the survivors are drawn
unfoldable pub count_words : EntryGraph SealedEntry → ℕ → List ℕ
count_words graph drawn = words_at (codes "rules") (codes "translate(8 82)") (graph_words graph drawn)

-- how many of the arrows are drawn
abbrev pub arrows_line : ℕ → List ℕ
arrows_line arrows =
    if nat_le arrows most_arrows then codes "of arrows to a gap the first 16 are drawn"
    else concat (codes "of arrows to a gap the first 16 are drawn, of " ∷ decimal arrows
    ∷ codes " between entries the first 5000" ∷ [])

-- the line on arrows
unfoldable pub arrows_words : ℕ → List ℕ
arrows_words arrows = words_at (codes "rules") (codes "translate(8 98)") (arrows_line arrows)

-- what the report comes to, the rules that aren't kept, and how many entries and arrows are drawn
unfoldable pub picture_words : AuditReport → List ℕ → ℕ → ℕ → List ℕ
picture_words report verdict drawn arrows =
    verdict_words verdict ++ broken_words report ++ unsettled_words report
    ++ count_words report.graph drawn ++ arrows_words arrows

-- the title, the description, the style, the heads of arrows, and the paper
unfoldable pub picture_base : List ℕ → List ℕ
picture_base verdict = picture_titles verdict ++ arrow_heads ++ picture_paper

-- what stands before the shapes, with the number of all arrows
unfoldable pub picture_head : AuditReport → List Shape → ℕ → List ℕ
picture_head report shapes arrows =
    picture_base (outcome_word (outcome_of report))
    ++ picture_words report (outcome_word (outcome_of report)) (count_by is_entry shapes) arrows
    ++ legend ++ escaped (10 ∷ [])

-- how many lanes there are: those of the machines, one for the logs of none, one for the strays, and
-- one for the gaps
abbrev pub lanes_in : AuditReport → ℕ
lanes_in report = length report.machines + 3

-- the attributes of a report's picture
unfoldable pub attributes_of : AuditReport → List ℕ
attributes_of report =
    picture_attributes (width_of (shapes_of report)) (height_of (shapes_of report) (lanes_in report))

-- what is in a picture with these shapes and lanes, and the number of all arrows
abbrev pub inner_of : AuditReport → List Shape → ℕ → List ℕ → List ℕ
inner_of report shapes arrows tops =
    picture_head report shapes arrows ++ flat_map (shape_line report tops) shapes

-- what is in a report's picture
unfoldable pub all_of : AuditReport → List ℕ
all_of report = inner_of report (shapes_of report) (arrow_count report) (tops_of (shapes_of report) (lanes_in report))

-- the picture of a report: one element
unfoldable pub picture_of : AuditReport → List ℕ
picture_of report = element tag.Svg (attributes_of report) (all_of report)

-- a document with the picture alone
unfoldable pub picture_text : AuditReport → List ℕ
picture_text report = svg_document (attributes_of report) (all_of report)
