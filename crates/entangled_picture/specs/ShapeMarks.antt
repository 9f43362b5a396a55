-- How each shape is drawn.
use Rattle.std.specs.Prelude.{ℕ, ◌+◌, ◌-◌, ◌==◌, if◌then◌else◌, List, [], ◌∷◌, ◌++◌, codes}
use Rattle.std.specs.Fmt.{decimal}
use Rattle.canonical_sexp.specs.Causes.{why_word}
use Rattle.entry_format.specs.EntryText.{deed_word}
use Rattle.entry_format.specs.Reading.{fault_word}
use Rattle.log_files.specs.declared.plain_log.End.{End}
use Rattle.log_files.specs.declared.plain_log.End.TheVariants.{Clean, Torn, Malformed}
use Rattle.auditor.specs.Report.{AuditReport}
use Rattle.page_markup.specs.declared.names.Tag.TheVariants.{A}
use Rattle.page_markup.specs.declared.names.AttributeName.TheVariants.{Class, Href, Transform}
use Rattle.page_markup.specs.Escaping.{escaped}
use Rattle.page_markup.specs.Elements.{attribute, element}
use Rattle.entangled_picture.specs.declared.shape.Spot.{Spot}
use Rattle.entangled_picture.specs.declared.shape.Shape.{Shape}
use Rattle.entangled_picture.specs.declared.shape.Shape.TheVariants.{Lane, Log, Arrow, Bar, Light, Entry, Gap, Loss}
use Rattle.entangled_picture.specs.declared.shape.Shape.TheVariants.{Fork, Stray, Refused, Ending, Break}
use Rattle.entangled_picture.specs.Layout.{x_of, x_after, x_of_gap, y_of}
use Rattle.entangled_picture.specs.Names.{machine_name, file_name, rule_name, short_name, first_digits, two_words}
use Rattle.entangled_picture.specs.Names.{entry_name, survivor_words, arrow_words, bar_words, light_words}
use Rattle.entangled_picture.specs.Names.{refused_words, torn_words, malformed_words, break_words, path_between}
use Rattle.entangled_picture.specs.Names.{path_along, path_above, row_reference}
use Rattle.entangled_picture.specs.Drawing.{place_text, words_at, drawn_line, title, titled_line, mark}

-- where a label is that runs down to the right
abbrev pub below : List ℕ
below = codes "translate(-5 24) rotate(35)"

-- the circle of an entry
abbrev pub circle_path : List ℕ
circle_path = codes "M-10 0a10 10 0 1 0 20 0a10 10 0 1 0 -20 0z"

-- the place of a spot
abbrev pub spot_text : List ℕ → Spot → List ℕ
spot_text tops at = place_text (x_of at) (y_of tops at)

-- the place of a mark after a spot, with this number of marks between
abbrev pub after_text : List ℕ → Spot → ℕ → List ℕ
after_text tops at order = place_text (x_after at order) (y_of tops at)

-- the path between two spots
abbrev pub spots_path : List ℕ → Spot → Spot → List ℕ
spots_path tops from to = path_between (x_of from) (y_of tops from) (x_of to) (y_of tops to)

-- the path along a lane up to a spot
abbrev pub lane_path : List ℕ → Spot → List ℕ
lane_path tops end = path_along (y_of tops end) (x_of end)

-- the place of a name at the level of a spot
abbrev pub level_text : List ℕ → Spot → List ℕ
level_text tops end = place_text 8 (y_of tops end + 4)

-- the place of a machine's name, above its line
abbrev pub name_text : List ℕ → Spot → List ℕ
name_text tops end = place_text 8 (y_of tops end - 14)

-- the place of a bar's number
abbrev pub count_text : List ℕ → Spot → List ℕ
count_text tops from = place_text (x_of from + 13) (y_of tops from - 10)

-- the place of a fork's label
abbrev pub fork_text : List ℕ → Spot → List ℕ
fork_text tops from = place_text (x_of from - 14) (y_of tops from - 25)

-- the path above a fork
abbrev pub fork_path : List ℕ → Spot → Spot → List ℕ
fork_path tops from to = path_above (x_of from) (y_of tops from) (x_of to)

-- a machine without a log has words for that
abbrev pub no_log : ℕ → List ℕ → List ℕ
no_log logs place = if logs == 0 then words_at (codes "none") place (codes "no log") else []

-- the line of a machine, with its name above
unfoldable pub lane_shape : AuditReport → List ℕ → Spot → ℕ → List ℕ
lane_shape report tops end logs =
    titled_line (codes "lane") (lane_path tops end)
    (two_words (codes "machine ") (machine_name report end.lane))
    ++ words_at (codes "machine") (name_text tops end) (machine_name report end.lane)
    ++ no_log logs (level_text tops end)

-- the line of a log, with the name of its file before it
unfoldable pub log_shape : AuditReport → List ℕ → Spot → ℕ → List ℕ
log_shape report tops end log =
    titled_line (codes "log") (lane_path tops end)
    (two_words (codes "log ") (file_name report log))
    ++ words_at (codes "file") (level_text tops end) (short_name (file_name report log))

-- an arrow to an entry
unfoldable pub arrow_shape : AuditReport → List ℕ → Spot → ℕ → Spot → ℕ → List ℕ
arrow_shape report tops from number to named =
    titled_line (codes "names") (spots_path tops from to)
    (arrow_words (entry_name (machine_name report from.lane) number) (entry_name (machine_name report to.lane) named))

-- a bar, with its number of entries
unfoldable pub bar_shape : AuditReport → List ℕ → Spot → Spot → ℕ → List ℕ
bar_shape report tops from to entries =
    titled_line (codes "bar") (spots_path tops from to) (bar_words entries (machine_name report from.lane))
    ++ words_at (codes "count") (count_text tops from) (decimal entries)

-- the light of a broken rule
unfoldable pub light_shape : AuditReport → List ℕ → Spot → ℕ → List ℕ
light_shape report tops at rule =
    mark (codes "light") (spot_text tops at) (light_words (rule_name report rule))
    (codes "M-16 0a16 16 0 1 0 32 0a16 16 0 1 0 -32 0z") below []

-- what is in a survivor's mark
abbrev pub entry_inner : List ℕ → ℕ → List ℕ → List ℕ
entry_inner text number kind =
    title text ++ drawn_line (codes "glyph") circle_path
    ++ words_at (codes "number") (codes "translate(0 4)") (decimal number)
    ++ words_at (codes "label") below kind

-- the attributes of a survivor's mark
abbrev pub entry_attributes : List ℕ → Spot → ℕ → List ℕ → List ℕ
entry_attributes tops at place kind =
    attribute Class kind ++ attribute Href (row_reference place) ++ attribute Transform (spot_text tops at)

-- the mark of a survivor: a reference to its row in the table of entries
unfoldable pub entry_shape : AuditReport → List ℕ → Spot → ℕ → ℕ → List ℕ → List ℕ → List ℕ
entry_shape report tops at place number kind digest =
    element A (entry_attributes tops at place kind)
    (entry_inner (survivor_words (entry_name (machine_name report at.lane) number) kind (first_digits digest))
    number kind)

-- what the mark of a gap says
abbrev pub gap_words : List ℕ → List ℕ
gap_words digest = two_words (codes "gap ") (first_digits digest)

-- the mark of a gap
unfoldable pub gap_shape : List ℕ → Spot → List ℕ → List ℕ
gap_shape tops at digest =
    mark (codes "gap") (place_text (x_of_gap at) (y_of tops at)) (gap_words digest)
    (codes "M-8 0a8 8 0 1 0 16 0a8 8 0 1 0 -16 0z") (codes "translate(14 4)") (gap_words digest)

-- an arrow to a gap
unfoldable pub loss_shape : AuditReport → List ℕ → Spot → ℕ → Spot → List ℕ
loss_shape report tops from number to =
    titled_line (codes "loss") (path_between (x_of from) (y_of tops from) (x_of_gap to) (y_of tops to))
    (two_words (entry_name (machine_name report from.lane) number) (codes " names a gap"))

-- the mark of a fork
unfoldable pub fork_shape : AuditReport → List ℕ → Spot → Spot → ℕ → List ℕ
fork_shape report tops from to number =
    titled_line (codes "fork") (fork_path tops from to)
    (two_words (codes "fork ") (entry_name (machine_name report from.lane) number))
    ++ words_at (codes "above") (fork_text tops from) (codes "fork")

-- what the mark of a stray says
abbrev pub stray_words : List ℕ → List ℕ
stray_words digest = two_words (codes "stray ") (first_digits digest)

-- the mark of a stray
unfoldable pub stray_shape : List ℕ → Spot → ℕ → List ℕ → List ℕ
stray_shape tops at order digest =
    mark (codes "stray") (after_text tops at order) (stray_words digest) (codes "M0 -10L10 0L0 10L-10 0z") below
    (stray_words digest)

-- the mark of a refused record
unfoldable pub refused_shape : AuditReport → List ℕ → Spot → ℕ → ℕ → ℕ → List ℕ → List ℕ
refused_shape report tops at order log record_at cause =
    mark (codes "refused") (after_text tops at order) (refused_words (file_name report log) record_at cause)
    (codes "M-7 -7L7 7M-7 7L7 -7") below []

-- the mark of an end with these words
abbrev pub end_mark : List ℕ → Spot → ℕ → List ℕ → List ℕ → List ℕ
end_mark tops at order text label =
    mark (codes "ending") (after_text tops at order) text (codes "M-6 -10L2 -4L-6 2L2 8") below label

-- the mark of a log that ends inside a record
abbrev pub torn_shape : AuditReport → List ℕ → Spot → ℕ → ℕ → ℕ → List ℕ
torn_shape report tops at order log offset =
    end_mark tops at order (torn_words (file_name report log) offset) (codes "torn")

-- the mark of a log that ends at a byte which isn't allowed there
abbrev pub malformed_shape : AuditReport → List ℕ → Spot → ℕ → ℕ → ℕ → List ℕ → List ℕ
malformed_shape report tops at order log offset cause =
    end_mark tops at order (malformed_words (file_name report log) offset cause) (codes "malformed")

-- the mark of an end that isn't clean
abbrev pub ending_shape : AuditReport → List ℕ → Spot → ℕ → ℕ → End → List ℕ
ending_shape report tops at order log Clean = []
ending_shape report tops at order log (Torn offset) = torn_shape report tops at order log offset
ending_shape report tops at order log (Malformed offset why) =
    malformed_shape report tops at order log offset (why_word why)

-- the mark of a break
unfoldable pub break_shape : AuditReport → List ℕ → Spot → ℕ → ℕ → ℕ → List ℕ
break_shape report tops at order log record_at =
    mark (codes "break") (after_text tops at order) (break_words (file_name report log) record_at)
    (codes "M-4 -10V10M4 -10V10") below (codes "break")

-- a mark at the end of a log; other shapes are none
abbrev pub drawn_log_mark : AuditReport → List ℕ → Shape → List ℕ
drawn_log_mark report tops (Refused at order log place fault) =
    refused_shape report tops at order log place (fault_word fault)
drawn_log_mark report tops (Ending at order log end) = ending_shape report tops at order log end
drawn_log_mark report tops (Break at order log place) = break_shape report tops at order log place
drawn_log_mark report tops other = []

-- a shape
abbrev pub drawn_shape : AuditReport → List ℕ → Shape → List ℕ
drawn_shape report tops (Lane end logs) = lane_shape report tops end logs
drawn_shape report tops (Log end log) = log_shape report tops end log
drawn_shape report tops (Arrow from number to named) = arrow_shape report tops from number to named
drawn_shape report tops (Bar from to entries) = bar_shape report tops from to entries
drawn_shape report tops (Light at rule) = light_shape report tops at rule
drawn_shape report tops (Entry at place number deed digest) =
    entry_shape report tops at place number (deed_word deed) digest
drawn_shape report tops (Gap at digest) = gap_shape tops at digest
drawn_shape report tops (Loss from number to) = loss_shape report tops from number to
drawn_shape report tops (Fork from to number) = fork_shape report tops from to number
drawn_shape report tops (Stray at order digest) = stray_shape tops at order digest
drawn_shape report tops other = drawn_log_mark report tops other

-- a shape, and a new line after it
abbrev pub shape_line : AuditReport → List ℕ → Shape → List ℕ
shape_line report tops shape = drawn_shape report tops shape ++ escaped (10 ∷ [])
