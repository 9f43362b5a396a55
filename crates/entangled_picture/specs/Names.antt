-- The words in a picture.
use Rattle.std.specs.Prelude.{ℕ, ◌-◌, List, [], ◌∷◌, ◌++◌, length, take, drop, nat_le, if◌then◌else◌, codes}
use Rattle.std.specs.Prelude.{Option, Some, None, slice_get}
use Rattle.std.specs.List.{concat}
use Rattle.std.specs.Fmt.{decimal}
use Rattle.hex.specs.Hex.{encode_lower}
use Rattle.roster.specs.declared.post.Post.{Post}
use Rattle.rule_language.specs.Trees.{RuleTree}
use Rattle.auditor.specs.Report.{AuditReport}

-- the name of a machine
abbrev pub name_of_post : Option Post → List ℕ
name_of_post None = []
name_of_post (Some post) = post.name

-- the name of the machine of a lane
abbrev pub machine_name : AuditReport → ℕ → List ℕ
machine_name report lane = name_of_post (slice_get report.machines lane)

-- the name of a log's file
abbrev pub name_of_file : Option (List ℕ) → List ℕ
name_of_file None = []
name_of_file (Some file) = file

-- the name of the log at a place
abbrev pub file_name : AuditReport → ℕ → List ℕ
file_name report log = name_of_file (slice_get report.files log)

-- a name that is longer than there is room for, from its end
abbrev pub short_name : List ℕ → List ℕ
short_name name = if nat_le (length name) 28 then name else codes ".." ++ drop (length name - 26) name

-- the name of a rule
abbrev pub name_of_rule : Option RuleTree → List ℕ
name_of_rule None = []
name_of_rule (Some rule) = rule.name

-- the name of the rule at a place
abbrev pub rule_name : AuditReport → ℕ → List ℕ
rule_name report rule = name_of_rule (slice_get report.rules rule)

-- the first eight digits of a digest
abbrev pub first_digits : List ℕ → List ℕ
first_digits digest = encode_lower (take 4 digest)

-- words of two parts
abbrev pub two_words : List ℕ → List ℕ → List ℕ
two_words first second = concat (first ∷ second ∷ [])

-- a machine's entry with a number
abbrev pub entry_name : List ℕ → ℕ → List ℕ
entry_name machine number = concat (machine ∷ codes "." ∷ decimal number ∷ [])

-- what a survivor's mark says
abbrev pub survivor_words : List ℕ → List ℕ → List ℕ → List ℕ
survivor_words name kind digits = concat (name ∷ codes " " ∷ kind ∷ codes " " ∷ digits ∷ [])

-- what an arrow says
abbrev pub arrow_words : List ℕ → List ℕ → List ℕ
arrow_words name other = concat (name ∷ codes " names " ∷ other ∷ [])

-- what a bar says
abbrev pub bar_words : ℕ → List ℕ → List ℕ
bar_words entries machine = concat (decimal entries ∷ codes " more entries of " ∷ machine ∷ [])

-- what the light of a broken rule says
abbrev pub light_words : List ℕ → List ℕ
light_words rule = concat (codes "rule " ∷ rule ∷ codes " is broken" ∷ [])

-- what the mark of a refused record says
abbrev pub refused_words : List ℕ → ℕ → List ℕ → List ℕ
refused_words log record_at cause =
    concat (log ∷ codes ": record " ∷ decimal record_at ∷ codes " is refused, " ∷ cause ∷ [])

-- what the mark of a log that ends inside a record says
abbrev pub torn_words : List ℕ → ℕ → List ℕ
torn_words log offset = concat (log ∷ codes ": torn at " ∷ decimal offset ∷ [])

-- what the mark of a log says that ends at a byte which isn't allowed there
abbrev pub malformed_words : List ℕ → ℕ → List ℕ → List ℕ
malformed_words log offset cause = concat (log ∷ codes ": malformed at " ∷ decimal offset ∷ codes ", " ∷ cause ∷ [])

-- what the mark of a break says
abbrev pub break_words : List ℕ → ℕ → List ℕ
break_words log record_at =
    concat (log ∷ codes ": no legal history from record " ∷ decimal record_at ∷ codes " on" ∷ [])

-- a path between two points
abbrev pub path_between : ℕ → ℕ → ℕ → ℕ → List ℕ
path_between x y to_x to_y =
    concat (codes "M" ∷ decimal x ∷ codes " " ∷ decimal y ∷ codes "L" ∷ decimal to_x ∷ codes " " ∷ decimal to_y ∷ [])

-- a path along a lane, from its begin
abbrev pub path_along : ℕ → ℕ → List ℕ
path_along y to_x = concat (codes "M202 " ∷ decimal y ∷ codes "H" ∷ decimal to_x ∷ [])

-- a path above a fork
abbrev pub path_above : ℕ → ℕ → ℕ → List ℕ
path_above x y to_x =
    concat (codes "M" ∷ decimal x ∷ codes " " ∷ decimal y ∷ codes "m-14 -13v-8H" ∷ decimal to_x ∷ codes "h14v8" ∷ [])

-- the reference to the row of an entry in the table of entries
abbrev pub row_reference : ℕ → List ℕ
row_reference place = concat (codes "#e" ∷ decimal place ∷ [])
