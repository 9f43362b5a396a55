-- The text of a report, line by line.
use Rattle.std.specs.Prelude.{ℕ, List, [], ◌++◌, map, length, codes, Option, Some, None, slice_get, slice_index_or}
use Rattle.std.specs.List.{flat_map, zip}
use Rattle.std.specs.Fmt.{decimal}
use Rattle.hex.specs.Hex.{encode_lower}
use Rattle.log_files.specs.Lines.{line, refused_lines, end_line, gap_lines}
use Rattle.roster.specs.declared.post.Post.{Post}
use Rattle.log_files.specs.Logs.{LogRead}
use Rattle.entry_format.specs.SealedEntry.{SealedEntry}
use Rattle.entry_graph.specs.EntryGraph.{EntryGraph}
use Rattle.rule_language.specs.Trees.{RuleTree}
use Rattle.rule_engine.specs.declared.verdict.Verdict.{Verdict}
use Rattle.rule_engine.specs.declared.verdict.Verdict.TheVariants.{Kept, Broken, Unsettled}
use Rattle.auditor.specs.Report.{AuditReport}
use Rattle.auditor.specs.Outcomes.{outcome_word, outcome_of}

-- the name of the machine with this number
abbrev pub maker_name : List Post → ℕ → List ℕ
maker_name machines maker = slice_index_or (map (λ (post : Post). post.name) machines) maker []

-- whose log it says it is, how many records are kept, and how many are refused
abbrev pub log_head_line : List ℕ → LogRead → List ℕ
log_head_line file log =
    line (codes "log " ++ file ++ codes " owner " ++ decimal log.owner ++ codes " kept "
    ++ decimal (length log.kept) ++ codes " refused " ++ decimal (length log.refused))

-- a line where the kept records stop being a legal history of the owner
abbrev pub break_line : List ℕ → Option ℕ → List ℕ
break_line file None = []
break_line file (Some place) = line (codes "break " ++ file ++ codes " " ++ decimal place)

-- all lines of a log
abbrev pub log_lines : List ℕ × LogRead → List ℕ
log_lines named =
    log_head_line named.0 named.1 ++ refused_lines named.0 named.1.refused ++ end_line named.0 named.1.end
    ++ break_line named.0 named.1.broke

-- how many survivors there are
abbrev pub entries_line : ℕ → List ℕ
entries_line count = line (codes "entries " ++ decimal count)

-- a line for each stray
abbrev pub stray_lines : List (List ℕ) → List ℕ
stray_lines digests = flat_map (λ digest. line (codes "stray " ++ encode_lower digest)) digests

-- a line for each fork: the machine's name, and the number that two of its entries have
abbrev pub fork_lines : List Post → List (ℕ × ℕ) → List ℕ
fork_lines machines forks =
    flat_map (λ fork. line (codes "fork " ++ maker_name machines fork.0 ++ codes " " ++ decimal fork.1)) forks

-- all lines of the graph
abbrev pub graph_lines : List Post → EntryGraph SealedEntry → List ℕ
graph_lines machines graph =
    entries_line (length graph.survivors) ++ stray_lines graph.strays ++ fork_lines machines graph.forks
    ++ gap_lines graph.gaps

-- an entry by which a rule is broken: its maker's name, its number, and its digest
abbrev pub entry_word : List Post → Option SealedEntry → List ℕ
entry_word machines None = []
entry_word machines (Some sealed) =
    codes " " ++ maker_name machines sealed.entry.maker ++ codes "." ++ decimal sealed.entry.number ++ codes ":"
    ++ encode_lower sealed.digest

-- the survivors at these places
abbrev pub entry_words : List Post → List SealedEntry → List ℕ → List ℕ
entry_words machines survivors places = flat_map (λ place. entry_word machines (slice_get survivors place)) places

-- what is answered of a rule
abbrev pub verdict_line : List Post → List SealedEntry → List ℕ → Verdict → List ℕ
verdict_line machines survivors name Kept = line (codes "kept " ++ name)
verdict_line machines survivors name (Broken places) =
    line (codes "broken " ++ name ++ entry_words machines survivors places.items)
verdict_line machines survivors name Unsettled = line (codes "unsettled " ++ name)

-- the line of a rule with its verdict
abbrev pub rule_line : List Post → List SealedEntry → RuleTree × Verdict → List ℕ
rule_line machines survivors judged = verdict_line machines survivors judged.0.name judged.1

-- the lines of the logs, then those of the graph, and then those of the rules
abbrev pub main_lines : AuditReport → List ℕ
main_lines report =
    flat_map log_lines (zip report.files report.logs) ++ graph_lines report.machines report.graph
    ++ flat_map (rule_line report.machines report.graph.survivors) (zip report.rules report.verdicts)

-- the whole report: at its end is what it comes to
abbrev pub report_text : AuditReport → List ℕ
report_text report = main_lines report ++ line (codes "verdict " ++ outcome_word (outcome_of report))
