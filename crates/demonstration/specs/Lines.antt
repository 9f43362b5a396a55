-- The lines of a demonstration.
use Rattle.std.specs.Prelude.{ℕ, List, ◌++◌, codes}
use Rattle.std.specs.Fmt.{decimal}
use Rattle.log_files.specs.Lines.{line}
use Rattle.demonstration.specs.declared.shown.Demonstration.{Demonstration}

-- a word and a number
abbrev pub count_line : List ℕ → ℕ → List ℕ
count_line word count = line (word ++ codes " " ++ decimal count)

-- the numbers of sessions and of entries sent, and what an audit of the kept log counts
abbrev pub demonstration_text : ℕ → Demonstration → List ℕ
demonstration_text sessions shown =
    count_line (codes "sessions") sessions ++ count_line (codes "entries") shown.entries
    ++ count_line (codes "survivors") shown.survivors ++ count_line (codes "gaps") shown.gaps
    ++ count_line (codes "kept") shown.kept ++ count_line (codes "broken") shown.broken
    ++ count_line (codes "unsettled") shown.unsettled
