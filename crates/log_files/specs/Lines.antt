-- The lines of reports on logs.
use Rattle.std.specs.Prelude.{ℕ, List, [], ◌∷◌, ◌++◌, codes}
use Rattle.std.specs.List.{flat_map}
use Rattle.std.specs.Fmt.{decimal}
use Rattle.hex.specs.Hex.{encode_lower}
use Rattle.canonical_sexp.specs.Causes.{why_word}
use Rattle.entry_format.specs.declared.plain.EntryFault.{EntryFault}
use Rattle.entry_format.specs.Reading.{fault_word}
use Rattle.log_files.specs.declared.plain_log.End.{End}
use Rattle.log_files.specs.declared.plain_log.End.TheVariants.{Clean, Torn, Malformed}

-- a line: it ends with a newline
abbrev pub line : List ℕ → List ℕ
line text = text ++ 10 ∷ []

-- the line of a refusal: the file, the place in it, and the cause
abbrev pub refused_line : List ℕ → ℕ → List ℕ → List ℕ
refused_line name place cause =
    codes "refused " ++ name ++ codes " " ++ decimal place ++ codes " " ++ cause

-- a line for each record that was refused, with its place
abbrev pub refused_lines : List ℕ → List (ℕ × EntryFault) → List ℕ
refused_lines name refused = flat_map (λ refusal. line (refused_line name refusal.0 (fault_word refusal.1))) refused

-- a line for an end that isn't clean, with its offset in the file
abbrev pub end_line : List ℕ → End → List ℕ
end_line name Clean = []
end_line name (Torn at) = line (codes "torn " ++ name ++ codes " " ++ decimal at)
end_line name (Malformed at why) =
    line (codes "malformed " ++ name ++ codes " " ++ decimal at ++ codes " " ++ why_word why)

-- a line for each gap
abbrev pub gap_lines : List (List ℕ) → List ℕ
gap_lines digests = flat_map (λ digest. line (codes "gap " ++ encode_lower digest)) digests
