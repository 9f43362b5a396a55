-- Each finding has one mark.
use Rattle.std.specs.Prelude.{◌≡◌, ℕ, ◌≤◌, List, [], ◌∷◌, ◌++◌, length, map, take, Option, Some, None, slice_get}
use Rattle.std.specs.List.{flat_map, range_with_len}
use Rattle.entry_format.specs.SealedEntry.{SealedEntry}
use Rattle.entry_format.specs.declared.plain.EntryFault.{EntryFault}
use Rattle.log_files.specs.declared.plain_log.End.{End}
use Rattle.log_files.specs.declared.plain_log.End.TheVariants.{Clean, Torn, Malformed}
use Rattle.log_files.specs.Logs.{LogRead}
use Rattle.auditor.specs.Report.{AuditReport}
use Rattle.entangled_picture.specs.declared.shape.Shape.{Shape}
use Rattle.entangled_picture.specs.declared.shape.Shape.TheVariants.{Lane, Log, Arrow, Bar, Light, Entry, Gap, Loss}
use Rattle.entangled_picture.specs.declared.shape.Shape.TheVariants.{Fork, Stray, Refused, Ending, Break}
use Rattle.entangled_picture.specs.Places.{most_drawn}
use Rattle.entangled_picture.specs.Shapes.{shapes_of}

-- what a mark stands for: a survivor, a gap or a stray, by its digest; or, of the log at a place, a
-- refused record, the record from which on there is no legal history, or an end that isn't clean
pub data Finding : Type 0 where
  survivor : (digest : List ℕ) → Finding
  gap : (digest : List ℕ) → Finding
  stray : (digest : List ℕ) → Finding
  refused : (log item : ℕ) → Finding
  broken : (log item : ℕ) → Finding
  damaged : (log : ℕ) → Finding

-- what a shape stands for; lines and lights stand for nothing of these
abbrev pub stands_for : Shape → List Finding
stands_for (Lane end logs) = []
stands_for (Log end log) = []
stands_for (Arrow from number to named) = []
stands_for (Bar from to entries) = []
stands_for (Light at rule) = []
stands_for (Entry at place number deed digest) = survivor digest ∷ []
stands_for (Gap at digest) = gap digest ∷ []
stands_for (Loss from number to) = []
stands_for (Fork from to number) = []
stands_for (Stray at order digest) = stray digest ∷ []
stands_for (Refused at order log item fault) = refused log item ∷ []
stands_for (Ending at order log end) = damaged log ∷ []
stands_for (Break at order log item) = broken log item ∷ []

-- a break of the log at a place
abbrev pub break_found : ℕ → Option ℕ → List Finding
break_found place None = []
break_found place (Some item) = broken place item ∷ []

-- an end of the log at a place that isn't clean
abbrev pub end_found : ℕ → End → List Finding
end_found place Clean = []
end_found place (Torn offset) = damaged place ∷ []
end_found place (Malformed offset why) = damaged place ∷ []

-- what is found at the log at a place: its refused records, its break, and its end
abbrev pub found_in : ℕ → Option LogRead → List Finding
found_in place None = []
found_in place (Some log) =
    map (λ (item : ℕ × EntryFault). refused place item.0) log.refused ++ break_found place log.broke
    ++ end_found place log.end

-- what a report finds, each once: what is found at its logs, its gaps and its strays, up to the number
-- that is drawn, and its survivors
abbrev pub findings_of : AuditReport → List Finding
findings_of report =
    flat_map (λ place. found_in place (slice_get report.logs place)) (range_with_len 0 (length report.logs))
    ++ (map gap (take most_drawn report.graph.gaps) ++ map stray (take most_drawn report.graph.strays)
    ++ map (λ (sealed : SealedEntry). survivor sealed.digest) report.graph.survivors)

-- the law that up to the number of survivors that are drawn, the marks of a picture stand for what the
-- report finds, each once
abbrev pub EachHasOneMark : Type 0
EachHasOneMark =
    (report : AuditReport) → length report.graph.survivors ≤ most_drawn →
    flat_map stands_for (shapes_of report) ≡ findings_of report
