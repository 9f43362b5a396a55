use Rattle.log_commands.proofs.Imports.{and_refused, and_then, Err, file_ends, file_joins, Ok, refl, ◌≡◌}
use Rattle.log_commands.specs.inside.PlaceFiles.{place_of}
use Rattle.log_commands.proofs.order.read_place.Goals as goal

pub returns-in-Ok-read_logs_by : goal.returns-in-Ok-read_logs_by
returns-in-Ok-read_logs_by g c =
    file_joins g.S.Store _ _ _ _ _ _ _ _ _ c.in-Ok.read (Ok _) c.in-Ok.ensures
    (and_then g.S.Store _ _ _ place_of (λ found answer. answer ≡ Ok (c.in-Ok.read, found)) _ _ _ (Ok _)
    c.in-Ok-read_logs_by.ensures refl tt tt)

pub returns-in-Err-read_logs_by : goal.returns-in-Err-read_logs_by
returns-in-Err-read_logs_by g c =
    file_joins g.S.Store _ _ _ _ _ _ _ _ _ c.in-Ok.read (Err _) c.in-Ok.ensures
    (and_refused g.S.Store _ _ _ place_of (λ found answer. answer ≡ Ok (c.in-Ok.read, found)) _ _ _
    c.in-Err-read_logs_by.ensures)

pub returns-in-Err : goal.returns-in-Err
returns-in-Err g c = file_ends g.S.Store _ _ _ _ _ _ _ _ c.in-Err.fault c.in-Err.ensures
