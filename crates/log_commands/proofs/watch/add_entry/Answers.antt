use Rattle.log_commands.proofs.WatchSteps.{adds_to, never_full, wide_with}
use Rattle.log_commands.proofs.watch.add_entry.Goals as goal

pub returns-in-Ok-clause-ok : goal.returns-in-Ok-clause-ok
returns-in-Ok-clause-ok c =
    adds_to c.args.live.now c.add.new.self c.args.entry.now c.in_ok-copy.copy c.in-Ok.field-0 c.in_ok-copy.ensures
    c.in-Ok.ensures.answer c.in-Ok.ensures.becomes

pub returns-in-Err-TooWide-clause-err : goal.returns-in-Err-TooWide-clause-err
returns-in-Err-TooWide-clause-err c =
    wide_with c.args.live.now c.args.entry.now c.in_ok-copy.copy c.in-Err-TooWide.field-0-0 c.in-Err-TooWide.field-0
    c.in-Err-TooWide.place c.in_ok-copy.ensures c.in-Err-TooWide.field-0-is c.in-Err-TooWide.ensures.answer

-- an entry isn't refused as one too many
pub unreachable-requires-in-Err-TooMany : goal.unreachable-requires-in-Err-TooMany
unreachable-requires-in-Err-TooMany c =
    never_full c.args.live.now c.args.entry.now c.in_ok-copy.copy c.in-Err-TooMany.field-0-0 c.in-Err-TooMany.field-0
    c.in_ok-copy.ensures c.in-Err-TooMany.field-0-is c.in-Err-TooMany.ensures.answer c.requires.room
