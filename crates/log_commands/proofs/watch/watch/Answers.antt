use Rattle.log_commands.proofs.Imports.{Answer, Ok, or_answered, or_refused, refl, ◌≡◌}
use Rattle.log_commands.proofs.watch.watch.Goals as goal

pub returns-in-Err : goal.returns-in-Err
returns-in-Err g c =
    or_refused g.S.Store _ _ _ _ _ _ c.in-Err.fault _ c.in-Err.ensures.read c.of_fault.ensures.ok c.of_fault.ensures.err

pub returns-in-Ok : goal.returns-in-Ok
returns-in-Ok g c =
    or_answered g.S.Store (λ (told : Answer). told) _ _ (λ told other. other ≡ told) _ _ c.in-Ok.answer
    (Ok c.in-Ok.answer) c.in-Ok.ensures.read refl c.in-Ok.ensures.status tt
