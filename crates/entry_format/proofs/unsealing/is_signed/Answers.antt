use Rattle.entry_format.proofs.Keys.{no_key}
use Rattle.entry_format.proofs.unsealing.is_signed.Goals as goal

-- the bytes are no key
pub returns-in-Err : goal.returns-in-Err
returns-in-Err c = (
  (λ never. cc),
  λ signs. absurd (no_key c.args.key.now c.args.message.now c.args.signature.now c.in-Err.field-0
      c.in-Err.ensures.length c.in-Err.ensures.unknown signs),
)
