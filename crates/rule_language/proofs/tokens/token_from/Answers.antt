use Rattle.rule_language.proofs.tokens.token_from.Goals as goal
use Rattle.rule_language.proofs.{Imports.arith, Imports.length, Imports.List, Imports.ℕ, Imports.◌<◌, Rows.next_token}

pub returns-then-start-text-clause-next : goal.returns-then-start-text-clause-next
returns-then-start-text-clause-next c =
    let text : List ℕ = c.args.text.now in
    let within : c.skip_separators-start.result < length text = omega arith in
    next_token text c.skip_separators-start.result c.token_end-end.result within
    (c.skip_separators-start.ensures.stops within) c.skip_separators-start.ensures.between
    c.token_end-end.ensures.token c.token_end-end.ensures.none
