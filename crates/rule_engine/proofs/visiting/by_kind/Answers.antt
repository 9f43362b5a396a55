use Rattle.rule_engine.proofs.visiting.by_kind.Goals as goal
use Rattle.rule_engine.proofs.{Imports.env_of, Imports.false≢true, Imports.sym, Imports.◌∙◌, Indexed.visited_by_kind}
use Rattle.rule_engine.proofs.visiting.by_kind.Goals.{in-Any, in_default}

pub returns : goal.returns
returns c P R =
    elim c.match-matches.branch [
      | in-Any w ↦ absurd (false≢true (sym c.if-matches.false ∙ w.matches-is))
      | in_default w ↦
          visited_by_kind c.args.rows.now P R c.args.quantifier c.args.body.now (env_of c.args.scope.now)
          c.places_of.result.now w.in_default.not-Any (c.places_of.ensures c.args.rows.now c.requires.by_kind)
    ]
