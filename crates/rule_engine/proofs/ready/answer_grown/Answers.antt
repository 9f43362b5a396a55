use Rattle.rule_engine.proofs.Imports.{Bool, Broken, IsJudgeAnswer, Kept, known_before, known_whole, List, Ok, Row, sym}
use Rattle.rule_engine.proofs.Imports.{take, Three, three, tree_of, Trees, Unsettled, value_said, Verdict, ℕ, ◌∙◌, ◌≡◌}
use Rattle.rule_engine.proofs.ready.answer_grown.Goals as goal

-- the value that a verdict says is the rule's
said : (first : List Row) (order : ℕ → ℕ → Three) (wholes : ℕ → Bool) (rule : Trees) (verdict : Verdict) →
    IsJudgeAnswer first order wholes rule (Ok verdict) → value_said verdict ≡ three first order wholes rule
said first order wholes rule Kept is = sym is.1
said first order wholes rule (Broken places) is = sym is.1.0
said first order wholes rule Unsettled is = sym is.1

pub grown_value-requires-clause-before : goal.grown_value-requires-clause-before
grown_value-requires-clause-before c =
    c.value_said.ensures
    ∙ said (take c.args.count c.args.survivors.now.rows.now) (known_before c.args.survivors.now.known.order.now)
    (known_whole c.args.survivors.now.known.order.now) (tree_of c.args.body.now) c.args.before.now c.requires.before
