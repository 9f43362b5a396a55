use Rattle.log_commands.proofs.Imports.{ap, IfOk-weaker, inl, inr, line_answer, slice_get_within, ◌∙◌}
use Rattle.log_commands.proofs.OrderAnswers.{means_none}
use Rattle.command_line.specs.declared.status.Status.TheVariants as status
use Rattle.log_commands.proofs.order.order_among.Goals as goal

pub returns-in_default-clause-told : goal.returns-in_default-clause-told
returns-in_default-clause-told c =
    IfOk-weaker _ _ _ (λ answer told. inl (means_none _ _ _ c.in_default.ensures, told)) c.refused.ensures

pub returns-in_default-place_of-clause-told : goal.returns-in_default-place_of-clause-told
returns-in_default-place_of-clause-told c =
    let (e, at_e, means) = c.in-Some.ensures in
    IfOk-weaker _ _ _
    (λ answer told. inr (e, means, inl (means_none _ _ _ c.in_default-place_of.ensures, told)))
    c.refused-in_default-place_of.ensures

pub word_at-requires-clause-first : goal.word_at-requires-clause-first
word_at-requires-clause-first c =
    let (e, at_e, means) = c.in-Some.ensures in slice_get_within _ c.in-Some.first e at_e

pub word_at-requires-clause-second : goal.word_at-requires-clause-second
word_at-requires-clause-second c =
    let (f, at_f, means) = c.in-Some-place_of.ensures in slice_get_within _ c.in-Some-place_of.second f at_f

pub returns-clause-told : goal.returns-clause-told
returns-clause-told c =
    let (e, at_e, means_e) = c.in-Some.ensures in
    let (f, at_f, means_f) = c.in-Some-place_of.ensures in
    IfOk-weaker _ _ _
    (λ answer told. inr (
      e,
      means_e,
      inr (
        f,
        means_f,
        record {
          word = c.in_ok-word.word;
          right = c.in_ok-word.ensures e f at_e at_f;
          told = told ∙ ap (line_answer status.Done) c.word.ensures;
        },
      ),
    ))
    c.line.ensures
