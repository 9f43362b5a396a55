use Rattle.std.proofs.Common.{◌∙◌, ◌++◌, ap, sym, List, append_assoc}
use Rattle.hall_text.specs.declared.spans.Span.{Span}
use Rattle.hall_text.proofs.NextTokens.{token_then, no_token_there}
use Rattle.hall_text.proofs.TokenLemmas.{between_after, between_none}
use Rattle.hall_text.proofs.spans.tokens.Goals as goal

-- a token begins at the place
pub loop-at-preserved-then-at-end : goal.loop-at-preserved-then-at-end
loop-at-preserved-then-at-end c = record {
  all = rw (c.in_ok-push.ensures.items, append_assoc)
      (ap (λ (more : List Span). c.loop-at.spans.items ++ more)
      (sym (token_then c.args.text.now c.loop-at.at c.token_end-end.result c.loop-at-test.true
      c.token_end-end.ensures.value c.if-at-end.true)) ∙ c.loop-at.invariant.all);
  between = between_after c.args.text.now c.loop-at.at c.token_end-end.result c.if-at-end.true
      (c.token_end-end.ensures.token c.if-at-end.true);
}

-- none begins there
pub loop-at-preserved : goal.loop-at-preserved
loop-at-preserved c = record {
  all = ap (λ (more : List Span). c.loop-at.spans.items ++ more)
      (sym (no_token_there c.args.text.now c.loop-at.at c.token_end-end.result c.loop-at-test.true
      c.token_end-end.ensures.value c.if-at-end.false)) ∙ c.loop-at.invariant.all;
  between = between_none c.args.text.now c.loop-at.at (c.token_end-end.ensures.none c.if-at-end.false).1;
}
