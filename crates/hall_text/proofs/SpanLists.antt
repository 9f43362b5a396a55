-- Lists that have all spans of a kind, in their order.
use Rattle.hall_text.specs.{Spans.AreAll, declared.spans.Span.Span}
use Rattle.std.proofs.Common.{List, ◌↔◌}

-- spans that have one description have every equivalent description
pub same_spans : (P Q : Span → Type 0) (spans : List Span) → ((s : Span) → P s ↔ Q s) → AreAll P spans → AreAll Q spans
same_spans P Q spans same all = record {
  ordered = all.ordered;
  exactly = λ s. (
    λ among. (same s).0 ((all.exactly s).0 among),
    λ is. (all.exactly s).1 ((same s).1 is),
  );
}
