-- What is answered of a rule.
use Rattle.std.specs.Prelude.{◌≡◌, ℕ, Bool, true, false, ◌&&◌, List, [], ◌∷◌, length, find}
use Rattle.std.specs.Prelude.{Option, Some, None, slice_get, Result, Ok, Err}
use Rattle.std.specs.List.{range_with_len}
use Rattle.entry_order.specs.declared.three.Three.{Three}
use Rattle.entry_order.specs.declared.three.Three.TheVariants as known
use Rattle.entry_order.specs.Ancestors.{before, is_whole}
use Rattle.precedence.specs.Graph.{Graph}
use Rattle.rule_language.specs.declared.row.Row.{Row}
use Rattle.rule_language.specs.declared.kind.Kind.{Kind}
use Rattle.rule_language.specs.declared.form.Form.{Form}
use Rattle.rule_language.specs.declared.form.Form.TheVariants.{ForEvery}
use Rattle.rule_language.specs.Trees.{Trees, no_trees, tree_then}
use Rattle.rule_meaning.specs.Kleene.{is_false}
use Rattle.rule_meaning.specs.Tests.{has_kind}
use Rattle.rule_meaning.specs.Meaning.{bind, unbound}
use Rattle.rule_meaning.specs.Values.{values, first_value, three}
use Rattle.rule_meaning.specs.Widths.{is_too_wide}
use Rattle.rule_engine.specs.declared.verdict.Verdict.{Verdict}
use Rattle.rule_engine.specs.declared.verdict.Verdict.TheVariants.{Kept, Broken, Unsettled}
use Rattle.rule_engine.specs.declared.verdict.JudgeFault.{JudgeFault}
use Rattle.rule_engine.specs.declared.verdict.JudgeFault.TheVariants.{TooWide, Memory}

module _ (rows : List Row) (order : ℕ → ℕ → Three) (wholes : ℕ → Bool) where
  -- the first row of the kind at which the value is false, of n rows from i on
  abbrev pub first_false : Kind → (ℕ → Three) → ℕ → ℕ → Option ℕ
  first_false kind value i n = find (λ j. has_kind kind (slice_get rows j) && is_false (value j)) (range_with_len i n)

  -- that row, and what follows it
  abbrev pub and_then : Option ℕ → (ℕ → List ℕ) → List ℕ
  and_then None deeper = []
  and_then (Some i) deeper = i ∷ deeper i

  -- what a quantifier over every survivor adds, and no other form
  abbrev pub broken_by : Form → (ℕ → Option ℕ) → ((ℕ → Option ℕ) → Three) → ((ℕ → Option ℕ) → List ℕ) → List ℕ
  broken_by (ForEvery v kind) env value deeper =
      and_then (first_false kind (λ i. value (bind v i env)) 0 (length rows)) (λ i. deeper (bind v i env))
  broken_by form env value deeper = []

  -- the first values of the leading `every` over survivors under which the rest is false
  abbrev pub broken : Trees → (ℕ → Option ℕ) → List ℕ
  broken no_trees env = []
  broken (tree_then form parts rest) env =
      broken_by form env (λ e. first_value (values rows order wholes parts e)) (broken parts)

  -- the verdict that the rule's value is
  abbrev pub IsVerdict : Trees → Verdict → Type 0
  IsVerdict rule Kept = three rows order wholes rule ≡ known.True
  IsVerdict rule (Broken places) = (three rows order wholes rule ≡ known.False) × (places.items ≡ broken rule unbound)
  IsVerdict rule Unsettled = three rows order wholes rule ≡ known.Unknown

-- a rule that isn't too wide has its verdict, and one that is too wide is refused as such
abbrev pub IsJudgeAnswer : List Row → (ℕ → ℕ → Three) → (ℕ → Bool) → Trees → Result Verdict JudgeFault → Type 0
IsJudgeAnswer rows order wholes rule (Ok verdict) =
    (is_too_wide rows rule 1 ≡ false) × IsVerdict rows order wholes rule verdict
IsJudgeAnswer rows order wholes rule (Err TooWide) = is_too_wide rows rule 1 ≡ true
IsJudgeAnswer rows order wholes rule (Err Memory) = Unit {0}

-- the answer on a rule by the survivors' rows and graph
abbrev pub IsJudged : List Row → Graph → Trees → Result Verdict JudgeFault → Type 0
IsJudged rows graph =
    IsJudgeAnswer rows (before graph.parents graph.ragged) (λ x. is_whole graph.parents graph.ragged x x)
