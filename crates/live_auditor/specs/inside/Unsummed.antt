-- Why entries have no summary.
use Rattle.std.specs.Prelude.{List}
use Rattle.entry_format.specs.SealedEntry.{SealedEntry}
use Rattle.roster.specs.declared.post.Post.{Post}
use Rattle.rule_engine.specs.declared.rules.Unjudged.{Unjudged}
use Rattle.rule_engine.specs.declared.rules.Unjudged.TheVariants.{TooWide, Memory}
use Rattle.rule_language.specs.Trees.{RuleTree}
use Rattle.live_auditor.specs.Adding.{IsTooWideOver}

-- the place is that of the first rule that is too wide over the survivors of the entries
abbrev pub IsUnsummed : List Post → List RuleTree → List SealedEntry → Unjudged → Type 0
IsUnsummed machines rules entries (TooWide place) = IsTooWideOver machines rules entries place
IsUnsummed machines rules entries Memory = Unit {0}
