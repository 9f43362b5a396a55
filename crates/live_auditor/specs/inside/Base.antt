-- What is kept of entries with lower stamps.
use Rattle.std.specs.Prelude.{List, map}
use Rattle.entry_format.specs.SealedEntry.{SealedEntry}
use Rattle.roster.specs.declared.post.Post.{Post}
use Rattle.rule_language.specs.declared.formula.Rule.{Rule}
use Rattle.rule_language.specs.Forms.{rule_tree}
use Rattle.live_auditor.specs.declared.base.Base.{Base}
use Rattle.live_auditor.specs.inside.Kept.{IsSummed}
use Rattle.live_auditor.specs.inside.KeptOf.{kept_of}
use Rattle.live_auditor.specs.inside.Stamps.{lower}

-- the base is that of those of the entries that have stamps below its bound
abbrev pub IsBase : List Post → List Rule → List SealedEntry → Base → Type 0
IsBase machines rules added base =
    IsSummed machines (map rule_tree rules) (lower base.below added) base.summed.summary
    (kept_of base.summed.survivors)
