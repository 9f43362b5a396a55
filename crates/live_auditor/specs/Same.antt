-- Entries have one summary, in whatever order they came.
use Rattle.std.specs.Prelude.{◌≡◌, ◌↔◌}
use Rattle.std.specs.List.{AllZip, Contains}
use Rattle.entry_format.specs.SealedEntry.{SealedEntry}
use Rattle.rule_engine.specs.declared.verdict.Verdict.{Verdict}
use Rattle.rule_engine.specs.declared.verdict.Verdict.TheVariants.{Kept, Broken, Unsettled}
use Rattle.live_auditor.specs.Live.{LiveState, IsLive}
use Rattle.live_auditor.specs.Summary.{Summary}

-- the verdicts are the same, and name the same places
abbrev pub AreOneVerdict : Verdict → Verdict → Type 0
AreOneVerdict Kept Kept = Unit {0}
AreOneVerdict (Broken places) (Broken others) = places.items ≡ others.items
AreOneVerdict Unsettled Unsettled = Unit {0}
AreOneVerdict verdict other = ⊥

-- the summaries say the same
pub record SameSummary (summary other : Summary) : Type 0 where
  pub survivors : summary.survivors ≡ other.survivors
  pub gaps : summary.gaps ≡ other.gaps
  pub strays : summary.strays ≡ other.strays
  pub forks : summary.forks ≡ other.forks
  pub verdicts : AllZip AreOneVerdict summary.verdicts other.verdicts

-- two audits with one roster and the same rules, to which the same entries were added, say the same
abbrev pub OrdersGiveOneSummary : Type 0
OrdersGiveOneSummary =
    (live other : LiveState) → IsLive live → IsLive other → live.machines ≡ other.machines →
    live.rules ≡ other.rules →
    ((e : SealedEntry) → Contains live.added e ↔ Contains other.added e) →
    SameSummary live.summary other.summary
