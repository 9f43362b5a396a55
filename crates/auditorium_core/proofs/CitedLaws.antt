-- The laws of the crates below that the laws of all commands rest on.
use Rattle.auditorium_core.proofs.Imports.{FilesGiveOneReport, OrderOne, PlayOne, ProofOne, SayOne}
use Rattle.auditorium_core.proofs.OneDemonstrationAnswer.{ShowOne}

-- each by what it speaks of
pub record CitedLaws : Type 0 where
  -- logs without their signatures
  pub logs : SayOne
  -- scripts and what they come to
  pub plays : PlayOne
  -- rosters, logs and graphs
  pub orders : OrderOne
  -- proofs of an audit, and rules
  pub proofs : ProofOne
  -- reports
  pub reports : FilesGiveOneReport
  -- demonstrations
  pub shows : ShowOne
