-- Worlds of the machines of a script, under the roster that was read.
use Rattle.std.specs.Prelude.{◌≡◌, ℕ, List}
use Rattle.sha2.specs.Sha256.{sha256}
use Rattle.canonical_sexp.specs.Text.{text_of}
use Rattle.roster.specs.declared.post.Post.{Post}
use Rattle.roster.specs.RosterText.{roster_tree}
use Rattle.election_script.specs.declared.script.Script.{Script}
use Rattle.election_script.specs.Lawful.{IsLawful}
use Rattle.entry_format.specs.SealedEntry.{SealedEntry}
use Rattle.entry_order.specs.declared.step.Step.{Step}
use Rattle.entry_order.specs.World.{World}
use Rattle.polling_world.specs.Keys.{roster_of}
use Rattle.polling_world.specs.Playing.{ComesTo}

-- The machines of some script come to w by some steps. Those of the roster that was read are the
-- script's, and the election is SHA-256 of the roster's text.
pub record IsOfScript (machines : List Post) (election : List ℕ) (w : World SealedEntry) : Type 0 where
  pub script : Script
  pub steps : List Step
  pub lawful : IsLawful script
  pub comes : ComesTo script steps w
  pub roster : machines ≡ roster_of script
  pub in_election : election ≡ sha256 (text_of (roster_tree machines))
