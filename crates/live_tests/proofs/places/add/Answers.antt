use Rattle.std.proofs.Common.{List, subst, sym}
use Rattle.roster.specs.declared.post.Post.{Post}
use Rattle.live_auditor.specs.Live.{IsOfMachine}
use Rattle.live_tests.proofs.places.add.Goals as goal

-- what was unsealed is of a machine of the roster
pub add-requires : goal.add-requires
add-requires c =
    let valid = c.in-Ok.ensures (λ e. cc) in
    subst (λ (machines : List Post). IsOfMachine machines c.in-Ok.entry) (sym c.requires)
    (record { maker = valid.maker; key = valid.key })
