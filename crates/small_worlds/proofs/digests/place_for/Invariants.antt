use Rattle.std.proofs.Common.{◌≡◌, ◌++◌, take, drop}
use Rattle.entry_order.specs.Ascending.{insert_digest}
use Rattle.small_worlds.proofs.digests.place_for.Given as goal

-- the digest goes after those that were passed
abbrev pub invariant-loop-at : goal.invariant-loop-at
invariant-loop-at l =
    take l.at l.digests ++ insert_digest l.digest (drop l.at l.digests) ≡ insert_digest l.digest l.digests
