use Rattle.roster.proofs.Imports.{◌≡◌, map, take, post_of}
use Rattle.roster.proofs.reading.posts_of.Given as goal

-- the machines so far
abbrev pub invariant-loop-raw : goal.invariant-loop-raw
invariant-loop-raw l = l.posts.items ≡ map post_of (take l.raw-index l.raws)
