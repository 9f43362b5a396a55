use Rattle.election_script.proofs.Imports.{concat, length, replicate, take, u32str, ◌*◌, ◌≡◌}
use Rattle.election_script.proofs.making.ballot_of.Given as goal

-- the copies so far
abbrev pub invariant-loop-copy : goal.invariant-loop-copy
invariant-loop-copy l = record {
  long : length l.ballot ≡ 32;
  copies : take (4 * l.copy) l.ballot ≡ concat (replicate l.copy (u32str l.session));
}
