use Rattle.log_files.proofs.Imports.{[], codes, encode_lower, flat_map_more, get_or, line, List, string_bytes, take}
use Rattle.log_files.proofs.Imports.{take_more, ◌++◌, ℕ}
use Rattle.log_files.proofs.report_lines.add_gaps.Goals as goal

-- one line more
pub loop-digest-preserved : goal.loop-digest-preserved
loop-digest-preserved c =
    let digests = c.args.digests.now in
    let i = c.loop-digest.digest-index in
    rw (
      c.in_ok-write.ensures.bytes,
      c.loop-digest.invariant,
      c.in_ok-digits.ensures,
      take_more digests i [] c.loop-digest-test.true,
    ) (flat_map_more (λ (d : List ℕ). line (codes "gap " ++ encode_lower d)) (string_bytes c.args.lines.now)
    (take i digests) (get_or digests i []))
