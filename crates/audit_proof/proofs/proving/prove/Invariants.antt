use Rattle.audit_proof.proofs.Imports.{length, made_lines, proof_text, ◌≡◌, ◌≤◌}
use Rattle.audit_proof.proofs.proving.prove.Given as goal

-- the lines so far are written, and aren't too long
abbrev pub invariant-loop-entry : goal.invariant-loop-entry
invariant-loop-entry g l =
    let graph = g.A.Arrows.graph l.graph in
    (l.text.items ≡ proof_text graph.count (made_lines graph l.entry)) × (length l.text.items ≤ 67108864)
