use Rattle.auditor.proofs.lines.add_strays.Goals as goal
use Rattle.auditor.proofs.Imports.{[], ap, codes, encode_lower, get_or, line, List, refl, string_bytes, ℕ, ◌++◌, ◌∙◌}
use Rattle.auditor.proofs.{Imports.◌∷◌, Pieces.piece_more}

pub loop-digest-preserved : goal.loop-digest-preserved
loop-digest-preserved c =
    let digests = c.args.digests.now in
    let i = c.loop-digest.digest-index in
    let now = string_bytes c.loop-digest.lines in
    piece_more (λ (digest : List ℕ). line (codes "stray " ++ encode_lower digest)) digests i (get_or digests i []) []
    (string_bytes c.args.lines.now) now (string_bytes c.write.new.self) c.loop-digest-test.true refl
    c.loop-digest.invariant
    (c.in_ok-write.ensures.bytes
    ∙ ap (λ (digits : List ℕ). now ++ (codes "stray " ++ (digits ++ 10 ∷ []))) c.in_ok-digits.ensures)
