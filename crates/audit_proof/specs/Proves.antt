-- What is made of a graph: the text of its canonical proof.
use Rattle.std.specs.Prelude.{ℕ, ◌<◌, ◌≤◌, List, length, Result, Ok, Err}
use Rattle.std.specs.declared.vec.Vec.{Vec}
use Rattle.std.specs.declared.alloc.Global.{Global}
use Rattle.precedence.specs.Graph.{Graph}
use Rattle.audit_proof.specs.declared.proving.ProveFault.{ProveFault}
use Rattle.audit_proof.specs.declared.proving.ProveFault.TheVariants.{TooLong, Memory}
use Rattle.audit_proof.specs.Canonical.{IsCanonicalText}

-- the canonical text, which has at most 64 MiB; or it has more
abbrev pub IsProveAnswer : Graph → Result (Vec ℕ Global) ProveFault → Type 0
IsProveAnswer graph (Ok text) = IsCanonicalText graph text.items × (length text.items ≤ 67108864)
IsProveAnswer graph (Err TooLong) =
    (text : List ℕ) × IsCanonicalText graph text × (67108864 < length text)
IsProveAnswer graph (Err Memory) = Unit {0}
