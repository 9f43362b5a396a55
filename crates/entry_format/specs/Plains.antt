-- Sealed entries by what is known of an entry whose text isn't at hand: what it says, and its
-- digest.
use Rattle.std.specs.Prelude.{ℕ, Bool, List, map}
use Rattle.entry_order.specs.Settled.{IsGraphOf}
use Rattle.entry_format.specs.declared.plain.Plain.{Plain}
use Rattle.entry_format.specs.SealedEntry.{SealedEntry}
use Rattle.entry_format.specs.Nodes.{node_of, node_of_sealed}

-- what a sealed entry says, with its digest
abbrev pub plain_of : SealedEntry → Plain
plain_of sealed = record { entry = sealed.entry; digest = sealed.digest }

-- what each sealed entry says, with its digest
abbrev pub plains : List SealedEntry → List Plain
plains sealed = map plain_of sealed

-- a graph of sealed entries is one of what they say
abbrev pub PlainGraphs : Type 0
PlainGraphs =
    (S : List SealedEntry) (parents : ℕ → List ℕ) (ragged : ℕ → Bool) → IsGraphOf node_of_sealed S parents ragged →
    IsGraphOf node_of (plains S) parents ragged
