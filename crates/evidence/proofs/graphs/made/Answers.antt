use Rattle.evidence.proofs.Imports.{Collision, Err, GivesGraph, GraphFault, IfSome, InputFault, IsGraphFault}
use Rattle.evidence.proofs.Imports.{IsSealedGraph, List, refl, refusal_of, SealedEntry, TooMany}
use Rattle.entry_graph.specs.declared.fault.GraphFault.TheVariants.{Memory}
use Rattle.evidence.proofs.Readings.{of_refusal}
use Rattle.evidence.proofs.graphs.made.Goals as goal

-- the fault of entries that have no graph is answered by its refusal
gives : (given : List SealedEntry) (fault : GraphFault SealedEntry) (told : InputFault) →
    IsSealedGraph given (Err fault) → IsGraphFault fault told →
    IfSome (refusal_of told) (λ refusal. GivesGraph given (Err refusal))
gives given (Collision e f) told is of =
    of_refusal (λ refusal. GivesGraph given (Err refusal)) _ told of (Collision e f, is, refl)
gives given TooMany told is of =
    of_refusal (λ refusal. GivesGraph given (Err refusal)) _ told of (TooMany, is, refl)
gives given Memory told is memory = rw memory tt

pub returns-in-Err-clause-err : goal.returns-in-Err-clause-err
returns-in-Err-clause-err c =
    gives c.args.entries.items c.in-Err.fault c.graph_fault.result c.in-Err.ensures c.graph_fault.ensures
