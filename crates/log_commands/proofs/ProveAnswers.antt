-- What `prove` makes.
use Rattle.log_commands.proofs.Imports.{Err, GivesGraph, IfSome, InputFault, IsAbsent, List, refusal_of, SealedEntry}
use Rattle.evidence.specs.declared.fault.InputFault.TheVariants.{Absent}
use Rattle.entry_graph.specs.declared.fault.GraphFault.TheVariants as graph

-- entries that have no graph aren't an absent file
pub graph_not_absent : (given : List SealedEntry) (fault : InputFault) →
    IfSome (refusal_of fault) (λ refusal. GivesGraph given (Err refusal)) → ¬ IsAbsent fault
graph_not_absent given (Absent file) (graph.Collision e f, is, told) absence = cc
graph_not_absent given (Absent file) (fault, is, told) absence = cc
graph_not_absent given fault gives absence = absurd absence
