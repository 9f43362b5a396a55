use Rattle.log_commands.proofs.Imports.{GivesProof, Line, List, max_proof, nodes_of, not_read, refl, stands, was_read}
use Rattle.log_commands.proofs.CheckAnswers.{long_proof}
use Rattle.log_commands.proofs.proof_file.read_proof_file.Goals as goal

pub returns-in-Ok : goal.returns-in-Ok
returns-in-Ok g c =
    let given = c.in-Ok.ensures in
    was_read g.S.Store (λ (lines : List Line). lines) (GivesProof c.args.name.now (nodes_of c.args.graph.now)) _
    max_proof _ _ c.in-Ok.bytes.items _ given.ok.1 (rw (← c.as_slice.ensures.value) c.proof_of.ensures.ok)
    (rw (← c.as_slice.ensures.value) c.proof_of.ensures.err) c.proof_of.ensures.only
    (λ more. let no = given.absent.always more in cc) (stands _ _ given.read_fault (λ e. cc))
    (record { absences = given.absences; files = given.unchanged.0; write_faults = given.unchanged.1 })

pub returns-in-Err : goal.returns-in-Err
returns-in-Err g c =
    let given = c.in-Err.ensures in
    not_read g.S.Store (λ (lines : List Line). lines) (GivesProof c.args.name.now (nodes_of c.args.graph.now)) _
    max_proof _ _ c.in-Err.fault _ refl (long_proof _ _) c.file_fault.ensures given.err given.absent given.read_fault
    (record { absences = given.absences; files = given.unchanged.0; write_faults = given.unchanged.1 })
