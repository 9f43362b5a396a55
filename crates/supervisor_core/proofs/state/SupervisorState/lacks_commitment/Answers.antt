use Rattle.std.proofs.Common.{subst}
use Rattle.std.specs.Prelude.{IsTrue, Contains, ◌↔◌}
use Rattle.item_list.proofs.Rows.{is_not}
use Rattle.deed_history.proofs.Members.{is_listed}
use Rattle.supervisor_core.proofs.state.SupervisorState.lacks_commitment.Goals as goal

pub returns-in-Cast : goal.returns-in-Cast
returns-in-Cast c =
    let listed = subst (λ notes. IsTrue c.contains.result ↔ Contains notes.committed c.args.session) c.self.view_is
    (is_listed _ _ _ c.args.session c.contains.ensures.value c.deref.ensures.value) in
    let lacking = is_not c.contains.result listed in
    (λ told. (c.in-Cast.is, lacking.0 told), λ both. lacking.1 both.1)
