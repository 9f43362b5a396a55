use Rattle.supervisor_core.proofs.state.SupervisorState.has_other_override.Goals as goal
use Rattle.deed_history.proofs.Members.{is_listed}
use Rattle.item_list.proofs.Rows.{iff_trans}
use Rattle.std.proofs.Common.{subst, sym}
use Rattle.std.specs.Prelude.{Contains, ◌↔◌}
use Rattle.supervisor_core.specs.{Causes.HasOverridden, Causes.other, State.StandsFor}

pub returns-in-Cancel : goal.returns-in-Cancel
returns-in-Cancel c = λ owner entries stands.
    let before = subst (λ notes. StandsFor notes owner entries) (sym c.self.view_is) stands in
    iff_trans (is_listed _ _ _ c.args.session c.contains.ensures.value c.deref.ensures.value)
    (subst (λ how. Contains c.self.inside.to_cast.items c.args.session
    ↔ HasOverridden owner entries c.args.session (other how)) (sym c.in-Cancel.is) (before.to_cast c.args.session))

pub returns-in-Cast : goal.returns-in-Cast
returns-in-Cast c = λ owner entries stands.
    let before = subst (λ notes. StandsFor notes owner entries) (sym c.self.view_is) stands in
    iff_trans (is_listed _ _ _ c.args.session c.contains-in-Cast.ensures.value c.deref-in-Cast.ensures.value)
    (subst (λ how. Contains c.self.inside.to_cancel.items c.args.session
    ↔ HasOverridden owner entries c.args.session (other how)) (sym c.in-Cast.is) (before.to_cancel c.args.session))
