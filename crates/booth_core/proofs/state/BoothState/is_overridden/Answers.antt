use Rattle.std.proofs.Common.{◌≡◌, false, sym, subst}
use Rattle.deed_history.proofs.Members.{is_listed}
use Rattle.booth_core.specs.State.{StandsFor}
use Rattle.booth_core.proofs.Rows.{overridden_first, overridden_second}
use Rattle.booth_core.proofs.state.BoothState.is_overridden.Goals as goal

pub returns-then-contains : goal.returns-then-contains
returns-then-contains c = λ owner entries stands.
    overridden_first _ owner entries c.args.session c.contains.result
    (subst (λ notes. StandsFor notes owner entries) (sym c.self.view_is) stands)
    (is_listed _ _ _ c.args.session c.contains.ensures.value c.deref.ensures.value) c.if-contains.true

pub returns-else-contains : goal.returns-else-contains
returns-else-contains c = λ owner entries stands.
    let untrue : c.contains.result ≡ false = c.if-contains.false in
    overridden_second _ owner entries c.args.session c.contains.result c.contains-else-contains.result
    (subst (λ notes. StandsFor notes owner entries) (sym c.self.view_is) stands)
    (is_listed _ _ _ c.args.session c.contains.ensures.value c.deref.ensures.value)
    (is_listed _ _ _ c.args.session c.contains-else-contains.ensures.value c.deref-else-contains.ensures.value)
    (λ told. cc)
