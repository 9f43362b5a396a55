use Rattle.supervisor_core.proofs.state.SupervisorState.may.Goals as goal
use Rattle.deed_history.proofs.{Deciding.first_by, Deciding.not_is, Members.listed_is}
use Rattle.entry_format.specs.declared.deed.Deed.TheVariants.{Authorise, Closed, Override}
use Rattle.entry_format.specs.declared.deed.How.TheVariants.{Cast}
use Rattle.std.proofs.Common.{length, subst, sym, ◌<◌, ◌≡◌}
use Rattle.std.specs.Prelude.{Any, Contains, IsTrue, ◌↔◌}
use Rattle.supervisor_core.proofs.Rows.{busy_is, lacking_is, left_is}
use Rattle.supervisor_core.specs.{State.StandsFor, Table.causes_of, Table.Refuses}

pub returns-in-Authorise : goal.returns-in-Authorise
returns-in-Authorise c = λ owner entries stands.
    let before = subst (λ notes. StandsFor notes owner entries) (sym c.self.view_is) stands in
    let busy = subst (λ all. IsTrue c.is_busy.result ↔ Any (λ session. session.booth ≡ c.in-Authorise.booth) all)
    c.deref-in-Authorise.ensures.value c.is_busy.ensures in
    subst (λ deed. Refuses owner entries deed c.first_of-in-Authorise.result) (sym c.in-Authorise.is)
    (first_by (causes_of owner entries (Authorise c.in-Authorise.booth c.in-Authorise.session)) (
      not_is (_, before.opened),
      (
        (_, before.closed),
        (
          listed_is c.contains.ensures.value c.deref.ensures.value (before.authorised c.in-Authorise.session),
          (busy_is c.in-Authorise.booth before busy, tt),
        ),
      ),
    ) c.first_of-in-Authorise.result c.first_of-in-Authorise.ensures)

pub returns-in-Override : goal.returns-in-Override
returns-in-Override c = λ owner entries stands.
    let before = subst (λ notes. StandsFor notes owner entries) (sym c.self.view_is) stands in
    let lacks = subst (λ notes. IsTrue c.lacks_commitment.result
    ↔ ((c.in-Override.how ≡ Cast) × (Contains notes.committed c.in-Override.session → ⊥))) (sym c.self.view_is)
    c.lacks_commitment.ensures in
    subst (λ deed. Refuses owner entries deed c.first_of-in-Override.result) (sym c.in-Override.is)
    (first_by (causes_of owner entries (Override c.in-Override.session c.in-Override.how)) (
      not_is (listed_is c.contains-in-Override.ensures.value c.deref-in-Override.ensures.value
          (before.authorised c.in-Override.session)),
      (
        listed_is c.contains-in-Override-2.ensures.value c.deref-in-Override-2.ensures.value
            (before.ended c.in-Override.session),
        ((_, c.has_other_override.ensures owner entries stands), (lacking_is before lacks, tt)),
      ),
    ) c.first_of-in-Override.result c.first_of-in-Override.ensures)

pub returns-in-Closed : goal.returns-in-Closed
returns-in-Closed c = λ owner entries stands.
    let before = subst (λ notes. StandsFor notes owner entries) (sym c.self.view_is) stands in
    let left = subst (λ running. IsTrue c.is_any_left.result ↔ (0 < length running)) c.deref-in-Closed.ensures.value
    c.is_any_left.ensures in
    subst (λ deed. Refuses owner entries deed c.first_of-in-Closed.result) (sym c.in-Closed.is)
    (first_by (causes_of owner entries Closed)
    (not_is (_, before.opened), ((_, before.closed), (left_is before left, tt)))
    c.first_of-in-Closed.result c.first_of-in-Closed.ensures)
