use Rattle.booth_core.proofs.state.BoothState.may.Goals as goal
use Rattle.booth_core.proofs.Rows.{committed_is, committed_to_is}
use Rattle.booth_core.specs.{State.StandsFor, Table.causes_of, Table.Refuses}
use Rattle.deed_history.proofs.{Deciding.first_by, Deciding.not_is, Members.listed_is}
use Rattle.entry_format.specs.declared.deed.Deed.TheVariants.{Activate, Cancel, Cast, Challenge, Commit}
use Rattle.std.proofs.Common.{subst, sym, ◌≡◌}
use Rattle.std.specs.Prelude.{Any, IsTrue, ◌↔◌}

pub returns-in-Activate : goal.returns-in-Activate
returns-in-Activate c = λ owner entries stands.
    let before = subst (λ notes. StandsFor notes owner entries) (sym c.self.view_is) stands in
    subst (λ deed. Refuses owner entries (IsTrue c.args.whole) deed c.first_of.result) (sym c.in-Activate.is)
    (first_by (causes_of owner entries (IsTrue c.args.whole) (Activate c.in-Activate.session)) (
      not_is (listed_is c.contains.ensures.value c.deref.ensures.value (before.authorised c.in-Activate.session)),
      (
        listed_is c.contains-in-Activate.ensures.value c.deref-in-Activate.ensures.value
            (before.ended c.in-Activate.session),
        (
          listed_is c.contains-in-Activate-2.ensures.value c.deref-in-Activate-2.ensures.value
              (before.activated c.in-Activate.session),
          ((_, c.is_overridden.ensures owner entries stands), ((_, before.closed), tt)),
        ),
      ),
    ) c.first_of.result c.first_of.ensures)

pub returns-in-Commit : goal.returns-in-Commit
returns-in-Commit c = λ owner entries stands.
    let before = subst (λ notes. StandsFor notes owner entries) (sym c.self.view_is) stands in
    let committed = subst (λ all. IsTrue c.has_committed.result ↔ Any (λ one. one.session ≡ c.in-Commit.session) all)
    c.deref-in-Commit-3.ensures.value c.has_committed.ensures in
    subst (λ deed. Refuses owner entries (IsTrue c.args.whole) deed c.first_of-in-Commit.result) (sym c.in-Commit.is)
    (first_by (causes_of owner entries (IsTrue c.args.whole) (Commit c.in-Commit.session c.in-Commit.ballot)) (
      not_is (listed_is c.contains-in-Commit.ensures.value c.deref-in-Commit.ensures.value
          (before.activated c.in-Commit.session)),
      (
        listed_is c.contains-in-Commit-2.ensures.value c.deref-in-Commit-2.ensures.value
            (before.ended c.in-Commit.session),
        (
          committed_is c.in-Commit.session before committed,
          ((_, c.is_overridden-in-Commit.ensures owner entries stands), ((_, before.closed), tt)),
        ),
      ),
    ) c.first_of-in-Commit.result c.first_of-in-Commit.ensures)

pub returns-in-Cast : goal.returns-in-Cast
returns-in-Cast c = λ owner entries stands.
    let before = subst (λ notes. StandsFor notes owner entries) (sym c.self.view_is) stands in
    subst (λ deed. Refuses owner entries (IsTrue c.args.whole) deed c.first_of-in-Cast.result) (sym c.in-Cast.is)
    (first_by (causes_of owner entries (IsTrue c.args.whole) (Cast c.in-Cast.session c.in-Cast.ballot)) (
      not_is (committed_to_is c.in-Cast.session c.in-Cast.ballot
          before c.deref-in-Cast.ensures.value c.has_commitment.ensures),
      (
        listed_is c.contains-in-Cast.ensures.value c.deref-in-Cast-2.ensures.value (before.ended c.in-Cast.session),
        (
          listed_is c.contains-in-Cast-2.ensures.value c.deref-in-Cast-3.ensures.value
              (before.to_cancel c.in-Cast.session),
          ((_, before.closed), (not_is (c.args.whole, (λ yes. yes, λ is. is)), tt)),
        ),
      ),
    ) c.first_of-in-Cast.result c.first_of-in-Cast.ensures)

pub returns-in-Challenge : goal.returns-in-Challenge
returns-in-Challenge c = λ owner entries stands.
    let before = subst (λ notes. StandsFor notes owner entries) (sym c.self.view_is) stands in
    subst (λ deed. Refuses owner entries (IsTrue c.args.whole) deed c.first_of-in-Challenge.result)
    (sym c.in-Challenge.is)
    (first_by (causes_of owner entries (IsTrue c.args.whole) (Challenge c.in-Challenge.session c.in-Challenge.ballot)) (
      not_is (committed_to_is c.in-Challenge.session c.in-Challenge.ballot
          before c.deref-in-Challenge.ensures.value c.has_commitment-in-Challenge.ensures),
      (
        listed_is c.contains-in-Challenge.ensures.value c.deref-in-Challenge-2.ensures.value
            (before.ended c.in-Challenge.session),
        (
          (_, c.is_overridden-in-Challenge.ensures owner entries stands),
          ((_, before.closed), (not_is (c.args.whole, (λ yes. yes, λ is. is)), tt)),
        ),
      ),
    ) c.first_of-in-Challenge.result c.first_of-in-Challenge.ensures)

pub returns-in-Cancel : goal.returns-in-Cancel
returns-in-Cancel c = λ owner entries stands.
    let before = subst (λ notes. StandsFor notes owner entries) (sym c.self.view_is) stands in
    subst (λ deed. Refuses owner entries (IsTrue c.args.whole) deed c.first_of-in-Cancel.result) (sym c.in-Cancel.is)
    (first_by (causes_of owner entries (IsTrue c.args.whole) (Cancel c.in-Cancel.session)) (
      not_is (listed_is c.contains-in-Cancel.ensures.value c.deref-in-Cancel.ensures.value
          (before.authorised c.in-Cancel.session)),
      (
        listed_is c.contains-in-Cancel-2.ensures.value c.deref-in-Cancel-2.ensures.value
            (before.ended c.in-Cancel.session),
        (
          listed_is c.contains-in-Cancel-3.ensures.value c.deref-in-Cancel-3.ensures.value
              (before.to_cast c.in-Cancel.session),
          tt,
        ),
      ),
    ) c.first_of-in-Cancel.result c.first_of-in-Cancel.ensures)
