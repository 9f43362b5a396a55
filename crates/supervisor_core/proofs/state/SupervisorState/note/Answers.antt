use Rattle.entry_format.specs.declared.deed.How.TheVariants as word
use Rattle.supervisor_core.proofs.state.SupervisorState.note.Goals as goal
use Rattle.deed_history.proofs.{Entries.decides_false, Entries.decides_true, Members.is_listed}
use Rattle.entry_format.specs.declared.deed.Deed.TheVariants.{Activate, Authorise, Cancel, Cast, Challenge, Closed}
use Rattle.entry_format.specs.declared.deed.Deed.TheVariants.{Commit, Opened, Override}
use Rattle.std.proofs.{Common.ap, Common.false, Common.subst, Common.true, Common.◌∙◌, lemmas.Bool.Decides.Decides-eqb}
use Rattle.std.specs.{Bool.Decides, Prelude.Contains}
use Rattle.supervisor_core.proofs.Noted.{noted, other_override}

pub returns-in-Opened-clause-kept : goal.returns-in-Opened-clause-kept
returns-in-Opened-clause-kept c = λ owner entries stands.
    noted c.args.entry.now _ false Opened c.self.view_is stands c.in-Opened.is (Decides-eqb _ _) (λ _. tt)

pub returns-in-Closed-clause-kept : goal.returns-in-Closed-clause-kept
returns-in-Closed-clause-kept c = λ owner entries stands.
    noted c.args.entry.now _ false Closed c.self.view_is stands c.in-Closed.is (Decides-eqb _ _) (λ _. tt)

pub returns-then-not-contains-clause-kept : goal.returns-then-not-contains-clause-kept
returns-then-not-contains-clause-kept c = λ owner entries stands.
    let over = subst (λ over. Decides over (Contains c.self.inside.ended.items c.in-Authorise.session))
    c.if-not-contains.true
    (is_listed _ _ _ c.in-Authorise.session c.contains.ensures.value c.deref.ensures.value) in
    rw (c.push_reserved.ensures.items, c.push_reserved-then-not-contains.ensures.items)
    (noted c.args.entry.now true false (Authorise c.in-Authorise.booth c.in-Authorise.session)
    c.self.view_is stands c.in-Authorise.is (decides_true c.if-own.true) (λ _. over))

pub returns-else-not-contains-clause-kept : goal.returns-else-not-contains-clause-kept
returns-else-not-contains-clause-kept c = λ owner entries stands.
    let over = subst (λ over. Decides over (Contains c.self.inside.ended.items c.in-Authorise.session))
    c.if-not-contains.false
    (is_listed _ _ _ c.in-Authorise.session c.contains.ensures.value c.deref.ensures.value) in
    rw (c.push_reserved.ensures.items)
    (noted c.args.entry.now true true (Authorise c.in-Authorise.booth c.in-Authorise.session)
    c.self.view_is stands c.in-Authorise.is (decides_true c.if-own.true) (λ _. over))

pub returns-else-own-clause-kept : goal.returns-else-own-clause-kept
returns-else-own-clause-kept c = λ owner entries stands.
    noted c.args.entry.now false false (Authorise c.in-Authorise.booth c.in-Authorise.session) c.self.view_is stands
    c.in-Authorise.is (decides_false c.if-own.false) (λ own. absurd (c.if-own.false own))

pub returns-in-Cast-clause-kept : goal.returns-in-Cast-clause-kept
returns-in-Cast-clause-kept c = λ owner entries stands.
    rw (c.end_session.ensures.running, c.end_session.ensures.ended)
    (noted c.args.entry.now _ false (Cast c.in-Cast.session c.in-Cast.ballot) c.self.view_is stands
    c.in-Cast.is (Decides-eqb _ _) (λ _. tt))

pub returns-in-Cancel-clause-kept : goal.returns-in-Cancel-clause-kept
returns-in-Cancel-clause-kept c = λ owner entries stands.
    rw (c.end_session-in-Cancel.ensures.running, c.end_session-in-Cancel.ensures.ended)
    (noted c.args.entry.now _ false (Cancel c.in-Cancel.session) c.self.view_is stands
    c.in-Cancel.is (Decides-eqb _ _) (λ _. tt))

pub returns-in-Challenge-clause-kept : goal.returns-in-Challenge-clause-kept
returns-in-Challenge-clause-kept c = λ owner entries stands.
    rw (c.end_session-in-Challenge.ensures.running, c.end_session-in-Challenge.ensures.ended)
    (noted c.args.entry.now _ false (Challenge c.in-Challenge.session c.in-Challenge.ballot)
    c.self.view_is stands c.in-Challenge.is (Decides-eqb _ _) (λ _. tt))

pub returns-in-Cancel-how-clause-kept : goal.returns-in-Cancel-how-clause-kept
returns-in-Cancel-how-clause-kept c = λ owner entries stands.
    rw (c.push_reserved-in-Cancel-how.ensures.items)
    (noted c.args.entry.now true false (Override c.in-Override.session word.Cancel) c.self.view_is
    stands (c.in-Override.is ∙ ap (Override c.in-Override.session) c.in-Cancel-how.is) (decides_true c.if-own-2.true)
    (λ _. tt))

pub returns-in-Cast-how-clause-kept : goal.returns-in-Cast-how-clause-kept
returns-in-Cast-how-clause-kept c = λ owner entries stands.
    rw (c.push_reserved-in-Cast-how.ensures.items)
    (noted c.args.entry.now true false (Override c.in-Override.session word.Cast) c.self.view_is
    stands (c.in-Override.is ∙ ap (Override c.in-Override.session) c.in-Cast-how.is) (decides_true c.if-own-2.true)
    (λ _. tt))

pub returns-else-own-2-clause-kept : goal.returns-else-own-2-clause-kept
returns-else-own-2-clause-kept c = λ owner entries stands.
    other_override c.args.entry.now c.in-Override.session c.in-Override.how c.self.view_is stands c.in-Override.is
    c.if-own-2.false

pub returns-in-Commit-clause-kept : goal.returns-in-Commit-clause-kept
returns-in-Commit-clause-kept c = λ owner entries stands.
    rw (c.push_reserved-in-Commit.ensures.items)
    (noted c.args.entry.now _ false (Commit c.in-Commit.session c.in-Commit.ballot) c.self.view_is
    stands c.in-Commit.is (Decides-eqb _ _) (λ _. tt))

pub returns-in-Activate-clause-kept : goal.returns-in-Activate-clause-kept
returns-in-Activate-clause-kept c = λ owner entries stands.
    noted c.args.entry.now _ false (Activate c.in-Activate.session) c.self.view_is stands
    c.in-Activate.is (Decides-eqb _ _) (λ _. tt)
