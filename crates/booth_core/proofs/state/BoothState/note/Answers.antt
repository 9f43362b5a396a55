use Rattle.entry_format.specs.declared.deed.How.TheVariants as word
use Rattle.booth_core.proofs.state.BoothState.note.Goals as goal
use Rattle.booth_core.proofs.Noted.{noted}
use Rattle.deed_history.proofs.Entries.{decides_false, decides_true}
use Rattle.entry_format.specs.declared.deed.Deed.TheVariants.{Activate, Authorise, Cancel, Cast, Challenge, Closed}
use Rattle.entry_format.specs.declared.deed.Deed.TheVariants.{Commit, Opened, Override}
use Rattle.std.proofs.{Common.ap, Common.false, Common.true, Common.◌∙◌, lemmas.Bool.Decides.Decides-eqb}

pub returns-then-booth-self-clause-kept : goal.returns-then-booth-self-clause-kept
returns-then-booth-self-clause-kept c = λ owner entries stands.
    rw (c.push_reserved.ensures.items)
    (noted c.args.entry.now _ true (Authorise c.in-Authorise.booth c.in-Authorise.session) c.self.view_is stands
    c.in-Authorise.is (Decides-eqb _ _) (decides_true c.if-booth-self.true))

pub returns-else-booth-self-clause-kept : goal.returns-else-booth-self-clause-kept
returns-else-booth-self-clause-kept c = λ owner entries stands.
    noted c.args.entry.now _ false (Authorise c.in-Authorise.booth c.in-Authorise.session) c.self.view_is stands
    c.in-Authorise.is (Decides-eqb _ _) (decides_false c.if-booth-self.false)

pub returns-in-Cancel-how-clause-kept : goal.returns-in-Cancel-how-clause-kept
returns-in-Cancel-how-clause-kept c = λ owner entries stands.
    rw (c.push_reserved-in-Cancel-how.ensures.items)
    (noted c.args.entry.now _ false (Override c.in-Override.session word.Cancel) c.self.view_is stands (c.in-Override.is
    ∙ ap (Override c.in-Override.session) c.in-Cancel-how.is) (Decides-eqb _ _) tt)

pub returns-in-Cast-how-clause-kept : goal.returns-in-Cast-how-clause-kept
returns-in-Cast-how-clause-kept c = λ owner entries stands.
    rw (c.push_reserved-in-Cast-how.ensures.items)
    (noted c.args.entry.now _ false (Override c.in-Override.session word.Cast) c.self.view_is stands (c.in-Override.is ∙
    ap (Override c.in-Override.session) c.in-Cast-how.is) (Decides-eqb _ _) tt)

pub returns-in-Closed-clause-kept : goal.returns-in-Closed-clause-kept
returns-in-Closed-clause-kept c = λ owner entries stands.
    noted c.args.entry.now _ false Closed c.self.view_is stands c.in-Closed.is (Decides-eqb _ _) tt

pub returns-in-Opened-clause-kept : goal.returns-in-Opened-clause-kept
returns-in-Opened-clause-kept c = λ owner entries stands.
    noted c.args.entry.now _ false Opened c.self.view_is stands c.in-Opened.is (Decides-eqb _ _) tt

pub returns-then-own-clause-kept : goal.returns-then-own-clause-kept
returns-then-own-clause-kept c = λ owner entries stands.
    rw (c.push_reserved-then-own.ensures.items)
    (noted c.args.entry.now true false (Activate c.in-Activate.session) c.self.view_is stands c.in-Activate.is
    (decides_true c.if-own.true) tt)

pub returns-else-own-clause-kept : goal.returns-else-own-clause-kept
returns-else-own-clause-kept c = λ owner entries stands.
    noted c.args.entry.now false false (Activate c.in-Activate.session) c.self.view_is stands c.in-Activate.is
    (decides_false c.if-own.false) tt

pub returns-then-own-2-clause-kept : goal.returns-then-own-2-clause-kept
returns-then-own-2-clause-kept c = λ owner entries stands.
    rw (c.push_reserved-then-own-2.ensures.items)
    (noted c.args.entry.now true false (Commit c.in-Commit.session c.in-Commit.ballot) c.self.view_is stands
    c.in-Commit.is (decides_true c.if-own-2.true) tt)

pub returns-else-own-2-clause-kept : goal.returns-else-own-2-clause-kept
returns-else-own-2-clause-kept c = λ owner entries stands.
    noted c.args.entry.now false false (Commit c.in-Commit.session c.in-Commit.ballot) c.self.view_is stands
    c.in-Commit.is (decides_false c.if-own-2.false) tt

pub returns-then-own-3-clause-kept : goal.returns-then-own-3-clause-kept
returns-then-own-3-clause-kept c = λ owner entries stands.
    rw (c.push_reserved-then-own-3.ensures.items)
    (noted c.args.entry.now true false (Cast c.in-Cast.session c.in-Cast.ballot) c.self.view_is stands c.in-Cast.is
    (decides_true c.if-own-3.true) tt)

pub returns-else-own-3-clause-kept : goal.returns-else-own-3-clause-kept
returns-else-own-3-clause-kept c = λ owner entries stands.
    noted c.args.entry.now false false (Cast c.in-Cast.session c.in-Cast.ballot) c.self.view_is stands c.in-Cast.is
    (decides_false c.if-own-3.false) tt

pub returns-then-own-4-clause-kept : goal.returns-then-own-4-clause-kept
returns-then-own-4-clause-kept c = λ owner entries stands.
    rw (c.push_reserved-then-own-4.ensures.items)
    (noted c.args.entry.now true false (Cancel c.in-Cancel.session) c.self.view_is stands c.in-Cancel.is (decides_true
    c.if-own-4.true) tt)

pub returns-else-own-4-clause-kept : goal.returns-else-own-4-clause-kept
returns-else-own-4-clause-kept c = λ owner entries stands.
    noted c.args.entry.now false false (Cancel c.in-Cancel.session) c.self.view_is stands c.in-Cancel.is (decides_false
    c.if-own-4.false) tt

pub returns-then-own-5-clause-kept : goal.returns-then-own-5-clause-kept
returns-then-own-5-clause-kept c = λ owner entries stands.
    rw (c.push_reserved-then-own-5.ensures.items)
    (noted c.args.entry.now true false (Challenge c.in-Challenge.session c.in-Challenge.ballot) c.self.view_is stands
    c.in-Challenge.is (decides_true c.if-own-5.true) tt)

pub returns-else-own-5-clause-kept : goal.returns-else-own-5-clause-kept
returns-else-own-5-clause-kept c = λ owner entries stands.
    noted c.args.entry.now false false (Challenge c.in-Challenge.session c.in-Challenge.ballot) c.self.view_is stands
    c.in-Challenge.is (decides_false c.if-own-5.false) tt
