use Rattle.roster.proofs.Imports.{◌∙◌, ◌∷◌, [], ◌++◌, List, subst, Post, post_of, IsRosterTree}
use Rattle.roster.proofs.Walk.{IsWalked, walked_on, walked, next_machine, counted}
use Rattle.roster.proofs.reading.count_machines.Goals as goal

-- a member that is no machine
pub returns-in_default-clause-none : goal.returns-in_default-clause-none
returns-in_default-clause-none c = λ machines whole.
    let so_far : List Post = c.loop-member.invariant.0 in
    let at = subst (λ left. IsWalked c.args.text.now so_far left) c.in-Some.ensures.steps c.loop-member.invariant.1 in
    let (post, keyed, is) = next_machine c.args.text.now c.in-Some.member so_far machines _ at whole in
    c.in_default.ensures.none post keyed is

-- one machine more
pub loop-member-preserved : goal.loop-member-preserved
loop-member-preserved c =
    let so_far : List Post = c.loop-member.invariant.0 in
    let at = subst (λ left. IsWalked c.args.text.now so_far left) c.in-Some.ensures.steps c.loop-member.invariant.1 in
    let found = c.in-Some-raw_of.ensures.found in (
      so_far ++ post_of c.in-Some-raw_of.field-0 ∷ [],
      walked_on c.args.text.now c.in-Some.member so_far _ (post_of c.in-Some-raw_of.field-0) at found.0 found.1,
    )

-- as many as there are members
pub returns-clause-found : goal.returns-clause-found
returns-clause-found c =
    let machines : List Post = c.loop-member.invariant.0 in
    let all = subst (λ left. IsWalked c.args.text.now machines left) c.in-None.ensures.steps.0
    c.loop-member.invariant.1 in
    let whole : IsRosterTree c.args.text.now machines = walked c.args.text.now machines all in
    (machines, whole, c.len-count.ensures ∙ counted c.args.text.now _ machines c.in_ok-members.ensures.found whole)
