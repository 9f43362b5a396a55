use Rattle.roster.proofs.reading.raws_of.Goals as goal
use Rattle.roster.proofs.Imports.{[], ap, List, map, map-append, members_of, Post, post_of, Sexp, subst, sym, ◌∙◌, ◌∷◌}
use Rattle.roster.proofs.Walk.{IsWalked, next_machine, some_unless, walked_on}

-- the next member is a machine
pub unwrap-requires : goal.unwrap-requires
unwrap-requires c =
    let so_far : List Post = map post_of c.loop-member.raws.items in
    let at = subst (λ left. IsWalked c.args.text.now so_far left) c.in-Some.ensures.steps c.loop-member.invariant in
    let (post, keyed, is) = next_machine c.args.text.now c.in-Some.member so_far c.requires.0 _ at c.requires.1 in
    some_unless c.raw_of.result _ c.raw_of.ensures.none (λ none. none post keyed is)

-- one machine more
pub loop-member-preserved : goal.loop-member-preserved
loop-member-preserved c =
    let so_far : List Post = map post_of c.loop-member.raws.items in
    let at = subst (λ left. IsWalked c.args.text.now so_far left) c.in-Some.ensures.steps c.loop-member.invariant in
    let left : List Sexp = members_of c.next.new.self in
    let found = rw c.unwrap.ensures at c.raw_of.ensures.found in
    let on = walked_on c.args.text.now c.in-Some.member so_far left (post_of c.unwrap.result) at found.0 found.1 in
    subst (λ posts. IsWalked c.args.text.now posts left)
    (sym (map-append post_of c.loop-member.raws.items (c.unwrap.result ∷ []))
    ∙ ap (map post_of) (sym c.in_ok-push.ensures.items)) on
