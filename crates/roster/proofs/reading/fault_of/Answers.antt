use Rattle.roster.proofs.Imports.{refl, arith, ◌∙◌, sym, true≢false, length-map, post_of}
use Rattle.roster.proofs.Raws.{named_posts, named_raws, distinct_posts, distinct_raws, supervisors}
use Rattle.roster.proofs.reading.fault_of.Goals as goal

-- a name doesn't have the form of one
pub returns-then-not-are_named : goal.returns-then-not-are_named
returns-then-not-are_named c =
    let raws = c.args.raws.now in (
      omega (arith, length-map raws post_of),
      λ all. true≢false (sym (c.if-not-are_named.ensures.1 (named_raws raws all))),
    )

-- two names are one
pub returns-then-not-are_distinct : goal.returns-then-not-are_distinct
returns-then-not-are_distinct c =
    let raws = c.args.raws.now in (
      omega (arith, length-map raws post_of),
      named_posts raws (c.if-not-are_named.ensures.0 refl),
      λ all. true≢false (sym (c.if-not-are_distinct.ensures.1 (distinct_raws raws all))),
    )

-- there isn't exactly one supervisor
pub returns-then-count_supervisors-ne1 : goal.returns-then-count_supervisors-ne1
returns-then-count_supervisors-ne1 c =
    let raws = c.args.raws.now in (
      omega (arith, length-map raws post_of),
      named_posts raws (c.if-not-are_named.ensures.0 refl),
      distinct_posts raws (c.if-not-are_distinct.ensures.0 refl),
      λ one. c.if-count_supervisors-ne1.true (c.count_supervisors.ensures ∙ sym (supervisors raws) ∙ one),
    )

-- the machines make a roster
pub returns-else-count_supervisors-ne1 : goal.returns-else-count_supervisors-ne1
returns-else-count_supervisors-ne1 c =
    let raws = c.args.raws.now in
    record {
      few = omega (arith, length-map raws post_of);
      named = named_posts raws (c.if-not-are_named.ensures.0 refl);
      distinct = distinct_posts raws (c.if-not-are_distinct.ensures.0 refl);
      supervisor = supervisors raws ∙ sym c.count_supervisors.ensures ∙ c.if-count_supervisors-ne1.false;
    }
