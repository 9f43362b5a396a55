use Rattle.entry_graph.proofs.Imports.{rules, ◌≡◌, ◌∙◌, ◌<◌, ℕ, length, get_or, take, true, ap, subst, ◌&&◌, ◌||◌}
use Rattle.entry_graph.proofs.Imports.{◌↔◌, is_at, contains, pair_cmp, IsFork, take_all}
use Rattle.entry_graph.proofs.ForkFacts.{pair_of, fork_step, seen_step, forks_from}
use Rattle.entry_graph.proofs.Places.{if_ok_both}
use Rattle.entry_graph.proofs.forks.forks_of.Goals as goal

-- one pair more
pub loop-entry-preserved : goal.loop-entry-preserved
loop-entry-preserved g c =
    let node = g.T.Knot.node in
    let entries = c.args.entries.now in
    let i = c.loop-entry.entry-index in
    let e = c.entry-item.result in
    let within : i < length entries = c.loop-entry-test.true in
    let is : e ≡ get_or entries i e = search rules in
    let seen : (q : ℕ × ℕ) → contains pair_cmp c.note_pair.new.seen q
    ≡ (is_at (pair_cmp (pair_of node e)) q || contains pair_cmp c.loop-entry.seen q) = λ q. search rules in
    let forked : (q : ℕ × ℕ) → contains pair_cmp c.note_pair.new.forked q
    ≡ ((contains pair_cmp c.loop-entry.seen (pair_of node e) && is_at (pair_cmp (pair_of node e)) q)
    || contains pair_cmp c.loop-entry.forked q) = λ q. search rules in
    record {
      seen = λ q.
          seen_step node entries i e q (contains pair_cmp c.loop-entry.seen q)
          (contains pair_cmp c.note_pair.new.seen q) within is (c.loop-entry.invariant.seen q) (seen q);
      forked = λ m n.
          fork_step node entries i e m n (contains pair_cmp c.loop-entry.forked (m, n))
          (contains pair_cmp c.note_pair.new.forked (m, n)) c.requires within is
          (c.loop-entry.invariant.forked m n)
          (forked (m, n)
          ∙ ap (λ b. (b && is_at (pair_cmp (pair_of node e)) (m, n)) || contains pair_cmp c.loop-entry.forked (m, n))
          (c.loop-entry.invariant.seen (pair_of node e)));
    }

pub returns : goal.returns
returns g c =
    let node = g.T.Knot.node in
    let entries = c.args.entries.now in
    let all : take c.loop-entry.entry-index entries ≡ entries =
    take_all c.loop-entry.entry-index entries c.loop-entry-test.false in
    let are : (m n : ℕ) → (contains pair_cmp c.loop-entry.forked (m, n) ≡ true) ↔ IsFork node entries m n =
    λ m n.
    subst (λ es. (contains pair_cmp c.loop-entry.forked (m, n) ≡ true) ↔ IsFork node es m n) all
    (c.loop-entry.invariant.forked m n) in
    if_ok_both c.list_of.result c.list_of.ensures.keys c.list_of.ensures.rises
    (λ list is rises. forks_from node entries c.loop-entry.forked list.items are is rises)
