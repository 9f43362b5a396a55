use Rattle.entry_graph.proofs.Imports.{rules, ◌≡◌, ◌∙◌, ◌++◌, ◌∷◌, [], true, false, not, cond, ap, sym, subst, map-id}
use Rattle.entry_graph.proofs.Imports.{◌&&◌, is_at, contains, list_any, slice_cmp, nat_cmp, YieldsList-from_vec}
use Rattle.entry_graph.proofs.Imports.{YieldsList-end, not_from_true, not_from_false, is_stray, AreStamps}
use Rattle.entry_graph.proofs.DistinctFacts.{filter_keeps, filter_drops}
use Rattle.entry_graph.proofs.StrayFacts.{stray_more, survivor_more, strays_from}
use Rattle.entry_graph.proofs.strays.sift.Goals as goal

-- one stray more
pub loop-entry-preserved-then-is_stray : goal.loop-entry-preserved-then-is_stray
loop-entry-preserved-then-is_stray g c =
    let node = g.T.Knot.node in
    let given = c.args.given.items in
    let before = c.loop-entry.yielded in
    let e = c.in-Some.entry in
    let stamps : AreStamps node given c.in_ok-stamps.stamps =
    subst (λ es. AreStamps node es c.in_ok-stamps.stamps) c.deref.ensures.value c.in_ok-stamps.ensures in
    let told : is_stray node given e ≡ true =
    sym (c.is_stray.ensures given c.requires stamps) ∙ c.if-is_stray.true in
    record {
      survivors =
          c.loop-entry.invariant.survivors
          ∙ sym (filter_drops (λ f. not (is_stray node given f)) before e (not_from_true (is_stray node given e) told));
      strays = λ d.
          stray_more node given before e d (contains (slice_cmp nat_cmp) c.loop-entry.strays d)
          (contains (slice_cmp nat_cmp) c.insert.new.self d) told (c.loop-entry.invariant.strays d)
          (c.in_ok-insert.ensures.updates.0 d
          ∙ ap (λ k. cond (is_at (slice_cmp nat_cmp k) d) true (contains (slice_cmp nat_cmp) c.loop-entry.strays d))
          c.digest.ensures);
    }

-- one survivor more
pub loop-entry-preserved : goal.loop-entry-preserved
loop-entry-preserved g c =
    let node = g.T.Knot.node in
    let given = c.args.given.items in
    let before = c.loop-entry.yielded in
    let e = c.in-Some.entry in
    let stamps : AreStamps node given c.in_ok-stamps.stamps =
    subst (λ es. AreStamps node es c.in_ok-stamps.stamps) c.deref.ensures.value c.in_ok-stamps.ensures in
    let told : is_stray node given e ≡ false =
    sym (c.is_stray.ensures given c.requires stamps) ∙ c.if-is_stray.false in
    let pushed : c.push.new.self.items ≡ c.loop-entry.survivors.items ++ e ∷ [] = search rules in
    record {
      survivors =
          pushed ∙ ap (λ es. es ++ e ∷ []) c.loop-entry.invariant.survivors
          ∙ sym (filter_keeps (λ f. not (is_stray node given f)) before e
          (not_from_false (is_stray node given e) told));
      strays = λ d.
          survivor_more node given before e d (contains (slice_cmp nat_cmp) c.loop-entry.strays d) told
          (c.loop-entry.invariant.strays d);
    }

pub returns-clause-strays : goal.returns-clause-strays
returns-clause-strays g c =
    let node = g.T.Knot.node in
    let given = c.args.given.items in
    let end =
    YieldsList-end
    (YieldsList-from_vec {s = c.into_iter-entry-iterator.result} given (search rules) (search rules))
    c.loop-entry.yielded c.loop-entry.entry-iterator c.loop-entry.yielded_by c.next.result c.next.new.self
    c.in-None.is c.next.ensures.steps in
    let done : c.loop-entry.yielded ≡ given = sym (map-id c.loop-entry.yielded) ∙ end.0 in
    strays_from node given c.loop-entry.strays c.in_ok-strays.strays.items
    (λ d.
    c.loop-entry.invariant.strays d
    ∙ ap (λ es. list_any (λ e. is_stray node given e && is_at (slice_cmp nat_cmp (node e).digest) d) es) done)
    c.in_ok-strays.ensures.keys c.in_ok-strays.ensures.rises
