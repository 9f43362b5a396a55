use Rattle.entry_graph.proofs.distinct.distinct_of.Goals as goal
use Rattle.entry_graph.proofs.DistinctFacts.{distinct_again, distinct_bears, distinct_given, distinct_new}
use Rattle.entry_graph.proofs.DistinctFacts.{no_collision_again, no_collision_new}
use Rattle.entry_graph.proofs.Imports.{[], ap, append_assoc, ArePlaces, bytes_eq, bytes_eq-Decides, Contains}
use Rattle.entry_graph.proofs.Imports.{Contains-none, get_or_from_slice_get, HasNoDigestTwice, IsBorneIn, length}
use Rattle.entry_graph.proofs.Imports.{member_at, None, not-false, not_from_true, number_at, rules, slice_get_within}
use Rattle.entry_graph.proofs.Imports.{Some, subst, sym, true≢false, ◌++◌, ◌∙◌, ◌∷◌, ◌≡◌}
use Rattle.entry_graph.proofs.{LinkFacts.lacks_borne, Places.single_none, Places.single_push}
use Rattle.entry_graph.proofs.TableFacts.{IsSet, no_places, places_more}
use Rattle.std.proofs.Common.{◌≢◌}

pub loop-entry-init : goal.loop-entry-init
loop-entry-init g c =
    let none : [] ≡ c.new-distinct.result.items = sym c.new-distinct.ensures.items in
    record {
      no_collision = λ e f ce cf same. absurd (Contains-none e ce);
      found = sym none;
      single = subst (λ es. HasNoDigestTwice g.T.Knot.node es) none (single_none g.T.Knot.node);
      left = search rules;
      places =
          subst (λ es. ArePlaces g.T.Knot.node es c.new-places.result) none
          (no_places g.T.Knot.node c.new-places.result c.new-places.ensures);
    }

-- the digest is new
pub loop-entry-preserved-in-Continue-branch-2 : goal.loop-entry-preserved-in-Continue-branch-2
loop-entry-preserved-in-Continue-branch-2 g c =
    let node = g.T.Knot.node in
    let before = c.loop-entry.yielded in
    let e = c.in-Some.entry in
    let kept = c.loop-entry.distinct.items in
    let missing : number_at c.loop-entry.places (node e).digest ≡ None = search rules in
    let not_borne : IsBorneIn node kept (node e).digest → ⊥ =
    lacks_borne node kept c.loop-entry.places (node e).digest c.loop-entry.invariant.places missing in
    let new : (f : g.row.T.Denot) → Contains before f → (node f).digest ≢ (node e).digest =
    λ f cf same.
    let (h, there, bears) = distinct_bears node before f cf in
    not_borne (h, subst (λ es. Contains es h) (sym c.loop-entry.invariant.found) there, bears ∙ same) in
    let pushed : c.push.new.self.items ≡ kept ++ e ∷ [] = search rules in
    let set : IsSet c.loop-entry.places c.set.new.self (node e).digest (length kept) = λ d. search rules in
    record {
      no_collision = no_collision_new node g.T.SignedText.text before e c.loop-entry.invariant.no_collision new;
      found =
          pushed ∙ ap (λ es. es ++ e ∷ []) c.loop-entry.invariant.found ∙ sym (distinct_new node before e new);
      single =
          subst (λ es. HasNoDigestTwice node es) (sym pushed)
          (single_push node kept e c.loop-entry.invariant.single not_borne);
      left =
          append_assoc before (e ∷ []) _ ∙ ap (λ es. before ++ es) (sym c.in-Some.ensures.steps.0)
          ∙ c.loop-entry.invariant.left;
      places =
          subst (λ es. ArePlaces node es c.set.new.self) (sym pushed)
          (places_more node kept e c.loop-entry.places c.set.new.self c.loop-entry.invariant.places set);
    }

-- the place is that of an entry
pub index-requires : goal.index-requires
index-requires g c =
    let node = g.T.Knot.node in
    let d = (node c.in-Some.entry).digest in
    let at : number_at c.loop-entry.places d ≡ Some c.in-Some-get.place = search rules in
    let (h, at_h, _) = c.loop-entry.invariant.places.found d c.in-Some-get.place at in
    let within = slice_get_within c.loop-entry.distinct.items c.in-Some-get.place h at_h in
    search (rules, within)

pub swap_remove-requires : goal.swap_remove-requires
swap_remove-requires g c =
    let node = g.T.Knot.node in
    let d = (node c.in-Some.entry).digest in
    let at : number_at c.loop-entry.places d ≡ Some c.in-Some-get.place = search rules in
    let (h, at_h, _) = c.loop-entry.invariant.places.found d c.in-Some-get.place at in
    let within = slice_get_within c.loop-entry.distinct.items c.in-Some-get.place h at_h in
    search (rules, within)

-- the entry at the place has another text
pub returns-then-ne-clause-fault : goal.returns-then-ne-clause-fault
returns-then-ne-clause-fault g c =
    let node = g.T.Knot.node in
    let text = g.T.SignedText.text in
    let e = c.in-Some.entry in
    let kept = c.loop-entry.distinct.items in
    let place = c.in-Some-get.place in
    let at : number_at c.loop-entry.places (node e).digest ≡ Some place = search rules in
    let (h, at_h, bears) = c.loop-entry.invariant.places.found (node e).digest place at in
    let first : h ≡ c.swap_remove.result =
    sym (get_or_from_slice_get kept place h c.swap_remove.result at_h) ∙ sym c.swap_remove.ensures.value in
    let shown : c.index.result.now ≡ h =
    c.index.ensures ∙ get_or_from_slice_get kept place h c.index.result.now at_h in
    let among : Contains c.loop-entry.yielded h =
    distinct_given node c.loop-entry.yielded h
    (subst (λ es. Contains es h) c.loop-entry.invariant.found (member_at kept place h at_h)) in
    let differ : text h ≢ text e =
    λ same.
    let one : c.signed_text.result.now ≡ c.signed_text-in-Some-get.result.now =
    c.signed_text.ensures ∙ ap text shown ∙ same ∙ sym c.signed_text-in-Some-get.ensures in
    true≢false
    (sym c.if-ne.true ∙ c.ne.ensures
    ∙ not_from_true (bytes_eq c.signed_text.result.now c.signed_text-in-Some-get.result.now)
    ((bytes_eq-Decides c.signed_text.result.now c.signed_text-in-Some-get.result.now).1 one)) in (
      c.loop-entry.yielded,
      c.next.new.self.rest.items,
      sym c.loop-entry.invariant.left ∙ ap (λ es. c.loop-entry.yielded ++ es) c.in-Some.ensures.steps.0,
      c.loop-entry.invariant.no_collision,
      subst (λ f. Contains c.loop-entry.yielded f) first among,
      ap (λ f. (node f).digest) (sym first) ∙ bears,
      (λ same. differ (ap text first ∙ same)),
    )

-- the entry at the place has the same text
pub loop-entry-preserved : goal.loop-entry-preserved
loop-entry-preserved g c =
    let node = g.T.Knot.node in
    let text = g.T.SignedText.text in
    let e = c.in-Some.entry in
    let before = c.loop-entry.yielded in
    let kept = c.loop-entry.distinct.items in
    let place = c.in-Some-get.place in
    let at : number_at c.loop-entry.places (node e).digest ≡ Some place = search rules in
    let (h, at_h, bears) = c.loop-entry.invariant.places.found (node e).digest place at in
    let shown : c.index.result.now ≡ h =
    c.index.ensures ∙ get_or_from_slice_get kept place h c.index.result.now at_h in
    let among : Contains before h =
    distinct_given node before h
    (subst (λ es. Contains es h) c.loop-entry.invariant.found (member_at kept place h at_h)) in
    let same_text : text h ≡ text e =
    ap text (sym shown) ∙ sym c.signed_text.ensures
    ∙ (bytes_eq-Decides c.signed_text.result.now c.signed_text-in-Some-get.result.now).0
    (not-false (bytes_eq c.signed_text.result.now c.signed_text-in-Some-get.result.now)
    (sym c.ne.ensures ∙ c.if-ne.false))
    ∙ c.signed_text-in-Some-get.ensures in
    record {
      no_collision =
          no_collision_again node text before e h c.loop-entry.invariant.no_collision among bears same_text;
      found = c.loop-entry.invariant.found ∙ sym (distinct_again node before e h among bears);
      single = c.loop-entry.invariant.single;
      left =
          append_assoc before (e ∷ []) _ ∙ ap (λ es. before ++ es) (sym c.in-Some.ensures.steps.0)
          ∙ c.loop-entry.invariant.left;
      places = c.loop-entry.invariant.places;
    }
