use Rattle.hss_sign.proofs.secret.HssSecret.sign_by.Goals as goal
use Rattle.hss_sign.proofs.Keeping.{advances, from_kept, from_made, IsReady, ready_signs, stays, to_make}
use Rattle.hss_sign.proofs.{Numbers.left_of, Signed.leaves_named, Signed.signed_verifies}
use Rattle.hss_sign.proofs.secret.HssSecret.sign_by.Given.{Over}
use Rattle.hss_sign.proofs.secret.HssSecret.sign_by.Goals.{in-None+in_ok-key-in-None+in_ok-tree-in-None, in-Some}
use Rattle.hss_sign.specs.{Calls.hss_used, TwoLevels.top_tree, TwoLevels.TwoLevelSecret}
use Rattle.hss_sign.specs.declared.low_tree.LowTree.{LowTree}
use Rattle.lms_sign.specs.Height.{IsHeight}
use Rattle.std.proofs.Common.{ap, arith, IfSome, length, subst, sym, ◌+◌, ◌/◌, ◌<◌, ◌^◌, ◌∙◌, ◌≡◌, ◌≤◌}

-- the secret is as before
same : (g : Over) (c : goal.After-self-2-1 g) → record {
  kind = c.match-unspent.self-inside.kind;
  top = c.match-unspent.self-inside.top;
  low = c.match-unspent.self-inside.low;
  id = c.match-unspent.self-inside.id;
  seed = c.match-unspent.self-inside.seed;
  next = c.match-unspent.self-inside.next;
} ≡ c.args.self.now
same g c = elim c.match-unspent.branch [
  | in-Some w ↦ rw w.self-inside-is c.self.view_is
  | in-None+in_ok-key-in-None+in_ok-tree-in-None w ↦ rw w.self-inside-is c.self.view_is
]

-- the tree has a leaf for the message
ready : (g : Over) (c : goal.After-self-2-1 g) → IsReady (record {
  kind = c.match-unspent.self-inside.kind;
  top = c.match-unspent.self-inside.top;
  low = c.match-unspent.self-inside.low;
  id = c.match-unspent.self-inside.id;
  seed = c.match-unspent.self-inside.seed;
  next = c.match-unspent.self-inside.next;
}) c.match-unspent.self-inside.top_key c.match-unspent.tree
ready g c =
    let x = c.self.inside in
    let s : TwoLevelSecret = record {
      kind = x.kind;
      top = x.top;
      low = x.low;
      id = x.id;
      seed = x.seed;
      next = x.next;
    } in
    elim c.match-unspent.branch [
      | in-Some w ↦ rw (w.self-inside-is, w.tree-is) (
          from_kept s x.top_key x.tree w.in-Some.tree c.self.invariant.4
          (sym c.take.ensures.value ∙ w.in-Some.ensures.some.0) w.in-Some.ensures.some.1)
      | in-None+in_ok-key-in-None+in_ok-tree-in-None w ↦ (
          let spent : IfSome x.tree (λ t. t.key.next ≡ 2 ^ t.key.height) =
          rw c.take.ensures.value at w.in-None.ensures.none in
          let at : x.top_key ≡ top_tree s (s.next / 2 ^ s.low) =
          to_make s x.top_key x.tree c.self.invariant.1 c.self.invariant.4 spent in
          let made = w.in_ok-tree-in-None.ensures in
          rw (w.self-inside-is, w.tree-is) (
          from_made s x.top_key w.make.new.top w.in_ok-key-in-None.key w.in_ok-tree-in-None.tree c.self.invariant.1
          at w.in_ok-key-in-None.ensures made.key made.head made.next))
    ]

left : (g : Over) (c : goal.After-self-2-1 g) → c.args.self.now.next < 2 ^ (c.args.self.now.top + c.args.self.now.low)
left g c =
    let most : c.args.self.now.next ≤ 2 ^ (c.args.self.now.top + c.args.self.now.low) =
    subst (λ (v : TwoLevelSecret). v.next ≤ 2 ^ (v.top + v.low)) c.self.view_is c.self.invariant.2 in
    left_of c.args.self.now.next (2 ^ (c.args.self.now.top + c.args.self.now.low)) c.is_spent.result
    c.is_spent.ensures c.if-is_spent.false most

pub invariant_of-self-2 : goal.invariant_of-self-2
invariant_of-self-2 g c =
    let x = c.match-unspent.self-inside in
    let s : TwoLevelSecret = record {
      kind = x.kind;
      top = x.top;
      low = x.low;
      id = x.id;
      seed = x.seed;
      next = x.next;
    } in
    let back = c.self.view_is ∙ sym (same g c) in
    let below = left g c in (
      subst (λ (v : TwoLevelSecret). IsHeight v.top) back c.self.invariant.0,
      subst (λ (v : TwoLevelSecret). IsHeight v.low) back c.self.invariant.1,
      subst (λ (v : TwoLevelSecret). v.next + 1 ≤ 2 ^ (v.top + v.low)) (sym (same g c)) (omega (arith, below)),
      subst (λ (v : TwoLevelSecret). length v.id ≡ 16) back c.self.invariant.3,
      advances s x.top_key c.match-unspent.tree c.sign-answer.new.self (ready g c) c.in_ok-signature.ensures.next
          c.in_ok-signature.ensures.head,
    )

pub invariant_of-self-in_err-signature : goal.invariant_of-self-in_err-signature
invariant_of-self-in_err-signature g c =
    let x = c.self.inside in
    let keeps = c.self.invariant in
    let s : TwoLevelSecret = record {
      kind = x.kind;
      top = x.top;
      low = x.low;
      id = x.id;
      seed = x.seed;
      next = x.next;
    } in
    let after = c.sign-answer.new.self in
    elim c.match-unspent.branch [
      | in-Some w ↦ rw w.self-inside-is (
          let tree = w.in-Some.tree in
          let key = c.in_err-signature.ensures.err ∙ ap (λ (t : LowTree). t.key) w.tree-is in
          let head = c.in_err-signature.ensures.head ∙ ap (λ (t : LowTree). t.head) w.tree-is in
          let is_ready = from_kept s x.top_key x.tree tree keeps.4
          (sym c.take.ensures.value ∙ w.in-Some.ensures.some.0) w.in-Some.ensures.some.1 in
          (keeps.0, keeps.1, keeps.2, keeps.3, stays s x.top_key tree after is_ready key head))
      | in-None+in_ok-key-in-None+in_ok-tree-in-None w ↦ rw w.self-inside-is (
          let tree = w.in_ok-tree-in-None.tree in
          let key = c.in_err-signature.ensures.err ∙ ap (λ (t : LowTree). t.key) w.tree-is in
          let head = c.in_err-signature.ensures.head ∙ ap (λ (t : LowTree). t.head) w.tree-is in
          let spent : IfSome x.tree (λ t. t.key.next ≡ 2 ^ t.key.height) =
          rw c.take.ensures.value at w.in-None.ensures.none in
          let at : x.top_key ≡ top_tree s (s.next / 2 ^ s.low) = to_make s x.top_key x.tree keeps.1 keeps.4 spent in
          let made = w.in_ok-tree-in-None.ensures in
          let is_ready = from_made s x.top_key w.make.new.top w.in_ok-key-in-None.key tree keeps.1 at
          w.in_ok-key-in-None.ensures made.key made.head made.next in
          (keeps.0, keeps.1, keeps.2, keeps.3, stays s w.make.new.top tree after is_ready key head))
    ]

pub returns-clause-ok : goal.returns-clause-ok
returns-clause-ok g c =
    let tree = c.match-unspent.tree in
    let low : IsHeight c.args.self.now.low =
    subst (λ (v : TwoLevelSecret). IsHeight v.low) c.self.view_is c.self.invariant.1 in
    ready_signs c.args.self.now c.match-unspent.self-inside.top_key tree c.in_ok-signature.signature.items
    c.args.message.now low
    (subst (λ (v : TwoLevelSecret). IsReady v c.match-unspent.self-inside.top_key tree) (same g c) (ready g c))
    c.in_ok-signature.ensures.ok

pub returns-clause-signs : goal.returns-clause-signs
returns-clause-signs g c =
    rw (returns-clause-ok g c)
    (signed_verifies c.args.self.now c.args.message.now
    (subst (λ (v : TwoLevelSecret). IsHeight v.top) c.self.view_is c.self.invariant.0)
    (subst (λ (v : TwoLevelSecret). IsHeight v.low) c.self.view_is c.self.invariant.1)
    (subst (λ (v : TwoLevelSecret). length v.id ≡ 16) c.self.view_is c.self.invariant.3) (left g c))

pub returns-clause-leaves : goal.returns-clause-leaves
returns-clause-leaves g c =
    rw (returns-clause-ok g c)
    (leaves_named c.args.self.now c.args.message.now
    (subst (λ (v : TwoLevelSecret). IsHeight v.top) c.self.view_is c.self.invariant.0)
    (subst (λ (v : TwoLevelSecret). IsHeight v.low) c.self.view_is c.self.invariant.1) (left g c))

pub returns-clause-call : goal.returns-clause-call
returns-clause-call g c =
    let below = left g c in
    record {
      answered = record {
        signed = returns-clause-ok g c;
        spent = (λ no. (cc), λ full. absurd (let no : ⊥ = omega (arith, below, full) in no));
      };
      leaves = returns-clause-leaves g c;
      used = ap (λ (s : TwoLevelSecret). hss_used s 1) (same g c);
      refused = tt;
    }
