use Rattle.audit_proof.proofs.Canonicals.{head_short, made_text, too_long}
use Rattle.audit_proof.proofs.Imports.{[], append-nil, arith, flat_map_more, head_text, line_text, made_line}
use Rattle.audit_proof.proofs.Imports.{made_lines, map-range_with_len_more, refl, rules, sym, ◌∙◌, ◌≡◌}
use Rattle.audit_proof.proofs.proving.prove.Goals as goal

pub loop-entry-init : goal.loop-entry-init
loop-entry-init g c =
    let graph = g.A.Arrows.graph c.args.graph.now in
    let none : c.new-text.result.items ≡ [] = search rules in
    let text : c.push_head.new.text.items ≡ head_text graph.count =
    c.in_ok-push_head.ensures ∙ rw (none, c.count.ensures) refl in
    (text ∙ sym (append-nil (head_text graph.count)), rw text (head_short graph.count c.requires.few))

pub returns-then-len-gt-LIMIT : goal.returns-then-len-gt-LIMIT
returns-then-len-gt-LIMIT g c =
    too_long (g.A.Arrows.graph c.args.graph.now) c.requires.descends 67108864 c.loop-entry.entry
    c.push_line.new.text.items (omega (arith, c.loop-entry-test.true, c.count.ensures))
    (c.in_ok-push_line.ensures ∙ rw (c.loop-entry.invariant.0, c.in_ok-line.ensures) refl)
    (omega (arith, c.if-len-gt-LIMIT.true, c.len.ensures))

pub loop-entry-preserved : goal.loop-entry-preserved
loop-entry-preserved g c =
    let graph = g.A.Arrows.graph c.args.graph.now in
    let k = c.loop-entry.entry in
    let more = map-range_with_len_more (made_line graph) 0 k k (omega arith) in (
      c.in_ok-push_line.ensures ∙ rw (c.loop-entry.invariant.0, c.in_ok-line.ensures, more)
          (flat_map_more line_text (head_text graph.count) (made_lines graph k) (made_line graph k)),
      omega (arith, c.if-len-gt-LIMIT.false),
    )

pub returns : goal.returns
returns g c =
    let graph = g.A.Arrows.graph c.args.graph.now in
    let all : c.loop-entry.entry ≡ graph.count = omega (arith, c.loop-entry-test.false, c.count.ensures) in
    let text = c.loop-entry.invariant.0 in
    (rw (text, all) (made_text graph c.requires.descends), c.loop-entry.invariant.1)
