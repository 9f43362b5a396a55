use Rattle.std.proofs.Common.{◌≡◌, ◌-◌, ◌∙◌, List, ℕ, IsTrue, length, take, drop, rules, sym, subst}
use Rattle.std.proofs.lemmas.List.{take_rest}
use Rattle.lms_ots.specs.Ots.{u32str}
use Rattle.lms_sign.specs.Signs.{Signs}
use Rattle.hss_sign.proofs.Verified.{begun, no_key, no_such, signs_of}
use Rattle.hss_sign.proofs.verifying.hss_verify.Goals as goal
use Rattle.hss_sign.proofs.verifying.hss_verify.Goals.{then-not-begins_with-via-then-not-begins_with}
use Rattle.hss_sign.proofs.verifying.hss_verify.Goals.{then-not-begins_with-via-else-not-begins_with+then-not-begins_with-2}

pub returns-then-not-begins_with : goal.returns-then-not-begins_with
returns-then-not-begins_with c =
    no_such (λ signs.
    let parts = begun c.args.key.now c.args.message.now c.args.signature.now signs in
    elim c.then-not-begins_with.branch [
      | then-not-begins_with-via-then-not-begins_with w ↦ (
          let yes : IsTrue c.begins_with.result = c.begins_with.ensures.value.1 parts.0 in
          cc)
      | then-not-begins_with-via-else-not-begins_with+then-not-begins_with-2 w ↦ (
          let yes : IsTrue w.begins_with-else-not-begins_with.result =
          w.begins_with-else-not-begins_with.ensures.value.1 parts.1 in
          cc)
    ])

pub returns-in-Ok : goal.returns-in-Ok
returns-in-Ok c =
    let key = c.args.key.now in
    let signature = c.args.signature.now in
    let top : c.in-Ok.top ≡ drop 4 key = c.in-Ok.ensures.ok ∙ take_rest key 4 in
    let begins : take 4 key ≡ u32str 2 = c.if-not-begins_with.ensures.value.0 (search rules) in
    let signed : take 4 signature ≡ u32str 1 = c.if-not-begins_with-2.ensures.value.0 (search rules) in
    let below = rw (top, take_rest signature 4) at c.signs_below.ensures in (
      λ yes. signs_of key c.args.message.now signature begins signed (below.0 yes),
      λ signs. below.1 (begun key c.args.message.now signature signs).2,
    )

pub returns-in-Err : goal.returns-in-Err
returns-in-Err c =
    let key = c.args.key.now in
    no_such (λ signs.
    let below = (begun key c.args.message.now c.args.signature.now signs).2 in
    let top = subst (λ (k : List ℕ). Signs k below.low_key below.top_signature) (sym (take_rest key 4))
    below.top_signs in
    no_key (take (length key - 4) (drop 4 key)) c.in-Err.field-0 c.in-Err.ensures.length.0 c.in-Err.ensures.unknown.0
    top.kind top.height top.key_size top.types)
