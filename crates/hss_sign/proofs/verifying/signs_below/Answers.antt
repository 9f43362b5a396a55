use Rattle.std.proofs.Common.{◌≡◌, ◌∙◌, List, ℕ, take, drop, ap, arith, rules, sym, subst}
use Rattle.lms_sign.specs.Signs.{Signs}
use Rattle.hss_sign.proofs.Verified.{divided, low_remains, no_key, no_such}
use Rattle.hss_sign.proofs.verifying.signs_below.Goals as goal

pub returns-in_default : goal.returns-in_default
returns-in_default c =
    no_such (λ below. c.in_default.ensures.unknown below.top_signs.kind below.top_signs.height below.top_signs.types)

pub returns-then-parts-len : goal.returns-then-parts-len
returns-then-parts-len c =
    no_such (λ below.
    let parts =
    divided c.args.top.now c.args.message.now c.args.parts.now c.in-Some.len c.in-Some.ensures.known below in
    let long = parts.long in
    omega arith)

pub returns-then-verify : goal.returns-then-verify
returns-then-verify c =
    let rest = c.split_at.ensures.back in
    low_remains c.args.top.now c.args.message.now c.args.parts.now c.split_at.result.0.now c.split_at-2.result.0.now
    c.split_at-2.result.1.now c.in-Ok.key c.in-Some.len c.verify-then-verify.result c.in-Some.ensures.known
    c.split_at.ensures.front (c.split_at-2.ensures.front ∙ ap (take 56) rest)
    (c.split_at-2.ensures.back ∙ ap (drop 56) rest) c.in-Ok.ensures.ok (c.verify.ensures.0 (search rules))
    c.verify-then-verify.ensures

pub returns-else-verify : goal.returns-else-verify
returns-else-verify c =
    let rest = c.split_at.ensures.back in
    let low : c.split_at-2.result.0.now ≡ take 56 (drop c.in-Some.len c.args.parts.now) =
    c.split_at-2.ensures.front ∙ ap (take 56) rest in (
      λ yes. (cc),
      λ below.
          let parts =
          divided c.args.top.now c.args.message.now c.args.parts.now c.in-Some.len c.in-Some.ensures.known below in
          c.verify.ensures.1 (rw (low, c.split_at.ensures.front) parts.top_signs),
    )

pub returns-in-Err : goal.returns-in-Err
returns-in-Err c =
    let low : c.split_at-2.result.0.now ≡ take 56 (drop c.in-Some.len c.args.parts.now) =
    c.split_at-2.ensures.front ∙ ap (take 56) c.split_at.ensures.back in
    no_such (λ below.
    let parts =
    divided c.args.top.now c.args.message.now c.args.parts.now c.in-Some.len c.in-Some.ensures.known below in
    let signs = subst
    (λ (key : List ℕ). Signs key c.args.message.now (drop 56 (drop c.in-Some.len c.args.parts.now))) (sym low)
    parts.low_signs in
    no_key c.split_at-2.result.0.now c.in-Err.field-0 c.in-Err.ensures.length.0 c.in-Err.ensures.unknown.0 signs.kind
    signs.height signs.key_size signs.types)
