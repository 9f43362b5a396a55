use Rattle.hss_sign.proofs.secret.HssSecret.public.Goals as goal
use Rattle.hss_sign.proofs.Keeping.{top_public}
use Rattle.hss_sign.specs.TwoLevels.{hss_public, TwoLevelSecret}
use Rattle.lms_ots.proofs.{Candidates.length-u32str, Pieces.two_begin}
use Rattle.lms_ots.specs.Ots.{u32str}
use Rattle.std.proofs.Common.{ap, arith, length, List, sym, take, ℕ, ◌++◌, ◌∙◌, ◌≡◌}
use Rattle.std.proofs.lemmas.List.{take_all}

pub returns : goal.returns
unfolding hss_public
returns c =
    let x = c.self.inside in
    let s : TwoLevelSecret = record {
      kind = x.kind;
      top = x.top;
      low = x.low;
      id = x.id;
      seed = x.seed;
      next = x.next;
    } in
    let bytes : List ℕ = c.write_at-2.new.bytes in
    let two : List ℕ = c.u32_bytes.result in
    let key : List ℕ = c.bytes.result.now in
    let four : length two ≡ 4 = ap length c.u32_bytes.ensures ∙ length-u32str 2 in
    let size : length key ≡ 56 = ap length c.bytes.ensures.value ∙ c.bytes.ensures.len in
    let whole : take 60 bytes ≡ two ++ key =
    two_begin c.write_at.new.bytes bytes two key 4 60 four (omega (arith, size)) c.write_at.ensures.written
    c.write_at-2.ensures.written in
    rw (← c.self.view_is)
    (sym (take_all 60 bytes (omega arith)) ∙ whole ∙ ap (λ (front : List ℕ). front ++ key) c.u32_bytes.ensures
    ∙ ap (λ (rest : List ℕ). u32str 2 ++ rest)
    (c.bytes.ensures.value ∙ c.public.ensures ∙ top_public s x.top_key x.tree c.self.invariant.4))
