use Rattle.lms_ots.proofs.Imports.{◌≡◌, ◌+◌, ◌*◌, ◌<◌, ◌-◌, ◌^◌, ◌∙◌, ℕ, List, sym, ap, subst, refl, arith}
use Rattle.lms_ots.proofs.Imports.{Parameters, chain_checkpoints, checkpoint, chain, secret_element, AreKeptTo}
use Rattle.lms_ots.proofs.ChainLemmas.{chain_none}
use Rattle.lms_ots.proofs.CheckpointLemmas.{kept_full, kept_more, next_chain, to_checkpoint, to_end}
use Rattle.lms_ots.proofs.checkpoints.end_of_chain.Goals as goal
use Rattle.lms_ots.proofs.checkpoints.end_of_chain.Goals.{then-place-checkpoints, else-place-checkpoints}

pub checkpoints-init : goal.checkpoints-init
checkpoints-init c = record {
  tmp =
      let none : 0 * c.stride-stride.result ≡ 0 = omega arith in
      rw none (c.secret_element-tmp.ensures ∙ sym (chain_none c.args.id.now _ c.args.q c.args.i 0));
  kept = λ i n lt below within. c.requires.before i n lt (omega arith) within;
  within = omega arith;
}

pub checkpoints-preserved : goal.checkpoints-preserved
unfolding checkpoint
checkpoints-preserved c =
    let kind = c.args.kind in
    let id = c.args.id.now in
    let seed = c.args.seed.now in
    let n = c.checkpoints.n in
    let secret : List ℕ = secret_element id c.args.q seed c.args.i in
    let here = c.checkpoints.invariant in
    let tmp = to_checkpoint id secret c.checkpoints.tmp c.chain-next.result c.args.q c.args.i n c.stride-stride.result
    here.tmp c.chain-next.ensures in
    let value : c.chain-next.result ≡ checkpoint kind id c.args.q seed c.args.i n =
    tmp ∙ ap (λ (k : ℕ). chain id c.args.q c.args.i 0 ((n + 1) * k) secret) c.stride-stride.ensures.value in
    let below : n < chain_checkpoints kind = omega arith in
    let place : c.from.result * c.from-in-checkpoints.result + c.from-in-checkpoints-2.result
    ≡ c.args.i * chain_checkpoints kind + n =
    rw (
      c.from.ensures,
      c.from-in-checkpoints.ensures,
      c.from-in-checkpoints-2.ensures,
      c.chain_checkpoints-count.ensures,
    ) refl in
    let next : ℕ = c.args.i * chain_checkpoints kind + (n + 1) in
    record {
      tmp = tmp;
      kept = elim c.if-place-checkpoints.branch [
        | then-place-checkpoints w ↦ subst (AreKeptTo kind id c.args.q seed next) (sym w.checkpoints-is)
            (kept_more kind id seed c.checkpoints.checkpoints c.args.q c.args.i n c.chain-next.result _ place below
            (omega arith) value here.kept)
        | else-place-checkpoints w ↦ subst (AreKeptTo kind id c.args.q seed next) (sym w.checkpoints-is)
            (kept_full kind id seed c.checkpoints.checkpoints c.args.q c.args.i n _ place (omega arith) here.kept)
      ];
      within = omega arith;
    }

pub returns-clause-value : goal.returns-clause-value
returns-clause-value c =
    to_end c.args.kind c.args.id.now _ c.checkpoints.tmp c.chain.result c.args.q c.args.i c.checkpoints.n
    c.chain_checkpoints-count.result c.stride-stride.result c.largest.result
    (let within = c.checkpoints.invariant.within in omega arith)
    c.chain_checkpoints-count.ensures c.stride-stride.ensures.value
    (c.largest.ensures ∙ ap (λ (set : Parameters). 2 ^ set.w - 1) c.parameters.ensures.table)
    c.checkpoints.invariant.tmp c.chain.ensures

pub returns-clause-kept : goal.returns-clause-kept
returns-clause-kept c i n lt below within =
    let most = c.checkpoints.invariant.within in
    let count = c.chain_checkpoints-count.ensures in
    c.checkpoints.invariant.kept i n lt (omega (arith, next_chain c.args.kind c.args.i)) within
