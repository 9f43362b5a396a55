-- Checkpoints, one more and all.
use Rattle.lms_ots.proofs.Imports.{◌≡◌, ℕ, ◌+◌, ◌-◌, ◌*◌, ◌/◌, ◌^◌, ◌<◌, ◌≤◌, List, [], length, get_or, sym, ap, ◌∙◌}
use Rattle.lms_ots.proofs.Imports.{inl, inr, arith, cases_lt, get_or-set_other, get_or-set_same, mul-le-mul_right}
use Rattle.lms_ots.proofs.Imports.{slice_set, OtsKind, W1, W2, W4, W8, parameters, chain_checkpoints, checkpoint}
use Rattle.lms_ots.proofs.Imports.{stride, chain, secret_element, AreKeptTo}
use Rattle.lms_ots.proofs.Candidates.{chain-chain}

-- a checkpoint isn't past the end of its chain
pub within_chain : (kind : OtsKind) (n : ℕ) → n ≤ chain_checkpoints kind → n * stride kind ≤ 2 ^ (parameters kind).w - 1
within_chain W1 n h = omega arith
within_chain W2 n h = omega arith
within_chain W4 n h = omega arith
within_chain W8 n h = omega arith

-- the last checkpoint up to a place isn't past it
pub passed_within : (kind : OtsKind) (place : ℕ) → place / stride kind * stride kind ≤ place
passed_within W1 place = omega arith
passed_within W2 place = omega arith
passed_within W4 place = omega arith
passed_within W8 place = omega arith

-- each place is that of one checkpoint
pub one_place : (kind : OtsKind) (a m i n : ℕ) → m < chain_checkpoints kind → n < chain_checkpoints kind
    → a * chain_checkpoints kind + m ≡ i * chain_checkpoints kind + n → (a ≡ i) × (m ≡ n)
one_place W1 a m i n lm ln e = absurd (omega arith)
one_place W2 a m i n lm ln e = absurd (omega arith)
one_place W4 a m i n lm ln e = (omega arith, omega arith)
one_place W8 a m i n lm ln e = (omega arith, omega arith)

-- the checkpoints of a chain come after those of the chain before it
pub next_chain : (kind : OtsKind) (i : ℕ)
    → (i + 1) * chain_checkpoints kind ≡ i * chain_checkpoints kind + chain_checkpoints kind
next_chain W1 i = omega arith
next_chain W2 i = omega arith
next_chain W4 i = omega arith
next_chain W8 i = omega arith

-- a walk to the end from the last checkpoint
pub to_end : (kind : OtsKind) (id secret tmp end : List ℕ) (q i n count steps last : ℕ) → n ≡ count
    → count ≡ chain_checkpoints kind → steps ≡ stride kind → last ≡ 2 ^ (parameters kind).w - 1
    → tmp ≡ chain id q i 0 (n * steps) secret → end ≡ chain id q i (count * steps) last tmp
    → end ≡ chain id q i 0 (2 ^ (parameters kind).w - 1) secret
to_end kind id secret tmp end q i n count steps last en ec es el et ee =
    let within : count * steps ≤ last = rw (ec, es, el) (within_chain kind (chain_checkpoints kind) (omega arith)) in
    ee ∙ ap (chain id q i (count * steps) last) (et ∙ ap (λ k. chain id q i 0 (k * steps) secret) en)
    ∙ chain-chain id secret q i (count * steps) last within ∙ ap (λ k. chain id q i 0 k secret) el

-- a walk from a checkpoint leads where the whole walk does
pub from_checkpoint : (kind : OtsKind) (id seed block tmp : List ℕ) (q i n from place : ℕ)
    → from ≡ (n + 1) * stride kind → from ≤ place → block ≡ checkpoint kind id q seed i n
    → tmp ≡ chain id q i from place block
    → tmp ≡ chain id q i 0 place (secret_element id q seed i)
unfolding checkpoint
from_checkpoint kind id seed block tmp q i n from place ef le eb et =
    et ∙ ap (chain id q i from place) (eb ∙ ap (λ (a : ℕ). chain id q i 0 a (secret_element id q seed i)) (sym ef))
    ∙ chain-chain id (secret_element id q seed i) q i from place le

-- the walk from one checkpoint to the next, continued from the start of the chain
pub to_checkpoint : (id secret tmp next : List ℕ) (q i n steps : ℕ) → tmp ≡ chain id q i 0 (n * steps) secret
    → next ≡ chain id q i (n * steps) ((n + 1) * steps) tmp → next ≡ chain id q i 0 ((n + 1) * steps) secret
to_checkpoint id secret tmp next q i n steps et en =
    en ∙ ap (chain id q i (n * steps) ((n + 1) * steps)) et
    ∙ chain-chain id secret q i (n * steps) ((n + 1) * steps) (mul-le-mul_right steps (omega arith))

module _ (kind : OtsKind) (id seed : List ℕ) (blocks : List (List ℕ)) (q i n : ℕ) where
  -- one checkpoint more is kept
  pub kept_more : (value : List ℕ) (place : ℕ) → place ≡ i * chain_checkpoints kind + n → n < chain_checkpoints kind
      → place < length blocks → value ≡ checkpoint kind id q seed i n
      → AreKeptTo kind id q seed (i * chain_checkpoints kind + n) blocks
      → AreKeptTo kind id q seed (i * chain_checkpoints kind + (n + 1)) (slice_set blocks place value)
  kept_more value place at below fits ev before a m lm end within =
      elim (cases_lt (a * chain_checkpoints kind + m) place) [
        | inl lt ↦ get_or-set_other blocks place (a * chain_checkpoints kind + m) value []
            (λ (e : a * chain_checkpoints kind + m ≡ place). absurd (omega arith))
            ∙ before a m lm (omega arith) (omega arith)
        | inr ge ↦ (
            let here : a * chain_checkpoints kind + m ≡ place = omega arith in
            let (ea, em) = one_place kind a m i n lm below (here ∙ at) in
            ap (λ k. get_or (slice_set blocks place value) k []) here ∙ get_or-set_same blocks place value [] fits ∙ ev
            ∙ ap (λ k. checkpoint kind id q seed k n) (sym ea) ∙ ap (checkpoint kind id q seed a) (sym em))
      ]

  -- there is no room for it
  pub kept_full : (place : ℕ) → place ≡ i * chain_checkpoints kind + n → length blocks ≤ place
      → AreKeptTo kind id q seed (i * chain_checkpoints kind + n) blocks
      → AreKeptTo kind id q seed (i * chain_checkpoints kind + (n + 1)) blocks
  kept_full place at full before a m lm end within = before a m lm (omega arith) within
