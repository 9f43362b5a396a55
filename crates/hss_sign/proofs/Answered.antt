-- The answers of calls, one more.
use Rattle.hss_sign.specs.Calls.{EachOnce, hss_used, HssAnswersEach, IsHssAnswer, leaves_of}
use Rattle.hss_sign.specs.TwoLevels.{TwoLevelSecret}
use Rattle.hss_sign.specs.declared.secret.HssFault.{HssFault, TheVariants.Memory}
use Rattle.lms_ots.proofs.Pieces.{range_with_len_next}
use Rattle.lms_sign.proofs.Answered.{accepted_err, accepted_ok}
use Rattle.lms_sign.specs.Calls.{accepted}
use Rattle.std.proofs.Common.{[], ap, arith, Err, get_or, inl, inr, length, List, map, Ok, refl, Result, sym, take, ℕ}
use Rattle.std.proofs.Common.{◌%◌, ◌*◌, ◌++◌, ◌+◌, ◌-◌, ◌/◌, ◌^◌, ◌∙◌, ◌∷◌, ◌≡◌}
use Rattle.std.proofs.{Math.Seq.get_or-append_right, Math.Seq.take-append_seam, lemmas.Bool.cases_lt}
use Rattle.std.proofs.lemmas.List.{get_or_append_left, length_push, map_push, take-append-le}
use Rattle.std.proofs.lemmas.List.FromFn.{get_or-map-range_with_len, length-map-range_with_len}
use Rattle.std.proofs.lemmas.Nat.{shr_split}
use Rattle.std.specs.{Global.Vec, List.range_with_len, Prelude.IfOk, Prelude.OnErr, Prelude.OnOk}

-- a call of `sign` continues the row of leaves
pub sign_answered : {V E : Type 0} → (leaves : V → ℕ × ℕ) (xs ys : List (Result V E)) (r : Result V E)
    (first old new : TwoLevelSecret) → ys ≡ xs ++ r ∷ []
    → IfOk r (λ v. leaves v ≡ (old.next / 2 ^ old.low, old.next % 2 ^ old.low))
    → OnOk r (new ≡ record old { next = old.next + 1 }) → OnErr r (new ≡ old)
    → old ≡ hss_used first (length (accepted xs))
    → map leaves (accepted xs) ≡ map (leaves_of first.low) (range_with_len first.next (length (accepted xs)))
    → (new ≡ hss_used first (length (accepted ys)))
    × (map leaves (accepted ys) ≡ map (leaves_of first.low) (range_with_len first.next (length (accepted ys))))
sign_answered {V} {E} leaves xs ys (Ok v) first old new e at changed kept next row =
    let n : ℕ = length (accepted xs) in
    let all : accepted ys ≡ accepted xs ++ v ∷ [] = ap (accepted {T = V} {E = E}) e ∙ accepted_ok xs v in
    let count : length (accepted xs ++ v ∷ []) ≡ n + 1 = length_push (accepted xs) v in
    let value : leaves v ≡ leaves_of first.low (first.next + n) =
    at ∙ ap (λ (s : TwoLevelSecret). leaves_of s.low s.next) next in
    let more : first.next + n + 1 ≡ first.next + (n + 1) = omega arith in (
      rw (all, count) (changed ∙ ap (λ (s : TwoLevelSecret). hss_used s 1) next
          ∙ ap (λ (k : ℕ). record first { next = k }) more),
      rw (all, count, map_push leaves (accepted xs) v, row, value, range_with_len_next first.next n)
          (sym (map_push (leaves_of first.low) (range_with_len first.next n) (first.next + n))),
    )
sign_answered {V} {E} leaves xs ys (Err f) first old new e at changed kept next row =
    let all : accepted ys ≡ accepted xs = ap (accepted {T = V} {E = E}) e ∙ accepted_err xs f in
    (rw all (kept ∙ next), rw all row)

-- one answer more, to the message at its place
pub one_answer_more : (s now : TwoLevelSecret) (messages : List (List ℕ)) (message : List ℕ)
    (xs ys : List (Result (Vec ℕ) HssFault)) (r : Result (Vec ℕ) HssFault) → ys ≡ xs ++ r ∷ []
    → now ≡ hss_used s (length (accepted xs)) → message ≡ get_or messages (length xs) []
    → IsHssAnswer now message r → HssAnswersEach s messages xs → HssAnswersEach s messages ys
one_answer_more s now messages message xs ys r e left here answer each k l =
    elim (cases_lt k (length xs)) [
      | inl low ↦
          let front : take k ys ≡ take k xs = rw e (take-append-le k xs (r ∷ []) (omega arith)) in
          let value : get_or ys k (Err Memory) ≡ get_or xs k (Err Memory) =
          rw e (get_or_append_left xs (r ∷ []) (Err Memory) k low) in
          rw (front, value) (each k low)
      | inr high ↦
          let at : length xs ≡ k = omega (arith, ap length e, length_push xs r) in
          let front : take (length xs) ys ≡ xs = rw e (take-append_seam xs (r ∷ [])) in
          let start : length xs - length xs ≡ 0 = omega arith in
          let value : get_or ys (length xs) (Err Memory) ≡ r =
          rw e (get_or-append_right xs (r ∷ []) (length xs) (Err Memory) (omega arith)
          ∙ ap (λ i. get_or (r ∷ []) i (Err Memory)) start) in
          rw (← at, front, value, ← here, ← left) answer
    ]

-- signatures of different numbers have different leaves
pub leaves_differ : (low first n : ℕ) → EachOnce (map (leaves_of low) (range_with_len first n))
leaves_differ low first n j k lt within same =
    let count = length-map-range_with_len (leaves_of low) first n in
    let row : List (ℕ × ℕ) = map (leaves_of low) (range_with_len first n) in
    let at_j : get_or row j (0, 0) ≡ leaves_of low (first + j) =
    get_or-map-range_with_len (leaves_of low) first n j (first + j) (0, 0) (omega (arith, count, within, lt)) refl in
    let at_k : get_or row k (0, 0) ≡ leaves_of low (first + k) =
    get_or-map-range_with_len (leaves_of low) first n k (first + k) (0, 0) (omega (arith, count, within)) refl in
    let number : ℕ × ℕ → ℕ = λ (leaves : ℕ × ℕ). leaves.0 * 2 ^ low + leaves.1 in
    let equal : first + j ≡ first + k =
    sym (shr_split (first + j) low) ∙ ap number (sym at_j ∙ same ∙ at_k) ∙ shr_split (first + k) low in
    omega arith
