-- Losses of which no two are of one entry on one way.
use Rattle.finished_floor.proofs.Imports.{sent, Node, history, AreOnce, Differ, EachIsHeardOrLost, Loss, List, arith}
use Rattle.finished_floor.proofs.Imports.{get_or, inl, inr, length, length-append, refl, ℕ, cases_lt, append-nil}
use Rattle.finished_floor.proofs.Imports.{get_or-append_right, get_or_append_left, nat_tests, ◌++◌, ◌-◌, ◌<◌}
use Rattle.finished_floor.proofs.Arriving.{heard_or_lost}

-- what differs from another loss the other differs from
pub differ_sym : (a b : Loss) → Differ a b → Differ b a
differ_sym a b apart = grind (arith, nat_tests)

-- two lists of them together
pub once_append : (xs ys : List Loss) → AreOnce xs → AreOnce ys →
    ((i j : ℕ) (d : Loss) → i < length xs → j < length ys → Differ (get_or xs i d) (get_or ys j d)) → AreOnce (xs ++ ys)
once_append xs ys first second across i j d lt within =
    let len = length-append xs ys in
    elim (cases_lt j (length xs)) [
      | inl low ↦ rw (get_or_append_left xs ys d i (omega arith), get_or_append_left xs ys d j low) (first i j d lt low)
      | inr high ↦ rw (get_or-append_right xs ys (length xs) j d refl high) (elim (cases_lt i (length xs)) [
        | inl low ↦ rw (get_or_append_left xs ys d i low) (across i (j - length xs) d low (omega arith))
        | inr over ↦ rw (get_or-append_right xs ys (length xs) i d refl over)
            (second (i - length xs) (j - length xs) d (omega arith) (omega arith))
      ])
    ]

-- in a balanced world each entry is heard or lost, and not both
pub each_is_heard_or_lost : {T : Type 0} (node : T → Node) → EachIsHeardOrLost node
each_is_heard_or_lost node w losses balanced a b e la lb apart c =
    heard_or_lost node losses a b (sent (history w a)) _ e (rw append-nil at (balanced a b la lb apart)) c
