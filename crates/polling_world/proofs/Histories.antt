-- Histories with one event more.
use Rattle.polling_world.proofs.Imports.{[], AreMade, arith, ascending, ascending_ascending, Config, count_by-le-length}
use Rattle.polling_world.proofs.Imports.{entry_of, Event, filter, frontier, held, inl, inr, is_named, IsAscending}
use Rattle.polling_world.proofs.Imports.{last_or_earlier, length, length-filter, length-insert_digest, length-map, List}
use Rattle.polling_world.proofs.Imports.{map, MaySend, node_of_sealed, SealedEntry, Sent, subst, ℕ, ◌++◌, ◌∷◌, ◌≡◌, ◌≤◌}
use Rattle.std.specs.Prelude.{not}

-- one event more is made where, if it was sent, it could be sent
pub AreMade-push : (config : Config) (h : List (Event SealedEntry)) (x : Event SealedEntry) → AreMade config h →
    ((e : SealedEntry) → x ≡ Sent e → MaySend config h e) → AreMade config (h ++ x ∷ [])
AreMade-push config h x made now before e later is =
    elim (last_or_earlier h x before (Sent e) later is) [
      | inl (following, stands) ↦ made before e following stands
      | inr (same, sends) ↦ subst (λ (p : List (Event SealedEntry)). MaySend config p e) same (now e sends)
    ]

-- nothing was made yet
pub AreMade-none : (config : Config) → AreMade config []
AreMade-none config [] e later is = cc
AreMade-none config (b ∷ before) e later is = cc

-- in order digests are no more than they were
length-ascending : (ds : List (List ℕ)) → length (ascending ds) ≤ length ds
length-ascending [] = omega arith
length-ascending (d ∷ ds) = omega (arith, length-insert_digest d (ascending ds), length-ascending ds)

-- the frontier has at most as many digests as entries are held
pub few_in_frontier : (h : List (Event SealedEntry)) → length (frontier node_of_sealed (held h)) ≤ length h
few_in_frontier h =
    let es = held h in
    let ds = map (λ (e : SealedEntry). (node_of_sealed e).digest) es in
    let p = λ (d : List ℕ). not (is_named node_of_sealed es d) in
    omega (
      arith,
      length-ascending (filter p ds),
      length-filter p ds,
      count_by-le-length p ds,
      length-map es (λ (e : SealedEntry). (node_of_sealed e).digest),
      length-map h (λ (x : Event SealedEntry). entry_of x),
    )

-- the digests of a frontier rise
pub frontier_rises : (es : List SealedEntry) → IsAscending (frontier node_of_sealed es)
frontier_rises es =
    ascending_ascending
    (filter (λ d. not (is_named node_of_sealed es d)) (map (λ (e : SealedEntry). (node_of_sealed e).digest) es))
