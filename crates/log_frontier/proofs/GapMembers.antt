-- From sorted digests to the gaps of entries.
use Rattle.log_frontier.proofs.Imports.{Contains, Contains-permutation, flat_map, gaps, GapsAreUnique, IsBorneIn}
use Rattle.log_frontier.proofs.Imports.{IsNamedIn, IsPermutation-sym, IsWithout, List, map, Node, ℕ, ◌↔◌, ◌≡◌}
use Rattle.entry_order.proofs.Lists.{Contains-flat_map, Contains-flat_map_cases, Contains-map, Contains-map_cases}
use Rattle.std.specs.List.Sorted.{IsPermutation}

module _ {T : Type 0} (node : T → Node) (E : List T) where
  -- a digest is among the sorted names exactly if an entry names it
  named_as : (named : List (List ℕ)) (d : List ℕ) → IsPermutation (flat_map (λ e. (node e).names) E) named →
      Contains named d ↔ IsNamedIn node E d
  named_as named d moved =
      let names = flat_map (λ (e : T). (node e).names) E in (
        λ h. Contains-flat_map_cases (λ e. (node e).names) E d
            (Contains-permutation named names d (IsPermutation-sym names named moved) h),
        λ (e, among, names_d). Contains-permutation names named d moved
            (Contains-flat_map (λ e. (node e).names) E e d among names_d),
      )

  -- a digest is among the sorted digests exactly if an entry has it
  borne_as : (borne : List (List ℕ)) (d : List ℕ) → IsPermutation (map (λ e. (node e).digest) E) borne →
      Contains borne d ↔ IsBorneIn node E d
  borne_as borne d moved =
      let digests = map (λ (e : T). (node e).digest) E in (
        λ h. Contains-map_cases (λ e. (node e).digest) E d
            (Contains-permutation borne digests d (IsPermutation-sym digests borne moved) h),
        λ (e, among, bears_d). Contains-permutation digests borne d moved
            (rw bears_d at (Contains-map (λ e. (node e).digest) E e among)),
      )

  -- the named digests that no entry has, each once and ascending, are the gaps
  pub gaps_from : (named borne found : List (List ℕ)) → GapsAreUnique node →
      IsPermutation (flat_map (λ e. (node e).names) E) named → IsPermutation (map (λ e. (node e).digest) E) borne →
      IsWithout named borne found → found ≡ gaps node E
  gaps_from named borne found unique moved moved_digests without =
      (unique E found).1 (record {
        rises = without.rises;
        members = λ x.
            let names = named_as named x moved in
            let digests = borne_as borne x moved_digests in (
              (λ h. let (there, missing) = (without.members x).0 h in (names.0 there, λ b. missing (digests.1 b))),
              (λ (n, lost). (without.members x).1 (names.1 n, λ b. lost (digests.0 b))),
            );
      })
