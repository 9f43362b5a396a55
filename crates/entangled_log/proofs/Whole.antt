-- What the frontier answers of the events is so of the entries held.
use Rattle.entangled_log.proofs.Imports.{◌≡◌, ℕ, Bool, true, false, List, sym, ap, ◌∙◌, refl, subst, ◌↔◌, not}
use Rattle.entangled_log.proofs.Imports.{option_map, slice_get, IsTrue, Contains, not-true, not_from_false}
use Rattle.entangled_log.proofs.Imports.{true≢false, false_from_ne_true, same_Some, Event, Node, entry_of, held}
use Rattle.entangled_log.proofs.Imports.{IsBorneIn, has_digest, has_digest_held, Contains-map, Contains-map_cases}
use Rattle.entangled_log.proofs.Imports.{has_digest_of, has_digest_from, member_at, IsBorneAt, NamesUnborne}
use Rattle.entangled_log.proofs.Imports.{lacks_decides, lacks_some, NamesOnlyHeld}
use Rattle.std.specs.Prelude.{Some}

module _ {T : Type 0} (node : T → Node) where
  -- a test that finds a name that no entry has decides, negated, whether only held entries are
  -- named
  names_only_held : (es : List T) (b : Bool) → (IsTrue b ↔ NamesUnborne node es) →
      IsTrue (not b) ↔ NamesOnlyHeld node es
  names_only_held es b finds = (
    λ t e d c n. by t e d c n (has_digest node es d) refl,
    λ whole. not_from_false b (false_from_ne_true b
        (λ t. let (d, (e, held, named), unborne) = finds.0 t in unborne (whole e d held named))),
  )
    where
      by : IsTrue (not b) → (e : T) (d : List ℕ) → Contains es e → Contains (node e).names d → (held : Bool) →
          has_digest node es d ≡ held → IsBorneIn node es d
      by t e d c n true is = has_digest_from node es d is
      by t e d c n false is =
          let found = finds.1 (d, (e, c, n), λ borne. true≢false (sym (has_digest_of node es d borne) ∙ is)) in
          absurd (true≢false (sym found ∙ not-true b t))

  -- whether only what is held is named
  pub whole_or_not : (es : List T) → (b : Bool) × (IsTrue b ↔ NamesOnlyHeld node es)
  whole_or_not es = (not (lacks_some node es), names_only_held es (lacks_some node es) (lacks_decides node es))

module _ {T : Type 0} (node : T → Node) (h : List (Event T)) where
  -- the events and their entries have the same digests
  borne_held : (d : List ℕ) → IsBorneIn (λ x. node (entry_of x)) h d ↔ IsBorneIn node (held h) d
  borne_held d = (
    λ (x, c, is). (entry_of x, Contains-map entry_of h x c, is),
    λ (e, c, is).
        let (x, at, same) = Contains-map_cases entry_of h e c in (x, at, ap (λ (u : T). (node u).digest) same ∙ is),
  )

  -- what the table of digests answers of the events
  pub holds_entries : (d : List ℕ) (b : Bool) → b ≡ has_digest (λ x. node (entry_of x)) h d →
      IsTrue b ↔ IsBorneIn node (held h) d
  holds_entries d b is =
      let same = is ∙ has_digest_held node h d in
      (λ t. has_digest_from node (held h) d (sym same ∙ t), λ borne. same ∙ has_digest_of node (held h) d borne)

  -- what the table of names answers of the events
  pub whole_entries : (b : Bool) → (IsTrue b ↔ NamesUnborne (λ x. node (entry_of x)) h) →
      IsTrue (not b) ↔ NamesOnlyHeld node (held h)
  whole_entries b finds =
      let events = names_only_held (λ x. node (entry_of x)) h b finds in (
        λ t e d c n.
            let (x, there, same) = Contains-map_cases entry_of h e c in
            (borne_held d).0 (events.0 t x d there (subst (λ (u : T). Contains (node u).names d) (sym same) n)),
        λ whole. events.1 (λ x d c n. (borne_held d).1 (whole (entry_of x) d (Contains-map entry_of h x c) n)),
      )

  -- the entry at a place where an event has a digest is held, and has the digest
  pub borne_at : (d : List ℕ) (p : ℕ) (e : T) → IsBorneAt (λ x. node (entry_of x)) h d p →
      option_map entry_of (slice_get h p) ≡ Some e → Contains (held h) e × ((node e).digest ≡ d)
  borne_at d p e (x, there, same) told =
      let is : entry_of x ≡ e = same_Some (entry_of x) e (sym (ap (option_map entry_of) there) ∙ told) in (
        subst (λ (u : T). Contains (held h) u) is (Contains-map entry_of h x (member_at h p x there)),
        ap (λ (u : T). (node u).digest) (sym is) ∙ same,
      )

  -- none of the entries has a digest that no event has
  pub none_bears : (d : List ℕ) → has_digest (λ x. node (entry_of x)) h d ≡ false → ¬ (IsBorneIn node (held h) d)
  none_bears d none borne = true≢false (sym ((holds_entries d false (sym none)).1 borne))
