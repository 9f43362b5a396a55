-- A booth casts over a log with a gap: it never heard of the override that precedes its ballot.
use Rattle.counterexamples.proofs.Imports.{opened_decides, closed_decides, ends_decides, activates_decides}
use Rattle.counterexamples.proofs.Imports.{overrides_decides, commits_decides, overrides_by_decides, ◌≡◌, ℕ, zero, suc}
use Rattle.counterexamples.proofs.Imports.{List, [], ◌∷◌, map, inl, inr, refl, arith, Deed, node_of_sealed, SealedEntry}
use Rattle.counterexamples.proofs.Imports.{Step, Act, Hear, Precedes, World, history, sent_in, Post, Supervisor, Booth}
use Rattle.counterexamples.proofs.Imports.{LogNotWhole, BoothNot, NamesOnlyHeld, v2_body, Holds, row_of, IsHonestBut}
use Rattle.counterexamples.proofs.Imports.{FailsAtSome}
use Rattle.counterexamples.proofs.NotHeld.{may_authorise, no_any, no_own, none_borne}
use Rattle.counterexamples.proofs.SmallPlaces.{EachSent, May, fails_but, machine, made, place}
use Rattle.entry_format.specs.declared.deed.Deed.TheVariants as deed
use Rattle.entry_format.specs.declared.deed.How.TheVariants as how

-- a supervisor and two booths
abbrev posts : List Post
posts = machine Supervisor ∷ machine Booth ∷ machine Booth ∷ []

-- the supervisor overrides the session of the first booth, and authorises the second
abbrev deeds : List (List Deed)
deeds =
    (deed.Opened ∷ deed.Authorise 1 7 ∷ deed.Override 7 how.Cancel ∷ deed.Authorise 2 8 ∷ [])
    ∷ (deed.Activate 7 ∷ deed.Commit 7 [] ∷ deed.Cast 7 [] ∷ []) ∷ [] ∷ []

-- of which the first booth hears the last alone
abbrev steps : List Step
steps =
    Act 0 ∷ Act 0 ∷ Act 0 ∷ Act 0 ∷ Hear 1 0 0 ∷ Hear 1 0 1 ∷ Act 1 ∷ Act 1 ∷ Hear 1 0 3 ∷ Act 1 ∷ []

-- what they come to
abbrev w : World SealedEntry
w = place deeds steps

-- what the supervisor sends
abbrev opened : SealedEntry
opened = made deeds 0 0 1 []

-- the authorising of the first booth
abbrev authorised : SealedEntry
authorised = made deeds 0 1 2 (opened.digest ∷ [])

-- the override of its session
abbrev overridden : SealedEntry
overridden = made deeds 0 2 3 (authorised.digest ∷ [])

-- the authorising of the second booth
abbrev also_authorised : SealedEntry
also_authorised = made deeds 0 3 4 (overridden.digest ∷ [])

-- what the booth sends
abbrev activated : SealedEntry
activated = made deeds 1 0 3 (authorised.digest ∷ [])

-- its commitment to a ballot
abbrev committed : SealedEntry
committed = made deeds 1 1 4 (activated.digest ∷ [])

-- and the ballot that it casts
abbrev cast : SealedEntry
cast = made deeds 1 2 5 (also_authorised.digest ∷ committed.digest ∷ [])

-- the supervisor's
supervisor_allowed : EachSent (May (BoothNot LogNotWhole) posts 0) [] (history w 0)
supervisor_allowed =
    let two = opened.entry ∷ authorised.entry ∷ [] in
    let three = opened.entry ∷ authorised.entry ∷ overridden.entry ∷ [] in (
      (refl, inl (inr (no_own opened_decides 0 [] refl, refl))),
      (
        (refl, inl (may_authorise 1 7 0 (opened.entry ∷ []) refl refl refl refl)),
        (
          (
            refl,
            inl (inr (
              λ unused. unused (1, authorised.entry, omega arith, refl, (refl, (1, refl))),
              inr (
                no_any (ends_decides 7) two refl,
                inr (
                  no_own (overrides_by_decides 7 how.Cast) 0 two refl,
                  inr (λ other. let says : how.Cancel ≡ how.Cast = other.0 in cc, refl),
                ),
              ),
            )),
          ),
          ((refl, inl (may_authorise 2 8 0 three refl refl refl refl)), tt),
        ),
      ),
    )

-- what the booth holds when it casts
abbrev held_by_booth : List SealedEntry
held_by_booth = opened ∷ authorised ∷ activated ∷ committed ∷ also_authorised ∷ []

-- it isn't whole: the last names the override
has_gap : NamesOnlyHeld node_of_sealed held_by_booth → ⊥
has_gap whole =
    none_borne held_by_booth overridden.digest refl
    (whole also_authorised overridden.digest (4, omega arith, refl) (0, omega arith, refl))

-- the booth's
booth_allowed : EachSent (May (BoothNot LogNotWhole) posts 1) [] (history w 1)
booth_allowed =
    let two = opened.entry ∷ authorised.entry ∷ [] in
    let three = opened.entry ∷ authorised.entry ∷ activated.entry ∷ [] in
    let five = map (λ (sealed : SealedEntry). sealed.entry) held_by_booth in (
      (
        refl,
        inl (inr (
          λ unnamed. unnamed (1, authorised.entry, omega arith, refl, refl),
          inr (
            no_own (ends_decides 7) 1 two refl,
            inr (
              no_own (activates_decides 7) 1 two refl,
              inr (no_any (overrides_decides 7) two refl, inr (no_any closed_decides two refl, refl)),
            ),
          ),
        )),
      ),
      (
        (
          refl,
          inl (inr (
            λ inactive. inactive (2, activated.entry, omega arith, refl, (refl, refl)),
            inr (
              no_own (ends_decides 7) 1 three refl,
              inr (
                no_own (commits_decides 7) 1 three refl,
                inr (no_any (overrides_decides 7) three refl, inr (no_any closed_decides three refl, refl)),
              ),
            ),
          )),
        ),
        (
          (
            refl,
            inr (inr (
              λ unbound. unbound (3, committed.entry, omega arith, refl, (refl, refl)),
              inr (
                no_own (ends_decides 7) 1 five refl,
                inr (
                  no_any (overrides_by_decides 7 how.Cancel) five refl,
                  inr (no_any closed_decides five refl, inl (has_gap, refl)),
                ),
              ),
            )),
          ),
          tt,
        ),
      ),
    )

-- so each machine sends what it may, but for that ballot
allowed : (m : ℕ) → EachSent (May (BoothNot LogNotWhole) posts m) [] (history w m)
allowed zero = supervisor_allowed
allowed (suc zero) = booth_allowed
allowed (suc (suc zero)) = tt
allowed (suc (suc (suc m))) = tt

-- the override precedes the ballot
before : Precedes node_of_sealed (sent_in w) overridden cast
before = (
  (2, omega arith, refl),
  (6, omega arith, refl),
  also_authorised ∷ [],
  ((3, omega arith, refl), (0, omega arith, refl), (0, omega arith, refl)),
)

-- the ballot follows an override, which the rule forbids
fails : ¬ (Holds node_of_sealed (row_of posts) (sent_in w) (sent_in w) v2_body)
fails holds = holds cast (6, omega arith, refl) refl (overridden, refl, before, refl)

-- a booth that casts over a log that isn't whole can break the rule on overrides
pub casting_over_gaps_fails : FailsAtSome (IsHonestBut (BoothNot LogNotWhole)) v2_body
casting_over_gaps_fails = fails_but (BoothNot LogNotWhole) v2_body posts deeds steps refl allowed fails
