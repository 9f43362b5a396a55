-- Readers that read exactly what is spelt and lawful.
use Rattle.rule_language.proofs.Imports.{[], ap, Bool, bytes_eq, false, get_or, give, has_good_bytes, if◌then◌else◌}
use Rattle.rule_language.proofs.Imports.{inl, inr, List, next, Ok, only, Read, refl, Result, right, Row, RuleFault}
use Rattle.rule_language.proofs.Imports.{RuleWhy, sym, Token, token_then, true, words, ℕ, ◌∙◌, ◌∷◌, ◌≡◌, ◌⊎◌}
use Rattle.rule_language.specs.Steps.{follow, found_at, if_next}
use Rattle.std.proofs.lemmas.Slice.Eq.{bytes_eq-Decides}
use Rattle.std.specs.Prelude.{Err}
unfoldable use Rattle.rule_language.specs.Steps.{take, in_turn, after, closed, made_into}

-- what is said of an answer, if it is a value
pub data Gives {A : Type 0} (P : A → Row → Type 0) : Result (A × Row) RuleFault → Type 0 where
  gives : {a : A} {rest : Row} → P a rest → Gives P (Ok (a, rest))
  fails : {fault : RuleFault} → Gives P (Err fault)

-- and then of the answer that follows it
pub then_gives : {A B : Type 0} {P : A → Row → Type 0} {Q : B → Row → Type 0} {read : Result (A × Row) RuleFault}
    {f : A → Row → Result (B × Row) RuleFault} → Gives P read →
    ((a : A) (rest : Row) → P a rest → Gives Q (f a rest)) → Gives Q (follow read f)
then_gives (gives is) more = more _ _ is
then_gives fails more = fails

-- what is said may be weakened
pub weaker : {A : Type 0} {P Q : A → Row → Type 0} {read : Result (A × Row) RuleFault} → Gives P read →
    ((a : A) (rest : Row) → P a rest → Q a rest) → Gives Q read
weaker (gives is) more = gives (more _ _ is)
weaker fails more = fails

-- what is said of a value holds of it
pub gave : {A : Type 0} {P : A → Row → Type 0} {a : A} {rest : Row} → Gives P (Ok (a, rest)) → P a rest
gave (gives is) = is

-- the same of one token
pub data Fine {A : Type 0} (P : A → Type 0) : Result A RuleWhy → Type 0 where
  good : {a : A} → P a → Fine P (Ok a)
  bad : {why : RuleWhy} → Fine P (Err why)

-- what holds of both is so whatever a test says
pub if_cases : {X : Type 0} (P : X → Type 0) (b : Bool) (x y : X) → (b ≡ true → P x) → (b ≡ false → P y) →
    P (if b then x else y)
if_cases P true x y holds other = holds refl
if_cases P false x y holds other = other refl

-- words with equal bytes are the same
pub bytes_same : (xs ys : List ℕ) → bytes_eq xs ys ≡ true → xs ≡ ys
bytes_same xs ys e = (bytes_eq-Decides xs ys).0 e

-- a lawful thing was read: the tokens that spell it were taken
abbrev pub Took : {A : Type 0} → (A → List Token → List Token) → (A → Type 0) → Row → A → Row → Type 0
Took spell Lawful row a rest = (words row ≡ spell a (words rest)) × Lawful a
    × (has_good_bytes row ≡ has_good_bytes rest)

-- it is read, and these words are left
abbrev pub Lands : {A : Type 0} → A → List Token → Result (A × Row) RuleFault → Type 0
Lands a following found = (rest : Row) × (found ≡ Ok (a, rest)) × (words rest ≡ following)

-- what was read is spelt by the tokens that were taken and is lawful; and what is spelt so is read,
-- whatever follows
pub record IsExact {A : Type 0} (read : Read A) (spell : A → List Token → List Token) (Lawful : A → Type 0)
    : Type 0 where
  pub said : (row : Row) → Gives (Took spell Lawful row) (read row)
  pub back : (row : Row) (a : A) (following : List Token) → words row ≡ spell a following → Lawful a →
      Lands a following (read row)

-- so does a reader that answers the same
pub alike : {A : Type 0} {read other : Read A} {s : A → List Token → List Token} {L : A → Type 0} →
    ((row : Row) → read row ≡ other row) → IsExact other s L → IsExact read s L
alike same exact = record {
  said = λ row. rw (same row) (exact.said row);
  back = λ row a following is lawful. rw (same row) (exact.back row a following is lawful);
}

-- one token
pub take_exact : {A : Type 0} (found : Token → Result A RuleWhy) (spell : A → Token) (Lawful : A → Type 0) →
    ((w : Token) → Fine (λ a. (w ≡ spell a) × Lawful a) (found w)) →
    ((a : A) → Lawful a → found (spell a) ≡ Ok a) → IsExact (take found) (λ a following. spell a ∷ following) Lawful
unfolding take
take_exact {A = A} found spell Lawful said back = record { said = taken; back = goes }
  where
    Takes : Row → A → Row → Type 0
    Takes = Took (λ a following. spell a ∷ following) Lawful

    here : (at : ℕ) (w : Token) (rest : Row) (f : Result A RuleWhy) → Fine (λ a. (w ≡ spell a) × Lawful a) f →
        Gives (Takes (token_then at w rest)) (found_at at rest f)
    here at w rest f (good (spelt, lawful)) = gives (ap (λ v. v ∷ words rest) spelt, lawful, refl)
    here at w rest f bad = fails

    taken : (row : Row) → Gives (Takes row) (take found row)
    taken (token_then at w rest) = here at w rest (found w) (said w)
    taken row = fails

    goes : (row : Row) (a : A) (following : List Token) → words row ≡ spell a ∷ following → Lawful a →
        Lands a following (take found row)
    goes (token_then at w rest) a following is lawful =
        let same : w ≡ spell a = cc in (rest, rw (same, back a lawful) refl, cc)
    goes row a following is lawful = cc is

-- the only word that is allowed
pub only_exact : (wanted : Token) → IsExact (take (only wanted)) (λ it following. wanted ∷ following) (λ it. Unit {0})
only_exact wanted = take_exact (only wanted) (λ it. wanted) (λ it. Unit {0})
    (λ w. if_cases (Fine (λ it. (w ≡ wanted) × Unit {0})) _ _ _ (λ is. good (bytes_same w wanted is, tt))
    (λ other. bad))
    (λ it lawful. rw ((bytes_eq-Decides wanted wanted).1 refl) refl)

-- no token, where one thing is given
pub give_exact : {A : Type 0} (a : A) → IsExact (give a) (λ it following. following) (λ it. it ≡ a)
give_exact a = record {
  said = λ row. gives (refl, refl, refl);
  back = λ row it following is same. (row, ap (λ a. Ok (a, row)) (sym same), is);
}

-- one thing and then another, of which a third is made
pub join_exact : {A B C : Type 0} {first : Read A} {second : A → Read B} {s : A → List Token → List Token}
    {t : A → B → List Token → List Token} {L : A → Type 0} {M : A → B → Type 0} (make : A → B → C)
    (spell : C → List Token → List Token) (Lawful : C → Type 0) → IsExact first s L →
    ((a : A) → IsExact (second a) (t a) (M a)) →
    ((a : A) (b : B) → L a → M a b → ((ws : List Token) → s a (t a b ws) ≡ spell (make a b) ws) × Lawful (make a b)) →
    ((c : C) → Lawful c → (a : A) × (b : B) × (make a b ≡ c) × L a × M a b) →
    IsExact (λ row. follow (first row) (λ a r. follow (second a r) (λ b q. Ok (make a b, q)))) spell Lawful
join_exact {s = s} make spell Lawful one two forth apart = record {
  said = λ row. then_gives (one.said row) (λ a r (x, l, whole). then_gives ((two a).said r) (λ b q (y, m, whole_too).
      let (spells, lawful) = forth a b l m in gives (x ∙ ap (s a) y ∙ spells (words q), lawful, whole ∙ whole_too)));
  back = λ row c following is lawful.
      let (a, b, same, l, m) = apart c lawful in
      let spells = (forth a b l m).0 following in
      let (r, x, left) = one.back row a _ (is ∙ ap (λ c. spell c following) (sym same) ∙ sym spells) l in
      let (rest, y, end) = (two a).back r b following left m in
      (rest, rw (x, y) (ap (λ c. Ok (c, rest)) same), end);
}

-- one thing, and then a reader by it
pub bind_exact : {A C : Type 0} {first : Read A} {second : A → Read C} {s : A → List Token → List Token}
    {t : A → C → List Token → List Token} {L : A → Type 0} {M : A → C → Type 0} (spell : C → List Token → List Token)
    (Lawful : C → Type 0) → IsExact first s L → ((a : A) → IsExact (second a) (t a) (M a)) →
    ((a : A) (c : C) → L a → M a c → ((ws : List Token) → s a (t a c ws) ≡ spell c ws) × Lawful c) →
    ((c : C) → Lawful c → (a : A) × L a × M a c) → IsExact (λ row. follow (first row) second) spell Lawful
bind_exact {s = s} spell Lawful one two forth apart = record {
  said = λ row. then_gives (one.said row) (λ a r (x, l, whole). weaker ((two a).said r) (λ c q (y, m, whole_too).
      let (spells, lawful) = forth a c l m in (x ∙ ap (s a) y ∙ spells (words q), lawful, whole ∙ whole_too)));
  back = λ row c following is lawful.
      let (a, l, m) = apart c lawful in
      let (r, x, left) = one.back row a _ (is ∙ sym ((forth a c l m).0 following)) l in
      let (rest, y, end) = (two a).back r c following left m in
      (rest, rw (x, y) refl, end);
}

-- one thing and then another
pub both_exact : {A B : Type 0} {first : Read A} {second : A → Read B} {s : A → List Token → List Token}
    {t : A → B → List Token → List Token} {L : A → Type 0} {M : A → B → Type 0} → IsExact first s L →
    ((a : A) → IsExact (second a) (t a) (M a)) →
    IsExact (in_turn first second) (λ p following. s p.0 (t p.0 p.1 following)) (λ p. L p.0 × M p.0 p.1)
unfolding in_turn
both_exact one two =
    join_exact (λ a b. (a, b)) _ _ one two (λ a b l m. (λ ws. refl, (l, m))) (λ p (l, m). (p.0, p.1, refl, l, m))

-- a thing and the parenthesis that ends it
pub closed_exact : {A : Type 0} {read : Read A} {s : A → List Token → List Token} {L : A → Type 0} →
    IsExact read s L → IsExact (closed read) (λ a following. s a (right ∷ following)) L
unfolding closed
closed_exact exact = join_exact (λ a it. a) _ _ exact (λ a. only_exact right) (λ a it l m. (λ ws. refl, l))
    (λ a l. (a, tt, refl, l, tt))

-- a word and then a thing
pub after_exact : {A : Type 0} (word : Token) {read : Read A} {s : A → List Token → List Token} {L : A → Type 0} →
    IsExact read s L → IsExact (after word read) (λ a following. word ∷ s a following) L
unfolding after
after_exact word exact = bind_exact _ _ (only_exact word) (λ it. exact) (λ it a l m. (λ ws. refl, m))
    (λ a l. (tt, tt, l))

-- what is made of a thing
pub made_exact : {A B : Type 0} {read : Read A} {s : A → List Token → List Token} {L : A → Type 0} (make : A → B)
    (spell : B → List Token → List Token) (Lawful : B → Type 0) → IsExact read s L →
    ((a : A) → L a → ((ws : List Token) → s a ws ≡ spell (make a) ws) × Lawful (make a)) →
    ((b : B) → Lawful b → (a : A) × (make a ≡ b) × L a) → IsExact (made_into make read) spell Lawful
unfolding made_into
made_exact make spell Lawful exact forth apart = join_exact (λ a it. make a) spell Lawful exact
    (λ a. give_exact {A = Unit {0}} tt) (λ a it l m. forth a l)
    (λ b l. let (a, same, lawful) = apart b l in (a, tt, same, lawful, refl))

-- the next word is the first
pub next_is : (row : Row) → next row ≡ get_or (words row) 0 []
next_is (token_then at w rest) = refl
next_is row = refl

-- one thing where the next word is the wanted one, and another where it isn't
pub if_next_exact : {A : Type 0} (wanted : Token) {one other : Read A} {s t spell : A → List Token → List Token}
    {L M Lawful : A → Type 0} → IsExact one s L → IsExact other t M →
    ((a : A) → L a → ((ws : List Token) → s a ws ≡ spell a ws) × Lawful a) →
    ((a : A) → M a → ((ws : List Token) → t a ws ≡ spell a ws) × Lawful a) →
    ((a : A) (ws : List Token) → Lawful a → L a × (bytes_eq (get_or (spell a ws) 0 []) wanted ≡ true)
    ⊎ M a × (bytes_eq (get_or (spell a ws) 0 []) wanted ≡ false)) → IsExact (if_next wanted one other) spell Lawful
if_next_exact wanted {one = one} {other = other} {spell = spell} {Lawful = Lawful} first second forth forth_too apart =
    record {
      said = λ row. if_cases (Gives (Took spell Lawful row)) _ _ _
          (λ ends. weaker (first.said row) (λ a r (x, l, whole). let (spells, lawful) = forth a l in
          (x ∙ spells (words r), lawful, whole)))
          (λ goes. weaker (second.said row) (λ a r (x, m, whole). let (spells, lawful) = forth_too a m in
          (x ∙ spells (words r), lawful, whole)));
      back = λ row a following is lawful. elim (apart a following lawful) [
        | inl (l, ends) ↦ rw (next_is row, is, ends) (first.back row a following (is ∙ sym ((forth a l).0 following)) l)
        | inr (m, goes) ↦
            rw (next_is row, is, goes) (second.back row a following (is ∙ sym ((forth_too a m).0 following)) m)
      ];
    }

-- what follows a choice follows what was chosen
pub turned : {A B : Type 0} (b : Bool) (one other : Result (A × Row) RuleFault)
    (f : A → Row → Result (B × Row) RuleFault) →
    follow (if b then one else other) f ≡ (if b then follow one f else follow other f)
turned true one other f = refl
turned false one other f = refl
